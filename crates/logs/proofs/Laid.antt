-- Pages in a ring: what they hold, one page more, and fewer.
use Rattle.std.specs.Prelude.{◌≡◌, ℕ, ◌+◌, ◌-◌, ◌*◌, ◌<◌, ◌≤◌, min, true, leb, List, [], ◌∷◌, ◌++◌, length, get_or, take, drop, Some, nat_le, slice_index_or}
use Rattle.std.proofs.Math.Path.{sym, ap}
use Rattle.std.proofs.Common.{◌∙◌, arith}
use Rattle.std.proofs.lemmas.List.{length_push, length-drop, length-take-le, take_all, get_or_default}
use Rattle.std.proofs.lemmas.Bool.{leb-true}
use Rattle.words.specs.Bits.{count_of}
use Rattle.logs.specs.declared.ring.Ring.{Ring}
use Rattle.logs.specs.declared.pages.Pages.{Pages}
use Rattle.logs.specs.LogModel.{Entry, limit, an_entry, a_holding, cost, total_cost, last_held, loggable, all_loggable, fits, can_append, appended, held_above}
use Rattle.logs.specs.RingModel.{ring_items, ring_size}
use Rattle.logs.specs.PageWords.{page_words, pages_words, begins, entries_in}
use Rattle.logs.specs.PagesModel.{pages_entries, pages_held, Located}
use Rattle.logs.proofs.Holding.{entry_some, append_parts, append_taken, above_more}
use Rattle.logs.proofs.Loggable.{loggable_push, loggable_drop, loggable_take, loggable_at}
use Rattle.logs.specs.HolderBounds.{pages_long, pages_last, pages_cost}
use Rattle.logs.proofs.PageLaws.{page_inside, count_read, pages_back, pages_push, pages_drop, length_begins, begins_push, begins_drop, begins_at, page_at, cost_bound, cost_least, cost_front}

-- words and starts that are laid out as the entries say
module _ (floor removed : ℕ) (ws ss : List ℕ) (es : List Entry) (w : ws ≡ pages_words (floor + 1) es) (s : ss ≡ begins removed es)
    (l : all_loggable es ≡ true) where
  pub reads_back : entries_in (length ss) ws ≡ es
  reads_back =
      ap (λ n. entries_in n ws) (ap length s ∙ length_begins removed es)
      ∙ ap (entries_in (length es)) w
      ∙ pages_back (floor + 1) es l

  pub laid_again : ws ≡ pages_words (floor + 1) (entries_in (length ss) ws)
  laid_again = w ∙ ap (pages_words (floor + 1)) (sym reads_back)

  pub begun_again : ss ≡ begins removed (entries_in (length ss) ws)
  begun_again = s ∙ ap (begins removed) (sym reads_back)

  pub sound_again : all_loggable (entries_in (length ss) ws) ≡ true
  sound_again = ap all_loggable reads_back ∙ l

module _ (p : Pages) where
  pub pages_fits : (n used : ℕ) → used ≡ length (ring_items p.words) → nat_le (used + 3 + 2 * n) (ring_size p.words) ≡ fits (pages_held p) n
  pages_fits n used e =
      let sum : used + 3 + 2 * n ≡ total_cost 3 2 (pages_entries p) + cost 3 2 n = omega (arith, pages_cost p) in
      ap (λ m. leb m (ring_size p.words)) sum

  -- the start of the page at place i
  pub start_at : (i : ℕ) (d : ℕ) → i < length (ring_items p.starts) →
      slice_index_or (ring_items p.starts) i d ≡ p.removed + total_cost 3 2 (take i (pages_entries p))
  start_at i d h =
      ap (λ xs. get_or xs i d) p.begun ∙ begins_at p.removed i (pages_entries p) d (omega (arith, pages_long p))

  -- how many words the first n pages have, from where the next one begins
  pub words_before : (n start : ℕ) → n < length (ring_items p.starts) → start ≡ slice_index_or (ring_items p.starts) n start →
      start ≡ p.removed + total_cost 3 2 (take n (pages_entries p))
  words_before n start h q = q ∙ start_at n start h

  pub words_all : (n : ℕ) → length (ring_items p.starts) ≤ n → length (ring_items p.words) ≡ total_cost 3 2 (take n (pages_entries p))
  words_all n h = sym (pages_cost p) ∙ ap (total_cost 3 2) (sym (take_all n (pages_entries p) (omega (arith, pages_long p))))

  pub words_fewer : (n : ℕ) → total_cost 3 2 (take n (pages_entries p)) ≤ length (ring_items p.words)
  words_fewer n = omega (arith, pages_cost p, cost_front n (pages_entries p))

  pub words_few : (n : ℕ) → n ≤ length (ring_items p.starts) → total_cost 3 2 (take n (pages_entries p)) ≤ 35 * n
  words_few n h =
      omega (
        arith,
        cost_bound (take n (pages_entries p)) (loggable_take n (pages_entries p) p.sound),
        length-take-le n (pages_entries p) (omega (arith, pages_long p)),
      )

  -- the page of a version
  pub located : (v i start : ℕ) → v ≡ p.floor + 1 + i → i < length (ring_items p.starts) → start ≡ slice_index_or (ring_items p.starts) i start →
      Located p v (Some (start - p.removed))
  located v i start q h r =
      let es = pages_entries p in
      let inside : i < length es = omega (arith, pages_long p) in
      let e = get_or es i (an_entry 0 0 []) in
      let same : e ≡ get_or es i e = get_or_default es i (an_entry 0 0 []) e inside in
      let place : start - p.removed ≡ total_cost 3 2 (take i es) = omega (arith, words_before i start h r) in (
        e,
        entry_some (pages_held p) v i e q inside same,
        loggable_at i es (an_entry 0 0 []) inside p.sound,
        ap (λ n. take (length (page_words n e)) (drop (start - p.removed) (ring_items p.words))) q
            ∙ ap (λ n. take (length (page_words (p.floor + 1 + i) e)) (drop n (ring_items p.words))) place
            ∙ ap (λ ws. take (length (page_words (p.floor + 1 + i) e)) (drop (total_cost 3 2 (take i es)) ws)) p.laid
            ∙ page_at (p.floor + 1) i es e inside same
            ∙ ap (λ n. page_words n e) (sym q),
      )

-- an entry that is taken
module _ (p : Pages) (e : Entry) (can : can_append (pages_held p) e ≡ true) where
  pub room_left : length (ring_items p.words) + cost 3 2 (length e.writes) ≤ ring_size p.words
  room_left = omega (arith, leb-true _ _ (append_parts (pages_held p) e can).1, pages_cost p)

  pub starts_left : length (ring_items p.starts) < ring_size p.starts
  starts_left = omega (arith, room_left, p.indexed, pages_cost p, pages_long p, cost_least (pages_entries p))

  pub version_left : last_held (pages_held p) + 1 ≤ limit
  version_left = omega (arith, (append_parts (pages_held p) e can).2)

  pub is_loggable : loggable e ≡ true
  is_loggable = (append_parts (pages_held p) e can).0

  -- its page and the start of that are there
  module _ (version start : ℕ) (v : version ≡ last_held (pages_held p) + 1) (s : start ≡ p.removed + length (ring_items p.words))
      (words : Ring ℕ) (starts : Ring ℕ) (ws : ring_items words ≡ ring_items p.words ++ page_words version e)
      (ss : ring_items starts ≡ ring_items p.starts ++ (start ∷ [])) (size : ring_size words ≡ ring_size p.words) where
    grown : List Entry
    grown = pages_entries p ++ (e ∷ [])

    words_grown : ring_items words ≡ pages_words (p.floor + 1) grown
    unfolding grown
    words_grown =
        let n : version ≡ p.floor + 1 + length (pages_entries p) = omega (arith, v) in
        ws ∙ ap (λ xs. xs ++ page_words version e) p.laid
        ∙ ap (λ k. pages_words (p.floor + 1) (pages_entries p) ++ page_words k e) n
        ∙ sym (pages_push (p.floor + 1) (pages_entries p) e)

    starts_grown : ring_items starts ≡ begins p.removed grown
    unfolding grown
    starts_grown =
        ss ∙ ap (λ xs. xs ++ (start ∷ [])) p.begun
        ∙ ap (λ k. begins p.removed (pages_entries p) ++ (k ∷ [])) (s ∙ ap (λ k. p.removed + k) (sym (pages_cost p)))
        ∙ sym (begins_push p.removed (pages_entries p) e)

    sound_grown : all_loggable grown ≡ true
    unfolding grown
    sound_grown = loggable_push (pages_entries p) e p.sound is_loggable

    pub grown_high : p.floor + length (ring_items starts) ≤ limit
    grown_high = omega (arith, ap length ss, length_push (ring_items p.starts) start, version_left, pages_last p)

    pub grown_laid : ring_items words ≡ pages_words (p.floor + 1) (entries_in (length (ring_items starts)) (ring_items words))
    grown_laid = laid_again p.floor p.removed (ring_items words) (ring_items starts) grown words_grown starts_grown sound_grown

    pub grown_begun : ring_items starts ≡ begins p.removed (entries_in (length (ring_items starts)) (ring_items words))
    grown_begun = begun_again p.floor p.removed (ring_items words) (ring_items starts) grown words_grown starts_grown sound_grown

    pub grown_sound : all_loggable (entries_in (length (ring_items starts)) (ring_items words)) ≡ true
    grown_sound = sound_again p.floor p.removed (ring_items words) (ring_items starts) grown words_grown starts_grown sound_grown

    pub grown_held : a_holding p.floor (entries_in (length (ring_items starts)) (ring_items words)) (ring_size words) 3 2 ≡ appended (pages_held p) e
    unfolding grown
    grown_held =
        ap (λ es. a_holding p.floor es (ring_size words) 3 2) (reads_back p.floor p.removed (ring_items words) (ring_items starts) grown words_grown starts_grown sound_grown)
        ∙ ap (λ n. a_holding p.floor (pages_entries p ++ (e ∷ [])) n 3 2) size
        ∙ sym (append_taken (pages_held p) e can)

-- without the pages up to version b, the smaller of v and the last version: n of them, of so many words
module _ (p : Pages) (v b n gone : ℕ) (bound : b ≡ min v (last_held (pages_held p))) (above : p.floor < b) (count : n ≡ b - p.floor)
    (cost-gone : gone ≡ total_cost 3 2 (take n (pages_entries p)))
    (words : Ring ℕ) (starts : Ring ℕ) (ws : ring_items words ≡ drop gone (ring_items p.words))
    (ss : ring_items starts ≡ drop n (ring_items p.starts)) (size : ring_size words ≡ ring_size p.words) where
  words_left : ring_items words ≡ pages_words (b + 1) (drop n (pages_entries p))
  words_left =
      let k : p.floor + 1 + n ≡ b + 1 = omega arith in
      ws ∙ ap (drop gone) p.laid
      ∙ ap (λ m. drop m (pages_words (p.floor + 1) (pages_entries p))) cost-gone
      ∙ pages_drop n (p.floor + 1) (pages_entries p)
      ∙ ap (λ m. pages_words m (drop n (pages_entries p))) k

  starts_kept : ring_items starts ≡ begins (p.removed + gone) (drop n (pages_entries p))
  starts_kept =
      ss ∙ ap (drop n) p.begun
      ∙ begins_drop n p.removed (pages_entries p)
      ∙ ap (λ m. begins (p.removed + m) (drop n (pages_entries p))) (sym cost-gone)

  sound_kept : all_loggable (drop n (pages_entries p)) ≡ true
  sound_kept = loggable_drop n (pages_entries p) p.sound

  pub kept_high : b + length (ring_items starts) ≤ limit
  kept_high = omega (arith, ap length ss, length-drop n (ring_items p.starts), p.high, pages_last p)

  pub kept_near : p.removed + gone ≤ 35 * b
  kept_near = omega (arith, p.near, words_few p n (omega (arith, pages_last p)))

  pub kept_laid : ring_items words ≡ pages_words (b + 1) (entries_in (length (ring_items starts)) (ring_items words))
  kept_laid = laid_again b (p.removed + gone) (ring_items words) (ring_items starts) (drop n (pages_entries p)) words_left starts_kept sound_kept

  pub kept_begun : ring_items starts ≡ begins (p.removed + gone) (entries_in (length (ring_items starts)) (ring_items words))
  kept_begun = begun_again b (p.removed + gone) (ring_items words) (ring_items starts) (drop n (pages_entries p)) words_left starts_kept sound_kept

  pub kept_sound : all_loggable (entries_in (length (ring_items starts)) (ring_items words)) ≡ true
  kept_sound = sound_again b (p.removed + gone) (ring_items words) (ring_items starts) (drop n (pages_entries p)) words_left starts_kept sound_kept

  pub kept_held : a_holding b (entries_in (length (ring_items starts)) (ring_items words)) (ring_size words) 3 2 ≡ held_above (pages_held p) v
  kept_held =
      ap (λ es. a_holding b es (ring_size words) 3 2)
      (reads_back b (p.removed + gone) (ring_items words) (ring_items starts) (drop n (pages_entries p)) words_left starts_kept sound_kept)
      ∙ ap (λ m. a_holding b (drop n (pages_entries p)) m 3 2) size
      ∙ ap (λ m. a_holding b (drop m (pages_entries p)) (ring_size p.words) 3 2) count
      ∙ above_more (pages_held p) v b bound above

-- what is read of the page of a version, which begins at place n among the words
module _ (p : Pages) (v n : ℕ) (f : Located p v (Some n)) where
  pub read_inside : n + (3 + 2 * length f.0.writes) ≤ length (ring_items p.words)
  read_inside = page_inside (ring_items p.words) n v f.0 f.2 f.3

  pub read_count : (x : ℕ) → x ≡ slice_index_or (ring_items p.words) n x → count_of x ≡ length f.0.writes
  read_count = count_read (ring_items p.words) n v f.0 f.2 f.3
