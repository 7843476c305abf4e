-- The words of pages: their number, where each page begins, and what they read as.
use Rattle.std.specs.Prelude.{◌≡◌, ℕ, zero, suc, ◌+◌, ◌-◌, ◌*◌, ◌<◌, ◌≤◌, true, cond, List, [], ◌∷◌, ◌++◌, length, get_or, take, drop, ℤ, pos, negsuc, Some, None, ◌==◌, slice_index_or, refl}
use Rattle.std.proofs.Common.{sym, ap, ◌∙◌, arith}
use Rattle.std.specs.List.{slice_get}
use Rattle.std.specs.Option.{option_map}
use Rattle.std.proofs.lemmas.List.{append_assoc, append-nil, length-take, length-drop, take_at, drop_at, drop_more, drop-drop, get_or-take, get_or-drop, get_or_default}
use Rattle.std.proofs.lemmas.Option.{slice_get-get_or}
use Rattle.std.proofs.lemmas.Bool.{and_parts, ltb-true, le-ltb, eq-eqb}
use Rattle.words.specs.declared.changes.Change.{Change}
use Rattle.words.specs.declared.changes.Change.TheVariants.{Set, Remove}
use Rattle.words.specs.declared.changes.Write.{Write}
use Rattle.words.specs.Bits.{kind_of, load_of, word, value_of, value_load, value_fits, site_of, count_of, head}
use Rattle.words.specs.Writes.{a_write, change_of, write_of, and_then, leading, change_word, writes_words, change_fits, write_fits, all_fit}
use Rattle.logs.specs.LogModel.{Entry, limit, an_entry, cost, total_cost, loggable, all_loggable}
use Rattle.logs.specs.PageWords.{page_words, pages_words, begins, page_length, entry_in, entries_in}
use Rattle.logs.specs.HolderBounds.{length_page}
use Rattle.logs.proofs.Loggable.{loggable_parts, write_parts, fits_at}

-- What is read past the end of a list of writes.
abbrev pub no_write : Write
no_write = a_write 0 (Set (pos 0))

-- Words read back

kind_back : (k l : ℕ) → l < 268435456 → kind_of (word k l) ≡ k
kind_back k l h = omega arith

load_back : (k l : ℕ) → l < 268435456 → load_of (word k l) ≡ l
load_back k l h = omega arith

pub home_back : (h n : ℕ) → h < 16 → n < 256 → site_of (head 8 h n) ≡ h
home_back h n p q = omega arith

pub count_back : (h n : ℕ) → h < 16 → n < 256 → count_of (head 8 h n) ≡ n
count_back h n p q = omega arith

pub ticket_back : (t : ℕ) → t ≤ limit → load_of (word 3 t) ≡ t
ticket_back t h = load_back 3 t (omega arith)

load_small : (z : ℤ) → value_fits z ≡ true → value_load z < 268435456
load_small (pos n) f = omega (arith, ltb-true n 134217728 f)
load_small (negsuc n) f = omega arith

value_back : (z : ℤ) → value_fits z ≡ true → value_of (value_load z) ≡ z
value_back (pos n) f = ap (λ b. cond b (pos n) (negsuc (268435455 - n))) f
value_back (negsuc n) f =
    let h = ltb-true n 134217728 f in
    let e : 268435455 - (268435455 - n) ≡ n = omega arith in
    ap (λ b. cond b (pos (268435455 - n)) (negsuc (268435455 - (268435455 - n)))) (le-ltb (268435455 - n) 134217728 (omega arith)) ∙ ap negsuc e

change_back : (x : Change) → change_fits x ≡ true → change_of (change_word x) ≡ Some x
change_back (Set z) f =
    let w = word 6 (value_load z) in
    ap (λ b. cond b (Some (Set (value_of (load_of w)))) (cond (w == word 7 0) (Some Remove) None)) (eq-eqb (kind_of w) 6 (kind_back 6 _ (load_small z f)))
    ∙ ap (λ l. Some (Set (value_of l))) (load_back 6 _ (load_small z f))
    ∙ ap (λ y. Some (Set y)) (value_back z f)
change_back Remove f = refl

pub write_back : (w : Write) → write_fits 0 w ≡ true → write_of (word 5 w.item) (change_word w.change) ≡ Some w
write_back w f =
    let p = write_parts w f in
    let i = word 5 w.item in
    ap (λ b. cond b (option_map (a_write (load_of i)) (change_of (change_word w.change))) None) (eq-eqb (kind_of i) 5 (kind_back 5 _ p.0))
    ∙ ap (λ o. option_map (a_write (load_of i)) o) (change_back w.change p.1)
    ∙ ap (λ l. Some (a_write l w.change)) (load_back 5 _ p.0)

leading_back : (ws : List Write) → all_fit ws ≡ true → leading (writes_words ws) ≡ ws
leading_back [] f = refl
leading_back (w ∷ ws) f =
    let p = and_parts (write_fits 0 w) (all_fit ws) f in
    ap (λ o. and_then o (leading (writes_words ws))) (write_back w p.0) ∙ ap (λ l. w ∷ l) (leading_back ws p.1)

-- Pages read back

module _ (v : ℕ) (e : Entry) (l : loggable e ≡ true) (rest : List ℕ) where
  page_long : page_length (page_words v e ++ rest) ≡ length (page_words v e)
  page_long =
      let p = loggable_parts e l in
      ap (cost 3 2) (count_back e.home (length e.writes) p.0 (omega (arith, p.2))) ∙ sym (length_page v e)

  page_front : take (page_length (page_words v e ++ rest)) (page_words v e ++ rest) ≡ page_words v e
  page_front = take_at (page_words v e) rest _ (sym page_long)

  page_after : drop (page_length (page_words v e ++ rest)) (page_words v e ++ rest) ≡ rest
  page_after = drop_at (page_words v e) rest _ (sym page_long)

  page_back : entry_in (page_words v e ++ rest) ≡ e
  page_back =
      let p = loggable_parts e l in
      ap (λ h. an_entry h (load_of (word 3 e.ticket)) (leading (drop 3 (take (page_length (page_words v e ++ rest)) (page_words v e ++ rest)))))
      (home_back e.home (length e.writes) p.0 (omega (arith, p.2)))
      ∙ ap (λ t. an_entry e.home t (leading (drop 3 (take (page_length (page_words v e ++ rest)) (page_words v e ++ rest))))) (ticket_back e.ticket p.1)
      ∙ ap (λ ws. an_entry e.home e.ticket (leading (drop 3 ws))) page_front
      ∙ ap (an_entry e.home e.ticket) (leading_back e.writes p.3)

pub pages_back : (v : ℕ) (es : List Entry) → all_loggable es ≡ true → entries_in (length es) (pages_words v es) ≡ es
pages_back v [] l = refl
pages_back v (e ∷ es) l =
    let p = and_parts (loggable e) (all_loggable es) l in
    let rest = pages_words (suc v) es in
    ap (λ x. x ∷ entries_in (length es) (drop (page_length (page_words v e ++ rest)) (page_words v e ++ rest))) (page_back v e p.0 rest)
    ∙ ap (λ ws. e ∷ entries_in (length es) ws) (page_after v e p.0 rest)
    ∙ ap (λ xs. e ∷ xs) (pages_back (suc v) es p.1)

-- One page more at the end, and fewer in front

pub pages_push : (v : ℕ) (es : List Entry) (e : Entry) → pages_words v (es ++ (e ∷ [])) ≡ pages_words v es ++ page_words (v + length es) e
pages_push v [] e = append-nil (page_words v e) ∙ ap (λ n. page_words n e) (omega arith)
pages_push v (x ∷ xs) e =
    let n : suc v + length xs ≡ v + length (x ∷ xs) = omega arith in
    ap (λ ws. page_words v x ++ ws) (pages_push (suc v) xs e ∙ ap (λ k. pages_words (suc v) xs ++ page_words k e) n)
    ∙ sym (append_assoc (page_words v x) (pages_words (suc v) xs) (page_words (v + length (x ∷ xs)) e))

pub pages_drop : (n v : ℕ) (es : List Entry) → drop (total_cost 3 2 (take n es)) (pages_words v es) ≡ pages_words (v + n) (drop n es)
pages_drop zero v es = ap (λ k. pages_words k es) (omega arith)
pages_drop (suc n) v [] = refl
pages_drop (suc n) v (e ∷ es) =
    let k : suc v + n ≡ v + suc n = omega arith in
    sym (drop-drop (total_cost 3 2 (take n es)) (cost 3 2 (length e.writes)) (pages_words v (e ∷ es)))
    ∙ ap (drop (total_cost 3 2 (take n es))) (drop_at (page_words v e) (pages_words (suc v) es) _ (length_page v e))
    ∙ pages_drop n (suc v) es
    ∙ ap (λ m. pages_words m (drop n es)) k

-- Where pages begin

pub length_begins : (n : ℕ) (es : List Entry) → length (begins n es) ≡ length es
length_begins n [] = refl
length_begins n (e ∷ es) = ap suc (length_begins (n + cost 3 2 (length e.writes)) es)

pub begins_push : (n : ℕ) (es : List Entry) (e : Entry) → begins n (es ++ (e ∷ [])) ≡ begins n es ++ ((n + total_cost 3 2 es) ∷ [])
begins_push n [] e = ap (λ k. k ∷ []) (omega arith)
begins_push n (x ∷ xs) e =
    let k : (n + cost 3 2 (length x.writes)) + total_cost 3 2 xs ≡ n + total_cost 3 2 (x ∷ xs) = omega arith in
    ap (λ ks. n ∷ ks) (begins_push (n + cost 3 2 (length x.writes)) xs e ∙ ap (λ m. begins (n + cost 3 2 (length x.writes)) xs ++ (m ∷ [])) k)

pub begins_drop : (k n : ℕ) (es : List Entry) → drop k (begins n es) ≡ begins (n + total_cost 3 2 (take k es)) (drop k es)
begins_drop zero n es = ap (λ m. begins m es) (omega arith)
begins_drop (suc k) n [] = refl
begins_drop (suc k) n (e ∷ es) =
    let m : (n + cost 3 2 (length e.writes)) + total_cost 3 2 (take k es) ≡ n + total_cost 3 2 (take (suc k) (e ∷ es)) = omega arith in
    begins_drop k (n + cost 3 2 (length e.writes)) es ∙ ap (λ j. begins j (drop k es)) m

pub begins_at : (n i : ℕ) (es : List Entry) (d : ℕ) → i < length es → slice_index_or (begins n es) i d ≡ n + total_cost 3 2 (take i es)
begins_at n i [] d l = absurd (omega arith)
begins_at n zero (e ∷ es) d l = omega arith
begins_at n (suc i) (e ∷ es) d l = begins_at (n + cost 3 2 (length e.writes)) i es d (omega arith) ∙ omega arith

-- The page at place i

pub page_at : (v i : ℕ) (es : List Entry) (e : Entry) → i < length es → e ≡ slice_index_or es i e →
    take (length (page_words (v + i) e)) (drop (total_cost 3 2 (take i es)) (pages_words v es)) ≡ page_words (v + i) e
page_at v i es e l q =
    ap (take (length (page_words (v + i) e)))
    (pages_drop i v es
    ∙ ap (pages_words (v + i)) (drop_more es i e l ∙ ap (λ x. x ∷ drop (i + 1) es) (sym q)))
    ∙ take_at (page_words (v + i) e) (pages_words (suc (v + i)) (drop (i + 1) es)) _ refl

-- Bounds on the words

pub cost_bound : (es : List Entry) → all_loggable es ≡ true → total_cost 3 2 es ≤ 35 * length es
cost_bound [] l = omega arith
cost_bound (e ∷ es) l =
    let p = and_parts (loggable e) (all_loggable es) l in
    let few = (loggable_parts e p.0).2 in
    let more = cost_bound es p.1 in
    omega arith

pub cost_least : (es : List Entry) → 3 * length es ≤ total_cost 3 2 es
cost_least [] = omega arith
cost_least (e ∷ es) = let more = cost_least es in omega arith

pub cost_front : (n : ℕ) (es : List Entry) → total_cost 3 2 (take n es) ≤ total_cost 3 2 es
cost_front zero es = omega arith
cost_front (suc n) [] = omega arith
cost_front (suc n) (e ∷ es) = let more = cost_front n es in omega arith

-- The words of the k-th write
pub writes_at : (ws : List Write) (k : ℕ) (x : Write) (d : ℕ) → k < length ws → x ≡ slice_index_or ws k x →
    (slice_index_or (writes_words ws) (2 * k) d ≡ word 5 x.item) × (slice_index_or (writes_words ws) (2 * k + 1) d ≡ change_word x.change)
writes_at [] k x d l q = absurd (omega arith)
writes_at (w ∷ ws) zero x d l q = (ap (λ y. word 5 y.item) (sym q), ap (λ y. change_word y.change) (sym q))
writes_at (w ∷ ws) (suc k) x d l q =
    let r = writes_at ws k x d (omega arith) q in
    let i : 2 * suc k ≡ suc (suc (2 * k)) = omega arith in
    let j : 2 * suc k + 1 ≡ suc (suc (2 * k + 1)) = omega arith in
    (ap (λ n. get_or (writes_words (w ∷ ws)) n d) i ∙ r.0, ap (λ n. get_or (writes_words (w ∷ ws)) n d) j ∙ r.1)

-- What is read of a page that lies among other words at place n
module _ (ws : List ℕ) (n v : ℕ) (e : Entry) (l : loggable e ≡ true) (there : take (length (page_words v e)) (drop n ws) ≡ page_words v e) where
  pub page_inside : n + (3 + 2 * length e.writes) ≤ length ws
  page_inside =
      omega (arith, ap length there, length-take (length (page_words v e)) (drop n ws), length-drop n ws, length_page v e)

  page_word : (j i x : ℕ) → i ≡ n + j → j < length (page_words v e) → x ≡ slice_index_or ws i x → x ≡ slice_index_or (page_words v e) j x
  page_word j i x p h q =
      q ∙ ap (λ k. get_or ws k x) p ∙ sym (get_or-drop n ws j x) ∙ sym (get_or-take (length (page_words v e)) (drop n ws) j x h) ∙ ap (λ xs. get_or xs j x) there

  head_word : (x : ℕ) → x ≡ slice_index_or ws n x → x ≡ head 8 e.home (length e.writes)
  head_word x q = page_word 0 n x (omega arith) (omega (arith, length_page v e)) q

  pub count_read : (x : ℕ) → x ≡ slice_index_or ws n x → count_of x ≡ length e.writes
  count_read x q =
      let p = loggable_parts e l in
      ap count_of (head_word x q) ∙ count_back e.home (length e.writes) p.0 (omega (arith, p.2))

  -- the two words of the k-th write
  pub write_read : (k x y : ℕ) → k < length e.writes → x ≡ slice_index_or ws (n + 3 + 2 * k) x → y ≡ slice_index_or ws (n + 3 + 2 * k + 1) y →
      write_of x y ≡ slice_get e.writes k
  write_read k x y h q r =
      let w = get_or e.writes k no_write in
      let same : w ≡ get_or e.writes k w = get_or_default e.writes k no_write w h in
      let i : 3 + 2 * k ≡ suc (suc (suc (2 * k))) = omega arith in
      let j : 3 + 2 * k + 1 ≡ suc (suc (suc (2 * k + 1))) = omega arith in
      let item = page_word (3 + 2 * k) (n + 3 + 2 * k) x (omega arith) (omega (arith, length_page v e)) q
      ∙ ap (λ m. get_or (page_words v e) m x) i ∙ (writes_at e.writes k w x h same).0 in
      let change = page_word (3 + 2 * k + 1) (n + 3 + 2 * k + 1) y (omega arith) (omega (arith, length_page v e)) r
      ∙ ap (λ m. get_or (page_words v e) m y) j ∙ (writes_at e.writes k w y h same).1 in
      ap (λ a. write_of a y) item
      ∙ ap (write_of (word 5 w.item)) change
      ∙ write_back w (fits_at k e.writes no_write h (loggable_parts e l).3)
      ∙ sym (slice_get-get_or e.writes k no_write h)
