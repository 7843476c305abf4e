-- Every page has one spelling.
use Rattle.std.proofs.Common.{◌≡◌, ℕ, ◌<◌, true, eqb, ltb, leb, List, [], ◌∷◌, map, length, Some, None, refl, ap, ◌∙◌, arith}
use Rattle.std.proofs.lemmas.List.{length-map}
use Rattle.std.proofs.lemmas.Bool.{eq-eqb, eqb-true, ltb-true, lt-ltb, le-leb, leb-true, and_parts, and_from, cond-true}
use Rattle.words.specs.declared.changes.Write.{Write}
use Rattle.words.specs.Bits.{kind_of, load_of, site_of, word, head, is_number, in_range, is_group, every}
use Rattle.words.specs.Writes.{heads, leading, writes_words, valid_writes}
use Rattle.words.specs.Messages.{or_else, OneSpelling}
use Rattle.words.specs.Pages.{PageValue, an_entry, a_closing, page_words, valid_page, entry_fits, read_entry, known_fits, closing_fits, read_closing, page_of}
use Rattle.words.proofs.Heads.{heads_back, heads_read, sited, led}
use Rattle.words.proofs.FirstWord.{no_entry, second_of}
use Rattle.words.proofs.Spellings.{three_back, same_cons, number_back, number_read, group_parts, one_spelling}

-- entries
entry_parts : (n h v t : ℕ) (ws : List ℕ) → is_group n ≡ true → entry_fits n h v t ws ≡ true →
    (◌≡◌ {A = List ℕ} (h ∷ (v ∷ (t ∷ ws))) (page_words (an_entry (site_of h) (load_of v) (load_of t) (leading ws))))
    × (valid_page n (an_entry (site_of h) (load_of v) (load_of t) (leading ws)) ≡ true)
entry_parts n h v t ws g e =
    let a = and_parts (is_number 4 1 v) _ e in
    let b = and_parts (is_number 3 1 t) (heads n 8 h ws) a.1 in
    let version = number_back 4 1 v a.0 in
    let ticket = number_back 3 1 t b.0 in
    let under = heads_back n 8 h ws b.1 in (
      same_cons under.head_word (same_cons version.0 (same_cons ticket.0 under.words)),
      and_from _ _ g (and_from _ _ under.site (and_from _ _ version.1 (and_from _ _ ticket.1 under.valid))),
    )

entry_back : (n : ℕ) (ws : List ℕ) (m : PageValue) → is_group n ≡ true → read_entry n ws ≡ Some m → (ws ≡ page_words m) × (valid_page n m ≡ true)
entry_back n ws m g e =
    three_back page_words (valid_page n) (entry_fits n) (λ h v t r. an_entry (site_of h) (load_of v) (load_of t) (leading r))
    (λ h v t r. entry_parts n h v t r g) ws m e

entry_forth : (n s v t : ℕ) (l : List Write) → valid_page n (an_entry s v t l) ≡ true →
    (is_group n ≡ true) × (or_else (read_entry n (page_words (an_entry s v t l))) (read_closing n (page_words (an_entry s v t l))) ≡ Some (an_entry s v t l))
entry_forth n s v t l e =
    let a = and_parts (is_group n) _ e in
    let b = and_parts (ltb s n) _ a.1 in
    let c = and_parts (in_range 1 v) _ b.1 in
    let d = and_parts (in_range 1 t) (valid_writes l) c.1 in
    let small = (group_parts n a.0).1 in
    let own = ltb-true s n b.0 in
    let version = number_read 4 1 v c.0 in
    let ticket = number_read 3 1 t d.0 in
    let fits = and_from _ _ version.0 (and_from _ _ ticket.0 (heads_read n 8 s l small own d.1)) in
    let parts : ◌≡◌ {A = PageValue} (an_entry (site_of (head 8 s (length l))) (load_of (word 4 v)) (load_of (word 3 t)) (leading (writes_words l))) (an_entry s v t l) =
    let x = sited n 8 s l small own d.1 in let y = version.1 in let z = ticket.1 in let w = led n 8 s l small own d.1 in cc in (
      a.0,
      ap (λ o. or_else o (read_closing n (page_words (an_entry s v t l))))
          (cond-true _ (Some (an_entry (site_of (head 8 s (length l))) (load_of (word 4 v)) (load_of (word 3 t)) (leading (writes_words l)))) None fits)
          ∙ ap Some parts,
    )

-- known numbers' words, and back
known_back : (limit : ℕ) (ws : List ℕ) → every (known_fits limit) ws ≡ true →
    (ws ≡ map (word 11) (map load_of ws)) × (every (λ k. leb k limit) (map load_of ws) ≡ true)
known_back limit [] e = (refl, refl)
known_back limit (w ∷ ws) e =
    let a = and_parts (known_fits limit w) (every (known_fits limit) ws) e in
    let b = and_parts (eqb (kind_of w) 11) (leb (load_of w) limit) a.0 in
    let k = eqb-true (kind_of w) 11 b.0 in
    let f : w ≡ word 11 (load_of w) = omega arith in
    let t = known_back limit ws a.1 in
    (same_cons f t.0, and_from _ _ b.1 t.1)

known_read : (limit : ℕ) (ks : List ℕ) → limit < 268435456 → every (λ k. leb k limit) ks ≡ true →
    (every (known_fits limit) (map (word 11) ks) ≡ true) × (map load_of (map (word 11) ks) ≡ ks)
known_read limit [] h e = (refl, refl)
known_read limit (k ∷ ks) h e =
    let a = and_parts (leb k limit) (every (λ x. leb x limit) ks) e in
    let b = leb-true k limit a.0 in
    let l : load_of (word 11 k) ≡ k = omega arith in
    let t = known_read limit ks h a.1 in (
      and_from _ _ (and_from _ _ (eq-eqb (kind_of (word 11 k)) 11 (omega arith)) (le-leb (load_of (word 11 k)) limit (omega (arith, l)))) t.0,
      same_cons l t.1,
    )

-- closing pages
closing_parts : (n h v d : ℕ) (ks : List ℕ) → is_group n ≡ true → closing_fits n h v d ks ≡ true →
    (◌≡◌ {A = List ℕ} (h ∷ (v ∷ (d ∷ ks))) (page_words (a_closing (load_of v) (load_of d) (map load_of ks))))
    × (valid_page n (a_closing (load_of v) (load_of d) (map load_of ks)) ≡ true)
closing_parts n h v d ks g e =
    let a = and_parts (eqb (kind_of h) 9) _ e in
    let b = and_parts (eqb (load_of h) n) _ a.1 in
    let c = and_parts (is_number 4 0 v) _ b.1 in
    let f = and_parts (is_number 10 (load_of v) d) _ c.1 in
    let i = and_parts (eqb (length ks) n) (every (known_fits (load_of v)) ks) f.1 in
    let version = number_back 4 0 v c.0 in
    let place = number_back 10 (load_of v) d f.0 in
    let known = known_back (load_of v) ks i.1 in
    let many : length (map load_of ks) ≡ n = length-map ks load_of ∙ eqb-true (length ks) n i.0 in
    let k = eqb-true (kind_of h) 9 a.0 in
    let l = eqb-true (load_of h) n b.0 in
    let first : h ≡ word 9 (length (map load_of ks)) = omega arith in (
      same_cons first (same_cons version.0 (same_cons place.0 known.0)),
      and_from _ _ g (and_from _ _ (eq-eqb _ _ many) (and_from _ _ place.1 known.1)),
    )

closing_back : (n : ℕ) (ws : List ℕ) (m : PageValue) → is_group n ≡ true → read_closing n ws ≡ Some m → (ws ≡ page_words m) × (valid_page n m ≡ true)
closing_back n ws m g e =
    three_back page_words (valid_page n) (closing_fits n) (λ h v d r. a_closing (load_of v) (load_of d) (map load_of r))
    (λ h v d r. closing_parts n h v d r g) ws m e

closing_forth : (n v d : ℕ) (ks : List ℕ) → valid_page n (a_closing v d ks) ≡ true →
    (is_group n ≡ true) × (or_else (read_entry n (page_words (a_closing v d ks))) (read_closing n (page_words (a_closing v d ks))) ≡ Some (a_closing v d ks))
closing_forth n v d ks e =
    let a = and_parts (is_group n) _ e in
    let b = and_parts (eqb (length ks) n) _ a.1 in
    let c = and_parts (in_range v d) (every (λ k. leb k v) ks) b.1 in
    let small = (group_parts n a.0).1 in
    let many = eqb-true (length ks) n b.0 in
    let above = and_parts (leb v d) (ltb d 268435456) c.0 in
    let low = leb-true v d above.0 in
    let high = ltb-true d 268435456 above.1 in
    let version = number_read 4 0 v (and_from _ _ (le-leb 0 v (omega arith)) (lt-ltb v 268435456 (omega arith))) in
    let place = number_read 10 v d c.0 in
    let known = known_read v ks (omega arith) c.1 in
    let fits : closing_fits n (word 9 (length ks)) (word 4 v) (word 10 d) (map (word 11) ks) ≡ true =
    and_from _ _ (eq-eqb (kind_of (word 9 (length ks))) 9 (omega arith)) (and_from _ _ (eq-eqb (load_of (word 9 (length ks))) n (omega arith))
    (and_from _ _ version.0 (and_from _ _ (ap (λ x. is_number 10 x (word 10 d)) version.1 ∙ place.0)
    (and_from _ _ (eq-eqb _ n (length-map ks (word 11) ∙ many)) (ap (λ x. every (known_fits x) (map (word 11) ks)) version.1 ∙ known.0))))) in
    let parts : ◌≡◌ {A = PageValue} (a_closing (load_of (word 4 v)) (load_of (word 10 d)) (map load_of (map (word 11) ks))) (a_closing v d ks) =
    let x = version.1 in let y = place.1 in let z = known.1 in cc in (
      a.0,
      second_of _ (read_closing n (page_words (a_closing v d ks))) (no_entry n (page_words (a_closing v d ks)) (λ k. omega arith))
          ∙ cond-true _ (Some (a_closing (load_of (word 4 v)) (load_of (word 10 d)) (map load_of (map (word 11) ks)))) None fits
          ∙ ap Some parts,
    )

forth : (n : ℕ) (m : PageValue) → valid_page n m ≡ true → (is_group n ≡ true) × (or_else (read_entry n (page_words m)) (read_closing n (page_words m)) ≡ Some m)
forth n (an_entry s v t l) e = entry_forth n s v t l e
forth n (a_closing v d ks) e = closing_forth n v d ks e

pub page_spelling : (n : ℕ) (ws : List ℕ) → OneSpelling page_words (valid_page n) ws (page_of n ws)
page_spelling n ws =
    one_spelling page_words (valid_page n) n (read_entry n) (read_closing n) (entry_back n) (closing_back n) (forth n) ws
