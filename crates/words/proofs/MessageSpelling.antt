-- Every message has one spelling.
use Rattle.std.proofs.Common.{◌≡◌, ℕ, ◌<◌, true, eqb, ltb, List, [], ◌∷◌, length, Some, None, refl, ap, ◌∙◌, arith}
use Rattle.std.proofs.lemmas.Bool.{eq-eqb, eqb-true, ltb-true, and_parts, and_from, cond-true}
use Rattle.words.specs.declared.changes.Write.{Write}
use Rattle.words.specs.Bits.{kind_of, load_of, site_of, count_of, clear_between, word, head, is_number, in_range, is_group}
use Rattle.words.specs.Writes.{heads, leading, writes_words, valid_writes}
use Rattle.words.specs.Messages.{MessageValue, an_edit, a_report, message_words, valid_message, edit_fits, read_edit, report_fits, read_report, or_else, message_of, OneSpelling}
use Rattle.words.proofs.Heads.{head_is, head_kind, head_clear, head_site, head_count, heads_back, heads_read, sited, led}
use Rattle.words.proofs.Spellings.{from_cond, three_back, same_cons, number_back, number_read, group_parts, one_spelling}

edit_parts : (n h t v : ℕ) (ws : List ℕ) → is_group n ≡ true → edit_fits n h t v ws ≡ true →
    (◌≡◌ {A = List ℕ} (h ∷ (t ∷ (v ∷ ws))) (message_words (an_edit (site_of h) (load_of t) (load_of v) (leading ws))))
    × (valid_message n (an_edit (site_of h) (load_of t) (load_of v) (leading ws)) ≡ true)
edit_parts n h t v ws g e =
    let a = and_parts (is_number 3 1 t) _ e in
    let b = and_parts (is_number 4 0 v) (heads n 1 h ws) a.1 in
    let ticket = number_back 3 1 t a.0 in
    let snapshot = number_back 4 0 v b.0 in
    let under = heads_back n 1 h ws b.1 in (
      same_cons under.head_word (same_cons ticket.0 (same_cons snapshot.0 under.words)),
      and_from _ _ g (and_from _ _ under.site (and_from _ _ ticket.1 (and_from _ _ snapshot.1 under.valid))),
    )

edit_back : (n : ℕ) (ws : List ℕ) (m : MessageValue) → is_group n ≡ true → read_edit n ws ≡ Some m →
    (ws ≡ message_words m) × (valid_message n m ≡ true)
edit_back n ws m g e =
    three_back message_words (valid_message n) (edit_fits n) (λ h t v r. an_edit (site_of h) (load_of t) (load_of v) (leading r))
    (λ h t v r. edit_parts n h t v r g) ws m e

report_back : (n : ℕ) (ws : List ℕ) (m : MessageValue) → is_group n ≡ true → read_report n ws ≡ Some m →
    (ws ≡ message_words m) × (valid_message n m ≡ true)
report_back n [] m g e = absurd (let t : ◌≡◌ {A = ℕ} 0 1 = cc in omega arith)
report_back n (h ∷ []) m g e = absurd (let t : ◌≡◌ {A = ℕ} 0 1 = cc in omega arith)
report_back n (h ∷ (v ∷ (x ∷ ws))) m g e = absurd (let z : ◌≡◌ {A = ℕ} 0 1 = cc in omega arith)
report_back n (h ∷ (v ∷ [])) m g e =
    let q = from_cond (report_fits n h v) (Some (a_report (site_of h) (load_of v))) m e in
    let k : m ≡ a_report (site_of h) (load_of v) = let x = q.1 in cc in
    let a = and_parts (eqb (kind_of h) 2) _ q.0 in
    let b = and_parts (clear_between h) _ a.1 in
    let c = and_parts (eqb (count_of h) 0) _ b.1 in
    let d = and_parts (ltb (site_of h) n) (is_number 4 0 v) c.1 in
    let version = number_back 4 0 v d.1 in
    let i = head_is 2 h (eqb-true _ _ a.0) b.0 ∙ ap (head 2 (site_of h)) (eqb-true _ _ c.0) in
    rw k (same_cons i (same_cons version.0 refl), and_from _ _ g (and_from _ _ d.0 version.1))

edit_forth : (n s t v : ℕ) (l : List Write) → valid_message n (an_edit s t v l) ≡ true →
    (is_group n ≡ true) × (or_else (read_edit n (message_words (an_edit s t v l))) (read_report n (message_words (an_edit s t v l))) ≡ Some (an_edit s t v l))
edit_forth n s t v l e =
    let a = and_parts (is_group n) _ e in
    let b = and_parts (ltb s n) _ a.1 in
    let c = and_parts (in_range 1 t) _ b.1 in
    let d = and_parts (in_range 0 v) (valid_writes l) c.1 in
    let small = (group_parts n a.0).1 in
    let own = ltb-true s n b.0 in
    let ticket = number_read 3 1 t c.0 in
    let snapshot = number_read 4 0 v d.0 in
    let fits = and_from _ _ ticket.0 (and_from _ _ snapshot.0 (heads_read n 1 s l small own d.1)) in
    let parts : ◌≡◌ {A = MessageValue} (an_edit (site_of (head 1 s (length l))) (load_of (word 3 t)) (load_of (word 4 v)) (leading (writes_words l))) (an_edit s t v l) =
    let x = sited n 1 s l small own d.1 in let y = ticket.1 in let z = snapshot.1 in let w = led n 1 s l small own d.1 in cc in (
      a.0,
      ap (λ o. or_else o (read_report n (message_words (an_edit s t v l))))
          (cond-true _ (Some (an_edit (site_of (head 1 s (length l))) (load_of (word 3 t)) (load_of (word 4 v)) (leading (writes_words l)))) None fits)
          ∙ ap Some parts,
    )

report_forth : (n s v : ℕ) → valid_message n (a_report s v) ≡ true →
    (is_group n ≡ true) × (or_else (read_edit n (message_words (a_report s v))) (read_report n (message_words (a_report s v))) ≡ Some (a_report s v))
report_forth n s v e =
    let a = and_parts (is_group n) _ e in
    let b = and_parts (ltb s n) (in_range 0 v) a.1 in
    let own = ltb-true s n b.0 in
    let small = (group_parts n a.0).1 in
    let p : s < 16 = omega arith in
    let q : 0 < 256 = omega arith in
    let version = number_read 4 0 v b.1 in
    let fits : report_fits n (head 2 s 0) (word 4 v) ≡ true =
    and_from _ _ (eq-eqb _ _ (head_kind 2 s 0 p q)) (and_from _ _ (head_clear 2 s 0 p q) (and_from _ _ (eq-eqb _ _ (head_count 2 s 0 p q))
    (and_from _ _ (ap (λ x. ltb x n) (head_site 2 s 0 p q) ∙ b.0) version.0))) in
    let parts : ◌≡◌ {A = MessageValue} (a_report (site_of (head 2 s 0)) (load_of (word 4 v))) (a_report s v) =
    let x = head_site 2 s 0 p q in let y = version.1 in cc in
    (a.0, cond-true _ (Some (a_report (site_of (head 2 s 0)) (load_of (word 4 v)))) None fits ∙ ap Some parts)

forth : (n : ℕ) (m : MessageValue) → valid_message n m ≡ true →
    (is_group n ≡ true) × (or_else (read_edit n (message_words m)) (read_report n (message_words m)) ≡ Some m)
forth n (an_edit s t v l) e = edit_forth n s t v l e
forth n (a_report s v) e = report_forth n s v e

pub message_spelling : (n : ℕ) (ws : List ℕ) → OneSpelling message_words (valid_message n) ws (message_of n ws)
message_spelling n ws =
    one_spelling message_words (valid_message n) n (read_edit n) (read_report n) (edit_back n) (report_back n) (forth n) ws
