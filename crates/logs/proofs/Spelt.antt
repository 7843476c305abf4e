-- The page of an entry, spelt into memory for the longest one.
use Rattle.std.proofs.Common.{◌≡◌, ℕ, ◌≤◌, true, List, ◌++◌, length, take, drop, replicate, Ok, Err, Result, refl, sym, ap, ◌∙◌, arith}
use Rattle.std.proofs.lemmas.List.{take_at}
use Rattle.std.proofs.lemmas.Bool.{lt-ltb, le-leb}
use Rattle.words.specs.declared.encode.Refusal.{Refusal}
use Rattle.words.specs.Encoded.{reply, wrote, put_answer, put_after}
use Rattle.words.specs.Pages.{has_words, an_entry as entry_page}
use Rattle.logs.specs.LogModel.{Entry, limit, loggable}
use Rattle.logs.specs.PageWords.{page_words}
use Rattle.logs.proofs.Loggable.{loggable_parts}
use Rattle.logs.specs.HolderBounds.{length_page}

wrote_ok : (r : Result ℕ Refusal) (n : ℕ) → reply r ≡ wrote n → r ≡ Ok n
wrote_ok (Ok m) n e = let f : m ≡ n = cc in ap Ok f
wrote_ok (Err x) n e = absurd (let z : ◌≡◌ {A = ℕ} 0 1 = cc in omega arith)

module _ (v : ℕ) (e : Entry) (b : v ≤ limit) (l : loggable e ≡ true) where
  pub page_fits : length (page_words v e) ≤ 35
  page_fits = omega (arith, length_page v e, (loggable_parts e l).2)

  has : has_words (entry_page e.home v e.ticket e.writes) ≡ true
  has =
      let p = loggable_parts e l in
      rw (
        lt-ltb e.home 16 p.0,
        le-leb 0 v (omega arith),
        lt-ltb v 268435456 (omega arith),
        le-leb 0 e.ticket (omega arith),
        lt-ltb e.ticket 268435456 (omega (arith, p.1)),
        le-leb (length e.writes) 16 p.2,
        p.3,
      )

  -- what spelling it answers, and leaves
  pub page_spelt : (r : Result ℕ Refusal) → reply r ≡ put_answer (has_words (entry_page e.home v e.ticket e.writes)) (page_words v e) (replicate 35 0) →
      r ≡ Ok (length (page_words v e))
  page_spelt r a = wrote_ok r _ (a ∙ rw (has, le-leb (length (page_words v e)) 35 page_fits) refl)

  pub page_there : (n : ℕ) (out : List ℕ) → ◌≡◌ {A = Result ℕ Refusal} (Ok n) (Ok (length (page_words v e))) →
      out ≡ put_after (has_words (entry_page e.home v e.ticket e.writes)) (page_words v e) (replicate 35 0) → take n out ≡ page_words v e
  page_there n out q a =
      let m : n ≡ length (page_words v e) = cc in
      let f : put_after (has_words (entry_page e.home v e.ticket e.writes)) (page_words v e) (replicate 35 0)
      ≡ page_words v e ++ drop (length (page_words v e)) (replicate 35 0) = rw (has, le-leb (length (page_words v e)) 35 page_fits) refl in
      ap (take n) (a ∙ f) ∙ take_at (page_words v e) _ n (sym m)
