-- Pages of the account: those that say what it holds are read back.
use Rattle.std.proofs.Common.{◌≡◌, ℕ, zero, suc, ◌≤◌, true, List, length, take, refl, arith}
use Rattle.std.proofs.lemmas.Bool.Decides.{nat_tests}
use Rattle.words.specs.Bits.{is_group}
use Rattle.words.specs.Pages.{PageValue, an_entry, a_closing, page_words, valid_page}
use Rattle.words.proofs.PageSpelling.{page_spelling}
use Rattle.account.specs.Account.{a_commit, account_after, last_version}
use Rattle.account.proofs.Horizons.{known_up_to_last}
use Rattle.group.specs.Law.{PageRight, WritesRight}
use Rattle.group.proofs.Accounts.{last_within, commit_well_made}
use Rattle.group.proofs.Leasts.{up_to_every}

-- which numbers a page can hold
abbrev pub PageFits : ℕ → PageValue → Type 0
PageFits n (an_entry h v t l) = v ≤ 268435455
PageFits n (a_closing v d ks) = (d ≤ 268435455) × (length ks ≡ n)

module _ (n : ℕ) (ms : List (List ℕ)) (group : is_group n ≡ true) where
  page_valid : (p : PageValue) → PageFits n p → PageRight n ms p → valid_page n p ≡ true
  page_valid (an_entry h zero t l) f e = cc
  page_valid (an_entry h (suc v) t l) f e = let a = commit_well_made n ms v (a_commit h t l) e in grind (arith, nat_tests)
  page_valid (a_closing v d ks) f e =
      let a = account_after n (take d ms) in
      let low : v ≤ d = omega (arith, e.0, last_within n ms d) in
      let known = rw (← e.0, ← e.1) at (up_to_every (last_version a) a.known (known_up_to_last n (take d ms))) in
      grind (arith, nat_tests)

  pub page_writes : (p : PageValue) → PageFits n p → PageRight n ms p → WritesRight n ms (page_words p)
  page_writes p f e = record { page = p; reads = (page_spelling n (page_words p) p).1 refl (page_valid p f e); right = e }
