-- Known numbers: those of a log beside those of the account.
use Rattle.std.proofs.Common.{◌≡◌, ℕ, zero, suc, ◌<◌, ◌≤◌, min, max, true, leb, List, [], ◌∷◌, length, set, replicate, Some, None, Option, refl, ap, arith}
use Rattle.std.specs.List.{slice_get}
use Rattle.std.proofs.lemmas.Option.{slice_get-get_or}
use Rattle.std.proofs.lemmas.Bool.{and_parts, leb-true}
use Rattle.std.proofs.lemmas.Bool.Decides.{nat_tests}
use Rattle.words.specs.Bits.{every}
use Rattle.words.specs.Messages.{MessageValue, an_edit, a_report}
use Rattle.account.specs.Account.{Account, raise, heard, last_version, least as account-least}
use Rattle.account.proofs.Horizons.{AllUpTo}
use Rattle.account.proofs.KnownNumbers.{raise_set}
use Rattle.logs.specs.LogModel.{least, all_within}
use Rattle.site.specs.Certify.{number_or_zero}
use Rattle.site.specs.CatchUp.{covers}
use Rattle.site.specs.Making.{is_zero}

pub same_least : (ks : List ℕ) → least ks ≡ account-least ks
same_least [] = refl
same_least (k ∷ []) = refl
same_least (k ∷ (j ∷ js)) = ap (min k) (same_least (j ∷ js))

pub least_covers : (ks js : List ℕ) → length ks ≡ length js → covers ks js ≡ true → least ks ≤ least js
least_covers [] js e h = omega arith
least_covers (k ∷ ks) [] e h = absurd (omega arith)
least_covers (k ∷ []) (j ∷ []) e h = leb-true k j (and_parts (leb k j) true h).0
least_covers (k ∷ []) (j ∷ (i ∷ js)) e h = absurd (omega arith)
least_covers (k ∷ (l ∷ ks)) (j ∷ []) e h = absurd (omega arith)
least_covers (k ∷ (l ∷ ks)) (j ∷ (i ∷ js)) e h =
    let rest = least_covers (l ∷ ks) (i ∷ js) in
    grind (arith, nat_tests)

-- numbers none of which is above a top
pub up_to_every : (top : ℕ) (ks : List ℕ) → AllUpTo top ks → every (λ k. leb k top) ks ≡ true
up_to_every top [] u = refl
up_to_every top (k ∷ ks) u = let rest = up_to_every top ks u.1 in grind (arith, nat_tests)

pub up_to_at : (top : ℕ) (ks : List ℕ) (i : ℕ) → AllUpTo top ks → number_or_zero (slice_get ks i) ≤ top
up_to_at top [] i u = omega arith
up_to_at top (k ∷ ks) zero u = u.0
up_to_at top (k ∷ ks) (suc i) u = up_to_at top ks i u.1

pub every_within : (top : ℕ) (ks : List ℕ) → top ≤ 268435455 → every (λ k. leb k top) ks ≡ true → all_within ks ≡ true
every_within top [] h e = refl
every_within top (k ∷ ks) h e =
    let rest = every_within top ks h in
    grind (arith, nat_tests)

pub all_zeros : (ks : List ℕ) → every is_zero ks ≡ true → ks ≡ replicate (length ks) 0
all_zeros [] e = refl
all_zeros (k ∷ ks) e =
    let rest = all_zeros ks in
    grind (arith, nat_tests)

pub raise_noted : (ks : List ℕ) (i r : ℕ) → i < length ks → set ks i (max (number_or_zero (slice_get ks i)) r) ≡ raise ks i r
raise_noted ks i r h = raise_set ks i r _ h (ap (λ o. max (number_or_zero o) r) (slice_get-get_or ks i 0 h))

length_raise : (ks : List ℕ) (i r : ℕ) → length (raise ks i r) ≡ length ks
length_raise [] i r = refl
length_raise (k ∷ ks) zero r = refl
length_raise (k ∷ ks) (suc i) r = ap suc (length_raise ks i r)

pub length_heard : (a : Account) (o : Option MessageValue) → length (heard a o) ≡ length a.known
length_heard a None = refl
length_heard a (Some (a_report i r)) = length_raise a.known i (min r (last_version a))
length_heard a (Some (an_edit h t s l)) = refl
