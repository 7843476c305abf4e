-- Known numbers: the least of them, and one of them raised.
use Rattle.std.proofs.Common.{◌≡◌, ℕ, zero, suc, ◌<◌, min, max, List, [], ◌∷◌, length, get_or, set, refl, ap, ◌∙◌, arith}
use Rattle.std.specs.Option.{unwrap_or}
use Rattle.std.specs.List.{fold, reduce}
use Rattle.account.specs.Account.{least, raise}

fold_min : (a b : ℕ) (ks : List ℕ) → min a (fold min b ks) ≡ fold min (min a b) ks
fold_min a b [] = refl
fold_min a b (k ∷ ks) = fold_min a (min b k) ks ∙ ap (λ n. fold min n ks) (omega arith)

pub least_cons : (k : ℕ) (ks : List ℕ) → least (k ∷ ks) ≡ fold min k ks
least_cons k [] = refl
least_cons k (j ∷ js) = ap (min k) (least_cons j js) ∙ fold_min k j js

-- the smallest of the list, or 0
pub least_is : (ks : List ℕ) → least ks ≡ unwrap_or (reduce min ks) 0
least_is [] = refl
least_is (k ∷ ks) = least_cons k ks

pub raise_set : (ks : List ℕ) (i r new : ℕ) → i < length ks → new ≡ max (get_or ks i 0) r → set ks i new ≡ raise ks i r
raise_set [] i r new h e = absurd (omega arith)
raise_set (k ∷ ks) zero r new h e = ap (λ x. x ∷ ks) e
raise_set (k ∷ ks) (suc i) r new h e = ap (λ l. k ∷ l) (raise_set ks i r new (omega arith) e)
