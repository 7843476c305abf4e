-- A chain's `all` decides what `every` says of numbers, and `all_fit` of writes.
use Rattle.std.proofs.Common.{◌≡◌, ℕ, Bool, true, false, ◌&&◌, ◌↔◌, List, [], ◌∷◌, sym, refl, ap, ◌∙◌}
use Rattle.std.specs.List.{list_all, AllPass}
use Rattle.std.proofs.lemmas.List.Sums.{AllPass-from_list_all, list_all-from_AllPass}
use Rattle.words.specs.declared.changes.Write.{Write}
use Rattle.words.specs.Bits.{every}
use Rattle.words.specs.Writes.{write_fits, all_fit}

same : (a b : Bool) → (a ≡ true → b ≡ true) → (b ≡ true → a ≡ true) → a ≡ b
same true b f g = sym (f refl)
same false true f g = g refl
same false false f g = refl

list_all_from_all : {X : Type 0} (p : X → Bool) (r : Bool) (xs : List X) → ((r ≡ true) ↔ AllPass p xs) → r ≡ list_all p xs
list_all_from_all p r xs e = same r (list_all p xs) (λ t. list_all-from_AllPass p xs (e.0 t)) (λ t. e.1 (AllPass-from_list_all p xs t))

list_all-every : (p : ℕ → Bool) (xs : List ℕ) → list_all p xs ≡ every p xs
list_all-every p [] = refl
list_all-every p (x ∷ xs) = ap (λ b. p x && b) (list_all-every p xs)

list_all-all_fit : (l : List Write) → list_all (write_fits 0) l ≡ all_fit l
list_all-all_fit [] = refl
list_all-all_fit (w ∷ l) = ap (λ b. write_fits 0 w && b) (list_all-all_fit l)

pub every_from_all : (p : ℕ → Bool) (r : Bool) (xs : List ℕ) → ((r ≡ true) ↔ AllPass p xs) → r ≡ every p xs
every_from_all p r xs e = list_all_from_all p r xs e ∙ list_all-every p xs

pub all_fit_from_all : (r : Bool) (l : List Write) → ((r ≡ true) ↔ AllPass (write_fits 0) l) → r ≡ all_fit l
all_fit_from_all r l e = list_all_from_all (write_fits 0) r l e ∙ list_all-all_fit l
