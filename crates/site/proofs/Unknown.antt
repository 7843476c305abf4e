-- Every number of a list, in the library's words.
use Rattle.std.proofs.Common.{◌≡◌, ℕ, Bool, ◌&&◌, List, [], ◌∷◌, refl, ap}
use Rattle.std.specs.List.{list_all}
use Rattle.words.specs.Bits.{every}

pub every_list : (p : ℕ → Bool) (ks : List ℕ) → list_all p ks ≡ every p ks
every_list p [] = refl
every_list p (k ∷ ks) = ap (λ b. p k && b) (every_list p ks)
