-- A call that is handed the front of a buffer.
use Rattle.std.proofs.Common.{◌≡◌, ℕ, List, [], ◌∷◌, ◌++◌, length, take, Option, Result, sym, refl, ap, ◌∙◌, subst}
use Rattle.site.specs.SiteModel.{SiteModel}
use Rattle.site.specs.declared.calls.Request.{Request}
use Rattle.site.specs.declared.calls.Response.{Response}
use Rattle.site.specs.declared.refusals.Refusal.{Refusal}
use Rattle.site.specs.Spoken.{asked}
use Rattle.group.specs.Groups.{heard_in, Lawful}

take_front : (xs ys : List ℕ) → take (length xs) (xs ++ ys) ≡ xs
take_front [] [] = refl
take_front [] (y ∷ ys) = refl
take_front (x ∷ xs) ys = ap (λ l. x ∷ l) (take_front xs ys)

-- What was told of the front is told of the buffer.
pub lawful_front : (before after : List SiteModel) (i : ℕ) (q : Request) (ws : List ℕ) (r : Option (Result Response Refusal)) (m n : ℕ) (xs ys : List ℕ) → m ≡ n → length xs ≡ n →
    Lawful before after i (asked q ws m) (heard_in r xs) → Lawful before after i (asked q ws n) (heard_in r (take n (xs ++ ys)))
lawful_front before after i q ws r m n xs ys e l h =
    let P : List ℕ → Type 0 = λ out. Lawful before after i (asked q ws n) (heard_in r out) in
    let Q : ℕ → Type 0 = λ k. Lawful before after i (asked q ws k) (heard_in r xs) in
    subst P (sym (ap (λ k. take k (xs ++ ys)) (sym l) ∙ take_front xs ys)) (subst Q e h)
