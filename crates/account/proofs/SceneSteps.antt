-- One write, or one commit, more in a scene.
use Rattle.std.proofs.Common.{◌≡◌, ℕ, ◌+◌, ◌<◌, ◌≤◌, cond, eqb, List, map, length, get_or, drop, Option, sym, ap, ◌∙◌, add-one, arith}
use lib.ListN.{length-map}
use Rattle.std.proofs.lemmas.List.{at_drop_more, at_drop_all, get_or-map}
use Rattle.words.specs.declared.changes.Write.{Write}
use Rattle.account.specs.declared.certify.Kept.{Kept}
use Rattle.account.specs.declared.scenes.Placed.{Placed}
use Rattle.account.specs.Kept.{committed}
use Rattle.account.specs.Scenes.{placed_by, written, applied}

pub written_more : (v i : ℕ) (l : List Write) (d : Write) (x : ℕ) (o p : Option Placed) → i < length l →
    p ≡ cond (eqb (get_or l i d).item x) (placed_by v (get_or l i d).change) o → written v (drop (i + 1) l) x p ≡ written v (drop i l) x o
written_more v i l d x o p h e = ap (written v (drop (i + 1) l) x) e ∙ sym (at_drop_more (λ k. written v k x o) l i d h)

pub written_all : (v i : ℕ) (l : List Write) (x : ℕ) (o : Option Placed) → length l ≤ i → written v (drop i l) x o ≡ o
written_all v i l x o h = at_drop_all (λ k. written v k x o) l i h

module _ (i : ℕ) (cs : List Kept) (x : ℕ) (o : Option Placed) where
  pub applied_more : (d : Kept) (p : Option Placed) → i < length cs → p ≡ written (i + 1) (committed (get_or cs i d)).writes x o →
      applied (i + 1) (drop (i + 1) (map committed cs)) x p ≡ applied i (drop i (map committed cs)) x o
  applied_more d p h e =
      let k : i < length (map committed cs) = omega (arith, length-map cs committed) in
      ap (applied (i + 1) (drop (i + 1) (map committed cs)) x) (e ∙ ap (λ c. written (i + 1) c.writes x o) (sym (get_or-map committed cs i d (committed d) h)))
      ∙ ap (λ n. applied n (drop (i + 1) (map committed cs)) x (written n (get_or (map committed cs) i (committed d)).writes x o)) (add-one i)
      ∙ sym (at_drop_more (λ k. applied i k x o) (map committed cs) i (committed d) k)

  pub applied_all : length cs ≤ i → applied i (drop i (map committed cs)) x o ≡ o
  applied_all h = at_drop_all (λ k. applied i k x o) (map committed cs) i (omega (arith, length-map cs committed))
