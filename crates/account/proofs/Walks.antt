-- The lowest clash, by the first commit above a version that meets the writes.
use Rattle.std.proofs.Common.{◌≡◌, ℕ, suc, ◌+◌, Bool, true, false, cond, List, [], ◌∷◌, map, drop, Some, vec_items, refl, sym, ap, ◌∙◌, arith}
use Rattle.std.specs.Option.{option_map}
use Rattle.std.specs.List.{position, position_from}
use Rattle.std.proofs.lemmas.List.{drop-map}
use Rattle.std.proofs.lemmas.Iterator.Adapters.{position_from-zero}
use Rattle.words.specs.declared.changes.Write.{Write}
use Rattle.account.specs.declared.certify.Kept.{Kept}
use Rattle.account.specs.Account.{meets, lowest_clash}
use Rattle.account.specs.Kept.{committed}

module _ (l : List Write) where
  abbrev pub clashes : Kept → Bool
  clashes k = meets (vec_items k.writes) l

  clash_from : (v i : ℕ) (cs : List Kept) →
      lowest_clash l (v + i) (map committed cs) ≡ option_map (λ j. v + j + 1) (position_from clashes i cs)
  clash_from v i [] = refl
  clash_from v i (k ∷ ks) =
      let rest = lowest_clash l (suc (v + i)) (map committed ks) in
      let next : suc (v + i) ≡ v + (i + 1) = omega arith in
      elim (clashes k) as (λ b. cond b (Some (suc (v + i))) rest ≡ option_map (λ j. v + j + 1) (cond b (Some i) (position_from clashes (i + 1) ks))) [
        | true ↦ ap Some (omega arith)
        | false ↦ ap (λ n. lowest_clash l n (map committed ks)) next ∙ clash_from v (i + 1) ks
      ]

  pub clash_position : (v : ℕ) (cs : List Kept) →
      lowest_clash l v (drop v (map committed cs)) ≡ option_map (λ j. v + j + 1) (position clashes (drop v cs))
  clash_position v cs =
      ap (lowest_clash l v) (drop-map committed v cs)
      ∙ ap (λ n. lowest_clash l n (map committed (drop v cs))) (omega arith)
      ∙ clash_from v 0 (drop v cs)
      ∙ ap (option_map (λ j. v + j + 1)) (sym (position_from-zero clashes (drop v cs)))
