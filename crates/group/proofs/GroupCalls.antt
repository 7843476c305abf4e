-- A call at one site, seen as a call of the group.
use Rattle.std.proofs.Common.{◌≡◌, ℕ, ◌<◌, List, map, length, get_or, set, Some, sym, refl, ap, ◌∙◌, subst}
use Rattle.std.specs.List.{slice_get}
use Rattle.std.proofs.lemmas.List.{map-set}
use Rattle.std.specs.Option.{option_map}
use Rattle.std.proofs.lemmas.Option.{slice_get_read, slice_get-map}
use Rattle.site.specs.SiteModel.{SiteModel}
use Rattle.site.specs.Calls.{Call, Answer, called}
use Rattle.group.specs.Record.{a_turn}
use Rattle.group.specs.Runs.{GoesOn}
use Rattle.group.specs.Groups.{called_at}
use Rattle.group.proofs.RunLaw.{goes_on}

module _ {C : Type 0} (model : C → SiteModel) (xs : List C) (i : ℕ) where
  module _ (x : C) (within : i < length xs) (there : x ≡ get_or xs i x) where
    pub the_site : slice_get (map model xs) i ≡ Some (model x)
    the_site = slice_get-map model xs i ∙ ap (option_map model) (slice_get_read xs (length xs) i x refl within there)

    module _ (c : Call) (y : C) (a : Answer) (done : (a, model y) ≡ called (model x) c) where
      pub one_call : (Some a, map model (set xs i y)) ≡ called_at (map model xs) i c
      one_call =
          rw (map-set, the_site) (ap (λ (p : Answer × SiteModel). (Some p.0, set (map model xs) i p.1)) done)

      pub one_goes_on : GoesOn (map model xs) (map model (set xs i y)) (a_turn i c a)
      one_goes_on =
          rw map-set (subst (λ (p : Answer × SiteModel). GoesOn (map model xs) (set (map model xs) i p.1) (a_turn i c p.0)) (sym done)
          (goes_on (map model xs) i (model x) c the_site))
