-- The laws of every log.
use Rattle.std.proofs.Common.{◌≡◌, ℕ, suc, ◌+◌, ◌-◌, ◌<◌, ◌≤◌, min, List, [], ◌∷◌, length, get_or, Some, refl, ◌∙◌, ⊎_elim, arith}
use Rattle.std.specs.List.{ContainsAt, AllByRecursion}
use Rattle.std.proofs.lemmas.Option.{slice_get-get_or}
use Rattle.std.proofs.ByRecursion.{All-weaker}
use Rattle.std.proofs.lemmas.Bool.{cases_lt}
use Rattle.logs.specs.LogModel.{Entry, Held, held, an_entry, last_held, entry_held, least}
use Rattle.logs.specs.Laws.{EntriesFollow, LeastOfKnown}
use Rattle.logs.proofs.Holding.{entry_low, entry_high, entry_above}

-- what is held, one entry of it, and what stays of it
module _ (h : Held) where
  -- where an entry is, it is that of its place
  entry_there : (v : ℕ) → h.floor < v → v ≤ last_held h → entry_held h v ≡ Some (get_or h.entries (v - (h.floor + 1)) (an_entry 0 0 []))
  entry_there v a b = entry_above h v a ∙ slice_get-get_or h.entries (v - (h.floor + 1)) (an_entry 0 0 []) (omega arith)

  pub above_floor : (v : ℕ) (e : Entry) → entry_held h v ≡ Some e → h.floor < v
  above_floor v e q =
      ⊎_elim (λ a. a) (λ a. absurd (let n = entry_low h v a in let z : ◌≡◌ {A = ℕ} 0 1 = cc in omega arith)) (cases_lt h.floor v)

  pub below_last : (v : ℕ) (e : Entry) → entry_held h v ≡ Some e → v ≤ last_held h
  below_last v e q =
      ⊎_elim (λ a. absurd (let n = entry_high h v a in let z : ◌≡◌ {A = ℕ} 0 1 = cc in omega arith)) (λ a. a) (cases_lt (last_held h) v)

pub entries_follow : EntriesFollow
entries_follow m v a b = (_, entry_there (held m) v a b)

-- The least of numbers, of which there is one at least

least_has : (k : ℕ) (ks : List ℕ) → ContainsAt (k ∷ ks) (least (k ∷ ks))
least_has k [] = (0, omega arith, λ d. refl)
least_has k (j ∷ js) =
    let r = least_has j js in
    ⊎_elim
    (λ (a : k < least (j ∷ js)). let e : k ≡ min k (least (j ∷ js)) = omega arith in (0, omega arith, λ d. e))
    (λ (a : least (j ∷ js) ≤ k). let e : least (j ∷ js) ≡ min k (least (j ∷ js)) = omega arith in (suc r.0, omega (arith, r.1), λ d. r.2 d ∙ e))
    (cases_lt k (least (j ∷ js)))

least_bounds : (k : ℕ) (ks : List ℕ) → AllByRecursion (λ x. least (k ∷ ks) ≤ x) (k ∷ ks)
least_bounds k [] = (omega arith, tt)
least_bounds k (j ∷ js) =
    (omega arith, All-weaker (λ x. least (j ∷ js) ≤ x) (λ x. min k (least (j ∷ js)) ≤ x) (λ x a. omega arith) (j ∷ js) (least_bounds j js))

least_both : (ks : List ℕ) → 0 < length ks → ContainsAt ks (least ks) × AllByRecursion (λ x. least ks ≤ x) ks
least_both [] h = absurd (omega arith)
least_both (k ∷ ks) h = (least_has k ks, least_bounds k ks)

pub least_of_known : LeastOfKnown
least_of_known m b = least_both m.known (omega (arith, b.two_sites))
