-- Lists with one element set or each one changed, and the slot of a handle.
use Rattle.std.proofs.Common.{◌≡◌, ℕ, zero, suc, ◌≤◌, min, true, ◌⊎◌, List, [], ◌∷◌, map, set, replicate, Some, sym, refl, arith}
use Rattle.std.specs.List.{slice_get}
use Rattle.std.proofs.lemmas.Bool.Decides.{nat_tests}
use Rattle.account.specs.declared.decisions.Decision.{Decision}
use Rattle.site.specs.declared.handles.Handle.{Handle}
use Rattle.site.specs.Handles.{a_handle}
use Rattle.site.specs.Edits.{EditModel}
use Rattle.site.specs.Slots.{SlotModel, opened, posted, decided, least_needed}
use Rattle.site.specs.SiteModel.{SiteModel}
use Rattle.site.specs.Calls.{drafted, awaited}
use Rattle.site.proofs.SlotLaws.{needed_within}

module _ {X : Type 0} where
  -- what stands in a list with one element set: that element at its place, or what stood there
  pub set_each : (P : ℕ → X → Type 0) (xs : List X) (j : ℕ) (a : X) → ((k : ℕ) (x : X) → (k ≡ j → ⊥) → slice_get xs k ≡ Some x → P k x) → P j a →
      (k : ℕ) (x : X) → slice_get (set xs j a) k ≡ Some x → P k x
  set_each P [] j a f p k x e = cc
  set_each P (y ∷ xs) zero a f p zero x e = let q : a ≡ x = cc in rw (sym q) p
  set_each P (y ∷ xs) zero a f p (suc k) x e = f (suc k) x (λ q. omega arith) e
  set_each P (y ∷ xs) (suc j) a f p zero x e = f zero x (λ q. omega arith) e
  set_each P (y ∷ xs) (suc j) a f p (suc k) x e =
      set_each (λ i. P (suc i)) xs j a (λ i b n. f (suc i) b (λ q. n (omega arith))) p k x e

  pub map_each : (P : ℕ → X → Type 0) (f : X → X) (xs : List X) → ((k : ℕ) (x : X) → slice_get xs k ≡ Some x → P k (f x)) →
      (k : ℕ) (x : X) → slice_get (map f xs) k ≡ Some x → P k x
  map_each P f [] g k x e = cc
  map_each P f (y ∷ xs) g zero x e = let q : f y ≡ x = cc in rw (sym q) (g zero y refl)
  map_each P f (y ∷ xs) g (suc k) x e = map_each (λ i. P (suc i)) f xs (λ i b q. g (suc i) b q) k x e

  pub replicate_each : (P : ℕ → X → Type 0) (n : ℕ) (a : X) → ((k : ℕ) → P k a) → (k : ℕ) (x : X) → slice_get (replicate n a) k ≡ Some x → P k x
  replicate_each P zero a f k x e = cc
  replicate_each P (suc n) a f zero x e = let q : a ≡ x = cc in rw (sym q) (f zero)
  replicate_each P (suc n) a f (suc k) x e = replicate_each (λ i. P (suc i)) n a (λ i. f (suc i)) k x e

-- The slot of a draft, and of a posted edit

-- A slot that holds the edit of a handle.
pub record HoldsEdit (m : SiteModel) (h : Handle) (s : SlotModel) (t : ℕ) : Type 0 where
  pub there : slice_get m.slots h.slot ≡ Some s
  pub handle : h ≡ a_handle m.number h.slot t

pub draft_slot : (m : SiteModel) (h : Handle) (e : EditModel) → drafted m h ≡ Some e → HoldsEdit m h (opened e) e.ticket
draft_slot m h e d = grind (arith, nat_tests)

pub awaited_slot : (m : SiteModel) (h : Handle) → awaited m h ≡ true →
    ((e : EditModel) × HoldsEdit m h (posted e) e.ticket) ⊎ ((u : ℕ) × (d : Decision) × HoldsEdit m h (decided u d) u)
awaited_slot m h a = grind (arith, nat_tests)

-- Versions that slots need: a bound below the snapshots of open and posted slots

abbrev pub NeedsFrom : ℕ → SlotModel → Type 0
NeedsFrom v (opened e) = v ≤ e.snapshot
NeedsFrom v (posted e) = v ≤ e.snapshot
NeedsFrom v _ = Unit {0}

pub needed_from : (v : ℕ) (ss : List SlotModel) (k : ℕ) (s : SlotModel) → slice_get ss k ≡ Some s → NeedsFrom (least_needed v ss) s
needed_from v [] k s e = cc
needed_from v (opened x ∷ ss) zero s e = let low = needed_within (min v x.snapshot) ss in grind arith
needed_from v (posted x ∷ ss) zero s e = let low = needed_within (min v x.snapshot) ss in grind arith
needed_from v (x ∷ ss) zero s e = grind arith
needed_from v (opened x ∷ ss) (suc k) s e = needed_from (min v x.snapshot) ss k s e
needed_from v (posted x ∷ ss) (suc k) s e = needed_from (min v x.snapshot) ss k s e
needed_from v (_ ∷ ss) (suc k) s e = needed_from v ss k s e

pub needed_above : (low v : ℕ) (ss : List SlotModel) → low ≤ v → ((k : ℕ) (s : SlotModel) → slice_get ss k ≡ Some s → NeedsFrom low s) → low ≤ least_needed v ss
needed_above low v [] h f = h
needed_above low v (opened x ∷ ss) h f = needed_above low (min v x.snapshot) ss (omega (arith, f 0 (opened x) refl)) (λ k. f (suc k))
needed_above low v (posted x ∷ ss) h f = needed_above low (min v x.snapshot) ss (omega (arith, f 0 (posted x) refl)) (λ k. f (suc k))
needed_above low v (_ ∷ ss) h f = needed_above low v ss h (λ k. f (suc k))
