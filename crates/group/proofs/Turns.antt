-- What one more turn leaves of what the record says of a handle.
use Rattle.std.proofs.Common.{◌≡◌, ℕ, false, List, ◌∷◌, arith}
use Rattle.std.proofs.lemmas.Bool.Decides.{nat_tests}
use Rattle.site.specs.declared.handles.Handle.{Handle}
use Rattle.site.specs.Calls.{same_handle}
use Rattle.group.specs.Record.{Turn, Deed, began, wrote, posted, deed, snapshot, last_write, posted_as, first_told}

-- The record says the same of a handle.
pub record Same (h : Handle) (ts us : List Turn) : Type 0 where
  pub begun : snapshot h us ≡ snapshot h ts
  pub written : (x : ℕ) → last_write h x us ≡ last_write h x ts
  pub sent : posted_as h us ≡ posted_as h ts
  pub told : first_told h us ≡ first_told h ts

-- A deed of a handle, and one that is of a handle of the site, if of any.
abbrev pub About : Handle → Deed → Type 0
About h (began b) = b ≡ h
About h (wrote b w) = b ≡ h
About h (posted b ws) = b ≡ h
About h _ = ⊥

abbrev pub OfSite : ℕ → Deed → Type 0
OfSite i (began b) = b.site ≡ i
OfSite i (wrote b w) = b.site ≡ i
OfSite i (posted b ws) = b.site ≡ i
OfSite i _ = Unit {0}

pub same_about : (a h : Handle) (ts : List Turn) (t : Turn) → About a (deed t) → same_handle a h ≡ false → Same h ts (t ∷ ts)
same_about a h ts t e n = grind (arith, nat_tests)

pub same_elsewhere : (h : Handle) (ts : List Turn) (t : Turn) → OfSite t.site (deed t) → (t.site ≡ h.site → ⊥) → Same h ts (t ∷ ts)
same_elsewhere h ts t e n = grind (arith, nat_tests)
