-- A group by the models of its sites: making it, and a call at one of them.
use Rattle.std.specs.Prelude.{◌≡◌, ℕ, suc, Bool, true, false, ◌&&◌, List, [], ◌∷◌, map, length, Some, None, Ok, Err, vec_items, Option, Result, Vec, slice_set}
use Rattle.std.specs.declared.alloc.Global.{Global}
use Rattle.std.specs.List.{slice_get}
use Rattle.std.specs.Option.{option_map}
use Rattle.words.specs.Bits.{is_group}
use Rattle.site.specs.declared.calls.Response.{Response}
use Rattle.site.specs.declared.refusals.Refusal.{Refusal}
use Rattle.site.specs.SiteModel.{SiteModel}
use Rattle.site.specs.Calls.{Call, Answer, called, landed}
use Rattle.site.specs.Spoken.{heard, is_new}
use Rattle.group.specs.declared.group.Group.{Group}
use Rattle.group.specs.Record.{a_turn}
use Rattle.group.specs.Runs.{Run, GoesOn}

-- The models of the sites, by number.
abbrev pub group_model : {C : Type 0} → (C → SiteModel) → Group C → List SiteModel
group_model model g = map model (vec_items g.sites)

-- Whether these are the sites of a group, each at its number and as it was made.
abbrev pub new_from : ℕ → ℕ → List SiteModel → Bool
new_from n i [] = true
new_from n i (m ∷ ss) = is_new n i m && new_from n (suc i) ss

abbrev pub are_new : List SiteModel → Bool
are_new ss = is_group (length ss) && new_from (length ss) 0 ss

-- A run begins here, whatever the list of messages will be.
abbrev pub Starts : List SiteModel → Type 0
Starts ss = (ms : List (List ℕ)) → Run called (length ss) ms ss []

-- What making gives: a group of these sites, at which a run begins, or the sites back.
abbrev pub Making : {C : Type 0} → (C → SiteModel) → Vec C Global → Result (Group C) (Vec C Global) → Type 0
Making model sites (Ok g) = (g.sites ≡ sites) × (are_new (group_model model g) ≡ true) × Starts (group_model model g)
Making model sites (Err back) = (back ≡ sites) × (are_new (map model (vec_items sites)) ≡ false)

-- A call at a site of the group: its answer, if there is such a site, and all sites afterwards.
abbrev pub called_in : List SiteModel → ℕ → Option SiteModel → Call → Option Answer × List SiteModel
called_in ss i None c = (None, ss)
called_in ss i (Some m) c = (Some (called m c).0, slice_set ss i (called m c).1)

abbrev pub called_at : List SiteModel → ℕ → Call → Option Answer × List SiteModel
called_at ss i c = called_in ss i (slice_get ss i) c

-- A response of the group, with the buffer as it is afterwards.
abbrev pub heard_in : Option (Result Response Refusal) → List ℕ → Option Answer
heard_in r out = option_map (λ x. heard x out) r

abbrev pub landed_in : Option Answer → List ℕ → List ℕ
landed_in None out = out
landed_in (Some a) out = landed a out

-- The law goes on: with its turn, every run that led to the sites before leads to the sites after, and the record is right.
abbrev pub Lawful : List SiteModel → List SiteModel → ℕ → Call → Option Answer → Type 0
Lawful before after i c None = after ≡ before
Lawful before after i c (Some a) = GoesOn before after (a_turn i c a)
