-- Runs: from fresh sites, one call after another, each answered and left as its contract says.
use Rattle.std.specs.Prelude.{◌≡◌, ℕ, true, List, [], ◌∷◌, length, Some, slice_set}
use Rattle.std.specs.List.{slice_get, Contains}
use Rattle.words.specs.Bits.{is_group}
use Rattle.account.specs.declared.decisions.Decision.{Decision}
use Rattle.store.specs.StoreModel.{StoreModel, Bounded as StoreBounded}
use Rattle.logs.specs.LogModel.{LogModel, Bounded as LogBounded}
use Rattle.site.specs.SiteModel.{SiteModel}
use Rattle.site.specs.Making.{can_make, new_site}
use Rattle.site.specs.Calls.{Call, Deliver, Page, Take, Answer, Told, Done, Wrote, called}
use Rattle.group.specs.Record.{Turn, a_turn}
use Rattle.group.specs.Law.{at_place, RecordRight, LogsRight}

-- Site i of a group of n as it is made: over any fresh store and any fresh log of n sites, of any capacity and any costs.
pub record Fresh (n i : ℕ) (m : SiteModel) : Type 0 where
  pub store : StoreModel
  pub log : LogModel
  pub makeable : can_make i store log ≡ true
  pub size : length log.known ≡ n
  pub store_bounded : StoreBounded store
  pub log_bounded : LogBounded log
  pub new : m ≡ new_site i store log

pub record FreshGroup (n : ℕ) (ss : List SiteModel) : Type 0 where
  pub size : is_group n ≡ true
  pub one_each : length ss ≡ n
  pub fresh : (i : ℕ) (m : SiteModel) → slice_get ss i ≡ Some m → Fresh n i m

-- What is supposed of a turn: a delivery that is carried out hands in the words of its place, and a page that is taken was
-- written earlier in the run.
pub record Supposed (ms : List (List ℕ)) (ts : List Turn) (t : Turn) : Type 0 where
  pub delivers : (p : ℕ) (ws : List ℕ) (d : Decision) → t.call ≡ Deliver p ws → t.answer ≡ Told d → at_place ms p ≡ Some ws
  pub takes : (ws : List ℕ) → t.call ≡ Take ws → t.answer ≡ Done → (i v room : ℕ) × Contains ts (a_turn i (Page v room) (Wrote ws))

-- What a site answers to a call, and what it is afterwards.
abbrev pub Acting : Type 0
Acting = SiteModel → Call → Answer × SiteModel

-- The runs of a group of n sites over a list of messages: the sites as they stand, and the record so far.
pub data Run (act : Acting) (n : ℕ) (ms : List (List ℕ)) : List SiteModel → List Turn → Type 0 where
  starts : {ss : List SiteModel} → FreshGroup n ss → Run act n ms ss []
  goes : {ss : List SiteModel} {ts : List Turn} (i : ℕ) (m : SiteModel) (c : Call) → Run act n ms ss ts → slice_get ss i ≡ Some m →
      Supposed ms ts (a_turn i c (act m c).0) → Run act n ms (slice_set ss i (act m c).1) (a_turn i c (act m c).0 ∷ ts)

-- The law of sites that act so: in every run the record is right, and so is every log.
abbrev pub Law : Acting → Type 0
Law act =
    (n : ℕ) (ms : List (List ℕ)) (ss : List SiteModel) (ts : List Turn) → Run act n ms ss ts → RecordRight n ms ts × LogsRight n ms ss

-- The law of the sites that are built: they act as the contracts of their calls say.
abbrev pub RunLaw : Type 0
RunLaw = Law called

-- A turn goes on with every run that led to the sites before it: the run then leads to the sites after it, and the law holds.
abbrev pub GoesOn : List SiteModel → List SiteModel → Turn → Type 0
GoesOn before after t = (n : ℕ) (ms : List (List ℕ)) (ts : List Turn) → Run called n ms before ts → Supposed ms ts t →
    Run called n ms after (t ∷ ts) × RecordRight n ms (t ∷ ts) × LogsRight n ms after
