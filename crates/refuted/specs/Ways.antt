-- Ways to act: `called` with the points at which a site may slip left open.
use Rattle.std.specs.Prelude.{◌≡◌, ℕ, ◌+◌, min, Bool, false, not, ◌&&◌, List, [], ◌∷◌, map, Some, None, Option, nat_le}
use Rattle.words.specs.declared.changes.Write.{Write}
use Rattle.words.specs.Messages.{MessageValue, an_edit, a_report, message_of}
use Rattle.account.specs.declared.decisions.Decision.{Decision}
use Rattle.account.specs.declared.decisions.Decision.TheVariants.{Void, Noted}
use Rattle.store.specs.StoreModel.{StoreModel, read_at, sealed_up, pruned_to}
use Rattle.logs.specs.LogModel.{LogModel, an_entry, entry_at, write_of, can_commit, passed, trimmed}
use Rattle.site.specs.declared.modes.Mode.{Mode}
use Rattle.site.specs.Edits.{EditModel, own_change}
use Rattle.site.specs.Slots.{SlotModel, settled}
use Rattle.site.specs.Certify.{judged_by, kept, is_commit, heard_by}
use Rattle.site.specs.SiteModel.{SiteModel, with_store, with_log, with_slots, with_change, keep, horizon}
use Rattle.site.specs.Calls.{Call, Read, Deliver, Step, Trim, Prune, Answer, Declined, Value, Done, Told, Sealed, Line, on, first, table, is_down, is_partial, is_beyond, drafted, edit_or, own_or, stepped_in, stepped, called}
use Rattle.group.specs.Runs.{Acting}

-- What a site does at each of these points.
pub record Ways : Type 0 where
  -- how an edit of a snapshot and writes is decided by the log
  pub judges : LogModel → ℕ → List Write → Decision
  -- in which modes a delivery is declined, beside down
  pub bars : Mode → Bool
  -- what a delivery of words and its decision make of a slot of a site
  pub settles : ℕ → List ℕ → Decision → SlotModel → SlotModel
  -- what sealing makes of a store
  pub seals : StoreModel → StoreModel
  -- at which version a draft reads
  pub reads_at : SiteModel → EditModel → ℕ
  -- what trimming makes of the log
  pub trims : SiteModel → LogModel
  -- to which version pruning goes
  pub prunes_to : SiteModel → ℕ

-- What a log decides of a message, or of words that are none; whether it commits and is declined; and the log after it.
abbrev pub decides : Ways → LogModel → Option MessageValue → Decision
decides w l None = Void
decides w l (Some (a_report i r)) = Noted
decides w l (Some (an_edit h t s ws)) = w.judges l s ws

abbrev pub refuses : Ways → LogModel → Option MessageValue → Bool
refuses w l None = false
refuses w l (Some (a_report i r)) = false
refuses w l (Some (an_edit h t s ws)) = is_commit (w.judges l s ws) && not (can_commit l (an_entry h t ws))

abbrev pub keeps : Ways → LogModel → Option MessageValue → LogModel
keeps w l None = passed l
keeps w l (Some (a_report i r)) = heard_by l i r
keeps w l (Some (an_edit h t s ws)) = kept l (an_entry h t ws) (w.judges l s ws)

-- A delivery: the lines of its table, and what it answers and leaves.
abbrev pub lines : Ways → SiteModel → ℕ → List ℕ → List Line
lines w m p ws =
    on 1 (is_down m.mode) ∷ (on 2 (w.bars m.mode) ∷ (on 11 (nat_le p m.log.place) ∷ (on 12 (is_beyond m.log.place p)
    ∷ (on 13 (refuses w m.log (message_of m.sites ws)) ∷ []))))

abbrev pub delivered : Ways → SiteModel → List ℕ → Option MessageValue → Answer × SiteModel
delivered w m ws x =
    (Told (decides w m.log x), with_slots (with_log m (keeps w m.log x)) (map (w.settles m.number ws (decides w m.log x)) m.slots))

-- A step: only the one after the last write is left open.
abbrev pub steps_in : Ways → SiteModel → ℕ → Option Write → Answer × SiteModel
steps_in w m k None = (Sealed, with_change (with_store m (w.seals m.store)) None)
steps_in w m k (Some x) = stepped_in m k (Some x)

abbrev pub steps : Ways → SiteModel → Option ℕ → Answer × SiteModel
steps w m None = stepped m None
steps w m (Some k) = steps_in w m k (write_of (entry_at m.log (m.store.version + 1)) k)

-- A call is declined by the first line that applies, with all as it was, or carried out.
abbrev pub unless : Option ℕ → SiteModel → Answer × SiteModel → Answer × SiteModel
unless (Some n) m r = (Declined n, m)
unless None m r = r

abbrev pub acts_by : Ways → Acting
acts_by w m (Read h x) = unless (first (table m (Read h x))) m
    (Value (own_or (own_change (edit_or (drafted m h)).writes x) (read_at m.store x (w.reads_at m (edit_or (drafted m h))))), m)
acts_by w m (Deliver p ws) = unless (first (lines w m p ws)) m (delivered w m ws (message_of m.sites ws))
acts_by w m Step = unless (first (table m Step)) m (steps w m m.change)
acts_by w m Trim = unless (first (table m Trim)) m (Done, with_log m (w.trims m))
acts_by w m Prune = unless (first (table m Prune)) m (Done, with_store m (pruned_to (w.prunes_to m) m.store))
acts_by w m c = called m c

-- What a site that acts by `called` does at these points.
abbrev pub right_ways : Ways
right_ways = record {
  judges = judged_by;
  bars = is_partial;
  settles = settled;
  seals = sealed_up;
  reads_at = λ m e. e.snapshot;
  trims = λ m. trimmed m.log (min (horizon m) m.store.version);
  prunes_to = keep;
}

-- With these the way to act is `called`.
abbrev pub ActsRight : Type 0
ActsRight = (m : SiteModel) (c : Call) → acts_by right_ways m c ≡ called m c
