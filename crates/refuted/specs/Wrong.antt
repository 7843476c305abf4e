-- Wrong ways to act: each slips at one point, and is right at all others.
use Rattle.std.specs.Prelude.{ℕ, suc, ◌+◌, ◌-◌, min, max, false, List, [], drop, nat_lt}
use Rattle.words.specs.declared.changes.Write.{Write}
use Rattle.account.specs.declared.decisions.Decision.{Decision}
use Rattle.account.specs.declared.decisions.Decision.TheVariants.{Conflict}
use Rattle.account.specs.Account.{ruling}
use Rattle.store.specs.StoreModel.{a_store}
use Rattle.logs.specs.LogModel.{LogModel, last_version, least, trimmed, held, marks, a_log, with_entries}
use Rattle.site.specs.Slots.{SlotModel, posted, decided}
use Rattle.site.specs.Certify.{clash_above}
use Rattle.site.specs.SiteModel.{horizon}
use Rattle.group.specs.Runs.{Acting, Law}
use Rattle.refuted.specs.Ways.{right_ways, acts_by}

-- The law is false of sites that act so.
abbrev pub Refuted : Acting → Type 0
Refuted act = Law act → ⊥

-- Takes for too old what is below the floor of its own log, not below the least known number: whoever has trimmed less decides otherwise.
abbrev pub judged_by_floor : LogModel → ℕ → List Write → Decision
judged_by_floor m s l = ruling (nat_lt (last_version m) s) (nat_lt s m.floor) (clash_above m s l) (last_version m)

abbrev pub by_floor : Acting
by_floor = acts_by (record right_ways { judges = judged_by_floor })

-- Takes the snapshot's own commit for a conflict, though the draft has read it.
abbrev pub judged_from_own : LogModel → ℕ → List Write → Decision
judged_from_own m s l = ruling (nat_lt (last_version m) s) (nat_lt s (least m.known)) (clash_above m (s - 1) l) (last_version m)

abbrev pub counting_own_commit : Acting
counting_own_commit = acts_by (record right_ways { judges = judged_from_own })

-- Commits nothing: every edit is told to be in conflict with version 1.
abbrev pub all_in_conflict : Acting
all_in_conflict = acts_by (record right_ways { judges = λ m s l. Conflict 1 })

-- Tells the version after that of the commit.
abbrev pub judged_one_above : LogModel → ℕ → List Write → Decision
judged_one_above m s l = ruling (nat_lt (last_version m) s) (nat_lt s (least m.known)) (clash_above m s l) (suc (last_version m))

abbrev pub made_up_version : Acting
made_up_version = acts_by (record right_ways { judges = judged_one_above })

-- Delivers between entry pages and the closing page, with a place and known numbers that lag behind its entries.
abbrev pub while_partial : Acting
while_partial = acts_by (record right_ways { bars = λ k. false })

-- Drops entries above the horizon, with which an edit that is not too old may be in conflict.
abbrev pub trimming_to_last : Acting
trimming_to_last = acts_by (record right_ways { trims = λ m. trimmed m.log (last_version m.log) })

-- Drops one entry more than the floor says, so that each later entry stands at its neighbour's version.
abbrev pub one_more_from : LogModel → ℕ → LogModel
one_more_from l v = a_log (with_entries (held l) (max l.floor v) (drop (suc v - l.floor) l.entries)) (marks l)

abbrev pub dropping_one_more : Acting
dropping_one_more = acts_by (record right_ways { trims = λ m. one_more_from m.log (min (horizon m) m.store.version) })

-- Counts a version as sealed, and loses what was staged for it.
abbrev pub sealing_nothing : Acting
sealing_nothing = acts_by (record right_ways { seals = λ m. a_store m.capacity (m.version + 1) m.sealed [] })

-- Reads versions that were sealed after the draft began.
abbrev pub reading_at_present : Acting
reading_at_present = acts_by (record right_ways { reads_at = λ m e. m.store.version })

-- Prunes what an open draft still reads.
abbrev pub pruning_to_present : Acting
pruning_to_present = acts_by (record right_ways { prunes_to = λ m. m.store.version })

-- Settles a posted edit by whatever is delivered next, whoever posted that.
abbrev pub settled_by_any : ℕ → List ℕ → Decision → SlotModel → SlotModel
settled_by_any i ws d (posted e) = decided e.ticket d
settled_by_any i ws d s = s

abbrev pub settling_by_any : Acting
settling_by_any = acts_by (record right_ways { settles = settled_by_any })
