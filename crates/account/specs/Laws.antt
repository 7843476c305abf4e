-- What holds of the account of every list.
use Rattle.std.specs.Prelude.{◌≡◌, ℕ, ◌<◌, ◌≤◌, true, false, List, ◌++◌, length, take, Some}
use Rattle.std.specs.List.{slice_get}
use Rattle.words.specs.declared.changes.Write.{Write}
use Rattle.words.specs.Messages.{an_edit, message_of}
use Rattle.account.specs.declared.decisions.Decision.{Decision}
use Rattle.account.specs.declared.decisions.Decision.TheVariants.{Conflict, Commit}
use Rattle.account.specs.Account.{Committed, a_commit, meets, horizon, last_version, account_after, decisions, commits_of, commit_of}

-- The decisions of a list's front do not depend on what follows.
abbrev pub FrontStands : Type 0
FrontStands = (n : ℕ) (front rest : List (List ℕ)) → take (length front) (decisions n (front ++ rest)) ≡ decisions n front

-- The horizon never falls, and never passes the last version.
abbrev pub HorizonRises : Type 0
HorizonRises = (n : ℕ) (front rest : List (List ℕ)) →
    (horizon (account_after n front) ≤ horizon (account_after n (front ++ rest)))
    × (horizon (account_after n front) ≤ last_version (account_after n front))

-- No commit above version s and below version v wrote an item of l.
abbrev pub ClearBetween : List Committed → List Write → ℕ → ℕ → Type 0
ClearBetween cs l s v = (w : ℕ) (c : Committed) → s < w → w < v → commit_of cs w ≡ Some c → meets c.writes l ≡ false

-- Place k of the list (from 0) is an edit by h with ticket t, snapshot s and writes l, decided as d.
pub record DecidedEdit (n : ℕ) (ms : List (List ℕ)) (k h t s : ℕ) (l : List Write) (d : Decision) : Type 0 where
  pub words : List ℕ
  pub there : slice_get ms k ≡ Some words
  pub edit : message_of n words ≡ Some (an_edit h t s l)
  pub decided : slice_get (decisions n ms) k ≡ Some d

-- A committed edit is the commit of its version, above its snapshot, and no commit between the two wrote one of its items.
abbrev pub CommitsClear : Type 0
CommitsClear = (n : ℕ) (ms : List (List ℕ)) (k h t s : ℕ) (l : List Write) (v : ℕ) → DecidedEdit n ms k h t s l (Commit v) →
    (s < v) × (commit_of (commits_of n ms) v ≡ Some (a_commit h t l)) × ClearBetween (commits_of n ms) l s v

-- A conflict names a commit above the snapshot that wrote one of the edit's items, and the lowest such.
abbrev pub ConflictsLowest : Type 0
ConflictsLowest = (n : ℕ) (ms : List (List ℕ)) (k h t s : ℕ) (l : List Write) (w : ℕ) → DecidedEdit n ms k h t s l (Conflict w) →
    (s < w) × ((c : Committed) × ((commit_of (commits_of n ms) w ≡ Some c) × (meets c.writes l ≡ true)))
    × ClearBetween (commits_of n ms) l s w
