-- The account of a list of messages: what each place decides, and what the decisions leave.
use Rattle.std.specs.Prelude.{ℕ, zero, suc, min, max, Bool, true, false, cond, List, [], ◌∷◌, ◌++◌, length, drop, replicate, Some, None, Option, ◌==◌, nat_lt}
use Rattle.std.specs.List.{slice_get, list_any}
use Rattle.words.specs.declared.changes.Write.{Write}
use Rattle.words.specs.Messages.{MessageValue, an_edit, a_report, message_of}
use Rattle.account.specs.declared.decisions.Decision.{Decision}
use Rattle.account.specs.declared.decisions.Decision.TheVariants.{Void, Noted, Ahead, TooOld, Conflict, Commit}

-- A committed edit: its home site, ticket and writes. The v-th commit of an account has version v.
pub record Committed : Type 0 where
  pub home : ℕ
  pub ticket : ℕ
  pub writes : List Write

abbrev pub a_commit : ℕ → ℕ → List Write → Committed
a_commit h t l = record { home = h; ticket = t; writes = l }

-- The account so far: the commits in order, and each site's known number.
pub record Account : Type 0 where
  pub commits : List Committed
  pub known : List ℕ

abbrev pub an_account : List Committed → List ℕ → Account
an_account cs ks = record { commits = cs; known = ks }

-- The last version, L: the number of commits so far.
abbrev pub last_version : Account → ℕ
last_version a = length a.commits

-- The least of a list of numbers; 0 of none.
abbrev pub least : List ℕ → ℕ
least [] = 0
least (k ∷ []) = k
least (k ∷ (j ∷ js)) = min k (least (j ∷ js))

-- The horizon, H: the least known number. No site reads a version below it any more.
abbrev pub horizon : Account → ℕ
horizon a = least a.known

-- Number i becomes the larger of itself and r.
abbrev pub raise : List ℕ → ℕ → ℕ → List ℕ
raise [] i r = []
raise (k ∷ ks) zero r = max k r ∷ ks
raise (k ∷ ks) (suc i) r = k ∷ raise ks i r

-- Whether one of the writes is to the item.
abbrev pub touches : ℕ → List Write → Bool
touches x l = list_any (λ w. w.item == x) l

-- Whether the two lists of writes have an item in common.
abbrev pub meets : List Write → List Write → Bool
meets l m = list_any (λ w. touches w.item m) l

-- The lowest version above v whose commit writes an item of l; the list holds the commits above v.
abbrev pub lowest_clash : List Write → ℕ → List Committed → Option ℕ
lowest_clash l v [] = None
lowest_clash l v (c ∷ cs) = cond (meets c.writes l) (Some (suc v)) (lowest_clash l (suc v) cs)

-- An edit by its three tests: ahead of the last version, older than the horizon, in conflict.
abbrev pub ruling : Bool → Bool → Option ℕ → ℕ → Decision
ruling true old clash last = Ahead
ruling false true clash last = TooOld
ruling false false (Some w) last = Conflict w
ruling false false None last = Commit (suc last)

-- What the account decides of an edit with snapshot s and writes l.
abbrev pub judged : Account → ℕ → List Write → Decision
judged a s l =
    ruling (nat_lt (last_version a) s) (nat_lt s (horizon a)) (lowest_clash l s (drop s a.commits)) (last_version a)

-- What the account decides of a message, or of words that are none.
abbrev pub decide : Account → Option MessageValue → Decision
decide a None = Void
decide a (Some (a_report i r)) = Noted
decide a (Some (an_edit h t s l)) = judged a s l

-- The commit that a decided message adds, if any.
abbrev pub added : Decision → Option MessageValue → List Committed
added d None = []
added d (Some (a_report i r)) = []
added Void (Some (an_edit h t s l)) = []
added Noted (Some (an_edit h t s l)) = []
added Ahead (Some (an_edit h t s l)) = []
added TooOld (Some (an_edit h t s l)) = []
added (Conflict w) (Some (an_edit h t s l)) = []
added (Commit v) (Some (an_edit h t s l)) = a_commit h t l ∷ []

-- The known numbers after a message: a report of r counts as r, but as no more than the last version.
abbrev pub heard : Account → Option MessageValue → List ℕ
heard a None = a.known
heard a (Some (a_report i r)) = raise a.known i (min r (last_version a))
heard a (Some (an_edit h t s l)) = a.known

-- The account after one more message.
abbrev pub next : Account → Option MessageValue → Account
next a m = an_account (a.commits ++ added (decide a m) m) (heard a m)

-- The account of n sites before any message.
abbrev pub opening : ℕ → Account
opening n = an_account [] (replicate n 0)

-- The account, and the decisions, of messages that follow upon an account; each message is its words.
abbrev pub after_from : ℕ → Account → List (List ℕ) → Account
after_from n a [] = a
after_from n a (ws ∷ ms) = after_from n (next a (message_of n ws)) ms

abbrev pub decisions_from : ℕ → Account → List (List ℕ) → List Decision
decisions_from n a [] = []
decisions_from n a (ws ∷ ms) = decide a (message_of n ws) ∷ decisions_from n (next a (message_of n ws)) ms

-- The account of a whole list in a group of n sites: where it ends, its decisions by place, and its commits.
abbrev pub account_after : ℕ → List (List ℕ) → Account
account_after n ms = after_from n (opening n) ms

abbrev pub decisions : ℕ → List (List ℕ) → List Decision
decisions n ms = decisions_from n (opening n) ms

abbrev pub commits_of : ℕ → List (List ℕ) → List Committed
commits_of n ms = (account_after n ms).commits

-- The commit of a version, if there is one: versions count from 1.
abbrev pub commit_of : List Committed → ℕ → Option Committed
commit_of cs zero = None
commit_of cs (suc v) = slice_get cs v
