-- The horizon: it never falls, and never passes the last version.
use Rattle.std.proofs.Common.{ℕ, zero, suc, ◌≤◌, min, List, [], ◌∷◌, replicate, Some, None, Option, arith, length-append}
use Rattle.words.specs.Messages.{MessageValue, an_edit, a_report, message_of}
use Rattle.account.specs.Account.{Account, least, raise, horizon, last_version, decide, added, heard, next, opening, after_from, account_after}
use Rattle.account.specs.Laws.{HorizonRises}
use Rattle.account.proofs.Steps.{after_append}

-- raising one number of a list
pub least_raise : (ks : List ℕ) (i r : ℕ) → least ks ≤ least (raise ks i r)
least_raise [] i r = omega arith
least_raise (k ∷ []) zero r = omega arith
least_raise (k ∷ []) (suc i) r = omega arith
least_raise (k ∷ (j ∷ js)) zero r = omega arith
least_raise (k ∷ (j ∷ js)) (suc i) r = under k (j ∷ js) i r (least_raise (j ∷ js) i r)
  where
    under : (k : ℕ) (js : List ℕ) (i r : ℕ) → least js ≤ least (raise js i r) → least (k ∷ js) ≤ least (k ∷ raise js i r)
    under k [] i r h = omega arith
    under k (j ∷ []) zero r h = omega arith
    under k (j ∷ []) (suc i) r h = omega arith
    under k (j ∷ (l ∷ ls)) zero r h = omega arith
    under k (j ∷ (l ∷ ls)) (suc i) r h = omega arith

pub horizon_next : (a : Account) (m : Option MessageValue) → horizon a ≤ horizon (next a m)
horizon_next a None = omega arith
horizon_next a (Some (an_edit h t s l)) = omega arith
horizon_next a (Some (a_report i r)) = least_raise a.known i (min r (last_version a))

horizon_after : (n : ℕ) (a : Account) (ms : List (List ℕ)) → horizon a ≤ horizon (after_from n a ms)
horizon_after n a [] = omega arith
horizon_after n a (x ∷ ms) = omega (arith, horizon_next a (message_of n x), horizon_after n (next a (message_of n x)) ms)

-- no known number is above the last version
abbrev pub AllUpTo : ℕ → List ℕ → Type 0
AllUpTo top [] = Unit {0}
AllUpTo top (k ∷ ks) = (k ≤ top) × AllUpTo top ks

up_to_more : (top more : ℕ) (ks : List ℕ) → top ≤ more → AllUpTo top ks → AllUpTo more ks
up_to_more top more [] h u = tt
up_to_more top more (k ∷ ks) h u = (omega (arith, u.0), up_to_more top more ks h u.1)

up_to_raise : (top : ℕ) (ks : List ℕ) (i r : ℕ) → r ≤ top → AllUpTo top ks → AllUpTo top (raise ks i r)
up_to_raise top [] i r h u = tt
up_to_raise top (k ∷ ks) zero r h u = (omega (arith, u.0), u.1)
up_to_raise top (k ∷ ks) (suc i) r h u = (u.0, up_to_raise top ks i r h u.1)

up_to_least : (top : ℕ) (ks : List ℕ) → AllUpTo top ks → least ks ≤ top
up_to_least top [] u = omega arith
up_to_least top (k ∷ []) u = u.0
up_to_least top (k ∷ (j ∷ js)) u = omega (arith, u.0)

up_to_none : (n : ℕ) → AllUpTo 0 (replicate n 0)
up_to_none zero = tt
up_to_none (suc n) = (omega arith, up_to_none n)

up_to_next : (a : Account) (m : Option MessageValue) → AllUpTo (last_version a) a.known → AllUpTo (last_version (next a m)) (next a m).known
up_to_next a m u =
    up_to_more (last_version a) _ (heard a m) (omega (arith, length-append a.commits (added (decide a m) m))) (known m)
  where
    known : (m : Option MessageValue) → AllUpTo (last_version a) (heard a m)
    known None = u
    known (Some (an_edit h t s l)) = u
    known (Some (a_report i r)) = up_to_raise (last_version a) a.known i (min r (last_version a)) (omega arith) u

up_to_after : (n : ℕ) (a : Account) (ms : List (List ℕ)) → AllUpTo (last_version a) a.known → AllUpTo (last_version (after_from n a ms)) (after_from n a ms).known
up_to_after n a [] u = u
up_to_after n a (x ∷ ms) u = up_to_after n (next a (message_of n x)) ms (up_to_next a (message_of n x) u)

pub known_up_to_last : (n : ℕ) (ms : List (List ℕ)) → AllUpTo (last_version (account_after n ms)) (account_after n ms).known
known_up_to_last n ms = up_to_after n (opening n) ms (up_to_none n)

pub horizon_rises : HorizonRises
horizon_rises n front rest = (
  rw (after_append n (opening n) front rest) (horizon_after n (account_after n front) rest),
  up_to_least _ _ (known_up_to_last n front),
)
