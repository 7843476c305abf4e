-- The account, one message after another.
use Rattle.std.proofs.Common.{◌≡◌, ℕ, suc, List, [], ◌∷◌, ◌++◌, length, take, drop, Some, sym, refl, ap, ◌∙◌, arith}
use Rattle.std.specs.List.{slice_get}
use Rattle.std.proofs.lemmas.List.{append_assoc, append-nil, length-take-le, take_at}
use Rattle.words.specs.Messages.{message_of}
use Rattle.account.specs.Account.{Account, Committed, decide, added, next, opening, after_from, decisions_from, account_after, decisions, commits_of}
use Rattle.account.specs.Laws.{FrontStands}
use Rattle.account.proofs.Places.{nth_within, nth_at, nth_parts}

module _ (n : ℕ) where
  pub after_append : (a : Account) (xs ys : List (List ℕ)) → after_from n a (xs ++ ys) ≡ after_from n (after_from n a xs) ys
  after_append a [] ys = refl
  after_append a (x ∷ xs) ys = after_append (next a (message_of n x)) xs ys

  pub decisions_append : (a : Account) (xs ys : List (List ℕ)) →
      decisions_from n a (xs ++ ys) ≡ decisions_from n a xs ++ decisions_from n (after_from n a xs) ys
  decisions_append a [] ys = refl
  decisions_append a (x ∷ xs) ys = ap (λ ds. decide a (message_of n x) ∷ ds) (decisions_append (next a (message_of n x)) xs ys)

  decisions_count : (a : Account) (ms : List (List ℕ)) → length (decisions_from n a ms) ≡ length ms
  decisions_count a [] = refl
  decisions_count a (x ∷ ms) = ap suc (decisions_count (next a (message_of n x)) ms)

  -- commits are only added
  pub commits_grow : (a : Account) (ms : List (List ℕ)) → (rest : List Committed) × ((after_from n a ms).commits ≡ a.commits ++ rest)
  commits_grow a [] = ([], sym (append-nil a.commits))
  commits_grow a (x ∷ ms) =
      let m = message_of n x in
      let k = commits_grow (next a m) ms in
      (added (decide a m) m ++ k.0, k.1 ∙ append_assoc a.commits (added (decide a m) m) k.0)

  -- the account before a place, its decision there, and the commits from there on
  unfoldable pub before : List (List ℕ) → ℕ → Account
  before ms k = account_after n (take k ms)

  module _ (ms : List (List ℕ)) (k : ℕ) (ws : List ℕ) (e : slice_get ms k ≡ Some ws) where
    within : length (take k ms) ≡ k
    within = let h = nth_within ms k ws e in length-take-le k ms (omega arith)

    parted : ms ≡ take k ms ++ (ws ∷ drop (suc k) ms)
    parted = nth_parts ms k ws e

    pub decided_there : slice_get (decisions n ms) k ≡ Some (decide (before ms k) (message_of n ws))
    unfolding before
    decided_there =
        ap (λ l. slice_get (decisions n l) k) parted
        ∙ ap (λ ds. slice_get ds k) (decisions_append (opening n) (take k ms) (ws ∷ drop (suc k) ms))
        ∙ ap (λ j. slice_get (decisions n (take k ms) ++ decisions_from n (account_after n (take k ms)) (ws ∷ drop (suc k) ms)) j)
        (sym within ∙ sym (decisions_count (opening n) (take k ms)))
        ∙ nth_at (decisions n (take k ms)) (decisions_from n (next (account_after n (take k ms)) (message_of n ws)) (drop (suc k) ms)) (decide (before ms k) (message_of n ws))

    pub commits_there : (rest : List Committed) ×
        (commits_of n ms ≡ ((before ms k).commits ++ added (decide (before ms k) (message_of n ws)) (message_of n ws)) ++ rest)
    unfolding before
    commits_there =
        let g = commits_grow (next (before ms k) (message_of n ws)) (drop (suc k) ms) in
        (g.0, ap (λ l. (account_after n l).commits) parted ∙ ap (λ a. a.commits) (after_append (opening n) (take k ms) (ws ∷ drop (suc k) ms)) ∙ g.1)

pub front_stands : FrontStands
front_stands n front rest =
    ap (take (length front)) (decisions_append n (opening n) front rest)
    ∙ take_at (decisions n front) _ (length front) (decisions_count n (opening n) front)
