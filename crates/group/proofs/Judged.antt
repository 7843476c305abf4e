-- What a log decides is what the account decides, and an edit is rightly told.
use Rattle.std.proofs.Common.{◌≡◌, ℕ, suc, ◌+◌, ◌-◌, ◌≤◌, max, List, ◌++◌, map, length, take, drop, Some, None, Option, sym, refl, ap, ◌∙◌, arith}
use lib.Seq.{drop-append-add}
use Rattle.std.specs.List.{slice_get}
use Rattle.std.proofs.lemmas.List.{length-append, length-map}
use Rattle.std.proofs.lemmas.Bool.Decides.{nat_tests}
use Rattle.words.specs.declared.changes.Write.{Write}
use Rattle.words.specs.Messages.{MessageValue, an_edit, message_of}
use Rattle.account.specs.declared.decisions.Decision.{Decision}
use Rattle.account.specs.Account.{Committed, an_account, lowest_clash, judged, decide, account_after, decisions}
use Rattle.account.proofs.Steps.{before, decided_there}
use Rattle.account.proofs.Clashes.{commits_clear, conflicts_lowest}
use Rattle.logs.specs.LogModel.{LogModel, last_version, least}
use Rattle.site.specs.Certify.{as_commit, clash_above, judged_by, certified}
use Rattle.group.specs.Law.{DecidesRight}
use Rattle.group.proofs.Leasts.{same_least}

-- a log whose entries follow on the commits up to its floor
module _ (l : LogModel) (past : List Committed) (counts : length past ≡ l.floor) where
  abbrev commits : List Committed
  commits = past ++ map as_commit l.entries

  pub last_is : length commits ≡ last_version l
  last_is = simp (length-append, length-map, counts)

  same_clash : (s : ℕ) (ws : List Write) → l.floor ≤ s → clash_above l s ws ≡ lowest_clash ws s (drop s commits)
  same_clash s ws h =
      let a : max s l.floor ≡ s = omega arith in
      let b : s ≡ length past + (s - l.floor) = omega arith in
      ap (λ v. lowest_clash ws v (drop (s - l.floor) (map as_commit l.entries))) a
      ∙ ap (lowest_clash ws s) (sym (ap (λ k. drop k commits) b ∙ drop-append-add past (map as_commit l.entries) (s - l.floor)))

  -- the floor is not above the horizon
  module _ (low : l.floor ≤ least l.known) where
    same_judged : (s : ℕ) (ws : List Write) → judged_by l s ws ≡ judged (an_account commits l.known) s ws
    same_judged s ws =
        let clash = same_clash s ws in
        let last = last_is in
        let least = same_least l.known in
        grind (arith, nat_tests)

    pub certified_is : (o : Option MessageValue) → certified l o ≡ decide (an_account commits l.known) o
    certified_is (Some (an_edit h t s ws)) = same_judged s ws
    certified_is None = refl
    certified_is (Some m) = refl

-- what the account decides at a place
pub decides_right : (n : ℕ) (ms : List (List ℕ)) (k : ℕ) (ws : List ℕ) (d : Decision) → slice_get ms k ≡ Some ws →
    d ≡ decide (account_after n (take k ms)) (message_of n ws) → DecidesRight n ms (suc k) ws d
unfolding before
decides_right n ms k ws d there e =
    let decided : slice_get (decisions n ms) k ≡ Some d = decided_there n ms k ws there ∙ ap Some (sym e) in
    record {
      account = decided;
      edit = λ h t s l edit. record {
        commits = λ v f. commits_clear n ms k h t s l v (record { words = ws; there = there; edit = edit; decided = decided ∙ ap Some f });
        conflicts = λ w f. conflicts_lowest n ms k h t s l w (record { words = ws; there = there; edit = edit; decided = decided ∙ ap Some f });
      };
    }
