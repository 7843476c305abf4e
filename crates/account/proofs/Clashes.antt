-- Commits and conflicts: what stands between an edit's snapshot and its decision.
use Rattle.std.proofs.Common.{◌≡◌, ℕ, zero, suc, ◌+◌, ◌-◌, ◌<◌, ◌≤◌, Bool, true, false, cond, ltb, List, [], ◌∷◌, ◌++◌, length, drop, Some, None, Option, sym, refl, ap, ◌∙◌, arith}
use Rattle.std.specs.List.{slice_get}
use Rattle.std.proofs.lemmas.List.{append_assoc}
use Rattle.std.proofs.lemmas.Bool.{ltb-false}
use Rattle.words.specs.declared.changes.Write.{Write}
use Rattle.words.specs.Messages.{an_edit, message_of}
use Rattle.account.specs.declared.decisions.Decision.{Decision}
use Rattle.account.specs.declared.decisions.Decision.TheVariants.{Conflict, Commit}
use Rattle.account.specs.Account.{Account, Committed, a_commit, meets, lowest_clash, ruling, decide, added, horizon, last_version, commits_of, commit_of}
use Rattle.account.specs.Laws.{DecidedEdit, CommitsClear, ConflictsLowest}
use Rattle.account.proofs.Places.{nth_within, nth_front, nth_at, nth_drop, same_some}
use Rattle.account.proofs.Steps.{before, decided_there, commits_there}

-- the tests behind a ruling
ruling_commit : (ahead old : Bool) (clash : Option ℕ) (last v : ℕ) → ruling ahead old clash last ≡ Commit v →
    (ahead ≡ false) × (clash ≡ None) × (v ≡ suc last)
ruling_commit true old clash last v e = absurd (let z : ◌≡◌ {A = ℕ} 0 1 = cc in omega arith)
ruling_commit false true clash last v e = absurd (let z : ◌≡◌ {A = ℕ} 0 1 = cc in omega arith)
ruling_commit false false (Some w) last v e = absurd (let z : ◌≡◌ {A = ℕ} 0 1 = cc in omega arith)
ruling_commit false false None last v e = (refl, refl, (cc))

ruling_conflict : (ahead old : Bool) (clash : Option ℕ) (last w : ℕ) → ruling ahead old clash last ≡ Conflict w → clash ≡ Some w
ruling_conflict true old clash last w e = absurd (let z : ◌≡◌ {A = ℕ} 0 1 = cc in omega arith)
ruling_conflict false true clash last w e = absurd (let z : ◌≡◌ {A = ℕ} 0 1 = cc in omega arith)
ruling_conflict false false (Some x) last w e = cc
ruling_conflict false false None last w e = absurd (let z : ◌≡◌ {A = ℕ} 0 1 = cc in omega arith)

-- no clash in a list of commits
module _ (l : List Write) where
  passed : (b : Bool) (v : ℕ) (o : Option ℕ) → cond b (Some (suc v)) o ≡ None → (b ≡ false) × (o ≡ None)
  passed true v o e = absurd (let z : ◌≡◌ {A = ℕ} 0 1 = cc in omega arith)
  passed false v o e = (refl, e)

  no_clash : (v : ℕ) (cs : List Committed) → lowest_clash l v cs ≡ None → (j : ℕ) (c : Committed) → slice_get cs j ≡ Some c → meets c.writes l ≡ false
  no_clash v [] e j c h = absurd (let z : ◌≡◌ {A = ℕ} 0 1 = cc in omega arith)
  no_clash v (x ∷ cs) e zero c h =
      let f : x ≡ c = cc in
      ap (λ y. meets y.writes l) (sym f) ∙ (passed (meets x.writes l) v (lowest_clash l (suc v) cs) e).0
  no_clash v (x ∷ cs) e (suc j) c h = no_clash (suc v) cs (passed (meets x.writes l) v (lowest_clash l (suc v) cs) e).1 j c h

  -- the lowest clash: its place in the list, and none before it
  record Lowest (v : ℕ) (cs : List Committed) (w : ℕ) : Type 0 where
    index : ℕ
    commit : Committed
    version : w ≡ suc (v + index)
    there : slice_get cs index ≡ Some commit
    meeting : meets commit.writes l ≡ true
    clear : (j : ℕ) (c : Committed) → j < index → slice_get cs j ≡ Some c → meets c.writes l ≡ false

  clash_step : (b : Bool) (v w : ℕ) (x : Committed) (cs : List Committed) → meets x.writes l ≡ b →
      cond b (Some (suc v)) (lowest_clash l (suc v) cs) ≡ Some w → (lowest_clash l (suc v) cs ≡ Some w → Lowest (suc v) cs w) → Lowest v (x ∷ cs) w
  clash_step true v w x cs m e more =
      let f : w ≡ suc v = cc in
      record { index = 0; commit = x; version = omega arith; there = refl; meeting = m; clear = λ j c h. absurd (omega arith) }
  clash_step false v w x cs m e more =
      let k = more e in
      record {
        index = suc k.index;
        commit = k.commit;
        version = omega (arith, k.version);
        there = k.there;
        meeting = k.meeting;
        clear = under k.index k.clear;
      }
    where
      under : (i : ℕ) → ((j : ℕ) (c : Committed) → j < i → slice_get cs j ≡ Some c → meets c.writes l ≡ false) →
          (j : ℕ) (c : Committed) → j < suc i → slice_get (x ∷ cs) j ≡ Some c → meets c.writes l ≡ false
      under i clear zero c h t = let f : x ≡ c = cc in ap (λ y. meets y.writes l) (sym f) ∙ m
      under i clear (suc j) c h t = clear j c (omega arith) t

  clash_found : (v : ℕ) (cs : List Committed) (w : ℕ) → lowest_clash l v cs ≡ Some w → Lowest v cs w
  clash_found v [] w e = absurd (let z : ◌≡◌ {A = ℕ} 0 1 = cc in omega arith)
  clash_found v (x ∷ cs) w e = clash_step (meets x.writes l) v w x cs refl e (clash_found (suc v) cs w)

-- the commit of a version above the snapshot, in the list of those above it
above : (cs rest : List Committed) (s w : ℕ) (c : Committed) → s < w → w ≤ length cs → commit_of (cs ++ rest) w ≡ Some c →
    slice_get (drop s cs) (w - suc s) ≡ Some c
above cs rest s zero c h k e = absurd (omega arith)
above cs rest s (suc v) c h k e =
    let i : s + (suc v - suc s) ≡ v = omega arith in
    nth_drop cs s (suc v - suc s) ∙ ap (slice_get cs) i ∙ sym (nth_front cs rest v (omega arith)) ∙ e

-- an edit decided at a place
module _ (n : ℕ) (ms : List (List ℕ)) (k h t s : ℕ) (l : List Write) (d : Decision) (at : DecidedEdit n ms k h t s l d) where
  then : Account
  then = before n ms k

  ruled : ruling (ltb (last_version then) s) (ltb s (horizon then)) (lowest_clash l s (drop s then.commits)) (last_version then) ≡ d
  unfolding then
  ruled =
      ap (decide (before n ms k)) (sym at.edit)
      ∙ same_some (sym (decided_there n ms k at.words at.there) ∙ at.decided)

  commits_then : (rest : List Committed) × (commits_of n ms ≡ then.commits ++ (added d (Some (an_edit h t s l)) ++ rest))
  unfolding then
  commits_then =
      let g = commits_there n ms k at.words at.there in
      let e : added (decide (before n ms k) (message_of n at.words)) (message_of n at.words) ≡ added d (Some (an_edit h t s l)) =
      ap (λ o. added (decide (before n ms k) o) o) at.edit ∙ ap (λ x. added x (Some (an_edit h t s l))) ruled in (
        g.0,
        g.1 ∙ ap (λ x. ((before n ms k).commits ++ x) ++ g.0) e
            ∙ append_assoc (before n ms k).commits (added d (Some (an_edit h t s l))) g.0,
      )

pub commits_clear : CommitsClear
commits_clear n ms k h t s l v at =
    let a = then n ms k h t s l (Commit v) at in
    let q = ruling_commit (ltb (last_version a) s) (ltb s (horizon a)) (lowest_clash l s (drop s a.commits)) (last_version a) v (ruled n ms k h t s l (Commit v) at) in
    let g = commits_then n ms k h t s l (Commit v) at in
    let low = ltb-false (last_version a) s q.0 in (
      omega (arith, q.2),
      ap (λ cs. commit_of cs v) g.1 ∙ ap (commit_of (a.commits ++ (a_commit h t l ∷ g.0))) q.2 ∙ nth_at a.commits g.0 (a_commit h t l),
      λ w c p r e.
          no_clash l s (drop s a.commits) q.1 (w - suc s) c
          (above a.commits (a_commit h t l ∷ g.0) s w c p (omega (arith, q.2)) (ap (λ cs. commit_of cs w) (sym g.1) ∙ e)),
    )

pub conflicts_lowest : ConflictsLowest
conflicts_lowest n ms k h t s l w at =
    let a = then n ms k h t s l (Conflict w) at in
    let q = ruling_conflict (ltb (last_version a) s) (ltb s (horizon a)) (lowest_clash l s (drop s a.commits)) (last_version a) w (ruled n ms k h t s l (Conflict w) at) in
    let g = commits_then n ms k h t s l (Conflict w) at in
    let f = clash_found l s (drop s a.commits) w q in
    let i = f.index in
    let there : slice_get a.commits (s + i) ≡ Some f.commit = sym (nth_drop a.commits s i) ∙ f.there in
    let inside = nth_within a.commits (s + i) f.commit there in (
      omega (arith, f.version),
      (
        f.commit,
        (
          ap (λ cs. commit_of cs w) g.1 ∙ ap (commit_of (a.commits ++ g.0)) f.version ∙ nth_front a.commits g.0 (s + i) inside ∙ there,
          f.meeting,
        ),
      ),
      λ u c p r e.
          f.clear (u - suc s) c (omega (arith, f.version))
          (above a.commits g.0 s u c p (omega (arith, f.version, inside)) (ap (λ cs. commit_of cs u) (sym g.1) ∙ e)),
    )
