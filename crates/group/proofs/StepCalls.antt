-- Steps: a version is opened, its writes are staged one by one, and it is sealed; each leaves a sound site.
use Rattle.std.proofs.Common.{◌≡◌, ℕ, ◌+◌, ◌<◌, ◌≤◌, Bool, true, false, cond, List, [], ◌∷◌, length, Some, None, Option, sym, refl, ap, ◌∙◌, subst, add-one, arith}
use Rattle.std.specs.List.{slice_get}
use Rattle.std.proofs.lemmas.Bool.Decides.{nat_tests}
use Rattle.words.specs.declared.changes.Write.{Write}
use Rattle.account.specs.Account.{Committed, commits_of, commit_of}
use Rattle.store.specs.StoreModel.{space, staged_on, sealed_up}
use Rattle.logs.specs.LogModel.{Entry, last_version, entry_at, write_of}
use Rattle.logs.proofs.Entries.{entries_follow}
use Rattle.site.specs.Certify.{as_commit}
use Rattle.site.specs.SiteModel.{SiteModel, with_change}
use Rattle.site.specs.Calls.{first, Step, Answer, Opened, Staged, Sealed, Idle, writes_in, is_behind, lacks_space, upcoming, stepped_in, stepped, table, answered, left}
use Rattle.group.specs.Record.{Turn, a_turn}
use Rattle.group.proofs.LogSound.{log_has}
use Rattle.group.proofs.SlotsRight.{slots_on}
use Rattle.group.proofs.StoreRight.{UnderWay, ChangeRight, change_opened, store_staged, change_staged, staged_version, sealed_version, sealed_staged, store_sealed}
use Rattle.group.proofs.Refusals.{passed}
use Rattle.group.proofs.SiteSound.{Sound, sound_store, slots_quiet, sound_quiet}

module _ {ms : List (List ℕ)} {ts : List Turn} {m : SiteModel} (s : Sound ms ts m) where
  abbrev cs : List Committed
  cs = commits_of m.sites ms

  abbrev version : ℕ
  version = m.store.version

  abbrev last : ℕ
  last = last_version m.log

  abbrev Stepped : Answer × SiteModel → Type 0
  Stepped r = Sound ms (a_turn m.number Step r.0 ∷ ts) r.1

  -- the entry of the next version is the next commit
  next_entry : version < last → (e : Entry) × (entry_at m.log (version + 1) ≡ Some e) × (slice_get cs version ≡ Some (as_commit e))
  next_entry h =
      let k = entries_follow m.log (version + 1) (omega (arith, s.under)) (omega arith) in
      (k.0, k.1, ap (commit_of cs) (sym (add-one version)) ∙ log_has s.log (version + 1) k.0 k.1)

  opens : m.change ≡ None → is_behind m ≡ true → lacks_space m ≡ false → Stepped (Opened, with_change m (Some 0))
  opens c b l =
      let ahead : version < last = grind (arith, nat_tests) in
      let k = next_entry ahead in
      let room : length (upcoming m) ≤ space m.store = grind (arith, nat_tests) in
      let many : length (upcoming m) ≡ length k.0.writes = ap (λ o. length (writes_in o)) k.1 in
      let none : m.store.staged ≡ [] = subst (ChangeRight cs last m.store) c s.change in
      sound_store s _ m.store (Some 0) s.low s.store
      (change_opened s.store (as_commit k.0) none k.2 ahead (omega (arith, room, many)))
      s.under s.over (slots_quiet s Step Opened refl)

  -- a change under way
  module _ (k : ℕ) (c : m.change ≡ Some k) where
    way : UnderWay cs last k m.store
    way = subst (ChangeRight cs last m.store) c s.change

    next_write : write_of (entry_at m.log (version + 1)) k ≡ slice_get way.commit.writes k
    next_write =
        let e = next_entry way.ahead in
        let a = e.2 in
        let b = way.there in
        let there = e.1 in
        let same : as_commit e.0 ≡ way.commit = cc in
        cc

    stages : (w : Write) → slice_get way.commit.writes k ≡ Some w → Stepped (stepped_in m k (Some w))
    stages w e =
        let same = staged_version s.store way w e in
        sound_store s _ (staged_on m.store w) (Some (k + 1)) s.low (store_staged s.store way w e)
        (change_staged s.store way w e) (omega (arith, same, s.under)) (omega (arith, same, s.over))
        (rw same (slots_quiet s Step Staged refl))

    seals_up : slice_get way.commit.writes k ≡ None → Stepped (stepped_in m k None)
    seals_up e =
        let few = s.log.last_bound in
        let more = sealed_version s.store way few in
        let t : Turn = a_turn m.number Step Sealed in
        sound_store s (t ∷ ts) (sealed_up m.store) None s.low (store_sealed s.store way few e)
        (sealed_staged s.store way few) (omega (arith, more, s.under)) (omega (arith, more, way.ahead))
        (slots_on s.slots (t ∷ ts) (sealed_up m.store).version (λ h _. grind (arith, nat_tests)) (omega (arith, more))
        (grind (arith, nat_tests, more, s.slots.count)))

    by_write : (o : Option Write) → slice_get way.commit.writes k ≡ o → Stepped (stepped_in m k o)
    by_write None e = seals_up e
    by_write (Some w) e = stages w e

    steps_in : Stepped (stepped_in m k (write_of (entry_at m.log (version + 1)) k))
    steps_in = rw next_write (by_write (slice_get way.commit.writes k) refl)

  steps : (o : Option ℕ) → m.change ≡ o → lacks_space m ≡ false → Stepped (stepped m o)
  steps None c l = by_last (is_behind m) refl
    where
      by_last : (b : Bool) → is_behind m ≡ b → Stepped (cond b (Opened, with_change m (Some 0)) (Idle, m))
      by_last true b = opens c b l
      by_last false b = sound_quiet s Step Idle refl
  steps (Some k) c l = steps_in k c

  pub step_kept : first (table m Step) ≡ None → Sound ms (a_turn m.number Step (answered m Step) ∷ ts) (left m Step)
  step_kept f = steps m.change refl (passed (table m Step) 14 f)
