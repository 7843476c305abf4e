-- A store by the commits: its reads are their scenes, and a change under way is the next commit.
use Rattle.std.proofs.Common.{◌≡◌, ℕ, ◌+◌, ◌<◌, ◌≤◌, Bool, true, List, [], ◌∷◌, ◌++◌, map, length, take, Some, None, Option, sym, refl, ap, ◌∙◌, add-one, arith, length-append, length-take}
use lib.ListN.{length-map}
use Rattle.std.specs.List.{slice_get}
use Rattle.std.proofs.lemmas.Option.{slice_get_within, get_or_from_slice_get, gets}
use Rattle.std.proofs.lemmas.List.{take_all, take_more, length_push}
use Rattle.std.proofs.lemmas.Bool.Decides.{nat_tests}
use Rattle.std.proofs.lemmas.Bool.{lt-ltb, cond-true}
use Rattle.words.specs.declared.changes.Write.{Write}
use Rattle.account.specs.Account.{Committed}
use Rattle.account.specs.Scenes.{scene}
use Rattle.store.specs.declared.records.Record.{Record}
use Rattle.store.specs.StoreModel.{StoreModel, Bounded, dated, read_at, space, with_staged, staged_on, dropped, next_version, sealed_up, every, at_most, pruned_to}
use Rattle.store.specs.Laws.{Part, none, kept, left_out, rewritten}
use Rattle.store.proofs.LawProofs.{prune_law, seal_law}
use Rattle.store.specs.RowChanges.{every_append, every_wider, later}
use Rattle.group.proofs.SceneValues.{scene_more}

-- Records and their bound

every_dated : (v : ℕ) (ws : List Write) → every (at_most v) (map (dated v) ws) ≡ true
every_dated v [] = refl
every_dated v (w ∷ ws) = let rest = every_dated v ws in grind (arith, nat_tests)

every_part : (f : Record → Bool) {xs ys : List Record} → Part xs ys → every f ys ≡ true → every f xs ≡ true
every_part f none e = refl
every_part f (kept r p) e = let rest = every_part f p in grind (arith, nat_tests)
every_part f (left_out r p) e = let rest = every_part f p in grind (arith, nat_tests)

part_length : {xs ys : List Record} → Part xs ys → length xs ≤ length ys
part_length none = omega arith
part_length (kept r p) = omega (arith, part_length p)
part_length (left_out r p) = omega (arith, part_length p)

module _ (cs : List Committed) where
  -- Reads from version `low` to the store's own are the scenes of the commits.
  pub record StoreRight (low : ℕ) (s : StoreModel) : Type 0 where
    pub within : low ≤ s.version
    pub reads : (v x : ℕ) → low ≤ v → v ≤ s.version → read_at s x v ≡ scene cs v x
    pub bounded : Bounded s

  -- The first k writes of the next commit are staged, and the store has room for all of them.
  pub record UnderWay (last k : ℕ) (s : StoreModel) : Type 0 where
    pub commit : Committed
    pub there : slice_get cs s.version ≡ Some commit
    pub ahead : s.version < last
    pub staged : s.staged ≡ take k commit.writes
    pub count : k ≤ length commit.writes
    pub room : length s.sealed + length commit.writes ≤ s.capacity

  abbrev pub ChangeRight : ℕ → StoreModel → Option ℕ → Type 0
  ChangeRight last s None = s.staged ≡ []
  ChangeRight last s (Some k) = UnderWay last k s

module _ (cs : List Committed) (s : StoreModel) where
  pub change_on : (last more : ℕ) (o : Option ℕ) → last ≤ more → ChangeRight cs last s o → ChangeRight cs more s o
  change_on last more o l c = grind arith

  pub change_pruned : (h last : ℕ) (o : Option ℕ) → ChangeRight cs last s o → ChangeRight cs last (pruned_to h s) o
  change_pruned h last o c =
      let law = prune_law s h in
      let less = part_length law.records in
      grind arith

module _ {cs : List Committed} {low : ℕ} {s : StoreModel} (r : StoreRight cs low s) where
  -- a prune, by its law
  pub store_pruned : (h : ℕ) → low ≤ h → h ≤ s.version → StoreRight cs h (pruned_to h s)
  store_pruned h a b =
      let law = prune_law s h in
      let less = part_length law.records in
      let past = every_part (at_most s.version) law.records r.bounded.past in
      grind arith

  pub store_dropped : StoreRight cs low (dropped s)
  store_dropped = grind arith

  -- a change opens
  pub change_opened : {last : ℕ} (c : Committed) → s.staged ≡ [] → slice_get cs s.version ≡ Some c → s.version < last →
      length c.writes ≤ space s → ChangeRight cs last s (Some 0)
  change_opened c e t a l = grind arith

  module _ {last k : ℕ} (c : UnderWay cs last k s) where
    -- one more write is staged
    module _ (w : Write) (e : slice_get c.commit.writes k ≡ Some w) where
      more : (k < length c.commit.writes) × (length s.staged ≡ k)
      more = (slice_get_within c.commit.writes k w e, ap length c.staged ∙ omega (arith, length-take k c.commit.writes, c.count))

      stages : staged_on s w ≡ with_staged s (s.staged ++ (w ∷ []))
      stages = cond-true _ _ _ (lt-ltb 0 (space s) (omega (arith, more, c.room)))

      pub store_staged : StoreRight cs low (staged_on s w)
      store_staged = grind (arith, nat_tests, length_push)

      pub change_staged : ChangeRight cs last (staged_on s w) (Some (k + 1))
      change_staged =
          let next = take_more c.commit.writes k w more.0 in
          let here = get_or_from_slice_get c.commit.writes k w w e in
          let staged : s.staged ++ (w ∷ []) ≡ take (k + 1) c.commit.writes = cc in
          let count : k + 1 ≤ length c.commit.writes = omega (arith, more) in
          rw stages (search)

      pub staged_version : (staged_on s w).version ≡ s.version
      staged_version = ap (λ x. x.version) stages

    -- all are sealed
    module _ (few : last ≤ 268435455) where
      open_below : s.version < 268435455
      open_below = omega (arith, c.ahead)

      pub sealed_version : (sealed_up s).version ≡ s.version + 1
      sealed_version = grind (arith, nat_tests, open_below)

      pub sealed_staged : (sealed_up s).staged ≡ []
      sealed_staged = grind (arith, nat_tests, open_below)

      sealed_bounded : Bounded (next_version s)
      sealed_bounded =
          let v : ℕ = s.version + 1 in
          record {
            capacity_bound = r.bounded.capacity_bound;
            version_bound = omega (arith, c.ahead);
            fits = omega (arith, length-append s.sealed (map (dated v) s.staged), length-map s.staged (dated v), r.bounded.fits);
            past = every_append (at_most v) s.sealed (map (dated v) s.staged)
                (every_wider (at_most s.version) (at_most v) (later s.version v (omega arith)) s.sealed r.bounded.past)
                (every_dated v s.staged);
          }

      module _ (e : slice_get c.commit.writes k ≡ None) where
        all_staged : s.staged ≡ c.commit.writes
        all_staged = c.staged ∙ take_all k c.commit.writes (grind (arith, gets))

        last_read : (x : ℕ) → read_at (sealed_up s) x (s.version + 1) ≡ scene cs (s.version + 1) x
        last_read x =
            (seal_law s).written r.bounded open_below x
            ∙ ap (rewritten x s.staged) (r.reads s.version x r.within (omega arith))
            ∙ ap (λ l. rewritten x l (scene cs s.version x)) all_staged
            ∙ sym (scene_more cs s.version c.commit x c.there)
            ∙ ap (λ v. scene cs v x) (sym (add-one s.version))

        pub store_sealed : StoreRight cs low (sealed_up s)
        store_sealed = record {
          within = omega (arith, sealed_version, r.within);
          reads = λ v x a b.
              let last = last_read x in
              let earlier = (seal_law s).earlier x v in
              let before = r.reads v x a in
              grind (arith, sealed_version);
          bounded = rw (cond-true _ _ _ (lt-ltb s.version 268435455 open_below)) sealed_bounded;
        }
