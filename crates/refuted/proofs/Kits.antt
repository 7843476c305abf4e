-- Sites that are made of kits which pass the test are a fresh group.
use Rattle.std.proofs.Common.{◌≡◌, ℕ, zero, suc, ◌+◌, true, List, [], ◌∷◌, length, Some, refl, zero-add, add-zero, suc-add, add-suc, arith}
use Rattle.std.specs.List.{slice_get}
use Rattle.std.proofs.lemmas.Bool.{and_parts}
use Rattle.std.proofs.lemmas.Bool.Decides.{nat_tests}
use Rattle.words.specs.Bits.{is_group}
use Rattle.store.specs.StoreModel.{fresh as fresh-store}
use Rattle.site.specs.SiteModel.{SiteModel}
use Rattle.site.specs.Making.{new_site}
use Rattle.group.specs.Runs.{Fresh, FreshGroup}
use Rattle.refuted.specs.Plays.{Kit, kit_log, sites_from, can_stand, can_stand_from, are_kits, opening}

kit_fresh : (n i : ℕ) (k : Kit) → is_group n ≡ true → can_stand n i k ≡ true → Fresh n i (new_site i (fresh-store k.store) (kit_log n k))
kit_fresh n i k g e =
    let many : length (kit_log n k).known ≡ n = grind (arith, nat_tests) in
    record {
      store = fresh-store k.store;
      log = kit_log n k;
      makeable = grind (arith, nat_tests);
      size = many;
      store_bounded = grind (arith, nat_tests);
      log_bounded = grind (arith, nat_tests);
      new = refl;
    }

-- the site at a place, by the tests from a number on
fresh_from : (n : ℕ) → is_group n ≡ true → (ks : List Kit) (k i : ℕ) (m : SiteModel) → can_stand_from n k ks ≡ true → slice_get (sites_from n k ks) i ≡ Some m →
    Fresh n (i + k) m
fresh_from n g [] k i m e q = cc
fresh_from n g (x ∷ xs) k zero m e q =
    let here : new_site k (fresh-store x.store) (kit_log n x) ≡ m = cc in
    rw (zero-add, ← here) (kit_fresh n k x g (and_parts (can_stand n k x) _ e).0)
fresh_from n g (x ∷ xs) k (suc i) m e q = rw (suc-add, ← add-suc) (fresh_from n g xs (suc k) i m (and_parts (can_stand n k x) _ e).1 q)

sites_length : (n k : ℕ) (ks : List Kit) → length (sites_from n k ks) ≡ length ks
sites_length n k [] = refl
sites_length n k (x ∷ xs) = omega (arith, sites_length n (suc k) xs)

pub kits_fresh : (ks : List Kit) → are_kits ks ≡ true → FreshGroup (length ks) (opening ks).sites
kits_fresh ks e =
    let p = and_parts (is_group (length ks)) _ e in
    record {
      size = p.0;
      one_each = sites_length (length ks) 0 ks;
      fresh = λ i m q. rw add-zero at (fresh_from (length ks) p.0 ks 0 i m p.1 q);
    }
