-- The sites that a group is made of: what is tested of them, and that a run begins with them.
use Rattle.std.proofs.Common.{◌≡◌, ℕ, zero, suc, ◌+◌, ◌<◌, ◌≤◌, true, ◌&&◌, List, [], ◌∷◌, map, length, replicate, Some, None, sym, refl, ap, ◌∙◌, add-one, zero-add, add-zero, suc-add, add-suc, arith}
use Rattle.std.specs.List.{slice_get, list_all, range_with_len, zip}
use Rattle.std.proofs.lemmas.List.{length-map}
use Rattle.std.proofs.lemmas.Bool.{and_parts}
use Rattle.std.proofs.lemmas.Bool.Decides.{nat_tests}
use Rattle.words.specs.Bits.{is_group}
use Rattle.site.specs.declared.modes.Mode.TheVariants.{Whole}
use Rattle.site.specs.Slots.{SlotModel, empty, is_empty, all_empty}
use Rattle.site.specs.SiteModel.{SiteModel, a_site}
use Rattle.site.specs.Making.{new_site}
use Rattle.site.specs.Spoken.{is_new, Bounded}
use Rattle.group.specs.Runs.{Fresh, starts}
use Rattle.group.specs.Groups.{new_from, are_new, Starts}

-- each site by its number, one after another
each_from : {C : Type 0} (f : C → SiteModel) (n i : ℕ) (xs : List C) →
    list_all (λ p. is_new n p.0 (f p.1)) (zip (range_with_len i (length xs)) xs) ≡ new_from n i (map f xs)
each_from f n i [] = refl
each_from f n i (x ∷ xs) = ap (λ b. is_new n i (f x) && b) (each_from f n (i + 1) xs ∙ ap (λ k. new_from n k (map f xs)) (add-one i))

pub each_is : {C : Type 0} (f : C → SiteModel) (n : ℕ) (xs : List C) → n ≡ length xs → is_group n ≡ true →
    list_all (λ p. is_new n p.0 (f p.1)) (zip (range_with_len 0 n) xs) ≡ are_new (map f xs)
each_is f n xs e g =
    let many : length (map f xs) ≡ n = length-map xs f ∙ sym e in
    rw (many, g) (rw (← e) at (each_from f n 0 xs))

-- what a site that passes the test holds
one_empty : (s : SlotModel) → is_empty s ≡ true → s ≡ empty
one_empty s e = grind arith

empties : (ss : List SlotModel) → all_empty ss ≡ true → ss ≡ replicate (length ss) empty
empties [] e = refl
empties (s ∷ ss) e =
    let p = and_parts (is_empty s) (all_empty ss) e in
    ap (λ x. x ∷ ss) (one_empty s p.0) ∙ ap (λ l. empty ∷ l) (empties ss p.1)

fresh_site : (n i : ℕ) (m : SiteModel) → is_group n ≡ true → i < n → Bounded m → is_new n i m ≡ true → Fresh n i m
fresh_site n i m g within b e =
    let number : m.number ≡ i = grind (arith, nat_tests) in
    let sites : m.sites ≡ n = grind (arith, nat_tests) in
    let many : length m.log.known ≡ n = grind (arith, nat_tests) in
    let mode : m.mode ≡ Whole = grind (arith, nat_tests) in
    let none : all_empty m.slots ≡ true = grind (arith, nat_tests) in
    let slots = empties m.slots none in
    let change : m.change ≡ None = grind (arith, nat_tests) in
    let eight = b.eight in
    let same : a_site m.number m.sites m.store m.log m.mode m.slots m.change ≡ new_site i m.store m.log = cc in
    record {
      store = m.store;
      log = m.log;
      makeable = grind (arith, nat_tests);
      size = many;
      store_bounded = b.store;
      log_bounded = b.log;
      new = same;
    }

-- the site at a place, by the tests from a number on
module _ {C : Type 0} (f : C → SiteModel) (bounded : (x : C) → Bounded (f x)) (n : ℕ) (g : is_group n ≡ true) where
  fresh_at : (xs : List C) (k i : ℕ) (m : SiteModel) → length xs + k ≤ n → new_from n k (map f xs) ≡ true → slice_get (map f xs) i ≡ Some m → Fresh n (i + k) m
  fresh_at [] k i m h e q = cc
  fresh_at (x ∷ xs) k zero m h e q =
      let here : f x ≡ m = cc in
      rw (zero-add, ← here) (fresh_site n k (f x) g (omega arith) (bounded x) (and_parts (is_new n k (f x)) _ e).0)
  fresh_at (x ∷ xs) k (suc i) m h e q =
      rw (suc-add, ← add-suc) (fresh_at xs (suc k) i m (omega arith) (and_parts (is_new n k (f x)) _ e).1 q)

pub begins : {C : Type 0} (f : C → SiteModel) → ((x : C) → Bounded (f x)) → (xs : List C) → are_new (map f xs) ≡ true → Starts (map f xs)
begins f bounded xs e ms =
    let p = and_parts (is_group (length (map f xs))) _ e in
    let all : length xs + 0 ≤ length (map f xs) = omega (arith, length-map xs f) in
    starts (record {
      size = p.0;
      one_each = refl;
      fresh = λ i m q. rw add-zero at (fresh_at f bounded (length (map f xs)) p.0 xs 0 i m all p.1 q);
    })
