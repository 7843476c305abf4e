-- The law over runs: fresh sites are sound, every turn keeps all of them so, and each is answered rightly.
use Rattle.std.proofs.Common.{◌≡◌, ℕ, true, List, [], ◌∷◌, length, set, Some, sym, refl, ap, ◌∙◌, subst, arith}
use Rattle.std.specs.List.{slice_get}
use Rattle.std.proofs.lemmas.List.{nil_from_length}
use Rattle.std.proofs.lemmas.Bool.Decides.{nat_tests}
use Rattle.account.specs.Account.{commits_of}
use Rattle.account.specs.Scenes.{scene}
use Rattle.store.specs.StoreModel.{StoreModel, Bounded as StoreBounded, latest, matches, value_in}
use Rattle.logs.specs.LogModel.{LogModel, Bounded as LogBounded, last_version}
use Rattle.site.specs.Slots.{empty}
use Rattle.site.specs.SiteModel.{SiteModel}
use Rattle.site.specs.Making.{can_make, new_site}
use Rattle.site.specs.Calls.{Call, called}
use Rattle.group.specs.Record.{Turn, a_turn, deed}
use Rattle.group.specs.Law.{TurnRight, RecordRight}
use Rattle.group.specs.Runs.{Fresh, Supposed, Run, starts, goes, RunLaw, GoesOn}
use Rattle.group.proofs.LogSound.{log_starts, log_has}
use Rattle.group.proofs.Turns.{OfSite}
use Rattle.group.proofs.Tables.{set_each, replicate_each}
use Rattle.group.proofs.SlotsRight.{SlotRight}
use Rattle.group.proofs.Refusals.{deed_site}
use Rattle.group.proofs.SiteSound.{Sound, sound_elsewhere}
use Rattle.group.proofs.Kept.{kept, called_placed}
use Rattle.group.proofs.Answered.{turn_right}

-- a site that was just made
module _ (ms : List (List ℕ)) (i : ℕ) (g : StoreModel) (l : LogModel) (can : can_make i g l ≡ true) (sb : StoreBounded g) (lb : LogBounded l) where
  new_sound : Sound ms [] (new_site i g l)
  new_sound =
      let none : g.version ≡ 0 = grind (arith, nat_tests) in
      let sealed : length g.sealed ≡ 0 = grind (arith, nat_tests) in
      let staged : length g.staged ≡ 0 = grind (arith, nat_tests) in
      let last : last_version l ≡ 0 = grind (arith, nat_tests) in
      let unsealed : g.sealed ≡ [] = nil_from_length g.sealed sealed in
      record {
        group = grind (arith, nat_tests);
        mine = grind (arith, nat_tests);
        log = log_starts ms (record { store = g; log = l; makeable = can; size = refl; store_bounded = sb; log_bounded = lb; new = refl });
        tickets = omega (arith, lb.tickets_bound);
        under = omega arith;
        over = omega arith;
        mode = grind (arith, nat_tests);
        low = 0;
        store = record {
          within = omega arith;
          reads = λ v x _ h.
              let z : v ≡ 0 = omega arith in
              ap (λ rs. value_in (latest (matches x v) rs)) unsealed ∙ ap (λ u. scene (commits_of (length l.known) ms) u x) (sym z);
          bounded = sb;
        };
        change = nil_from_length g.staged staged;
        slots = record {
          each = replicate_each (SlotRight (length l.known) (commits_of (length l.known) ms) i [] l.tickets 0 g.version) 8 empty (λ k. tt);
          count = sym none;
          unheard = λ h _ _. record { unwritten = λ x. refl; unposted = refl; untold = refl };
        };
      }

-- Site i of a group of n, sound by the record so far.
pub record SoundAt (n : ℕ) (ms : List (List ℕ)) (ts : List Turn) (i : ℕ) (m : SiteModel) : Type 0 where
  pub number : m.number ≡ i
  pub sites : m.sites ≡ n
  pub sound : Sound ms ts m

fresh_sound : (n : ℕ) (ms : List (List ℕ)) (i : ℕ) (m : SiteModel) → Fresh n i m → SoundAt n ms [] i m
fresh_sound n ms i m f = record {
  number = ap (λ x. x.number) f.new;
  sites = ap (λ x. x.sites) f.new ∙ f.size;
  sound = rw f.new (new_sound ms i f.store f.log f.makeable f.store_bounded f.log_bounded);
}

-- All sites are sound, and the record is right.
pub record GroupSound (n : ℕ) (ms : List (List ℕ)) (ss : List SiteModel) (ts : List Turn) : Type 0 where
  pub each : (i : ℕ) (m : SiteModel) → slice_get ss i ≡ Some m → SoundAt n ms ts i m
  pub right : RecordRight n ms ts

module _ (n : ℕ) (ms : List (List ℕ)) (ss : List SiteModel) (ts : List Turn) (g : GroupSound n ms ss ts) (i : ℕ) (m : SiteModel) (c : Call)
    (at : slice_get ss i ≡ Some m) (given : Supposed ms ts (a_turn i c (called m c).0)) where
  here : SoundAt n ms ts i m
  here = g.each i m at

  abbrev turn : Turn
  turn = a_turn i c (called m c).0

  given_here : Supposed ms ts (a_turn m.number c (called m c).0)
  given_here = subst (λ j. Supposed ms ts (a_turn j c (called m c).0)) (sym here.number) given

  right_here : RecordRight m.sites ms ts
  right_here = rw here.sites g.right

  after_here : SoundAt n ms (turn ∷ ts) i (called m c).1
  after_here = record {
    number = (called_placed m c).0 ∙ here.number;
    sites = (called_placed m c).1 ∙ here.sites;
    sound = subst (λ j. Sound ms (a_turn j c (called m c).0 ∷ ts) (called m c).1) here.number (kept here.sound right_here c given_here);
  }

  after_elsewhere : (j : ℕ) (x : SiteModel) → (j ≡ i → ⊥) → slice_get ss j ≡ Some x → SoundAt n ms (turn ∷ ts) j x
  after_elsewhere j x apart e =
      let a = g.each j x e in
      record {
        number = a.number;
        sites = a.sites;
        sound = sound_elsewhere a.sound turn (subst (λ k. OfSite k (deed turn)) here.number (deed_site m c)) (λ p. apart (sym (p ∙ a.number)));
      }

  turn_here : TurnRight n ms turn ts
  turn_here =
      subst (λ k. TurnRight k ms turn ts) here.sites
      (subst (λ j. TurnRight m.sites ms (a_turn j c (called m c).0) ts) here.number (turn_right here.sound c given_here))

  turn_sound : GroupSound n ms (set ss i (called m c).1) (a_turn i c (called m c).0 ∷ ts)
  turn_sound = record { each = set_each (SoundAt n ms (turn ∷ ts)) ss i (called m c).1 after_elsewhere after_here; right = (turn_here, g.right) }

pub run_sound : {n : ℕ} {ms : List (List ℕ)} {ss : List SiteModel} {ts : List Turn} → Run called n ms ss ts → GroupSound n ms ss ts
run_sound {n} {ms} (starts f) = record { each = λ i m e. fresh_sound n ms i m (f.fresh i m e); right = tt }
run_sound {n} {ms} (goes {ss} {ts} i m c r at given) = turn_sound n ms ss ts (run_sound r) i m c at given

pub run_law : RunLaw
run_law n ms ss ts r =
    let g = run_sound r in
    (g.right, λ i m e. let a = g.each i m e in rw a.sites at (log_has a.sound.log))

-- a turn of any run goes on with it, and the law holds
pub goes_on : (before : List SiteModel) (i : ℕ) (m : SiteModel) (c : Call) → slice_get before i ≡ Some m →
    GoesOn before (set before i (called m c).1) (a_turn i c (called m c).0)
goes_on before i m c at n ms ts r given =
    let on = goes i m c r at given in
    let law = run_law n ms _ _ on in
    (on, law.0, law.1)
