-- The pages that a log has: words hold their numbers, since they hold those of every log.
use Rattle.std.proofs.Common.{◌≡◌, ℕ, zero, suc, ◌+◌, ◌-◌, ◌<◌, ◌≤◌, Bool, true, false, cond, ltb, leb, List, [], ◌∷◌, length, Some, None, Option, Result, sym, refl, ap, ◌∙◌, arith}
use Rattle.std.specs.Option.{option_map}
use Rattle.std.specs.List.{slice_get}
use Rattle.std.proofs.lemmas.Bool.{and_parts, and_from, le-leb, leb-true, lt-ltb, ltb-true}
use Rattle.words.specs.declared.changes.Write.{Write}
use Rattle.words.specs.Bits.{in_range, every}
use Rattle.words.specs.Writes.{all_fit}
use Rattle.words.specs.Pages.{PageValue, an_entry, a_closing, has_words, page_words}
use Rattle.words.specs.declared.encode.Refusal.{Refusal as WordsRefusal}
use Rattle.words.specs.Encoded.{reply, put_answer, put_after}
use Rattle.logs.specs.declared.heads.EntryHead.{EntryHead}
use Rattle.logs.specs.LogModel.{Entry, LogModel, Bounded, all_within, all_loggable, last_version, entry_at, head_of}
use Rattle.site.specs.Calls.{writes_in}
use Rattle.site.specs.CatchUp.{page_after, page_at}
use Rattle.site.specs.declared.refusals.Refusal.{Refusal}
use Rattle.site.specs.Modes.{reply as call_reply}
use Rattle.site.specs.Spelling.{spelt}
use Rattle.site.proofs.LogFacts.{loggable_at}
use Rattle.site.proofs.Spelt.{as_call, spelt_as}

held : (x : ℕ) → x ≤ 268435455 → in_range 0 x ≡ true
held x b = and_from _ _ (le-leb 0 x (omega arith)) (lt-ltb x 268435456 (omega arith))

within_every : (ks : List ℕ) → all_within ks ≡ every (λ k. leb k 268435455) ks
within_every [] = refl
within_every (k ∷ ks) = rw (within_every ks)

-- an entry that a log has: its parts, and its place in the log
pub record Kept (l : LogModel) (v : ℕ) (e : Entry) : Type 0 where
  pub home : e.home < 16
  pub ticket : e.ticket ≤ 268435455
  pub few : length e.writes ≤ 16
  pub fit : all_fit e.writes ≡ true
  pub version : v ≤ last_version l

nth_length : (es : List Entry) (j : ℕ) (e : Entry) → slice_get es j ≡ Some e → j < length es
nth_length [] j e h = absurd (let z : ◌≡◌ {A = ℕ} 0 1 = cc in omega arith)
nth_length (x ∷ es) zero e h = omega arith
nth_length (x ∷ es) (suc j) e h = let k = nth_length es j e h in omega arith

kept_by : (l : LogModel) (v : ℕ) (e : Entry) (b : Bool) → ltb l.floor v ≡ b → all_loggable l.entries ≡ true →
    cond b (slice_get l.entries (v - (l.floor + 1))) None ≡ Some e → Kept l v e
kept_by l v e false t a h = absurd (let z : ◌≡◌ {A = ℕ} 0 1 = cc in omega arith)
kept_by l v e true t a h =
    let p = and_parts (ltb e.home 16) _ (loggable_at l.entries (v - (l.floor + 1)) e a h) in
    let q = and_parts (leb e.ticket 268435455) _ p.1 in
    let r = and_parts (leb (length e.writes) 16) _ q.1 in
    record {
      home = ltb-true e.home 16 p.0;
      ticket = leb-true e.ticket 268435455 q.0;
      few = leb-true (length e.writes) 16 r.0;
      fit = r.1;
      version = omega (arith, nth_length l.entries (v - (l.floor + 1)) e h, ltb-true l.floor v t);
    }

pub kept : (l : LogModel) (v : ℕ) (e : Entry) → Bounded l → entry_at l v ≡ Some e → Kept l v e
kept l v e b h = kept_by l v e (ltb l.floor v) refl b.readable h

-- the head that a log answers is that of the entry
headed : (o : Option Entry) (head : EntryHead) → option_map head_of o ≡ Some head → (e : Entry) × (o ≡ Some e) × (head ≡ head_of e)
headed None head h = absurd (let z : ◌≡◌ {A = ℕ} 0 1 = cc in omega arith)
headed (Some e) head h = (e, refl, (cc))

pub record Next (l : LogModel) (v : ℕ) (head : EntryHead) : Type 0 where
  pub home : head.home < 16
  pub ticket : head.ticket ≤ 268435455
  pub version : v + 1 ≤ 268435455
  pub page : page_at l v ≡ an_entry head.home (v + 1) head.ticket (writes_in (entry_at l (v + 1)))

pub next_page : (l : LogModel) (v : ℕ) (head : EntryHead) → Bounded l → option_map head_of (entry_at l (v + 1)) ≡ Some head → Next l v head
next_page l v head b h =
    let e = headed (entry_at l (v + 1)) head h in
    let k = kept l (v + 1) e.0 b e.1 in
    record {
      home = omega (arith, k.home, ap (λ x. x.home) e.2);
      ticket = omega (arith, k.ticket, ap (λ x. x.ticket) e.2);
      version = omega (arith, k.version, b.last_bound);
      page = ap (page_after l v) e.1 ∙ ap (λ x. an_entry x.home (v + 1) x.ticket e.0.writes) (sym e.2)
          ∙ ap (λ o. an_entry head.home (v + 1) head.ticket (writes_in o)) (sym e.1);
    }

none_mapped : (o : Option Entry) → option_map head_of o ≡ None → o ≡ None
none_mapped None h = refl
none_mapped (Some e) h = absurd (let z : ◌≡◌ {A = ℕ} 0 1 = cc in omega arith)

pub last_page : (l : LogModel) (v : ℕ) → option_map head_of (entry_at l (v + 1)) ≡ None → page_at l v ≡ a_closing (last_version l) l.place l.known
last_page l v h = ap (page_after l v) (none_mapped (entry_at l (v + 1)) h)

-- the writes of an entry, where there is one
writes_held : (l : LogModel) (v : ℕ) (o : Option Entry) → ((e : Entry) → o ≡ Some e → Kept l v e) → (leb (length (writes_in o)) 16 ≡ true) × (all_fit (writes_in o) ≡ true)
writes_held l v None k = (refl, refl)
writes_held l v (Some e) k = let p = k e refl in (le-leb (length e.writes) 16 p.few, p.fit)

pub entry_held : (l : LogModel) (h v t : ℕ) → Bounded l → h < 16 → t ≤ 268435455 → v ≤ 268435455 → has_words (an_entry h v t (writes_in (entry_at l v))) ≡ true
entry_held l h v t b i j k =
    let w = writes_held l v (entry_at l v) (λ e q. kept l v e b q) in
    and_from _ _ (lt-ltb h 16 i) (and_from _ _ (held v k) (and_from _ _ (held t j) (and_from _ _ w.0 w.1)))

-- a page that words can hold has at most 16 writes
pub few_of_page : (h v t : ℕ) (l : List Write) → has_words (an_entry h v t l) ≡ true → length l ≤ 16
few_of_page h v t l e =
    let a = (and_parts (ltb h 16) _ e).1 in
    let b = (and_parts (in_range 0 v) _ a).1 in
    let c = (and_parts (in_range 0 t) _ b).1 in
    leb-true (length l) 16 (and_parts (leb (length l) 16) (all_fit l) c).0

-- a page as it is handed to its writer, where words hold the page that it is
pub page_spelt : (p q : PageValue) (r : Result ℕ WordsRefusal) (s : Result ℕ Refusal) (out after : List ℕ) → p ≡ q → has_words q ≡ true → as_call r ≡ s →
    reply r ≡ put_answer (has_words p) (page_words p) out → after ≡ put_after (has_words p) (page_words p) out → (call_reply (λ n. n) s, after) ≡ spelt (page_words q) out
page_spelt p q r s out after same fits h e f =
    spelt_as (has_words p) r s (page_words p) out after (ap has_words same ∙ fits) h e f ∙ ap (λ x. spelt (page_words x) out) same
