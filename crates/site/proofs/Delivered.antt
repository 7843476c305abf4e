-- Deliver, by the place and by what the log makes of the message.
use Rattle.std.proofs.Common.{◌≡◌, ℕ, Bool, true, false, cond, ◌&&◌, ltb, leb, List, map, length, take, Some, None, Option, sym, refl, ap, ◌∙◌, arith}
use Rattle.std.proofs.lemmas.List.{take_all}
use Rattle.std.proofs.lemmas.Bool.{and_parts, leb-true}
use Rattle.words.specs.declared.changes.Write.{Write}
use Rattle.words.specs.Bits.{is_group, in_range}
use Rattle.words.specs.Writes.{valid_writes, fit_from}
use Rattle.words.specs.Messages.{an_edit, message_of, valid_message}
use Rattle.account.specs.declared.decisions.Decision.{Decision}
use Rattle.logs.specs.LogModel.{LogModel}
use Rattle.site.specs.declared.modes.Mode.{Mode}
use Rattle.site.specs.declared.modes.Mode.TheVariants.{Whole, Partial, Down}
use Rattle.site.specs.Modes.{given, only_whole}
use Rattle.site.specs.Slots.{settled}
use Rattle.site.specs.SiteModel.{SiteModel, with_log, with_slots}
use Rattle.site.specs.Certify.{certified, log_after, declines}
use Rattle.site.specs.Calls.{Answer, Told, Declined, Deliver, is_down, is_partial, is_beyond, placing, first, table, by_table, called, entered}

-- a valid edit has at most 16 writes, so that no more than these are gathered
pub all_gathered : (n h t s : ℕ) (l : List Write) → valid_message n (an_edit h t s l) ≡ true → take 16 l ≡ l
all_gathered n h t s l v =
    let a = (and_parts (is_group n) (ltb h n && (in_range 1 t && (in_range 0 s && valid_writes l))) v).1 in
    let b = (and_parts (ltb h n) (in_range 1 t && (in_range 0 s && valid_writes l)) a).1 in
    let c = (and_parts (in_range 1 t) (in_range 0 s && valid_writes l) b).1 in
    let d = (and_parts (in_range 0 s) (valid_writes l) c).1 in
    let e = (and_parts (leb 1 (length l)) (leb (length l) 16 && fit_from 0 l) d).1 in
    take_all 16 l (leb-true (length l) 16 (and_parts (leb (length l) 16) (fit_from 0 l) e).0)

-- a call that only a whole site carries out
pub is_whole : (k x : Mode) → given x ≡ only_whole k → k ≡ Whole
is_whole Whole x h = refl
is_whole Partial x h = absurd (let z : ◌≡◌ {A = ℕ} 0 1 = cc in omega arith)
is_whole Down x h = absurd (let z : ◌≡◌ {A = ℕ} 0 1 = cc in omega arith)

-- the table's lines where the site is whole, by its lines of the place
abbrev lines : Mode → Bool → Bool → Bool → Option ℕ
lines k a b c = cond (is_down k) (Some 1) (cond (is_partial k) (Some 2) (cond a (Some 11) (cond b (Some 12) (cond c (Some 13) None))))

place_shut : (a b c : Bool) (n : ℕ) → Some n ≡ cond a (Some 11) (cond b (Some 12) None) → Some n ≡ lines Whole a b c
place_shut true b c n h = h
place_shut false true c n h = h
place_shut false false c n h = absurd (let z : ◌≡◌ {A = ℕ} 0 1 = cc in omega arith)

place_open : (a b c : Bool) → ◌≡◌ {A = Option ℕ} None (cond a (Some 11) (cond b (Some 12) None)) → cond c (Some 13) None ≡ lines Whole a b c
place_open true b c h = absurd (let z : ◌≡◌ {A = ℕ} 0 1 = cc in omega arith)
place_open false true c h = absurd (let z : ◌≡◌ {A = ℕ} 0 1 = cc in omega arith)
place_open false false c h = refl

module _ (m : SiteModel) (place : ℕ) (ws : List ℕ) (whole : m.mode ≡ Whole) where
  abbrev at_place : Bool
  at_place = leb place m.log.place

  abbrev beyond : Bool
  beyond = is_beyond m.log.place place

  abbrev refused : Bool
  refused = declines m.log (message_of m.sites ws)

  whole_lines : (o : Option ℕ) → o ≡ lines Whole at_place beyond refused → o ≡ first (table m (Deliver place ws))
  whole_lines o h = h ∙ ap (λ k. lines k at_place beyond refused) (sym whole)

  pub deliver_misplaced : (n : ℕ) → Some n ≡ first (placing m.log.place place) → (Declined n, m) ≡ called m (Deliver place ws)
  deliver_misplaced n h = ap (λ o. by_table o m (Deliver place ws)) (whole_lines (Some n) (place_shut at_place beyond refused n h))

  module _ (next : None ≡ first (placing m.log.place place)) where
    carried : by_table (cond refused (Some 13) None) m (Deliver place ws) ≡ called m (Deliver place ws)
    carried = ap (λ o. by_table o m (Deliver place ws)) (whole_lines (cond refused (Some 13) None) (place_open at_place beyond refused next))

    told_by : (b : Bool) (d : Decision) (l : LogModel) →
        ◌≡◌ {A = Answer × LogModel} (Told d, l) (cond b (Declined 13, m.log) (Told (certified m.log (message_of m.sites ws)), log_after m.log (message_of m.sites ws))) →
        ◌≡◌ {A = Answer × SiteModel} (Told d, with_slots (with_log m l) (map (settled m.number ws d) m.slots)) (by_table (cond b (Some 13) None) m (Deliver place ws))
    told_by true d l h = absurd (let p : Told d ≡ Declined 13 = ap (λ x. x.0) h in let z : ◌≡◌ {A = ℕ} 0 1 = cc in omega arith)
    told_by false d l h =
        let p : Told d ≡ Told (certified m.log (message_of m.sites ws)) = ap (λ x. x.0) h in
        let q : d ≡ certified m.log (message_of m.sites ws) = cc in
        let r : l ≡ log_after m.log (message_of m.sites ws) = ap (λ x. x.1) h in
        ap (λ x. (Told x, with_slots (with_log m l) (map (settled m.number ws x) m.slots))) q
        ∙ ap (λ y. (Told (certified m.log (message_of m.sites ws)), with_slots (with_log m y) (map (settled m.number ws (certified m.log (message_of m.sites ws))) m.slots))) r

    declined_by : (b : Bool) (n : ℕ) (l : LogModel) →
        ◌≡◌ {A = Answer × LogModel} (Declined n, l) (cond b (Declined 13, m.log) (Told (certified m.log (message_of m.sites ws)), log_after m.log (message_of m.sites ws))) →
        ◌≡◌ {A = Answer × SiteModel} (Declined n, with_log m l) (by_table (cond b (Some 13) None) m (Deliver place ws))
    declined_by true n l h =
        let p : Declined n ≡ Declined 13 = ap (λ x. x.0) h in
        let q : n ≡ 13 = cc in
        let r : l ≡ m.log = ap (λ x. x.1) h in
        ap (λ x. (Declined x, with_log m l)) q ∙ ap (λ y. (Declined 13, with_log m y)) r
    declined_by false n l h = absurd (let p : Declined n ≡ Told (certified m.log (message_of m.sites ws)) = ap (λ x. x.0) h in let z : ◌≡◌ {A = ℕ} 0 1 = cc in omega arith)

    pub deliver_decided : (d : Decision) (l : LogModel) → (Told d, l) ≡ entered m.log (message_of m.sites ws) →
        (Told d, with_slots (with_log m l) (map (settled m.number ws d) m.slots)) ≡ called m (Deliver place ws)
    deliver_decided d l h = told_by refused d l h ∙ carried

    pub deliver_declined : (n : ℕ) (l : LogModel) → (Declined n, l) ≡ entered m.log (message_of m.sites ws) →
        (Declined n, with_log m l) ≡ called m (Deliver place ws)
    deliver_declined n l h = declined_by refused n l h ∙ carried
