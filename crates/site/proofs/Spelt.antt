-- What a site sends is valid in its group, so that only a short buffer is refused.
use Rattle.std.proofs.Common.{◌≡◌, ℕ, ◌*◌, ◌<◌, ◌≤◌, Bool, true, false, cond, eqb, leb, List, [], ◌∷◌, ◌++◌, length, take, drop, Result, Ok, Err, sym, refl, ap, ◌∙◌, arith, length-take}
use Rattle.std.proofs.lemmas.List.{take_at}
use Rattle.std.proofs.lemmas.Bool.{le-leb, lt-ltb, and_from}
use Rattle.words.specs.declared.changes.Write.{Write}
use Rattle.words.specs.Bits.{in_range, is_group}
use Rattle.words.specs.Writes.{fit_from, writes_words}
use Rattle.words.specs.Messages.{an_edit, message_words, valid_message}
use Rattle.words.specs.declared.encode.Refusal.{Refusal as WordsRefusal}
use Rattle.words.specs.declared.encode.Refusal.TheVariants.{OutOfRange, TooShort}
use Rattle.words.specs.Encoded.{reply, wrote, refused, put_answer, put_after}
use Rattle.few.specs.Lists.{few_items}
use Rattle.site.specs.declared.refusals.Refusal.{Refusal}
use Rattle.site.specs.Modes.{Reply, given, refused as call_refused, reply as call_reply, unwritten}
use Rattle.site.specs.declared.edits.Edit.{Edit}
use Rattle.site.specs.Edits.{edit_model}
use Rattle.site.specs.Spelling.{spelt, own_words}

-- a number that a load holds
held : (least x : ℕ) → least ≤ x → x ≤ 268435455 → in_range least x ≡ true
held least x a b = and_from _ _ (le-leb least x a) (lt-ltb x 268435456 (omega arith))

pub valid_edit : (n i t s : ℕ) (l : List Write) → is_group n ≡ true → i < n → 0 < t → t ≤ 268435455 → s ≤ 268435455 →
    0 < length l → length l ≤ 16 → fit_from 0 l ≡ true → valid_message n (an_edit i t s l) ≡ true
valid_edit n i t s l g o a b c d e f =
    and_from _ _ g (and_from _ _ (lt-ltb i n o) (and_from _ _ (held 1 t a b) (and_from _ _ (held 0 s (omega arith) c)
    (and_from _ _ (le-leb 1 (length l) d) (and_from _ _ (le-leb (length l) 16 e) f)))))

-- a writer's answer as the site's
abbrev pub as_call : Result ℕ WordsRefusal → Result ℕ Refusal
as_call (Ok n) = Ok n
as_call (Err e) = Err (unwritten e)

-- where what it writes is valid
spelt_by : (b : Bool) (r : Result ℕ WordsRefusal) (q : Result ℕ Refusal) (ws out after : List ℕ) → as_call r ≡ q →
    reply r ≡ cond b (wrote (length ws)) (refused 10) → after ≡ cond b (ws ++ drop (length ws) out) out →
    ◌≡◌ {A = Reply ℕ × List ℕ} (call_reply (λ n. n) q, after) (cond b (given (length ws), ws ++ drop (length ws) out) (call_refused 10, out))
spelt_by true (Ok k) q ws out after h e f =
    let n : k ≡ length ws = cc in ap (λ x. (call_reply (λ n. n) x, after)) (sym h) ∙ ap (λ x. (given x, after)) n ∙ ap (λ x. (given (length ws), x)) f
spelt_by false (Ok k) q ws out after h e f = absurd (let z : ◌≡◌ {A = ℕ} 0 1 = cc in omega arith)
spelt_by true (Err OutOfRange) q ws out after h e f = absurd (let z : ◌≡◌ {A = ℕ} 0 1 = cc in omega arith)
spelt_by true (Err TooShort) q ws out after h e f = absurd (let z : ◌≡◌ {A = ℕ} 0 1 = cc in omega arith)
spelt_by false (Err OutOfRange) q ws out after h e f = absurd (let z : ◌≡◌ {A = ℕ} 8 10 = cc in omega arith)
spelt_by false (Err TooShort) q ws out after h e f = ap (λ x. (call_reply (λ n. n) x, after)) (sym h) ∙ ap (λ x. (call_refused 10, x)) f

-- what is answered of it by the site
pub spelt_as : (v : Bool) (r : Result ℕ WordsRefusal) (q : Result ℕ Refusal) (ws out after : List ℕ) → v ≡ true → as_call r ≡ q →
    reply r ≡ put_answer v ws out → after ≡ put_after v ws out → (call_reply (λ n. n) q, after) ≡ spelt ws out
spelt_as v r q ws out after valid h e f =
    spelt_by (leb (length ws) (length out)) r q ws out after h (e ∙ ap (λ x. put_answer x ws out) valid) (f ∙ ap (λ x. put_after x ws out) valid)

front_by : (b : Bool) (r : Result ℕ Refusal) (ws out after : List ℕ) →
    ◌≡◌ {A = Reply ℕ × List ℕ} (call_reply (λ n. n) r, after) (cond b (given (length ws), ws ++ drop (length ws) out) (call_refused 10, out)) → (n : ℕ) → r ≡ Ok n → take n after ≡ ws
front_by true r ws out after e n q =
    let s : given n ≡ given (length ws) = sym (ap (call_reply (λ n. n)) q) ∙ ap (λ p. p.0) e in
    let k : n ≡ length ws = cc in
    let a : after ≡ ws ++ drop (length ws) out = ap (λ p. p.1) e in
    ap (take n) a ∙ take_at ws (drop (length ws) out) n (sym k)
front_by false r ws out after e n q =
    let s : given n ≡ call_refused 10 = sym (ap (call_reply (λ n. n)) q) ∙ ap (λ p. p.0) e in
    absurd (let y : ◌≡◌ {A = ℕ} 0 1 = cc in omega arith)

-- what was written stands at the buffer's front
pub front_spelt : (r : Result ℕ Refusal) (ws out after : List ℕ) → (call_reply (λ n. n) r, after) ≡ spelt ws out → (n : ℕ) → r ≡ Ok n → take n after ≡ ws
front_spelt r ws out = front_by (leb (length ws) (length out)) r ws out

length_writes : (l : List Write) → length (writes_words l) ≡ 2 * length l
length_writes [] = refl
length_writes (w ∷ l) = let e = length_writes l in omega arith

-- the longest edit has 35 words
short_by : (b : Bool) (i : ℕ) (e : Edit) → length (cond b [] (message_words (an_edit i e.ticket e.snapshot (few_items e.writes)))) ≤ 35
short_by true i e = omega arith
short_by false i e = omega (arith, length_writes (few_items e.writes), length-take e.writes.count e.writes.items, e.writes.few)

pub own_short : (i : ℕ) (e : Edit) → length (own_words i (edit_model e)) ≤ 35
own_short i e = short_by (eqb (length (few_items e.writes)) 0) i e

-- a buffer that is long enough is not refused
pub not_refused : (n : ℕ) (ws out after : List ℕ) → length ws ≤ length out → ◌≡◌ {A = Reply ℕ × List ℕ} (call_refused n, after) (spelt ws out) → ⊥
not_refused n ws out after long e =
    let s : call_refused n ≡ given (length ws) =
    ap (λ p. p.0) e ∙ ap (λ b. (cond {A = Reply ℕ × List ℕ} b (given (length ws), ws ++ drop (length ws) out) (call_refused 10, out)).0) (le-leb (length ws) (length out) long) in
    (let y : ◌≡◌ {A = ℕ} 0 1 = cc in omega arith)
