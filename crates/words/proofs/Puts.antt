-- Words put into a buffer from its first word on.
use Rattle.std.proofs.Common.{◌≡◌, ℕ, ◌+◌, ◌-◌, ◌*◌, ◌<◌, ◌≤◌, true, List, [], ◌∷◌, ◌++◌, map, length, get_or, take, drop, set, sym, refl, ap, ◌∙◌, arith}
use borrow.Rule.Slice.PartMut.{put_mid}
use Rattle.std.proofs.lemmas.List.{append_assoc, append-nil, drop_more, drop_all, set_at, take_more, take_all, length_push, length-take-le, length-map, map_more}
use Rattle.std.proofs.lemmas.Bool.{le-leb, lt-leb}
use Rattle.words.specs.declared.changes.Write.{Write}
use Rattle.words.specs.Bits.{word}
use Rattle.words.specs.Writes.{change_word, writes_words}
use Rattle.words.specs.Encoded.{wrote, refused, put_answer, put_after}

pub length_writes : (l : List Write) → length (writes_words l) ≡ 2 * length l
length_writes [] = refl
length_writes (w ∷ l) = let e = length_writes l in omega arith

writes_append : (l m : List Write) → writes_words (l ++ m) ≡ writes_words l ++ writes_words m
writes_append [] m = refl
writes_append (w ∷ l) m = ap (λ v. word 5 w.item ∷ (change_word w.change ∷ v)) (writes_append l m)

-- one word more, after those that stand already
put_one : (p o : List ℕ) (n a : ℕ) → length p ≡ n → n < length o → set (p ++ drop n o) n a ≡ (p ++ (a ∷ [])) ++ drop (n + 1) o
put_one p o n a e h =
    ap (λ v. set (p ++ v) n a) (drop_more o n 0 h)
    ∙ set_at p (get_or o n 0) (drop (n + 1) o) a n e
    ∙ sym (append_assoc p (a ∷ []) (drop (n + 1) o))

put_next : (p o : List ℕ) (n a b : ℕ) → length p ≡ n → n + 2 ≤ length o →
    set (set (p ++ drop n o) n a) (n + 1) b ≡ (p ++ (a ∷ (b ∷ []))) ++ drop (n + 2) o
put_next p o n a b e h =
    let k : n + 1 + 1 ≡ n + 2 = omega arith in
    ap (λ v. set v (n + 1) b) (put_one p o n a e (omega arith))
    ∙ put_one (p ++ (a ∷ [])) o (n + 1) b (length_push p a ∙ ap (λ x. x + 1) e) (omega arith)
    ∙ ap (λ v. v ++ drop (n + 1 + 1) o) (append_assoc p (a ∷ []) (b ∷ []))
    ∙ ap (λ m. (p ++ (a ∷ (b ∷ []))) ++ drop m o) k

-- the words of one write more
pub write_more : (l : List Write) (o out : List ℕ) (i a b : ℕ) (d : Write) → i < length l → 2 * length l ≤ length o →
    out ≡ writes_words (take i l) ++ drop (2 * i) o → a ≡ word 5 (get_or l i d).item → b ≡ change_word (get_or l i d).change →
    set (set out (2 * i) a) (2 * i + 1) b ≡ writes_words (take (i + 1) l) ++ drop (2 * (i + 1)) o
write_more l o out i a b d h r e p q =
    let n : length (writes_words (take i l)) ≡ 2 * i = length_writes (take i l) ∙ ap (λ x. 2 * x) (length-take-le i l (omega arith)) in
    let m : 2 * i + 2 ≡ 2 * (i + 1) = omega arith in
    let t = put_next (writes_words (take i l)) o (2 * i) a b n (omega arith) in
    let u = ap writes_words (take_more l i d h) ∙ writes_append (take i l) (get_or l i d ∷ []) in
    cc

-- the word of one known number more
pub known_more : (l o out : List ℕ) (i a d : ℕ) → i < length l → length l ≤ length o →
    out ≡ map (word 11) (take i l) ++ drop i o → a ≡ word 11 (get_or l i d) →
    set out i a ≡ map (word 11) (take (i + 1) l) ++ drop (i + 1) o
known_more l o out i a d h r e p =
    let n : length (map (word 11) (take i l)) ≡ i = length-map (take i l) (word 11) ∙ length-take-le i l (omega arith) in
    let t = put_one (map (word 11) (take i l)) o i a n (omega arith) in
    let u = map_more (word 11) l i d h in
    cc

-- three words by index, and then the part from the fourth word on
pub put_three : (o p out : List ℕ) (a b c k : ℕ) → 3 ≤ length o → length p ≡ k →
    out ≡ p ++ drop k (take (length (set (set (set o 0 a) 1 b) 2 c) - 3) (drop 3 (set (set (set o 0 a) 1 b) 2 c))) →
    put_mid 3 (length (set (set (set o 0 a) 1 b) 2 c) - 3) (set (set (set o 0 a) 1 b) 2 c) out
    ≡ (a ∷ (b ∷ (c ∷ p))) ++ drop (length (a ∷ (b ∷ (c ∷ p)))) o
put_three [] p out a b c k h l e = absurd (omega arith)
put_three (x ∷ []) p out a b c k h l e = absurd (omega arith)
put_three (x ∷ (y ∷ [])) p out a b c k h l e = absurd (omega arith)
put_three (x ∷ (y ∷ (z ∷ r))) p out a b c k h l e =
    let n : ℕ = length (a ∷ (b ∷ (c ∷ r))) - 3 in
    let t : take n r ≡ r = take_all n r (omega arith) in
    let u : drop n r ≡ [] = drop_all n r (omega arith) in
    ap (λ v. a ∷ (b ∷ (c ∷ (out ++ v)))) u
    ∙ ap (λ v. a ∷ (b ∷ (c ∷ v))) (append-nil out ∙ e ∙ ap (λ v. p ++ drop k v) t)
    ∙ ap (λ i. a ∷ (b ∷ (c ∷ (p ++ drop i r)))) (sym l)

-- the same, with the three words put as a front
pub put_front : (f o p out : List ℕ) (k : ℕ) → length f ≡ 3 → 3 ≤ length o → length p ≡ k →
    out ≡ p ++ drop k (take (length (f ++ drop 3 o) - 3) (drop 3 (f ++ drop 3 o))) →
    put_mid 3 (length (f ++ drop 3 o) - 3) (f ++ drop 3 o) out ≡ (f ++ p) ++ drop (length (f ++ p)) o
put_front [] o p out k m h l e = absurd (omega arith)
put_front (a ∷ []) o p out k m h l e = absurd (omega arith)
put_front (a ∷ (b ∷ [])) o p out k m h l e = absurd (omega arith)
put_front (a ∷ (b ∷ (c ∷ []))) [] p out k m h l e = absurd (omega arith)
put_front (a ∷ (b ∷ (c ∷ []))) (x ∷ []) p out k m h l e = absurd (omega arith)
put_front (a ∷ (b ∷ (c ∷ []))) (x ∷ (y ∷ [])) p out k m h l e = absurd (omega arith)
put_front (a ∷ (b ∷ (c ∷ []))) (x ∷ (y ∷ (z ∷ r))) p out k m h l e = put_three (x ∷ (y ∷ (z ∷ r))) p out a b c k h l e
put_front (a ∷ (b ∷ (c ∷ (d ∷ f)))) o p out k m h l e = absurd (omega arith)

pub put_two : (o : List ℕ) (a b : ℕ) → 2 ≤ length o → set (set o 0 a) 1 b ≡ (a ∷ (b ∷ [])) ++ drop 2 o
put_two [] a b h = absurd (omega arith)
put_two (x ∷ []) a b h = absurd (omega arith)
put_two (x ∷ (y ∷ r)) a b h = refl

-- what is answered and what is left, without room for the words and with room
module _ (ws o : List ℕ) where
  pub no_room : length o < length ws → (refused 10 ≡ put_answer true ws o) × (o ≡ put_after true ws o)
  no_room h = simp (lt-leb (length ws) (length o) h) (refl, refl)

  pub room : length ws ≤ length o → (wrote (length ws) ≡ put_answer true ws o) × (ws ++ drop (length ws) o ≡ put_after true ws o)
  room h = simp (le-leb (length ws) (length o) h) (refl, refl)
