-- The write that begins the words, from its two words and back.
use Rattle.std.proofs.Common.{◌≡◌, ℕ, Bool, true, false, cond, eqb, List, [], ◌∷◌, drop, is_some, Some, None, Option, refl, ap, arith}
use Rattle.std.specs.Option.{option_map}
use Rattle.std.proofs.lemmas.Bool.{eq-eqb, eqb-true}
use Rattle.words.specs.declared.changes.Change.{Change}
use Rattle.words.specs.declared.changes.Write.{Write}
use Rattle.words.specs.Bits.{kind_of, load_of}
use Rattle.words.specs.Writes.{a_write, change_of, write_of, first_write, after_write}

made_some : (b : Bool) (o : Option Change) (i : ℕ) (x : Change) → b ≡ true → o ≡ Some x →
    cond b (option_map (a_write i) o) None ≡ Some (a_write i x)
made_some b o i x p q = simp (p, q)

pub write_of_some : (i c : ℕ) (x : Change) → kind_of i ≡ 5 → change_of c ≡ Some x → write_of i c ≡ Some (a_write (load_of i) x)
write_of_some i c x p q = made_some (eqb (kind_of i) 5) (change_of c) (load_of i) x (eq-eqb (kind_of i) 5 p) q

-- What stands after it.
pub after_is : (ws : List ℕ) (w : Write) → first_write ws ≡ Some w → after_write ws ≡ drop 2 ws
after_is [] w p = absurd (let z : ◌≡◌ {A = ℕ} 0 1 = cc in omega arith)
after_is (i ∷ []) w p = absurd (let z : ◌≡◌ {A = ℕ} 0 1 = cc in omega arith)
after_is (i ∷ (c ∷ ws)) w p = ap (λ o. cond (is_some o) ws (i ∷ (c ∷ ws))) p

-- What a write's two words are, from the write.
parts : (b : Bool) (n : ℕ) (o : Option Change) (w : Write) → cond b (option_map (a_write n) o) None ≡ Some w →
    (b ≡ true) × (w.item ≡ n) × (o ≡ Some w.change)
parts true n None w p = absurd (let z : ◌≡◌ {A = ℕ} 0 1 = cc in omega arith)
parts true n (Some x) w p = (refl, (cc), (cc))
parts false n o w p = absurd (let z : ◌≡◌ {A = ℕ} 0 1 = cc in omega arith)

pub write_parts : (i c : ℕ) (w : Write) → write_of i c ≡ Some w → (kind_of i ≡ 5) × (w.item ≡ load_of i) × (change_of c ≡ Some w.change)
write_parts i c w p =
    let q = parts (eqb (kind_of i) 5) (load_of i) (change_of c) w p in (eqb-true (kind_of i) 5 q.0, q.1, q.2)
