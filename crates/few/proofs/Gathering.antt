-- A list gathered item by item.
use Rattle.std.proofs.Common.{◌≡◌, ℕ, ◌+◌, ◌<◌, Option, Some, List, [], ◌∷◌, ◌++◌, length, take, subst, sym, ap, ◌∙◌, length-append}
use Rattle.std.proofs.lemmas.List.{append_assoc, append-nil}
use Rattle.few.specs.Lists.{Gathers, full, more}

-- So many items were gathered, and whatever is gathered from here on goes on with them.
pub record Gathering {A : Type 0} (P : ℕ → Option A → Type 0) (n i : ℕ) (l : List A) : Type 0 where
  pub count : length l ≡ i
  pub goes_on : (rest : List A) → Gathers P n i rest → Gathers P n 0 (l ++ rest)

module _ {A : Type 0} (P : ℕ → Option A → Type 0) (n : ℕ) where
  pub gathering_none : (l : List A) → l ≡ [] → Gathering P n 0 l
  gathering_none l e = record {
    count = ap length e;
    goes_on = λ rest h. subst (λ v. Gathers P n 0 (v ++ rest)) (sym e) h;
  }

  pub gathering_more : (i : ℕ) (x : A) (l m : List A) → i < n → P i (Some x) → m ≡ l ++ (x ∷ []) → Gathering P n i l → Gathering P n (i + 1) m
  gathering_more i x l m h p added g =
      record {
        count = ap length added ∙ length-append l (x ∷ []) ∙ ap (λ k. k + 1) g.count;
        goes_on = λ rest r. subst (λ v. Gathers P n 0 v) (sym (ap (λ v. v ++ rest) added ∙ append_assoc l (x ∷ []) rest)) (g.goes_on (x ∷ rest) (more h p r));
      }

  pub gathered : (i : ℕ) (l : List A) → Gathers P n i [] → Gathering P n i l → Gathers P n 0 l
  gathered i l r g = subst (λ v. Gathers P n 0 v) (append-nil l) (g.goes_on [] r)

  pub gathered_full : (i : ℕ) (xs : List A) → i ≡ n → Gathering P n i (take i xs) → Gathers P n 0 (take n xs)
  gathered_full i xs e g = subst (λ k. Gathers P n 0 (take k xs)) e (gathered i (take i xs) (subst (λ k. Gathers P n k []) (sym e) full) g)
