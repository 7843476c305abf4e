-- What an encoder wrote is read as what it was given.
use Rattle.std.proofs.Common.{◌≡◌, ℕ, Bool, true, false, cond, leb, List, ◌++◌, length, take, drop, IfOk, Some, Ok, Err, Option, Result, refl, ap, ◌∙◌, arith}
use Rattle.std.proofs.lemmas.List.{take_at}
use Rattle.words.specs.declared.encode.Refusal.{Refusal}
use Rattle.words.specs.Messages.{MessageValue, OneSpelling, message_words, valid_message, message_of}
use Rattle.words.specs.Pages.{PageValue, page_words, valid_page, page_of}
use Rattle.words.specs.Encoded.{wrote, refused, reply, put_answer, put_after}
use Rattle.words.proofs.MessageSpelling.{message_spelling}
use Rattle.words.proofs.PageSpelling.{page_spelling}

-- the words of m, put into a buffer where they fit, are read as m
back : {X : Type 0} (reading : List ℕ → Option X) (m : X) (ws o out : List ℕ) (b : Bool) (r : Result ℕ Refusal) →
    reading ws ≡ Some m → reply r ≡ cond b (wrote (length ws)) (refused 10) → out ≡ cond b (ws ++ drop (length ws) o) o →
    IfOk r (λ k. reading (take k out) ≡ Some m)
back reading m ws o out true (Ok k) e f g =
    let n : k ≡ length ws = cc in
    ap reading (ap (λ i. take i out) n ∙ ap (take (length ws)) g ∙ take_at ws (drop (length ws) o) (length ws) refl) ∙ e
back reading m ws o out false (Ok k) e f g = absurd (let z : ◌≡◌ {A = ℕ} 0 1 = cc in omega arith)
back reading m ws o out b (Err x) e f g = tt

-- the same of what was put as valid words
module _ {X : Type 0} (reading : List ℕ → Option X) (spelt : X → List ℕ) (valid : X → Bool) where
  put_back : ((ws : List ℕ) → OneSpelling spelt valid ws (reading ws)) → (m : X) (o out : List ℕ) (r : Result ℕ Refusal) (ws : List ℕ) →
      valid m ≡ true → ws ≡ spelt m → reply r ≡ put_answer true ws o → out ≡ put_after true ws o → IfOk r (λ k. reading (take k out) ≡ Some m)
  put_back spelling m o out r ws v e f g = back reading m ws o out (leb (length ws) (length o)) r ((spelling ws m).1 e v) f g

module _ (n : ℕ) where
  pub message_back : (m : MessageValue) (o out : List ℕ) (r : Result ℕ Refusal) (ws : List ℕ) →
      valid_message n m ≡ true → ws ≡ message_words m → reply r ≡ put_answer true ws o → out ≡ put_after true ws o →
      IfOk r (λ k. message_of n (take k out) ≡ Some m)
  message_back = put_back (message_of n) message_words (valid_message n) (message_spelling n)

  pub page_back : (m : PageValue) (o out : List ℕ) (r : Result ℕ Refusal) (ws : List ℕ) →
      valid_page n m ≡ true → ws ≡ page_words m → reply r ≡ put_answer true ws o → out ≡ put_after true ws o →
      IfOk r (λ k. page_of n (take k out) ≡ Some m)
  page_back = put_back (page_of n) page_words (valid_page n) (page_spelling n)
