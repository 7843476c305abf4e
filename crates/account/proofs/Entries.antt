-- From one message entered to the account of the whole list.
use Rattle.std.proofs.Common.{◌≡◌, ℕ, ◌+◌, ◌<◌, true, ltb, List, [], ◌∷◌, ◌++◌, length, Some, None, Ok, Err, Option, Result, sym, refl, ap, ◌∙◌, subst}
use Rattle.std.specs.Option.{option_map}
use Rattle.std.proofs.lemmas.List.{append-nil, length_push}
use Rattle.std.proofs.lemmas.Bool.{ltb-true, and_parts}
use Rattle.words.specs.declared.changes.Write.{Write}
use Rattle.words.specs.Bits.{in_range, is_group}
use Rattle.words.specs.declared.messages.Message.{Message}
use Rattle.words.specs.Messages.{MessageValue, an_edit, a_report, valid_message, message_of, message_value}
use Rattle.account.specs.declared.decisions.Decision.{Decision}
use Rattle.account.specs.declared.decisions.Decision.TheVariants.{Void, Noted, Ahead, TooOld, Conflict, Commit}
use Rattle.account.specs.declared.decisions.Fault.{Fault}
use Rattle.account.specs.declared.decisions.Fault.TheVariants.{GroupSize, TooManyPlaces, NoMemory}
use Rattle.account.specs.Account.{Account, Committed, an_account, a_commit, judged, decide, added, next, opening, account_after, decisions}
use Rattle.account.specs.Books.{Books, some_books, Entered, Lawful}
use Rattle.account.proofs.Steps.{after_append, decisions_append}

pub lawful_from : (b b' : Books) (ws : List ℕ) (r : Result Decision Fault) → Entered b b' (message_of b.sites ws) r → Lawful b b' ws r
lawful_from b b' ws (Ok d) e ms at =
    let n = b.sites in
    let a : b.account ≡ account_after n ms = ap (λ x. x.account) at in
    let p : b.places ≡ length ms = ap (λ x. x.places) at in (
      e.2
          ∙ ap (λ x. some_books n (b.places + 1) (next x (message_of n ws))) a
          ∙ ap (λ k. some_books n (k + 1) (next (account_after n ms) (message_of n ws))) p
          ∙ ap (λ k. some_books n k (next (account_after n ms) (message_of n ws))) (sym (length_push ms ws))
          ∙ ap (some_books n (length (ms ++ (ws ∷ [])))) (sym (after_append n (opening n) ms (ws ∷ []))),
      decisions_append n (opening n) ms (ws ∷ [])
          ∙ ap (λ x. decisions n ms ++ (decide x (message_of n ws) ∷ [])) (sym a)
          ∙ ap (λ x. decisions n ms ++ (x ∷ [])) (sym e.1),
    )
lawful_from b b' ws (Err GroupSize) e ms at = tt
lawful_from b b' ws (Err TooManyPlaces) e ms at = tt
lawful_from b b' ws (Err NoMemory) e ms at = tt

-- the same message, read from words
pub entered_as : (b b' : Books) (m m' : Option MessageValue) (r : Result Decision Fault) → m ≡ m' → Entered b b' m r → Entered b b' m' r
entered_as b b' m m' r e = subst (λ x. Entered b b' x r) e

pub void_entered : (n d : ℕ) (a : Account) → d < 268435455 → Entered (some_books n d a) (some_books n (d + 1) a) None (Ok Void)
void_entered n d a h = (h, refl, ap (λ cs. some_books n (d + 1) (an_account cs a.known)) (sym (append-nil a.commits)))

-- a report's site is one of the group
pub report_own : (n s v : ℕ) → valid_message n (a_report s v) ≡ true → s < n
report_own n s v e = ltb-true s n (and_parts (ltb s n) (in_range 0 v) (and_parts (is_group n) _ e).1).0

-- an edit decided: kept if it commits, and not otherwise
module _ (n d : ℕ) (a : Account) (h t s : ℕ) (l : List Write) (x : Decision) (room : d < 268435455) (e : x ≡ judged a s l) where
  entered_with : (cs : List Committed) → cs ≡ a.commits ++ added x (Some (an_edit h t s l)) →
      Entered (some_books n d a) (some_books n (d + 1) (an_account cs a.known)) (Some (an_edit h t s l)) (Ok x)
  entered_with cs f = (
    room,
    e,
    ap (λ k. some_books n (d + 1) (an_account k a.known)) (f ∙ ap (λ y. a.commits ++ added y (Some (an_edit h t s l))) e),
  )

  pub kept_entered : (v : ℕ) (cs : List Committed) → x ≡ Commit v → cs ≡ a.commits ++ (a_commit h t l ∷ []) →
      Entered (some_books n d a) (some_books n (d + 1) (an_account cs a.known)) (Some (an_edit h t s l)) (Ok x)
  kept_entered v cs f g = entered_with cs (g ∙ ap (λ y. a.commits ++ added y (Some (an_edit h t s l))) (sym f))

  none_added : (y : Decision) → ((v : ℕ) → y ≡ Commit v → ⊥) → added y (Some (an_edit h t s l)) ≡ []
  none_added Void f = refl
  none_added Noted f = refl
  none_added Ahead f = refl
  none_added TooOld f = refl
  none_added (Conflict w) f = refl
  none_added (Commit v) f = absurd (f v refl)

  pub passed_entered : (cs : List Committed) → ((v : ℕ) → x ≡ Commit v → ⊥) → cs ≡ a.commits →
      Entered (some_books n d a) (some_books n (d + 1) (an_account cs a.known)) (Some (an_edit h t s l)) (Ok x)
  passed_entered cs f g = entered_with cs (g ∙ sym (append-nil a.commits) ∙ ap (λ y. a.commits ++ y) (sym (none_added x f)))

-- the message that a reading of words found
pub found_as : (r : Option Message) (o : Option MessageValue) (m : Message) (v : MessageValue) →
    option_map message_value r ≡ o → r ≡ Some m → message_value m ≡ v → Some v ≡ o
found_as r o m v e f g = ap Some (sym g) ∙ ap (option_map message_value) (sym f) ∙ e
