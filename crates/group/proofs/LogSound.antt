-- A log agrees with the account of the whole list, and whatever is done to it keeps that so.
use Rattle.std.proofs.Common.{◌≡◌, ℕ, zero, suc, ◌+◌, ◌-◌, ◌<◌, ◌≤◌, min, max, true, false, not, ◌&&◌, ltb, List, [], ◌∷◌, ◌++◌, map, length, take, drop, set, Some, None, Option, sym, refl, ap, ◌∙◌, add-one, arith}
use Rattle.std.specs.List.{slice_get}
use Rattle.std.specs.Option.{option_map}
use Rattle.std.proofs.lemmas.Option.{slice_get-map}
use Rattle.std.proofs.lemmas.List.{append_assoc, append-nil, map-append, map_push, take-append-drop, take_at, length-append, length-map, length_push, length-take, length-drop, nil_from_length}
use Rattle.std.proofs.lemmas.Bool.{and_parts, not-false, eqb-true, false≢true}
use Rattle.std.proofs.lemmas.Bool.Decides.{nat_tests}
use Rattle.words.specs.declared.changes.Write.{Write}
use Rattle.words.specs.Bits.{is_group}
use Rattle.words.specs.Messages.{MessageValue, an_edit, a_report, message_of}
use Rattle.words.specs.Pages.{PageValue, an_entry, a_closing, page_words, page_of}
use Rattle.words.proofs.MessageSpelling.{message_spelling}
use Rattle.account.specs.declared.decisions.Decision.{Decision}
use Rattle.account.specs.declared.decisions.Decision.TheVariants.{Commit}
use Rattle.account.specs.Account.{Account, Committed, an_account, raise, decide, added, heard, account_after, commits_of, commit_of}
use Rattle.account.proofs.Entries.{report_own}
use Rattle.account.proofs.Horizons.{horizon_next, known_up_to_last}
use Rattle.logs.specs.LogModel.{Entry, LogModel, Marks, an_entry as entry_of, limit, a_log, a_mark, held, entry_at, least, last_version, can_append, can_commit, passed, ticketed, trimmed}
use Rattle.logs.proofs.Holding.{entry_above, append_parts}
use Rattle.logs.proofs.Entries.{above_floor, below_last}
use Rattle.site.specs.SiteModel.{SiteModel}
use Rattle.site.specs.Making.{is_fresh_log}
use Rattle.site.specs.Certify.{as_commit, judged_by, certified, kept, is_commit, number_or_zero, heard_by, declines, log_after}
use Rattle.site.specs.CatchUp.{covers, page_after, page_at, follows, has_room_for, log_taken}
use Rattle.group.specs.Law.{at_place, DecidesRight, PageRight, WritesRight, LogRight}
use Rattle.group.specs.Runs.{Fresh}
use Rattle.group.proofs.Nths.{nth_left, nth_right, nth_after}
use Rattle.group.proofs.Accounts.{account_next, commits_front}
use Rattle.group.proofs.Leasts.{same_least, least_covers, up_to_at, raise_noted, length_heard}
use Rattle.group.proofs.LogForms.{with_held, next_mark, passed_is, noted_is, committed_is, copied_is, closes, closed_is, unused}
use Rattle.group.proofs.Judged.{last_is, certified_is, decides_right}
use Rattle.group.proofs.PagesRight.{page_writes}

-- The commits are those up to the log's floor, the log's entries, and the rest; a log that is whole has the account of its place.
pub record LogSound (n : ℕ) (ms : List (List ℕ)) (l : LogModel) : Type 0 where
  pub past : List Committed
  pub rest : List Committed
  pub counts : length past ≡ l.floor
  pub joins : commits_of n ms ≡ (past ++ map as_commit l.entries) ++ rest
  pub low : l.floor ≤ least l.known
  pub size : length l.known ≡ n
  pub last_bound : last_version l ≤ 268435455
  pub place_bound : l.place ≤ 268435455
  pub whole : l.whole ≡ true → account_after n (take l.place ms) ≡ an_account (past ++ map as_commit l.entries) l.known

fresh_sound : (n : ℕ) (ms : List (List ℕ)) (l : LogModel) → length l.known ≡ n → is_fresh_log l ≡ true → LogSound n ms l
fresh_sound n ms l size fresh =
    let u = unused n l size fresh in
    let none : l.entries ≡ [] = nil_from_length l.entries (omega (arith, u.last)) in
    record {
      past = [];
      rest = commits_of n ms;
      counts = omega (arith, u.last);
      joins = rw none;
      low = omega (arith, u.last);
      size = size;
      last_bound = omega (arith, u.last);
      place_bound = omega (arith, u.place);
      whole = λ _. rw (u.place, none, u.known);
    }

pub log_starts : {n i : ℕ} {m : SiteModel} (ms : List (List ℕ)) → Fresh n i m → LogSound n ms m.log
log_starts {n} {i} {m} ms f =
    let l = f.log in
    let fresh : is_fresh_log l ≡ true = grind (arith, nat_tests, f.makeable) in
    let same : m.log ≡ l = ap (λ x. x.log) f.new in
    rw same (fresh_sound n ms l f.size fresh)

module _ {n : ℕ} {ms : List (List ℕ)} {l : LogModel} (s : LogSound n ms l) where
  pub log_has : LogRight (commits_of n ms) l
  log_has zero e h = absurd (omega (arith, above_floor (held l) zero e h))
  log_has (suc v) e h =
      let above = above_floor (held l) (suc v) e h in
      let j = suc v - (l.floor + 1) in
      let i : length s.past + j ≡ v = omega (arith, s.counts) in
      let es = map as_commit l.entries in
      ap (λ cs. slice_get cs v) s.joins
      ∙ nth_left (s.past ++ es) s.rest v (as_commit e)
      (ap (slice_get (s.past ++ es)) (sym i) ∙ nth_right s.past es j ∙ slice_get-map as_commit l.entries j
      ∙ ap (option_map as_commit) (sym (entry_above (held l) (suc v) above) ∙ h))

  -- other marks over the same entries
  remarked : (k : Marks) → l.floor ≤ least k.known → length k.known ≡ n → k.place ≤ 268435455 →
      (k.whole ≡ true → account_after n (take k.place ms) ≡ an_account (s.past ++ map as_commit l.entries) k.known) →
      LogSound n ms (a_log (held l) k)
  remarked k low size place whole = search

  pub log_tickets : LogSound n ms (ticketed l)
  log_tickets = grind (arith, nat_tests)

  pub log_trims : (v : ℕ) → v ≤ least l.known → LogSound n ms (trimmed l v)
  log_trims v h =
      let k : ℕ = min v (last_version l) - l.floor in
      let es = l.entries in
      let same : (s.past ++ map as_commit (take k es)) ++ map as_commit (drop k es) ≡ s.past ++ map as_commit es =
      simp (append_assoc, ← map-append, take-append-drop) in
      record {
        past = s.past ++ map as_commit (take k es);
        rest = s.rest;
        counts = simp (length-append, length-map, length-take, s.counts) (omega arith);
        joins = s.joins ∙ ap (λ x. x ++ s.rest) (sym same);
        low = omega (arith, s.low);
        size = s.size;
        last_bound = omega (arith, length-drop k es, s.last_bound);
        place_bound = s.place_bound;
        whole = λ w. s.whole w ∙ ap (λ x. an_account x l.known) (sym same);
      }

  -- the account up to the log's last version
  abbrev so_far : Account
  so_far = an_account (s.past ++ map as_commit l.entries) l.known

  last : length so_far.commits ≡ last_version l
  last = last_is l s.past s.counts

  -- a message at a whole log
  module _ (whole : l.whole ≡ true) (ws : List ℕ) (at : at_place ms (l.place + 1) ≡ Some ws) where
    there : slice_get ms l.place ≡ Some ws
    there = ap (at_place ms) (sym (add-one l.place)) ∙ at

    decided : (o : Option MessageValue) → certified l o ≡ decide so_far o
    decided = certified_is l s.past s.counts s.low

    pub log_decides : DecidesRight n ms (l.place + 1) ws (certified l (message_of n ws))
    log_decides =
        rw (add-one l.place) (decides_right n ms l.place ws (certified l (message_of n ws)) there
        (decided (message_of n ws) ∙ ap (λ a. decide a (message_of n ws)) (sym (s.whole whole))))

    module _ (room : l.place < 268435455) where
      module _ (o : Option MessageValue) (read : message_of n ws ≡ o) where
        -- the log with what the account adds and hears
        next_sound : (es : List Entry) (ks : List ℕ) → map as_commit es ≡ map as_commit l.entries ++ added (certified l o) o → ks ≡ heard so_far o →
            l.floor + length es ≤ 268435455 → LogSound n ms (with_held l es (next_mark l ks))
        next_sound es ks grown hears high =
            let front = commits_front n ms (l.place + 1) in
            let step = account_next n ms l.place ws o so_far there read (s.whole whole) in
            let same = decided o in
            let commits : so_far.commits ++ added (decide so_far o) o ≡ s.past ++ map as_commit es = grind (arith, append_assoc {A = Committed}) in
            let new : account_after n (take (l.place + 1) ms) ≡ an_account (s.past ++ map as_commit es) ks = cc in
            record {
              past = s.past;
              rest = front.0;
              counts = s.counts;
              joins = front.1 ∙ ap (λ a. a.commits ++ front.0) new;
              low = rw (same_least ks, hears) (omega (arith, s.low, same_least l.known, horizon_next so_far o));
              size = ap length hears ∙ length_heard so_far o ∙ s.size;
              last_bound = high;
              place_bound = omega arith;
              whole = λ _. new;
            }

        passes : l.known ≡ heard so_far o → added (certified l o) o ≡ [] → LogSound n ms (passed l)
        passes hears none =
            let es = map as_commit l.entries in
            rw (passed_is l room) (next_sound l.entries l.known (sym (append-nil es) ∙ ap (λ x. es ++ x) (sym none)) hears s.last_bound)

      report_sound : (i r : ℕ) → message_of n ws ≡ Some (a_report i r) → LogSound n ms (heard_by l i r)
      report_sound i r read =
          let own : i < length l.known = omega (arith, report_own n i r ((message_spelling n ws (a_report i r)).0 read).1, s.size) in
          let known = rw (s.whole whole) at (known_up_to_last n (take l.place ms)) in
          let k : ℕ = max (number_or_zero (slice_get l.known i)) (min r (last_version l)) in
          let small : k ≤ 268435455 = omega (arith, up_to_at _ l.known i known, last, s.last_bound) in
          rw (noted_is l i k own small room) (next_sound (Some (a_report i r)) read l.entries (set l.known i k) (sym (append-nil (map as_commit l.entries)))
          (raise_noted l.known i (min r (last_version l)) own ∙ ap (λ v. raise l.known i (min r v)) (sym last)) s.last_bound)

      module _ (h t x : ℕ) (us : List Write) (read : message_of n ws ≡ Some (an_edit h t x us)) where
        abbrev new_entry : Entry
        new_entry = entry_of h t us

        uncommitted : (d : Decision) → judged_by l x us ≡ d → added d (Some (an_edit h t x us)) ≡ [] → LogSound n ms (passed l)
        uncommitted d e none = passes (Some (an_edit h t x us)) read refl (ap (λ y. added y (Some (an_edit h t x us))) e ∙ none)

        edit_sound : (d : Decision) → judged_by l x us ≡ d → (is_commit d && not (can_commit l new_entry)) ≡ false → LogSound n ms (kept l new_entry d)
        edit_sound (Commit v) e taken =
            let can = not-false (can_commit l new_entry) taken in
            let fits = append_parts (held l) new_entry (and_parts (ltb l.place limit) (can_append (held l) new_entry) can).1 in
            rw (committed_is l new_entry can) (next_sound (Some (an_edit h t x us)) read (l.entries ++ (new_entry ∷ [])) l.known
            (map_push as_commit l.entries new_entry ∙ ap (λ d. map as_commit l.entries ++ added d (Some (an_edit h t x us))) (sym e))
            refl (omega (arith, length_push l.entries new_entry, fits.2)))
        edit_sound d e taken = uncommitted d e refl

      by_message : (o : Option MessageValue) → message_of n ws ≡ o → declines l o ≡ false → LogSound n ms (log_after l o)
      by_message None read taken = passes None read refl refl
      by_message (Some (a_report i r)) read taken = report_sound i r read
      by_message (Some (an_edit h t x us)) read taken = edit_sound h t x us read (judged_by l x us) refl taken

      pub log_delivers : declines l (message_of n ws) ≡ false → LogSound n ms (log_after l (message_of n ws))
      log_delivers = by_message (message_of n ws) refl

  -- pages that are taken and written
  pub log_takes : (ws : List ℕ) (p : PageValue) → page_of n ws ≡ Some p → PageRight n ms p → follows l p ≡ true → has_room_for l p ≡ true →
      LogSound n ms (log_taken l p)
  log_takes ws (an_entry h v t us) e right next room =
      let x = entry_of h t us in
      let at : v ≡ suc (last_version l) = eqb-true v (last_version l + 1) next ∙ add-one (last_version l) in
      let more : s.rest ≡ as_commit x ∷ drop 1 s.rest =
      nth_after so_far.commits s.rest (last_version l) (as_commit x) last
      (ap (λ cs. slice_get cs (last_version l)) (sym s.joins) ∙ ap (commit_of (commits_of n ms)) (sym at) ∙ right) in
      rw (copied_is l x room) (record {
        past = s.past;
        rest = drop 1 s.rest;
        counts = s.counts;
        joins = s.joins ∙ ap (λ y. so_far.commits ++ y) more ∙ simp (map_push, append_assoc);
        low = s.low;
        size = s.size;
        last_bound = omega (arith, length_push l.entries x, (append_parts (held l) x room).2);
        place_bound = s.place_bound;
        whole = λ w. absurd (false≢true w);
      })
  log_takes ws (a_closing v d ks) e right next room =
      let c = closes n v d ks ws e in
      let at : v ≡ last_version l = grind (arith, nat_tests) in
      let covering : covers l.known ks ≡ true = grind (arith, nat_tests) in
      let then = account_after n (take d ms) in
      let front = commits_front n ms d in
      let commits : then.commits ≡ so_far.commits =
      sym (take_at then.commits front.0 v (sym right.0)) ∙ ap (take v) (sym front.1 ∙ s.joins)
      ∙ take_at so_far.commits s.rest v (last ∙ sym at) in
      rw (closed_is n d ks l s.size c) (remarked (a_mark d ks l.tickets true)
      (omega (arith, s.low, least_covers l.known ks (s.size ∙ sym c.many) covering)) c.many c.place
      (λ _. ap (λ x. an_account x then.known) commits ∙ ap (an_account so_far.commits) (sym right.1)))

  pub log_writes : is_group n ≡ true → l.whole ≡ true → (v : ℕ) → WritesRight n ms (page_words (page_at l v))
  log_writes group whole v = by_entry (entry_at l (v + 1)) refl
    where
      by_entry : (o : Option Entry) → entry_at l (v + 1) ≡ o → WritesRight n ms (page_words (page_after l v o))
      by_entry None e =
          page_writes n ms group (a_closing (last_version l) l.place l.known) (s.place_bound, s.size)
          (sym (ap (λ a. length a.commits) (s.whole whole) ∙ last), sym (ap (λ a. a.known) (s.whole whole)))
      by_entry (Some x) e =
          page_writes n ms group (an_entry x.home (v + 1) x.ticket x.writes)
          (omega (arith, below_last (held l) (v + 1) x e, s.last_bound)) (log_has (v + 1) x e)
