-- A site as its callers see it: requests and responses in numbers, with the caller's memory beside them.
use Rattle.std.specs.Prelude.{◌≡◌, ℕ, Bool, not, ◌&&◌, List, length, take, is_some, Ok, Err, Result, ◌==◌}
use Rattle.store.specs.StoreModel.{Bounded as StoreBounded}
use Rattle.logs.specs.LogModel.{last_version, Bounded as LogBounded}
use Rattle.site.specs.declared.calls.Request.{Request}
use Rattle.site.specs.declared.calls.Request.TheVariants as request
use Rattle.site.specs.declared.calls.Response.{Response}
use Rattle.site.specs.declared.calls.Response.TheVariants as response
use Rattle.site.specs.declared.calls.Shown.{Shown}
use Rattle.site.specs.declared.modes.Mode.{Mode}
use Rattle.site.specs.declared.refusals.Refusal.{Refusal}
use Rattle.site.specs.Modes.{refusal_number}
use Rattle.few.specs.Lists.{few_items}
use Rattle.site.specs.Slots.{all_empty}
use Rattle.site.specs.SiteModel.{SiteModel}
use Rattle.site.specs.Making.{is_fresh_store, is_fresh_log}
use Rattle.site.specs.Calls.{Call, Begin, Read, Look, Put, Post, GiveUp, Outcome, LetGo, Deliver, Step, Report, Page, Take, Trim, Prune, Crash, Wake, Answer, Declined, Drafted, Value, Done, ReadOnly, Sent, Pending, Told, Wrote, Woken, is_whole, step_answer}

-- The call that a request is, with the words handed in and the room of the buffer.
abbrev pub asked : Request → List ℕ → ℕ → Call
asked request.Begin ws room = Begin
asked (request.Read h x) ws room = Read h x
asked (request.Look x) ws room = Look x
asked (request.Put h w) ws room = Put h w
asked (request.Post h) ws room = Post h room
asked (request.GiveUp h) ws room = GiveUp h
asked (request.Outcome h) ws room = Outcome h
asked (request.LetGo h) ws room = LetGo h
asked (request.Deliver p) ws room = Deliver p ws
asked request.Step ws room = Step
asked request.Report ws room = Report room
asked (request.Page v) ws room = Page v room
asked request.Take ws room = Take ws
asked request.Trim ws room = Trim
asked request.Prune ws room = Prune
asked request.Crash ws room = Crash
asked request.Wake ws room = Wake

-- The answer that a response or a refusal is, with the buffer as it is afterwards: words that were written stand at its front.
abbrev pub heard : Result Response Refusal → List ℕ → Answer
heard (Err e) out = Declined (refusal_number e)
heard (Ok (response.Drafted h)) out = Drafted h
heard (Ok (response.Value o)) out = Value o
heard (Ok response.Done) out = Done
heard (Ok response.ReadOnly) out = ReadOnly
heard (Ok (response.Sent h n)) out = Sent h (take n out)
heard (Ok response.Pending) out = Pending
heard (Ok (response.Told d)) out = Told d
heard (Ok (response.Stepped s)) out = step_answer s
heard (Ok (response.Wrote n)) out = Wrote (take n out)
heard (Ok (response.Woken k)) out = Woken k

-- What a site shows of itself in any mode.
abbrev pub shown : SiteModel → Mode × ℕ × ℕ × ℕ × ℕ × ℕ × ℕ × List ℕ × ℕ
shown m =
    (m.mode, m.store.version, length m.store.sealed, length m.store.staged, m.log.floor, last_version m.log, m.log.place, m.log.known, m.log.tickets)

abbrev pub shown_as : Shown → Mode × ℕ × ℕ × ℕ × ℕ × ℕ × ℕ × List ℕ × ℕ
shown_as s =
    (s.mode, s.version, s.sealed, s.staged, s.floor, s.last, s.place, few_items s.known, s.tickets)

-- Whether mode, slots and change are those of a site that nothing has happened to.
abbrev pub is_idle : SiteModel → Bool
is_idle m = is_whole m.mode && (all_empty m.slots && not (is_some m.change))

-- Whether a site is number i of a group of n, as it was made.
abbrev pub is_new : ℕ → ℕ → SiteModel → Bool
is_new n i m =
    (m.number == i) && (m.sites == n && (length m.log.known == n && (is_fresh_store m.store && (is_fresh_log m.log && is_idle m))))

-- What holds of every site: its store's and its log's bounds, and eight slots.
pub record Bounded (m : SiteModel) : Type 0 where
  pub store : StoreBounded m.store
  pub log : LogBounded m.log
  pub eight : length m.slots ≡ 8
