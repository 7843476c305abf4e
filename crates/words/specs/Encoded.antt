-- Writing words into a buffer: the answer, and the whole buffer afterwards.
use Rattle.std.specs.Prelude.{ℕ, Bool, cond, List, ◌++◌, length, drop, Ok, Err, Result, nat_le}
use Rattle.words.specs.declared.encode.Refusal.{Refusal}
use Rattle.words.specs.declared.encode.Refusal.TheVariants.{OutOfRange, TooShort}
use Rattle.words.specs.declared.encode.EditParts.{EditParts}
use Rattle.words.specs.declared.encode.EntryParts.{EntryParts}
use Rattle.words.specs.declared.encode.ReportParts.{ReportParts}
use Rattle.words.specs.declared.encode.ClosingParts.{ClosingParts}
use Rattle.words.specs.Messages.{MessageValue, an_edit, a_report}
use Rattle.words.specs.Pages.{PageValue, an_entry, a_closing}

-- The number of each refusal.
abbrev pub refusal_number : Refusal → ℕ
refusal_number OutOfRange = 8
refusal_number TooShort = 10

-- An answer by its numbers: how many words were written, or why none were.
pub data Reply : Type 0 where
  wrote : ℕ → Reply
  refused : ℕ → Reply

abbrev pub reply : Result ℕ Refusal → Reply
reply (Ok n) = wrote n
reply (Err e) = refused (refusal_number e)

-- Words go from the buffer's first word on; 10 where it is too short for them, and 8 before that where they are not valid.
abbrev pub put_answer : Bool → List ℕ → List ℕ → Reply
put_answer valid ws buffer =
    cond valid (cond (nat_le (length ws) (length buffer)) (wrote (length ws)) (refused 10)) (refused 8)

-- The rest of the buffer is left, and all of it where nothing is written.
abbrev pub put_after : Bool → List ℕ → List ℕ → List ℕ
put_after valid ws buffer =
    cond valid (cond (nat_le (length ws) (length buffer)) (ws ++ drop (length ws) buffer) buffer) buffer

-- The parts handed in, as values.
abbrev pub edit_value : EditParts → MessageValue
edit_value e = an_edit e.site e.ticket e.snapshot e.writes.now

abbrev pub report_value : ReportParts → MessageValue
report_value r = a_report r.site r.version

abbrev pub entry_value : EntryParts → PageValue
entry_value e = an_entry e.site e.version e.ticket e.writes.now

abbrev pub closing_value : ClosingParts → PageValue
closing_value c = a_closing c.version c.place c.known.now
