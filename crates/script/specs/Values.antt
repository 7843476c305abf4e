-- What lines ask for, as values: names and words are lists of bytes, and no part of a line is borrowed.
use Rattle.std.specs.Prelude.{ℕ, List, Ok, Err, Option, Result}
use Rattle.std.specs.Option.{option_map}
use Rattle.std.specs.Borrow.{Bor}
use Rattle.words.specs.declared.changes.Change.{Change}
use Rattle.text.specs.Split.{words}
use Rattle.script.specs.declared.faults.Fault.{Fault}
use Rattle.script.specs.declared.asks.StoreKind.{StoreKind}
use Rattle.script.specs.declared.asks.LogKind.{LogKind}
use Rattle.script.specs.declared.asks.Buffer.{Buffer}
use Rattle.script.specs.declared.asks.Source.{Source}
use Rattle.script.specs.declared.asks.Source.TheVariants as source
use Rattle.script.specs.declared.asks.Deed.{Deed}
use Rattle.script.specs.declared.asks.Deed.TheVariants as deed
use Rattle.script.specs.declared.asks.Ask.{Ask}
use Rattle.script.specs.declared.asks.Ask.TheVariants as ask

-- Words to hand in: those under a name, or these.
pub data SourceValue : Type 0 where
  Named : List ℕ → SourceValue
  Spelt : List (List ℕ) → SourceValue

-- A buffer: its room, and the name for the words written.
pub data BufferValue : Type 0 where
  a_buffer : ℕ → Option (List ℕ) → BufferValue

-- A call at a site.
pub data DeedValue : Type 0 where
  Begin : List ℕ → DeedValue
  Read : List ℕ → ℕ → DeedValue
  Look : ℕ → DeedValue
  Write : List ℕ → ℕ → Change → DeedValue
  Post : List ℕ → BufferValue → DeedValue
  GiveUp : List ℕ → DeedValue
  LetGo : List ℕ → DeedValue
  Outcome : List ℕ → DeedValue
  Deliver : ℕ → Option SourceValue → DeedValue
  Step : DeedValue
  Report : BufferValue → DeedValue
  Page : ℕ → BufferValue → DeedValue
  Take : SourceValue → DeedValue
  Trim : DeedValue
  Prune : DeedValue
  Crash : DeedValue
  Wake : DeedValue
  Show : DeedValue

-- What a line asks for.
pub data AskValue : Type 0 where
  Group : ℕ → AskValue
  Site : ℕ → StoreKind → ℕ → LogKind → ℕ → AskValue
  Send : SourceValue → AskValue
  At : ℕ → DeedValue → AskValue

abbrev pub bytes : Bor (List ℕ) → List ℕ
bytes x = x.now

abbrev pub source_value : Source → SourceValue
source_value (source.Named x) = Named x.now
source_value (source.Spelt x) = Spelt (words x.now)

abbrev pub buffer_value : Buffer → BufferValue
buffer_value b = a_buffer b.room (option_map bytes b.name)

abbrev pub deed_value : Deed → DeedValue
deed_value (deed.Begin x) = Begin x.now
deed_value (deed.Read x i) = Read x.now i
deed_value (deed.Look i) = Look i
deed_value (deed.Write x i c) = Write x.now i c
deed_value (deed.Post x b) = Post x.now (buffer_value b)
deed_value (deed.GiveUp x) = GiveUp x.now
deed_value (deed.LetGo x) = LetGo x.now
deed_value (deed.Outcome x) = Outcome x.now
deed_value (deed.Deliver p s) = Deliver p (option_map source_value s)
deed_value deed.Step = Step
deed_value (deed.Report b) = Report (buffer_value b)
deed_value (deed.Page v b) = Page v (buffer_value b)
deed_value (deed.Take s) = Take (source_value s)
deed_value deed.Trim = Trim
deed_value deed.Prune = Prune
deed_value deed.Crash = Crash
deed_value deed.Wake = Wake
deed_value deed.Show = Show

abbrev pub ask_value : Ask → AskValue
ask_value (ask.Group n) = Group n
ask_value (ask.Site i p) = Site i p.store p.records p.log p.room
ask_value (ask.Send s) = Send (source_value s)
ask_value (ask.At i d) = At i (deed_value d)

-- What was read, as a value.
abbrev pub told : {A B : Type 0} → (A → B) → Result A Fault → Result B Fault
told f (Ok a) = Ok (f a)
told f (Err e) = Err e

-- One after another: the first fault ends the reading.
abbrev pub then : {A B : Type 0} → Result A Fault → (A → Result B Fault) → Result B Fault
then (Ok a) f = f a
then (Err e) f = Err e
