-- The numbers of the refusals, and what mode and event decide together.
use Rattle.std.specs.Prelude.{ℕ, Bool, cond, Ok, Err, Result}
use Rattle.words.specs.declared.encode.Refusal.{Refusal as WordsRefusal}
use Rattle.words.specs.declared.encode.Refusal.TheVariants as words-refusal
use Rattle.site.specs.declared.modes.Mode.{Mode}
use Rattle.site.specs.declared.modes.Mode.TheVariants.{Whole, Partial, Down}
use Rattle.site.specs.declared.modes.Event.{Event}
use Rattle.site.specs.declared.modes.Event.TheVariants.{Begin, Deliver, Page, TakeEntry, TakeClosing, GiveUp, LetGo, Crash, Wake, Other}
use Rattle.site.specs.declared.refusals.Refusal.{Refusal}
use Rattle.site.specs.declared.refusals.Refusal.TheVariants.{SiteDown, SitePartial, NotDown, NoSlot, NoTicket, NotYours, ChangeUnderWay, OutOfRange, TooManyItems, ShortBuffer, PlaceDecided, PlaceAhead, LogFull, StoreFull, SlotsHeld, NoPage, WrongPage, VersionAhead, VersionTrimmed, NotFresh}

abbrev pub refusal_number : Refusal → ℕ
refusal_number SiteDown = 1
refusal_number SitePartial = 2
refusal_number NotDown = 3
refusal_number NoSlot = 4
refusal_number NoTicket = 5
refusal_number NotYours = 6
refusal_number ChangeUnderWay = 7
refusal_number OutOfRange = 8
refusal_number TooManyItems = 9
refusal_number ShortBuffer = 10
refusal_number PlaceDecided = 11
refusal_number PlaceAhead = 12
refusal_number LogFull = 13
refusal_number StoreFull = 14
refusal_number SlotsHeld = 15
refusal_number NoPage = 16
refusal_number WrongPage = 17
refusal_number VersionAhead = 18
refusal_number VersionTrimmed = 19
refusal_number NotFresh = 20

-- Why no words were written, as a call's refusal.
abbrev pub unwritten : WordsRefusal → Refusal
unwritten words-refusal.OutOfRange = OutOfRange
unwritten words-refusal.TooShort = ShortBuffer

-- What a call answers: a value, or a refusal by its number.
pub data Reply (A : Type 0) : Type 0 where
  given : A → Reply A
  refused : ℕ → Reply A

abbrev pub reply : {A B : Type 0} → (A → B) → Result A Refusal → Reply B
reply f (Ok a) = given (f a)
reply f (Err e) = refused (refusal_number e)

abbrev pub admission : Result Mode Refusal → Reply Mode
admission r = reply (λ m. m) r

-- Calls that every mode but down carries out, and that only a whole site does; both leave the mode.
abbrev pub unless_down : Mode → Reply Mode
unless_down Whole = given Whole
unless_down Partial = given Partial
unless_down Down = refused 1

abbrev pub only_whole : Mode → Reply Mode
only_whole Whole = given Whole
only_whole Partial = refused 2
only_whole Down = refused 1

-- Calls that turn the mode.
abbrev pub turned_to : Mode → Mode → Reply Mode
turned_to to Whole = given to
turned_to to Partial = given to
turned_to to Down = refused 1

-- Waking, by the log's mark.
abbrev pub woken : Bool → Mode → Reply Mode
woken mark Whole = refused 3
woken mark Partial = refused 3
woken mark Down = given (cond mark Whole Partial)

-- The mode after the call, or the number of the refusal.
abbrev pub admitted : Mode → Event → Reply Mode
admitted m Begin = only_whole m
admitted m Deliver = only_whole m
admitted m Page = only_whole m
admitted m TakeEntry = turned_to Partial m
admitted m TakeClosing = turned_to Whole m
admitted m GiveUp = given m
admitted m LetGo = given m
admitted m Crash = turned_to Down m
admitted m (Wake mark) = woken mark m
admitted m Other = unless_down m
