-- The kinds of words, and the number of each.
use Rattle.std.specs.Prelude.{ℕ, cond, Some, None, Option, ◌==◌}
use Rattle.words.specs.declared.bits.Kind.{Kind}
use Rattle.words.specs.declared.bits.Kind.TheVariants.{Edit, Report, Ticket, Version, Item, Value, Removal, Entry, Closing, Place, Known}

abbrev pub kind_number : Kind → ℕ
kind_number Edit = 1
kind_number Report = 2
kind_number Ticket = 3
kind_number Version = 4
kind_number Item = 5
kind_number Value = 6
kind_number Removal = 7
kind_number Entry = 8
kind_number Closing = 9
kind_number Place = 10
kind_number Known = 11

-- The kind that has the number, if any.
abbrev pub kind_numbered : ℕ → Option Kind
kind_numbered n =
    cond (n == 1) (Some Edit) (cond (n == 2) (Some Report) (cond (n == 3) (Some Ticket) (cond (n == 4) (Some Version) (cond (n == 5) (Some Item)
    (cond (n == 6) (Some Value) (cond (n == 7) (Some Removal) (cond (n == 8) (Some Entry) (cond (n == 9) (Some Closing)
    (cond (n == 10) (Some Place) (cond (n == 11) (Some Known) None))))))))))
