-- What counters hold.
use Rattle.few.specs.Lists.{few_items}
use Rattle.logs.specs.declared.counters.Counters.{Counters}
use Rattle.logs.specs.LogModel.{Marks, a_mark}

abbrev pub counters_marks : Counters → Marks
counters_marks c = a_mark c.place (few_items c.known) c.tickets c.whole
