-- What holds of every log, and of each of the two for crates that know which one they have.
use Rattle.std.specs.Prelude.{ℕ}
use Rattle.std.proofs.Common.{arith}
use Rattle.std.proofs.lemmas.List.{length-take-le}
use Rattle.logs.specs.declared.kept.Kept.{Kept}
use Rattle.logs.specs.declared.pages.Pages.{Pages}
use Rattle.logs.specs.declared.table.Table.{Table}
use Rattle.logs.specs.LogModel.{Held, HeldBounds, Bounded}
use Rattle.logs.specs.KeptModel.{kept_model}
use Rattle.logs.specs.FlatModel.{flat_model}
use Rattle.logs.specs.PackedModel.{packed_model}
use Rattle.logs.specs.TableModel.{table_held}
use Rattle.logs.specs.PagesModel.{pages_held}
use Rattle.logs.specs.HolderBounds.{table_bounds, pages_bounds}

pub kept_bounded : {H : Type 0} {entry_cost write_cost : ℕ} (held_of : H → Held) → ((h : H) → HeldBounds entry_cost write_cost (held_of h)) →
    (l : Kept H) → Bounded (kept_model held_of l)
kept_bounded held_of bounds l =
    let b = bounds l.holder in
    let k = l.counters in
    let n = length-take-le k.known.count k.known.items (omega (arith, k.known.memory, k.known.few)) in
    record {
      last_bound = b.last_bound;
      capacity_bound = b.capacity_bound;
      entry_cost_bound = omega (arith, b.entry_cost_held, b.entry_cost_bound);
      write_cost_bound = omega (arith, b.write_cost_held, b.write_cost_bound);
      affordable = b.affordable;
      readable = b.readable;
      place_bound = k.placed;
      tickets_bound = k.counted;
      known_bound = k.within;
      few_sites = omega (arith, n, k.known.few);
      two_sites = k.two;
    }

pub flat_bounded : (l : Kept Table) → Bounded (flat_model l)
flat_bounded = kept_bounded table_held table_bounds

pub packed_bounded : (l : Kept Pages) → Bounded (packed_model l)
packed_bounded = kept_bounded pages_held pages_bounds
