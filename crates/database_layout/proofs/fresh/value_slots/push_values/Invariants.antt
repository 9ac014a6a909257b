use Rattle.std.proofs.Common.{◌≡◌, ◌-◌, ◌<◌, ◌≤◌, ℕ, List}
use Rattle.database_layout.specs.fresh.Laying.{LayText, Lay}
use Rattle.database_layout.proofs.fresh.value_slots.push_values.Given as goal

abbrev pub invariant-values : goal.invariant-values
invariant-values l = record {
  within : l.i ≤ 9;
  same_values : l.values ≡ l.fn.values;
  laid : (text : List ℕ) (count : ℕ) → count < 5000 → LayText text count count l.fn.slots.items → Lay text count l.values l.i l.slots.items;
}

abbrev pub decreases-values : goal.decreases-values
decreases-values l = 9 - l.i
