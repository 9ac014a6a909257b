use Rattle.std.proofs.Common.{◌≡◌, ◌-◌, ◌≤◌, length}
use Rattle.abl_values.specs.Rows.{fragments_of}
use Rattle.database_layout.specs.fresh.Laying.{LayText}
use Rattle.database_layout.proofs.fresh.text_slots.push_text.Given as goal

abbrev pub invariant-parts : goal.invariant-parts
invariant-parts l = record {
  within : l.i ≤ l.count;
  count : l.count ≡ fragments_of (length l.text);
  same_text : l.text ≡ l.fn.text;
  laid : LayText l.text l.count l.i l.slots.items;
}

abbrev pub decreases-parts : goal.decreases-parts
decreases-parts l = l.count - l.i
