use Rattle.std.proofs.Common.{◌≡◌, ◌≤◌, length, drop, List}
use Rattle.std.specs.Prelude.{reverse}
use Rattle.block_code.specs.declared.code.Instr.{Instr}
use Rattle.block_meaning.specs.State.{Copy}
use Rattle.client_machine.specs.Config.{stack_of}
use Rattle.client_machine.specs.Order.{InOrder, Nesting}
use Rattle.client_records.specs.Entries.{content_at, store_entries}
use Rattle.client_records.proofs.entries.push_stores.Given as goal

abbrev pub invariant-loop-left : goal.invariant-loop-left
invariant-loop-left l = record {
  within : l.left ≤ length l.buffers;
  pushed : (code : List Instr) (cs : List Copy) → stack_of code cs (reverse l.stack.items) ≡ store_entries (content_at l.memory) (drop l.left l.buffers) (stack_of code cs (reverse l.fn.stack.items));
  order : (n : Nesting) → InOrder n (reverse l.fn.stack.items) → InOrder n (reverse l.stack.items);
}

abbrev pub decreases-loop-left : goal.decreases-loop-left
decreases-loop-left l = l.left
