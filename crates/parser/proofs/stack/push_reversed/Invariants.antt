use Rattle.std.proofs.Common.{◌≡◌, ◌++◌, ◌-◌, drop, length}
use Rattle.std.specs.Prelude.{reverse}
use Rattle.parser.specs.Engine.{entries}
use Rattle.parser.proofs.stack.push_reversed.Given as goal

abbrev pub invariant-loop-i : goal.invariant-loop-i
invariant-loop-i l = l.list.items ≡ l.initial.list.items ++ reverse (entries l.room (drop (length l.symbols - l.i) l.symbols))
