use Rattle.std.proofs.Common.{reverse}
use Rattle.block_code.specs.Emitted.{EmittedBody}
use Rattle.block_code.proofs.compiler.+emit.Given as goal

abbrev pub invariant-emit_body-loop-stmt : goal.invariant-emit_body-loop-stmt
invariant-emit_body-loop-stmt l = EmittedBody l.fn.code.items l.code.items (reverse l.yielded) l.fn.next l.place
