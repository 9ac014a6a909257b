use Rattle.block_code.specs.Emitted.{EmittedProcedures}
use Rattle.block_code.proofs.compiler.emit_procedures.Given as goal

abbrev pub invariant-loop-procedure : goal.invariant-loop-procedure
invariant-loop-procedure l = EmittedProcedures l.fn.code.items l.code.items l.yielded l.all.items
