use Rattle.std.proofs.Common.{◌≡◌, ◌++◌, drop}
use Rattle.syntax_tree.specs.Typed.{statements_of}
use Rattle.binder.specs.Sources.{formals_in}
use Rattle.binder.proofs.signatures.+formals.Given as goal

abbrev pub invariant-formals_in-loop-statement : goal.invariant-formals_in-loop-statement
invariant-formals_in-loop-statement l = l.found ++ formals_in (statements_of (drop l.statement-index l.body)) ≡ l.fn.found ++ formals_in (statements_of l.body)
