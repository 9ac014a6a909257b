use Rattle.bind_statements.proofs.Lists.{OptionsContinue}
use Rattle.bind_statements.proofs.definitions.all_options.Given as goal

abbrev pub invariant-loop-one : goal.invariant-loop-one
invariant-loop-one l = OptionsContinue l.kind l.given l.one-index l.so_far l.notes l.fn.notes
