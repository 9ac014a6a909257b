use Rattle.std.proofs.Common.{◌≡◌, drop}
use Rattle.bind_names.specs.Judged.{first_of}
use Rattle.syntax_tree.specs.Typed.{statements_of}
use Rattle.block_rules.specs.Around.{heads_of}
use Rattle.block_rules.specs.Rules.{statements_break}
use Rattle.block_rules.proofs.rules.+rules.Given as goal

abbrev pub invariant-statements_break-loop-statement : goal.invariant-statements_break-loop-statement
invariant-statements_break-loop-statement l =
    first_of l.initial.first (statements_break (heads_of l.around) (statements_of l.body)) ≡ first_of l.first (statements_break (heads_of l.around) (statements_of (drop l.statement-index l.body)))
