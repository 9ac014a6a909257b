-- SCHEMA is missing or empty.
use Rattle.std.proofs.Common.{◌∷◌, arith, subst, sym}
use Rattle.std.specs.Prelude.{codes}
use Rattle.std.proofs.lemmas.Bool.Decides.{nat_tests}
use Rattle.command_arguments.specs.CommandLine.{IsWrong}
use Rattle.command_arguments.proofs.CreateForms.{dump_alone, dump_of_none}
use Rattle.command_arguments.proofs.dump.read_dump.Goals as goal

pub returns-in_default-clause-wrong : goal.returns-in_default-clause-wrong
returns-in_default-clause-wrong c = dump_alone c.args.arguments.now c.in_default.ensures.cases

pub returns-then-is_empty-clause-wrong : goal.returns-then-is_empty-clause-wrong
returns-then-is_empty-clause-wrong c = subst (λ ws. IsWrong (codes "dump" ∷ ws) 1) (sym c.in-Some.ensures.cases.0) (dump_of_none _ _ (grind (arith, nat_tests)))
