-- SCHEMA is missing or empty.
use Rattle.std.proofs.Common.{◌∷◌, arith, subst, sym}
use Rattle.std.specs.Prelude.{codes}
use Rattle.std.proofs.lemmas.Bool.Decides.{nat_tests}
use Rattle.command_arguments.specs.CommandLine.{IsWrong}
use Rattle.command_arguments.proofs.CheckForms.{wrong_schema, wrong_when_alone}
use Rattle.command_arguments.proofs.check.read_check.Goals as goal

pub returns-in_default-clause-wrong : goal.returns-in_default-clause-wrong
returns-in_default-clause-wrong c = wrong_when_alone c.args.arguments.now c.in_default.ensures.cases

pub returns-then-is_empty-clause-wrong : goal.returns-then-is_empty-clause-wrong
returns-then-is_empty-clause-wrong c = subst (λ ws. IsWrong (codes "check" ∷ ws) 1) (sym c.in-Some.ensures.cases.0) (wrong_schema _ _ (grind (arith, nat_tests)))
