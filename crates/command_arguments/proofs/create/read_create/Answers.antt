-- SCHEMA is missing or empty, or an argument follows it.
use Rattle.std.proofs.Common.{◌∷◌, arith, subst, sym}
use Rattle.std.specs.Prelude.{codes}
use Rattle.std.proofs.lemmas.Bool.Decides.{nat_tests}
use Rattle.command_arguments.specs.CommandLine.{IsWrong}
use Rattle.command_arguments.proofs.CreateForms.{creation_alone, creation_of_none, creation_with_more}
use Rattle.command_arguments.proofs.create.read_create.Goals as goal

pub returns-in_default-clause-wrong : goal.returns-in_default-clause-wrong
returns-in_default-clause-wrong c = creation_alone c.args.arguments.now c.in_default.ensures.cases

pub returns-then-is_empty-clause-wrong : goal.returns-then-is_empty-clause-wrong
returns-then-is_empty-clause-wrong c = subst (λ ws. IsWrong (codes "create" ∷ ws) 1) (sym c.in-Some.ensures.cases.0) (creation_of_none _ _ (grind (arith, nat_tests)))

pub returns-then-not-is_empty-clause-wrong : goal.returns-then-not-is_empty-clause-wrong
returns-then-not-is_empty-clause-wrong c = subst (λ ws. IsWrong (codes "create" ∷ ws) 2) (sym c.in-Some.ensures.cases.0) (creation_with_more _ _ (grind (arith, nat_tests)) (grind (arith, nat_tests)))
