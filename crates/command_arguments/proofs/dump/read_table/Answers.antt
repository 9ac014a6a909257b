-- TABLE is missing or empty, or an argument follows it.
use Rattle.std.proofs.Common.{◌∷◌, arith, subst, sym}
use Rattle.std.specs.Prelude.{codes}
use Rattle.std.proofs.lemmas.Bool.Decides.{nat_tests}
use Rattle.command_arguments.specs.CommandLine.{IsWrong}
use Rattle.command_arguments.proofs.CreateForms.{dump_without_table, dump_of_no_table, dump_with_more}
use Rattle.command_arguments.proofs.dump.read_table.Goals as goal

pub returns-in_default-clause-wrong : goal.returns-in_default-clause-wrong
returns-in_default-clause-wrong c = dump_without_table c.args.schema.now c.args.arguments.now c.requires c.in_default.ensures.cases

pub returns-then-is_empty-clause-wrong : goal.returns-then-is_empty-clause-wrong
returns-then-is_empty-clause-wrong c = subst (λ ws. IsWrong (codes "dump" ∷ c.args.schema.now ∷ ws) 2) (sym c.in-Some.ensures.cases.0) (dump_of_no_table c.args.schema.now _ _ c.requires (grind (arith, nat_tests)))

pub returns-then-not-is_empty-clause-wrong : goal.returns-then-not-is_empty-clause-wrong
returns-then-not-is_empty-clause-wrong c = subst (λ ws. IsWrong (codes "dump" ∷ c.args.schema.now ∷ ws) 3) (sym c.in-Some.ensures.cases.0) (dump_with_more c.args.schema.now _ _ c.requires (grind (arith, nat_tests)) (grind (arith, nat_tests)))
