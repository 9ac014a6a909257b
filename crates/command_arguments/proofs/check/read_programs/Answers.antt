-- The first empty name is the wrong argument, or the 17th name.
use Rattle.std.proofs.Common.{◌≤◌, ◌<◌, arith, length, subst, take_all, refl}
use Rattle.std.proofs.lemmas.Bool.Decides.{nat_tests}
use Rattle.command_arguments.proofs.CheckForms.{AreNames, wrong_many, wrong_program, wrong_none, is_check}
use Rattle.command_arguments.proofs.check.read_programs.Goals as goal
use Rattle.command_arguments.proofs.check.read_programs.Goals.{else-empty-ge16-via-then-empty-ge16+else-programs-gt16, else-empty-ge16-via-else-empty-ge16}

pub returns-then-programs-gt16-clause-wrong : goal.returns-then-programs-gt16-clause-wrong
returns-then-programs-gt16-clause-wrong c =
    wrong_many c.args.schema.now c.requires c.args.programs.now c.first_empty-empty.result c.if-programs-gt16.true c.if-empty-ge16.true c.first_empty-empty.ensures.some

pub returns-then-empty-programs-clause-wrong : goal.returns-then-empty-programs-clause-wrong
returns-then-empty-programs-clause-wrong c =
    wrong_program c.args.schema.now c.requires c.args.programs.now c.first_empty-empty.result c.if-empty-programs.true few c.first_empty-empty.ensures.some (c.first_empty-empty.ensures.empty c.if-empty-programs.true)
  where
    few : c.first_empty-empty.result < 16
    few = elim c.else-empty-ge16.branch [
      | else-empty-ge16-via-then-empty-ge16+else-programs-gt16 w ↦ omega (arith, c.if-empty-programs.true, w.if-programs-gt16.false)
      | else-empty-ge16-via-else-empty-ge16 w ↦ omega (arith, w.if-empty-ge16.false)
    ]

pub returns-then-is_empty-clause-wrong : goal.returns-then-is_empty-clause-wrong
returns-then-is_empty-clause-wrong c = wrong_none c.args.schema.now c.requires c.args.programs.now (grind (arith, nat_tests))

pub returns-clause-form : goal.returns-clause-form
returns-clause-form c = record {
  is_check = is_check c.args.schema.now c.requires c.args.programs.now (grind (arith, nat_tests)) few (subst AreNames (take_all c.first_empty-empty.result c.args.programs.now c.if-empty-programs.false) c.first_empty-empty.ensures.some);
  arguments_are = refl;
}
  where
    few : length c.args.programs.now ≤ 16
    few = elim c.else-empty-ge16.branch [
      | else-empty-ge16-via-then-empty-ge16+else-programs-gt16 w ↦ w.if-programs-gt16.false
      | else-empty-ge16-via-else-empty-ge16 w ↦ omega (arith, c.if-empty-programs.false, w.if-empty-ge16.false)
    ]
