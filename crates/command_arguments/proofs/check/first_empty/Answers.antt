use Rattle.std.proofs.Common.{List, ℕ, ◌<◌, sym, add-one, subst, take, length, arith}
use Rattle.std.proofs.lemmas.Bool.Decides.{nat_tests}
use Rattle.command_arguments.proofs.CheckForms.{AreNames, one_name_more}
use Rattle.command_arguments.proofs.check.first_empty.Goals as goal

pub loop-at-preserved : goal.loop-at-preserved
loop-at-preserved c =
    let some : 0 < length c.as_slice.result.now = grind (arith, nat_tests) in
    subst (λ n. AreNames (take n c.args.names.now)) (sym (add-one c.loop-at.at))
    (one_name_more c.args.names.now c.loop-at.at c.index-names-at.result c.loop-at-test.true c.loop-at.invariant c.index-names-at.is (subst (λ (x : List ℕ). 0 < length x) c.as_slice.ensures some))
