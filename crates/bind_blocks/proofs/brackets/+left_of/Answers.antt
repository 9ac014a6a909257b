use Rattle.std.proofs.Common.{◌≡◌, ◌<◌, length, arith}
use Rattle.std.proofs.lemmas.Bool.Decides.{nat_tests}
use Rattle.bind_blocks.specs.Views.{name_in}
use Rattle.bind_blocks.proofs.Anding.{left_alone, left_linked}
use Rattle.bind_blocks.proofs.brackets.+left_of.Goals as goal

pub returns-then-is_empty : goal.returns-then-is_empty
returns-then-is_empty t c =
    let none : length c.in-Chain.rest.items ≡ 0 = grind (arith, nat_tests, c.in-Chain.rest.ok.0) in
    left_alone c.args.e.now c.in-Chain.first c.in-Chain.rest c.deref.result.now (name_in c.left_of.result) c.in-Chain.is c.deref.ensures none c.left_of.ensures

pub returns-else-is_empty : goal.returns-else-is_empty
returns-else-is_empty t c =
    let some : 0 < length c.in-Chain.rest.items = grind (arith, nat_tests, c.in-Chain.rest.ok.0) in
    left_linked c.args.e.now c.in-Chain.first c.in-Chain.rest c.in-Chain.is some
