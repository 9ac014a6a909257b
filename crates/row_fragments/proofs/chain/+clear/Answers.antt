use Rattle.std.proofs.Common.{◌≡◌, ◌+◌, length, arith}
use Rattle.row_fragments.proofs.Chained.{rest_can, first_can, both_wrote, both_zeros}
use Rattle.row_fragments.proofs.chain.+clear.Goals as goal

pub clear-requires : goal.clear-requires
clear-requires g t c = λ κs below. (
  let long : length c.in-Some.rest.now + 1 ≡ length c.args.freed.now = c.in-Some.ensures.cases.1 in let d = c.decreases in omega arith,
  (
    below,
    (
      c.requires.client,
      rest_can c.args.client c.in-Some.at.now c.in-Some.rest.now c.args.freed.now c.in-Some.ensures.cases.0 (g.S.Slots.state c.args.slots.now) c.requires.ready,
    ),
  ),
)

pub write_one-requires-clause-ready : goal.write_one-requires-clause-ready
write_one-requires-clause-ready g t c =
    first_can c.args.client c.in-Some.at.now c.in-Some.rest.now c.args.freed.now c.in-Some.ensures.cases.0 (g.S.Slots.state c.args.slots.now) c.requires.ready (g.S.Slots.state c.clear.new.slots)
    c.in_ok-clear-in-Some.ensures.wrote c.in_ok-clear-in-Some.ensures.room c.clear.ensures.touched.others c.clear.ensures.touched.begun

pub returns-in_ok-write_one-in-Some-clause-wrote : goal.returns-in_ok-write_one-in-Some-clause-wrote
returns-in_ok-write_one-in-Some-clause-wrote g t c =
    both_wrote c.args.client c.in-Some.at.now c.in-Some.rest.now c.args.freed.now c.in-Some.ensures.cases.0 (g.S.Slots.state c.args.slots.now) c.requires.ready (g.S.Slots.state c.clear.new.slots) (g.S.Slots.state c.write_one.new.slots)
    c.clear.ensures.touched.keeps.observable c.in_ok-clear-in-Some.ensures.wrote c.in_ok-write_one-in-Some.ensures.wrote

pub returns-in_ok-write_one-in-Some-clause-zeros : goal.returns-in_ok-write_one-in-Some-clause-zeros
returns-in_ok-write_one-in-Some-clause-zeros g t c = λ readable.
    both_zeros c.args.client c.in-Some.at.now c.in-Some.rest.now c.args.freed.now c.in-Some.ensures.cases.0 (g.S.Slots.state c.args.slots.now) c.requires.ready (g.S.Slots.state c.clear.new.slots) (g.S.Slots.state c.write_one.new.slots)
    c.clear.ensures.touched.keeps.observable c.in_ok-clear-in-Some.ensures.wrote c.in_ok-write_one-in-Some.ensures.wrote readable c.in_ok-clear-in-Some.ensures.zeros c.in_ok-write_one-in-Some.ensures.bytes
