use Rattle.std.proofs.Common.{arith}
use Rattle.lexer.proofs.Values.{number_bound, number_next, number_room, number_start, number_value}
use Rattle.lexer.proofs.number.number.Goals as goal

pub overflow_mul-n : goal.overflow_mul-n
overflow_mul-n c = let h = number_room c.args.digits.now c.loop-b.b-index c.loop-b.n c.loop-b.invariant c.loop-b-test.true c.requires.few in omega arith

pub overflow_add-n : goal.overflow_add-n
overflow_add-n c =
    let h = number_room c.args.digits.now c.loop-b.b-index c.loop-b.n c.loop-b.invariant c.loop-b-test.true c.requires.few in
    let t = c.type_inv.digits c.loop-b.b-index in
    omega arith

pub loop-b-preserved : goal.loop-b-preserved
loop-b-preserved c = number_next c.args.digits.now c.loop-b.b-index c.loop-b.n c.loop-b.invariant c.loop-b-test.true c.requires.digits

pub loop-b-init : goal.loop-b-init
loop-b-init c = number_start _

pub returns-clause-value : goal.returns-clause-value
returns-clause-value c = number_value c.args.digits.now c.loop-b.b-index c.loop-b.n c.loop-b.invariant c.loop-b-test.false

pub returns-clause-below : goal.returns-clause-below
returns-clause-below c = number_bound c.args.digits.now c.loop-b.b-index c.loop-b.n c.loop-b.invariant c.loop-b.auto.b-index-end
