use Rattle.std.proofs.Common.{arith}
use Rattle.value_masks.proofs.Counts.{digit_count_most, digit_count_step}
use Rattle.value_masks.proofs.number.small_digit_count.Goals as goal

pub overflow_add-count : goal.overflow_add-count
overflow_add-count c =
    let most = digit_count_most c.args.n (omega arith) in
    let start = c.loop-rest.invariant.counted in
    omega arith

pub loop-rest-preserved : goal.loop-rest-preserved
loop-rest-preserved c =
    let step = digit_count_step c.loop-rest.rest (omega arith) (omega arith) in
    let start = c.loop-rest.invariant.counted in
    record { counted = omega arith; within = omega arith }
