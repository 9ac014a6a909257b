use Rattle.std.proofs.Common.{arith}
use Rattle.abl_base.specs.declared.limits.TheConstants.{MAX_ROW_BYTES}
use Rattle.record_rules.proofs.RowLengths.{length_from, short_row, too_long_at}
use Rattle.record_rules.proofs.stored.is_too_long.Goals as goal

pub returns-then-bytes-limit : goal.returns-then-bytes-limit
returns-then-bytes-limit c =
    too_long_at c.args.values.now c.loop-value.value-index c.value-item.result c.loop-value.bytes MAX_ROW_BYTES c.loop-value-test.true c.value-item.is c.loop-value.invariant.1
    (omega (arith, c.field_length-bytes.ensures.bytes))

pub loop-value-preserved : goal.loop-value-preserved
loop-value-preserved c =
    let step = length_from c.args.values.now c.loop-value.value-index c.value-item.result c.loop-value-test.true c.value-item.is in
    (omega arith, omega (arith, step, c.field_length-bytes.ensures.bytes))

pub returns : goal.returns
returns c = short_row c.args.values.now c.loop-value.value-index c.loop-value.bytes MAX_ROW_BYTES c.loop-value-test.false c.loop-value.invariant.0 c.loop-value.invariant.1
