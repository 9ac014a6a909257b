use Rattle.std.proofs.Common.{◌≡◌, ◌-◌, ap, arith, length}
use Rattle.preprocessor.specs.declared.limits.TheConstants.{MAX_WORK_BYTES}
use Rattle.preprocessor.specs.Texts.{bytes_at}
use Rattle.preprocessor.proofs.Machines.{starts}
use Rattle.preprocessor.proofs.expansion.expansion.Goals as goal

pub loop-next-init : goal.loop-next-init
loop-next-init c =
    let there = ap length c.bytes_at-source.ensures in
    let budget : c.saturating_sub.result ≡ MAX_WORK_BYTES - length (bytes_at c.args.texts.now 0) = omega (arith, there) in
    starts c.args.texts.now c.new.result.items c.empty.result c.start-2.result c.plain.result c.empty-2.result c.empty-3.result c.empty-4.result c.empty-5.result c.saturating_sub.result c.bytes_at-source.result.now c.new.ensures.items c.empty.ensures c.start-2.ensures c.plain.ensures c.empty-2.ensures c.empty-3.ensures c.empty-4.ensures c.empty-5.ensures budget c.bytes_at-source.ensures
