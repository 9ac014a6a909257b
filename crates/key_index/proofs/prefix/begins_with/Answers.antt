use Rattle.std.proofs.Common.{◌<◌, refl, arith}
use Rattle.key_index.proofs.Prefixes.{begins_from_reads}
use Rattle.key_index.proofs.prefix.begins_with.Goals as goal

pub returns : goal.returns
returns c =
    ((λ h. begins_from_reads c.args.key.now c.args.prefix.now c.if-key-prefix.false (λ k inside. let below : k < c.loop-i.i = omega arith in c.loop-i.invariant k below)), (λ h. refl))
