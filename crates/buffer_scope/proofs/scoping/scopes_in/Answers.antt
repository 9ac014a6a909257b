use Rattle.std.proofs.Common.{◌<◌, length, arith}
use Rattle.buffer_scope.specs.Views.{all_of}
use Rattle.buffer_scope.proofs.Buffers.{next_breaks, next_scopes}
use Rattle.buffer_scope.proofs.scoping.scopes_in.Goals as goal

pub loop-i-preserved : goal.loop-i-preserved
loop-i-preserved c =
    let l = c.loop-i in let q = c.args.procedure.now in let b = all_of c.args.blocks.now in let e = c.in_ok-scopes.ensures in
    let within : l.i < length q.buffers.items = omega (arith, c.loop-i-test.true, c.len-i-end.ensures) in
    record {
      scopes = next_scopes b q.references.items _ q.buffers.items l.i _ l.all.items _ c.in_ok-scopes.scopes within c.deref.ensures.value l.invariant.scopes e.scopes c.in_ok-push.ensures.items;
      so_far = next_breaks b q.references.items _ q.buffers.items l.i _ _ _ within c.deref.ensures.value l.invariant.so_far e.first;
    }
