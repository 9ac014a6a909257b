use Rattle.std.proofs.Common.{◌≡◌, ◌++◌, drop, map}
use Rattle.buffer_scope.specs.First.{first_of}
use Rattle.buffer_scope.specs.Rules.{buffers_break}
use Rattle.buffer_scope.specs.Scoped.{all_scopes}
use Rattle.buffer_scope.specs.Views.{all_of, found_of}
use Rattle.buffer_scope.proofs.scoping.scopes_in.Given as goal

abbrev pub invariant-loop-i : goal.invariant-loop-i
invariant-loop-i l = record {
  scopes : all_scopes (all_of l.blocks) l.procedure.references.items 0 l.procedure.buffers.items
      ≡ map found_of l.all.items ++ all_scopes (all_of l.blocks) l.procedure.references.items l.i (drop l.i l.procedure.buffers.items);
  so_far : first_of l.initial.first (buffers_break (all_of l.blocks) l.procedure.references.items 0 l.procedure.buffers.items)
      ≡ first_of l.first (buffers_break (all_of l.blocks) l.procedure.references.items l.i (drop l.i l.procedure.buffers.items));
}
