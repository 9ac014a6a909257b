-- The tree of a source that breaks no rule is well-kinded, with the flags of its blocks and the scopes of its buffers.
use Rattle.std.proofs.Common.{◌≡◌, true, Ok, ◌∙◌}
use Rattle.abl_values.specs.Schema.{SchemaData}
use Rattle.syntax_tree.specs.Syntax.{Program}
use Rattle.bound_tree.specs.Tree.{Source}
use Rattle.binder.specs.Sources.{bound}
use Rattle.buffer_scope.specs.Blocks.{blocks_of}
use Rattle.buffer_scope.specs.Scoped.{scoped_by, scoped_to, with_scopes}
use Rattle.txn_infer.specs.Flags.{flagged_procedure, with_flags}
use Rattle.kind_laws.specs.bound_kinds.Kinds.{kinds_of_source}
use Rattle.kind_laws.specs.bound_kinds.WellKinded.{is_masked, is_well_kinded}
use Rattle.kind_laws.proofs.BoundKindsLemmas.Whole.{well_kinded}
use Rattle.kind_laws.proofs.Inferred.{flags_keep, scopes_keep, source_keeps}

pub tree_kinded : (schema : SchemaData) (program : Program) (plain : Source) → is_masked schema ≡ true → bound schema program ≡ Ok plain → is_well_kinded schema (kinds_of_source program) (with_flags (with_scopes program plain)) ≡ true
tree_kinded schema program plain masked e =
    source_keeps flagged_procedure flags_keep schema (kinds_of_source program) (with_scopes program plain)
    ∙ (source_keeps (λ q. scoped_by (scoped_to (blocks_of program) q) q) (scopes_keep (scoped_to (blocks_of program))) schema (kinds_of_source program) plain ∙ well_kinded schema program plain masked e)
