-- What a text is that breaks none of the rules of some passes.
use Rattle.std.specs.Prelude.{◌≡◌, ℕ, List, None, Ok}
use Rattle.abl_values.specs.Schema.{SchemaData}
use Rattle.syntax_tree.specs.Syntax.{Program as Syntax}
use Rattle.binder.specs.Sources.{bound}
use Rattle.bound_tree.specs.Tree.{Source}
use Rattle.buffer_scope.specs.Scoped.{with_scopes, first_broken as first_broken_scope}
use Rattle.txn_infer.specs.Flags.{with_flags}
use Rattle.source_reader.specs.Sources.{HasSyntax}

-- the text breaks no rule L, G and Y over the schema: names and types make a tree of its syntax
pub record HasNames (schema : SchemaData) (text : List ℕ) : Type 0 where
  pub syntax_of : Syntax
  pub has : HasSyntax text syntax_of
  pub plain : Source
  pub is_bound : bound schema syntax_of ≡ Ok plain

-- the text breaks no rule L, G, Y and S over the schema, and this is its tree with the buffers scoped to each block and the flags of its
-- blocks
pub record IsScopedTree (schema : SchemaData) (text : List ℕ) (tree : Source) : Type 0 where
  pub syntax_of : Syntax
  pub has : HasSyntax text syntax_of
  pub plain : Source
  pub is_bound : bound schema syntax_of ≡ Ok plain
  pub scopes : first_broken_scope syntax_of plain ≡ None
  pub flags : tree ≡ with_flags (with_scopes syntax_of plain)
