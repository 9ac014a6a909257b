-- Which tree a text denotes over a schema, and which rule another text breaks first: L of its tokens, then G of the grammar, then Y of
-- names and types, then S of the scopes of buffers, then U of labels and the blocks that they name.
use Rattle.std.specs.Prelude.{ℕ, ◌≡◌, List, Some, None, Ok, Err, slice_get}
use Rattle.abl_base.specs.declared.place.Place.{Place}
use Rattle.abl_base.specs.declared.rule.Rule.{Rule}
use Rattle.parse_tree.specs.declared.token.Token.{Token}
use Rattle.parse_tree.specs.declared.tree.Node.{Node}
use Rattle.abl_values.specs.Schema.{SchemaData}
use Rattle.lexer.specs.Texts.{Breaks, HasTokens, IsRefused}
use Rattle.parser.specs.Grammar.{Spells, kinds}
use Rattle.parser.specs.Violations.{Breaks as BreaksGrammar, IsFirst}
use Rattle.syntax_tree.specs.Syntax.{Program as Syntax}
use Rattle.syntax_reader.specs.Statements.{IsProgram as Denotes}
use Rattle.binder.specs.Sources.{bound}
use Rattle.bound_tree.specs.Tree.{Source}
use Rattle.buffer_scope.specs.Scoped.{with_scopes, first_broken as first_broken_scope}
use Rattle.block_rules.specs.Rules.{first_broken as first_broken_label}
use Rattle.txn_infer.specs.Flags.{with_flags}

-- these are the tokens of the text, which breaks no rule L
pub record HasCleanTokens (text : List ℕ) (tokens : List Token) : Type 0 where
  pub has : HasTokens text tokens
  pub clean : (rule : Rule) (spot : ℕ) → ¬ Breaks text rule spot

-- these are the tokens of the text and the nodes of its tree, and it is a program by the grammar, which breaks no rule L and no rule G
pub record IsSyntaxTree (text : List ℕ) (tokens : List Token) (tree : List Node) : Type 0 where
  pub tokens_of : HasCleanTokens text tokens
  pub spelled : Spells tree (kinds tokens)
  pub clean : (rule : Rule) (place : ℕ) → ¬ BreaksGrammar (kinds tokens) rule place

-- the text is a program by the grammar, and its tree denotes this syntax
pub record HasSyntax (text : List ℕ) (syntax_of : Syntax) : Type 0 where
  pub tokens : List Token
  pub nodes : List Node
  pub has_tree : IsSyntaxTree text tokens nodes
  pub denotes : Denotes (record { tokens = tokens; nodes = nodes }) syntax_of

-- the text breaks no rule L, G, Y, S and U over the schema, and denotes this tree: what names and types make of its syntax, with the
-- buffers scoped to each block and the flags of its blocks
pub record IsTreeOf (schema : SchemaData) (text : List ℕ) (tree : Source) : Type 0 where
  pub syntax_of : Syntax
  pub has : HasSyntax text syntax_of
  pub plain : Source
  pub is_bound : bound schema syntax_of ≡ Ok plain
  pub scopes : first_broken_scope syntax_of plain ≡ None
  pub clean : first_broken_label syntax_of ≡ None
  pub flags : tree ≡ with_flags (with_scopes syntax_of plain)

-- the first rule L, G, Y, S or U that a text breaks over the schema, and its place
pub data BreaksRule (schema : SchemaData) (text : List ℕ) : Rule → Place → Type 0 where
  -- L1 to L5
  of_tokens : {rule : Rule} {place : Place} → IsRefused text rule place → BreaksRule schema text rule place
  -- G1 and G2, at a token
  of_grammar : {rule : Rule} {at : ℕ} {token : Token} (tokens : List Token) → HasCleanTokens text tokens → IsFirst (kinds tokens) rule at → slice_get tokens at ≡ Some token → BreaksRule schema text rule token.place
  -- Y1 to Y14
  of_types : {rule : Rule} {place : Place} (syntax_of : Syntax) → HasSyntax text syntax_of → bound schema syntax_of ≡ Err (record { rule = rule; place = place }) → BreaksRule schema text rule place
  -- S1 to S4
  of_scopes : {rule : Rule} {place : Place} (syntax_of : Syntax) (plain : Source) → HasSyntax text syntax_of → bound schema syntax_of ≡ Ok plain → first_broken_scope syntax_of plain ≡ Some (record { rule = rule; place = place }) →
      BreaksRule schema text rule place
  -- U1 to U7
  of_blocks : {rule : Rule} {place : Place} (syntax_of : Syntax) (plain : Source) → HasSyntax text syntax_of → bound schema syntax_of ≡ Ok plain → first_broken_scope syntax_of plain ≡ None →
      first_broken_label syntax_of ≡ Some (record { rule = rule; place = place }) → BreaksRule schema text rule place
