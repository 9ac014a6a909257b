-- From tokens to rules that a text breaks.
use Rattle.std.proofs.Common.{ℕ, suc, ◌<◌, ◌≡◌, ◌∙◌, List, [], ◌∷◌, length, None, Some, Ok, Err, refl, ap, subst}
use Rattle.std.specs.Prelude.{slice_get}
use Rattle.abl_base.specs.declared.place.Place.{Place}
use Rattle.abl_base.specs.declared.rule.Rule.{Rule}
use Rattle.parse_tree.specs.declared.token.Token.{Token}
use Rattle.abl_values.specs.Schema.{SchemaData}
use Rattle.parser.specs.Grammar.{kinds}
use Rattle.parser.specs.Violations.{IsFirst}
use Rattle.parser.proofs.Nesting.{broken_within}
use Rattle.syntax_tree.specs.Syntax.{Program as Syntax}
use Rattle.bind_names.specs.declared.violation.Violation.{Violation}
use Rattle.binder.specs.Sources.{bound}
use Rattle.bound_tree.specs.Tree.{Source as Tree}
use Rattle.buffer_scope.specs.Scoped.{first_broken as first_broken_scope, with_scopes}
use Rattle.txn_infer.specs.Flags.{with_flags}
use Rattle.block_rules.specs.Rules.{first_broken as first_broken_label}
use Rattle.source_reader.specs.Sources.{HasCleanTokens, HasSyntax, IsTreeOf, BreaksRule, of_grammar, of_types, of_scopes}

kinds_length : (tokens : List Token) → length (kinds tokens) ≡ length tokens
kinds_length [] = refl
kinds_length (t ∷ ts) = ap (λ n. suc n) (kinds_length ts)

-- a rule of the grammar is broken at a token
pub first_within : (tokens : List Token) (rule : Rule) (at : ℕ) → IsFirst (kinds tokens) rule at → at < length tokens
first_within tokens rule at f = subst (λ n. at < n) (kinds_length tokens) (broken_within (kinds tokens) at rule f.breaks)

pub broken_at : (schema : SchemaData) (text : List ℕ) (tokens : List Token) (rule other : Rule) (at : ℕ) (token : Token) (place : Place) → HasCleanTokens text tokens → IsFirst (kinds tokens) rule at → slice_get tokens at ≡ Some token → token.place ≡ place → rule ≡ other → BreaksRule schema text other place
broken_at schema text tokens rule other at token place h f s p e = subst (λ r. BreaksRule schema text r place) e (subst (λ x. BreaksRule schema text rule x) p (of_grammar tokens h f s))

pub types_at : (schema : SchemaData) (text : List ℕ) (syntax_of : Syntax) (v : Violation) (rule : Rule) (place : Place) → HasSyntax text syntax_of → bound schema syntax_of ≡ Err v → v.rule ≡ rule → v.place ≡ place → BreaksRule schema text rule place
types_at schema text syntax_of v rule place has broken e f = subst (λ r. BreaksRule schema text r place) e (subst (λ x. BreaksRule schema text v.rule x) f (of_types syntax_of has broken))

pub scopes_at : (schema : SchemaData) (text : List ℕ) (syntax_of : Syntax) (plain : Tree) (v : Violation) (rule : Rule) (place : Place) → HasSyntax text syntax_of → bound schema syntax_of ≡ Ok plain → first_broken_scope syntax_of plain ≡ Some v → v.rule ≡ rule → v.place ≡ place → BreaksRule schema text rule place
scopes_at schema text syntax_of plain v rule place has tree broken e f = subst (λ r. BreaksRule schema text r place) e (subst (λ x. BreaksRule schema text v.rule x) f (of_scopes syntax_of plain has tree broken))

-- what is bound, with its scopes and flags, is the tree of the source
pub tree_is : (schema : SchemaData) (text : List ℕ) (syntax_of : Syntax) (plain scoped tree : Tree) → HasSyntax text syntax_of → bound schema syntax_of ≡ Ok plain → first_broken_scope syntax_of plain ≡ None →
    scoped ≡ with_scopes syntax_of plain → first_broken_label syntax_of ≡ None → tree ≡ with_flags scoped → IsTreeOf schema text tree
tree_is schema text syntax_of plain scoped tree has is scopes scoping clean flags =
    record { syntax_of = syntax_of; has = has; plain = plain; is_bound = is; scopes = scopes; clean = clean; flags = flags ∙ ap with_flags scoping }
