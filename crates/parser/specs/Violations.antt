-- Where a list of tokens breaks the rules of the grammar.
use Rattle.std.specs.Prelude.{ℕ, ◌<◌, ◌≡◌, ◌+◌, List, [], ◌++◌, length, take}
use Rattle.abl_base.specs.declared.rule.Rule.{Rule}
use Rattle.abl_base.specs.declared.rule.Rule.TheVariants.{G1, G2}
use Rattle.parse_tree.specs.declared.token.TokenKind.{TokenKind}
use Rattle.parser.specs.Grammar.{Forest, spelt, Derives, whole, Viable, openings, full, DeepAt}

-- G1: the first p tokens begin a source that a tree spells, and the first p + 1 do not.
pub record Stops (tokens : List TokenKind) (p : ℕ) : Type 0 where
  pub within : p < length tokens
  pub so_far : Viable (take p tokens)
  pub no_further : Viable (take (p + 1) tokens) → ⊥

-- G2: the first p + 1 tokens begin a source that a tree spells, and in each such source the token p opens a 65th statement, or a 65th of expressions, NOTs and signs.
pub record Overflows (tokens : List TokenKind) (p : ℕ) : Type 0 where
  pub within : p < length tokens
  pub so_far : Viable (take (p + 1) tokens)
  pub opens : (forest : Forest) (more : List TokenKind) → Derives forest whole [] → spelt forest ≡ take (p + 1) tokens ++ more → DeepAt p (openings 0 full forest)

-- the tokens break the rule at this place
abbrev pub Breaks : List TokenKind → Rule → ℕ → Type 0
Breaks tokens G1 p = Stops tokens p
Breaks tokens G2 p = Overflows tokens p
Breaks tokens _ p = ⊥

-- the rule is broken at this place, and no rule before it
pub record IsFirst (tokens : List TokenKind) (broken : Rule) (place : ℕ) : Type 0 where
  pub breaks : Breaks tokens broken place
  pub none_before : (other : Rule) (p : ℕ) → p < place → Breaks tokens other p → ⊥
