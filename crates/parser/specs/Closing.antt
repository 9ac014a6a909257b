-- How the nodes of a tree are laid out from its openings, from the last to the first.
use Rattle.std.specs.Prelude.{ℕ, zero, suc, ◌+◌, Bool, true, false, List, [], ◌∷◌, drop, slice_index}
use Rattle.parse_tree.specs.declared.tree.Node.{Node}
use Rattle.parser.specs.declared.symbol.Symbol.{Symbol}
use Rattle.parser.specs.declared.symbol.Symbol.TheVariants.{Take, Open}
use Rattle.parser.specs.declared.symbol.Opening.{Opening}
use Rattle.parser.specs.Grammar.{rule}

abbrev pub is_nonterminal : Symbol → Bool
is_nonterminal (Take k) = false
is_nonterminal (Open a) = true

-- how many nonterminals are among these symbols
abbrev pub opens_in : List Symbol → ℕ
opens_in [] = 0
opens_in (Take k ∷ symbols) = opens_in symbols
opens_in (Open a ∷ symbols) = suc (opens_in symbols)

-- the number of children of a node of this production
abbrev pub children_of : ℕ → ℕ
children_of r = opens_in (rule r).symbols

-- the end of a node with this number and this many inside it, where these are the ends of the nodes after it
abbrev pub end_after : ℕ → ℕ → List ℕ → ℕ
end_after number zero ends = number + 1
end_after number (suc nonterminals) ends = slice_index ends nonterminals

-- the nodes that begin after a place, and the ends of the outermost of them
pub record Closed : Type 0 where
  pub laid_out : List Node
  pub ends : List ℕ

abbrev pub closed : ℕ → Opening → Closed → Closed
closed number o beyond = record {
  laid_out = record { production = o.production; first = o.first; end = end_after number (children_of o.production) beyond.ends } ∷ beyond.laid_out;
  ends = end_after number (children_of o.production) beyond.ends ∷ drop (children_of o.production) beyond.ends;
}

abbrev pub closing : ℕ → List Opening → Closed
closing number [] = record { laid_out = []; ends = [] }
closing number (o ∷ os) = closed number o (closing (number + 1) os)

-- the nodes with these openings
abbrev pub laid : List Opening → List Node
laid os = (closing 0 os).laid_out
