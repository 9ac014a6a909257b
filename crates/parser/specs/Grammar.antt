-- The grammar: its productions, what a derivation is, and which tokens it spells.
use Rattle.std.specs.Prelude.{ℕ, ◌<◌, ◌≡◌, List, [], ◌∷◌, ◌++◌, length, slice_index, slice_range, slice_index_or, zero, suc, ◌+◌, ◌-◌, ◌==◌, Bool, true, false, ◌&&◌, ◌||◌, cond, ◌⊎◌}
use Rattle.parse_tree.specs.declared.token.TokenKind.{TokenKind}
use Rattle.parse_tree.specs.declared.token.TokenKind.TheVariants.{EndOfSource}
use Rattle.parse_tree.specs.declared.token.Token.{Token}
use Rattle.parse_tree.specs.declared.tree.Node.{Node}
use Rattle.parse_tree.specs.declared.production.TheConstants.{NEGATION_NOT, SIGNED_PLUS_OR_MINUS}
use Rattle.parser.specs.declared.nonterminal.Nonterminal.{Nonterminal}
use Rattle.parser.specs.declared.nonterminal.Nonterminal.TheVariants.{Program, Statement, Expression}
use Rattle.parser.specs.declared.symbol.Symbol.{Symbol}
use Rattle.parser.specs.declared.symbol.Symbol.TheVariants.{Take, Open}
use Rattle.parser.specs.declared.symbol.Room.{Room}
use Rattle.parser.specs.declared.symbol.Opening.{Opening}
use Rattle.parser.specs.declared.rows.TheConstants.{NONTERMINALS, EMPTY, SYMBOLS_FROM, STARTS_FROM}
use Rattle.parser.specs.declared.symbols.TheConstants.{SYMBOLS}
use Rattle.parser.specs.declared.starts.TheConstants.{STARTS}
use Rattle.parser.specs.Same.{same_nonterminal}

-- a production: its nonterminal and its symbols, and what the table says beside them
pub record Production : Type 0 where
  pub nonterminal : Nonterminal
  pub symbols : List Symbol
  pub starts : List TokenKind
  pub empty : Bool

unfoldable pub nonterminals : List Nonterminal
nonterminals = NONTERMINALS

unfoldable pub symbols : List Symbol
symbols = SYMBOLS

unfoldable pub symbols_from : List ℕ
symbols_from = SYMBOLS_FROM

unfoldable pub starts : List TokenKind
starts = STARTS

unfoldable pub starts_from : List ℕ
starts_from = STARTS_FROM

unfoldable pub empty : List Bool
empty = EMPTY

-- a production that the table does not have
abbrev pub blank : Production
blank = record { nonterminal = Program; symbols = []; starts = []; empty = false }

-- the row of the table with this number
unfoldable pub row : ℕ → Production
row r = record {
  nonterminal = slice_index_or nonterminals r Program;
  symbols = slice_range symbols (slice_index symbols_from r) (slice_index symbols_from (r + 1));
  starts = slice_range starts (slice_index starts_from r) (slice_index starts_from (r + 1));
  empty = slice_index_or empty r false;
}

abbrev pub rows_after : ℕ → ℕ → List Production
rows_after zero r = []
rows_after (suc n) r = row r ∷ rows_after n (r + 1)

-- the productions
unfoldable pub rules : List Production
rules = rows_after (length nonterminals) 0

abbrev pub rule_count : ℕ
rule_count = length rules

-- the production with this number
unfoldable pub rule : ℕ → Production
rule r = slice_index_or rules r blank

-- a derivation of a run of symbols: tokens, and nodes that each use a production, in order
pub data Forest : Type 0 where
  none : Forest
  leaf : TokenKind → Forest → Forest
  node : ℕ → Forest → Forest → Forest

-- the tokens of a forest, from left to right
abbrev pub spelt : Forest → List TokenKind
spelt none = []
spelt (leaf k f) = k ∷ spelt f
spelt (node r f g) = spelt f ++ spelt g

-- these symbols can be empty
pub data Vanishes : List Symbol → Type 0 where
  nothing : Vanishes []
  both : {symbols : List Symbol} (r : ℕ) → r < rule_count → Vanishes (rule r).symbols → Vanishes symbols → {a : Nonterminal} → (rule r).nonterminal ≡ a → Vanishes (Open a ∷ symbols)

-- a derivation of these symbols can begin with this token
pub data Begins : List Symbol → TokenKind → Type 0 where
  here : {symbols : List Symbol} {k : TokenKind} → Begins (Take k ∷ symbols) k
  inside_nonterminal : {symbols : List Symbol} {k : TokenKind} {a : Nonterminal} (r : ℕ) → r < rule_count → (rule r).nonterminal ≡ a → Begins (rule r).symbols k → Begins (Open a ∷ symbols) k
  past : {symbols : List Symbol} {k : TokenKind} {a : Nonterminal} → Vanishes (Open a ∷ []) → Begins symbols k → Begins (Open a ∷ symbols) k

-- The greedy rule: an empty production is used only where the next token can begin no other production of its nonterminal.
abbrev pub Greedy : ℕ → List TokenKind → Type 0
Greedy r tokens =
    (rule r).symbols ≡ [] →
    (q : ℕ) (k : TokenKind) (rest : List TokenKind) → q < rule_count → (rule q).nonterminal ≡ (rule r).nonterminal → tokens ≡ k ∷ rest → Begins (rule q).symbols k → ⊥

-- The forest is a derivation of the symbols by the productions under the greedy rule, before these tokens.
abbrev pub Derives : Forest → List Symbol → List TokenKind → Type 0
Derives none [] after = Unit {0}
Derives (leaf k f) (Take sought ∷ ss) after = (k ≡ sought) × Derives f ss after
Derives (node r f g) (Open nonterminal ∷ ss) after =
    (r < rule_count) × ((rule r).nonterminal ≡ nonterminal) × Greedy r (spelt f ++ (spelt g ++ after)) × Derives f (rule r).symbols (spelt g ++ after) × Derives g ss after
Derives none (s ∷ ss) after = ⊥
Derives (leaf k f) [] after = ⊥
Derives (leaf k f) (Open nonterminal ∷ ss) after = ⊥
Derives (node r f g) [] after = ⊥
Derives (node r f g) (Take sought ∷ ss) after = ⊥

-- a whole source: a program, and the end token
abbrev pub whole : List Symbol
whole = Open Program ∷ Take EndOfSource ∷ []

-- how many nodes a forest has
abbrev pub node_count : Forest → ℕ
node_count none = 0
node_count (leaf k f) = node_count f
node_count (node r f g) = 1 + node_count f + node_count g

-- the nodes of a forest, each before those inside it, where the first has this number and the first token that one
abbrev pub nodes : ℕ → ℕ → Forest → List Node
nodes n at none = []
nodes n at (leaf k f) = nodes n (at + 1) f
nodes n at (node r f g) =
    record { production = r; first = at; end = n + 1 + node_count f } ∷ (nodes (n + 1) at f ++ nodes (n + 1 + node_count f) (at + length (spelt f)) g)

-- the forest is a derivation of these tokens, and these are its nodes
pub record IsTree (forest : Forest) (tree : List Node) (tokens : List TokenKind) : Type 0 where
  pub derives : Derives forest whole []
  pub spells : spelt forest ≡ tokens
  pub laid : nodes 0 0 forest ≡ tree

-- THE TREE SPELLS THE TOKENS: it is a derivation of them from Program, one node a production used
abbrev pub Spells : List Node → List TokenKind → Type 0
Spells tree tokens = (forest : Forest) × IsTree forest tree tokens

-- the tokens begin some source that a tree spells
abbrev pub Viable : List TokenKind → Type 0
Viable tokens = (more : List TokenKind) × (tree : List Node) × Spells tree (tokens ++ more)

-- a statement
unfoldable pub statement : ℕ → Bool
statement r = same_nonterminal (rule r).nonterminal Statement

-- a NOT with its operand, or a sign with its operand; the sign of a literal does not count
abbrev pub not_or_sign : ℕ → Bool
not_or_sign r = r == NEGATION_NOT || r == SIGNED_PLUS_OR_MINUS

-- an expression, a NOT or a sign
unfoldable pub expression : ℕ → Bool
expression r = same_nonterminal (rule r).nonterminal Expression || not_or_sign r

-- the whole source has room for 64 statements inside one another, and for 64 expressions, NOTs and signs
abbrev pub full : Room
full = record { statements = 64; expressions = 64 }

abbrev pub left : Bool → ℕ → ℕ
left takes room = cond takes (room - 1) room

-- what is left of the room inside a node
unfoldable pub inside : ℕ → Room → Room
inside r room = record { statements = left (statement r) room.statements; expressions = left (expression r) room.expressions }

-- the node finds no room: it is a statement inside 64 others, or an expression, a NOT or a sign inside 64 others of these three
unfoldable pub too_deep : ℕ → Room → Bool
too_deep r room = (statement r && room.statements == 0) || (expression r && room.expressions == 0)

-- where a node is opened: its production, the number of its first token, and whether it finds no room
abbrev pub opening : ℕ → ℕ → Room → Opening
opening r at room = record { production = r; first = at; deep = too_deep r room }

-- the openings of a forest, each before those inside it, where the first token has this number and this much room is left
abbrev pub openings : ℕ → Room → Forest → List Opening
openings at room none = []
openings at room (leaf k f) = openings (at + 1) room f
openings at room (node r f g) = opening r at room ∷ (openings at (inside r room) f ++ openings (at + length (spelt f)) room g)

-- one of them finds no room, and its first token has this number
abbrev pub DeepAt : ℕ → List Opening → Type 0
DeepAt at [] = ⊥
DeepAt at (o ∷ os) = ((o.deep ≡ true) × (o.first ≡ at)) ⊎ DeepAt at os

abbrev pub any_deep : List Opening → Bool
any_deep [] = false
any_deep (o ∷ os) = o.deep || any_deep os

-- at most 64 statements, and at most 64 expressions, NOTs and signs, are nested in one another
abbrev pub IsShallow : Forest → Type 0
IsShallow forest = (place : ℕ) → DeepAt place (openings 0 full forest) → ⊥

-- the kinds of the tokens
abbrev pub kinds : List Token → List TokenKind
kinds [] = []
kinds (t ∷ ts) = t.kind ∷ kinds ts

-- the end token is the last, and nowhere else
abbrev pub IsText : List TokenKind → Type 0
IsText [] = ⊥
IsText (k ∷ []) = k ≡ EndOfSource
IsText (k ∷ follower ∷ ks) = (k ≡ EndOfSource → ⊥) × IsText (follower ∷ ks)
