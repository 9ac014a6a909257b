-- How a run of symbols is completed by the short productions of its nonterminals, so that what was read is viable.
use Rattle.std.specs.Prelude.{ℕ, ◌+◌, Bool, true, false, not, ◌&&◌, ◌||◌, cond, nat_lt, List, [], ◌∷◌, length, slice_index_or, Option, Some, None}
use Rattle.parse_tree.specs.declared.token.TokenKind.{TokenKind}
use Rattle.parser.specs.declared.nonterminal.Nonterminal.{Nonterminal}
use Rattle.parser.specs.declared.symbol.Symbol.{Symbol}
use Rattle.parser.specs.declared.symbol.Symbol.TheVariants.{Take, Open}
use Rattle.parser.specs.Same.{same_kind, same_nonterminal}
use Rattle.parser.specs.Grammar.{Production, blank}
use Rattle.parser.specs.Table.{has, vanishes_as, some, is_nil, each, of_nonterminal}
use Rattle.parser.specs.Completions.{short, first_of, expects, size}

abbrev pub nil_rule : List Production → ℕ → Production
nil_rule rs r = slice_index_or rs r blank

-- the first token of the completion of these symbols, where they are completed by any
abbrev pub head : List Production → List Symbol → Option TokenKind
head rs [] = None
head rs (Take w ∷ s) = Some w
head rs (Open a ∷ s) = cond (some (vanishes_as a) rs) (head rs s) (Some (first_of a))

abbrev pub before : Option TokenKind → TokenKind → TokenKind
before None k = k
before (Some w) k = w

-- the number of steps of the completion
abbrev pub weigh : List Symbol → ℕ
weigh [] = 0
weigh (Take w ∷ s) = 1 + weigh s
weigh (Open a ∷ s) = size a + weigh s

abbrev pub is_head : Option TokenKind → TokenKind → Bool
is_head None k = false
is_head (Some w) k = same_kind w k

abbrev pub no_head : Option TokenKind → Bool
no_head None = true
no_head (Some w) = false

-- the short production of the nonterminal completes it
abbrev pub nonterminal_ok : List Production → Nonterminal → Bool
nonterminal_ok rs a =
    same_nonterminal (nil_rule rs (short a)).nonterminal a && (nat_lt (short a) (length rs) && (nat_lt (weigh (nil_rule rs (short a)).symbols) (size a)
    && ((not (is_nil (nil_rule rs (short a)).symbols) || each (λ k. not (has (of_nonterminal rs a) k)) (expects a))
    && cond (some (vanishes_as a) rs) (no_head (head rs (nil_rule rs (short a)).symbols)) (is_head (head rs (nil_rule rs (short a)).symbols) (first_of a)))))

-- the symbols can be completed before k
abbrev pub suits : List Production → List Symbol → TokenKind → Bool
suits rs [] k = true
suits rs (Take w ∷ s) k = suits rs s k
suits rs (Open a ∷ s) k = (has (expects a) (before (head rs s) k) && nonterminal_ok rs a) && suits rs s k
