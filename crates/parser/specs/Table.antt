-- Questions to the table: which production a nonterminal can begin with a token, and which can be empty.
use Rattle.std.specs.Prelude.{ℕ, ◌+◌, Bool, true, false, not, cond, ◌&&◌, ◌||◌, List, [], ◌∷◌, ◌++◌}
use Rattle.parse_tree.specs.declared.token.TokenKind.{TokenKind}
use Rattle.parse_tree.specs.declared.token.TokenKind.TheVariants.{EndOfSource}
use Rattle.parser.specs.declared.nonterminal.Nonterminal.{Nonterminal}
use Rattle.parser.specs.declared.symbol.Symbol.{Symbol}
use Rattle.parser.specs.declared.symbol.Symbol.TheVariants.{Take, Open}
use Rattle.parser.specs.declared.rows.TheConstants.{ROWS_FROM}
use Rattle.parser.specs.Same.{same_kind, same_nonterminal}
use Rattle.parser.specs.Grammar.{Production}
use Rattle.parser.specs.Completions.{rank}

-- where the productions of each nonterminal begin
unfoldable pub rows_from : List ℕ
rows_from = ROWS_FROM

abbrev pub has : List TokenKind → TokenKind → Bool
has [] k = false
has (x ∷ xs) k = same_kind x k || has xs k

abbrev pub starts_with : Nonterminal → TokenKind → Production → Bool
starts_with a k x = same_nonterminal x.nonterminal a && has x.starts k

abbrev pub vanishes_as : Nonterminal → Production → Bool
vanishes_as a x = same_nonterminal x.nonterminal a && x.empty

abbrev pub some : {A : Type 0} → (A → Bool) → List A → Bool
some p [] = false
some p (x ∷ xs) = p x || some p xs

abbrev pub each : {A : Type 0} → (A → Bool) → List A → Bool
each p [] = true
each p (x ∷ xs) = p x && each p xs

abbrev pub is_nil : {A : Type 0} → List A → Bool
is_nil [] = true
is_nil (x ∷ xs) = false

-- the sum of the ranks up to the first symbol that cannot be empty
abbrev pub front : List Production → List Symbol → ℕ
front rs [] = 0
front rs (Take k ∷ s) = 0
front rs (Open a ∷ s) = rank a + cond (some (vanishes_as a) rs) (front rs s) 0

-- no end token is among these symbols
abbrev pub ends_free : List Symbol → Bool
ends_free [] = true
ends_free (Open a ∷ s) = ends_free s
ends_free (Take k ∷ s) = not (same_kind k EndOfSource) && ends_free s

-- the end token is the last symbol, and nowhere else
abbrev pub ends_once : List Symbol → Bool
ends_once [] = false
ends_once (Open a ∷ s) = ends_once s
ends_once (Take k ∷ s) = cond (same_kind k EndOfSource) (is_nil s) (ends_once s)

-- the tokens that the productions of a nonterminal begin with
abbrev pub of_nonterminal : List Production → Nonterminal → List TokenKind
of_nonterminal [] a = []
of_nonterminal (x ∷ xs) a = cond (same_nonterminal x.nonterminal a) x.starts [] ++ of_nonterminal xs a
