-- The tests that the whole table passes, computed once over all its rows, and what they say of one row.
use Rattle.std.proofs.Common.{ℕ, suc, ◌≡◌, Bool, true, false, not, ◌&&◌, ◌||◌, cond, ltb, List, [], ◌∷◌, ◌++◌, refl}
use Rattle.std.specs.Prelude.{◌==◌}
use Rattle.parse_tree.specs.declared.token.TokenKind.{TokenKind}
use Rattle.parse_tree.specs.declared.token.TokenKind.TheVariants.{Name}
use Rattle.parser.specs.declared.nonterminal.Nonterminal.TheVariants.{Statement}
use Rattle.parser.specs.declared.symbol.Symbol.{Symbol}
use Rattle.parser.specs.declared.symbol.Symbol.TheVariants.{Take, Open}
use Rattle.parse_tree.specs.declared.production.TheConstants.{STATEMENT_NAME, STATEMENT_ASSIGNMENT}
use Rattle.parser.specs.Same.{same_kind, same_nonterminal}
use Rattle.parser.specs.Grammar.{Production, row, nonterminals, symbols, symbols_from, starts, starts_from, empty, rules}
use Rattle.parser.specs.Completions.{rank}
use Rattle.parser.specs.Table.{has, starts_with, vanishes_as, some, front, is_nil, ends_free, each, of_nonterminal}

-- the tokens that these symbols begin with, by the rows
abbrev pub leads : List Production → List Symbol → List TokenKind
leads rs [] = []
leads rs (Take k ∷ s) = k ∷ []
leads rs (Open a ∷ s) = of_nonterminal rs a ++ cond (some (vanishes_as a) rs) (leads rs s) []

abbrev pub all_vanish : List Production → List Symbol → Bool
all_vanish rs [] = true
all_vanish rs (Take k ∷ s) = false
all_vanish rs (Open a ∷ s) = some (vanishes_as a) rs && all_vanish rs s

abbrev pub within : List TokenKind → List TokenKind → Bool
within xs ys = each (has ys) xs

-- one row against all rows
abbrev pub row_ok : List Production → Production → Bool
row_ok rs x =
    within (leads rs x.symbols) x.starts && (within x.starts (leads rs x.symbols) && ((not (all_vanish rs x.symbols) || x.empty) && ((not x.empty || all_vanish rs x.symbols) && (ltb (front rs x.symbols) (rank x.nonterminal) && ends_free x.symbols))))

-- two rows of one nonterminal
abbrev pub pair_ok : Production → Production → Bool
pair_ok x y =
    not (same_nonterminal x.nonterminal y.nonterminal) || (each (λ k. not (has y.starts k) || (same_kind k Name && same_nonterminal x.nonterminal Statement)) x.starts && (not (x.empty && y.empty) && ((not x.empty || is_nil x.symbols) && (not y.empty || is_nil y.symbols))))

abbrev pub pairs_ok : List Production → Bool
pairs_ok [] = true
pairs_ok (x ∷ xs) = each (pair_ok x) xs && pairs_ok xs

-- THE CHECK OF THE TABLE
pub rows_hold : each (row_ok rules) rules ≡ true
unfolding rules row nonterminals symbols symbols_from starts starts_from empty same_kind same_nonterminal
rows_hold = refl

pub pairs_hold : pairs_ok rules ≡ true
unfolding rules row nonterminals symbols symbols_from starts starts_from empty same_kind same_nonterminal
pairs_hold = refl

-- THE EXCEPTION: only two productions of a statement begin with a name, and none of it is empty
abbrev pub label_row : ℕ
label_row = STATEMENT_NAME

abbrev pub assign_row : ℕ
assign_row = STATEMENT_ASSIGNMENT

abbrev pub only_named : ℕ → List Production → Bool
only_named i [] = true
only_named i (x ∷ xs) = (not (starts_with Statement Name x) || (i == label_row || i == assign_row)) && only_named (suc i) xs

pub named_hold : only_named 0 rules ≡ true
unfolding rules row nonterminals symbols symbols_from starts starts_from empty same_kind same_nonterminal
named_hold = refl

pub never_empty : some (vanishes_as Statement) rules ≡ false
unfolding rules row nonterminals symbols symbols_from starts starts_from empty same_kind same_nonterminal
never_empty = refl
