-- What the definitions say of small cases.
use Rattle.std.specs.Prelude.{◌≡◌, true, false, [], ◌∷◌, refl}
use Rattle.parse_tree.specs.declared.token.TokenKind.TheVariants.{EndOfSource, Name, Colon, Stop, Period}
use Rattle.parse_tree.specs.declared.production.TheConstants.{PROGRAM_ITEMS, ITEMS_NONE, ITEMS_ITEM, ITEM_STATEMENT, STATEMENT_NAME, STATEMENT_IF, STATEMENT_FLOW, FLOW_STOP, BLOCK_FOR, NEGATION_NOT, NEGATION_SUM, SIGNED_PLUS_OR_MINUS, SIGNED_PRIMARY, LITERAL_LITERAL_SIGN, EXPRESSION_IF}
use Rattle.parser.specs.declared.nonterminal.Nonterminal.TheVariants.{Block}
use Rattle.parser.specs.declared.symbol.Symbol.TheVariants.{Take, Open}
use Rattle.parser.specs.Same.{same_nonterminal}
use Rattle.parser.specs.Grammar.{rule, rules, row, nonterminals, symbols, symbols_from, starts, starts_from, empty, Forest, none, leaf, node, spelt, nodes, statement, expression, too_deep, inside, full}

-- a label is a name, a colon and a block
pub a_label : (rule STATEMENT_NAME).symbols ≡ Take Name ∷ Take Colon ∷ Open Block ∷ []
unfolding rule rules row nonterminals symbols symbols_from starts starts_from empty
a_label = refl

-- the empty source, and the source `STOP .`
pub nothing_at_all : Forest
nothing_at_all = node PROGRAM_ITEMS (node ITEMS_NONE none none) (leaf EndOfSource none)

pub one_stop : Forest
one_stop = node PROGRAM_ITEMS (node ITEMS_ITEM (node ITEM_STATEMENT (node STATEMENT_FLOW (node FLOW_STOP (leaf Stop (leaf Period none)) none) none) (node ITEMS_NONE none none)) none) (leaf EndOfSource none)

pub one_stop_spells : spelt one_stop ≡ Stop ∷ Period ∷ EndOfSource ∷ []
unfolding one_stop
one_stop_spells = refl

pub nodes_of_nothing : nodes 0 0 nothing_at_all ≡ record { production = PROGRAM_ITEMS; first = 0; end = 2 } ∷ record { production = ITEMS_NONE; first = 0; end = 2 } ∷ []
unfolding nothing_at_all
nodes_of_nothing = refl

pub nodes_of_stop : nodes 0 0 one_stop
    ≡ record { production = PROGRAM_ITEMS; first = 0; end = 6 } ∷ record { production = ITEMS_ITEM; first = 0; end = 6 } ∷ record { production = ITEM_STATEMENT; first = 0; end = 5 }
    ∷ record { production = STATEMENT_FLOW; first = 0; end = 5 } ∷ record { production = FLOW_STOP; first = 0; end = 5 } ∷ record { production = ITEMS_NONE; first = 2; end = 6 } ∷ []
unfolding one_stop
nodes_of_stop = refl

-- statements have one count, and expressions, NOTs and signs another; a FOR block is counted in its statement alone, and the sign of a literal in neither
pub an_if_is_a_statement : (statement STATEMENT_IF ≡ true) × (expression STATEMENT_IF ≡ false)
unfolding statement expression rule rules row nonterminals symbols symbols_from starts starts_from empty same_nonterminal
an_if_is_a_statement = (refl, refl)

pub a_block_is_not_counted : (statement BLOCK_FOR ≡ false) × (expression BLOCK_FOR ≡ false)
unfolding statement expression rule rules row nonterminals symbols symbols_from starts starts_from empty same_nonterminal
a_block_is_not_counted = (refl, refl)

pub not_and_sign_are_counted : (expression NEGATION_NOT ≡ true) × (expression SIGNED_PLUS_OR_MINUS ≡ true) × (expression EXPRESSION_IF ≡ true)
unfolding expression rule rules row nonterminals symbols symbols_from starts starts_from empty same_nonterminal
not_and_sign_are_counted = (refl, refl, refl)

pub a_sum_is_not_counted : (expression NEGATION_SUM ≡ false) × (expression SIGNED_PRIMARY ≡ false)
unfolding expression rule rules row nonterminals symbols symbols_from starts starts_from empty same_nonterminal
a_sum_is_not_counted = (refl, refl)

pub the_sign_of_a_literal_is_not_counted : expression LITERAL_LITERAL_SIGN ≡ false
unfolding expression rule rules row nonterminals symbols symbols_from starts starts_from empty same_nonterminal
the_sign_of_a_literal_is_not_counted = refl

-- a 64th statement finds room for one, a 65th finds none; a NOT does not ask for it
pub the_64th_fits : too_deep STATEMENT_IF (record { statements = 1; expressions = 0 }) ≡ false
unfolding too_deep statement expression rule rules row nonterminals symbols symbols_from starts starts_from empty same_nonterminal
the_64th_fits = refl

pub the_65th_does_not : too_deep STATEMENT_IF (record { statements = 0; expressions = 64 }) ≡ true
unfolding too_deep statement expression rule rules row nonterminals symbols symbols_from starts starts_from empty same_nonterminal
the_65th_does_not = refl

pub a_not_in_64_statements : too_deep NEGATION_NOT (record { statements = 0; expressions = 1 }) ≡ false
unfolding too_deep statement expression rule rules row nonterminals symbols symbols_from starts starts_from empty same_nonterminal
a_not_in_64_statements = refl

pub room_inside : inside STATEMENT_IF full ≡ record { statements = 63; expressions = 64 }
unfolding inside statement expression rule rules row nonterminals symbols symbols_from starts starts_from empty same_nonterminal
room_inside = refl
