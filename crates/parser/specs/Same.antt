-- When two kinds of token, and two nonterminals, are one, and the number of a nonterminal.
use Rattle.std.specs.Prelude.{ℕ, Bool}
use Rattle.parse_tree.specs.declared.token.TokenKind.{TokenKind}
use Rattle.parser.specs.declared.nonterminal.Nonterminal.{Nonterminal}
use denote.Enum.Bare.{sameb}
use denote.Enum.Declared.{tag_of}
use Rattle.parse_tree.specs.contracts.token.TokenKind.{the_type as kind_type}
use Rattle.parser.specs.contracts.nonterminal.Nonterminal.{the_type as nonterminal_type}

unfoldable pub same_kind : TokenKind → TokenKind → Bool
same_kind = sameb kind_type

unfoldable pub same_nonterminal : Nonterminal → Nonterminal → Bool
same_nonterminal = sameb nonterminal_type

-- the place of the nonterminal in the list of nonterminals
unfoldable pub nonterminal_number : Nonterminal → ℕ
nonterminal_number = tag_of nonterminal_type
