use Rattle.std.proofs.Common.{sym, ◌∙◌, ap}
use Rattle.parse_tree.specs.declared.token.TokenKind.TheVariants.{Name}
use Rattle.parser.specs.declared.nonterminal.Nonterminal.TheVariants.{Statement}
use Rattle.parser.specs.Same.{same_kind, same_nonterminal}
use Rattle.std.proofs.lemmas.Bool.{both_ways}
use Rattle.parser.proofs.Flags.{kinds_same, nonterminals_same, nonterminals_equal, kind_itself}
use Rattle.parser.proofs.choice.needs_two.Goals as goal

pub returns-then-same_nonterminal-clause-yes : goal.returns-then-same_nonterminal-clause-yes
returns-then-same_nonterminal-clause-yes c = λ e. (nonterminals_same _ _ (sym c.same_nonterminal.ensures ∙ c.if-same_nonterminal.true), kinds_same _ _ (sym c.same_kind.ensures ∙ e))

pub returns-then-same_nonterminal-clause-no : goal.returns-then-same_nonterminal-clause-no
returns-then-same_nonterminal-clause-no c = λ e k p. both_ways (same_kind c.args.kind Name) (sym c.same_kind.ensures ∙ e) (ap (λ x. same_kind x Name) k ∙ kind_itself Name)

pub returns-else-same_nonterminal-clause-no : goal.returns-else-same_nonterminal-clause-no
returns-else-same_nonterminal-clause-no c = λ e k p. both_ways (same_nonterminal c.args.nonterminal Statement) (sym c.same_nonterminal.ensures ∙ e) (nonterminals_equal _ _ p)
