use Rattle.std.proofs.Common.{◌≡◌, ℕ, true, List}
use Rattle.parse_tree.specs.declared.token.TokenKind.{TokenKind}
use Rattle.parse_tree.specs.declared.token.TokenKind.TheVariants.{EndOfSource}
use Rattle.parser.specs.declared.symbol.Entry.{Entry}
use Rattle.parser.specs.declared.symbol.Opening.{Opening}
use Rattle.parser.specs.Grammar.{rules}
use Rattle.parser.specs.Completing.{suits}
use Rattle.parser.specs.Table.{front, ends_once}
use Rattle.parser.specs.Engine.{plain, Leads}
use Rattle.parser.proofs.expand.expand.Given as goal

pub record Sofar (at : ℕ) (from : List Entry) (before : List Opening) (to : List Entry) (after : List Opening) (k : TokenKind) : Type 0 where
  pub leads : Leads at from before to after k
  pub suits : suits rules (plain from) EndOfSource ≡ true → suits rules (plain to) EndOfSource ≡ true
  pub ends : ends_once (plain from) ≡ true → ends_once (plain to) ≡ true

abbrev pub invariant-loop-nonterminal : goal.invariant-loop-nonterminal
invariant-loop-nonterminal l = Sofar l.at l.initial.stack l.initial.used.items l.stack l.used.items l.kind

abbrev pub decreases-loop-nonterminal : goal.decreases-loop-nonterminal
decreases-loop-nonterminal l = front rules (plain l.stack)
