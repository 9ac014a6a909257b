use Rattle.std.proofs.Common.{List, ◌∷◌, ◌≡◌, ℕ, ◌<◌, true, false, Option, IfSome, IfNone, Some, None}
use Rattle.parse_tree.specs.declared.token.TokenKind.{TokenKind}
use Rattle.parser.specs.declared.nonterminal.Nonterminal.{Nonterminal}
use Rattle.parser.specs.declared.symbol.Room.{Room}
use Rattle.parser.specs.declared.symbol.Entry.{Entry}
use Rattle.parser.specs.declared.symbol.Entry.TheVariants.{Derive}
use Rattle.parser.specs.Grammar.{rule, rule_count}
use Rattle.parser.specs.Table.{starts_with, vanishes_as}
use Rattle.parser.specs.Engine.{OnlyRule, Stuck}
use Rattle.parser.proofs.Steps.{by_start, by_nothing, by_none}
use Rattle.parser.proofs.choice.choose.Goals as goal

pub returns-in-Some-clause-some : goal.returns-in-Some-clause-some
returns-in-Some-clause-some c = by_start _ _ _ c.requires c.in-Some.ensures.some.0 c.in-Some.ensures.some.1

some_of : (o : Option ℕ) (a : Nonterminal) (k : TokenKind) → IfSome o (λ r. (r < rule_count) × (vanishes_as a (rule r) ≡ true)) → ((q : ℕ) → q < rule_count → starts_with a k (rule q) ≡ false) → IfSome o (λ r. OnlyRule a k r)
some_of (Some r) a k h none = by_nothing a k r h.0 h.1 none
some_of None a k h none = h

none_of : (o : Option ℕ) (a : Nonterminal) (k : TokenKind) → IfNone o ((q : ℕ) → q < rule_count → vanishes_as a (rule q) ≡ false) → ((q : ℕ) → q < rule_count → starts_with a k (rule q) ≡ false) → IfNone o ((at : ℕ) (room : Room) (stack : List Entry) → Stuck at (Derive a room ∷ stack) k)
none_of (Some r) a k h none = h
none_of None a k h none = by_none a k none h

pub returns-in-None-clause-some : goal.returns-in-None-clause-some
returns-in-None-clause-some c = some_of c.vanishing.result c.args.nonterminal c.args.kind c.vanishing.ensures.some c.in-None.ensures.none

pub returns-in-None-clause-none : goal.returns-in-None-clause-none
returns-in-None-clause-none c = none_of c.vanishing.result c.args.nonterminal c.args.kind c.vanishing.ensures.none c.in-None.ensures.none
