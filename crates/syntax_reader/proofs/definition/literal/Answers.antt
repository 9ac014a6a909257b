use Rattle.std.specs.Prelude.{ℤ, ◌+◌}
use Rattle.abl_base.specs.declared.value.Value.{Value}
use Rattle.syntax_reader.specs.Nodes.{IsDay}
use Rattle.syntax_reader.specs.Views.{source_of}
use Rattle.syntax_reader.proofs.Dates.{from_dated}
use Rattle.syntax_reader.specs.Definitions as a
use Rattle.syntax_reader.proofs.definition.literal.Goals as goal

pub returns-in-Some-clause-is : goal.returns-in-Some-clause-is
returns-in-Some-clause-is c = a.number c.in-Some.ensures.is c.in_ok-at.ensures c.in_ok-minus.ensures.is c.in_ok-value.ensures

pub returns-in-Some-uses-clause-is : goal.returns-in-Some-uses-clause-is
returns-in-Some-uses-clause-is c = a.text c.in-Some-uses.ensures.is c.in_ok-word.ensures

pub returns-in-Some-uses-2-clause-is : goal.returns-in-Some-uses-2-clause-is
returns-in-Some-uses-2-clause-is c = from_dated c.in_ok-value-2.ensures (λ (v : Value). a.IsLiteral (source_of c.args.reader.now) c.args.n (c.args.n + 1) v c.in_ok-at-2.at) (λ (day : ℤ) (h : IsDay (source_of c.args.reader.now) c.in-Some-uses-2.k day). a.date c.in-Some-uses-2.ensures.is h c.in_ok-at-2.ensures)
