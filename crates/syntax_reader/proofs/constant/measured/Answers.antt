use Rattle.std.specs.Prelude.{ℤ}
use Rattle.abl_base.specs.declared.value.Value.{Value}
use Rattle.syntax_reader.specs.Nodes.{IsDay}
use Rattle.syntax_reader.specs.Views.{source_of}
use Rattle.syntax_reader.proofs.Dates.{from_dated}
use Rattle.syntax_reader.specs.Expressions as a
use Rattle.syntax_reader.proofs.constant.measured.Goals as goal

pub returns-in-Some : goal.returns-in-Some
returns-in-Some c = rw c.in_ok-value.ensures (a.whole c.in-Some.ensures.is c.in_ok-x.ensures c.in_ok-at.ensures)

pub returns-in-Some-uses : goal.returns-in-Some-uses
returns-in-Some-uses c = a.text c.in-Some-uses.ensures.is c.in_ok-word.ensures

pub returns-in-Some-uses-2 : goal.returns-in-Some-uses-2
returns-in-Some-uses-2 c = rw c.in_ok-value-2.ensures (a.scaled c.in-Some-uses-2.ensures.is c.in_ok-x-2.ensures c.in_ok-at-2.ensures)

pub returns-in-Some-uses-3 : goal.returns-in-Some-uses-3
returns-in-Some-uses-3 c = from_dated c.in_ok-value-3.ensures (λ (v : Value). a.IsConstant (source_of c.args.reader.now) c.args.n v c.in_ok-at-3.at) (λ (day : ℤ) (h : IsDay (source_of c.args.reader.now) c.in-Some-uses-3.k day). a.date c.in-Some-uses-3.ensures.is h c.in_ok-at-3.ensures)
