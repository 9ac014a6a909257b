-- The three kinds of slots that belong to nothing.
use Rattle.std.proofs.Common.{inl, inr, arith}
use Rattle.std.proofs.lemmas.Bool.Decides.{nat_tests}
use Rattle.disk_database.proofs.Leftover.{is_used}
use Rattle.disk_database.proofs.unused.is_unused.Goals as goal

pub returns-then-slot-eq0-clause-is : goal.returns-then-slot-eq0-clause-is
returns-then-slot-eq0-clause-is c = λ yes. inl (omega (arith, c.if-slot-eq0.true))

pub returns-then-slot-lt-FIRST_VALUES-clause-is : goal.returns-then-slot-lt-FIRST_VALUES-clause-is
returns-then-slot-lt-FIRST_VALUES-clause-is c = λ yes. inr (inl (grind (arith, nat_tests, yes), omega (arith, c.if-slot-lt-FIRST_VALUES.true)))

pub returns-then-slot-lt-FIRST_VALUES-clause-used : goal.returns-then-slot-lt-FIRST_VALUES-clause-used
returns-then-slot-lt-FIRST_VALUES-clause-used c = λ no.
    is_used c.args.text c.args.slot (λ is. omega (arith, is, c.if-slot-eq0.false)) (λ after below. grind (arith, nat_tests, no, after)) (λ past below. omega (arith, past, c.if-slot-lt-FIRST_VALUES.true))

pub returns-clause-is : goal.returns-clause-is
returns-clause-is c = λ yes. inr (inr (grind (arith, nat_tests, yes), c.requires))

pub returns-clause-used : goal.returns-clause-used
returns-clause-used c = λ no.
    is_used c.args.text c.args.slot (λ is. omega (arith, is, c.if-slot-eq0.false)) (λ after below. omega (arith, below, c.if-slot-lt-FIRST_VALUES.false)) (λ past below. grind (arith, nat_tests, no, past))
