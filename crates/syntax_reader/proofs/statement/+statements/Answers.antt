use Rattle.syntax_reader.specs.Statements as a
use Rattle.syntax_reader.specs.Views.{source_of}
use Rattle.syntax_reader.proofs.Rows.{body_begins, body_done, body_grows}
use Rattle.syntax_reader.proofs.statement.+statements.Goals as goal

pub statement-returns-in-Some-clause-is : goal.statement-returns-in-Some-clause-is
statement-returns-in-Some-clause-is t c = a.plain (rw c.in-Some.is at c.in_ok-alone.ensures.is)

pub statement-returns-in-Some-uses-clause-is : goal.statement-returns-in-Some-uses-clause-is
statement-returns-in-Some-uses-clause-is t c = a.block c.in-Some-uses.ensures.is c.in_ok-made.ensures.is

pub statement-returns-in-Some-uses-2-clause-is : goal.statement-returns-in-Some-uses-2-clause-is
statement-returns-in-Some-uses-2-clause-is t c = a.labelled c.in-Some-uses-2.ensures.is c.in_ok-word.ensures c.in_ok-made-2.ensures.is

pub statement-returns-clause-is : goal.statement-returns-clause-is
statement-returns-clause-is t c = rw c.in_ok-made-3.ensures (a.choice c.in_ok-k.ensures.is c.in_ok-test.ensures.is c.in_ok-then_it.ensures.is c.in_ok-else_it.ensures.is)

pub else_branch-returns-in-Some-clause-is : goal.else_branch-returns-in-Some-clause-is
else_branch-returns-in-Some-clause-is t c = rw c.in_ok-made.ensures (a.else_branch c.in-Some.ensures.is c.in_ok-inner.ensures.is)

pub else_branch-returns-clause-is : goal.else_branch-returns-clause-is
else_branch-returns-clause-is t c = a.no_else c.in_ok-k.ensures.is

pub block-returns-clause-is : goal.block-returns-clause-is
block-returns-clause-is t c = rw c.in_ok-made.ensures (a.body c.in_ok-found.ensures.is c.in_ok-body.ensures.is)

pub statements-loop-k-init : goal.statements-loop-k-init
statements-loop-k-init t c = body_begins (source_of c.args.reader.now) c.args.begun c.new-found.result.items c.new-found.ensures.items

pub statements-loop-k-preserved : goal.statements-loop-k-preserved
statements-loop-k-preserved t c = body_grows (source_of c.args.reader.now) c.args.begun c.loop-k.n c.in-Some.k c.in_ok-one.end c.loop-k.found.items c.push.new.self.items c.in_ok-one.one c.loop-k.invariant c.in-Some.ensures.is c.in_ok-one.ensures.is c.in_ok-one.ensures.after c.in_ok-push.ensures.items

pub statements-returns-clause-is : goal.statements-returns-clause-is
statements-returns-clause-is t c = body_done (source_of c.args.reader.now) c.args.begun c.loop-k.n _ c.loop-k.found.items c.loop-k.invariant c.in_ok-k.ensures.is
