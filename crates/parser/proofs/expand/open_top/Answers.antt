use Rattle.parser.proofs.Steps.{stepped}
use Rattle.parser.proofs.Completes.{suits_row}
use Rattle.parser.proofs.expand.open_top.Goals as goal

pub returns-in_ok-open_row-in-Some-clause-leads : goal.returns-in_ok-open_row-in-Some-clause-leads
returns-in_ok-open_row-in-Some-clause-leads c =
    (stepped c.args.at c.args.room c.args.nonterminal c.args.kind c.in-Some.r c.args.stack.now c.open_row.new.stack c.requires.top.0 c.args.used.now.items c.open_row.new.used.items
    c.in-Some.ensures.some c.requires.top.1 (c.in_ok-open_row-in-Some.ensures.stack _ c.requires.top.1) c.in_ok-open_row-in-Some.ensures.used).leads

pub returns-in_ok-open_row-in-Some-clause-nearer : goal.returns-in_ok-open_row-in-Some-clause-nearer
returns-in_ok-open_row-in-Some-clause-nearer c is =
    (stepped c.args.at c.args.room c.args.nonterminal c.args.kind c.in-Some.r c.args.stack.now c.open_row.new.stack c.requires.top.0 c.args.used.now.items c.open_row.new.used.items
    c.in-Some.ensures.some c.requires.top.1 (c.in_ok-open_row-in-Some.ensures.stack _ c.requires.top.1) c.in_ok-open_row-in-Some.ensures.used).nearer

pub returns-in_ok-open_row-in-Some-clause-ends : goal.returns-in_ok-open_row-in-Some-clause-ends
returns-in_ok-open_row-in-Some-clause-ends c =
    (stepped c.args.at c.args.room c.args.nonterminal c.args.kind c.in-Some.r c.args.stack.now c.open_row.new.stack c.requires.top.0 c.args.used.now.items c.open_row.new.used.items
    c.in-Some.ensures.some c.requires.top.1 (c.in_ok-open_row-in-Some.ensures.stack _ c.requires.top.1) c.in_ok-open_row-in-Some.ensures.used).ends

pub returns-in_ok-open_row-in-Some-clause-suits : goal.returns-in_ok-open_row-in-Some-clause-suits
returns-in_ok-open_row-in-Some-clause-suits c =
    suits_row c.args.room c.args.nonterminal c.in-Some.r c.args.stack.now c.requires.top.0 c.open_row.new.stack
    c.in-Some.ensures.some.within c.in-Some.ensures.some.nonterminal c.requires.top.1 (c.in_ok-open_row-in-Some.ensures.stack _ c.requires.top.1)
