use Rattle.parser.specs.Engine.{plainly}
use Rattle.parser.proofs.Steps.{leads_more, went_named, taking_named, statement_top}
use Rattle.parser.proofs.expand.expand.Goals as goal

pub loop-nonterminal-preserved : goal.loop-nonterminal-preserved
loop-nonterminal-preserved c =
    let e = c.in_ok-open_top.ensures in
    let i = c.loop-nonterminal.invariant in
    record {
      leads = leads_more _ _ _ _ _ _ _ _ i.leads e.leads;
      suits = λ s. e.suits (i.suits s);
      ends = λ s. e.ends (i.ends s);
    }

pub returns-then-needs_two-clause-went : goal.returns-then-needs_two-clause-went
returns-then-needs_two-clause-went c =
    let y = c.needs_two.ensures.yes c.if-needs_two.true in
    let h = rw c.in-Some-Derive.field-0-is at c.in-Some-Derive.ensures in
    went_named _ _ _ _ h.0 _ _ _ _ _ _ _ c.loop-nonterminal.invariant.leads h.1 y.0 y.1 (c.in_ok-open_name.ensures.named h.0 (statement_top _ _ _ _ h.1 y.0))

pub returns-then-needs_two-clause-taking : goal.returns-then-needs_two-clause-taking
returns-then-needs_two-clause-taking c = λ t.
    let y = c.needs_two.ensures.yes c.if-needs_two.true in
    let h = rw c.in-Some-Derive.field-0-is at c.in-Some-Derive.ensures in
    taking_named _ _ _ _ _ _ _ (c.in_ok-open_name.ensures.named h.0 (statement_top _ _ _ _ h.1 y.0))

pub returns-then-not-branch-clause-went : goal.returns-then-not-branch-clause-went
returns-then-not-branch-clause-went c = plainly (leads_more _ _ _ _ _ _ _ _ c.loop-nonterminal.invariant.leads c.in_ok-open_top.ensures.leads)

pub returns-then-not-branch-clause-stuck : goal.returns-then-not-branch-clause-stuck
returns-then-not-branch-clause-stuck c = λ e. (leads_more _ _ _ _ _ _ _ _ c.loop-nonterminal.invariant.leads c.in_ok-open_top.ensures.leads, c.in_ok-open_top.ensures.stuck (cc))
