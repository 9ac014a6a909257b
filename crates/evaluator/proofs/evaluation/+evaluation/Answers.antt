use Rattle.std.proofs.Common.{rules}
use Rattle.evaluator.proofs.Chains.{chain_ends, link_fault, links_hold, start_fault}
use Rattle.evaluator.proofs.evaluation.+evaluation.Goals as goal

pub links-returns-in_err-value : goal.links-returns-in_err-value
links-returns-in_err-value g t c =
    link_fault _ c.args.rest.now c.link-item.result c.loop-link.link-index _ _ c.from_residual.result c.in_err-value.field-0.0 (search rules)
    c.loop-link.invariant c.loop-link-test.true c.link-item.is c.in_err-value.ensures

pub links-returns : goal.links-returns
links-returns g t c = chain_ends _ c.args.rest.now c.loop-link.link-index _ _ c.loop-link.invariant c.loop-link-test.false

pub held-returns-in-Chain : goal.held-returns-in-Chain
held-returns-in-Chain g t c =
    links_hold _ c.in-Chain.first c.in-Chain.rest _ _ c.args.expression.now c.links.result _ c.deref-in-Chain.ensures c.deref-in-Chain-2.ensures.value c.in-Chain.is
    c.in_ok-start-in-Chain.ensures c.links.ensures

pub held-returns-in_err-start-in-Chain : goal.held-returns-in_err-start-in-Chain
held-returns-in_err-start-in-Chain g t c =
    start_fault _ c.in-Chain.first c.in-Chain.rest _ c.args.expression.now c.from_residual-in_err-start-in-Chain.result c.in_err-start-in-Chain.field-0.0
    c.deref-in-Chain.ensures c.in-Chain.is (search rules) c.in_err-start-in-Chain.ensures
