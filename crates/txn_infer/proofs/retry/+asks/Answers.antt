use Rattle.txn_infer.proofs.Asks.{chain_asks_first, chain_asks_link}
use Rattle.txn_infer.proofs.retry.+asks.Goals as goal

pub asks_retry-returns-then-asks_retry : goal.asks_retry-returns-then-asks_retry
asks_retry-returns-then-asks_retry t c =
    chain_asks_first _ c.in-Chain.first c.in-Chain.rest _ _ c.in-Chain.is c.deref-in-Chain.ensures c.asks_retry-in-Chain.ensures c.if-asks_retry.true

pub asks_retry-returns-else-asks_retry : goal.asks_retry-returns-else-asks_retry
asks_retry-returns-else-asks_retry t c =
    chain_asks_link _ c.in-Chain.first c.in-Chain.rest _ _ _ _ c.in-Chain.is c.deref-in-Chain.ensures c.asks_retry-in-Chain.ensures c.if-asks_retry.false c.deref-else-asks_retry.ensures.value c.any_link.ensures
