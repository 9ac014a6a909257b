use Rattle.source_reader.proofs.ListingLemmas.Walk.{into_block, into_branches}
use Rattle.source_reader.proofs.listing.text.+walk.Goals as goal

pub in_stmt-returns-in_ok-in_body-in-Block : goal.in_stmt-returns-in_ok-in_body-in-Block
in_stmt-returns-in_ok-in_body-in-Block t c =
    into_block c.args.buffers.now _ c.in-Block.header c.in-Block.body _ _ _ _ _ c.in-Block.is c.deref.ensures c.deref-in-Block.ensures.value c.in_ok-add-in-Block.ensures c.in_ok-in_body-in-Block.ensures

pub in_stmt-returns-in_ok-in_body-in-If-2 : goal.in_stmt-returns-in_ok-in_body-in-If-2
in_stmt-returns-in_ok-in_body-in-If-2 t c =
    into_branches c.args.buffers.now _ c.in-If.test c.in-If.then_body c.in-If.else_body _ _ _ _ _ c.in-If.is c.deref-in-If.ensures.value c.deref-in-If-2.ensures.value
    c.in_ok-in_body-in-If.ensures c.in_ok-in_body-in-If-2.ensures
