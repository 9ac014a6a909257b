use Rattle.std.proofs.Common.{◌≡◌, ◌+◌, ℕ, List, length, ap, ◌∙◌, length-append}
use Rattle.row_moves.specs.declared.client_moves.ClientMoves.{ClientMoves}
use Rattle.row_moves.specs.Moved.{moved_in}
use Rattle.row_moves.proofs.Clients.{moved_more}
use Rattle.row_moves.proofs.client_moves.idle_clients.Goals as goal

pub loop-preserved : goal.loop-preserved
loop-preserved c =
    let pushed = c.in_ok-push.ensures.items in
    record {
      sixteen = ap length pushed ∙ (length-append c.loop.clients.items _ ∙ ap (λ n. n + 1) c.loop.invariant.sixteen);
      idle = λ k. ap (λ (l : List ClientMoves). moved_in l k) pushed ∙ moved_more c.loop.clients.items _ c.idle_client.ensures c.loop.invariant.idle k;
    }
