use Rattle.std.proofs.Common.{◌+◌, List, length, ap, ◌∙◌, length-append}
use Rattle.byte_rows.specs.declared.client.Client.{Client}
use Rattle.byte_rows.specs.Clients.{client_in}
use Rattle.byte_rows.proofs.ClientLists.{client_more}
use Rattle.byte_rows.proofs.clients.idle_clients.Goals as goal

pub loop-preserved : goal.loop-preserved
loop-preserved c =
    let pushed = c.in_ok-push.ensures.items in
    record {
      sixteen = ap length pushed ∙ (length-append c.loop.clients.items _ ∙ ap (λ n. n + 1) c.loop.invariant.sixteen);
      idle = λ k. ap (λ (l : List Client). client_in l k) pushed ∙ client_more c.loop.clients.items _ c.idle.ensures c.loop.invariant.idle k;
    }
