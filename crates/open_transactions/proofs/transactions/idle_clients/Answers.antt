use Rattle.std.proofs.Common.{◌+◌, List, [], length, ap, ◌∙◌, length-append, None}
use Rattle.open_transactions.specs.declared.client.Client.{Client}
use Rattle.open_transactions.specs.Clients.{transaction_in, transaction_of, list_in, list_of, number_in, idle}
use Rattle.open_transactions.proofs.Parts.{part_more}
use Rattle.open_transactions.proofs.transactions.idle_clients.Goals as goal

pub loop-preserved : goal.loop-preserved
loop-preserved c =
    let pushed = c.in_ok-push.ensures.items in
    record {
      sixteen = ap length pushed ∙ length-append c.loop.clients.items _ ∙ ap (λ n. n + 1) c.loop.invariant.sixteen;
      idle = λ k. ap (λ (l : List Client). transaction_in l k) pushed ∙ part_more idle transaction_of c.loop.clients.items _ c.new.ensures.idle c.loop.invariant.idle k;
      none = λ k. ap (λ (l : List Client). list_in l k) pushed ∙ part_more [] list_of c.loop.clients.items _ c.new.ensures.none c.loop.invariant.none k;
      numbers = λ k. ap (λ (l : List Client). number_in l k) pushed ∙ part_more None (λ (x : Client). x.number) c.loop.clients.items _ c.new.ensures.number c.loop.invariant.numbers k;
    }
