use Rattle.std.proofs.Common.{◌+◌, List, [], ◌∷◌, length, ap, ◌∙◌, arith, length-append}
use Rattle.std.proofs.lemmas.List.Sums.{sum_by-append}
use Rattle.new_database.specs.declared.slots.client.Client.{Client}
use Rattle.new_database.specs.slots.Mem.{transaction_in}
use Rattle.new_database.specs.slots.Promised.{promised_to, promised}
use Rattle.new_database.proofs.SlotsLemmas.Clients.{idle_more}
use Rattle.new_database.proofs.slots.mem_slots.idle_clients.Goals as goal

pub loop-preserved : goal.loop-preserved
loop-preserved c =
    let pushed = c.in_ok-push.ensures.items in
    record {
      sixteen = ap length pushed ∙ length-append c.loop.clients.items _ ∙ ap (λ n. n + 1) c.loop.invariant.sixteen;
      idle = λ k. ap (λ (l : List Client). transaction_in l k) pushed ∙ idle_more c.loop.clients.items _ c.idle_client.ensures.idle c.loop.invariant.idle k;
      promised = (let sum = sum_by-append promised_to c.loop.clients.items (c.idle_client.result ∷ []) in let all = ap promised pushed in omega (arith, sum, all, c.idle_client.ensures.promised, c.loop.invariant.promised));
    }
