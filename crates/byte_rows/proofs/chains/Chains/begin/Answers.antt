use Rattle.std.proofs.Common.{◌≡◌, ℕ, true, false, sym, ap, ◌∙◌, arith}
use Rattle.std.specs.BinaryHeap.{heap_items}
use Rattle.free_slots.specs.Free.{free_in}
use Rattle.storage.specs.Slots.{Transaction}
use Rattle.byte_rows.specs.Clients.{ClientView}
use Rattle.byte_rows.proofs.ClientLists.{client_set_other, client_set_same}
use Rattle.byte_rows.proofs.Exactly.{exact_begins}
use Rattle.byte_rows.proofs.NotedSteps.{noted_turned}
use Rattle.byte_rows.proofs.Sounds.{sound_turned}
use Rattle.byte_rows.proofs.Turns.{begins_kept}
use Rattle.byte_rows.proofs.chains.Chains.begin.Goals as goal

pub invariant_of-self : goal.invariant_of-self
invariant_of-self g c =
    let chains = c.settle.new.self in
    let s = g.S.Slots.state chains.slots in
    let t = g.S.Slots.state c.begin.new.self in
    let free = free_in (heap_items chains.free.back) chains.free.end in
    let cs = chains.clients.items in
    let x = c.start.new.self in
    let b = c.in-Ok-begin.ensures.ok in
    let same = c.in-Ok-begin.ensures.cause.stays (λ e. cc e) in
    let many = chains.sound.sixteen in
    let lt = c.requires.client in
    let idle : (s.transaction c.args.client).begun ≡ false = ap (λ (f : ℕ → Transaction). (f c.args.client).begun) c.settle.ensures.looked.rests.transaction ∙ c.requires.idle in
    let started : x.begun ≡ true = ap (λ (v : ClientView). v.begun) c.start.ensures in
    record {
      sound = sound_turned s t chains.places.items free cs c.args.client x chains.failed lt b.transaction.others (b.transaction.begun ∙ sym started) same
          (λ fine.
          let n = chains.sound.noted (sym same ∙ fine) in
          noted_turned cs c.args.client _ x (omega (arith, many, lt)) c.index_mut-one.ensures.value s t chains.places.items free b.transaction.others (λ is. b.transaction.counted ∙ sym (ap (λ (v : ClientView). v.written) c.start.ensures))
          (begins_kept s t chains.places.items n.kept same c.args.client b) (exact_begins s t chains.places.items n.kept n.exact same c.args.client (λ k inside. c.in-Ok.ensures.settled c.args.client k lt idle inside) b)
          (ap (λ (v : ClientView). v.touched) c.start.ensures) n) chains.sound;
    }

pub returns-in-Ok-begin-clause-counts : goal.returns-in-Ok-begin-clause-counts
returns-in-Ok-begin-clause-counts g c =
    let cs = c.settle.new.self.clients.items in
    let many = c.settle.new.self.sound.sixteen in
    let lt = c.requires.client in
    ap (λ (v : ClientView). v.drawn) (client_set_same cs c.args.client c.start.new.self (omega (arith, many, lt))) ∙ ap (λ (v : ClientView). v.drawn) c.start.ensures

pub returns-in-Ok-begin-clause-apart : goal.returns-in-Ok-begin-clause-apart
returns-in-Ok-begin-clause-apart g c = λ d ne. ap (λ (v : ClientView). v.drawn) (client_set_other c.settle.new.self.clients.items c.args.client d c.start.new.self ne) ∙ c.settle.ensures.counts.drawn d
