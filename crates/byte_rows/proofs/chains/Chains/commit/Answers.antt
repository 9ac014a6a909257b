use Rattle.std.proofs.Common.{◌≡◌, false, sym, ap, ◌∙◌, arith}
use Rattle.std.specs.BinaryHeap.{heap_items}
use Rattle.free_slots.specs.Free.{free_in}
use Rattle.byte_rows.specs.Clients.{ClientView}
use Rattle.byte_rows.proofs.ClientLists.{client_set_other, client_set_same}
use Rattle.byte_rows.proofs.Exactly.{exact_commits}
use Rattle.byte_rows.proofs.Kept.{not_both}
use Rattle.byte_rows.proofs.NotedSteps.{noted_turned}
use Rattle.byte_rows.proofs.Sounds.{sound_turned}
use Rattle.byte_rows.proofs.Turns.{commits_kept}
use Rattle.byte_rows.proofs.chains.Chains.commit.Goals as goal

pub invariant_of-self : goal.invariant_of-self
invariant_of-self g c =
    let chains = c.args.self.now in
    let s = g.S.Slots.state chains.slots in
    let t = g.S.Slots.state c.commit.new.self in
    let free = free_in (heap_items chains.free.back) chains.free.end in
    let cs = chains.clients.items in
    let x = c.end.new.self in
    let b = c.in-Ok.ensures.ok in
    let same = c.in-Ok.ensures.cause.stays (λ e. cc e) in
    let many = chains.sound.sixteen in
    let lt = c.requires.client in
    let idle : x.begun ≡ false = ap (λ (v : ClientView). v.begun) c.end.ensures in
    record {
      sound = sound_turned s t chains.places.items free cs c.args.client x chains.failed lt b.transaction.others (b.transaction.begun ∙ sym idle) same
          (λ fine.
          let n = chains.sound.noted (sym same ∙ fine) in
          noted_turned cs c.args.client _ x (omega (arith, many, lt)) c.index_mut-one.ensures.value s t chains.places.items free b.transaction.others (λ is. absurd (not_both (t.transaction c.args.client).begun is b.transaction.begun))
          (commits_kept s t chains.places.items n.kept same c.args.client b) (exact_commits s t chains.places.items n.kept n.exact same c.args.client b) (ap (λ (v : ClientView). v.touched) c.end.ensures) n) chains.sound;
    }

pub returns-in-Ok-clause-counts : goal.returns-in-Ok-clause-counts
returns-in-Ok-clause-counts g c =
    let cs = c.args.self.now.clients.items in
    let many = c.args.self.now.sound.sixteen in
    let lt = c.requires.client in
    ap (λ (v : ClientView). v.drawn) (client_set_same cs c.args.client c.end.new.self (omega (arith, many, lt))) ∙ ap (λ (v : ClientView). v.drawn) c.end.ensures

pub returns-in-Ok-clause-apart : goal.returns-in-Ok-clause-apart
returns-in-Ok-clause-apart g c = λ d ne. ap (λ (v : ClientView). v.drawn) (client_set_other c.args.self.now.clients.items c.args.client d c.end.new.self ne)
