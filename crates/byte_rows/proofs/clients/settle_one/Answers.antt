use Rattle.std.proofs.Common.{◌≡◌, ◌<◌, length, slice_index_or, refl, sym, ap, ◌∙◌, arith}
use Rattle.std.specs.BinaryHeap.{heap_items}
use Rattle.free_slots.specs.Free.{free_in}
use Rattle.byte_rows.specs.declared.client.Client.{Client}
use Rattle.byte_rows.specs.Clients.{ClientView}
use Rattle.byte_rows.specs.Freed.{has}
use Rattle.byte_rows.proofs.ClientLists.{client_at, same_set}
use Rattle.byte_rows.proofs.Kept.{not_both}
use Rattle.byte_rows.proofs.NotedSteps.{noted_settled}
use Rattle.byte_rows.proofs.Sounds.{on_fine}
use Rattle.byte_rows.proofs.clients.settle_one.Goals as goal

pub returns-then-one-clause-settled : goal.returns-then-one-clause-settled
returns-then-one-clause-settled g c = λ idle k inside own.
    let cs = c.args.clients.now in
    let was = slice_index_or cs c.args.client c.index-clients-client.result in
    let many = c.requires.sixteen in
    let lt = c.requires.client in
    let at = client_at cs c.args.client was (omega (arith, many, lt)) (ap (λ (d : Client). slice_index_or cs c.args.client d) c.index-clients-client.is) in
    not_both was.begun c.if-one.true (sym (ap (λ (v : ClientView). v.begun) at) ∙ idle)

pub settle-requires-clause-ended : goal.settle-requires-clause-ended
settle-requires-clause-ended g c =
    let cs = c.args.clients.now in
    let was = slice_index_or cs c.args.client c.index-clients-client.result in
    let many = c.requires.sixteen in
    let lt = c.requires.client in
    let at = client_at cs c.args.client was (omega (arith, many, lt)) (ap (λ (d : Client). slice_index_or cs c.args.client d) c.index-clients-client.is) in
    c.requires.begun c.args.client lt ∙ (ap (λ (v : ClientView). v.begun) at ∙ c.if-one.false)

pub settle-requires-clause-touched : goal.settle-requires-clause-touched
settle-requires-clause-touched g c = λ k there.
    let cs = c.args.clients.now in
    let was = slice_index_or cs c.args.client c.index-clients-client.result in
    let many = c.requires.sixteen in
    let lt = c.requires.client in
    let at = client_at cs c.args.client was (omega (arith, many, lt)) (ap (λ (d : Client). slice_index_or cs c.args.client d) c.index-clients-client.is) in
    c.requires.noted.within c.args.client k lt (ap (λ (v : ClientView). has v.touched k) at ∙ there)

pub settle-requires-clause-all : goal.settle-requires-clause-all
settle-requires-clause-all g c = λ k inside own.
    let cs = c.args.clients.now in
    let was = slice_index_or cs c.args.client c.index-clients-client.result in
    let many = c.requires.sixteen in
    let lt = c.requires.client in
    let at = client_at cs c.args.client was (omega (arith, many, lt)) (ap (λ (d : Client). slice_index_or cs c.args.client d) c.index-clients-client.is) in
    sym (ap (λ (v : ClientView). has v.touched k) at) ∙ c.requires.noted.listed c.args.client k lt inside own

pub returns-clause-noted : goal.returns-clause-noted
returns-clause-noted g c = λ fine.
    let cs = c.args.clients.now in
    let was = slice_index_or cs c.args.client c.index-clients-client.result in
    let many = c.requires.sixteen in
    let lt = c.requires.client in
    let within : c.args.client < length cs = omega (arith, many, lt) in
    let was_is : was ≡ slice_index_or cs c.args.client was = ap (λ (d : Client). slice_index_or cs c.args.client d) c.index-clients-client.is in
    let e = c.settle.ensures in
    noted_settled cs c.args.client was _ within was_is (g.S.Slots.state c.args.slots.now) (g.S.Slots.state c.settle.new.slots) c.args.places.now c.settle.new.places
    (free_in (heap_items c.args.free.now.back) c.args.free.now.end) (free_in (heap_items c.settle.new.free.back) c.settle.new.free.end) refl refl refl
    e.looked.rests (e.known fine) (e.freed fine) (e.exact fine) (e.touched fine) (e.all fine) (e.none fine) e.long c.requires.noted

pub returns-clause-clients : goal.returns-clause-clients
returns-clause-clients g c =
    let cs = c.args.clients.now in
    let was = slice_index_or cs c.args.client c.index-clients-client.result in
    let many = c.requires.sixteen in
    let lt = c.requires.client in
    same_set cs c.args.client was _ (omega (arith, many, lt)) (ap (λ (d : Client). slice_index_or cs c.args.client d) c.index-clients-client.is) refl refl refl

pub returns-clause-none : goal.returns-clause-none
returns-clause-none g c = on_fine c.settle.result c.settle.ensures.none
