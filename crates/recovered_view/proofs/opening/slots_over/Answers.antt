use Rattle.std.proofs.Common.{◌≡◌, ◌*◌, ◌<◌, ◌≤◌, ◌^◌, ℕ, List, length, Bool, true, IsTrue, sym, ◌∙◌, ap, subst}
use Rattle.storage.specs.declared.slots.Undo.{Undo}
use Rattle.storage.specs.Slots.{wrote, undone}
use Rattle.log_meaning.specs.steps.Steps.{Image}
use Rattle.log_meaning.specs.Images.{slot_of}
use Rattle.recovered_view.specs.View.{slot_in}
use Rattle.recovered_view.proofs.Loaded.{all_read, over_these, recovers_to}
use Rattle.recovered_view.proofs.opening.slots_over.Goals as goal

pub returns-clause-recovers : goal.returns-clause-recovers
returns-clause-recovers g c = λ known read_as.
    let seen = g.D.Disk.seen c.args.disk.now in
    let area = seen 0 in
    let rest = c.length.ensures.rest in
    let items = c.in_ok-slots.slots.items in
    let known1 : IsTrue (g.D.Disk.observable c.length.new.self) = subst (λ (b : Bool). IsTrue b) (sym rest.same_observable) known in
    let read : (j : ℕ) → j < c.in-Some.count → slot_in items j ≡ slot_of area j = λ j lt. c.in_ok-slots.ensures.bytes known1 j lt ∙ ap (λ (i : Image). slot_of (i 0) j) (rest.same known) in
    let whole : length area ≤ 256 * c.in-Some.count = subst (λ (n : ℕ). n ≤ 256 * c.in-Some.count) (c.in_ok-length.ensures.length known) c.in-Some.ensures.all in
    recovers_to seen c.args.log.now.area c.args.log.now.generation read_as.notes (slot_in c.put_slots.new.slots.items) read_as.log.newest read_as.log.holds (λ k.
    over_these c.args.log.now.slots.items items c.put_slots.new.slots.items (slot_of area) (all_read items area c.in-Some.count c.in_ok-slots.ensures.count whole read)
    (λ j. c.in_ok-put_slots.ensures.undone j ∙ ap (λ (l : List Undo). undone l (slot_in items) j) c.deref.ensures.value) k
    ∙ read_as.are.are (slot_of area) k)

pub put_slots-requires-clause-small : goal.put_slots-requires-clause-small
put_slots-requires-clause-small g c = subst (λ (l : List Undo). (s : ℕ) → wrote l s ≡ true → s < 2 ^ 20) (sym c.deref.ensures.value) c.args.log.now.small
