use Rattle.std.proofs.Common.{◌≡◌, ◌<◌, inl, inr, ℕ, List, length, slice_set, sym, ◌∙◌, ap, subst, arith}
use Rattle.std.proofs.lemmas.Bool.{cases_eq}
use Rattle.storage.specs.Disk.{overlaid}
use Rattle.mem_disk.specs.declared.call.Effect.TheVariants.{Written}
use Rattle.mem_disk.specs.Notes.{Note, notes_of, held, bytes_in}
use Rattle.mem_disk.specs.Crash.{area_of}
use Rattle.mem_disk.proofs.Record.{spent_more, room_at, room_set}
use Rattle.mem_disk.proofs.Moments.{seen_here, seen_elsewhere, bytes_at, bytes_set_same, bytes_set_other}
use Rattle.mem_disk.proofs.mem_disk.MemDisk.put.Goals as goal

pub invariant_of-self-clause-agrees : goal.invariant_of-self-clause-agrees
invariant_of-self-clause-agrees c =
    let d = c.args.self.now in
    let first = area_of d.first in
    let notes = notes_of d.pool.items d.calls.items in
    let n : Note = record { area = c.args.area; at = c.args.at; bytes = c.args.bytes.now; effect = Written } in
    let within : c.args.area < length d.current.items = omega (arith, d.three, c.requires.area) in
    let old = c.index_mut-target.result.now in
    let v = c.overlay.new.area in
    let at : bytes_in d.current.items c.args.area ≡ old.items = bytes_at d.current.items c.args.area old within c.index_mut-target.ensures.value in
    let laid : v.items ≡ overlaid c.args.at c.args.bytes.now old.items = rw c.unwrap.ensures at c.overlay.ensures.ok in
    let more = c.note.ensures.notes in
    let now = notes_of c.note.new.pool.items c.note.new.calls.items in
    λ k. elim (cases_eq k c.args.area) [
      | inl e ↦ subst (λ (j : ℕ). bytes_in (slice_set d.current.items c.args.area v) j ≡ (held first now j).seen) (sym e)
          (bytes_set_same d.current.items c.args.area v within ∙ laid ∙ ap (λ (l : List ℕ). overlaid c.args.at c.args.bytes.now l) (sym at ∙ d.agrees c.args.area) ∙ sym (seen_here first notes n) ∙ sym (ap (λ (l : List Note). (held first l c.args.area).seen) more))
      | inr ne ↦ bytes_set_other d.current.items c.args.area k v ne ∙ d.agrees k ∙ sym (seen_elsewhere first notes n k ne) ∙ sym (ap (λ (l : List Note). (held first l k).seen) more)
    ]

pub invariant_of-self-clause-spent : goal.invariant_of-self-clause-spent
invariant_of-self-clause-spent c =
    let more = spent_more _ _ _ c.note.ensures.notes in
    omega (arith, more, c.note.ensures.pool, c.args.self.now.spent)

pub invariant_of-self-clause-areas_room : goal.invariant_of-self-clause-areas_room
invariant_of-self-clause-areas_room c =
    let d = c.args.self.now in
    let room = room_at d.room.length d.current.items c.args.area _ d.areas_room (omega (arith, d.three, c.requires.area)) c.index_mut-target.ensures.value in
    room_set d.room.length d.current.items c.args.area c.overlay.new.area d.areas_room (omega (arith, room, c.overlay.ensures.capacity))

pub unwrap-requires : goal.unwrap-requires
unwrap-requires c =
    let d = c.args.self.now in
    let room = room_at d.room.length d.current.items c.args.area _ d.areas_room (omega (arith, d.three, c.requires.area)) c.index_mut-target.ensures.value in
    c.overlay.ensures.succeeds (omega (arith, room, c.requires.length))
