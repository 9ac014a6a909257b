-- What a disk shows after a call that is recorded, and after one that changes nothing.
use Rattle.std.proofs.Common.{◌≡◌, inl, inr, ℕ, ◌+◌, ◌<◌, ◌≤◌, Bool, true, false, List, [], ◌∷◌, ◌++◌, length, take, min, refl, sym, ◌∙◌, ap, subst, arith, length-append, Vec}
use Rattle.std.proofs.lemmas.Bool.{cases_lt}
use Rattle.std.proofs.lemmas.List.{take_all}
use Rattle.std.specs.declared.alloc.Global.{Global}
use Rattle.storage.specs.Disk.{TornIn, Passes}
use Rattle.mem_disk.specs.declared.call.Effect.TheVariants.{Written, Synced, Nothing}
use Rattle.mem_disk.specs.declared.mem_disk.MemDisk.{MemDisk}
use Rattle.mem_disk.specs.Notes.{Note, Held, spent_by, done, held, LeftBy, Left, bytes_in}
use Rattle.mem_disk.specs.Crash.{is_write}
use Rattle.mem_disk.specs.Laws.{length-notes_of}
use Rattle.mem_disk.specs.Shown.{Shown, shown, seen_of, left_of, Passed, SameHeld}
use Rattle.mem_disk.proofs.Record.{spent_more}
use Rattle.mem_disk.proofs.Moments.{Image, passes, passes_by, torn_not, seen_here, seen_same, still_step, write_step, durable, held_same, written_torn}

-- the record has one note for each moment so far, up to the number of calls that it has room for
pub many_notes : (d : MemDisk) → length (shown d).notes ≡ min d.time d.room.calls
many_notes d = length-notes_of d.pool.items d.calls.items ∙ d.many

-- areas that are the same are torn nowhere
pub torn_same : (area at n : ℕ) {old new : Image} → new ≡ old → TornIn area at n old new
torn_same area at n {old} same = subst (λ (f : Image). TornIn area at n old f) (sym same) (torn_not area at n old)

-- what is read still agrees after a recorded call that is no completed write
pub agrees_more : (areas : List (Vec ℕ Global)) (first : Image) (notes new : List Note) (n : Note) → new ≡ notes ++ n ∷ [] → (n.effect ≡ Written → ⊥) → ((k : ℕ) → bytes_in areas k ≡ (held first notes k).seen) → (k : ℕ) → bytes_in areas k ≡ (held first new k).seen
agrees_more areas first notes new n more not agrees k = agrees k ∙ sym (seen_same first notes n not k) ∙ sym (ap (λ (l : List Note). (held first l k).seen) more)

-- time passes for the new disk as it does for the new notes over the old first areas
moved : {old new : Shown} → Passed old new → (ok : Bool) (step : Image → Image → Type 0) → Passes ok old.time (old.time + 1) (left_of old) (Left old.first new.notes (old.time + 1)) step → Passes ok old.time new.time (left_of old) (left_of new) step
moved {old} {new} passed ok step on =
    subst (λ (x : ℕ). Passes ok old.time x (left_of old) (Left new.first new.notes x) step) (sym passed.time)
    (subst (λ (f : Image). Passes ok old.time (old.time + 1) (left_of old) (Left f new.notes (old.time + 1)) step) (sym passed.first) on)

-- a call that is recorded
module _ {old new : Shown} (passed : Passed old new) (n : Note) (more : new.notes ≡ old.notes ++ n ∷ []) where
  -- each area is what the call makes of it
  pub held_now : (k : ℕ) → held new.first new.notes k ≡ held old.first (old.notes ++ n ∷ []) k
  held_now k = λ j. held (passed.first j) (more j) k

  -- what is read stays, unless the call is a completed write
  pub seen_still : (n.effect ≡ Written → ⊥) → seen_of new ≡ seen_of old
  seen_still not = λ j k. (ap (λ (h : Held). h.seen) (held_now k) ∙ seen_same old.first old.notes n not k) j

  -- what is read of the call's area is what the call makes of it
  pub seen_here_now : seen_of new n.area ≡ (done n (held old.first old.notes n.area)).seen
  seen_here_now = ap (λ (h : Held). h.seen) (held_now n.area) ∙ seen_here old.first old.notes n

  -- a completed write tears its range alone
  pub torn_now : n.effect ≡ Written → TornIn n.area n.at (length n.bytes) (seen_of old) (seen_of new)
  torn_now is = subst (λ (f : Image). TornIn n.area n.at (length n.bytes) (seen_of old) f) (sym (λ j k. (held_now k j).seen)) (written_torn old.first old.notes n is)

  -- where the record has room for the call
  module _ (many : length old.notes ≡ min old.time old.room.calls) (lt : old.time < old.room.calls) where
    -- a moment passes, and what a crash may leave changes by the step of the call
    moves : (ok : Bool) (step : Image → Image → Type 0) → ((image : Image) → LeftBy old.first (old.notes ++ n ∷ []) image → (d : Image) × LeftBy old.first old.notes d × step d image) → Passes ok old.time new.time (left_of old) (left_of new) step
    moves ok step each = moved passed ok step (passes old.first old.notes new.notes old.time (omega (arith, many, lt)) n more ok step each)

    -- a moment passes with a write, which tears its range alone
    pub write_moves : is_write n.effect ≡ true → (ok : Bool) → Passes ok old.time new.time (left_of old) (left_of new) (TornIn n.area n.at (length n.bytes))
    write_moves is ok = moves ok (TornIn n.area n.at (length n.bytes)) (write_step old.first old.notes n is)

    -- a moment passes with a call that is no write, and what a crash may leave stays
    pub still_moves : is_write n.effect ≡ false → (ok : Bool) (step : Image → Image → Type 0) → ((image : Image) → step image image) → Passes ok old.time new.time (left_of old) (left_of new) step
    still_moves is ok step still = moves ok step (still_step old.first old.notes n is step still)

    -- after a completed sync, a crash at its moment leaves what is read
    pub durable_now : n.effect ≡ Synced → (image : Image) → left_of new new.time image → image n.area ≡ seen_of new n.area
    durable_now is image left =
        let size : length new.notes ≤ new.time = (let l = ap length more in let m = length-append old.notes (n ∷ []) in omega (arith, l, m, many, lt, passed.time)) in
        let there : LeftBy old.first (old.notes ++ n ∷ []) image = subst (λ (l : List Note). LeftBy old.first l image) (take_all new.time new.notes size ∙ more) (subst (λ (f : Image). LeftBy f (take new.time new.notes) image) passed.first left.left) in
        durable old.first old.notes n is image there ∙ sym (ap (λ (h : Held). h.seen) (held_now n.area))

-- a call that is recorded as nothing, or for which the record has no room
module _ {old new : Shown} (passed : Passed old new) (area : ℕ) (many : length old.notes ≡ min old.time old.room.calls) (noted : old.time < old.room.calls → new.notes ≡ old.notes ++ record { area = area; at = 0; bytes = []; effect = Nothing } ∷ []) (full : old.room.calls ≤ old.time → new.notes ≡ old.notes) where
  abbrev nothing : Note
  nothing = record { area = area; at = 0; bytes = []; effect = Nothing }

  -- each area is as it was
  pub same_held : SameHeld old new
  same_held k = elim (cases_lt old.time old.room.calls) [
    | inl lt ↦ held_now passed nothing (noted lt) k ∙ held_same old.first old.notes nothing refl k
    | inr le ↦ (λ j. held (passed.first j) (full le j) k)
  ]

  -- what is read stays
  pub same_seen : seen_of new ≡ seen_of old
  same_seen = λ j k. (same_held k j).seen

  -- no byte is spent
  pub same_spent : spent_by new.notes ≡ spent_by old.notes
  same_spent = elim (cases_lt old.time old.room.calls) [
    | inl lt ↦ (let more = spent_more old.notes new.notes nothing (noted lt) in omega (arith, more))
    | inr le ↦ ap (λ (l : List Note). spent_by l) (full le)
  ]

  -- a moment passes, and what a crash may leave stays
  pub same_moves : (step : Image → Image → Type 0) → ((image : Image) → step image image) → Passes false old.time new.time (left_of old) (left_of new) step
  same_moves step still = elim (cases_lt old.time old.room.calls) [
    | inl lt ↦ still_moves passed nothing (noted lt) many lt refl false step still
    | inr le ↦ moved passed false step (passes_by old.first old.notes new.notes old.time false step (omega (arith, many, le)) (full le) still)
  ]
