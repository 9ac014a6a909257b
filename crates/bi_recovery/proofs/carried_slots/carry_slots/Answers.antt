use Rattle.std.proofs.Common.{◌≡◌, ◌≢◌, ℕ, ◌+◌, ◌*◌, ◌≤◌, List, length, Bool, IsTrue, refl, sym, ◌∙◌, ap, subst, arith, length-append}
use Rattle.storage.specs.Slots.{undone}
use Rattle.log_meaning.specs.steps.Steps.{Image, Run}
use Rattle.log_meaning.proofs.StepsLemmas.Runs.{started, joined, stayed, traced}
use Rattle.log_meaning.specs.declared.note.Note.TheVariants.{Change as Changed}
use Rattle.log_meaning.specs.Bytes.{note_bytes, IsNote}
use Rattle.log_meaning.specs.Images.{slot_of}
use Rattle.bi_log.specs.Buffer.{content}
use Rattle.bi_log.specs.Generations.{IsClosed, AfterGate}
use Rattle.bi_log.proofs.Preparing.{after_none, after_twice}
use Rattle.bi_log.proofs.NoteBytes.{length-change}
use Rattle.bi_log.specs.Carrying.{Carries}
use Rattle.bi_log.specs.Lengths.{WithinLog}
use Rattle.bi_log.proofs.Lengths.{run_none, run_more, run_twice}
use Rattle.bi_recovery.specs.Carried.{stills}
use Rattle.bi_recovery.proofs.Carrying.{carries_note, carries_stay, carries_start, carries_end, closed_step}
use Rattle.bi_recovery.proofs.carried_slots.carry_slots.Goals as goal

then_after : (was mid now : ℕ) (before between after : ℕ → Image → Type 0) (area : ℕ) → Run was mid before between (AfterGate area) → Run mid now between after (AfterGate area) → Run was now before after (AfterGate area)
then_after was mid now before between after area one two = joined _ _ _ _ _ _ (AfterGate area) (AfterGate area) (AfterGate area) one two (λ d image there s. s) (λ d image there m s. s) (λ d e image there x m y. after_twice area d e image x y)

closed_run : (was now : ℕ) (before after : ℕ → Image → Type 0) (area : ℕ) → Run was now before after (AfterGate area) → ((image : Image) → before was image → IsClosed (image area)) → (image : Image) → after now image → IsClosed (image area)
closed_run was now before after area run closed image left = let h = traced _ _ _ _ (AfterGate area) run (λ d. after_none area d) image left in closed_step area (h.0) image (h.2) (closed (h.0) (h.1))

-- where few slots are carried, one batch more stays below the most bytes
room_end : (gate long n count : ℕ) → 20 * gate + 21 * long ≤ 640 + 11025 * n → n ≤ count → count ≤ 300000 → gate + 6 + long ≤ 167772160
room_end gate long n count near within few = omega (arith, near, within, few)

pub slots-init : goal.slots-init
slots-init g c = record {
  within = omega arith;
  same_count = refl;
  same_area = refl;
  same_slots = refl;
  low = omega arith;
  place = (let e = ap (length {A = ℕ}) c.in_ok-buffer.ensures.empty in omega (arith, e));
  near = (let e = ap (length {A = ℕ}) c.in_ok-buffer.ensures.empty in omega (arith, e));
  longer = λ few. run_none _ _ 167772160 (λ m image left. (g.met.D.Disk.image_known c.args.disk.now m image left).past);
  same_observable = refl;
  time = started _ _ (AfterGate c.args.area) (λ m image left. (g.met.D.Disk.image_known c.args.disk.now m image left).past);
  failures = refl;
  closed = c.requires.closed;
  carries = λ known generation prepared. carries_start _ c.args.area c.in_ok-buffer.buffer generation (undone c.args.slots.now (slot_of (g.D.Disk.seen c.args.disk.now 0))) c.in_ok-buffer.ensures.empty prepared;
  seen = λ known k other. refl;
}

pub make_room-requires : goal.make_room-requires
make_room-requires g c =
    let low = c.slots.invariant.low in
    let place = c.slots.invariant.place in
    let within = c.slots.invariant.within in
    let few = c.requires.other.1 in
    record { area = c.requires.area; gate = omega (arith, low); end = omega (arith, place, within, few); closed = c.slots.invariant.closed }

pub carry_buffer-requires : goal.carry_buffer-requires
carry_buffer-requires g c =
    let low = c.slots.invariant.low in
    let place = c.slots.invariant.place in
    let within = c.slots.invariant.within in
    let few = c.requires.other.1 in
    record { area = c.requires.area; gate = omega (arith, low); end = omega (arith, place, within, few); closed = c.slots.invariant.closed }

pub slots-preserved : goal.slots-preserved
slots-preserved g c =
    let low = c.slots.invariant.low in
    let place = c.slots.invariant.place in
    let few = c.requires.other.1 in
    let some = c.slots-test.true in
    let up = c.in_ok-at.ensures.place.0 in
    let grown = c.in_ok-at.ensures.place.1 in
    let long : length c.in_ok-bytes.bytes ≡ 256 = omega arith in
    let sound : IsNote (Changed (record { tx = 0; slot = c.slots.n; old = c.in_ok-bytes.bytes; new = c.in_ok-bytes.bytes })) = (omega arith, omega (arith, some, few), long, long) in
    let size = length-change (record { tx = 0; slot = c.slots.n; old = c.in_ok-bytes.bytes; new = c.in_ok-bytes.bytes }) sound in
    let after_room : Run _ _ _ _ (AfterGate c.args.area) = then_after _ _ _ _ _ _ c.args.area c.slots.invariant.time c.make_room.ensures.time in
    record {
      within = omega (arith, some);
      same_count = refl;
      same_area = refl;
      same_slots = refl;
      low = omega (arith, low, up);
      place = omega (arith, place, grown, ap (length {A = ℕ}) c.push.ensures, length-append (content c.make_room.new.buffer) (note_bytes (Changed (record { tx = 0; slot = c.slots.n; old = c.in_ok-bytes.bytes; new = c.in_ok-bytes.bytes }))), size);
      near = (let near = c.slots.invariant.near in let moved = c.in_ok-at.ensures.near in omega (arith, near, moved, ap (length {A = ℕ}) c.push.ensures, length-append (content c.make_room.new.buffer) (note_bytes (Changed (record { tx = 0; slot = c.slots.n; old = c.in_ok-bytes.bytes; new = c.in_ok-bytes.bytes }))), size));
      longer = λ short. run_twice _ _ _ _ _ _ 167772160
          (run_twice _ _ _ _ _ _ 167772160 (c.slots.invariant.longer short) (run_more _ _ _ _ 167772160 _ (room_end c.slots.gate (length (content c.slots.buffer)) c.slots.n c.args.count c.slots.invariant.near c.slots.invariant.within short) c.make_room.ensures.within))
          (stayed _ _ _ _ _ _ _ _ (WithinLog 167772160) c.slot_bytes.ensures.rest (λ m image left. (g.met.D.Disk.image_known c.make_room.new.disk m image left).past));
      same_observable = c.slot_bytes.ensures.rest.same_observable ∙ c.make_room.ensures.same_observable ∙ c.slots.invariant.same_observable;
      time = then_after _ _ _ _ _ _ c.args.area after_room (stayed _ _ _ _ _ _ _ _ (AfterGate c.args.area) c.slot_bytes.ensures.rest (λ m image left. (g.met.D.Disk.image_known c.make_room.new.disk m image left).past));
      failures = c.in_ok-bytes.ensures.cause.stays refl ∙ c.in_ok-at.ensures.cause.stays refl ∙ c.slots.invariant.failures;
      closed = λ image left. closed_run _ _ _ _ c.args.area c.make_room.ensures.time c.slots.invariant.closed image (subst (λ (m : ℕ). g.D.Disk.left c.make_room.new.disk m image) c.slot_bytes.ensures.rest.moment (c.slot_bytes.ensures.rest.nothing_else _ image left));
      carries = λ known generation prepared.
          let known1 : IsTrue (g.D.Disk.observable c.slots.disk) = subst (λ (b : Bool). IsTrue b) (sym c.slots.invariant.same_observable) known in
          let known2 : IsTrue (g.D.Disk.observable c.make_room.new.disk) = subst (λ (b : Bool). IsTrue b) (sym c.make_room.ensures.same_observable) known1 in
          let other : 0 ≢ c.args.area = (λ is. let some_area = c.requires.other.0 in omega (arith, is, some_area)) in
          let same : g.D.Disk.seen c.make_room.new.disk 0 ≡ g.D.Disk.seen c.args.disk.now 0 = c.make_room.ensures.seen known1 0 other ∙ c.slots.invariant.seen known 0 other in
          let is : c.in_ok-bytes.bytes ≡ undone c.args.slots.now (slot_of (g.D.Disk.seen c.args.disk.now 0)) c.slots.n = c.in_ok-bytes.ensures.bytes known2 ∙ ap (λ (l : List ℕ). undone c.args.slots.now (slot_of l) c.slots.n) same in
          carries_note _ c.args.area c.in_ok-at.at c.make_room.new.buffer c.push.new.self generation (undone c.args.slots.now (slot_of (g.D.Disk.seen c.args.disk.now 0))) c.slots.n (Changed (record { tx = 0; slot = c.slots.n; old = c.in_ok-bytes.bytes; new = c.in_ok-bytes.bytes }))
          (carries_stay _ _ _ _ _ _ _ _ c.args.area c.in_ok-at.at c.make_room.new.buffer generation _ c.slot_bytes.ensures.rest (c.in_ok-at.ensures.ok generation _ (c.slots.invariant.carries known generation prepared)))
          c.push.ensures (ap (λ (b : List ℕ). Changed (record { tx = 0; slot = c.slots.n; old = b; new = b })) is) sound;
      seen = λ known k other.
          let known1 : IsTrue (g.D.Disk.observable c.slots.disk) = subst (λ (b : Bool). IsTrue b) (sym c.slots.invariant.same_observable) known in
          let known2 : IsTrue (g.D.Disk.observable c.make_room.new.disk) = subst (λ (b : Bool). IsTrue b) (sym c.make_room.ensures.same_observable) known1 in
          ap (λ (i : Image). i k) (c.slot_bytes.ensures.rest.same known2) ∙ c.make_room.ensures.seen known1 k other ∙ c.slots.invariant.seen known k other;
    }

pub returns-in_err-buffer-clause-time : goal.returns-in_err-buffer-clause-time
returns-in_err-buffer-clause-time g c = started _ _ (AfterGate c.args.area) (λ m image left. (g.met.D.Disk.image_known c.args.disk.now m image left).past)

pub returns-in_err-at-clause-time : goal.returns-in_err-at-clause-time
returns-in_err-at-clause-time g c = then_after _ _ _ _ _ _ c.args.area c.slots.invariant.time c.make_room.ensures.time

pub returns-in_err-bytes-clause-time : goal.returns-in_err-bytes-clause-time
returns-in_err-bytes-clause-time g c = then_after _ _ _ _ _ _ c.args.area (then_after _ _ _ _ _ _ c.args.area c.slots.invariant.time c.make_room.ensures.time)
    (stayed _ _ _ _ _ _ _ _ (AfterGate c.args.area) c.slot_bytes.ensures.rest (λ m image left. (g.met.D.Disk.image_known c.make_room.new.disk m image left).past))

pub returns-in_err-next-clause-time : goal.returns-in_err-next-clause-time
returns-in_err-next-clause-time g c = then_after _ _ _ _ _ _ c.args.area c.slots.invariant.time c.carry_buffer.ensures.time

pub returns-clause-time : goal.returns-clause-time
returns-clause-time g c = then_after _ _ _ _ _ _ c.args.area c.slots.invariant.time c.carry_buffer.ensures.time

pub returns-clause-ok : goal.returns-clause-ok
returns-clause-ok g c = λ known generation prepared.
    let within = c.slots.invariant.within in
    let ended = c.slots-test.false in
    let all : c.slots.n ≡ c.args.count = omega (arith, within, ended) in
    carries_end _ c.args.area c.in_ok-next.next c.carry_buffer.new.buffer generation _ c.in_ok-next.ensures.empty
    (subst (λ (n : ℕ). Carries (g.D.Disk.left c.carry_buffer.new.disk (g.D.Disk.time c.carry_buffer.new.disk)) c.args.area c.in_ok-next.next c.carry_buffer.new.buffer generation (stills (undone c.args.slots.now (slot_of (g.D.Disk.seen c.args.disk.now 0))) n)) all
    (c.in_ok-next.ensures.ok generation _ (c.slots.invariant.carries known generation prepared)))

pub returns-clause-seen : goal.returns-clause-seen
returns-clause-seen g c = λ known k other.
    let known1 : IsTrue (g.D.Disk.observable c.slots.disk) = subst (λ (b : Bool). IsTrue b) (sym c.slots.invariant.same_observable) known in
    c.carry_buffer.ensures.seen known1 k other ∙ c.slots.invariant.seen known k other

pub returns-in_err-buffer-clause-within : goal.returns-in_err-buffer-clause-within
returns-in_err-buffer-clause-within g c = λ short. run_none _ _ 167772160 (λ m image left. (g.met.D.Disk.image_known c.args.disk.now m image left).past)

pub returns-in_err-at-clause-within : goal.returns-in_err-at-clause-within
returns-in_err-at-clause-within g c = λ short. run_twice _ _ _ _ _ _ 167772160 (c.slots.invariant.longer short)
    (run_more _ _ _ _ 167772160 _ (room_end c.slots.gate (length (content c.slots.buffer)) c.slots.n c.args.count c.slots.invariant.near c.slots.invariant.within short) c.make_room.ensures.within)

pub returns-in_err-bytes-clause-within : goal.returns-in_err-bytes-clause-within
returns-in_err-bytes-clause-within g c = λ short. run_twice _ _ _ _ _ _ 167772160
    (run_twice _ _ _ _ _ _ 167772160 (c.slots.invariant.longer short) (run_more _ _ _ _ 167772160 _ (room_end c.slots.gate (length (content c.slots.buffer)) c.slots.n c.args.count c.slots.invariant.near c.slots.invariant.within short) c.make_room.ensures.within))
    (stayed _ _ _ _ _ _ _ _ (WithinLog 167772160) c.slot_bytes.ensures.rest (λ m image left. (g.met.D.Disk.image_known c.make_room.new.disk m image left).past))

pub returns-in_err-next-clause-within : goal.returns-in_err-next-clause-within
returns-in_err-next-clause-within g c = λ short. run_twice _ _ _ _ _ _ 167772160 (c.slots.invariant.longer short)
    (run_more _ _ _ _ 167772160 _ (room_end c.slots.gate (length (content c.slots.buffer)) c.slots.n c.args.count c.slots.invariant.near c.slots.invariant.within short) c.carry_buffer.ensures.within)

pub returns-clause-within : goal.returns-clause-within
returns-clause-within g c = λ short. run_twice _ _ _ _ _ _ 167772160 (c.slots.invariant.longer short)
    (run_more _ _ _ _ 167772160 _ (room_end c.slots.gate (length (content c.slots.buffer)) c.slots.n c.args.count c.slots.invariant.near c.slots.invariant.within short) c.carry_buffer.ensures.within)
