use Rattle.std.proofs.Common.{◌≡◌, ◌≢◌, ◌+◌, ◌*◌, ◌≤◌, ◌<◌, ◌++◌, ℕ, List, length, Bool, IsTrue, refl, sym, ◌∙◌, ap, subst, arith, length-append}
use Rattle.std.proofs.lemmas.List.{take_all, append-nil}
use Rattle.log_meaning.specs.steps.Steps.{Image}
use Rattle.log_meaning.proofs.StepsLemmas.Runs.{started, stayed}
use Rattle.storage.specs.declared.slots.Undo.{Undo}
use Rattle.log_meaning.specs.declared.note.Note.TheVariants.{Change as Changed}
use Rattle.log_meaning.specs.Bytes.{note_bytes, IsNote}
use Rattle.log_meaning.specs.Images.{slot_of}
use Rattle.log_meaning.specs.Logged.{carried_of}
use Rattle.bi_log.specs.Buffer.{content}
use Rattle.bi_log.specs.Generations.{AfterGate}
use Rattle.bi_log.specs.Carrying.{Carries}
use Rattle.bi_log.specs.Lengths.{WithinLog}
use Rattle.bi_log.proofs.Lengths.{run_none, run_more, run_twice}
use Rattle.bi_log.proofs.NoteBytes.{length-change}
use Rattle.bi_recovery.proofs.Carrying.{carries_stay}
use Rattle.open_transactions.specs.Clients.{list_in}
use Rattle.checkpoint.proofs.CarriedLemmas.CarriedMore.{carries_write, then_after, closed_run}
use Rattle.checkpoint.proofs.carried.carrying.carry_client.Goals as goal

-- one batch more stays below the most bytes
room_end : (start gate long i count most : ℕ) → 20 * gate + 21 * long ≤ start + 11025 * i → i ≤ count → start + 11025 * count + 120 ≤ 20 * most → gate + 6 + long ≤ most
room_end start gate long i count most near within few = omega (arith, near, within, few)

pub writes-init : goal.writes-init
writes-init g c = record {
  same_area = refl;
  same_client = refl;
  same_number = refl;
  same_transactions = refl;
  all = c.len-count.ensures;
  within = omega arith;
  low = omega arith;
  place = omega arith;
  near = omega arith;
  longer = λ most few. run_none _ _ most (λ m image left. (g.met.D.Disk.image_known c.args.disk.now m image left).past);
  same_observable = refl;
  time = started _ _ (AfterGate c.args.area) (λ m image left. (g.met.D.Disk.image_known c.args.disk.now m image left).past);
  failures = refl;
  closed = c.requires.closed;
  carries = λ known generation notes k. subst (Carries (g.D.Disk.left c.args.disk.now (g.D.Disk.time c.args.disk.now)) c.args.area c.args.first c.args.buffer.now generation) (sym (append-nil notes)) k;
  seen = λ known k other. refl;
}

pub make_room-requires : goal.make_room-requires
make_room-requires g c =
    let i = c.writes.invariant in
    let low = i.low in
    let place = i.place in
    let within = i.within in
    let all = i.all in
    let first = c.requires.first in
    let end = c.requires.end in
    record { area = c.requires.area.1; gate = omega (arith, low, first); end = omega (arith, place, within, all, end); closed = i.closed }

pub writes-preserved : goal.writes-preserved
writes-preserved g c =
    let i = c.writes.invariant in
    let low = i.low in
    let place = i.place in
    let all = i.all in
    let some = c.writes-test.true in
    let lt : c.writes.i < length (list_in c.args.transactions.now.clients.items c.args.client) = omega (arith, all, some) in
    let up = c.in_ok-at.ensures.place.0 in
    let grown = c.in_ok-at.ensures.place.1 in
    let u = c.write_at-write.result in
    let long : length c.in_ok-new.new ≡ 256 = omega arith in
    let old_long : length u.old ≡ 256 = omega arith in
    let sound : IsNote (Changed (record { tx = c.args.number; slot = u.slot; old = u.old; new = c.in_ok-new.new })) = (omega arith, c.write_at-write.ensures.small, old_long, long) in
    let size = length-change (record { tx = c.args.number; slot = u.slot; old = u.old; new = c.in_ok-new.new }) sound in
    record {
      same_area = refl;
      same_client = refl;
      same_number = refl;
      same_transactions = refl;
      all = all;
      within = omega (arith, some);
      low = omega (arith, low, up);
      place = omega (arith, place, grown, ap (length {A = ℕ}) c.push.ensures, length-append (content c.make_room.new.buffer) (note_bytes (Changed (record { tx = c.args.number; slot = u.slot; old = u.old; new = c.in_ok-new.new }))), size);
      near = (let near = i.near in let moved = c.in_ok-at.ensures.near in omega (arith, near, moved, ap (length {A = ℕ}) c.push.ensures, length-append (content c.make_room.new.buffer) (note_bytes (Changed (record { tx = c.args.number; slot = u.slot; old = u.old; new = c.in_ok-new.new }))), size));
      longer = λ most few. run_twice _ _ _ _ _ _ most
          (run_twice _ _ _ _ _ _ most (i.longer most few) (run_more _ _ _ _ most _ (room_end (20 * c.args.first + 21 * length (content c.args.buffer.now)) c.writes.gate (length (content c.writes.buffer)) c.writes.i c.len-count.result most i.near i.within few) c.make_room.ensures.within))
          (stayed _ _ _ _ _ _ _ _ (WithinLog most) c.stored_slot.ensures.rest (λ m image left. (g.met.D.Disk.image_known c.make_room.new.disk m image left).past));
      same_observable = c.stored_slot.ensures.rest.same_observable ∙ c.make_room.ensures.same_observable ∙ i.same_observable;
      time = then_after _ _ _ _ _ _ c.args.area (then_after _ _ _ _ _ _ c.args.area i.time c.make_room.ensures.time) (stayed _ _ _ _ _ _ _ _ (AfterGate c.args.area) c.stored_slot.ensures.rest (λ m image left. (g.met.D.Disk.image_known c.make_room.new.disk m image left).past));
      failures = c.in_ok-new.ensures.cause.stays refl ∙ c.in_ok-at.ensures.cause.stays refl ∙ i.failures;
      closed = λ image left. closed_run _ _ _ _ c.args.area c.make_room.ensures.time i.closed image (subst (λ (m : ℕ). g.D.Disk.left c.make_room.new.disk m image) c.stored_slot.ensures.rest.moment (c.stored_slot.ensures.rest.nothing_else _ image left));
      carries = λ known generation notes k.
          let known1 : IsTrue (g.D.Disk.observable c.writes.disk) = subst (λ (b : Bool). IsTrue b) (sym i.same_observable) known in
          let known2 : IsTrue (g.D.Disk.observable c.make_room.new.disk) = subst (λ (b : Bool). IsTrue b) (sym c.make_room.ensures.same_observable) known1 in
          let other : 0 ≢ c.args.area = (λ is. let some_area = c.requires.area.0 in omega (arith, is, some_area)) in
          let same : g.D.Disk.seen c.make_room.new.disk 0 ≡ g.D.Disk.seen c.args.disk.now 0 = c.make_room.ensures.seen known1 0 other ∙ i.seen known 0 other in
          let is : c.in_ok-new.new ≡ slot_of (g.D.Disk.seen c.args.disk.now 0) u.slot = c.in_ok-new.ensures.bytes known2 ∙ ap (λ (l : List ℕ). slot_of l u.slot) same in
          carries_write _ c.args.area c.in_ok-at.at c.make_room.new.buffer c.push.new.self generation notes c.args.number (slot_of (g.D.Disk.seen c.args.disk.now 0)) (list_in c.args.transactions.now.clients.items c.args.client) c.writes.i u lt c.write_at-write.ensures.value
          (carries_stay _ _ _ _ _ _ _ _ c.args.area c.in_ok-at.at c.make_room.new.buffer generation _ c.stored_slot.ensures.rest (c.in_ok-at.ensures.ok generation _ (i.carries known generation notes k)))
          (subst (λ (b : List ℕ). content c.push.new.self ≡ content c.make_room.new.buffer ++ note_bytes (Changed (record { tx = c.args.number; slot = u.slot; old = u.old; new = b }))) is c.push.ensures)
          (subst (λ (b : List ℕ). IsNote (Changed (record { tx = c.args.number; slot = u.slot; old = u.old; new = b }))) is sound);
      seen = λ known k other.
          let known1 : IsTrue (g.D.Disk.observable c.writes.disk) = subst (λ (b : Bool). IsTrue b) (sym i.same_observable) known in
          let known2 : IsTrue (g.D.Disk.observable c.make_room.new.disk) = subst (λ (b : Bool). IsTrue b) (sym c.make_room.ensures.same_observable) known1 in
          ap (λ (x : Image). x k) (c.stored_slot.ensures.rest.same known2) ∙ c.make_room.ensures.seen known1 k other ∙ i.seen known k other;
    }

pub returns-in_err-at-clause-time : goal.returns-in_err-at-clause-time
returns-in_err-at-clause-time g c = then_after _ _ _ _ _ _ c.args.area c.writes.invariant.time c.make_room.ensures.time

pub returns-in_err-new-clause-time : goal.returns-in_err-new-clause-time
returns-in_err-new-clause-time g c = then_after _ _ _ _ _ _ c.args.area (then_after _ _ _ _ _ _ c.args.area c.writes.invariant.time c.make_room.ensures.time)
    (stayed _ _ _ _ _ _ _ _ (AfterGate c.args.area) c.stored_slot.ensures.rest (λ m image left. (g.met.D.Disk.image_known c.make_room.new.disk m image left).past))

pub returns-clause-ok : goal.returns-clause-ok
returns-clause-ok g c = λ known generation notes k.
    let i = c.writes.invariant in
    let all = i.all in
    let ended = c.writes-test.false in
    let list = list_in c.args.transactions.now.clients.items c.args.client in
    subst (λ (l : List Undo). Carries (g.D.Disk.left c.writes.disk (g.D.Disk.time c.writes.disk)) c.args.area c.writes.gate c.writes.buffer generation (notes ++ carried_of c.args.number (slot_of (g.D.Disk.seen c.args.disk.now 0)) l)) (take_all c.writes.i list (omega (arith, all, ended))) (i.carries known generation notes k)

pub returns-clause-place : goal.returns-clause-place
returns-clause-place g c =
    let i = c.writes.invariant in
    let low = i.low in
    let place = i.place in
    let within = i.within in
    let all = i.all in
    (omega (arith, low), omega (arith, place, within, all))

pub returns-in_err-at-clause-within : goal.returns-in_err-at-clause-within
returns-in_err-at-clause-within g c = λ most few. run_twice _ _ _ _ _ _ most (c.writes.invariant.longer most (let all = c.writes.invariant.all in omega (arith, all, few))) (run_more _ _ _ _ most _ (room_end (20 * c.args.first + 21 * length (content c.args.buffer.now)) c.writes.gate (length (content c.writes.buffer)) c.writes.i (length (list_in c.args.transactions.now.clients.items c.args.client)) most c.writes.invariant.near (let all = c.writes.invariant.all in let within = c.writes.invariant.within in omega (arith, all, within)) few) c.make_room.ensures.within)

pub returns-in_err-new-clause-within : goal.returns-in_err-new-clause-within
returns-in_err-new-clause-within g c = λ most few. run_twice _ _ _ _ _ _ most (run_twice _ _ _ _ _ _ most (c.writes.invariant.longer most (let all = c.writes.invariant.all in omega (arith, all, few))) (run_more _ _ _ _ most _ (room_end (20 * c.args.first + 21 * length (content c.args.buffer.now)) c.writes.gate (length (content c.writes.buffer)) c.writes.i (length (list_in c.args.transactions.now.clients.items c.args.client)) most c.writes.invariant.near (let all = c.writes.invariant.all in let within = c.writes.invariant.within in omega (arith, all, within)) few) c.make_room.ensures.within))
    (stayed _ _ _ _ _ _ _ _ (WithinLog most) c.stored_slot.ensures.rest (λ m image left. (g.met.D.Disk.image_known c.make_room.new.disk m image left).past))

pub returns-clause-within : goal.returns-clause-within
returns-clause-within g c = λ most few. c.writes.invariant.longer most (let all = c.writes.invariant.all in omega (arith, all, few))

pub returns-clause-near : goal.returns-clause-near
returns-clause-near g c =
    let near = c.writes.invariant.near in
    let within = c.writes.invariant.within in
    let all = c.writes.invariant.all in
    omega (arith, near, within, all)
