use Rattle.std.proofs.Common.{◌∙◌, ℕ, Bool, List, [], IsTrue, ap, subst, arith}
use Rattle.log_meaning.specs.declared.note.Change.{Change}
use Rattle.log_meaning.specs.declared.note.Note.TheVariants.{Change as Changed}
use Rattle.log_meaning.specs.Bytes.{IsNote}
use Rattle.bi_log.proofs.Lengths.{run_more}
use Rattle.bi_recovery.proofs.Lengths.{none_then}
use Rattle.slot_txn.proofs.Torn.{few_bytes, noted_run, noted_slot}
use Rattle.slot_txn.proofs.torn_slot.note_slot.Goals as goal

pub returns-in_err-flush-clause-time : goal.returns-in_err-flush-clause-time
returns-in_err-flush-clause-time g c =
    let ch : Change = record { tx = 0; slot = c.args.slot; old = c.in_ok-bytes.bytes; new = c.in_ok-bytes.bytes } in
    let sound : IsNote (Changed ch) = (omega arith, c.requires.slot, omega arith, omega arith) in
    noted_run _ _ (g.D.Disk.seen c.args.disk.now) _ _ _ _ _ _ _ c.args.opened.now.area c.args.opened.now.generation c.args.opened.now.extent c.args.opened.now.gate c.args.slot c.append.new.self c.flush.new.self (Changed ch)
    c.slot_bytes.ensures.rest (λ m image left. (g.met.D.Disk.image_known c.args.disk.now m image left).past) (λ known. g.met.D.Disk.reads_left c.args.disk.now known)
    c.requires.log c.requires.gate (λ p. c.append.ensures.place.0 ∙ c.in_ok-log.ensures.place.0 ∙ c.log_area.ensures.same p) (c.append.ensures.place.1 ∙ c.in_ok-log.ensures.place.1 ∙ c.requires.gate)
    (c.append.ensures.notes [] c.in_ok-log.ensures.notes sound) (λ known. ap (λ (b : List ℕ). Changed (record { tx = 0; slot = c.args.slot; old = b; new = b })) (c.in_ok-bytes.ensures.bytes known))
    (λ m image left. subst (λ (b : Bool). IsTrue b) (c.flush.ensures.same_observable ∙ c.slot_bytes.ensures.rest.same_observable) (g.met.D.Disk.image_known c.flush.new.disk m image left).same_observable)
    c.flush.ensures.past c.flush.ensures.time

pub returns-clause-time : goal.returns-clause-time
returns-clause-time g c =
    let ch : Change = record { tx = 0; slot = c.args.slot; old = c.in_ok-bytes.bytes; new = c.in_ok-bytes.bytes } in
    let sound : IsNote (Changed ch) = (omega arith, c.requires.slot, omega arith, omega arith) in
    noted_run _ _ (g.D.Disk.seen c.args.disk.now) _ _ _ _ _ _ _ c.args.opened.now.area c.args.opened.now.generation c.args.opened.now.extent c.args.opened.now.gate c.args.slot c.append.new.self c.flush.new.self (Changed ch)
    c.slot_bytes.ensures.rest (λ m image left. (g.met.D.Disk.image_known c.args.disk.now m image left).past) (λ known. g.met.D.Disk.reads_left c.args.disk.now known)
    c.requires.log c.requires.gate (λ p. c.append.ensures.place.0 ∙ c.in_ok-log.ensures.place.0 ∙ c.log_area.ensures.same p) (c.append.ensures.place.1 ∙ c.in_ok-log.ensures.place.1 ∙ c.requires.gate)
    (c.append.ensures.notes [] c.in_ok-log.ensures.notes sound) (λ known. ap (λ (b : List ℕ). Changed (record { tx = 0; slot = c.args.slot; old = b; new = b })) (c.in_ok-bytes.ensures.bytes known))
    (λ m image left. subst (λ (b : Bool). IsTrue b) (c.flush.ensures.same_observable ∙ c.slot_bytes.ensures.rest.same_observable) (g.met.D.Disk.image_known c.flush.new.disk m image left).same_observable)
    c.flush.ensures.past c.flush.ensures.time

pub returns-clause-noted : goal.returns-clause-noted
returns-clause-noted g c = λ known.
    let ch : Change = record { tx = 0; slot = c.args.slot; old = c.in_ok-bytes.bytes; new = c.in_ok-bytes.bytes } in
    let sound : IsNote (Changed ch) = (omega arith, c.requires.slot, omega arith, omega arith) in
    noted_slot _ _ (g.D.Disk.seen c.args.disk.now) _ _ _ (g.D.Disk.time c.flush.new.disk) _ _ (g.D.Disk.left c.flush.new.disk) c.args.opened.now.area c.args.opened.now.generation c.args.opened.now.extent c.args.opened.now.gate c.args.slot c.append.new.self c.flush.new.self (Changed ch)
    c.slot_bytes.ensures.rest (λ m image left. (g.met.D.Disk.image_known c.args.disk.now m image left).past) (λ k. g.met.D.Disk.reads_left c.args.disk.now k)
    c.requires.log c.requires.gate (λ p. c.append.ensures.place.0 ∙ c.in_ok-log.ensures.place.0 ∙ c.log_area.ensures.same p) (c.append.ensures.place.1 ∙ c.in_ok-log.ensures.place.1 ∙ c.requires.gate)
    (c.append.ensures.notes [] c.in_ok-log.ensures.notes sound) (λ k. ap (λ (b : List ℕ). Changed (record { tx = 0; slot = c.args.slot; old = b; new = b })) (c.in_ok-bytes.ensures.bytes k))
    known c.in_ok-flush.ensures.ok c.flush.ensures.area

pub returns-in_err-flush-clause-within : goal.returns-in_err-flush-clause-within
returns-in_err-flush-clause-within g c =
    let ch : Change = record { tx = 0; slot = c.args.slot; old = c.in_ok-bytes.bytes; new = c.in_ok-bytes.bytes } in
    let sound : IsNote (Changed ch) = (omega arith, c.requires.slot, omega arith, omega arith) in
    none_then _ _ _ _ _ _ _ _ _ _ 167772160 c.slot_bytes.ensures.rest (λ m image left. (g.met.D.Disk.image_known c.args.disk.now m image left).past)
    (run_more _ _ _ _ 167772160 _ (few_bytes c.append.new.self ch (c.append.ensures.notes [] c.in_ok-log.ensures.notes sound) sound (c.append.ensures.place.1 ∙ c.in_ok-log.ensures.place.1 ∙ c.requires.gate)) c.flush.ensures.within)

pub returns-clause-within : goal.returns-clause-within
returns-clause-within g c =
    let ch : Change = record { tx = 0; slot = c.args.slot; old = c.in_ok-bytes.bytes; new = c.in_ok-bytes.bytes } in
    let sound : IsNote (Changed ch) = (omega arith, c.requires.slot, omega arith, omega arith) in
    none_then _ _ _ _ _ _ _ _ _ _ 167772160 c.slot_bytes.ensures.rest (λ m image left. (g.met.D.Disk.image_known c.args.disk.now m image left).past)
    (run_more _ _ _ _ 167772160 _ (few_bytes c.append.new.self ch (c.append.ensures.notes [] c.in_ok-log.ensures.notes sound) sound (c.append.ensures.place.1 ∙ c.in_ok-log.ensures.place.1 ∙ c.requires.gate)) c.flush.ensures.within)
