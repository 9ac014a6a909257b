-- The text is held; the rest is what the two tests say.
use Rattle.std.proofs.Common.{ℕ, sym, subst}
use Rattle.byte_rows.specs.Still.{Still}
use Rattle.byte_rows.proofs.Reading.{looked_still}
use Rattle.indexed_store.specs.Opened.{HoldStore}
use Rattle.disk_database.specs.Parts.{AreUnusedLeft}
use Rattle.disk_database.proofs.Recognitions.{database_held, if_ok_map, none_stored, none_unused, readable_then, stops_then}
use Rattle.disk_database.proofs.recognition.hold_database_of.Goals as goal

pub open-requires-clause-stops : goal.open-requires-clause-stops
open-requires-clause-stops g c =
    stops_then _ _ _ _ (looked_still _ _ _ _ _ (λ e. cc e) c.in-Ok-true.ensures.looked) c.requires.can (g.met.S.Slots.stop_known c.are_unused_left.new.slots) (g.met.S.Slots.since_past c.args.slots) c.requires.stops

pub returns-in-Ok-false-clause-no : goal.returns-in-Ok-false-clause-no
returns-in-Ok-false-clause-no g c = λ no readable.
    let reads = (g.S.Slots.state c.args.slots).reads in
    none_unused c.args.schema reads (c.requires.text readable) (λ unused. c.in-Ok-false.ensures.not c.in-Ok-false.field-0-test readable (subst (λ (n : ℕ). AreUnusedLeft n reads) (sym c.in-Some.ensures) unused))

pub returns-in-Ok-clause-yes : goal.returns-in-Ok-clause-yes
returns-in-Ok-clause-yes g c = λ yes.
    database_held _ _ _ _ (looked_still _ _ _ _ _ (λ e. cc e) c.in-Ok-true.ensures.looked) c.args.schema c.in-Some.text c.in-Some.ensures c.soundness.ensures c.requires.held c.requires.text (c.in-Ok-true.ensures.left c.in-Ok-true.field-0-test) c.in-Ok.ensures.opened.held

pub returns-clause-no : goal.returns-clause-no
returns-clause-no g c =
    let a = g.S.Slots.state c.args.slots in
    let b = g.S.Slots.state c.are_unused_left.new.slots in
    let still : Still a b (g.S.Slots.stop c.args.slots) (g.S.Slots.stop c.are_unused_left.new.slots) = looked_still _ _ _ _ _ (λ e. cc e) c.in-Ok-true.ensures.looked in
    if_ok_map c.found.result _ _ (λ held never no readable.
    none_stored c.args.schema a.reads (c.requires.text readable) c.soundness.ensures
    (λ store. c.in-Err-open.ensures.unsound never.1 (readable_then a b _ _ still readable).0 (subst (HoldStore c.args.schema) (sym (still.rests.reads readable)) store))) c.found.ensures
