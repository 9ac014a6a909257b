-- Slots that hold the text, and something where nothing belongs.
use Rattle.std.proofs.Common.{ℕ, sym, subst}
use Rattle.disk_database.specs.Parts.{AreUnusedLeft}
use Rattle.disk_database.proofs.Recognitions.{none_unused, readable_then}
use Rattle.disk_database.proofs.text.test_slots.Goals as goal

pub returns-in-Ok-false-clause-refused : goal.returns-in-Ok-false-clause-refused
returns-in-Ok-false-clause-refused g c = λ readable.
    let a = g.S.Slots.state c.args.slots in
    let held = c.in-Ok.ensures.same in
    let still = c.in-Ok.ensures.still in
    none_unused c.args.schema.now a.reads (held readable)
    (λ unused. c.in-Ok-false.ensures.not c.in-Ok-false.field-0-test (readable_then _ _ _ _ still readable)
    (subst (AreUnusedLeft c.in-Some.text) (sym (still.rests.reads readable)) (subst (λ (n : ℕ). AreUnusedLeft n a.reads) (sym c.in-Some.ensures) unused)))
