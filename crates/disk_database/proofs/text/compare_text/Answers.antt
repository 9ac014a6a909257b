-- Another text, and what the slots hold with it.
use Rattle.std.proofs.Common.{◌≢◌, ℕ, List, rules}
use Rattle.byte_rows.proofs.Reading.{looked_still}
use Rattle.disk_database.specs.Inside.{HoldDatabaseWith}
use Rattle.disk_database.proofs.Recognitions.{held_first, stops_then}
use Rattle.disk_database.proofs.text.compare_text.Goals as goal

pub hold_database_with-requires-clause-stops : goal.hold_database_with-requires-clause-stops
hold_database_with-requires-clause-stops g c =
    stops_then _ _ _ _ (looked_still _ _ _ _ _ (λ e. cc e) c.in-Ok-Some.ensures.looked) c.requires.can (g.met.S.Slots.stop_known c.stored_text.new.slots) (g.met.S.Slots.since_past c.args.slots) c.requires.stops

pub returns-in-Ok-true-clause-refused : goal.returns-in-Ok-true-clause-refused
returns-in-Ok-true-clause-refused g c =
    let other : c.in-Ok-Some.stored ≢ c.in-Ok.given = search rules in
    let yes = rw (c.as_slice-3.ensures) at c.in-Ok-true.ensures.yes in (
      c.in-Ok.ensures,
      other,
      held_first _ _ _ _ (looked_still _ _ _ _ _ (λ e. cc e) c.in-Ok-Some.ensures.looked) (λ (reads : ℕ → List ℕ). HoldDatabaseWith c.in-Ok-Some.stored reads) (yes c.in-Ok-true.field-0-test),
    )
