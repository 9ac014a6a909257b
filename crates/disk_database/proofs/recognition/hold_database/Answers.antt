-- What the slots hold after their text was read, they held before.
use Rattle.std.proofs.Common.{ℕ, List}
use Rattle.byte_rows.proofs.Reading.{looked_still}
use Rattle.disk_database.specs.Inside.{HoldDatabase}
use Rattle.disk_database.proofs.Recognitions.{held_first, if_ok_map, stops_then}
use Rattle.disk_database.proofs.recognition.hold_database.Goals as goal

pub hold_database_with-requires-clause-stops : goal.hold_database_with-requires-clause-stops
hold_database_with-requires-clause-stops g c =
    stops_then _ _ _ _ (looked_still _ _ _ _ _ (λ e. cc e) c.in-Ok-Some.ensures.looked) c.requires.can (g.met.S.Slots.stop_known c.stored_text.new.slots) (g.met.S.Slots.since_past c.args.slots) c.requires.stops

pub returns-in-Ok-Some-clause-yes : goal.returns-in-Ok-Some-clause-yes
returns-in-Ok-Some-clause-yes g c =
    if_ok_map c.hold_database_with.result _ _ (λ held yes is. held_first _ _ _ _ (looked_still _ _ _ _ _ (λ e. cc e) c.in-Ok-Some.ensures.looked) HoldDatabase (λ readable. (yes is readable).0)) c.hold_database_with.ensures.yes

pub returns-in-Ok-Some-clause-no : goal.returns-in-Ok-Some-clause-no
returns-in-Ok-Some-clause-no g c =
    if_ok_map c.hold_database_with.result _ _ (λ held no is. held_first _ _ _ _ (looked_still _ _ _ _ _ (λ e. cc e) c.in-Ok-Some.ensures.looked) (λ (reads : ℕ → List ℕ). ¬ HoldDatabase reads) (no is)) c.hold_database_with.ensures.no
