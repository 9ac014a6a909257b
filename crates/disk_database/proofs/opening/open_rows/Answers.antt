-- A disk that is judged, and then recovered.
use Rattle.std.proofs.Common.{sym, subst}
use Rattle.abl_values.specs.Schema.{canonical_text}
use Rattle.database_layout.specs.stored_text.Held.{HoldText}
use Rattle.disk_database.specs.Parts.{LeaveUnused}
use Rattle.disk_database.proofs.Judgements.{back_before, back_untouched, image_before, known_then, opened_before, read_then, recovers_then, refused_unjudged}
use Rattle.disk_database.proofs.Recognitions.{if_err_map, if_ok_map}
use Rattle.disk_database.proofs.opening.open_rows.Goals as goal

pub recovered_rows-requires-clause-images : goal.recovered_rows-requires-clause-images
recovered_rows-requires-clause-images g c = λ image there. c.requires.images image (image_before _ _ _ _ _ _ _ _ c.in-Ok.ensures.rest image there)

pub recovered_rows-requires-clause-recovers : goal.recovered_rows-requires-clause-recovers
recovered_rows-requires-clause-recovers g c = recovers_then _ _ _ _ _ _ _ _ c.in-Ok.ensures.rest _ c.in-Ok.ensures.recovers

pub recovered_rows-requires-clause-log : goal.recovered_rows-requires-clause-log
recovered_rows-requires-clause-log g c = read_then _ _ _ _ _ _ _ _ c.in-Ok.ensures.rest _ _ _ c.in-Ok.ensures.log

pub returns-in-Ok-clause-opened : goal.returns-in-Ok-clause-opened
returns-in-Ok-clause-opened g c = if_ok_map c.recovered_rows.result _ _ (λ r opened. opened_before _ _ _ _ _ _ _ _ c.in-Ok.ensures.rest _ _ opened) c.recovered_rows.ensures.opened

pub returns-in-Ok-clause-text : goal.returns-in-Ok-clause-text
returns-in-Ok-clause-text g c =
    if_ok_map c.recovered_rows.result _ _ (λ r same known. subst (λ x. HoldText x (canonical_text c.args.schema)) (sym (same (known_then _ _ _ _ _ _ _ _ c.in-Ok.ensures.rest known))) c.in-Ok.ensures.judged.text) c.recovered_rows.ensures.same

pub returns-in-Ok-clause-unused : goal.returns-in-Ok-clause-unused
returns-in-Ok-clause-unused g c =
    if_ok_map c.recovered_rows.result _ _ (λ r same known. subst (LeaveUnused c.args.schema) (sym (same (known_then _ _ _ _ _ _ _ _ c.in-Ok.ensures.rest known))) c.in-Ok.ensures.judged.unused) c.recovered_rows.ensures.same

pub returns-in-Ok-clause-refused : goal.returns-in-Ok-clause-refused
returns-in-Ok-clause-refused g c =
    if_err_map c.recovered_rows.result _ _ (λ e late. refused_unjudged c.args.schema (g.D.Disk.observable c.args.disk) (g.D.Disk.seen c.args.disk) e.0 late) c.recovered_rows.ensures.late

pub returns-in-Ok-clause-untouched : goal.returns-in-Ok-clause-untouched
returns-in-Ok-clause-untouched g c = if_err_map c.recovered_rows.result _ _ (λ e late judged. absurd (late judged)) c.recovered_rows.ensures.late

pub returns-in-Ok-clause-back : goal.returns-in-Ok-clause-back
returns-in-Ok-clause-back g c = if_err_map c.recovered_rows.result _ _ (λ e back. back_before _ _ _ _ _ _ _ _ c.in-Ok.ensures.rest _ _ _ back) c.recovered_rows.ensures.back

pub returns-in-Err-clause-back : goal.returns-in-Err-clause-back
returns-in-Err-clause-back g c = back_untouched _ _ _ _ _ _ _ _ c.in-Err.ensures.rest (g.met.D.Disk.image_known c.judged_rows.new.disk)
