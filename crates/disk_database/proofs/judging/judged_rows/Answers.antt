-- What the recovered slots hold, the disk holds.
use Rattle.std.proofs.Common.{ℕ, List, sym, subst}
use Rattle.log_meaning.specs.Images.{Recovers}
use Rattle.recovered_view.specs.View.{viewed}
use Rattle.disk_database.proofs.Causes.{refused_by_fault, refused_by_text}
use Rattle.disk_database.proofs.Judgements.{readable_at_rest}
use Rattle.disk_database.proofs.judging.judged_rows.Goals as goal

pub returns-in-Ok-rows_of_view-clause-recovers : goal.returns-in-Ok-rows_of_view-clause-recovers
returns-in-Ok-rows_of_view-clause-recovers g c = λ known. subst (λ (x : ℕ → List ℕ). Recovers (g.D.Disk.seen c.args.disk.now) x) (sym c.in-Ok-rows_of_view.ensures.reads) (c.in-Ok.ensures.recovers known)

pub returns-in-Err-rows_of_view-clause-refused : goal.returns-in-Err-rows_of_view-clause-refused
returns-in-Err-rows_of_view-clause-refused g c =
    refused_by_text c.args.schema (g.D.Disk.observable c.args.disk.now) (g.D.Disk.seen c.args.disk.now) (viewed c.in-Ok.view.slots.items c.in-Ok.view.begun) (λ known. readable_at_rest _ _ c.in-Ok.ensures.at_rest) c.in-Ok.ensures.recovers c.in-Err-rows_of_view.refusal c.in-Err-rows_of_view.ensures.refused

pub returns-in-Err-clause-refused : goal.returns-in-Err-clause-refused
returns-in-Err-clause-refused g c =
    rw (c.of_fault.ensures) (refused_by_fault c.args.schema (g.D.Disk.observable c.args.disk.now) (g.D.Disk.seen c.args.disk.now) c.in-Err.fault (λ is. c.in-Err.ensures.none (cc is)))
