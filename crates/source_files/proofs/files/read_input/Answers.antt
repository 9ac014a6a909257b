use Rattle.std.proofs.Common.{ℕ, ap, Some, refl}
use Rattle.host_io.specs.Files.{FileState}
use Rattle.run_report.specs.declared.refusal.Refusal.{Refusal}
use Rattle.source_files.specs.Files.{AskedIsNotRead, IsNotRead}
use Rattle.source_files.proofs.Causes.{if_err}
use Rattle.source_files.proofs.files.read_input.Goals as goal

pub returns-in-Some-clause-refused : goal.returns-in-Some-clause-refused
returns-in-Some-clause-refused g c =
    let files : FileState = g.F.Files.state c.args.files.now in
    let faults : ℕ = (g.F.Files.state c.read.new.files).faults in
    rw c.in-Some.is (if_err c.read.result (IsNotRead files faults c.in-Some.name.now) _
    (λ (refusal : Refusal) h. record { name = c.in-Some.name.now; asks = refl; unread = h }) c.read.ensures.refused)
