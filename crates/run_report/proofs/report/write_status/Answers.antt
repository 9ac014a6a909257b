use Rattle.std.proofs.Common.{append-nil}
use Rattle.run_report.proofs.report.write_status.Goals as goal

pub returns-in-File : goal.returns-in-File
returns-in-File g c =
    rw (c.in-File.is, ← c.as_slice.ensures) (rw (append-nil c.as_slice.result.now) at c.write_line-in-File.ensures)

pub returns-in-NoTable : goal.returns-in-NoTable
returns-in-NoTable g c =
    rw (c.in-NoTable.is, ← c.as_slice-in-NoTable.ensures) (rw (append-nil c.as_slice-in-NoTable.result.now) at c.write_line-in-NoTable.ensures)
