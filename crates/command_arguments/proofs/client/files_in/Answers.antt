-- A part splits at its first `<`, since no name has one.
use Rattle.std.proofs.Common.{subst, sym}
use Rattle.command_arguments.specs.CommandLine.{IsFileName}
use Rattle.command_arguments.proofs.Splits.{parts_of_files}
use Rattle.command_arguments.proofs.client.files_in.Goals as goal
use Rattle.command_arguments.proofs.client.files_in.Goals.{else-is_file_name-via-then-is_file_name+else-is_file_name-2, else-is_file_name-via-else-is_file_name}

pub returns-else-is_file_name-clause-none : goal.returns-else-is_file_name-clause-none
returns-else-is_file_name-clause-none c files =
    let parts = parts_of_files _ _ c.in-Some.ensures.some.1 c.in-Some.ensures.some.2 files in
    elim c.else-is_file_name.branch [
      | else-is_file_name-via-then-is_file_name+else-is_file_name-2 w ↦
          cc (w.if-is_file_name-2.false, w.is_file_name-then-is_file_name.ensures.1 (subst IsFileName (sym c.split_at.ensures.back) parts.1))
      | else-is_file_name-via-else-is_file_name w ↦ cc (w.if-is_file_name.false, c.is_file_name.ensures.1 parts.0)
    ]
