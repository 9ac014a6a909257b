use Rattle.std.proofs.Common.{◌≡◌, None, rules}
use Rattle.std.specs.Prelude.{IsTrue}
use Rattle.storage.specs.faults.Faults.{Rose}
use Rattle.host_io.specs.Files.{IsLonger}
use Rattle.source_files.specs.declared.files.TheConstants.{MAX_FILE_BYTES}
use Rattle.source_files.specs.Files.{is_missing, is_too_long, reading_wants}
use Rattle.source_files.proofs.files.read_text.Goals as goal

pub returns-in-Err-Failed-clause-refused : goal.returns-in-Err-Failed-clause-refused
returns-in-Err-Failed-clause-refused g c =
    let rose : Rose (g.F.Files.state c.args.files.now).faults (g.F.Files.state c.read.new.self).faults = search rules in
    let missing : IsTrue (g.F.Files.state c.args.files.now).sound → (g.F.Files.state c.args.files.now).file c.args.name ≡ None = search rules in
    is_missing rose missing

pub returns-in-Err-TooLong-clause-refused : goal.returns-in-Err-TooLong-clause-refused
returns-in-Err-TooLong-clause-refused g c =
    let longer : IsTrue (g.F.Files.state c.args.files.now).observable → IsLonger ((g.F.Files.state c.args.files.now).file c.args.name) MAX_FILE_BYTES = search rules in
    is_too_long longer

pub returns-in-Err-NoMemory-clause-refused : goal.returns-in-Err-NoMemory-clause-refused
returns-in-Err-NoMemory-clause-refused g c = reading_wants
