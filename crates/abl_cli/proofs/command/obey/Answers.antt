-- A command is refused by its arguments, or does what they name.
use Rattle.std.proofs.Common.{refl}
use Rattle.abl_cli.specs.Command.{Refused, wrong_argument}
use Rattle.abl_cli.proofs.command.obey.Goals as goal

pub returns-in-Err-clause-did : goal.returns-in-Err-clause-did
returns-in-Err-clause-did g c = Refused _ _ (wrong_argument c.in-Err.ensures.wrong) refl c.refused-report.ensures

pub returns-in-Ok-Bank-clause-did : goal.returns-in-Ok-Bank-clause-did
returns-in-Ok-Bank-clause-did g c = c.run_bank_of.ensures.did (g.F.Files.state c.args.files.now) (g.F.Files.state c.args.files.now).faults
