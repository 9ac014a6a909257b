-- A dump is refused by what prevents it; else the rows are written, or not.
use Rattle.std.proofs.Common.{refl}
use Rattle.run_works.specs.Disks.{state_of}
use Rattle.run_works.proofs.Disks.{short_untouched}
use Rattle.command_arguments.specs.CommandLine.{dump_of}
use Rattle.abl_cli.specs.Command.{Dumped, Refused, dump_prevented}
use Rattle.abl_cli.proofs.dumping.dump_table.Goals as goal

pub returns-in-Err-clause-did : goal.returns-in-Err-clause-did
returns-in-Err-clause-did g c = Refused _ _ (dump_prevented (dump_of c.args.named.now) c.requires.is_dump c.requires.arguments_are c.in-Err.ensures.prevented) refl c.refused-report.ensures

pub returns-in-Ok-clause-did : goal.returns-in-Ok-clause-did
returns-in-Ok-clause-did g c = Dumped (dump_of c.args.named.now) c.requires.is_dump c.requires.arguments_are c.in-Ok.table.schema c.in-Ok.table.number c.in-Ok.ensures.table c.write_rows.ensures.did

pub returns-in-Err-clause-log : goal.returns-in-Err-clause-log
returns-in-Err-clause-log g c = short_untouched (state_of g.D.Disk c.args.disk) (g.met.D.Disk.image_known c.args.disk)
