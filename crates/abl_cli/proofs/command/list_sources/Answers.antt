use Rattle.std.proofs.Common.{refl}
use Rattle.run_works.specs.Disks.{state_of}
use Rattle.run_works.proofs.Disks.{short_untouched}
use Rattle.abl_cli.proofs.Commands.{checked_by}
use Rattle.abl_cli.proofs.command.list_sources.Goals as goal

pub returns-clause-did : goal.returns-clause-did
returns-clause-did g c = checked_by (state_of g.D.Disk) c.args.disk c.args.arguments.now _ _ _ _ _ c.args.check.now c.requires refl c.check_sources-report.ensures

pub returns-clause-log : goal.returns-clause-log
returns-clause-log g c = short_untouched (state_of g.D.Disk c.args.disk) (g.met.D.Disk.image_known c.args.disk)
