-- What a refusal says follows from what the command did.
use Rattle.run_works.specs.Disks.{state_of}
use Rattle.abl_cli.proofs.Untouched.{untouched_if_refused}
use Rattle.abl_cli.proofs.command.run_abl.Goals as goal

pub returns-clause-refused : goal.returns-clause-refused
returns-clause-refused g c = untouched_if_refused (state_of g.D.Disk) c.args.disk _ _ _ _ _ c.obey.result c.obey.ensures.did
