use Rattle.abl_cli.proofs.Judged.{wrong_is_reported, formless_is_reported, formed_is_no_usage}
use Rattle.run_works.specs.Disks.{state_of}
use Rattle.abl_cli.proofs.laws.usage_names_the_wrong_argument.Goals as goal

pub returns-clause-wrong : goal.returns-clause-wrong
returns-clause-wrong g c = wrong_is_reported (state_of g.D.Disk)

pub returns-clause-reported : goal.returns-clause-reported
returns-clause-reported g c = formless_is_reported (state_of g.D.Disk)

pub returns-clause-formed : goal.returns-clause-formed
returns-clause-formed g c = formed_is_no_usage (state_of g.D.Disk)
