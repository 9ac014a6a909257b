use Rattle.run_works.specs.Disks.{state_of}
use Rattle.abl_cli.proofs.BankEnds.{bank_ends}
use Rattle.abl_cli.proofs.laws.a_bank_over_its_database_ends.Goals as goal

pub returns : goal.returns
returns g c =
    λ disk arguments files faults old new outcome bank did is_bank are clean trees denote quiet has fine.
    bank_ends (state_of g.D.Disk) disk arguments files faults old new outcome bank is_bank are clean trees denote has (g.met.D.Disk.reads_left disk has.holds.seen) fine quiet did
