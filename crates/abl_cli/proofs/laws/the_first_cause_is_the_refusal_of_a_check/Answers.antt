use Rattle.abl_cli.proofs.CheckPrevented.{no_file_is_reported, long_file_is_reported, broken_schema_is_reported, broken_source_is_reported}
use Rattle.run_works.specs.Disks.{state_of}
use Rattle.abl_cli.proofs.laws.the_first_cause_is_the_refusal_of_a_check.Goals as goal

pub returns-clause-no_file : goal.returns-clause-no_file
returns-clause-no_file g c = λ disk arguments files faults old new outcome check did names name asks none. no_file_is_reported (state_of g.D.Disk) disk arguments files faults old new outcome check names name asks did none

pub returns-clause-long_file : goal.returns-clause-long_file
returns-clause-long_file g c = λ disk arguments files faults old new outcome check did names name text asks there long. long_file_is_reported (state_of g.D.Disk) disk arguments files faults old new outcome check names name asks did there long

pub returns-clause-broken_schema : goal.returns-clause-broken_schema
returns-clause-broken_schema g c = λ disk arguments files faults old new outcome check did names df sources are rule line broken.
    broken_schema_is_reported (state_of g.D.Disk) disk arguments files faults old new outcome check names df sources are did broken

pub returns-clause-broken_source : goal.returns-clause-broken_source
returns-clause-broken_source g c = λ disk arguments files faults old new outcome check did names df sources are clean before after listings texts split have rule at first.
    broken_source_is_reported (state_of g.D.Disk) disk arguments files faults old new outcome check names df sources are clean before after listings texts did split have first
