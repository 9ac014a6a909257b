use Rattle.abl_cli.proofs.Prevented.{no_file_is_reported, long_file_is_reported, broken_schema_is_reported, broken_source_is_reported, no_named_is_reported, long_named_is_reported}
use Rattle.run_works.specs.Disks.{state_of}
use Rattle.abl_cli.proofs.laws.the_first_cause_is_the_refusal.Goals as goal

pub returns-clause-no_file : goal.returns-clause-no_file
returns-clause-no_file g c = λ disk arguments files faults old new outcome run did names name asks none. no_file_is_reported (state_of g.D.Disk) disk arguments files faults old new outcome run names name asks did none

pub returns-clause-long_file : goal.returns-clause-long_file
returns-clause-long_file g c = λ disk arguments files faults old new outcome run did names name text asks there long. long_file_is_reported (state_of g.D.Disk) disk arguments files faults old new outcome run names name asks did there long

pub returns-clause-broken_schema : goal.returns-clause-broken_schema
returns-clause-broken_schema g c = λ disk arguments files faults old new outcome run did names df sources there rule line broken. broken_schema_is_reported (state_of g.D.Disk) disk arguments files faults old new outcome run names df sources there did broken

pub returns-clause-broken_source : goal.returns-clause-broken_source
returns-clause-broken_source g c =
    λ disk arguments files faults old new outcome run did names df sources there clean before after trees texts split are rule at first.
    broken_source_is_reported (state_of g.D.Disk) disk arguments files faults old new outcome run names df sources there clean before trees after texts split are first did

pub returns-clause-no_named_input : goal.returns-clause-no_named_input
returns-clause-no_named_input g c =
    λ disk arguments files faults old new outcome run did names df sources there clean trees are before after name split are_there none.
    no_named_is_reported (state_of g.D.Disk) disk arguments files faults old new outcome run names df sources there clean trees are before after name split are_there did none

pub returns-clause-long_named_input : goal.returns-clause-long_named_input
returns-clause-long_named_input g c =
    λ disk arguments files faults old new outcome run did names df sources there clean trees are before after name input split are_there is long.
    long_named_is_reported (state_of g.D.Disk) disk arguments files faults old new outcome run names df sources there clean trees are before after name split are_there did is long
