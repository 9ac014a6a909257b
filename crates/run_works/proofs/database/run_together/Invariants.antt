use Rattle.source_files.specs.Compiled.{schema_in}
use Rattle.run_works.proofs.database.run_together.Given as goal

-- the run begins at the moment of the disk, with the images that a crash may leave then
abbrev pub ghosts-together_since-K-Start : goal.ghosts-together_since-K-Start
ghosts-together_since-K-Start g a = record { moment = g.D.Disk.time a.disk; images = g.D.Disk.left a.disk (g.D.Disk.time a.disk) }

-- and the database of this schema is opened over these
abbrev pub ghosts-together_since-K-Opening : goal.ghosts-together_since-K-Opening
ghosts-together_since-K-Opening g a = record { schema = schema_in a.df.now; images = g.D.Disk.left a.disk (g.D.Disk.time a.disk) }
