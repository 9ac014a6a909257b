use Rattle.run_works.proofs.dumping.dump_rows.Given as goal

-- the call begins at the moment of the disk, with the images that a crash may leave then
abbrev pub ghosts-dump_since : goal.ghosts-dump_since
ghosts-dump_since g a = record { moment = g.D.Disk.time a.disk; images = g.D.Disk.left a.disk (g.D.Disk.time a.disk) }
