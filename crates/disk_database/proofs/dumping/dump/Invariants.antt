use Rattle.disk_database.proofs.dumping.dump.Given as goal

-- the opening is that of this schema, over the images of the moment
abbrev pub ghosts-dump_since : goal.ghosts-dump_since
ghosts-dump_since g a = record { schema = a.schema; images = g.D.Disk.left a.disk (g.D.Disk.time a.disk) }
