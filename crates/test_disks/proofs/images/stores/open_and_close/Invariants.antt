use Rattle.test_disks.proofs.images.stores.open_and_close.Given as goal

-- the opening is that of this schema, over the images of the moment
abbrev pub ghosts-open_since : goal.ghosts-open_since
ghosts-open_since g a = record { schema = a.schema; images = g.D.Disk.left a.disk (g.D.Disk.time a.disk) }
