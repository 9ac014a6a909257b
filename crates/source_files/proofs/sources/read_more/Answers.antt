use Rattle.std.proofs.Common.{◌≡◌, ◌++◌, ◌∷◌, [], inl, inr, refl, subst, sym}
use Rattle.host_io.specs.Files.{FileState}
use Rattle.source_files.specs.Files.{asks_now}
use Rattle.source_files.proofs.sources.read_more.Goals as goal

pub returns-in-Err-clause-refused : goal.returns-in-Err-clause-refused
returns-in-Err-clause-refused g c = inr (record { name = c.args.name; asks = asks_now c.requires; unread = c.in-Err.ensures.refused })
