use Rattle.std.proofs.Common.{drop}
use Rattle.bind_names.specs.Views.{scene_of}
use Rattle.bind_statements.specs.Streams.{import_target}
use Rattle.bind_statements.proofs.Lists.{ListContinues}
use Rattle.bind_statements.proofs.transfers.import_listed.Given as goal

abbrev pub invariant-loop-one : goal.invariant-loop-one
invariant-loop-one l = ListContinues (import_target (scene_of l.scene)) l.names (drop l.one-index l.names) l.bound.items l.notes l.fn.notes
