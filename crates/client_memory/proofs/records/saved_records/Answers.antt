use Rattle.std.proofs.Common.{ap, ◌∙◌}
use Rattle.std.proofs.lemmas.Result.{IfOk-weaker}
use Rattle.client_memory.specs.Savepoints.{contents_with, counts_of}
use Rattle.client_memory.proofs.BufferLists.{stored_whole}
use Rattle.client_memory.proofs.records.saved_records.Goals as goal

pub returns : goal.returns
returns c = IfOk-weaker c.all_saved.result _ _ (λ saved h. ap (λ css. contents_with css (counts_of c.args.frames.now)) h ∙ stored_whole c.args.frames.now) c.all_saved.ensures
