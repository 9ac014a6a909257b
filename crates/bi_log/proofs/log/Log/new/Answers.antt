use Rattle.std.proofs.lemmas.List.Elements.{All-nil}
use Rattle.log_meaning.specs.Bytes.{IsNote}
use Rattle.bi_log.proofs.log.Log.new.Goals as goal

pub returns-clause-notes : goal.returns-clause-notes
returns-clause-notes c = record { bytes = c.in_ok-buffer.ensures.empty; sound = All-nil IsNote }
