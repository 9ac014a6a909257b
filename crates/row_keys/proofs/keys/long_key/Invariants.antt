use Rattle.std.proofs.Common.{ℕ, ◌<◌}
use Rattle.row_store.specs.Questions.{setting_of}
use Rattle.database_meaning.specs.Answers.{HasLongKey}
use Rattle.row_keys.proofs.keys.long_key.Given as goal

abbrev pub invariant-loop-index : goal.invariant-loop-index
invariant-loop-index l = (j : ℕ) → j < l.index → ¬ HasLongKey (setting_of l.schema) (record { table = l.table; values = l.values }) j
