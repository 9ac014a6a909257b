use Rattle.std.proofs.Common.{arith}
use Rattle.row_store.proofs.AnswersLemmas.Sizes.{row_size-empty}
use Rattle.row_store.proofs.answers.rows.+size_within.Goals as goal

pub returns-in-None : goal.returns-in-None
returns-in-None t c = (row_size-empty _ c.in-None.ensures.cases, omega arith)
