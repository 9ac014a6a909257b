use Rattle.row_store.proofs.AnswersLemmas.Sizes.{fits_decimal}
use Rattle.row_store.proofs.answers.rows.is_decimal.Goals as goal

pub returns-clause-fits : goal.returns-clause-fits
returns-clause-fits c = fits_decimal c.args.n c.ranges.n.sfits
