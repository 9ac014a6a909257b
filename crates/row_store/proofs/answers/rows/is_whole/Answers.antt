use Rattle.row_store.proofs.AnswersLemmas.Sizes.{fits_whole}
use Rattle.row_store.proofs.answers.rows.is_whole.Goals as goal

pub returns-clause-fits : goal.returns-clause-fits
returns-clause-fits c = fits_whole c.args.n c.ranges.n.sfits
