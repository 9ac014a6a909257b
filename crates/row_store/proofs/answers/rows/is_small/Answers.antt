use Rattle.row_store.proofs.AnswersLemmas.Sizes.{fits_small}
use Rattle.row_store.proofs.answers.rows.is_small.Goals as goal

pub returns-clause-fits : goal.returns-clause-fits
returns-clause-fits c = fits_small c.args.n c.ranges.n.sfits
