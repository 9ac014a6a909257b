use Rattle.schema_text.proofs.Fitting.{fits_kind, own_fault, own_value}
use Rattle.schema_text.proofs.values.fitting.Goals as goal

pub returns-in-Ok-clause-value : goal.returns-in-Ok-clause-value
returns-in-Ok-clause-value c h = own_value c.args.value.now c.in-Ok.fitted c.args.kind h c.in-Ok.ensures

pub returns-in-Ok-clause-fits : goal.returns-in-Ok-clause-fits
returns-in-Ok-clause-fits c = fits_kind c.args.value.now c.in-Ok.fitted c.args.kind c.in-Ok.ensures

pub returns-in-Err-clause-value : goal.returns-in-Err-clause-value
returns-in-Err-clause-value c h = c.why_not.ensures (own_fault c.args.value.now c.args.kind c.in-Err.fault h c.in-Err.ensures)
