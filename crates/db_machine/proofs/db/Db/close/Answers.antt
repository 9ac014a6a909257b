use Rattle.std.proofs.Common.{List, sym, ap, ◌∙◌, subst}
use Rattle.database_protocol.specs.declared.event.Event.{Event}
use Rattle.database_meaning.specs.Traces.{left_by}
use Rattle.database_meaning.specs.Waiting.{HasNoCycle, WaitsFor}
use Rattle.db_core.specs.Crashes.{Survives}
use Rattle.db_machine.specs.Machine.{Machine}
use Rattle.db_machine.proofs.db.Db.close.Goals as goal

pub returns-clause-no_cycle : goal.returns-clause-no_cycle
returns-clause-no_cycle g c = λ f contents opened.
    subst (λ (es : List Event). HasNoCycle (WaitsFor f (left_by f contents es))) (sym c.from_vec.ensures)
    (subst (λ (m : Machine g.row.R.Denot). HasNoCycle (WaitsFor f (left_by f contents m.trace))) (sym c.self.view_is)
    (c.no_cycle_ever.ensures f contents c.args.self.trace (opened.was.sound_contents, opened.was.follows)))

pub returns-clause-crashes : goal.returns-clause-crashes
returns-clause-crashes g c = λ f contents opened first known.
    subst (λ (es : List Event). Survives (g.R.RowStore.left c.args.self.rows) (g.R.RowStore.times c.args.self.rows) f contents es) (sym (c.from_vec.ensures ∙ ap (λ (m : Machine g.row.R.Denot). m.trace) c.self.view_is))
    (opened.durable.stands first known).survives
