use Rattle.std.proofs.Common.{◌∙◌, refl}
use Rattle.database_protocol.specs.declared.operation.Op.TheVariants.{End}
use Rattle.database_protocol.specs.declared.answer.Answer.TheVariants.{Done}
use Rattle.row_store.proofs.AnswersLemmas.TableLaws.{end_row}
use Rattle.db_machine.proofs.Replying.{levels_by}
use Rattle.db_core.proofs.Crashes.{grows_quietly}
use Rattle.db_machine.proofs.steps.answer_end.Goals as goal

pub returns-clause-step : goal.returns-clause-step
returns-clause-step g c =
    let keeps = c.end.ensures.keeps in
    record {
      observable = keeps.observable;
      schema = keeps.schema;
      counts = keeps.counts;
      sound = c.end.ensures.sound;
      answers = λ observable f s h is closed_is. end_row f s c.args.client (λ refused. refused ((c.refusals_are_known.ensures.allowed f (g.R.RowStore.state c.args.rows.now) c.args.control.now s c.args.schema.now h observable (h.schema ∙ c.requires.schema) c.args.client End).0 (c.is_allowed.ensures.0 c.if-not-is_allowed.false)));
      represents = λ observable f s h. c.end.ensures.represents f s h;
      levels = levels_by (g.R.RowStore.state c.args.rows.now) (g.R.RowStore.state c.end.new.rows) c.args.control.now c.end.new.control c.args.client End Done c.requires.some c.end.ensures.represents;
    }

pub returns-then-not-is_allowed-clause-durable : goal.returns-then-not-is_allowed-clause-durable
returns-then-not-is_allowed-clause-durable g c =
    λ f contents trace represents shut h. grows_quietly (g.R.RowStore.state c.args.rows.now) (g.R.RowStore.left c.args.rows.now) (g.R.RowStore.times c.args.rows.now) f contents trace c.args.client End _ refl h

pub returns-clause-durable : goal.returns-clause-durable
returns-clause-durable g c =
    λ f contents trace represents shut h. grows_quietly (g.R.RowStore.state c.end.new.rows) (g.R.RowStore.left c.end.new.rows) (g.R.RowStore.times c.end.new.rows) f contents trace c.args.client End _ refl (c.end.ensures.durable f contents trace h)
