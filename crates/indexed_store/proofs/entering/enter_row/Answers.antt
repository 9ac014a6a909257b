use Rattle.std.proofs.Common.{sym, subst}
use Rattle.indexed_store.specs.Opened.{AreEntered}
use Rattle.indexed_store.proofs.entering.enter_row.Goals as goal

pub returns-in-Ok-clause-entered : goal.returns-in-Ok-clause-entered
returns-in-Ok-clause-entered c = λ rows empty was. record {
  entries = c.in-Ok.ensures.entries rows empty was.entries;
  sound = c.in_ok-test_keys.ensures.sound rows c.args.row.0 (subst (AreEntered c.args.schema.now rows) (sym c.as_slice.ensures.value) was);
}
