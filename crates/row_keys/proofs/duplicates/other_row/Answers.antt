use Rattle.std.proofs.Common.{sym, ◌∙◌}
use Rattle.row_keys.proofs.Others.{no_key, under_key}
use Rattle.row_keys.proofs.duplicates.other_row.Goals as goal

pub returns-in-None : goal.returns-in-None
returns-in-None c = no_key c.args.index.now c.args.def.now c.args.row c.args.values.now (sym c.in_ok-unique_key_of.ensures ∙ c.in-None.is)

pub returns-in-Some : goal.returns-in-Some
returns-in-Some c =
    under_key c.args.index.now c.args.def.now c.args.row c.args.values.now c.in-Some.key (sym c.in_ok-unique_key_of.ensures ∙ c.in-Some.is) c.other_with_key.result c.other_with_key.ensures
