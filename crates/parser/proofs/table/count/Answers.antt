use Rattle.std.proofs.Common.{length, ap, sym, ◌∙◌}
use Rattle.parser.proofs.Cuts.{count_is}
use Rattle.parser.proofs.table.count.Goals as goal

pub returns : goal.returns
returns c = ap length c.nonterminals.ensures ∙ sym count_is
