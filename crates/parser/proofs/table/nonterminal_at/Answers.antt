use Rattle.std.proofs.Common.{length, ap, arith}
use Rattle.parser.specs.declared.nonterminal.Nonterminal.TheVariants.{Program}
use Rattle.parser.proofs.Cuts.{count_is, nonterminal_is}
use Rattle.parser.proofs.table.nonterminal_at.Goals as goal

pub bounds-all-r : goal.bounds-all-r
bounds-all-r c = omega (arith, count_is, ap length c.nonterminals-all.ensures)

pub returns : goal.returns
returns c = nonterminal_is c.nonterminals-all.result.now c.args.r Program c.nonterminals-all.ensures c.requires
