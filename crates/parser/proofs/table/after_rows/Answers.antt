use Rattle.std.proofs.Common.{◌<◌, ◌+◌, sym, subst}
use Rattle.std.specs.Prelude.{slice_index}
use Rattle.parser.proofs.Cuts.{ends_by}
use Rattle.parser.proofs.table.after_rows.Goals as goal

pub returns-then-from-number-clause-beyond : goal.returns-then-from-number-clause-beyond
returns-then-from-number-clause-beyond c = λ q h p. subst (λ n. q < slice_index c.rows_from-from.result.now (n + 1)) (sym c.nonterminal_number-number.ensures) (ends_by c.rows_from-from.result.now c.args.nonterminal q c.rows_from-from.ensures h p)
