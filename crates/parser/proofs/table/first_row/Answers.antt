use Rattle.std.proofs.Common.{◌≤◌, sym, subst}
use Rattle.std.specs.Prelude.{slice_index}
use Rattle.parser.proofs.Cuts.{begins_by}
use Rattle.parser.proofs.table.first_row.Goals as goal

pub returns-then-from-number-clause-before : goal.returns-then-from-number-clause-before
returns-then-from-number-clause-before c = λ q h p. subst (λ n. slice_index c.rows_from-from.result.now n ≤ q) (sym c.nonterminal_number-number.ensures) (begins_by c.rows_from-from.result.now c.args.nonterminal q c.rows_from-from.ensures h p)
