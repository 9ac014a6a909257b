use Rattle.std.proofs.Common.{ℕ, List, sym, subst}
use Rattle.std.specs.List.{Contains}
use Rattle.row_fragments.proofs.Within.{tail_in}
use Rattle.byte_rows.proofs.scan.+are_free.Goals as goal

pub returns-then-place_of-eq0-clause-no : goal.returns-then-place_of-eq0-clause-no
returns-then-place_of-eq0-clause-no t c = λ e.
    let found = c.are_free.ensures.no e in
    (found.0, subst (λ (xs : List ℕ). Contains xs found.0) (sym c.in-Some.ensures.cases.0) (tail_in c.in-Some.first.now found.0 c.in-Some.rest.now found.1), found.2)
