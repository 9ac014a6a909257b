use Rattle.std.proofs.Common.{◌≤◌, ℕ}
use Rattle.key_index.specs.Places.{IsAbove}
use Rattle.key_index.proofs.Beyond.{found_same, first_same, none_same}
use Rattle.key_index.proofs.rows.Rows.least.Goals as goal

pub returns-clause-found : goal.returns-clause-found
returns-clause-found c = found_same c.self.inside.seats c.args.self.now c.self.view_is c.least_entry.result c.least_entry.ensures.found

pub returns-clause-first : goal.returns-clause-first
returns-clause-first c =
    first_same c.self.inside.seats c.args.self.now c.self.view_is (IsAbove c.args.above) (λ (row q : ℕ). row ≤ q) c.least_entry.result c.least_entry.ensures.first

pub returns-clause-none : goal.returns-clause-none
returns-clause-none c = none_same c.self.inside.seats c.args.self.now c.self.view_is (IsAbove c.args.above) c.least_entry.result c.least_entry.ensures.none
