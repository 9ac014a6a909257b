use Rattle.std.proofs.Common.{◌≤◌, ℕ}
use Rattle.key_index.specs.Places.{IsBelow}
use Rattle.key_index.proofs.Beyond.{found_same, first_same, none_same}
use Rattle.key_index.proofs.rows.Rows.greatest.Goals as goal

pub returns-clause-found : goal.returns-clause-found
returns-clause-found c = found_same c.self.inside.seats c.args.self.now c.self.view_is c.greatest_entry.result c.greatest_entry.ensures.found

pub returns-clause-last : goal.returns-clause-last
returns-clause-last c =
    first_same c.self.inside.seats c.args.self.now c.self.view_is (IsBelow c.args.below) (λ (row q : ℕ). q ≤ row) c.greatest_entry.result c.greatest_entry.ensures.last

pub returns-clause-none : goal.returns-clause-none
returns-clause-none c = none_same c.self.inside.seats c.args.self.now c.self.view_is (IsBelow c.args.below) c.greatest_entry.result c.greatest_entry.ensures.none
