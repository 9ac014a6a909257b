-- The assignments of a statement.
use Rattle.std.proofs.Common.{◌≡◌, ℕ, Bool, [], refl}
use Rattle.std.specs.Prelude.{Vec}
use Rattle.std.specs.declared.alloc.Global.{Global}
use Rattle.bound_tree.specs.Bound.{stmt_of}
use Rattle.bound_tree.specs.declared.statement.Assignment.{Assignment}
use Rattle.bound_tree.specs.declared.statement.Stmt.{Stmt}
use Rattle.bound_tree.specs.declared.statement.Stmt.TheVariants as stmt
use Rattle.flat_machine.specs.Flat as flat
use Rattle.client_machine.specs.Statements.{pairs_in}

-- there are none in another statement
pub other_pairs : (t : Stmt) (next : ℕ) → ((pairs : Vec Assignment Global) (quiet : Bool) → t ≡ stmt.Assign pairs quiet → ⊥) → pairs_in (flat.Plain (stmt_of t) next) ≡ []
other_pairs (stmt.Assign pairs quiet) next other = absurd (other pairs quiet refl)
other_pairs t next other = refl
