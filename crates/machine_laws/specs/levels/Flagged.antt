-- Trees whose headers say of each block whether it starts a transaction.
use Rattle.std.specs.Prelude.{◌≡◌, ℕ, true}
use Rattle.bound_tree.specs.Tree.{Body, Choose, Header, Inner, Nothing, Procedure, Stmt, Then}
use Rattle.txn_infer.specs.Undo.{has_undo}
use Rattle.txn_infer.specs.Updates.{starts, updates_in}
use Rattle.block_meaning.specs.Program.{Program, procedure_at}

-- the flag of the block with this body
abbrev pub IsFlagged : Header → Body → Type 0
IsFlagged h body = h.flags.starts ≡ starts h (updates_in body)

abbrev mutual
  -- of each block in the statement
  pub HasFlags : Stmt → Type 0
  HasFlags (Inner h body) = IsFlagged h body × HaveFlags body
  HasFlags (Choose test then_it else_it) = HaveFlags then_it × HaveFlags else_it
  HasFlags t = Unit {0}

  pub HaveFlags : Body → Type 0
  HaveFlags Nothing = Unit {0}
  HaveFlags (Then t ts) = HasFlags t × HaveFlags ts

-- the block of a procedure can be undone
pub record IsFlaggedProcedure (q : Procedure) : Type 0 where
  pub block : IsFlagged q.header q.body
  pub undo : has_undo q.header ≡ true
  pub body : HaveFlags q.body

-- of all blocks of a program
abbrev pub IsFlaggedProgram : Program → Type 0
IsFlaggedProgram p = (n : ℕ) → IsFlaggedProcedure (procedure_at p n)
