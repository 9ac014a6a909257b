-- The headers of the tree that a text denotes: the flags and the scopes in each are those that the definitions of transactions and of buffer scopes give
-- of that very block.
use Rattle.std.specs.Prelude.{◌≡◌, ◌⊎◌}
use Rattle.syntax_tree.specs.Syntax.{Program as Syntax}
use Rattle.bound_tree.specs.Tree.{Header, Stmt, Inner, Choose, Body, Nothing, Then, Procedure}
use Rattle.buffer_scope.specs.Blocks.{blocks_of}
use Rattle.buffer_scope.specs.Scoped.{scoped_to}
use Rattle.txn_infer.specs.Flags.{flags_where}
use Rattle.txn_infer.specs.Retry.{names_retry_in}
use Rattle.txn_infer.specs.Updates.{updates_in}

abbrev mutual
  -- a block with this header and these statements is in the statement
  pub IsInStmt : Header → Body → Stmt → Type 0
  IsInStmt h body (Inner k inside) = ((h ≡ k) × (body ≡ inside)) ⊎ IsInBody h body inside
  IsInStmt h body (Choose test x y) = IsInBody h body x ⊎ IsInBody h body y
  IsInStmt h body t = ⊥

  -- it is in one of the statements
  pub IsInBody : Header → Body → Body → Type 0
  IsInBody h body Nothing = ⊥
  IsInBody h body (Then t ts) = IsInStmt h body t ⊎ IsInBody h body ts

-- A BLOCK OF A PROCEDURE: the procedure's own, or one in it
abbrev pub IsBlockOf : Header → Body → Procedure → Type 0
IsBlockOf h body q = ((h ≡ q.header) × (body ≡ q.body)) ⊎ IsInBody h body q.body

-- its flags are those of a block with this header and these statements
abbrev pub HasItsFlags : Header → Body → Type 0
HasItsFlags h body = h.flags ≡ flags_where h (updates_in body) (names_retry_in body)

-- its buffers are those scoped to the block of its number, over the blocks of the syntax and the references of the procedure
abbrev pub HasItsBuffers : Syntax → Procedure → Header → Type 0
HasItsBuffers p q h = h.scoped ≡ scoped_to (blocks_of p) q h.number
