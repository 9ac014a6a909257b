-- The source with the buffers scoped to each block.
use Rattle.std.specs.Prelude.{ℕ, ◌+◌, if◌then◌else◌, List, [], ◌∷◌, ◌++◌, map, Option}
use Rattle.bind_names.specs.declared.violation.Violation.{Violation}
use Rattle.syntax_tree.specs.Syntax.{Program}
use Rattle.bound_tree.specs.declared.procedure.BufferDef.{BufferDef}
use Rattle.bound_tree.specs.declared.procedure.Reference.{Reference}
use Rattle.bound_tree.specs.Tree.{Header, Stmt, Inner, Choose, Body, Nothing, Then, Procedure, Source}
use Rattle.buffer_scope.specs.Blocks.{Placed, blocks_of}
use Rattle.buffer_scope.specs.Scopes.{Scopes, is_scope, references_to, scopes_of}
use Rattle.buffer_scope.specs.First.{first}
use Rattle.buffer_scope.specs.Rules.{procedures_break}

-- the scopes of the buffers from number n on
abbrev pub all_scopes : List Placed → List Reference → ℕ → List BufferDef → List Scopes
all_scopes blocks references n [] = []
all_scopes blocks references n (b ∷ bs) = scopes_of blocks (references_to n references) ∷ all_scopes blocks references (n + 1) bs

-- the buffers scoped to block n, among those from number k on with these scopes
abbrev pub scoped_among : List Placed → ℕ → List Scopes → ℕ → List ℕ
scoped_among blocks k [] n = []
scoped_among blocks k (s ∷ ss) n = (if is_scope blocks s n then k ∷ [] else []) ++ scoped_among blocks (k + 1) ss n

-- THE BUFFERS SCOPED TO BLOCK n of a procedure, in buffer order
abbrev pub scoped_to : List Placed → Procedure → ℕ → List ℕ
scoped_to blocks q = scoped_among blocks 0 (all_scopes blocks q.references 0 q.buffers)

-- a header with the buffers scoped to its block
abbrev pub scoped : (ℕ → List ℕ) → Header → Header
scoped to h = record h { scoped = to h.number }

abbrev mutual
  -- a statement with the buffers scoped to each block in it; nothing else changes
  pub scoped_stmt : (ℕ → List ℕ) → Stmt → Stmt
  scoped_stmt to (Inner h body) = Inner (scoped to h) (scoped_body to body)
  scoped_stmt to (Choose test x y) = Choose test (scoped_body to x) (scoped_body to y)
  scoped_stmt to t = t

  pub scoped_body : (ℕ → List ℕ) → Body → Body
  scoped_body to Nothing = Nothing
  scoped_body to (Then t ts) = Then (scoped_stmt to t) (scoped_body to ts)

abbrev pub scoped_by : (ℕ → List ℕ) → Procedure → Procedure
scoped_by to q = record q { header = scoped to q.header; body = scoped_body to q.body }

abbrev pub scoped_procedure : List Placed → Procedure → Procedure
scoped_procedure blocks q = scoped_by (scoped_to blocks q) q

-- THE SOURCE WITH THE BUFFERS SCOPED TO EACH BLOCK, where this is its syntax; nothing else changes
abbrev pub with_scopes : Program → Source → Source
with_scopes p s = record s { procedures = map (scoped_procedure (blocks_of p)) s.procedures }

-- THE FIRST RULE S THAT A SOURCE BREAKS, where this is its syntax
abbrev pub first_broken : Program → Source → Option Violation
first_broken p s = first (procedures_break (blocks_of p) s.procedures)
