-- Which bound trees name blocks only where they are around: so no LEAVE, NEXT or UNDO leaves the procedure in which it is.
use Rattle.std.specs.Prelude.{ℕ, zero, suc, ◌==◌, Bool, true, false, not, ◌&&◌, if◌then◌else◌, List, [], ◌∷◌, Option, Some, None}
use Rattle.std.specs.List.{list_all}
use Rattle.bound_tree.specs.declared.expression.Variable.{Variable}
use Rattle.bound_tree.specs.Tree.{Action, ThenLeave, ThenNext, OnPhrase, Header, Stmt, Inner, Choose, UndoBlock, LeaveBlock, NextBlock, ReturnError, Run, Body, Nothing, Then, Procedure, Source}
use Rattle.block_meaning.specs.Blocks.{handles_endkey, is_given}
use Rattle.block_meaning.specs.Frames.{is_in}

-- ---- blocks are named by their numbers; a list has those around a place, the innermost first

-- the block n and those around it
abbrev pub outward : ℕ → List ℕ → List ℕ
outward n [] = []
outward n (m ∷ ms) = if n == m then m ∷ ms else outward n ms

-- the action after an UNDO names a block of these, if it names one
abbrev pub names_one_of : List ℕ → Action → Bool
names_one_of around (ThenLeave block) = is_in block around
names_one_of around (ThenNext block) = is_in block around
names_one_of around action = true

-- the undone block is around the place, and what the action names is that block or one around it
abbrev pub undoes_one_of : List ℕ → ℕ → Action → Bool
undoes_one_of around block action = is_in block around && names_one_of (outward block around) action

abbrev pub is_placed_phrase : List ℕ → Option OnPhrase → Bool
is_placed_phrase around None = true
is_placed_phrase around (Some on) = undoes_one_of around on.target on.action

-- an ON phrase may name its own block
abbrev pub is_placed_header : List ℕ → Header → Bool
is_placed_header around h = is_placed_phrase (h.number ∷ around) h.on_error && is_placed_phrase (h.number ∷ around) h.on_endkey

-- an internal procedure; 0 is the external one
abbrev pub is_internal : ℕ → Bool
is_internal zero = false
is_internal (suc n) = true

abbrev mutual
  -- each block that the statement names is around it, and RUN is of an internal procedure
  pub is_placed_statement : List ℕ → Stmt → Bool
  is_placed_statement around (Inner h body) = is_placed_header around h && is_placed_body (h.number ∷ around) body
  is_placed_statement around (Choose test then_it else_it) = is_placed_body around then_it && is_placed_body around else_it
  is_placed_statement around (UndoBlock block action) = undoes_one_of around block action
  is_placed_statement around (LeaveBlock block) = is_in block around
  is_placed_statement around (NextBlock block) = is_in block around
  is_placed_statement around (ReturnError block value) = is_in block around
  is_placed_statement around (Run procedure arguments quiet) = is_internal procedure
  is_placed_statement around t = true

  pub is_placed_body : List ℕ → Body → Bool
  is_placed_body around Nothing = true
  is_placed_body around (Then t ts) = is_placed_statement around t && is_placed_body around ts

-- ---- procedures

-- it is empty
abbrev pub is_nil : {A : Type 0} → List A → Bool
is_nil [] = true
is_nil (a ∷ as_) = false

-- the block of a procedure: it can be undone, handles ENDKEY, and has no TO, WHILE and record phrase
abbrev pub is_outermost : Header → Bool
is_outermost h = (h.flags.undo && handles_endkey h) && (not (is_given h.to) && (not (is_given h.while_test) && not (is_given h.fetch)))

-- the parameter is a variable of the procedure itself
abbrev pub is_own : Variable → Bool
is_own v = not v.external

abbrev pub is_placed_procedure : Procedure → Bool
is_placed_procedure q = (list_all is_own q.parameters && is_outermost q.header) && (is_placed_header [] q.header && is_placed_body (q.header.number ∷ []) q.body)

-- EACH BLOCK THAT IS NAMED IS AROUND THE PLACE where it is named
abbrev pub is_placed : Source → Bool
is_placed source = list_all is_placed_procedure source.procedures
