-- Which blocks directly update the database, and which start a transaction where none is open.
use Rattle.std.specs.Prelude.{Bool, true, false, not, ◌&&◌, ◌||◌, List, Option, Some, None}
use Rattle.std.specs.List.{list_any}
use Rattle.bound_tree.specs.declared.block.LockWanted.{LockWanted}
use Rattle.bound_tree.specs.declared.block.LockWanted.TheVariants as lock
use Rattle.bound_tree.specs.declared.statement.Target.{Target}
use Rattle.bound_tree.specs.declared.statement.Target.TheVariants as target
use Rattle.bound_tree.specs.Tree.{Fetch, Header, Assignment, Stmt, Inner, Choose, Assign, Find, FindCurrent, Create, Remove, Import, Body, Nothing, Then}
use Rattle.txn_infer.specs.Undo.{has_undo}

-- a field of the database
abbrev pub is_field : Target → Bool
is_field (target.Variable x) = false
is_field (target.Field buffer field k) = true

-- an element of IMPORT that is read into a field; None is an element that is skipped
abbrev pub is_read_field : Option Target → Bool
is_read_field None = false
is_read_field (Some t) = is_field t

abbrev pub is_exclusive : LockWanted → Bool
is_exclusive lock.Exclusive = true
is_exclusive l = false

-- a FOR whose header has EXCLUSIVE-LOCK
abbrev pub fetches_exclusively : Option Fetch → Bool
fetches_exclusively None = false
fetches_exclusively (Some f) = is_exclusive f.reading.lock

abbrev pub assigns_field : List Assignment → Bool
assigns_field = list_any (λ (p : Assignment). is_field p.target)

abbrev pub reads_field : List (Option Target) → Bool
reads_field = list_any is_read_field

-- a statement that is itself an update: CREATE, DELETE, an assignment or IMPORT to a field, FIND with EXCLUSIVE-LOCK. RUN and NEXT-VALUE are none
abbrev pub is_update : Stmt → Bool
is_update (Assign pairs quiet) = assigns_field pairs
is_update (Find word reading wait quiet) = is_exclusive reading.lock
is_update (FindCurrent reading wait quiet) = is_exclusive reading.lock
is_update (Create buffer quiet) = true
is_update (Remove buffer quiet) = true
is_update (Import stream targets quiet) = reads_field targets
is_update t = false

-- a block with this header directly updates, where `inside` says whether its statements do
abbrev pub directly_updates : Header → Bool → Bool
directly_updates h inside = fetches_exclusively h.fetch || inside

-- IT STARTS A TRANSACTION, where none is open
abbrev pub starts : Header → Bool → Bool
starts h inside = h.transaction || (has_undo h && directly_updates h inside)

-- such a block, where it starts none itself
abbrev pub block_updates : Header → Bool → Bool
block_updates h inside = not (starts h inside) && directly_updates h inside

abbrev mutual
  -- the statement updates outside inner blocks that themselves start a transaction
  pub updates : Stmt → Bool
  updates (Inner h body) = block_updates h (updates_in body)
  updates (Choose test x y) = updates_in x || updates_in y
  updates t = is_update t

  -- so does one of the statements
  pub updates_in : Body → Bool
  updates_in Nothing = false
  updates_in (Then t ts) = updates t || updates_in ts
