-- The source with the flags of each header.
use Rattle.std.specs.Prelude.{Bool, ◌||◌, map}
use Rattle.bound_tree.specs.declared.block.Flags.{Flags}
use Rattle.bound_tree.specs.Tree.{Header, Stmt, Inner, Choose, Body, Nothing, Then, Procedure, Source}
use Rattle.txn_infer.specs.Undo.{has_undo}
use Rattle.txn_infer.specs.Updates.{starts, updates_in}
use Rattle.txn_infer.specs.Retry.{header_retry, names_retry_in}

-- THE FLAGS of a block with this header, where its statements update, and name RETRY
abbrev pub flags_where : Header → Bool → Bool → Flags
flags_where h updating retrying = record { starts = starts h updating; undo = has_undo h; retry_seen = header_retry h || retrying }

abbrev pub header_with : Header → Flags → Header
header_with h flags = record h { flags = flags }

-- the header of a block with this body
abbrev pub flagged : Header → Body → Header
flagged h body = header_with h (flags_where h (updates_in body) (names_retry_in body))

abbrev mutual
  -- the statement, with the flags of each header in it; nothing else is another
  pub flagged_stmt : Stmt → Stmt
  flagged_stmt (Inner h body) = Inner (flagged h body) (flagged_body body)
  flagged_stmt (Choose test x y) = Choose test (flagged_body x) (flagged_body y)
  flagged_stmt t = t

  pub flagged_body : Body → Body
  flagged_body Nothing = Nothing
  flagged_body (Then t ts) = Then (flagged_stmt t) (flagged_body ts)

-- a procedure
abbrev pub flagged_procedure : Procedure → Procedure
flagged_procedure q = record q { header = flagged q.header q.body; body = flagged_body q.body }

-- THE SOURCE WITH THE FLAGS of each header
abbrev pub with_flags : Source → Source
with_flags s = record s { procedures = map flagged_procedure s.procedures }
