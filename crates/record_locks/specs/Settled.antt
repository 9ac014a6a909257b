-- The locks of a client after the end of its transaction.
use Rattle.std.specs.Prelude.{ℕ, Bool, true, false, ◌==◌, List, Option, Some, None}
use Rattle.std.specs.List.{list_any}
use Rattle.abl_base.specs.declared.row.RowId.{RowId}

-- the row is one of these
abbrev pub has_row : List RowId → ℕ → Bool
has_row rows row = list_any (λ kept. kept.0 == row) rows

-- the lock after it: a share lock on a row to keep, none on any other
abbrev pub settled : Bool → Option Bool → Option Bool
settled false lock = None
settled true None = None
settled true (Some exclusive) = Some false

-- a lock was freed: one on a row not to keep, or an exclusive one that became share
abbrev pub IsFreed : Bool → Option Bool → Type 0
IsFreed kept None = ⊥
IsFreed kept (Some true) = Unit {0}
IsFreed true (Some false) = ⊥
IsFreed false (Some false) = Unit {0}
