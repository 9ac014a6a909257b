-- What an expression reads of the running program.
use Rattle.std.specs.Prelude.{ℕ, Bool, List, Option}
use Rattle.abl_base.specs.declared.value.Value.{Value}
use Rattle.bound_tree.specs.declared.expression.Variable.{Variable}

-- variables, fields, AVAILABLE, LOCKED, RETRY, ERROR-STATUS:ERROR and RETURN-VALUE
pub record Env : Type 0 where
  pub variable : Variable → Value
  -- the field of a buffer's record; None where the buffer is empty
  pub field : ℕ → ℕ → Option Value
  pub available : ℕ → Bool
  pub locked : ℕ → Bool
  pub retry : Bool
  pub error_status : Bool
  pub return_value : List ℕ
