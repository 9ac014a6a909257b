-- What an expression reads of a client.
use Rattle.std.specs.Prelude.{ℕ, Bool, List}
use Rattle.expression_meaning.specs.Env.{Env}
use Rattle.block_meaning.specs.Buffers.{own}
use Rattle.block_meaning.specs.Values.{field_in, is_available}
use Rattle.client_memory.specs.Memory.{Remembered, buffer_at, value_now}

abbrev pub env_in : Remembered → Bool → Bool → List ℕ → Env
env_in m retry status returned = record {
  variable = λ x. value_now x m;
  field = λ b f. field_in f (buffer_at (own b) m).content;
  available = λ b. is_available (buffer_at (own b) m).content;
  locked = λ b. (buffer_at (own b) m).locked;
  retry = retry;
  error_status = status;
  return_value = returned;
}
