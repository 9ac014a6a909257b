-- What holds of each call of the record.
use Rattle.std.specs.Prelude.{ℕ, zero, suc, ◌+◌, ◌<◌, ◌≤◌, ◌^◌, List, [], ◌∷◌, length, get_or, Vec}
use Rattle.std.specs.Vec.{vec_capacity}
use Rattle.std.specs.declared.alloc.Global.{Global}
use Rattle.mem_disk.specs.declared.call.Call.{Call}
use Rattle.mem_disk.specs.declared.call.Effect.TheVariants.{Written}

-- its bytes stand in the pool, its area is one of the three, and it ends below 2^40
pub record IsInside (pool : ℕ) (call : Call) : Type 0 where
  pub bytes : call.from + call.length ≤ pool
  pub area : call.area < 3
  pub small : call.at + call.length < 2 ^ 40

abbrev pub no_call : Call
no_call = record { area = 0; at = 0; from = 0; length = 0; effect = Written }

-- so does each of these calls
abbrev pub AllInside : ℕ → List Call → Type 0
AllInside pool calls = (i : ℕ) → i < length calls → IsInside pool (get_or calls i no_call)

-- how many bytes an area has memory for
abbrev pub capacity_in : List (Vec ℕ Global) → ℕ → ℕ
capacity_in [] k = 0
capacity_in (v ∷ areas) zero = vec_capacity v
capacity_in (v ∷ areas) (suc k) = capacity_in areas k

-- each area has memory for this number of bytes
abbrev pub HaveRoom : ℕ → List (Vec ℕ Global) → Type 0
HaveRoom n areas = (k : ℕ) → k < length areas → n ≤ capacity_in areas k
