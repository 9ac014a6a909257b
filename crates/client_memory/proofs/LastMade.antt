-- The number of CREATEs before the innermost level began.
use Rattle.std.proofs.Common.{◌≡◌, ℕ, suc, ◌+◌, ◌-◌, List, [], ◌∷◌, length, Some, None, refl, ap, ◌∙◌, arith, map}
use Rattle.std.specs.Prelude.{slice_get}
use Rattle.client_memory.specs.Undo.{OldValue, Values, copy_at}
use Rattle.client_memory.specs.declared.memory.Savepoint.{Savepoint as SavepointRs}
use Rattle.client_memory.specs.Savepoints.{innermost_made, savepoints_from}
use Rattle.client_memory.specs.Memory.{last_copy, made_before}

pub some_made : (ms : List SavepointRs) (m : SavepointRs) → slice_get ms (length ms - 1) ≡ Some m → innermost_made ms ≡ m.made
some_made [] m e = cc
some_made (k ∷ []) m e = let is : k ≡ m = cc in ap (λ (x : SavepointRs). x.made) is
some_made (k ∷ j ∷ ms) m e =
    some_made (j ∷ ms) m (ap (λ n. slice_get (k ∷ j ∷ ms) n) (let e : suc (length (j ∷ ms) - 1) ≡ length (k ∷ j ∷ ms) - 1 = omega arith in e) ∙ e)

pub none_made : (ms : List SavepointRs) → slice_get ms (length ms - 1) ≡ None → innermost_made ms ≡ 0
none_made [] e = refl
none_made (k ∷ []) e = cc
none_made (k ∷ j ∷ ms) e =
    none_made (j ∷ ms) (ap (λ n. slice_get (k ∷ j ∷ ms) n) (let e : suc (length (j ∷ ms) - 1) ≡ length (k ∷ j ∷ ms) - 1 = omega arith in e) ∙ e)

-- the copy of the innermost level has the number of its savepoint
pub made_is : (counts : List ℕ) (n : ℕ) (R : List OldValue) (vss : Values) (ms : List SavepointRs) → made_before (last_copy (map (copy_at R vss) (savepoints_from counts n ms))) ≡ innermost_made ms
made_is counts n R vss [] = refl
made_is counts n R vss (m ∷ []) = refl
made_is counts n R vss (m ∷ k ∷ ms) = made_is counts (n + 1) R vss (k ∷ ms)
