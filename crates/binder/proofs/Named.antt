-- The buffers of a procedure, one naming after the other.
use Rattle.std.proofs.Common.{◌≡◌, ℕ, ◌+◌, Bool, true, false, List, [], ◌∷◌, map, Option, Some, refl}
use Rattle.std.specs.Prelude.{◌||◌, if◌then◌else◌}
use Rattle.std.specs.Option.{is_some}
use Rattle.std.specs.List.{list_any}
use Rattle.abl_values.specs.Schema.{number_of_name, same_name}
use Rattle.bind_names.specs.declared.names.NamedBuffer.{NamedBuffer}
use Rattle.bind_names.specs.Names.{has_name}

numbered : (k : ℕ) (bs : List NamedBuffer) (name : List ℕ) → is_some (number_of_name k (map (λ b. b.name) bs) name) ≡ list_any (has_name name) bs
numbered k [] name = refl
numbered k (b ∷ bs) name = go (same_name b.name name) (numbered (k + 1) bs name)
  where
    go : (c : Bool) → is_some (number_of_name (k + 1) (map (λ b. b.name) bs) name) ≡ list_any (has_name name) bs →
        is_some {T = ℕ} (if c then Some k else number_of_name (k + 1) (map (λ b. b.name) bs) name) ≡ (c || list_any (has_name name) bs)
    go true h = refl
    go false h = h

pub is_there : (bs : List NamedBuffer) (name : List ℕ) → is_some (number_of_name 0 (map (λ b. b.name) bs) name) ≡ list_any (has_name name) bs
is_there bs name = numbered 0 bs name
