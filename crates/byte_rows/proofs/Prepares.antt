-- Slots are checked and memory is reserved before a row's slots are written.
use Rattle.std.proofs.Common.{◌≡◌, ℕ, ◌<◌, ◌≤◌, List, [], ◌∷◌, sym, subst, arith}
use Rattle.std.specs.List.{Contains}
use Rattle.byte_rows.specs.declared.places.Place.{Place}
use Rattle.byte_rows.specs.Places.{AreReady, IsReady, place_in}

-- what is known of slots counts alone
pub ready_same : (old new : List Place) (slots : List ℕ) (row previous owner : ℕ) → ((k : ℕ) → place_in new k ≡ place_in old k) → AreReady old slots row previous owner → AreReady new slots row previous owner
ready_same old new [] row previous owner same ready = tt
ready_same old new (at ∷ rest) row previous owner same ready =
    (ready.0, subst (λ (p : Place). IsReady p row previous owner) (sym (same at)) ready.1, ready_same old new rest row at owner same ready.2)

pub all_reached : (slots : List ℕ) (most many : ℕ) → ((k : ℕ) → Contains slots k → k ≤ most) → most < many → (k : ℕ) → Contains slots k → k < many
all_reached slots most many below lt k there = let le = below k there in omega (arith, le, lt)
