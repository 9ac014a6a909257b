-- Slots that belong to something.
use Rattle.std.proofs.Common.{◌≡◌, inl, inr, ℕ, ◌<◌}
use Rattle.disk_database.specs.Parts.{IsUnused}

-- a slot that is none of the three belongs to something
pub is_used : (text k : ℕ) → (k ≡ 0 → ⊥) → (text < k → k < 5000 → ⊥) → (5008 < k → k < 8192 → ⊥) → ¬ IsUnused text k
is_used text k first after between (inl is) = first is
is_used text k first after between (inr (inl is)) = after is.0 is.1
is_used text k first after between (inr (inr is)) = between is.0 is.1
