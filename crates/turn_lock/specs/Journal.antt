-- The entries of one client in a list of entries, and how a turn may change the list.
use Rattle.std.specs.Prelude.{◌≡◌, ℕ, List, [], ◌∷◌, ◌++◌, ◌⊎◌, ◌==◌}
use Rattle.std.specs.List.{filter}

module _ {E : Type 0} (client : E → ℕ) where
  -- the entries of one client, in order
  abbrev pub own_entries : ℕ → List E → List E
  own_entries n log = filter (λ e. client e == n) log

  -- the list is that one, and at most one more entry, of this client
  abbrev pub Adds : ℕ → List E → List E → Type 0
  Adds n before after = (after ≡ before) ⊎ ((e : E) × (client e ≡ n) × (after ≡ before ++ e ∷ []))
