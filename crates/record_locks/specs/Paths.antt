-- The paths that a search for a cycle has found. In a path each client waits for the next.
use Rattle.std.specs.Prelude.{◌≡◌, ℕ, ◌<◌, ◌≤◌, List, [], ◌∷◌, length, slice_index_or}
use Rattle.std.specs.List.{All, Any, Contains}
use Rattle.database_meaning.specs.Waiting.{IsDistinct}
use Rattle.record_locks.specs.declared.search.Path.{Path}

-- from client a over the listed ones each waits for the next, and the last is b
abbrev pub Leads : (ℕ → ℕ → Type 0) → ℕ → List ℕ → ℕ → Type 0
Leads Waits a [] b = a ≡ b
Leads Waits a (x ∷ xs) b = Waits a x × Leads Waits x xs b

-- some path ends at the client
abbrev pub IsReached : List Path → ℕ → Type 0
IsReached paths b = Any (λ path. path.end ≡ b) paths

-- a path from client c: its clients all differ, and to each of them leads one of the paths
pub record IsPath (Waits : ℕ → ℕ → Type 0) (c : ℕ) (paths : List Path) (path : Path) : Type 0 where
  pub others : List ℕ
  pub way : path.way.items ≡ c ∷ others
  pub leads : Leads Waits c others path.end
  pub distinct : IsDistinct (c ∷ others)
  pub reached : (m : ℕ) → Contains (c ∷ others) m → IsReached paths m

abbrev pub ArePaths : (ℕ → ℕ → Type 0) → ℕ → List Path → Type 0
ArePaths Waits c paths = All (IsPath Waits c paths) paths

-- the new list has the old one's paths at their places
pub record Extends (old new : List Path) : Type 0 where
  pub longer : length old ≤ length new
  pub kept : (j : ℕ) (d : Path) → j < length old → slice_index_or new j d ≡ slice_index_or old j d

-- each client below the bound that the end of a path waits for is reached
abbrev pub IsFollowed : (ℕ → ℕ → Type 0) → ℕ → List Path → ℕ → Type 0
IsFollowed Waits bound paths end = (b : ℕ) → b < bound → Waits end b → IsReached paths b

-- the first paths do not lead back to client c, and are followed
abbrev pub AreDone : (ℕ → ℕ → Type 0) → ℕ → ℕ → List Path → ℕ → Type 0
AreDone Waits c bound paths n =
    (j : ℕ) (d : Path) → j < n → j < length paths → (¬ Waits (slice_index_or paths j d).end c) × IsFollowed Waits bound paths (slice_index_or paths j d).end
