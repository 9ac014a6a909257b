-- The durable state that a stop leaves, at successive moments.
use Rattle.std.specs.Prelude.{◌≡◌, ◌⊎◌, ℕ, ◌<◌, ◌≤◌, IsTrue, false, List, ℤ}
use Rattle.row_store.specs.Rows.{RowState, Durable, durable_of, commit_of}

-- the present moment, the first moment of which stops are known, and what a commit in doubt would leave; separate from the state
pub record Times : Type 0 where
  pub moment : ℕ
  pub since : ℕ
  pub doubt : Durable

-- What is known up to the old moment is unchanged. At a later moment a stop leaves the old committed state or that of the commit in doubt.
pub record Goes (old : RowState) (before after : ℕ → Durable → Type 0) (was now : Times) : Type 0 where
  pub later : was.moment ≤ now.moment
  pub since : now.since ≡ was.since
  pub nothing_else : (m : ℕ) (left : Durable) → m ≤ was.moment → after m left → before m left
  pub stays : (m : ℕ) (left : Durable) → m ≤ was.moment → before m left → after m left
  pub here : (m : ℕ) (left : Durable) → was.moment < m → after m left → ∥ (left ≡ durable_of old) ⊎ (left ≡ now.doubt) ∥₁

-- time advances, and where the store is observable the commit in doubt is unchanged
pub record Rests (old : RowState) (before after : ℕ → Durable → Type 0) (was now : Times) : Type 0 where
  pub goes : Goes old before after was now
  pub doubt : IsTrue old.observable → now.doubt ≡ was.doubt

-- where observable, the doubt is unchanged, or the store had not failed and the doubt is what this commit would leave
abbrev pub IsInDoubt : RowState → ℕ → List ℤ → Times → Times → Type 0
IsInDoubt old client sequences was now = IsTrue old.observable → (now.doubt ≡ was.doubt) ⊎ ((old.failed ≡ false) × (now.doubt ≡ commit_of old client sequences))

-- a known stop: the store is observable, and the moment is from `since` to the present one
pub record IsStop (s : RowState) (t : Times) (m : ℕ) : Type 0 where
  pub observable : IsTrue s.observable
  pub from : t.since ≤ m
  pub past : m ≤ t.moment
