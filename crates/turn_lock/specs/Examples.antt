-- Worked rows of the definitions, over entries that are a client and a number.
use Rattle.std.specs.Prelude.{◌≡◌, ℕ, List, [], ◌∷◌, ◌++◌, refl}
use mathlib.Core.Logic.{inl, inr}
use Rattle.turn_lock.specs.Journal.{own_entries, Adds}
use Rattle.turn_lock.specs.Shared.{Lock}
use Rattle.turn_lock.specs.Passes.{passes_from}

abbrev Entries : Type 0
Entries = List (ℕ × ℕ)

abbrev client : ℕ × ℕ → ℕ
client e = e.0

-- clients 3 and 4 by turns
abbrev log : Entries
log = (3, 10) ∷ (4, 20) ∷ (3, 11) ∷ []

-- the entries of each, in order
pub first_has_two : own_entries client 3 log ≡ (3, 10) ∷ (3, 11) ∷ []
first_has_two = refl

pub second_has_one : own_entries client 4 log ≡ (4, 20) ∷ []
second_has_one = refl

pub another_has_none : own_entries client 5 log ≡ []
another_has_none = refl

-- a turn that adds nothing, and one that adds an entry of its client
pub may_add_nothing : Adds client 4 log log
may_add_nothing = inl refl

pub may_add_one : Adds client 4 log (log ++ (4, 21) ∷ [])
may_add_one = inr ((4, 21), refl, refl)

module _ {T : Type 0} (lock : Lock T) where
  -- no pass, and two from client 3 on
  pub no_passes : passes_from {E = ℕ × ℕ} lock 3 0 ≡ []
  no_passes = refl

  pub two_passes : passes_from {E = ℕ × ℕ} lock 3 2 ≡ record { lock = lock; client = 3; list = [] } ∷ record { lock = lock; client = 4; list = [] } ∷ []
  two_passes = refl
