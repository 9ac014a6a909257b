-- Which slots are free, and which of them a draw takes.
use Rattle.std.specs.Prelude.{◌≡◌, ℕ, ◌+◌, ◌-◌, ◌<◌, ◌≤◌, ◌==◌, nat_le, if◌then◌else◌, List, [], ◌∷◌, sum_by}

-- how often the number occurs in the list
abbrev pub times : ℕ → List ℕ → ℕ
times x items = sum_by (λ y. if y == x then 1 else 0) items

-- 1 if the slot is free, else 0. `back` contains each slot given back as its distance from the last slot.
-- All slots from `end` on are free too.
abbrev pub free_in : List ℕ → ℕ → ℕ → ℕ
free_in back end slot = if nat_le 1048576 slot then 0 else times (1048575 - slot) back + (if nat_le end slot then 1 else 0)

-- the slots that are free without this one
abbrev pub without : ℕ → (ℕ → ℕ) → ℕ → ℕ
without slot free k = if k == slot then 0 else free k

-- these slots were drawn, each as the lowest of those that were free then
abbrev pub Takes : (ℕ → ℕ) → List ℕ → (ℕ → ℕ) → Type 0
Takes free [] left = (k : ℕ) → left k ≡ free k
Takes free (slot ∷ later) left = (free slot ≡ 1) × ((k : ℕ) → k < slot → free k ≡ 0) × Takes (without slot free) later left

-- each is the number of a slot for rows
abbrev pub AreSlots : List ℕ → Type 0
AreSlots [] = Unit {0}
AreSlots (slot ∷ later) = (8192 ≤ slot) × (slot < 1048576) × AreSlots later

-- no number occurs twice in the list
abbrev pub AreDifferent : List ℕ → Type 0
AreDifferent [] = Unit {0}
AreDifferent (slot ∷ later) = (times slot later ≡ 0) × AreDifferent later
