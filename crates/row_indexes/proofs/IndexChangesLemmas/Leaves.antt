-- Moves that leave indexes in ascending order can be made one after the other.
use Rattle.std.proofs.Common.{◌≡◌, ℕ, ◌+◌, ◌≤◌, Bool, List, [], ◌∷◌, refl, sym, ◌∙◌, subst, arith}
use Rattle.row_indexes.specs.declared.moves.Move.{Move}
use Rattle.row_indexes.specs.Places.{AreWithin, Keepers, Places, owner_after, with_place}
use Rattle.row_indexes.specs.Making.{CanMake, CanMakeOne, HasPlace, with_keeper}
use Rattle.row_indexes.specs.index_changes.Leaving.{AreLeaves, CanLeave, CanLeaveAll}
use Rattle.row_indexes.proofs.IndexChangesLemmas.Restored.{not_placed_at, not_kept_at}

pub leaves_within : (client row count lowest : ℕ) (moves : List Move) (places : Places) (keepers : Keepers) → CanLeaveAll client row count lowest moves places keepers → AreWithin count moves
leaves_within client row count lowest [] places keepers can = tt
leaves_within client row count lowest (m ∷ later) places keepers can = (can.1.0.within, leaves_within client row count (m.index + 1) later places keepers can.1.1)

pub all_leave : (client row count lowest : ℕ) (moves : List Move) (places : Places) (keepers : Keepers) → CanLeaveAll client row count lowest moves places keepers → AreLeaves moves
all_leave client row count lowest [] places keepers can = tt
all_leave client row count lowest (m ∷ later) places keepers can = (can.1.0.leaves, all_leave client row count (m.index + 1) later places keepers can.1.1)

-- these places and keepers are those, in the indexes from `lowest` on
record IsSameFrom (lowest : ℕ) (places : Places) (keepers : Keepers) (places2 : Places) (keepers2 : Keepers) : Type 0 where
  place : (j : ℕ) (key : List ℕ) (at : ℕ) → lowest ≤ j → places2 j key at ≡ places j key at
  keeper : (j : ℕ) (key : List ℕ) → lowest ≤ j → keepers2 j key ≡ keepers j key

leave_one : (client row count lowest : ℕ) (m : Move) (places : Places) (keepers : Keepers) (places2 : Places) (keepers2 : Keepers) → lowest ≤ m.index → CanLeave client row count m places keepers
    → IsSameFrom lowest places keepers places2 keepers2 → CanMakeOne client row m places2 keepers2
leave_one client row count lowest m places keepers places2 keepers2 from can same = record {
  place = subst (λ (b : Bool). HasPlace client b (places2 m.index m.key row)) (sym can.leaves) (same.place m.index m.key row from ∙ can.entry);
  unkept = λ unique other kept. can.unkept unique other (sym (same.keeper m.index m.key from) ∙ kept);
}

made_from : (client row lowest : ℕ) (m : Move) (places : Places) (keepers : Keepers) (places2 : Places) (keepers2 : Keepers) → lowest ≤ m.index → IsSameFrom lowest places keepers places2 keepers2
    → IsSameFrom (m.index + 1) places keepers (with_place places2 m row (owner_after client m)) (with_keeper keepers2 m client)
made_from client row lowest m places keepers places2 keepers2 from same = record {
  place = λ j key at above. not_placed_at places2 m row (owner_after client m) j key at (λ at_m. omega (arith, above, at_m.index)) ∙ same.place j key at (omega (arith, above, from));
  keeper = λ j key above. not_kept_at keepers2 m client j key (λ index_is key_is. omega (arith, above, index_is)) ∙ same.keeper j key (omega (arith, above, from));
}

leaves_can_from : (client row count lowest : ℕ) (moves : List Move) (places : Places) (keepers : Keepers) (places2 : Places) (keepers2 : Keepers) → CanLeaveAll client row count lowest moves places keepers
    → IsSameFrom lowest places keepers places2 keepers2 → CanMake client row moves places2 keepers2
leaves_can_from client row count lowest [] places keepers places2 keepers2 can same = tt
leaves_can_from client row count lowest (m ∷ later) places keepers places2 keepers2 can same = (
  leave_one client row count lowest m places keepers places2 keepers2 can.0 can.1.0 same,
  leaves_can_from client row count (m.index + 1) later places keepers (with_place places2 m row (owner_after client m)) (with_keeper keepers2 m client) can.1.1
      (made_from client row lowest m places keepers places2 keepers2 can.0 same),
)

pub leaves_can : (client row count lowest : ℕ) (moves : List Move) (places : Places) (keepers : Keepers) → CanLeaveAll client row count lowest moves places keepers → CanMake client row moves places keepers
leaves_can client row count lowest moves places keepers can = leaves_can_from client row count lowest moves places keepers places keepers can (record { place = λ j key at from. refl; keeper = λ j key from. refl })
