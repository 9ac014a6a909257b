-- Worked examples, each computed from the definitions.
use Rattle.std.specs.Prelude.{◌≡◌, ◌==◌, if◌then◌else◌, refl, ℕ, List, [], ◌∷◌, ◌++◌, replicate, pos, negsuc}
use Rattle.abl_values.specs.Rows.{number_at_head, number_bytes}
use Rattle.sequence_slots.specs.Values.{bytes_of, part, slot_bytes, values_in, values_of}

-- 258 and -1
two_values : bytes_of (pos 258 ∷ negsuc 0 ∷ []) ≡ 0 ∷ 0 ∷ 0 ∷ 0 ∷ 0 ∷ 0 ∷ 1 ∷ 2 ∷ 255 ∷ 255 ∷ 255 ∷ 255 ∷ 255 ∷ 255 ∷ 255 ∷ 255 ∷ []
unfolding number_bytes
two_values = refl

-- kind 4, 8 bytes used, no next slot, no length, no table, the value, and zeros
a_slot_of_one : slot_bytes (pos 258 ∷ []) ≡ (4 ∷ 0 ∷ 0 ∷ 8 ∷ replicate 12 0) ++ (0 ∷ 0 ∷ 0 ∷ 0 ∷ 0 ∷ 0 ∷ 1 ∷ 2 ∷ replicate 232 0)
unfolding number_bytes
a_slot_of_one = refl

a_slot_of_none : slot_bytes [] ≡ replicate 256 0
a_slot_of_none = refl

-- of 31 values the first thirty are in slot 5,000, and the last one in slot 5,001
the_last_of_31 : part 1 (replicate 30 (pos 7) ++ pos 9 ∷ []) ≡ pos 9 ∷ []
the_last_of_31 = refl

read_again : values_of 2 (0 ∷ 0 ∷ 0 ∷ 0 ∷ 0 ∷ 0 ∷ 1 ∷ 2 ∷ 255 ∷ 255 ∷ 255 ∷ 255 ∷ 255 ∷ 255 ∷ 255 ∷ 254 ∷ []) ≡ pos 258 ∷ negsuc 1 ∷ []
unfolding number_at_head
read_again = refl

-- slots with the values 258 and, in the next slot, -1
abbrev two_slots : ℕ → List ℕ
two_slots k = slot_bytes (if k == 5000 then replicate 30 (pos 258) else (if k == 5001 then negsuc 0 ∷ [] else []))

the_values_of_two_slots : values_in 31 two_slots ≡ replicate 30 (pos 258) ++ negsuc 0 ∷ []
unfolding number_bytes number_at_head values_in
the_values_of_two_slots = refl
