-- Worked examples, each computed from the definitions.
use Rattle.std.specs.Prelude.{◌≡◌, [], ◌∷◌, ◌++◌, replicate, refl}
use Rattle.abl_values.specs.Rows.{number_bytes}
use Rattle.database_layout.specs.contents.Chains.{chain_slot, counted}

-- the schema without tables and sequences has no text: slot 1 is of kind 3, with nothing used, no next slot and no length
no_text : chain_slot 3 3 0 (counted 1 1) [] 0 ≡ 3 ∷ replicate 255 0
unfolding number_bytes
no_text = refl

-- a text of 241 bytes takes slots 1 and 2: slot 1 names slot 2 and has the length
first_part : chain_slot 3 3 0 (counted 1 2) (replicate 241 65) 0 ≡ (3 ∷ 0 ∷ 0 ∷ 240 ∷ 0 ∷ 0 ∷ 0 ∷ 2 ∷ 0 ∷ 0 ∷ 0 ∷ 241 ∷ 0 ∷ 0 ∷ 0 ∷ 0 ∷ []) ++ replicate 240 65
unfolding number_bytes
first_part = refl

last_part : chain_slot 3 3 0 (counted 1 2) (replicate 241 65) 1 ≡ (3 ∷ 0 ∷ 0 ∷ 1 ∷ replicate 12 0) ++ 65 ∷ replicate 239 0
unfolding number_bytes
last_part = refl

-- a row of table 5 in slots 9,000 and 8,192: the second fragment has neither length nor table
first_fragment : chain_slot 1 2 5 (9000 ∷ 8192 ∷ []) (replicate 241 65) 0 ≡ (1 ∷ 0 ∷ 0 ∷ 240 ∷ 0 ∷ 0 ∷ 32 ∷ 0 ∷ 0 ∷ 0 ∷ 0 ∷ 241 ∷ 0 ∷ 5 ∷ 0 ∷ 0 ∷ []) ++ replicate 240 65
unfolding number_bytes
first_fragment = refl

second_fragment : chain_slot 1 2 5 (9000 ∷ 8192 ∷ []) (replicate 241 65) 1 ≡ (2 ∷ 0 ∷ 0 ∷ 1 ∷ replicate 12 0) ++ 65 ∷ replicate 239 0
unfolding number_bytes
second_fragment = refl
