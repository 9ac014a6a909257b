-- Where a reference ends.
use Rattle.std.specs.Prelude.{ℕ, ◌+◌, if◌then◌else◌, List, [], ◌∷◌, Option, Some, None}
use Rattle.preprocessor.specs.declared.mode.Mode.{Mode}
use Rattle.preprocessor.specs.Modes.{after, closes, inner, next_byte, opens, within}

-- one more byte before it
abbrev pub one_more : Option ℕ → Option ℕ
one_more None = None
one_more (Some n) = Some (n + 1)

-- The number of bytes before the } that closes the outermost open reference. m is the mode in the innermost; `outer` has
-- for each of those around it the quotation mark of the TEXT that is open in it, or 0.
abbrev pub closing : List ℕ → Mode → List ℕ → Option ℕ
closing outer m [] = None
closing [] m (b ∷ bs) =
    if opens m b then one_more (closing (m.quote ∷ []) inner bs)
    else if closes m b then Some 0
    else one_more (closing [] (after m b (next_byte bs)) bs)
closing (q ∷ qs) m (b ∷ bs) =
    if opens m b then one_more (closing (m.quote ∷ q ∷ qs) inner bs)
    else if closes m b then one_more (closing qs (within q) bs)
    else one_more (closing (q ∷ qs) (after m b (next_byte bs)) bs)
