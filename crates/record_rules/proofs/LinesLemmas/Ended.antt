-- A line whose text continues after a name.
use Rattle.std.proofs.Common.{◌≡◌, ℕ, List, [], ◌∷◌, ◌++◌, sym, append_assoc}

-- the line feed may be appended to the text, or to the name followed by the text
pub ended : (name text : List ℕ) → name ++ (text ++ 10 ∷ []) ≡ (name ++ text) ++ 10 ∷ []
ended name text = sym (append_assoc name text (10 ∷ []))
