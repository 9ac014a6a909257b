-- The place of the end token in a list of tokens.
use Rattle.std.specs.Prelude.{Bool, true, false, not, ◌&&◌, List, [], ◌∷◌}
use Rattle.parse_tree.specs.declared.token.TokenKind.{TokenKind}
use Rattle.parse_tree.specs.declared.token.TokenKind.TheVariants.{EndOfSource}
use Rattle.parse_tree.specs.declared.token.Token.{Token}

-- the end of the source
abbrev pub is_end : TokenKind → Bool
is_end EndOfSource = true
is_end _ = false

-- the end token is the last, and occurs nowhere else
abbrev pub ends_once : List Token → Bool
ends_once [] = false
ends_once (t ∷ []) = is_end t.kind
ends_once (t ∷ u ∷ ts) = not (is_end t.kind) && ends_once (u ∷ ts)
