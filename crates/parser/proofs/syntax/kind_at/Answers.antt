use Rattle.std.proofs.Common.{ℕ, zero, suc, ◌<◌, ◌≡◌, List, [], ◌∷◌, length, slice_index_or, refl, arith}
use Rattle.parse_tree.specs.declared.token.Token.{Token}
use Rattle.parse_tree.specs.declared.token.TokenKind.{TokenKind}
use Rattle.parser.specs.Grammar.{kinds}
use Rattle.parser.proofs.syntax.kind_at.Goals as goal

kind_is : (tokens : List Token) (at : ℕ) (d : Token) (k : TokenKind) → at < length tokens → (slice_index_or tokens at d).kind ≡ slice_index_or (kinds tokens) at k
kind_is [] at d k h = absurd (omega arith)
kind_is (t ∷ tokens) zero d k h = refl
kind_is (t ∷ tokens) (suc at) d k h = kind_is tokens at d k (omega arith)

pub returns : goal.returns
returns c = kind_is _ _ _ _ c.requires
