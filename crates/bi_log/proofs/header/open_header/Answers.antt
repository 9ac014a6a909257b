use Rattle.std.proofs.Common.{ℕ, ◌≡◌, List, ◌∷◌, [], get_or, refl, ◌∙◌, ap}
use Rattle.std.specs.Int.{w64, to_be_bytes}
use Rattle.log_meaning.specs.Bytes.{eight, header_bytes}
use Rattle.bi_log.proofs.header.open_header.Goals as goal

abbrev laid_out : List ℕ → List ℕ
laid_out g = 1 ∷ 65 ∷ 66 ∷ 76 ∷ 66 ∷ 73 ∷ 48 ∷ 48 ∷ 49 ∷ get_or g 0 0 ∷ get_or g 1 0 ∷ get_or g 2 0 ∷ get_or g 3 0 ∷ get_or g 4 0 ∷ get_or g 5 0 ∷ get_or g 6 0 ∷ get_or g 7 0 ∷ 0 ∷ 0 ∷ 0 ∷ 0 ∷ 0 ∷ 0 ∷ 0 ∷ 0 ∷ 0 ∷ 0 ∷ 0 ∷ 0 ∷ 0 ∷ 0 ∷ 0 ∷ []

laid_is : (n : ℕ) → laid_out (to_be_bytes w64 n) ≡ 1 ∷ header_bytes n
unfolding header_bytes eight
laid_is n = refl

pub returns : goal.returns
returns c = ap laid_out c.to_be_bytes-g.ensures ∙ laid_is c.args.head.now.generation
