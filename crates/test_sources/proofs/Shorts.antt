-- Texts of which none is longer than a file may be.
use Rattle.std.proofs.Common.{◌≡◌, ℕ, zero, suc, ◌≤◌, List, [], ◌∷◌, length, subst, sym, arith}
use Rattle.abl_base.specs.declared.limits.TheConstants.{MAX_FILE_BYTES}
use Rattle.preprocessor.specs.declared.texts.NamedText.{NamedText}
use Rattle.preprocessor.specs.Texts.{bytes_at}

abbrev pub AreShort : List NamedText → Type 0
AreShort texts = (i : ℕ) → length (bytes_at texts i) ≤ MAX_FILE_BYTES

pub none_short : (texts : List NamedText) → texts ≡ [] → AreShort texts
none_short texts is = let short : AreShort [] = λ i. omega arith in subst AreShort (sym is) short

short_before : (text : NamedText) (rest : List NamedText) → length text.bytes ≤ MAX_FILE_BYTES → AreShort rest → AreShort (text ∷ rest)
short_before text rest one others zero = one
short_before text rest one others (suc i) = others i

pub more_short : (text : NamedText) (texts rest : List NamedText) → texts ≡ text ∷ rest → length text.bytes ≤ MAX_FILE_BYTES → AreShort rest → AreShort texts
more_short text texts rest is one others = subst AreShort (sym is) (short_before text rest one others)
