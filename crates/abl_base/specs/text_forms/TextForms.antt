-- The forms of values in texts that expressions and statements use, besides the plain text and the text of EXPORT.
use Rattle.std.specs.Prelude.{ℕ, List, Option, ℤ}
use Rattle.abl_base.specs.declared.value.Value.{Value}
use Rattle.abl_base.specs.declared.value.Kind.{Kind}

-- what a line of input has for the targets of an IMPORT
pub data Imported : Type 0 where
  -- the input is at its end
  AtInputEnd : Imported
  -- the element of this number, from 1, is the first that is no text of its kind. The next line begins at `next`
  BadElement : (number next : ℕ) → Imported
  -- a value for each target; None where its element is missing, a bare `-`, or skipped
  Elements : (values : List (Option Value)) (next : ℕ) → Imported

-- the forms of values in texts
pub record TextForms : Type 0 where
  -- the text of a value under a mask
  pub masked : List ℕ → Value → List ℕ
  -- the number times 10^10 that a text denotes, if it is the text of a DECIMAL
  pub number_in : List ℕ → Option ℤ
  -- the line that begins at a place of an input, for targets of these kinds. A target without a kind passes over one element
  pub line_at : List ℕ → ℕ → List (Option Kind) → Imported
