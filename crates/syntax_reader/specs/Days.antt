-- Date literals as values.
use Rattle.std.specs.Prelude.{ℕ, ℤ, ◌≡◌, Option, Some, None, pos, slice_get}
use Rattle.abl_base.specs.declared.value.Value.{Value}
use Rattle.abl_base.specs.declared.value.Value.TheVariants as value
use Rattle.abl_values.specs.Dates.{date_from}
use Rattle.parse_tree.specs.declared.token.CivilDate.{CivilDate}
use Rattle.parse_tree.specs.declared.token.Token.{Token}
use Rattle.parse_tree.specs.declared.token.Meaning.TheVariants.{Day}
use Rattle.syntax_reader.specs.Nodes.{Source}

-- the value of a day number, if there is one
abbrev pub as_date : Option ℤ → Option Value
as_date None = None
as_date (Some day) = Some (value.Date day)

-- the value of the day that a date names
abbrev pub dated : CivilDate → Option Value
dated d = as_date (date_from (pos d.month) (pos d.day) (pos d.year))

-- token k is a date literal of this value
pub record IsDated (c : Source) (k : ℕ) (v : Value) : Type 0 where
  pub token : Token
  pub date : CivilDate
  pub there : slice_get c.tokens k ≡ Some token
  pub spelled : token.meaning ≡ Day date
  pub is : dated date ≡ Some v
