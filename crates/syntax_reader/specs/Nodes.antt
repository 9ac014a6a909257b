-- What the reader sees of a source: its tokens, and the nodes of its tree by their numbers.
use Rattle.std.specs.Prelude.{ℕ, ℤ, ◌+◌, ◌≡◌, List, [], ◌∷◌, Option, Some, None, Bool, true, false, slice_get, pos, neg_ℤ}
use Rattle.abl_base.specs.declared.place.Place.{Place}
use Rattle.abl_values.specs.Dates.{date_from}
use Rattle.parse_tree.specs.declared.token.CivilDate.{CivilDate}
use Rattle.parse_tree.specs.declared.token.Token.{Token}
use Rattle.parse_tree.specs.declared.token.Meaning.TheVariants.{Spelling, Parts, Whole, Scaled, Day, TextBytes}
use Rattle.parse_tree.specs.declared.tree.Node.{Node}
use Rattle.syntax_tree.specs.declared.name.Named.{Named}
use Rattle.syntax_tree.specs.declared.name.Named.TheVariants.{Qualified}
use Rattle.syntax_tree.specs.declared.name.Word.{Word}

-- the tokens of a source, and the nodes of its tree
pub record Source : Type 0 where
  pub tokens : List Token
  pub nodes : List Node

-- node n uses the production, and its first token has the number k
pub record Uses (c : Source) (n production k : ℕ) : Type 0 where
  pub end : ℕ
  pub there : slice_get c.nodes n ≡ Some (record { production = production; first = k; end = end })

-- token k has this place
pub record IsAt (c : Source) (k : ℕ) (at : Place) : Type 0 where
  pub token : Token
  pub there : slice_get c.tokens k ≡ Some token
  pub placed : at ≡ token.place

-- token k is this name
pub record IsName (c : Source) (k : ℕ) (word : Word) : Type 0 where
  pub token : Token
  pub there : slice_get c.tokens k ≡ Some token
  pub spelled : token.meaning ≡ Spelling word.spelling
  pub placed : word.at ≡ token.place

-- token k is this qualified name
pub record IsQualified (c : Source) (k : ℕ) (name : Named) : Type 0 where
  pub token : Token
  pub buffer : List ℕ
  pub field : List ℕ
  pub there : slice_get c.tokens k ≡ Some token
  pub spelled : token.meaning ≡ Parts buffer field
  pub is : name ≡ Qualified buffer field token.place

-- token k is a text literal of these bytes
pub record IsText (c : Source) (k : ℕ) (word : Word) : Type 0 where
  pub token : Token
  pub there : slice_get c.tokens k ≡ Some token
  pub spelled : token.meaning ≡ TextBytes word.spelling
  pub placed : word.at ≡ token.place

-- a number, negative where a minus sign is before it
abbrev pub signed : Bool → ℕ → ℤ
signed false x = pos x
signed true x = neg_ℤ (pos x)

-- token k is a whole number of this value
pub record IsWhole (c : Source) (k : ℕ) (x : ℕ) : Type 0 where
  pub token : Token
  pub there : slice_get c.tokens k ≡ Some token
  pub spelled : token.meaning ≡ Whole x

-- token k is a decimal number, x times 10^-10
pub record IsScaled (c : Source) (k : ℕ) (x : ℕ) : Type 0 where
  pub token : Token
  pub there : slice_get c.tokens k ≡ Some token
  pub spelled : token.meaning ≡ Scaled x

-- token k is a date literal of the day with this number
pub record IsDay (c : Source) (k : ℕ) (day : ℤ) : Type 0 where
  pub token : Token
  pub date : CivilDate
  pub there : slice_get c.tokens k ≡ Some token
  pub spelled : token.meaning ≡ Day date
  pub is : date_from (pos date.month) (pos date.day) (pos date.year) ≡ Some day

-- Parts in a row: a node that uses `more` has one part inside and is followed by the node of the rest, and one that uses `none` ends the row.
pub data AreAll {A : Type 0} (c : Source) (more none : ℕ) (Is : ℕ → ℕ → A → Type 0) : ℕ → ℕ → List A → Type 0 where
  all_read : {n k : ℕ} → Uses c n none k → AreAll c more none Is n (n + 1) []
  one_more : {n k m l : ℕ} {a : A} {rest : List A} → Uses c n more k → Is (n + 1) m a → AreAll c more none Is m l rest → AreAll c more none Is n l (a ∷ rest)

-- a word that may be left out
pub data IsWordThere (c : Source) (present absent : ℕ) : ℕ → Bool → Type 0 where
  word_there : {n k : ℕ} → Uses c n present k → IsWordThere c present absent n true
  no_word : {n k : ℕ} → Uses c n absent k → IsWordThere c present absent n false

-- a name that may be left out: the last token of the node that uses `present`, `skipped` tokens after its first
pub data IsNameThere (c : Source) (present absent skipped : ℕ) : ℕ → Option Word → Type 0 where
  name_there : {n k : ℕ} {word : Word} → Uses c n present k → IsName c (k + skipped) word → IsNameThere c present absent skipped n (Some word)
  no_name : {n k : ℕ} → Uses c n absent k → IsNameThere c present absent skipped n None

-- a text literal that may be left out: the token after the first one of the node that uses `present`
pub data IsTextThere (c : Source) (present absent : ℕ) : ℕ → Option Word → Type 0 where
  text_there : {n k : ℕ} {word : Word} → Uses c n present k → IsText c (k + 1) word → IsTextThere c present absent n (Some word)
  no_text : {n k : ℕ} → Uses c n absent k → IsTextThere c present absent n None
