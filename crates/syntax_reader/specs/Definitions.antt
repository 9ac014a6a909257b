-- Which definition a node denotes, a constructor a production.
use Rattle.std.specs.Prelude.{ℕ, ℤ, ◌+◌, List, Bool, true, false}
use Rattle.abl_base.specs.declared.place.Place.{Place}
use Rattle.abl_base.specs.declared.value.Kind.{Kind}
use Rattle.abl_base.specs.declared.value.Kind.TheVariants as kind
use Rattle.abl_base.specs.declared.value.Value.{Value}
use Rattle.abl_base.specs.declared.value.Value.TheVariants as value
use Rattle.parse_tree.specs.declared.production.TheConstants as p
use Rattle.syntax_tree.specs.declared.definition.VariableOption.{VariableOption}
use Rattle.syntax_tree.specs.declared.definition.VariableOption.TheVariants as option
use Rattle.syntax_tree.specs.declared.name.Word.{Word}
use Rattle.syntax_tree.specs.declared.word.Direction.{Direction}
use Rattle.syntax_tree.specs.declared.word.Direction.TheVariants as direction
use Rattle.syntax_tree.specs.Syntax as s
use Rattle.syntax_tree.specs.Syntax.{Definition}
use Rattle.syntax_reader.specs.Nodes.{Source, Uses, IsAt, IsName, IsText, IsWhole, IsScaled, IsDay, IsWordThere, AreAll, signed}

-- DataType
pub data IsKind (c : Source) : ℕ → Kind → Type 0 where
  character : {n k : ℕ} → Uses c n p.DATA_TYPE_CHARACTER k → IsKind c n kind.Character
  integer : {n k : ℕ} → Uses c n p.DATA_TYPE_INTEGER k → IsKind c n kind.Integer
  int64 : {n k : ℕ} → Uses c n p.DATA_TYPE_INT64 k → IsKind c n kind.Int64
  decimal : {n k : ℕ} → Uses c n p.DATA_TYPE_DECIMAL k → IsKind c n kind.Decimal
  logical : {n k : ℕ} → Uses c n p.DATA_TYPE_LOGICAL k → IsKind c n kind.Logical
  date : {n k : ℕ} → Uses c n p.DATA_TYPE_DATE k → IsKind c n kind.Date

-- LiteralNumber, after a minus sign or none
pub data IsNumber (c : Source) : ℕ → Bool → Value → Type 0 where
  whole : {n k x : ℕ} {minus : Bool} → Uses c n p.LITERAL_NUMBER_WHOLE_NUMBER k → IsWhole c k x → IsNumber c n minus (value.Int64 (signed minus x))
  scaled : {n k x : ℕ} {minus : Bool} → Uses c n p.LITERAL_NUMBER_DECIMAL_NUMBER k → IsScaled c k x → IsNumber c n minus (value.Dec (signed minus x))

-- Literal
pub data IsLiteral (c : Source) : ℕ → ℕ → Value → Place → Type 0 where
  number : {n k : ℕ} {minus : Bool} {v : Value} {at : Place} → Uses c n p.LITERAL_LITERAL_SIGN k → IsAt c k at → IsWordThere c p.LITERAL_SIGN_MINUS p.LITERAL_SIGN_NONE (n + 1) minus →
      IsNumber c (n + 2) minus v → IsLiteral c n (n + 3) v at
  text : {n k : ℕ} {word : Word} → Uses c n p.LITERAL_TEXT_LITERAL k → IsText c k word → IsLiteral c n (n + 1) (value.Text word.spelling) word.at
  date : {n k : ℕ} {day : ℤ} {at : Place} → Uses c n p.LITERAL_DATE_LITERAL k → IsDay c k day → IsAt c k at → IsLiteral c n (n + 1) (value.Date day) at
  yes : {n k : ℕ} {at : Place} → Uses c n p.LITERAL_YES k → IsAt c k at → IsLiteral c n (n + 1) (value.Logical true) at
  no : {n k : ℕ} {at : Place} → Uses c n p.LITERAL_NO k → IsAt c k at → IsLiteral c n (n + 1) (value.Logical false) at
  truth : {n k : ℕ} {at : Place} → Uses c n p.LITERAL_TRUE k → IsAt c k at → IsLiteral c n (n + 1) (value.Logical true) at
  falsehood : {n k : ℕ} {at : Place} → Uses c n p.LITERAL_FALSE k → IsAt c k at → IsLiteral c n (n + 1) (value.Logical false) at
  unknown : {n k : ℕ} {at : Place} → Uses c n p.LITERAL_QUESTION_MARK k → IsAt c k at → IsLiteral c n (n + 1) value.Unknown at

-- VariableOption
pub data IsVariableOption (c : Source) : ℕ → ℕ → VariableOption → Type 0 where
  no_undo : {n k : ℕ} {at : Place} → Uses c n p.VARIABLE_OPTION_NO_UNDO k → IsAt c k at → IsVariableOption c n (n + 1) (option.NoUndo at)
  initial : {n k m : ℕ} {v : Value} {at literal_at : Place} → Uses c n p.VARIABLE_OPTION_INITIAL k → IsAt c k at → IsLiteral c (n + 1) m v literal_at →
      IsVariableOption c n m (option.Initial at v literal_at)
  format : {n k j : ℕ} {at : Place} {mask : Word} → Uses c n p.VARIABLE_OPTION_FORMAT_OR_LABEL k → IsAt c k at → Uses c (n + 1) p.FORMAT_OR_LABEL_FORMAT j → IsText c (k + 1) mask →
      IsVariableOption c n (n + 2) (option.Format at mask)
  label : {n k j : ℕ} {at : Place} → Uses c n p.VARIABLE_OPTION_FORMAT_OR_LABEL k → IsAt c k at → Uses c (n + 1) p.FORMAT_OR_LABEL_LABEL j → IsVariableOption c n (n + 2) (option.Label at)

-- VariableOptions
abbrev pub AreVariableOptions : Source → ℕ → ℕ → List VariableOption → Type 0
AreVariableOptions c = AreAll c p.VARIABLE_OPTIONS_VARIABLE_OPTION p.VARIABLE_OPTIONS_NONE (IsVariableOption c)

-- Direction
pub data IsDirection (c : Source) : ℕ → Direction → Type 0 where
  input : {n k : ℕ} → Uses c n p.DIRECTION_INPUT k → IsDirection c n direction.Input
  output : {n k : ℕ} → Uses c n p.DIRECTION_OUTPUT k → IsDirection c n direction.Output
  input_output : {n k : ℕ} → Uses c n p.DIRECTION_INPUT_OUTPUT k → IsDirection c n direction.InputOutput

-- Definition
pub data IsDefinition (c : Source) : ℕ → ℕ → Definition → Type 0 where
  variable : {n k m : ℕ} {name : Word} {kind : Kind} {options : List VariableOption} → Uses c n p.DEFINITION_VARIABLE k → IsName c (k + 1) name → IsKind c (n + 1) kind →
      AreVariableOptions c (n + 2) m options → IsDefinition c n m (s.Variable name kind options)
  buffer : {n k : ℕ} {name table : Word} → Uses c n p.DEFINITION_BUFFER k → IsName c (k + 1) name → IsName c (k + 3) table → IsDefinition c n (n + 1) (s.Buffer name table)
  stream : {n k : ℕ} {name : Word} → Uses c n p.DEFINITION_STREAM k → IsName c (k + 1) name → IsDefinition c n (n + 1) (s.Stream name)
  parameter : {n k m : ℕ} {direction : Direction} {at : Place} {name : Word} {kind : Kind} {options : List VariableOption} → Uses c n p.DEFINITION_DIRECTION k →
      IsDirection c (n + 1) direction → IsAt c (k + 1) at → IsName c (k + 2) name → IsKind c (n + 2) kind → AreVariableOptions c (n + 3) m options →
      IsDefinition c n m (s.Parameter direction at name kind options)
