-- Which statement a node denotes that has no statement inside, a constructor a production.
use Rattle.std.specs.Prelude.{ℕ, ◌+◌, ◌≡◌, List, [], ◌∷◌, Option, Bool}
use Rattle.abl_base.specs.declared.place.Place.{Place}
use Rattle.parse_tree.specs.declared.production.TheConstants as p
use Rattle.syntax_tree.specs.declared.name.Named.{Named}
use Rattle.syntax_tree.specs.declared.name.Named.TheVariants.{Plain}
use Rattle.syntax_tree.specs.declared.name.Word.{Word}
use Rattle.syntax_tree.specs.declared.word.FindWhich.{FindWhich}
use Rattle.syntax_tree.specs.declared.word.FindWhich.TheVariants as which
use Rattle.syntax_tree.specs.Syntax as s
use Rattle.syntax_tree.specs.Syntax.{Expression, RightSide, Pair, RecordOption, Action, Argument, Count, PutItem, Statement}
use Rattle.syntax_reader.specs.Nodes.{Source, Uses, IsAt, IsName, IsQualified, IsWordThere, AreAll}
use Rattle.syntax_reader.specs.Expressions.{IsExpression}
use Rattle.syntax_reader.specs.Headers.{IsRecordOption, IsLabel, IsErrorWord, IsValueThere, IsActionThere}

-- NoErrorWord
abbrev pub IsQuiet : Source → ℕ → Bool → Type 0
IsQuiet c = IsWordThere c p.NO_ERROR_WORD_NO_ERROR p.NO_ERROR_WORD_NONE

-- Target
pub data IsTarget (c : Source) : ℕ → Named → Type 0 where
  name : {n k : ℕ} {word : Word} → Uses c n p.TARGET_NAME k → IsName c k word → IsTarget c n (Plain word)
  qualified : {n k : ℕ} {name : Named} → Uses c n p.TARGET_QUALIFIED_NAME k → IsQualified c k name → IsTarget c n name

-- RightSide
pub data IsRightSide (c : Source) : ℕ → ℕ → RightSide → Type 0 where
  next_value : {n k j : ℕ} {at : Place} {sequence : Word} → Uses c n p.RIGHT_SIDE_SEQUENCE_FUNCTION k → IsAt c k at → Uses c (n + 1) p.SEQUENCE_FUNCTION_NEXT_VALUE j →
      IsName c (k + 2) sequence → IsRightSide c n (n + 2) (s.NextValue at sequence)
  current_value : {n k j : ℕ} {at : Place} {sequence : Word} → Uses c n p.RIGHT_SIDE_SEQUENCE_FUNCTION k → IsAt c k at → Uses c (n + 1) p.SEQUENCE_FUNCTION_CURRENT_VALUE j →
      IsName c (k + 2) sequence → IsRightSide c n (n + 2) (s.CurrentValue at sequence)
  value : {n k m : ℕ} {e : Expression} → Uses c n p.RIGHT_SIDE_EXPRESSION k → IsExpression c (n + 1) m e → IsRightSide c n m (s.ValueOf e)

-- a Target with the RightSide after it
pub data IsPair (c : Source) : ℕ → ℕ → Pair → Type 0 where
  pair : {n m : ℕ} {target : Named} {right : RightSide} → IsTarget c n target → IsRightSide c (n + 1) m right → IsPair c n m (record { target = target; right = right })

-- Assignments
abbrev pub ArePairs : Source → ℕ → ℕ → List Pair → Type 0
ArePairs c = AreAll c p.ASSIGNMENTS_TARGET p.ASSIGNMENTS_NONE (IsPair c)

-- Assignment
pub data IsAssignment (c : Source) : ℕ → ℕ → Statement → Type 0 where
  alone : {n k m : ℕ} {pair : Pair} {quiet : Bool} → Uses c n p.ASSIGNMENT_TARGET k → IsPair c (n + 1) m pair → IsQuiet c m quiet → IsAssignment c n (m + 1) (s.Assign (pair ∷ []) quiet)
  several : {n k m : ℕ} {pairs : List Pair} {quiet : Bool} → Uses c n p.ASSIGNMENT_ASSIGN k → ArePairs c (n + 1) m pairs → IsQuiet c m quiet → IsAssignment c n (m + 1) (s.Assign pairs quiet)

-- FindWhich, and the number of the token after it
pub data IsFindWhich (c : Source) : ℕ → FindWhich → ℕ → Type 0 where
  first : {n k : ℕ} → Uses c n p.FIND_WHICH_FIRST k → IsFindWhich c n which.First (k + 1)
  last : {n k : ℕ} → Uses c n p.FIND_WHICH_LAST k → IsFindWhich c n which.Last (k + 1)
  next : {n k : ℕ} → Uses c n p.FIND_WHICH_NEXT k → IsFindWhich c n which.Next (k + 1)
  previous : {n k : ℕ} → Uses c n p.FIND_WHICH_PREV k → IsFindWhich c n which.Previous (k + 1)
  current : {n k : ℕ} → Uses c n p.FIND_WHICH_CURRENT k → IsFindWhich c n which.Current (k + 1)
  only : {n k : ℕ} → Uses c n p.FIND_WHICH_NONE k → IsFindWhich c n which.Only k

-- FindOptions up to the rest of them: the node denotes an option and is followed by that of the rest
pub data IsFindOption (c : Source) : ℕ → ℕ → RecordOption → Type 0 where
  record_option : {n k m : ℕ} {option : RecordOption} → Uses c n p.FIND_OPTIONS_RECORD_OPTION k → IsRecordOption c (n + 1) m option → IsFindOption c n m option
  no_wait : {n k : ℕ} {at : Place} → Uses c n p.FIND_OPTIONS_NO_WAIT k → IsAt c k at → IsFindOption c n (n + 1) (s.NoWait at)
  no_error : {n k : ℕ} {at : Place} → Uses c n p.FIND_OPTIONS_NO_ERROR k → IsAt c k at → IsFindOption c n (n + 1) (s.NoError at)

-- FindOptions
pub data AreFindOptions (c : Source) : ℕ → ℕ → List RecordOption → Type 0 where
  all_options : {n k : ℕ} → Uses c n p.FIND_OPTIONS_NONE k → AreFindOptions c n (n + 1) []
  one_option : {n m l : ℕ} {option : RecordOption} {options : List RecordOption} → IsFindOption c n m option → AreFindOptions c m l options → AreFindOptions c n l (option ∷ options)

-- Record
pub data IsRecord (c : Source) : ℕ → ℕ → Statement → Type 0 where
  find : {n k j m : ℕ} {which : FindWhich} {buffer : Word} {options : List RecordOption} → Uses c n p.RECORD_FIND k → IsFindWhich c (n + 1) which j → IsName c j buffer →
      AreFindOptions c (n + 2) m options → IsRecord c n m (s.Find which buffer options)
  create : {n k j : ℕ} {buffer : Word} {quiet : Bool} → Uses c n p.RECORD_RECORD_VERB k → Uses c (n + 1) p.RECORD_VERB_CREATE j → IsName c (k + 1) buffer → IsQuiet c (n + 2) quiet →
      IsRecord c n (n + 3) (s.Create buffer quiet)
  delete : {n k j : ℕ} {buffer : Word} {quiet : Bool} → Uses c n p.RECORD_RECORD_VERB k → Uses c (n + 1) p.RECORD_VERB_DELETE j → IsName c (k + 1) buffer → IsQuiet c (n + 2) quiet →
      IsRecord c n (n + 3) (s.Delete buffer quiet)
  release : {n k j : ℕ} {buffer : Word} {quiet : Bool} → Uses c n p.RECORD_RECORD_VERB k → Uses c (n + 1) p.RECORD_VERB_RELEASE j → IsName c (k + 1) buffer → IsQuiet c (n + 2) quiet →
      IsRecord c n (n + 3) (s.Release buffer quiet)

-- Argument
pub data IsArgument (c : Source) : ℕ → ℕ → Argument → Type 0 where
  input : {n k m : ℕ} {at : Place} {input : Bool} {e : Expression} → Uses c n p.ARGUMENT_INPUT_WORD k → IsAt c k at → IsWordThere c p.INPUT_WORD_INPUT p.INPUT_WORD_NONE (n + 1) input →
      IsExpression c (n + 2) m e → IsArgument c n m (s.Input at e)
  output : {n k j : ℕ} {at : Place} {name : Word} → Uses c n p.ARGUMENT_OUTPUT_DIRECTION k → IsAt c k at → Uses c (n + 1) p.OUTPUT_DIRECTION_OUTPUT j → IsName c (k + 1) name →
      IsArgument c n (n + 2) (s.Output at name)
  input_output : {n k j : ℕ} {at : Place} {name : Word} → Uses c n p.ARGUMENT_OUTPUT_DIRECTION k → IsAt c k at → Uses c (n + 1) p.OUTPUT_DIRECTION_INPUT_OUTPUT j → IsName c (k + 1) name →
      IsArgument c n (n + 2) (s.InputOutput at name)

-- MoreArguments
abbrev pub AreOtherArguments : Source → ℕ → ℕ → List Argument → Type 0
AreOtherArguments c = AreAll c p.MORE_ARGUMENTS_COMMA p.MORE_ARGUMENTS_NONE (IsArgument c)

-- the arguments of a RUN, where the first one is read and the node is that of the others
pub record AreArgumentsFrom (c : Source) (n end : ℕ) (first : Argument) (all : List Argument) : Type 0 where
  pub others : List Argument
  pub read : AreOtherArguments c n end others
  pub is : all ≡ first ∷ others

-- ArgumentList, with the Arguments inside
pub data AreRunArguments (c : Source) : ℕ → ℕ → List Argument → Type 0 where
  no_list : {n k : ℕ} → Uses c n p.ARGUMENT_LIST_NONE k → AreRunArguments c n (n + 1) []
  empty_list : {n k j : ℕ} → Uses c n p.ARGUMENT_LIST_LEFT_PARENTHESIS k → Uses c (n + 1) p.ARGUMENTS_NONE j → AreRunArguments c n (n + 2) []
  list : {n k j m l : ℕ} {argument : Argument} {others : List Argument} → Uses c n p.ARGUMENT_LIST_LEFT_PARENTHESIS k → Uses c (n + 1) p.ARGUMENTS_ARGUMENT j →
      IsArgument c (n + 2) m argument → AreOtherArguments c m l others → AreRunArguments c n l (argument ∷ others)

-- Flow
pub data IsFlow (c : Source) : ℕ → ℕ → Statement → Type 0 where
  undo : {n k m : ℕ} {at : Place} {label : Option Word} {action : Option Action} → Uses c n p.FLOW_UNDO k → IsAt c k at → IsLabel c (n + 1) label → IsActionThere c (n + 2) m action →
      IsFlow c n m (s.Undo at label action)
  leave : {n k j : ℕ} {at : Place} {label : Option Word} → Uses c n p.FLOW_LEAVE_OR_NEXT k → IsAt c k at → Uses c (n + 1) p.LEAVE_OR_NEXT_LEAVE j → IsLabel c (n + 2) label →
      IsFlow c n (n + 3) (s.LeaveBlock at label)
  next : {n k j : ℕ} {at : Place} {label : Option Word} → Uses c n p.FLOW_LEAVE_OR_NEXT k → IsAt c k at → Uses c (n + 1) p.LEAVE_OR_NEXT_NEXT j → IsLabel c (n + 2) label →
      IsFlow c n (n + 3) (s.NextBlock at label)
  return : {n k m : ℕ} {at : Place} {error : Bool} {value : Option Expression} → Uses c n p.FLOW_RETURN k → IsAt c k at → IsErrorWord c (n + 1) error → IsValueThere c (n + 2) m value →
      IsFlow c n m (s.ReturnIt at error value)
  stop : {n k : ℕ} → Uses c n p.FLOW_STOP k → IsFlow c n (n + 1) s.Stop
  run : {n k m : ℕ} {procedure : Word} {arguments : List Argument} {quiet : Bool} → Uses c n p.FLOW_RUN k → IsName c (k + 1) procedure → AreRunArguments c (n + 1) m arguments →
      IsQuiet c m quiet → IsFlow c n (m + 1) (s.Run procedure arguments quiet)
