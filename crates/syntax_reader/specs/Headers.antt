-- Which record option, action, phrase or header a node denotes, a constructor a production.
use Rattle.std.specs.Prelude.{ℕ, ◌+◌, ◌≡◌, List, [], ◌∷◌, Option, Some, None, Bool}
use Rattle.abl_base.specs.declared.place.Place.{Place}
use Rattle.parse_tree.specs.declared.production.TheConstants as p
use Rattle.bound_tree.specs.declared.block.FetchWord.{FetchWord}
use Rattle.bound_tree.specs.declared.block.FetchWord.TheVariants as fetch
use Rattle.bound_tree.specs.declared.block.LockWanted.TheVariants as lock
use Rattle.syntax_tree.specs.declared.name.Named.TheVariants.{Plain}
use Rattle.syntax_tree.specs.declared.name.Word.{Word}
use Rattle.syntax_tree.specs.declared.word.BlockWord.{BlockWord}
use Rattle.syntax_tree.specs.declared.word.BlockWord.TheVariants as block
use Rattle.syntax_tree.specs.Syntax as s
use Rattle.syntax_tree.specs.Syntax.{Expression, RecordOption, Action, Phrase, Counting, Opening, Head}
use Rattle.syntax_reader.specs.Nodes.{Source, Uses, IsAt, IsName, IsWordThere, IsNameThere, AreAll}
use Rattle.syntax_reader.specs.Expressions.{IsExpression}

-- RecordOption
pub data IsRecordOption (c : Source) : ℕ → ℕ → RecordOption → Type 0 where
  filter : {n k m : ℕ} {at : Place} {test : Expression} → Uses c n p.RECORD_OPTION_WHERE k → IsAt c k at → IsExpression c (n + 1) m test → IsRecordOption c n m (s.Where at test)
  use_index : {n k : ℕ} {at : Place} {index : Word} → Uses c n p.RECORD_OPTION_USE_INDEX k → IsAt c k at → IsName c (k + 1) index → IsRecordOption c n (n + 1) (s.UseIndex at index)
  no_lock : {n k : ℕ} {at : Place} → Uses c n p.RECORD_OPTION_NO_LOCK k → IsAt c k at → IsRecordOption c n (n + 1) (s.Lock at lock.NoLock)
  share_lock : {n k : ℕ} {at : Place} → Uses c n p.RECORD_OPTION_SHARE_LOCK k → IsAt c k at → IsRecordOption c n (n + 1) (s.Lock at lock.Share)
  exclusive_lock : {n k : ℕ} {at : Place} → Uses c n p.RECORD_OPTION_EXCLUSIVE_LOCK k → IsAt c k at → IsRecordOption c n (n + 1) (s.Lock at lock.Exclusive)

-- RecordOptions
abbrev pub AreRecordOptions : Source → ℕ → ℕ → List RecordOption → Type 0
AreRecordOptions c = AreAll c p.RECORD_OPTIONS_RECORD_OPTION p.RECORD_OPTIONS_NONE (IsRecordOption c)

-- OptionalName: a label
abbrev pub IsLabel : Source → ℕ → Option Word → Type 0
IsLabel c = IsNameThere c p.OPTIONAL_NAME_NAME p.OPTIONAL_NAME_NONE 0

-- ErrorWord
abbrev pub IsErrorWord : Source → ℕ → Bool → Type 0
IsErrorWord c = IsWordThere c p.ERROR_WORD_ERROR p.ERROR_WORD_NONE

-- OptionalExpression
pub data IsValueThere (c : Source) : ℕ → ℕ → Option Expression → Type 0 where
  value_there : {n k m : ℕ} {e : Expression} → Uses c n p.OPTIONAL_EXPRESSION_EXPRESSION k → IsExpression c (n + 1) m e → IsValueThere c n m (Some e)
  no_value : {n k : ℕ} → Uses c n p.OPTIONAL_EXPRESSION_NONE k → IsValueThere c n (n + 1) None

-- Action
pub data IsAction (c : Source) : ℕ → ℕ → Action → Type 0 where
  leave : {n k j : ℕ} {at : Place} {label : Option Word} → Uses c n p.ACTION_LEAVE_NEXT_OR_RETRY k → IsAt c k at → Uses c (n + 1) p.LEAVE_NEXT_OR_RETRY_LEAVE j → IsLabel c (n + 2) label →
      IsAction c n (n + 3) (s.Leave at label)
  next : {n k j : ℕ} {at : Place} {label : Option Word} → Uses c n p.ACTION_LEAVE_NEXT_OR_RETRY k → IsAt c k at → Uses c (n + 1) p.LEAVE_NEXT_OR_RETRY_NEXT j → IsLabel c (n + 2) label →
      IsAction c n (n + 3) (s.Next at label)
  retry : {n k j : ℕ} {at : Place} {label : Option Word} → Uses c n p.ACTION_LEAVE_NEXT_OR_RETRY k → IsAt c k at → Uses c (n + 1) p.LEAVE_NEXT_OR_RETRY_RETRY j → IsLabel c (n + 2) label →
      IsAction c n (n + 3) (s.RetryIt at label)
  return : {n k m : ℕ} {at : Place} {error : Bool} {value : Option Expression} → Uses c n p.ACTION_RETURN k → IsAt c k at → IsErrorWord c (n + 1) error → IsValueThere c (n + 2) m value →
      IsAction c n m (s.Return at error value)

-- OptionalAction
pub data IsActionThere (c : Source) : ℕ → ℕ → Option Action → Type 0 where
  action_there : {n k m : ℕ} {a : Action} → Uses c n p.OPTIONAL_ACTION_COMMA k → IsAction c (n + 1) m a → IsActionThere c n m (Some a)
  no_action : {n k : ℕ} → Uses c n p.OPTIONAL_ACTION_NONE k → IsActionThere c n (n + 1) None

-- Phrase
pub data IsPhrase (c : Source) : ℕ → ℕ → Phrase → Type 0 where
  while : {n k m : ℕ} {at : Place} {test : Expression} → Uses c n p.PHRASE_WHILE k → IsAt c k at → IsExpression c (n + 1) m test → IsPhrase c n m (s.While at test)
  transaction : {n k : ℕ} {at : Place} → Uses c n p.PHRASE_TRANSACTION k → IsAt c k at → IsPhrase c n (n + 1) (s.Transaction at)
  on_error : {n k j m : ℕ} {at : Place} {label : Option Word} {action : Option Action} → Uses c n p.PHRASE_ON k → IsAt c k at → Uses c (n + 1) p.CONDITION_ERROR j → IsLabel c (n + 2) label →
      IsActionThere c (n + 3) m action → IsPhrase c n m (s.OnError at label action)
  on_endkey : {n k j m : ℕ} {at : Place} {label : Option Word} {action : Option Action} → Uses c n p.PHRASE_ON k → IsAt c k at → Uses c (n + 1) p.CONDITION_ENDKEY j → IsLabel c (n + 2) label →
      IsActionThere c (n + 3) m action → IsPhrase c n m (s.OnEndkey at label action)

-- Phrases
abbrev pub ArePhrases : Source → ℕ → ℕ → List Phrase → Type 0
ArePhrases c = AreAll c p.PHRASES_PHRASE p.PHRASES_NONE (IsPhrase c)

-- Step
pub data IsStep (c : Source) : ℕ → ℕ → Option Expression → Type 0 where
  step : {n k m : ℕ} {by : Expression} → Uses c n p.STEP_BY k → IsExpression c (n + 1) m by → IsStep c n m (Some by)
  no_step : {n k : ℕ} → Uses c n p.STEP_NONE k → IsStep c n (n + 1) None

-- Counting
pub data IsCounting (c : Source) : ℕ → ℕ → Option Counting → Type 0 where
  counting : {n k m l end_at : ℕ} {name : Word} {start end : Expression} {by : Option Expression} → Uses c n p.COUNTING_NAME k → IsName c k name → IsExpression c (n + 1) m start →
      IsExpression c m l end → IsStep c l end_at by → IsCounting c n end_at (Some (record { variable = Plain name; start = start; end = end; by = by }))
  no_counting : {n k : ℕ} → Uses c n p.COUNTING_NONE k → IsCounting c n (n + 1) None

-- MoreNames
pub data AreNames (c : Source) : ℕ → ℕ → List Word → Type 0 where
  all_named : {n k : ℕ} → Uses c n p.MORE_NAMES_NONE k → AreNames c n (n + 1) []
  one_name : {n k m : ℕ} {name : Word} {names : List Word} → Uses c n p.MORE_NAMES_COMMA k → IsName c (k + 1) name → AreNames c (n + 1) m names → AreNames c n m (name ∷ names)

-- the names of a list, where the first one is read and the node is that of the others
pub record AreNamesFrom (c : Source) (n end : ℕ) (first : Word) (all : List Word) : Type 0 where
  pub others : List Word
  pub read : AreNames c n end others
  pub is : all ≡ first ∷ others

-- StrongBuffers
pub data AreBuffers (c : Source) : ℕ → ℕ → List Word → Type 0 where
  buffers : {n k m : ℕ} {name : Word} {names : List Word} → Uses c n p.STRONG_BUFFERS_FOR k → IsName c (k + 1) name → AreNames c (n + 1) m names → AreBuffers c n m (name ∷ names)
  no_buffers : {n k : ℕ} → Uses c n p.STRONG_BUFFERS_NONE k → AreBuffers c n (n + 1) []

-- DoOrRepeat
pub data IsBlockWord (c : Source) : ℕ → BlockWord → Type 0 where
  do_block : {n k : ℕ} → Uses c n p.DO_OR_REPEAT_DO k → IsBlockWord c n block.Do
  repeat_block : {n k : ℕ} → Uses c n p.DO_OR_REPEAT_REPEAT k → IsBlockWord c n block.Repeat

-- WhichRecords
pub data IsFetchWord (c : Source) : ℕ → FetchWord → Type 0 where
  each : {n k : ℕ} → Uses c n p.WHICH_RECORDS_EACH k → IsFetchWord c n fetch.Each
  first : {n k : ℕ} → Uses c n p.WHICH_RECORDS_FIRST k → IsFetchWord c n fetch.First
  last : {n k : ℕ} → Uses c n p.WHICH_RECORDS_LAST k → IsFetchWord c n fetch.Last

-- the first words of a Block: its keyword with its place, and its buffers, or its record with the options
pub data IsOpening (c : Source) : ℕ → ℕ → Place → Opening → Type 0 where
  plainly : {n k m : ℕ} {at : Place} {word : BlockWord} {buffers : List Word} → Uses c n p.BLOCK_DO_OR_REPEAT k → IsAt c k at → IsBlockWord c (n + 1) word → AreBuffers c (n + 2) m buffers →
      IsOpening c n m at (s.Plainly word buffers)
  for_records : {n k m : ℕ} {at : Place} {which : FetchWord} {buffer : Word} {options : List RecordOption} → Uses c n p.BLOCK_FOR k → IsAt c k at → IsFetchWord c (n + 1) which →
      IsName c (k + 2) buffer → AreRecordOptions c (n + 2) m options → IsOpening c n m at (s.ForRecords which buffer options)

-- a Block up to its statements, with the label before it: its opening, and its Header
pub data IsHead (c : Source) (label : Option Word) : ℕ → ℕ → Head → Type 0 where
  head : {n k m l end : ℕ} {at : Place} {opening : Opening} {counting : Option Counting} {phrases : List Phrase} → IsOpening c n m at opening → Uses c m p.HEADER_COUNTING k →
      IsCounting c (m + 1) l counting → ArePhrases c l end phrases → IsHead c label n end (record { label = label; at = at; opening = opening; counting = counting; phrases = phrases })
