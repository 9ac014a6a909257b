-- Which statement of streams a node denotes, a constructor a production.
use Rattle.std.specs.Prelude.{ℕ, ◌+◌, List, [], ◌∷◌, Option, Some, None, Bool, false}
use Rattle.abl_base.specs.declared.place.Place.{Place}
use Rattle.parse_tree.specs.declared.production.TheConstants as p
use Rattle.syntax_tree.specs.declared.name.Named.{Named}
use Rattle.syntax_tree.specs.declared.name.Word.{Word}
use Rattle.syntax_tree.specs.Syntax as s
use Rattle.syntax_tree.specs.Syntax.{Expression, Count, PutItem, Statement}
use Rattle.syntax_reader.specs.Nodes.{Source, Uses, IsAt, IsText, IsWhole, IsWordThere, IsNameThere, IsTextThere, AreAll}
use Rattle.syntax_reader.specs.Expressions.{IsExpression}
use Rattle.syntax_reader.specs.Plain.{IsQuiet, IsTarget}

-- StreamChoice
pub data IsStream (c : Source) : ℕ → Option Word → Type 0 where
  choice : {n k : ℕ} {stream : Option Word} → Uses c n p.STREAM_CHOICE_NAMED_STREAM k → IsNameThere c p.NAMED_STREAM_STREAM p.NAMED_STREAM_NONE 1 (n + 1) stream → IsStream c n stream

-- ImportTargets up to the rest of them: the node denotes a target, None where it is `^`, and is followed by that of the rest
pub data IsImportTarget (c : Source) : ℕ → ℕ → Option Named → Type 0 where
  target : {n k : ℕ} {target : Named} → Uses c n p.IMPORT_TARGETS_TARGET k → IsTarget c (n + 1) target → IsImportTarget c n (n + 2) (Some target)
  skipped : {n k : ℕ} → Uses c n p.IMPORT_TARGETS_CARET k → IsImportTarget c n (n + 1) None

-- ImportTargets
pub data AreTargets (c : Source) : ℕ → ℕ → List (Option Named) → Type 0 where
  all_targets : {n k : ℕ} → Uses c n p.IMPORT_TARGETS_NONE k → AreTargets c n (n + 1) []
  one_target : {n m l : ℕ} {target : Option Named} {targets : List (Option Named)} → IsImportTarget c n m target → AreTargets c m l targets → AreTargets c n l (target ∷ targets)

-- Expressions
abbrev pub AreExpressions : Source → ℕ → ℕ → List Expression → Type 0
AreExpressions c = AreAll c p.EXPRESSIONS_EXPRESSION p.EXPRESSIONS_NONE (IsExpression c)

-- RepeatCount
pub data IsCount (c : Source) : ℕ → Option Count → Type 0 where
  count : {n k x : ℕ} {at : Place} → Uses c n p.REPEAT_COUNT_LEFT_PARENTHESIS k → IsWhole c (k + 1) x → IsAt c (k + 1) at → IsCount c n (Some (record { number = x; at = at }))
  no_count : {n k : ℕ} → Uses c n p.REPEAT_COUNT_NONE k → IsCount c n None

-- PutItem
pub data IsPutItem (c : Source) : ℕ → ℕ → PutItem → Type 0 where
  shows : {n k m : ℕ} {e : Expression} {mask : Option Word} → Uses c n p.PUT_ITEM_EXPRESSION k → IsExpression c (n + 1) m e → IsTextThere c p.PUT_FORMAT_FORMAT p.PUT_FORMAT_NONE m mask →
      IsPutItem c n (m + 1) (s.Shows e mask)
  skip : {n k j : ℕ} {count : Option Count} → Uses c n p.PUT_ITEM_SKIP_OR_SPACE k → Uses c (n + 1) p.SKIP_OR_SPACE_SKIP j → IsCount c (n + 2) count → IsPutItem c n (n + 3) (s.Skip count)
  space : {n k j : ℕ} {count : Option Count} → Uses c n p.PUT_ITEM_SKIP_OR_SPACE k → Uses c (n + 1) p.SKIP_OR_SPACE_SPACE j → IsCount c (n + 2) count → IsPutItem c n (n + 3) (s.Space count)

-- PutItems
abbrev pub ArePutItems : Source → ℕ → ℕ → List PutItem → Type 0
ArePutItems c = AreAll c p.PUT_ITEMS_PUT_ITEM p.PUT_ITEMS_NONE (IsPutItem c)

-- Streaming
pub data IsStreaming (c : Source) : ℕ → ℕ → Statement → Type 0 where
  import : {n k m : ℕ} {stream : Option Word} {targets : List (Option Named)} {quiet : Bool} → Uses c n p.STREAMING_IMPORT k → IsStream c (n + 1) stream → AreTargets c (n + 3) m targets →
      IsQuiet c m quiet → IsStreaming c n (m + 1) (s.Import stream targets quiet)
  export : {n k m : ℕ} {stream : Option Word} {values : List Expression} → Uses c n p.STREAMING_EXPORT k → IsStream c (n + 1) stream → AreExpressions c (n + 3) m values →
      IsStreaming c n m (s.Export stream values)
  put : {n k m : ℕ} {stream : Option Word} {plain : Bool} {items : List PutItem} → Uses c n p.STREAMING_PUT k → IsStream c (n + 1) stream →
      IsWordThere c p.UNFORMATTED_WORD_UNFORMATTED p.UNFORMATTED_WORD_NONE (n + 3) plain → ArePutItems c (n + 4) m items → IsStreaming c n m (s.Put stream plain items)
  message : {n k m : ℕ} {values : List Expression} → Uses c n p.STREAMING_MESSAGE k → AreExpressions c (n + 1) m values → IsStreaming c n m (s.Message values)
  input_from : {n k j : ℕ} {stream : Option Word} {file : Word} → Uses c n p.STREAMING_INPUT k → IsStream c (n + 1) stream → Uses c (n + 3) p.INPUT_SOURCE_FROM j → IsText c (j + 1) file →
      IsStreaming c n (n + 4) (s.InputFrom stream (Some file))
  input_close : {n k j : ℕ} {stream : Option Word} → Uses c n p.STREAMING_INPUT k → IsStream c (n + 1) stream → Uses c (n + 3) p.INPUT_SOURCE_CLOSE j →
      IsStreaming c n (n + 4) (s.InputFrom stream None)
  output_to : {n k j : ℕ} {stream : Option Word} {file : Word} {append : Bool} → Uses c n p.STREAMING_OUTPUT k → IsStream c (n + 1) stream → Uses c (n + 3) p.OUTPUT_GOAL_TO j →
      IsText c (j + 1) file → IsWordThere c p.APPEND_WORD_APPEND p.APPEND_WORD_NONE (n + 4) append → IsStreaming c n (n + 5) (s.OutputTo stream (Some file) append)
  output_close : {n k j : ℕ} {stream : Option Word} → Uses c n p.STREAMING_OUTPUT k → IsStream c (n + 1) stream → Uses c (n + 3) p.OUTPUT_GOAL_CLOSE j →
      IsStreaming c n (n + 4) (s.OutputTo stream None false)
