-- Worked rows, each with its source text. They compute, and nothing depends on them.
use Rattle.std.specs.Prelude.{ℕ, ◌≡◌, Bool, true, false, [], ◌∷◌, Some, None, refl, pos}
use Rattle.abl_base.specs.declared.value.Kind.TheVariants as k
use Rattle.abl_base.specs.declared.value.Value.TheVariants as value
use Rattle.bound_tree.specs.declared.block.BlockKind.{BlockKind}
use Rattle.bound_tree.specs.declared.block.BlockKind.TheVariants as kind
use Rattle.bound_tree.specs.declared.block.FetchWord.TheVariants as word
use Rattle.bound_tree.specs.declared.block.Flags.{Flags}
use Rattle.bound_tree.specs.declared.block.LockWanted.{LockWanted}
use Rattle.bound_tree.specs.declared.block.LockWanted.TheVariants as lock
use Rattle.bound_tree.specs.declared.expression.Variable.{Variable}
use Rattle.bound_tree.specs.declared.expression.Binary.TheVariants as two
use Rattle.bound_tree.specs.declared.statement.Target.TheVariants as target
use Rattle.bound_tree.specs.Tree.{Expr, Literal, TheVariable, Two, IfElse, Retry, ThenLeave, ThenRetry, Header, ValueOf, NextOf, Inner, Choose, Assign, Create, Import, UndoBlock, LeaveBlock, PutItems, Skips, Run, Body, Nothing, Then, start_of_source}
use Rattle.txn_infer.specs.Updates.{updates_in}
use Rattle.txn_infer.specs.Retry.{names_retry_in}
use Rattle.txn_infer.specs.Flags.{flags_where}

-- a header with nothing but its number and kind
abbrev head : ℕ → BlockKind → Header
head number what = record {
  number = number;
  kind = what;
  place = start_of_source;
  transaction = false;
  flags = record { starts = false; undo = false; retry_seen = false };
  scoped = [];
  to = None;
  while_test = None;
  fetch = None;
  on_error = None;
  on_endkey = None;
}

-- the flags of a block
abbrev of_block : Header → Body → Flags
of_block h body = flags_where h (updates_in body) (names_retry_in body)

abbrev flags : Bool → Bool → Bool → Flags
flags starts undo retry_seen = record { starts = starts; undo = undo; retry_seen = retry_seen }

abbrev counter : Variable
counter = record { external = false; undoable = true; number = 0; kind = k.Integer }

abbrev five : Expr
five = Literal (value.Int64 (pos 5))

-- ---- DO TRANSACTION: i = 5. REPEAT: i = i + 1. IF i = 8 THEN UNDO, LEAVE. END. END.

abbrev repeat_body : Body
repeat_body =
    Then (Assign (record { target = target.Variable counter; right = ValueOf (Two two.Add (TheVariable counter) five) } ∷ []) false)
    (Then (Choose (Two two.Equal (TheVariable counter) five) (Then (UndoBlock 2 (ThenLeave 2)) Nothing) Nothing) Nothing)

-- the word starts it
pub the_word_starts_it : of_block (record (head 1 kind.Do) { transaction = true }) (Then (Inner (head 2 kind.Repeat) repeat_body) Nothing) ≡ flags true true false
the_word_starts_it = refl

-- a REPEAT that updates no record starts none, and is a subtransaction of one
pub a_repeat_without_updates_starts_none : of_block (head 2 kind.Repeat) repeat_body ≡ flags false true false
a_repeat_without_updates_starts_none = refl

-- ---- REPEAT: CREATE customer. IMPORT customer. END.

abbrev reads_in : Body
reads_in = Then (Create 0 false) (Then (Import 0 (Some (target.Field 0 0 k.Integer) ∷ []) false) Nothing)

pub the_repeat_starts_one : of_block (head 1 kind.Repeat) reads_in ≡ flags true true false
the_repeat_starts_one = refl

-- and the procedure around it none
pub the_procedure_starts_none : of_block (head 0 kind.Procedure) (Then (Inner (head 1 kind.Repeat) reads_in) Nothing) ≡ flags false true false
the_procedure_starts_none = refl

-- DO: CREATE customer. IMPORT customer. END.   a DO without a phrase starts none, and the procedure does
pub a_plain_do_starts_none : of_block (head 1 kind.Do) reads_in ≡ flags false false false
a_plain_do_starts_none = refl

pub the_procedure_around_a_plain_do_starts_one : of_block (head 0 kind.Procedure) (Then (Inner (head 1 kind.Do) reads_in) Nothing) ≡ flags true true false
the_procedure_around_a_plain_do_starts_one = refl

-- FOR EACH customer EXCLUSIVE-LOCK: END. starts one; with SHARE-LOCK it starts none
abbrev each : LockWanted → Header
each wanted = record (head 1 kind.For) { fetch = Some (record { word = word.Each; reading = record { buffer = 0; index = None; bracket = []; test = None; lock = wanted } }) }

pub an_exclusive_for_starts_one : of_block (each lock.Exclusive) Nothing ≡ flags true true false
an_exclusive_for_starts_one = refl

pub a_share_for_starts_none : of_block (each lock.Share) Nothing ≡ flags false true false
a_share_for_starts_none = refl

-- REPEAT: i = NEXT-VALUE(s). RUN p. END.   neither counts
pub next_value_and_run_count_not :
    of_block (head 1 kind.Repeat) (Then (Assign (record { target = target.Variable counter; right = NextOf 0 } ∷ []) false) (Then (Run 1 [] false) Nothing)) ≡ flags false true false
next_value_and_run_count_not = refl

-- ---- a: DO TRANSACTION: PUT UNFORMATTED SKIP. IF RETRY THEN LEAVE a. UNDO, RETRY. END.   and b: the same without the IF

abbrev undone : Body
undone = Then (UndoBlock 1 ThenRetry) Nothing

pub retry_is_named : of_block (record (head 1 kind.Do) { transaction = true }) (Then (PutItems 0 (Skips 1 ∷ [])) (Then (Choose Retry (Then (LeaveBlock 1) Nothing) Nothing) undone)) ≡ flags true true true
retry_is_named = refl

pub retry_is_not_named : of_block (record (head 1 kind.Do) { transaction = true }) (Then (PutItems 0 (Skips 1 ∷ [])) undone) ≡ flags true true false
retry_is_not_named = refl

-- ---- REPEAT: DO i = (IF RETRY THEN 5 ELSE 5) TO 5 TRANSACTION: END. END.   RETRY is that of the REPEAT

abbrev counts : Expr → Expr → Header
counts start end = record (head 2 kind.Do) { transaction = true; to = Some (record { variable = counter; start = start; end = end; by = None }) }

abbrev asks : Expr
asks = IfElse Retry five five None

pub retry_in_the_start_is_that_around : of_block (head 1 kind.Repeat) (Then (Inner (counts asks five) Nothing) Nothing) ≡ flags false true true
retry_in_the_start_is_that_around = refl

pub retry_in_the_start_is_not_ones_own : of_block (counts asks five) Nothing ≡ flags true true false
retry_in_the_start_is_not_ones_own = refl

-- in the end value it is that of the DO
pub retry_in_the_end_is_not_that_around : of_block (head 1 kind.Repeat) (Then (Inner (counts five asks) Nothing) Nothing) ≡ flags false true false
retry_in_the_end_is_not_that_around = refl

pub retry_in_the_end_is_ones_own : of_block (counts five asks) Nothing ≡ flags true true true
retry_in_the_end_is_ones_own = refl
