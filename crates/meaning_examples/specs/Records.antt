-- Records: inserting, release, locks, reading, and what an undo does to buffers.
use Rattle.std.specs.Prelude.{◌≡◌, ℕ, List, [], ◌∷◌, codes, Bool, true, false, Some, None, refl, pos}
use Rattle.std.specs.Fmt.{digits}
use Rattle.abl_base.specs.declared.value.Value.{Value}
use Rattle.abl_base.specs.declared.value.Value.TheVariants.{Text, Int}
use Rattle.abl_base.specs.declared.value.Kind.TheVariants as kind
use Rattle.abl_values.specs.Arithmetic.{sum_of}
use Rattle.abl_values.specs.Fit.{fitted}
use Rattle.abl_values.specs.Order.{value_order}
use Rattle.abl_values.specs.Rows.{bytes_of_row, number_bytes}
use Rattle.abl_values.specs.Texts.{plain_text, export_text}
use Rattle.database_protocol.specs.declared.operation.Op.TheVariants.{Enter, Leave, Back, Next, Get, Lock, Insert, Put, Drop, End}
use Rattle.database_protocol.specs.declared.answer.Answer.{Answer}
use Rattle.database_protocol.specs.declared.answer.Answer.TheVariants.{Done, Committed, Deadlock, Found, AtEnd, Row, Granted, Inserted, Gone, Busy, Duplicate}
use Rattle.bound_tree.specs.declared.expression.Binary.TheVariants as two
use Rattle.bound_tree.specs.declared.block.BlockKind.TheVariants as block
use Rattle.bound_tree.specs.declared.block.LockWanted.TheVariants as wanted
use Rattle.bound_tree.specs.declared.block.FetchWord.TheVariants as fetch
use Rattle.bound_tree.specs.declared.statement.FindWord.TheVariants as find
use Rattle.bound_tree.specs.declared.statement.Target.TheVariants as target
use Rattle.bound_tree.specs.Tree.{FindCurrent, TheField, Two, IsAvailable, IsLocked, Retry, ErrorStatus, ThenRetry, ThenLeave, ValueOf, Stmt, Inner, Assign, Find, Create, Remove, Release, UndoBlock, LeaveBlock, Import, ExportRecord, Nothing}
use Rattle.database_protocol.specs.declared.ends.StopWhy.TheVariants as why
use Rattle.database_protocol.specs.declared.ends.ClientEnd.TheVariants as client
use Rattle.block_meaning.specs.declared.wants.Piece.TheVariants.{Wrote}
use Rattle.database_protocol.specs.declared.next_step.NextStep.TheVariants.{Ended}
use Rattle.block_meaning.specs.Program.{Program}
use Rattle.block_meaning.specs.Meaning.{run, asked}
use Rattle.meaning_examples.specs.Small.{◌⨾◌, only, ann, bob, row_id, at_row, sub, transaction, retried, header, reading, for_of, undoable, whole, text, the, num, name, sets_num, sets_name, puts, when, customer_source, two_buffers}

-- ---- REPEAT: CREATE customer. IMPORT customer. END. FOR EACH customer NO-LOCK: EXPORT customer. END.

abbrev exports_all : Stmt
exports_all = Inner (for_of fetch.Each 2 sub (0 ∷ []) (reading wanted.NoLock)) (ExportRecord 0 0 ⨾ Nothing)

abbrev x_at : ℕ → List Value
x_at n = Int (pos n) ∷ Text (codes "x") ∷ []

abbrev creates_lines : Program
creates_lines = customer_source (1 ∷ 2 ∷ []) 0 0 sub []
    (Inner (header block.Repeat 1 transaction (0 ∷ [])) (Create 0 false ⨾ Import 0 (Some (target.Field 0 0 kind.Integer) ∷ Some (target.Field 0 1 kind.Character) ∷ []) false ⨾ Nothing)
    ⨾ exports_all ⨾ Nothing)

abbrev creates_lines_answers : List Answer
creates_lines_answers = Done ∷ Inserted (row_id 1) ∷ Committed 1 ∷ Done ∷ Inserted (row_id 2) ∷ Committed 2 ∷ Done ∷ Done ∷ Committed 3 ∷ Found (row_id 1) (1 ∷ []) (x_at 1) ∷ Found (row_id 2) (2 ∷ []) (x_at 2) ∷ AtEnd ∷ Done ∷ []

each_line_is_a_record : run creates_lines 1000 creates_lines_answers ≡ record { written = Wrote None (codes "1 \"x\"\n") ∷ Wrote None (codes "2 \"x\"\n") ∷ []; wants = Ended client.Normal }
unfolding sum_of fitted value_order plain_text export_text bytes_of_row number_bytes digits
each_line_is_a_record = refl

the_third_create_is_undone : asked (run creates_lines 1000) creates_lines_answers ≡ Enter ∷ Insert 0 (x_at 1) ∷ Leave [] ∷ Enter ∷ Insert 0 (x_at 2) ∷ Leave [] ∷ Enter ∷ Back 1 ∷ Leave [] ∷ Next 0 (Some 0) [] None true ∷ Next 0 (Some 0) [] (at_row 1) true ∷ Next 0 (Some 0) [] (at_row 2) true ∷ End ∷ []
unfolding sum_of fitted value_order plain_text export_text bytes_of_row number_bytes digits
the_third_create_is_undone = refl

-- ---- REPEAT k = 1 TO 2: CREATE customer. num = 1. name = "x". END. FOR EACH customer NO-LOCK: EXPORT customer. END.

abbrev creates_twice : Program
creates_twice = customer_source [] 1 0 sub []
    (Inner (record (header block.Repeat 1 transaction (0 ∷ [])) { to = Some (record { variable = undoable 0; start = whole 1; end = whole 2; by = None }) })
    (Create 0 false ⨾ sets_num (whole 1) ⨾ sets_name (text (codes "x")) false ⨾ Nothing)
    ⨾ exports_all ⨾ Nothing)

abbrev creates_twice_answers : List Answer
creates_twice_answers = Done ∷ Inserted (row_id 1) ∷ Done ∷ Committed 1 ∷ Done ∷ Duplicate 0 (row_id 1) ∷ Done ∷ Committed 2 ∷ Found (row_id 1) (1 ∷ []) (x_at 1) ∷ AtEnd ∷ Done ∷ []

a_duplicate_key_is_a_line : run creates_twice 1000 creates_twice_answers ≡ record { written = Wrote None (codes "** duplicate key in index num of customer\n") ∷ Wrote None (codes "1 \"x\"\n") ∷ []; wants = Ended client.Normal }
unfolding sum_of fitted value_order plain_text export_text bytes_of_row number_bytes digits
a_duplicate_key_is_a_line = refl

entered_when_the_unique_index_is_assigned : asked (run creates_twice 1000) creates_twice_answers ≡ Enter ∷ Insert 0 (Int (pos 1) ∷ Text [] ∷ []) ∷ Put 0 (row_id 1) (x_at 1) ∷ Leave [] ∷ Enter ∷ Insert 0 (Int (pos 1) ∷ Text [] ∷ []) ∷ Back 1 ∷ Leave [] ∷ Next 0 (Some 0) [] None true ∷ Next 0 (Some 0) [] (at_row 1) true ∷ End ∷ []
unfolding sum_of fitted value_order plain_text export_text bytes_of_row number_bytes digits
entered_when_the_unique_index_is_assigned = refl

-- ---- FOR EACH customer: LEAVE. END. IF AVAILABLE customer THEN EXPORT customer.

abbrev leaves_for : Program
leaves_for = customer_source [] 0 0 sub (0 ∷ [])
    (Inner (for_of fetch.Each 1 sub [] (reading wanted.Share)) (LeaveBlock 1 ⨾ Nothing) ⨾ when (IsAvailable 0) (ExportRecord 0 0) ⨾ Nothing)

the_record_of_a_left_for_stays : run leaves_for 1000 (Found (row_id 1) (1 ∷ []) ann ∷ Granted ∷ Row ann ∷ Done ∷ Done ∷ []) ≡ record { written = Wrote None (codes "1 \"Ann\"\n") ∷ []; wants = Ended client.Normal }
unfolding sum_of fitted value_order plain_text export_text bytes_of_row number_bytes digits
the_record_of_a_left_for_stays = refl

its_lock_is_dropped_at_the_end : asked (run leaves_for 1000) (Found (row_id 1) (1 ∷ []) ann ∷ Granted ∷ Row ann ∷ Done ∷ Done ∷ []) ≡ Next 0 (Some 0) [] None true ∷ Lock 0 (row_id 1) false true ∷ Get 0 (row_id 1) ∷ Drop (row_id 1) ∷ End ∷ []
unfolding sum_of fitted value_order plain_text export_text bytes_of_row number_bytes digits
its_lock_is_dropped_at_the_end = refl

-- ---- FIND FIRST customer NO-LOCK. name = "Z" [NO-ERROR]. PUT UNFORMATTED ERROR-STATUS:ERROR SKIP.

abbrev changes_no_lock : Bool → Program
changes_no_lock quiet = customer_source [] 0 0 transaction (0 ∷ [])
    (Find find.First (reading wanted.NoLock) true false ⨾ sets_name (text (codes "Z")) quiet ⨾ puts (ErrorStatus ∷ []) ⨾ Nothing)

no_lock_is_not_changed : run (changes_no_lock false) 1000 (Done ∷ Found (row_id 1) (1 ∷ []) ann ∷ Done ∷ Committed 1 ∷ Done ∷ []) ≡ record { written = Wrote None (codes "** record of customer is read NO-LOCK\n") ∷ []; wants = Ended client.Normal }
unfolding sum_of fitted value_order plain_text export_text bytes_of_row number_bytes digits
no_lock_is_not_changed = refl

no_lock_is_undone : asked (run (changes_no_lock false) 1000) (Done ∷ Found (row_id 1) (1 ∷ []) ann ∷ Done ∷ Committed 1 ∷ Done ∷ []) ≡ Enter ∷ Next 0 (Some 0) [] None true ∷ Back 1 ∷ Leave [] ∷ End ∷ []
unfolding sum_of fitted value_order plain_text export_text bytes_of_row number_bytes digits
no_lock_is_undone = refl

no_error_sets_the_status : run (changes_no_lock true) 1000 (Done ∷ Found (row_id 1) (1 ∷ []) ann ∷ Committed 1 ∷ Done ∷ []) ≡ record { written = Wrote None (codes "yes\n") ∷ []; wants = Ended client.Normal }
unfolding sum_of fitted value_order plain_text export_text bytes_of_row number_bytes digits
no_error_sets_the_status = refl

-- ---- DO TRANSACTION: CREATE customer. num = 1. name = "A". END.
-- DO TRANSACTION: FIND customer WHERE num = 1. name = "B". UNDO, LEAVE. END. PUT UNFORMATTED name SKIP.

abbrev undoes_a_change : Program
undoes_a_change = customer_source [] 0 0 sub (0 ∷ [])
    (Inner (header block.Do 1 transaction []) (Create 0 false ⨾ sets_num (whole 1) ⨾ sets_name (text (codes "A")) false ⨾ Nothing)
    ⨾ Inner (header block.Do 2 transaction [])
    (Find find.Only (record (reading wanted.Share) { bracket = (record { kind = kind.Integer; value = whole 1 }) ∷ []; test = Some (Two two.Equal num (whole 1)) }) true false
    ⨾ sets_name (text (codes "B")) false ⨾ UndoBlock 2 (ThenLeave 2) ⨾ Nothing)
    ⨾ puts (name ∷ []) ⨾ Nothing)

abbrev named_as : List ℕ → List Value
named_as t = Int (pos 1) ∷ Text t ∷ []

abbrev undoes_a_change_answers : List Answer
undoes_a_change_answers = Done ∷ Inserted (row_id 1) ∷ Done ∷ Committed 1 ∷ Done ∷ Found (row_id 1) (1 ∷ []) (named_as (codes "A")) ∷ AtEnd ∷ Granted ∷ Row (named_as (codes "A")) ∷ Granted ∷ Done ∷ Done ∷ Row (named_as (codes "A")) ∷ Committed 2 ∷ Done ∷ Done ∷ []

an_undone_change_is_read_again : run undoes_a_change 1000 undoes_a_change_answers ≡ record { written = Wrote None (codes "A\n") ∷ []; wants = Ended client.Normal }
unfolding sum_of fitted value_order plain_text export_text bytes_of_row number_bytes digits
an_undone_change_is_read_again = refl

the_bracket_has_the_kind_of_the_field : asked (run undoes_a_change 1000) undoes_a_change_answers ≡ Enter ∷ Insert 0 (named_as []) ∷ Put 0 (row_id 1) (named_as (codes "A")) ∷ Leave (row_id 1 ∷ []) ∷ Enter ∷ Next 0 (Some 0) (Int (pos 1) ∷ []) None true ∷ Next 0 (Some 0) (Int (pos 1) ∷ []) (at_row 1) true ∷ Lock 0 (row_id 1) false true ∷ Get 0 (row_id 1) ∷ Lock 0 (row_id 1) true true ∷ Put 0 (row_id 1) (named_as (codes "B")) ∷ Back 1 ∷ Get 0 (row_id 1) ∷ Leave (row_id 1 ∷ []) ∷ Drop (row_id 1) ∷ End ∷ []
unfolding sum_of fitted value_order plain_text export_text bytes_of_row number_bytes digits
the_bracket_has_the_kind_of_the_field = refl

-- ---- FIND FIRST customer. FIND NEXT customer. FIND NEXT customer NO-ERROR. PUT UNFORMATTED AVAILABLE customer SKIP.

abbrev finds_next : Program
finds_next = customer_source [] 0 0 sub (0 ∷ [])
    (Find find.First (reading wanted.NoLock) true false ⨾ Find find.Next (reading wanted.NoLock) true false ⨾ Find find.Next (reading wanted.NoLock) true true
    ⨾ puts (IsAvailable 0 ∷ text (codes " ") ∷ ErrorStatus ∷ []) ⨾ Nothing)

no_error_suppresses_endkey_of_find : run finds_next 1000 (Found (row_id 1) (1 ∷ []) ann ∷ Found (row_id 2) (2 ∷ []) bob ∷ AtEnd ∷ Done ∷ []) ≡ record { written = Wrote None (codes "no yes\n") ∷ []; wants = Ended client.Normal }
unfolding sum_of fitted value_order plain_text export_text bytes_of_row number_bytes digits
no_error_suppresses_endkey_of_find = refl

next_starts_at_the_cursor : asked (run finds_next 1000) (Found (row_id 1) (1 ∷ []) ann ∷ Found (row_id 2) (2 ∷ []) bob ∷ AtEnd ∷ Done ∷ []) ≡ Next 0 (Some 0) [] None true ∷ Next 0 (Some 0) [] (at_row 1) true ∷ Next 0 (Some 0) [] (at_row 2) true ∷ End ∷ []
unfolding sum_of fitted value_order plain_text export_text bytes_of_row number_bytes digits
next_starts_at_the_cursor = refl

a_find_that_finds_none : run (customer_source [] 0 0 sub (0 ∷ []) (only (Find find.Only (reading wanted.Share) true false))) 1000 (AtEnd ∷ Done ∷ []) ≡ record { written = Wrote None (codes "** no record found in customer\n") ∷ []; wants = Ended client.Normal }
unfolding sum_of fitted value_order plain_text export_text bytes_of_row number_bytes digits
a_find_that_finds_none = refl

a_find_that_finds_two : run (customer_source [] 0 0 sub (0 ∷ []) (only (Find find.Only (reading wanted.Share) true false))) 1000 (Found (row_id 1) (1 ∷ []) ann ∷ Found (row_id 2) (2 ∷ []) bob ∷ Done ∷ []) ≡ record { written = Wrote None (codes "** more than one record in customer\n") ∷ []; wants = Ended client.Normal }
unfolding sum_of fitted value_order plain_text export_text bytes_of_row number_bytes digits
a_find_that_finds_two = refl

-- ---- FIND FIRST customer EXCLUSIVE-LOCK NO-WAIT NO-ERROR. PUT UNFORMATTED LOCKED customer SKIP. FIND FIRST customer NO-LOCK. PUT UNFORMATTED LOCKED customer SKIP.

abbrev finds_busy : Program
finds_busy = customer_source [] 0 0 sub (0 ∷ [])
    (Find find.First (reading wanted.Exclusive) false true ⨾ puts (IsLocked 0 ∷ text (codes " ") ∷ IsAvailable 0 ∷ [])
    ⨾ Find find.First (reading wanted.NoLock) true false ⨾ puts (IsLocked 0 ∷ text (codes " ") ∷ IsAvailable 0 ∷ []) ⨾ Nothing)

busy_makes_locked_until_the_next_reading : run finds_busy 1000 (Found (row_id 1) (1 ∷ []) ann ∷ Busy (2 ∷ []) ∷ Found (row_id 1) (1 ∷ []) ann ∷ Done ∷ []) ≡ record { written = Wrote None (codes "yes no\n") ∷ Wrote None (codes "no yes\n") ∷ []; wants = Ended client.Normal }
unfolding sum_of fitted value_order plain_text export_text bytes_of_row number_bytes digits
busy_makes_locked_until_the_next_reading = refl

-- ---- DO TRANSACTION: FIND FIRST customer EXCLUSIVE-LOCK. END. DO TRANSACTION: name = "Z". END. RELEASE customer.
-- The buffer is of larger scope: at the commit its lock becomes share, and at its release it is dropped

abbrev becomes_share : Program
becomes_share = customer_source [] 0 0 sub (0 ∷ [])
    (Inner (header block.Do 1 transaction []) (only (Find find.First (reading wanted.Exclusive) true false))
    ⨾ Inner (header block.Do 2 transaction []) (only (sets_name (text (codes "Z")) false))
    ⨾ Release 0 false ⨾ Nothing)

an_exclusive_lock_becomes_share_at_the_commit : asked (run becomes_share 1000) (Done ∷ Found (row_id 1) (1 ∷ []) ann ∷ Granted ∷ Row ann ∷ Committed 1 ∷ Done ∷ Granted ∷ Done ∷ Committed 2 ∷ Done ∷ Done ∷ []) ≡ Enter ∷ Next 0 (Some 0) [] None true ∷ Lock 0 (row_id 1) true true ∷ Get 0 (row_id 1) ∷ Leave (row_id 1 ∷ []) ∷ Enter ∷ Lock 0 (row_id 1) true true ∷ Put 0 (row_id 1) (named_as (codes "Z")) ∷ Leave (row_id 1 ∷ []) ∷ Drop (row_id 1) ∷ End ∷ []
unfolding sum_of fitted value_order plain_text export_text bytes_of_row number_bytes digits
an_exclusive_lock_becomes_share_at_the_commit = refl

-- ---- DO TRANSACTION: DO ON ERROR UNDO, LEAVE: CREATE customer. num = 1. UNDO, LEAVE. END. PUT UNFORMATTED AVAILABLE customer SKIP. END.

abbrev created_after_the_copy : Program
created_after_the_copy = customer_source [] 0 0 sub (0 ∷ [])
    (Inner (header block.Do 1 transaction [])
    (Inner (header block.Do 2 sub []) (Create 0 false ⨾ sets_num (whole 1) ⨾ UndoBlock 2 (ThenLeave 2) ⨾ Nothing) ⨾ puts (IsAvailable 0 ∷ []) ⨾ Nothing) ⨾ Nothing)

a_record_created_after_the_copy_is_gone : run created_after_the_copy 1000 (Done ∷ Done ∷ Inserted (row_id 1) ∷ Done ∷ Done ∷ Committed 1 ∷ Done ∷ []) ≡ record { written = Wrote None (codes "no\n") ∷ []; wants = Ended client.Normal }
unfolding sum_of fitted value_order plain_text export_text bytes_of_row number_bytes digits
a_record_created_after_the_copy_is_gone = refl

a_record_created_after_the_copy_is_not_read : asked (run created_after_the_copy 1000) (Done ∷ Done ∷ Inserted (row_id 1) ∷ Done ∷ Done ∷ Committed 1 ∷ Done ∷ []) ≡ Enter ∷ Enter ∷ Insert 0 (named_as []) ∷ Back 2 ∷ Leave [] ∷ Leave [] ∷ End ∷ []
unfolding sum_of fitted value_order plain_text export_text bytes_of_row number_bytes digits
a_record_created_after_the_copy_is_not_read = refl

-- ---- DO TRANSACTION: CREATE customer. DO ON ERROR UNDO, LEAVE: num = 1. UNDO, LEAVE. END. PUT UNFORMATTED num SKIP. END.
-- Created before the copy and inserted after it: pending again, and inserted at the end of the transaction

abbrev entered_after_the_copy : Program
entered_after_the_copy = customer_source [] 0 0 sub (0 ∷ [])
    (Inner (header block.Do 1 transaction [])
    (Create 0 false ⨾ Inner (header block.Do 2 sub []) (sets_num (whole 1) ⨾ UndoBlock 2 (ThenLeave 2) ⨾ Nothing) ⨾ puts (num ∷ []) ⨾ Nothing) ⨾ Nothing)

a_record_entered_after_the_copy_is_pending_again : run entered_after_the_copy 1000 (Done ∷ Done ∷ Inserted (row_id 1) ∷ Done ∷ Done ∷ Inserted (row_id 2) ∷ Committed 1 ∷ Done ∷ Done ∷ []) ≡ record { written = Wrote None (codes "0\n") ∷ []; wants = Ended client.Normal }
unfolding sum_of fitted value_order plain_text export_text bytes_of_row number_bytes digits
a_record_entered_after_the_copy_is_pending_again = refl

a_pending_record_is_entered_at_the_end_of_the_transaction : asked (run entered_after_the_copy 1000) (Done ∷ Done ∷ Inserted (row_id 1) ∷ Done ∷ Done ∷ Inserted (row_id 2) ∷ Committed 1 ∷ Done ∷ Done ∷ []) ≡ Enter ∷ Enter ∷ Insert 0 (named_as []) ∷ Back 2 ∷ Leave [] ∷ Insert 0 (Int (pos 0) ∷ Text [] ∷ []) ∷ Leave (row_id 2 ∷ []) ∷ Drop (row_id 2) ∷ End ∷ []
unfolding sum_of fitted value_order plain_text export_text bytes_of_row number_bytes digits
a_pending_record_is_entered_at_the_end_of_the_transaction = refl

-- ---- REPEAT: CREATE customer. LEAVE. END.

leave_enters_a_pending_record : asked (run (customer_source [] 0 0 sub [] (Inner (header block.Repeat 1 transaction (0 ∷ [])) (Create 0 false ⨾ LeaveBlock 1 ⨾ Nothing) ⨾ Nothing)) 1000) (Done ∷ Inserted (row_id 1) ∷ Committed 1 ∷ Done ∷ []) ≡ Enter ∷ Insert 0 (Int (pos 0) ∷ Text [] ∷ []) ∷ Leave [] ∷ End ∷ []
unfolding sum_of fitted value_order plain_text export_text bytes_of_row number_bytes digits
leave_enters_a_pending_record = refl

-- ---- FIND FIRST customer. FIND FIRST b. RELEASE customer. RELEASE b.  Two buffers on one row

the_last_buffer_of_a_row_drops_its_lock : asked (run (two_buffers [] sub (0 ∷ 1 ∷ []) (Find find.First (reading wanted.Share) true false ⨾ Find find.First (record (reading wanted.Share) { buffer = 1 }) true false ⨾ Release 0 false ⨾ Release 1 false ⨾ Nothing)) 1000) (Found (row_id 1) (1 ∷ []) ann ∷ Granted ∷ Row ann ∷ Found (row_id 1) (1 ∷ []) ann ∷ Granted ∷ Row ann ∷ Done ∷ Done ∷ []) ≡ Next 0 (Some 0) [] None true ∷ Lock 0 (row_id 1) false true ∷ Get 0 (row_id 1) ∷ Next 0 (Some 0) [] None true ∷ Lock 0 (row_id 1) false true ∷ Get 0 (row_id 1) ∷ Drop (row_id 1) ∷ End ∷ []
unfolding sum_of fitted value_order plain_text export_text bytes_of_row number_bytes digits
the_last_buffer_of_a_row_drops_its_lock = refl

-- ---- DO TRANSACTION: FIND FIRST customer EXCLUSIVE-LOCK. ASSIGN i = 1 name = "Q" num = 3000000000 NO-ERROR. PUT UNFORMATTED i name SKIP. END.

abbrev fault_in_assign : Program
fault_in_assign = customer_source [] 1 0 sub (0 ∷ [])
    (Inner (header block.Do 1 transaction [])
    (Find find.First (reading wanted.Exclusive) true false
    ⨾ Assign ((record { target = target.Variable (undoable 0); right = ValueOf (whole 1) }) ∷ (record { target = target.Field 0 1 kind.Character; right = ValueOf (text (codes "Q")) }) ∷ (record { target = target.Field 0 0 kind.Integer; right = ValueOf (whole 3000000000) }) ∷ []) true
    ⨾ puts (the (undoable 0) ∷ name ∷ []) ⨾ Nothing) ⨾ Nothing)

a_fault_leaves_the_buffer_and_earlier_variables : run fault_in_assign 1000 (Done ∷ Found (row_id 1) (1 ∷ []) ann ∷ Granted ∷ Row ann ∷ Committed 1 ∷ Done ∷ Done ∷ []) ≡ record { written = Wrote None (codes "1Ann\n") ∷ []; wants = Ended client.Normal }
unfolding sum_of fitted value_order plain_text export_text bytes_of_row number_bytes digits
a_fault_leaves_the_buffer_and_earlier_variables = refl

a_fault_stores_nothing : asked (run fault_in_assign 1000) (Done ∷ Found (row_id 1) (1 ∷ []) ann ∷ Granted ∷ Row ann ∷ Committed 1 ∷ Done ∷ Done ∷ []) ≡ Enter ∷ Next 0 (Some 0) [] None true ∷ Lock 0 (row_id 1) true true ∷ Get 0 (row_id 1) ∷ Leave (row_id 1 ∷ []) ∷ Drop (row_id 1) ∷ End ∷ []
unfolding sum_of fitted value_order plain_text export_text bytes_of_row number_bytes digits
a_fault_stores_nothing = refl

-- ---- a: FOR EACH customer EXCLUSIVE-LOCK: IF RETRY THEN LEAVE a. UNDO, RETRY. END. IF AVAILABLE customer THEN ..
-- The buffer's scope is the procedure, so the undo reads it again, and RETRY locks, gets and tests it again

abbrev for_retries : Program
for_retries = customer_source [] 0 0 sub (0 ∷ [])
    (Inner (for_of fetch.Each 1 retried [] (reading wanted.Exclusive)) (when Retry (LeaveBlock 1) ⨾ UndoBlock 1 ThenRetry ⨾ Nothing) ⨾ when (IsAvailable 0) (puts (name ∷ [])) ⨾ Nothing)

a_for_retries_its_own_record : run for_retries 1000 (Done ∷ Found (row_id 1) (1 ∷ []) ann ∷ Granted ∷ Row ann ∷ Done ∷ Row ann ∷ Committed 1 ∷ Done ∷ Granted ∷ Row ann ∷ Committed 2 ∷ Done ∷ Done ∷ []) ≡ record { written = Wrote None (codes "Ann\n") ∷ []; wants = Ended client.Normal }
unfolding sum_of fitted value_order plain_text export_text bytes_of_row number_bytes digits
a_for_retries_its_own_record = refl

a_for_locks_its_own_record_again : asked (run for_retries 1000) (Done ∷ Found (row_id 1) (1 ∷ []) ann ∷ Granted ∷ Row ann ∷ Done ∷ Row ann ∷ Committed 1 ∷ Done ∷ Granted ∷ Row ann ∷ Committed 2 ∷ Done ∷ Done ∷ []) ≡ Enter ∷ Next 0 (Some 0) [] None true ∷ Lock 0 (row_id 1) true true ∷ Get 0 (row_id 1) ∷ Back 1 ∷ Get 0 (row_id 1) ∷ Leave (row_id 1 ∷ []) ∷ Enter ∷ Lock 0 (row_id 1) true true ∷ Get 0 (row_id 1) ∷ Leave (row_id 1 ∷ []) ∷ Drop (row_id 1) ∷ End ∷ []
unfolding sum_of fitted value_order plain_text export_text bytes_of_row number_bytes digits
a_for_locks_its_own_record_again = refl

-- ---- DO TRANSACTION: FOR EACH customer NO-LOCK WHERE b.num = 1: END. END.  with b empty: a fault in a header

abbrev fault_in_header : Program
fault_in_header = two_buffers [] sub (1 ∷ [])
    (Inner (header block.Do 1 transaction []) (only (Inner (for_of fetch.Each 2 sub (0 ∷ []) (record (reading wanted.NoLock) { test = Some (Two two.Equal (TheField 1 0 kind.Integer) (whole 1)) })) Nothing)) ⨾ Nothing)

a_fault_in_a_header_belongs_to_the_block_around : run fault_in_header 1000 (Done ∷ Done ∷ Found (row_id 1) (1 ∷ []) ann ∷ Done ∷ Done ∷ Done ∷ Committed 1 ∷ Done ∷ []) ≡ record { written = Wrote None (codes "** no record in buffer b\n") ∷ []; wants = Ended client.Normal }
unfolding sum_of fitted value_order plain_text export_text bytes_of_row number_bytes digits
a_fault_in_a_header_belongs_to_the_block_around = refl

a_fault_in_a_header_takes_its_level_back : asked (run fault_in_header 1000) (Done ∷ Done ∷ Found (row_id 1) (1 ∷ []) ann ∷ Done ∷ Done ∷ Done ∷ Committed 1 ∷ Done ∷ []) ≡ Enter ∷ Enter ∷ Next 0 (Some 0) [] None true ∷ Back 2 ∷ Leave [] ∷ Back 1 ∷ Leave [] ∷ End ∷ []
unfolding sum_of fitted value_order plain_text export_text bytes_of_row number_bytes digits
a_fault_in_a_header_takes_its_level_back = refl

-- ---- DO TRANSACTION: FIND FIRST customer EXCLUSIVE-LOCK. DELETE customer. PUT UNFORMATTED AVAILABLE customer SKIP. END.

abbrev deletes_one : Program
deletes_one = customer_source [] 0 0 sub (0 ∷ [])
    (Inner (header block.Do 1 transaction []) (Find find.First (reading wanted.Exclusive) true false ⨾ Remove 0 false ⨾ puts (IsAvailable 0 ∷ []) ⨾ Nothing) ⨾ Nothing)

a_deleted_record_leaves_the_buffer : run deletes_one 1000 (Done ∷ Found (row_id 1) (1 ∷ []) ann ∷ Granted ∷ Row ann ∷ Done ∷ Committed 1 ∷ Done ∷ []) ≡ record { written = Wrote None (codes "no\n") ∷ []; wants = Ended client.Normal }
unfolding sum_of fitted value_order plain_text export_text bytes_of_row number_bytes digits
a_deleted_record_leaves_the_buffer = refl

-- ---- two clients wait for each other: this one is answered Deadlock

a_deadlock_stops_the_client : run (customer_source [] 0 0 transaction (0 ∷ []) (Find find.First (reading wanted.Share) true false ⨾ sets_name (text (codes "Ann!")) false ⨾ Nothing)) 1000 (Done ∷ Found (row_id 1) (1 ∷ []) ann ∷ Granted ∷ Row ann ∷ Deadlock (0 ∷ 1 ∷ []) ∷ Done ∷ []) ≡ record { written = []; wants = Ended (client.Stop why.Deadlock) }
unfolding sum_of fitted value_order plain_text export_text bytes_of_row number_bytes digits
a_deadlock_stops_the_client = refl

-- ---- FOR FIRST customer NO-LOCK: END.  In its second iteration there is none, and Next is not asked

for_first_asks_next_once : asked (run (customer_source [] 0 0 sub [] (Inner (for_of fetch.First 1 sub (0 ∷ []) (reading wanted.NoLock)) Nothing ⨾ Nothing)) 1000) (Found (row_id 1) (1 ∷ []) ann ∷ Done ∷ []) ≡ Next 0 (Some 0) [] None true ∷ End ∷ []
unfolding sum_of fitted value_order plain_text export_text bytes_of_row number_bytes digits
for_first_asks_next_once = refl

-- ---- FIND FIRST customer NO-LOCK. FIND CURRENT customer EXCLUSIVE-LOCK.  The row is gone

a_current_record_that_is_gone : run (customer_source [] 0 0 sub (0 ∷ []) (Find find.First (reading wanted.NoLock) true false ⨾ FindCurrent (reading wanted.Exclusive) true false ⨾ Nothing)) 1000 (Found (row_id 1) (1 ∷ []) ann ∷ Gone ∷ Done ∷ []) ≡ record { written = Wrote None (codes "** no record found in customer\n") ∷ []; wants = Ended client.Normal }
unfolding sum_of fitted value_order plain_text export_text bytes_of_row number_bytes digits
a_current_record_that_is_gone = refl

-- ---- DO TRANSACTION: FIND FIRST customer EXCLUSIVE-LOCK. name = "Z". END.  The row is gone at Put

a_changed_record_that_is_gone : run (customer_source [] 0 0 sub [] (Inner (header block.Do 1 transaction (0 ∷ [])) (Find find.First (reading wanted.Exclusive) true false ⨾ sets_name (text (codes "Z")) false ⨾ Nothing) ⨾ Nothing)) 1000 (Done ∷ Found (row_id 1) (1 ∷ []) ann ∷ Granted ∷ Row ann ∷ Gone ∷ Done ∷ Done ∷ Committed 1 ∷ Done ∷ []) ≡ record { written = Wrote None (codes "** record of customer is gone\n") ∷ []; wants = Ended client.Normal }
unfolding sum_of fitted value_order plain_text export_text bytes_of_row number_bytes digits
a_changed_record_that_is_gone = refl

-- ---- FIND FIRST customer.  The row found is gone at Lock: the search continues after it

a_lost_record_is_passed : asked (run (customer_source [] 0 0 sub (0 ∷ []) (only (Find find.First (reading wanted.Share) true false))) 1000) (Found (row_id 1) (1 ∷ []) ann ∷ Gone ∷ Found (row_id 2) (2 ∷ []) bob ∷ Granted ∷ Row bob ∷ Done ∷ Done ∷ []) ≡ Next 0 (Some 0) [] None true ∷ Lock 0 (row_id 1) false true ∷ Next 0 (Some 0) [] (at_row 1) true ∷ Lock 0 (row_id 2) false true ∷ Get 0 (row_id 2) ∷ Drop (row_id 2) ∷ End ∷ []
unfolding sum_of fitted value_order plain_text export_text bytes_of_row number_bytes digits
a_lost_record_is_passed = refl
