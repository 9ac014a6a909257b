-- Undo of variables, loops, RETRY, units and ends.
use Rattle.std.specs.Prelude.{◌≡◌, List, [], ◌∷◌, codes, false, Option, Some, None, refl, replicate, negsuc}
use Rattle.std.specs.Fmt.{digits}
use Rattle.abl_base.specs.declared.value.Value.TheVariants.{Int64}
use Rattle.abl_values.specs.Arithmetic.{sum_of}
use Rattle.abl_values.specs.Fit.{fitted}
use Rattle.abl_values.specs.Order.{value_order}
use Rattle.abl_values.specs.Rows.{bytes_of_row}
use Rattle.abl_values.specs.Texts.{plain_text, export_text}
use Rattle.database_protocol.specs.declared.operation.Op.TheVariants.{Enter, Leave, Back, End}
use Rattle.database_protocol.specs.declared.answer.Answer.{Answer}
use Rattle.database_protocol.specs.declared.answer.Answer.TheVariants.{Done, Committed, Blocked, NoMemory, Closed}
use Rattle.bound_tree.specs.declared.expression.Binary.TheVariants as two
use Rattle.bound_tree.specs.declared.block.BlockKind.TheVariants as block
use Rattle.bound_tree.specs.Tree.{Expr, Literal, Two, Retry, Header, ThenRetry, ThenLeave, ThenNext, Stmt, Inner, UndoBlock, LeaveBlock, OutputTo, OutputClose, Nothing}
use Rattle.database_protocol.specs.declared.ends.StopWhy.TheVariants as why
use Rattle.database_protocol.specs.declared.ends.ClientEnd.TheVariants as client
use Rattle.block_meaning.specs.declared.wants.Piece.TheVariants.{Wrote, Opened}
use Rattle.database_protocol.specs.declared.next_step.NextStep.TheVariants.{Ask, Ended}
use Rattle.block_meaning.specs.Program.{Program}
use Rattle.block_meaning.specs.Meaning.{run, asked}
use Rattle.meaning_examples.specs.Small.{◌⨾◌, no_flags, sub, transaction, retried, header, undoable, no_undo, whole, text, the, sets, one_more, puts, when, plain_source}

-- ---- DO TRANSACTION: i = 1. n = 1. UNDO, LEAVE. END. PUT UNFORMATTED i " " n SKIP.  n is NO-UNDO

abbrev pub undo_once : Program
undo_once = plain_source 1 1
    (Inner (header block.Do 1 transaction []) (sets (undoable 0) (whole 1) ⨾ sets (no_undo 0) (whole 1) ⨾ UndoBlock 1 (ThenLeave 1) ⨾ Nothing)
    ⨾ puts (the (undoable 0) ∷ text (codes " ") ∷ the (no_undo 0) ∷ []) ⨾ Nothing)

abbrev undo_once_answers : List Answer
undo_once_answers = Done ∷ Done ∷ Committed 1 ∷ Done ∷ []

undo_leaves_no_undo_variables : run undo_once 10 undo_once_answers ≡ record { written = Wrote None (codes "0 1\n") ∷ []; wants = Ended client.Normal }
unfolding sum_of fitted value_order plain_text export_text bytes_of_row digits
undo_leaves_no_undo_variables = refl

a_unit_short : run undo_once 9 undo_once_answers ≡ record { written = []; wants = Ended (client.Stop why.Budget) }
unfolding sum_of fitted value_order plain_text export_text bytes_of_row digits
a_unit_short = refl

undo_asks : asked (run undo_once 10) undo_once_answers ≡ Enter ∷ Back 1 ∷ Leave [] ∷ End ∷ []
unfolding sum_of fitted value_order plain_text export_text bytes_of_row digits
undo_asks = refl

blocked_asks_again_without_a_unit : run undo_once 10 (Done ∷ Blocked [] ∷ Blocked [] ∷ Done ∷ Committed 1 ∷ Done ∷ []) ≡ run undo_once 10 undo_once_answers
unfolding sum_of fitted value_order plain_text export_text bytes_of_row digits
blocked_asks_again_without_a_unit = refl

no_memory_asks_end : run undo_once 10 (Done ∷ NoMemory ∷ []) ≡ record { written = []; wants = Ask End }
unfolding sum_of fitted value_order plain_text export_text bytes_of_row digits
no_memory_asks_end = refl

no_memory_ends : run undo_once 10 (Done ∷ NoMemory ∷ Done ∷ []) ≡ record { written = []; wants = Ended client.NoMemory }
unfolding sum_of fitted value_order plain_text export_text bytes_of_row digits
no_memory_ends = refl

closed_ends : run undo_once 10 (Done ∷ Closed ∷ Done ∷ []) ≡ record { written = []; wants = Ended (client.Stop why.Closed) }
unfolding sum_of fitted value_order plain_text export_text bytes_of_row digits
closed_ends = refl

-- ---- the empty source, with one unit

nothing_to_do : run (plain_source 0 0 Nothing) 1 (Done ∷ []) ≡ record { written = []; wants = Ended client.Normal }
unfolding sum_of fitted value_order plain_text export_text bytes_of_row digits
nothing_to_do = refl

-- ---- DO TRANSACTION: i = 1. DO TRANSACTION: i = 2. UNDO, LEAVE. END. END. PUT UNFORMATTED i SKIP.

abbrev nested : Program
nested = plain_source 1 0
    (Inner (header block.Do 1 transaction []) (sets (undoable 0) (whole 1) ⨾ Inner (header block.Do 2 transaction []) (sets (undoable 0) (whole 2) ⨾ UndoBlock 2 (ThenLeave 2) ⨾ Nothing) ⨾ Nothing)
    ⨾ puts (the (undoable 0) ∷ []) ⨾ Nothing)

inner_undo_keeps_the_outer_change : run nested 14 (Done ∷ Done ∷ Done ∷ Done ∷ Committed 1 ∷ Done ∷ []) ≡ record { written = Wrote None (codes "1\n") ∷ []; wants = Ended client.Normal }
unfolding sum_of fitted value_order plain_text export_text bytes_of_row digits
inner_undo_keeps_the_outer_change = refl

inner_undo_a_unit_short : run nested 13 (Done ∷ Done ∷ Done ∷ Done ∷ Committed 1 ∷ Done ∷ []) ≡ record { written = []; wants = Ended (client.Stop why.Budget) }
unfolding sum_of fitted value_order plain_text export_text bytes_of_row digits
inner_undo_a_unit_short = refl

inner_undo_asks : asked (run nested 14) (Done ∷ Done ∷ Done ∷ Done ∷ Committed 1 ∷ Done ∷ []) ≡ Enter ∷ Enter ∷ Back 2 ∷ Leave [] ∷ Leave [] ∷ End ∷ []
unfolding sum_of fitted value_order plain_text export_text bytes_of_row digits
inner_undo_asks = refl

-- ---- DO TRANSACTION: i = 5. REPEAT: i = i + 1. IF i = 8 THEN UNDO, LEAVE. END. END. PUT UNFORMATTED i SKIP.

abbrev third_iteration : Program
third_iteration = plain_source 1 0
    (Inner (header block.Do 1 transaction [])
    (sets (undoable 0) (whole 5)
    ⨾ Inner (header block.Repeat 2 sub []) (one_more (undoable 0) ⨾ when (Two two.Equal (the (undoable 0)) (whole 8)) (UndoBlock 2 (ThenLeave 2)) ⨾ Nothing) ⨾ Nothing)
    ⨾ puts (the (undoable 0) ∷ []) ⨾ Nothing)

undo_goes_back_one_iteration : run third_iteration 1000 (Done ∷ Done ∷ Done ∷ Done ∷ Done ∷ Done ∷ Done ∷ Done ∷ Committed 1 ∷ Done ∷ []) ≡ record { written = Wrote None (codes "7\n") ∷ []; wants = Ended client.Normal }
unfolding sum_of fitted value_order plain_text export_text bytes_of_row digits
undo_goes_back_one_iteration = refl

each_iteration_is_a_level : asked (run third_iteration 1000) (Done ∷ Done ∷ Done ∷ Done ∷ Done ∷ Done ∷ Done ∷ Done ∷ Committed 1 ∷ Done ∷ []) ≡ Enter ∷ Enter ∷ Leave [] ∷ Enter ∷ Leave [] ∷ Enter ∷ Back 2 ∷ Leave [] ∷ Leave [] ∷ End ∷ []
unfolding sum_of fitted value_order plain_text export_text bytes_of_row digits
each_iteration_is_a_level = refl

-- ---- REPEAT: i = i + 1. IF i = 3 THEN LEAVE. UNDO, NEXT. END. PUT UNFORMATTED i SKIP.

abbrev undo_next : Stmt
undo_next = Inner (header block.Repeat 2 sub []) (one_more (undoable 0) ⨾ when (Two two.Equal (the (undoable 0)) (whole 3)) (LeaveBlock 2) ⨾ UndoBlock 2 (ThenNext 2) ⨾ Nothing)

without_a_level_nothing_is_undone : run (plain_source 1 0 (undo_next ⨾ puts (the (undoable 0) ∷ []) ⨾ Nothing)) 1000 (Done ∷ []) ≡ record { written = Wrote None (codes "3\n") ∷ []; wants = Ended client.Normal }
unfolding sum_of fitted value_order plain_text export_text bytes_of_row digits
without_a_level_nothing_is_undone = refl

-- ---- the same inside DO TRANSACTION, where it never ends

with_a_level_it_is_undone_each_time : run (plain_source 1 0 (Inner (header block.Do 1 transaction []) (undo_next ⨾ Nothing) ⨾ puts (the (undoable 0) ∷ []) ⨾ Nothing)) 100 (replicate 42 Done) ≡ record { written = []; wants = Ended (client.Stop why.Budget) }
unfolding sum_of fitted value_order plain_text export_text bytes_of_row digits
with_a_level_it_is_undone_each_time = refl

-- ---- a: DO TRANSACTION: PUT "try". IF RETRY THEN LEAVE a. UNDO, RETRY. END. b: DO TRANSACTION: PUT "once". UNDO, RETRY. END.

abbrev retry_twice : Program
retry_twice = plain_source 0 0
    (Inner (header block.Do 1 retried []) (puts (text (codes "try") ∷ []) ⨾ when Retry (LeaveBlock 1) ⨾ UndoBlock 1 ThenRetry ⨾ Nothing)
    ⨾ Inner (header block.Do 2 transaction []) (puts (text (codes "once") ∷ []) ⨾ UndoBlock 2 ThenRetry ⨾ Nothing) ⨾ Nothing)

retry_where_it_is_named : run retry_twice 1000 (Done ∷ Done ∷ Committed 1 ∷ Done ∷ Committed 2 ∷ Done ∷ Done ∷ Committed 3 ∷ Done ∷ []) ≡ record { written = Wrote None (codes "try\n") ∷ Wrote None (codes "try\n") ∷ Wrote None (codes "once\n") ∷ []; wants = Ended client.Normal }
unfolding sum_of fitted value_order plain_text export_text bytes_of_row digits
retry_where_it_is_named = refl

retry_asks : asked (run retry_twice 1000) (Done ∷ Done ∷ Committed 1 ∷ Done ∷ Committed 2 ∷ Done ∷ Done ∷ Committed 3 ∷ Done ∷ []) ≡ Enter ∷ Back 1 ∷ Leave [] ∷ Enter ∷ Leave [] ∷ Enter ∷ Back 1 ∷ Leave [] ∷ End ∷ []
unfolding sum_of fitted value_order plain_text export_text bytes_of_row digits
retry_asks = refl

-- ---- DO i = 3 TO 1 BY -1: PUT UNFORMATTED i SKIP. END. PUT UNFORMATTED i SKIP.

abbrev counting : Expr → Expr → Option Expr → Header
counting start end by = record (header block.Do 1 no_flags []) { to = Some (record { variable = undoable 0; start = start; end = end; by = by }) }

by_minus_one_counts_down : run (plain_source 1 0 (Inner (counting (whole 3) (whole 1) (Some (Literal (Int64 (negsuc 0))))) (puts (the (undoable 0) ∷ []) ⨾ Nothing) ⨾ puts (the (undoable 0) ∷ []) ⨾ Nothing)) 1000 (Done ∷ []) ≡ record { written = Wrote None (codes "3\n") ∷ Wrote None (codes "2\n") ∷ Wrote None (codes "1\n") ∷ Wrote None (codes "0\n") ∷ []; wants = Ended client.Normal }
unfolding sum_of fitted value_order plain_text export_text bytes_of_row digits
by_minus_one_counts_down = refl

-- the iteration in which it ends costs a unit too: procedure, DO, three iterations, two PUTs

the_last_turn_costs_a_unit : run (plain_source 1 0 (Inner (counting (whole 1) (whole 2) None) (puts (the (undoable 0) ∷ []) ⨾ Nothing) ⨾ Nothing)) 7 (Done ∷ []) ≡ record { written = Wrote None (codes "1\n") ∷ Wrote None (codes "2\n") ∷ []; wants = Ended client.Normal }
unfolding sum_of fitted value_order plain_text export_text bytes_of_row digits
the_last_turn_costs_a_unit = refl

the_last_turn_lacks_its_unit : run (plain_source 1 0 (Inner (counting (whole 1) (whole 2) None) (puts (the (undoable 0) ∷ []) ⨾ Nothing) ⨾ Nothing)) 6 (Done ∷ []) ≡ record { written = Wrote None (codes "1\n") ∷ Wrote None (codes "2\n") ∷ []; wants = Ended (client.Stop why.Budget) }
unfolding sum_of fitted value_order plain_text export_text bytes_of_row digits
the_last_turn_lacks_its_unit = refl

-- the end value is evaluated after each change of the variable: TO i never ends

the_end_value_is_evaluated_each_time : run (plain_source 1 0 (Inner (counting (whole 1) (the (undoable 0)) None) Nothing ⨾ Nothing)) 20 (Done ∷ []) ≡ record { written = []; wants = Ended (client.Stop why.Budget) }
unfolding sum_of fitted value_order plain_text export_text bytes_of_row digits
the_end_value_is_evaluated_each_time = refl

-- ---- DO TRANSACTION: i = 1. i = 3000000000. END. PUT UNFORMATTED i SKIP.

abbrev out_of_range : Program
out_of_range = plain_source 1 0
    (Inner (header block.Do 1 transaction []) (sets (undoable 0) (whole 1) ⨾ sets (undoable 0) (whole 3000000000) ⨾ Nothing) ⨾ puts (the (undoable 0) ∷ []) ⨾ Nothing)

error_undoes_the_block : run out_of_range 1000 (Done ∷ Done ∷ Committed 1 ∷ Done ∷ []) ≡ record { written = Wrote None (codes "** value out of range\n") ∷ Wrote None (codes "0\n") ∷ []; wants = Ended client.Normal }
unfolding sum_of fitted value_order plain_text export_text bytes_of_row digits
error_undoes_the_block = refl

-- ---- OUTPUT TO "f". PUT UNFORMATTED "x" SKIP. i = 3000000000. OUTPUT CLOSE. PUT UNFORMATTED "y" SKIP.  The line about a fault goes to the default section

lines_go_to_the_default_section : run (plain_source 1 0 (Inner (header block.Do 1 sub []) (OutputTo 0 0 false ⨾ puts (text (codes "x") ∷ []) ⨾ sets (undoable 0) (whole 3000000000) ⨾ Nothing) ⨾ OutputClose 0 ⨾ puts (text (codes "y") ∷ []) ⨾ Nothing)) 1000 (Done ∷ [])
    ≡ record { written = Opened 0 false ∷ Wrote (Some 0) (codes "x\n") ∷ Wrote None (codes "** value out of range\n") ∷ Wrote None (codes "y\n") ∷ []; wants = Ended client.Normal }
unfolding sum_of fitted value_order plain_text export_text bytes_of_row digits
lines_go_to_the_default_section = refl
