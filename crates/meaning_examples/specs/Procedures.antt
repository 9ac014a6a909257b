-- Procedures: parameters, RETURN, RETURN ERROR, and their limit.
use Rattle.std.specs.Prelude.{◌≡◌, [], ◌∷◌, codes, Bool, true, false, Some, None, refl, pos}
use Rattle.std.specs.Fmt.{digits}
use Rattle.abl_values.specs.Arithmetic.{sum_of}
use Rattle.abl_values.specs.Fit.{fitted}
use Rattle.abl_values.specs.Order.{value_order}
use Rattle.abl_values.specs.Rows.{bytes_of_row}
use Rattle.abl_values.specs.Texts.{plain_text, export_text}
use Rattle.database_protocol.specs.declared.operation.Op.TheVariants.{Enter, Leave, Back, End}
use Rattle.database_protocol.specs.declared.answer.Answer.TheVariants.{Done, Committed, SequenceEnd}
use Rattle.database_protocol.specs.declared.answer.Answer.TheVariants as answer
use Rattle.bound_tree.specs.declared.expression.Binary.TheVariants as two
use Rattle.bound_tree.specs.declared.block.BlockKind.TheVariants as block
use Rattle.bound_tree.specs.declared.statement.Target.TheVariants as target
use Rattle.bound_tree.specs.Tree.{Two, ErrorStatus, ReturnValue, ThenLeave, ThenReturn, NextOf, In, Out, Stmt, Inner, Assign, Return, ReturnError, Run, Import, Nothing}
use Rattle.database_protocol.specs.declared.ends.StopWhy.TheVariants as why
use Rattle.database_protocol.specs.declared.ends.ClientEnd.TheVariants as client
use Rattle.block_meaning.specs.declared.wants.Piece.TheVariants.{Wrote}
use Rattle.database_protocol.specs.declared.next_step.NextStep.TheVariants.{Ended}
use Rattle.block_meaning.specs.Program.{Program}
use Rattle.block_meaning.specs.Meaning.{run, asked}
use Rattle.meaning_examples.specs.Small.{◌⨾◌, one_more, only, no_flags, sub, transaction, header, undoable, whole, text, the, sets, puts, procedure, program, plain_source}

-- ---- RUN add (2, 3, OUTPUT n). PUT UNFORMATTED n SKIP. PROCEDURE add: .. c = a + b. END.

abbrev adds : Program
adds = program []
    (procedure 1 0 [] (header block.Procedure 0 sub []) (Run 1 (In (whole 2) ∷ In (whole 3) ∷ Out (undoable 0) ∷ []) false ⨾ puts (the (undoable 0) ∷ []) ⨾ Nothing)
    ∷ record (procedure 3 0 [] (header block.Procedure 1 sub []) (only (sets (undoable 2) (Two two.Add (the (undoable 0)) (the (undoable 1)))))) { parameters = undoable 0 ∷ undoable 1 ∷ undoable 2 ∷ [] } ∷ [])

parameters_go_in_and_out : run adds 1000 (Done ∷ []) ≡ record { written = Wrote None (codes "5\n") ∷ []; wants = Ended client.Normal }
unfolding sum_of fitted value_order plain_text export_text bytes_of_row digits
parameters_go_in_and_out = refl

-- ---- RUN p. PROCEDURE p: RUN p. END.

the_33rd_open_run_stops : run (program [] (procedure 0 0 [] (header block.Procedure 0 sub []) (only (Run 1 [] false)) ∷ procedure 0 0 [] (header block.Procedure 1 sub []) (only (Run 1 [] false)) ∷ [])) 1000 (Done ∷ []) ≡ record { written = []; wants = Ended (client.Stop why.Depth) }
unfolding sum_of fitted value_order plain_text export_text bytes_of_row digits
the_33rd_open_run_stops = refl

-- ---- RETURN ERROR "no".  and  RETURN "x".

return_error_ends_the_client : run (plain_source 0 0 (only (ReturnError 0 (Some (text (codes "no")))))) 1000 (Done ∷ []) ≡ record { written = []; wants = Ended (client.Error (codes "no")) }
unfolding sum_of fitted value_order plain_text export_text bytes_of_row digits
return_error_ends_the_client = refl

return_ends_the_client : run (plain_source 0 0 (only (Return (Some (text (codes "x")))))) 1000 (Done ∷ []) ≡ record { written = []; wants = Ended client.Returned }
unfolding sum_of fitted value_order plain_text export_text bytes_of_row digits
return_ends_the_client = refl

-- ---- RUN p NO-ERROR. PUT UNFORMATTED i ERROR-STATUS:ERROR RETURN-VALUE SKIP. PROCEDURE p: DO TRANSACTION: i = 1. RETURN ERROR "e". END. END.

abbrev returns_error : Bool → Program
returns_error quiet = program []
    (procedure 1 0 [] (header block.Procedure 0 sub []) (Run 1 [] quiet ⨾ puts (the (undoable 0) ∷ ErrorStatus ∷ ReturnValue ∷ []) ⨾ Nothing)
    ∷ procedure 0 0 [] (header block.Procedure 1 sub []) (only (Inner (header block.Do 2 transaction []) (sets (record (undoable 0) { external = true }) (whole 1) ⨾ ReturnError 2 (Some (text (codes "e"))) ⨾ Nothing))) ∷ [])

return_error_undoes_and_is_quiet_under_no_error : run (returns_error true) 1000 (Done ∷ Done ∷ Committed 1 ∷ Done ∷ []) ≡ record { written = Wrote None (codes "0yese\n") ∷ []; wants = Ended client.Normal }
unfolding sum_of fitted value_order plain_text export_text bytes_of_row digits
return_error_undoes_and_is_quiet_under_no_error = refl

return_error_raises_without_a_line : run (returns_error false) 1000 (Done ∷ Done ∷ Committed 1 ∷ Done ∷ []) ≡ record { written = []; wants = Ended client.Normal }
unfolding sum_of fitted value_order plain_text export_text bytes_of_row digits
return_error_raises_without_a_line = refl

-- ---- DO ON ENDKEY UNDO, LEAVE: IMPORT i. END. PUT UNFORMATTED "on" SKIP.  ENDKEY is handled by the nearest block with ON ENDKEY

abbrev import_i : Stmt
import_i = Import 0 (Some (target.Variable (undoable 0)) ∷ []) false

endkey_leaves_the_block_that_hears_it : run (plain_source 1 0 (Inner (record (header block.Do 1 sub []) { on_endkey = Some (record { target = 1; action = ThenLeave 1 }) }) (import_i ⨾ puts (text (codes "not here") ∷ []) ⨾ Nothing) ⨾ puts (text (codes "on") ∷ []) ⨾ Nothing)) 1000 (Done ∷ []) ≡ record { written = Wrote None (codes "on\n") ∷ []; wants = Ended client.Normal }
unfolding sum_of fitted value_order plain_text export_text bytes_of_row digits
endkey_leaves_the_block_that_hears_it = refl

endkey_passes_a_plain_do : run (plain_source 1 0 (Inner (header block.Do 1 no_flags []) (only import_i) ⨾ puts (text (codes "not here") ∷ []) ⨾ Nothing)) 1000 (Done ∷ []) ≡ record { written = []; wants = Ended client.Normal }
unfolding sum_of fitted value_order plain_text export_text bytes_of_row digits
endkey_passes_a_plain_do = refl

-- ---- DO TRANSACTION: i = 1. DO ON ERROR UNDO, RETURN "r": i = 3000000000. END. END.  RETURN in an action ends every block

abbrev on_error_returns : Program
on_error_returns = plain_source 1 0
    (Inner (header block.Do 1 transaction [])
    (sets (undoable 0) (whole 1) ⨾ Inner (record (header block.Do 2 sub []) { on_error = Some (record { target = 2; action = ThenReturn false (Some (text (codes "r"))) }) }) (only (sets (undoable 0) (whole 3000000000))) ⨾ Nothing) ⨾ Nothing)

on_error_return_ends_the_client : run on_error_returns 1000 (Done ∷ Done ∷ Done ∷ Done ∷ Committed 1 ∷ Done ∷ []) ≡ record { written = Wrote None (codes "** value out of range\n") ∷ []; wants = Ended client.Returned }
unfolding sum_of fitted value_order plain_text export_text bytes_of_row digits
on_error_return_ends_the_client = refl

on_error_return_keeps_the_outer_level : asked (run on_error_returns 1000) (Done ∷ Done ∷ Done ∷ Done ∷ Committed 1 ∷ Done ∷ []) ≡ Enter ∷ Enter ∷ Back 2 ∷ Leave [] ∷ Leave [] ∷ End ∷ []
unfolding sum_of fitted value_order plain_text export_text bytes_of_row digits
on_error_return_keeps_the_outer_level = refl

-- ---- i = NEXT-VALUE(s).

abbrev next_of : Stmt
next_of = Assign ((record { target = target.Variable (undoable 0); right = NextOf 0 }) ∷ []) false

a_sequence_gives_its_value : run (plain_source 1 0 (next_of ⨾ puts (the (undoable 0) ∷ []) ⨾ Nothing)) 1000 (answer.Value (pos 7) ∷ Done ∷ []) ≡ record { written = Wrote None (codes "7\n") ∷ []; wants = Ended client.Normal }
unfolding sum_of fitted value_order plain_text export_text bytes_of_row digits
a_sequence_gives_its_value = refl

the_end_of_a_sequence_is_out_of_range : run (plain_source 1 0 (next_of ⨾ puts (the (undoable 0) ∷ []) ⨾ Nothing)) 1000 (SequenceEnd ∷ Done ∷ []) ≡ record { written = Wrote None (codes "** value out of range\n") ∷ []; wants = Ended client.Normal }
unfolding sum_of fitted value_order plain_text export_text bytes_of_row digits
the_end_of_a_sequence_is_out_of_range = refl

-- ---- DO ON ERROR UNDO, LEAVE: IMPORT i. END. IMPORT i. PUT UNFORMATTED i SKIP.  A line with a bad element counts as read

abbrev imports_bad : Program
imports_bad = program (255 ∷ 5 ∷ []) (procedure 1 0 [] (header block.Procedure 0 sub [])
    (Inner (record (header block.Do 1 sub []) { on_error = Some (record { target = 1; action = ThenLeave 1 }) }) (only import_i) ⨾ import_i ⨾ puts (the (undoable 0) ∷ []) ⨾ Nothing) ∷ [])

a_bad_line_counts_as_read : run imports_bad 1000 (Done ∷ []) ≡ record { written = Wrote None (codes "** input field 1 is bad\n") ∷ Wrote None (codes "5\n") ∷ []; wants = Ended client.Normal }
unfolding sum_of fitted value_order plain_text export_text bytes_of_row digits
a_bad_line_counts_as_read = refl

-- ---- DO WHILE i < 2: i = i + 1. END. PUT UNFORMATTED i SKIP.  Procedure, DO, three iterations, two assignments, PUT

abbrev counts_while : Program
counts_while = plain_source 1 0 (Inner (record (header block.Do 1 no_flags []) { while_test = Some (Two two.Less (the (undoable 0)) (whole 2)) }) (only (one_more (undoable 0))) ⨾ puts (the (undoable 0) ∷ []) ⨾ Nothing)

while_is_tested_before_each_turn : run counts_while 8 (Done ∷ []) ≡ record { written = Wrote None (codes "2\n") ∷ []; wants = Ended client.Normal }
unfolding sum_of fitted value_order plain_text export_text bytes_of_row digits
while_is_tested_before_each_turn = refl

while_costs_a_unit_a_turn : run counts_while 7 (Done ∷ []) ≡ record { written = []; wants = Ended (client.Stop why.Budget) }
unfolding sum_of fitted value_order plain_text export_text bytes_of_row digits
while_costs_a_unit_a_turn = refl
