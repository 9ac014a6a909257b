-- An answer spends no unit, but where it leads to another operation.
use Rattle.std.proofs.Common.{ℕ, Bool, List, ◌∷◌, Option, Some, None, refl}
use Rattle.std.specs.Prelude.{ℤ}
use Rattle.abl_base.specs.declared.row.RowId.{RowId}
use Rattle.abl_base.specs.declared.value.Value.{Value}
use Rattle.abl_base.specs.declared.value.Value.TheVariants.{Int64}
use Rattle.database_protocol.specs.declared.answer.Answer.{Answer}
use Rattle.database_protocol.specs.declared.answer.Answer.TheVariants as answer
use Rattle.database_protocol.specs.declared.operation.Op.{Op}
use Rattle.database_protocol.specs.declared.operation.Op.TheVariants as op
use Rattle.database_protocol.specs.declared.row_order.Cursor.{Cursor}
use Rattle.bound_tree.specs.declared.statement.Target.{Target}
use Rattle.bound_tree.specs.Tree.{Reading}
use Rattle.block_meaning.specs.Buffers.{Place, left}
use Rattle.block_meaning.specs.Frames.{emptied, holding, table_of}
use Rattle.block_meaning.specs.Lines.{Complaint, MoreThanOne, RecordIsGone}
use Rattle.block_meaning.specs.Program.{Program}
use Rattle.block_meaning.specs.Reads.{Search, held_as, next_shown, shows}
use Rattle.block_meaning.specs.State.{Exclusive, Held, Lost, Normal, Record, State}
use Rattle.block_meaning.specs.Views.{FoundRow, Grant, IsBusy, IsGone, IsGranted, found_in, grant_in, is_gone, number_in, refusal_in, row_in, values_in}
use Rattle.block_meaning.specs.Changes.{stored}
use Rattle.block_meaning.proofs.Parts.{left_keeps}
use Rattle.block_meaning.proofs.Part_changes.{stored_stays}
use Rattle.flat_machine.specs.Config.{CurrentGranted, Execute, Looks, OnAnswer, OrDo, Seconds, StackEntry, Takes, Unwind, WasBack, WasCounted, WasCurrent, WasDeleted, WasDropped, WasEntered, WasGot, WasGranted, WasInserted, WasLeft, WasNext, WasPut, WasRead, WasSecond, WasUpgraded}
use Rattle.flat_machine.specs.Machine.{answer_step, answered, count_answered, current_answered, current_grant_answered, grant_answered, insert_answered, next_answered, read_answered, refused_answered, second_answered}
use Rattle.flat_machine.specs.Steps.{config, fault}
use Rattle.machine_laws.specs.units.Spending.{AfterAnswer, Spends}
use Rattle.machine_laws.proofs.UnitsLemmas.Parts.{ask_spends, ends_spends, same, spends_if, test_spends, unwinds}

insert_spends : (o : Option RowId) (place : Place) (t : ℕ) (vs : List Value) (made : ℕ) (c : Option Complaint) (ks : List StackEntry) (s : State) → Spends s.units (insert_answered o place t vs made c ks s)
insert_spends (Some row) place t vs made c ks s = same s.units
insert_spends None place t vs made (Some c) ks s = same s.units
insert_spends None place t vs made None ks s = same s.units

refused_spends : (c : Option Complaint) (ks : List StackEntry) (s : State) → Spends s.units (refused_answered c ks s)
refused_spends (Some c) ks s = same s.units
refused_spends None ks s = same s.units

read_spends : (p : Program) (o : Option (List Value)) (r : Reading) (retry : Bool) (row : RowId) (held : Held) (ks : List StackEntry) (s : State) → Spends s.units (read_answered p o r retry row held ks s)
read_spends p (Some values) r retry row held ks s =
    test_spends p r.test r.buffer retry (λ s. config (Unwind Normal) ks (holding r.buffer (Record row values held None) s)) (λ s. config (Unwind Lost) ks s) ks (shows r.buffer row values s) (λ t. same t.units) (λ t. same t.units)
read_spends p None r retry row held ks s = same s.units

grant_spends : (g : Grant) (r : Reading) (retry : Bool) (row : RowId) (ks : List StackEntry) (s : State) → Spends s.units (grant_answered g r retry row ks s)
grant_spends IsGranted r retry row ks s = ask_spends (op.Get (table_of r.buffer s) row) (WasRead r retry row (held_as r.lock)) ks s
grant_spends IsBusy r retry row ks s = same s.units
grant_spends IsGone r retry row ks s = same s.units

second_spends : (p : Program) (o : Option FoundRow) (n : ℕ) (k : Search) (c : Cursor) (values : List Value) (ks : List StackEntry) (s : State) → Spends s.units (second_answered p o n k c values ks s)
second_spends p (Some x) n k c values ks s =
    test_spends p k.reading.test k.reading.buffer k.retry (λ s. fault (MoreThanOne k.reading.buffer) ks (emptied k.reading.buffer s)) (λ s. config (Execute (Seconds n k c values x.cursor)) ks s) ks
    (shows k.reading.buffer x.cursor.row x.values s) (λ t. same t.units) (λ t. same t.units)
second_spends p None n k c values ks s = same s.units

next_spends : (p : Program) (o : Option FoundRow) (n : ℕ) (k : Search) (ks : List StackEntry) (s : State) → Spends s.units (next_answered p o n k ks s)
next_spends p (Some x) n k ks s =
    test_spends p k.reading.test k.reading.buffer k.retry (λ s. config (Execute (Takes k x.cursor x.values)) (OrDo (Looks n k (Some x.cursor)) ∷ ks) s) (λ s. config (Execute (Looks n k (Some x.cursor))) ks s) ks
    (next_shown k x s) (λ t. same t.units) (λ t. same t.units)
next_spends p None n k ks s = same s.units

current_spends : (o : Option (List Value)) (r : Reading) (row : RowId) (made : Option ℕ) (ks : List StackEntry) (s : State) → Spends s.units (current_answered o r row made ks s)
current_spends (Some values) r row made ks s = same s.units
current_spends None r row made ks s = same s.units

current_grant_spends : (g : Grant) (r : Reading) (row : RowId) (made : Option ℕ) (ks : List StackEntry) (s : State) → Spends s.units (current_grant_answered g r row made ks s)
current_grant_spends IsGranted r row made ks s = ask_spends (op.Get (table_of r.buffer s) row) (WasCurrent r row made) ks s
current_grant_spends IsBusy r row made ks s = same s.units
current_grant_spends IsGone r row made ks s = same s.units

count_spends : (o : Option ℤ) (t : Target) (ks : List StackEntry) (s : State) → Spends s.units (count_answered o t ks s)
count_spends (Some n) t ks s = ends_spends (stored t (Int64 n) s) ks s.units (stored_stays t (Int64 n) s).units
count_spends None t ks s = same s.units

heard_spends : (p : Program) (k : OnAnswer) (a : Answer) (ks : List StackEntry) (s : State) → Spends s.units (answer_step p k a ks s)
heard_spends p (WasInserted place t vs made) a ks s = insert_spends (row_in a) place t vs made (refusal_in place.number t a) ks s
heard_spends p WasDropped a ks s = same s.units
heard_spends p WasLeft a ks s = unwinds Normal ks s (left s) (left_keeps s).units
heard_spends p (WasBack copy but) a ks s = same s.units
heard_spends p (WasGot place row held made) a ks s = same s.units
heard_spends p (WasSecond n k c values) a ks s = second_spends p (found_in a) n k c values ks s
heard_spends p (WasNext n k) a ks s = next_spends p (found_in a) n k ks s
heard_spends p (WasGranted r retry row) a ks s = grant_spends (grant_in a) r retry row ks s
heard_spends p (WasRead r retry row held) a ks s = read_spends p (values_in a) r retry row held ks s
heard_spends p (CurrentGranted r row made) a ks s = current_grant_spends (grant_in a) r row made ks s
heard_spends p (WasCurrent r row made) a ks s = current_spends (values_in a) r row made ks s
heard_spends p (WasCounted t) a ks s = count_spends (number_in a) t ks s
heard_spends p (WasUpgraded b row values made) a ks s =
    spends_if (is_gone a) s.units (fault (RecordIsGone b) ks s) (config (Unwind Normal) ks (holding b (Record row values Exclusive made) s)) (same s.units) (same s.units)
heard_spends p (WasPut b t) a ks s = refused_spends (refusal_in b t a) ks s
heard_spends p (WasDeleted b) a ks s = spends_if (is_gone a) s.units (fault (RecordIsGone b) ks s) (config (Unwind Normal) ks (emptied b s)) (same s.units) (same s.units)
heard_spends p (WasEntered b t retry body d) a ks s = same s.units

pub answer_spends : (p : Program) (a : Answer) (o : Op) (k : OnAnswer) (ks : List StackEntry) (s : State) → AfterAnswer a s.units (answered p a o k ks s)
answer_spends p (answer.Blocked holders) o k ks s = refl
answer_spends p answer.NoMemory o k ks s = same s.units
answer_spends p answer.Closed o k ks s = same s.units
answer_spends p (answer.Deadlock cycle) o k ks s = same s.units
answer_spends p answer.TxFull o k ks s = same s.units
answer_spends p answer.TraceFull o k ks s = same s.units
answer_spends p a o k ks s = heard_spends p k a ks s
