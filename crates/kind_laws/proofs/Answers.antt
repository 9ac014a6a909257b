-- The steps of an answer, and of a completion that reaches an entry of the stack.
use Rattle.std.proofs.Common.{◌≡◌, ℕ, Bool, true, List, ◌∷◌, Option, Some, None, refl}
use Rattle.std.specs.Prelude.{ℤ, IfSome}
use Rattle.abl_base.specs.declared.row.RowId.{RowId}
use Rattle.abl_base.specs.declared.value.Value.{Value}
use Rattle.abl_base.specs.declared.value.Value.TheVariants.{Int64}
use Rattle.abl_values.specs.Schema.{SchemaData}
use Rattle.database_meaning.specs.Fits.{Fits}
use Rattle.database_protocol.specs.declared.answer.Answer.{Answer}
use Rattle.database_protocol.specs.declared.answer.Answer.TheVariants as answer
use Rattle.database_protocol.specs.declared.operation.Op.{Op}
use Rattle.database_protocol.specs.declared.operation.Op.TheVariants as op
use Rattle.database_protocol.specs.declared.row_order.Cursor.{Cursor}
use Rattle.bound_tree.specs.declared.statement.Target.{Target}
use Rattle.bound_tree.specs.Tree.{Reading}
use Rattle.kind_laws.specs.bound_kinds.WellKinded.{is_target}
use Rattle.block_meaning.specs.Buffers.{Place, got_content, holding_in}
use Rattle.block_meaning.specs.Changes.{stored}
use Rattle.block_meaning.specs.Frames.{emptied, holding, table_of, with_spot}
use Rattle.block_meaning.specs.Lines.{Complaint, MoreThanOne, RecordIsGone}
use Rattle.block_meaning.specs.Program.{Program}
use Rattle.block_meaning.specs.Reads.{Search, held_as, next_shown, shows, spot_at}
use Rattle.block_meaning.specs.State.{Exclusive, Held, Lost, NoLock, Normal, Record, State}
use Rattle.block_meaning.specs.Views.{FoundRow, Grant, IsBusy, IsGone, IsGranted, found_in, grant_in, is_gone, number_in, refusal_in, row_in, values_in}
use Rattle.flat_machine.specs.Config.{CurrentGranted, Execute, Looks, OnAnswer, OrDo, Seconds, StackEntry, Takes, Unwind, WasBack, WasCounted, WasCurrent, WasDeleted, WasDropped, WasEntered, WasGot, WasGranted, WasInserted, WasLeft, WasNext, WasPut, WasRead, WasSecond, WasUpgraded}
use Rattle.flat_machine.specs.Machine.{answer_step, answered, busy_answered, count_answered, current_answered, current_grant_answered, grant_answered, insert_answered, next_answered, read_answered, refused_answered, second_answered}
use Rattle.flat_machine.specs.Steps.{config, fault}
use Rattle.kind_laws.specs.Reached.{Ground}
use Rattle.kind_laws.proofs.Kept.{allows, AreFrames, here, IsAsked, IsAwaited, IsRecord, IsRow, IsSearch, IsStack, Kept, Suits, table_here, table_there}
use Rattle.kind_laws.proofs.Calls.{stored_ends}
use Rattle.kind_laws.proofs.Parts.{ask_kept, ends_kept, kept_if, test_kept}
use Rattle.kind_laws.proofs.Buffers.{copy_has, emptied_keeps, gets_here, holding_in_keeps, holding_keeps, left_keeps, marked_keeps, spot_keeps, has_now}
use Rattle.database_meaning.specs.Setting.{HasTable}
use Rattle.kind_laws.specs.Operations.{IsOfSchema}
use Rattle.kind_laws.proofs.Rows.{read_table}

-- ---- the rows in an answer that fits

values_fit : (g : Ground) (o : Op) (a : Answer) → Fits g.schema o a → IfSome (values_in a) (IsAsked g o)
values_fit g (op.Get t row) (answer.Row values) h = h
values_fit g o (answer.Row values) h = absurd h
values_fit g o a h = tt

found_fit : (g : Ground) (o : Op) (a : Answer) → Fits g.schema o a → IfSome (found_in a) (λ (x : FoundRow). IsAsked g o x.values)
found_fit g (op.Next t index prefix from forward) (answer.Found row key values) h = h
found_fit g o (answer.Found row key values) h = absurd h
found_fit g o a h = tt

suited : (g : Ground) (o : Op) (t : ℕ) (vs : Option (List Value)) → IfSome vs (IsAsked g o) → Suits g o t → IfSome vs (IsRow g.schema t)
suited g o t None h x = tt
suited g o t (Some values) h x = x values h

found_suited : (g : Ground) (o : Op) (t : ℕ) (r : Option FoundRow) → IfSome r (λ (x : FoundRow). IsAsked g o x.values) → Suits g o t → IfSome r (λ (x : FoundRow). IsRow g.schema t x.values)
found_suited g o t None h x = tt
found_suited g o t (Some r) h x = x r.values h

got_is : (schema : SchemaData) (t : ℕ) (vs : Option (List Value)) (row : RowId) (held : Held) (made : Option ℕ) → IfSome vs (IsRow schema t) → IsRecord schema t (got_content vs row held made)
got_is schema t None row held made h = tt
got_is schema t (Some values) row held made h = h

-- a record that was read again
pub got_keeps : (g : Ground) (ns : List ℕ) (o : Op) (place : Place) (row : RowId) (held : Held) (made : Option ℕ) (a : Answer) (s : State) → Fits g.schema o a → AreFrames g ns s.frames → Suits g o (table_there g ns place.out place.number) →
    AreFrames g ns (holding_in place (got_content (values_in a) row held made) s).frames
got_keeps g ns o place row held made a s fit h is =
    holding_in_keeps g ns place (got_content (values_in a) row held made) s h
    (got_is g.schema (table_there g ns place.out place.number) (values_in a) row held made (suited g o (table_there g ns place.out place.number) (values_in a) (values_fit g o a fit) is))

-- ---- answers

insert_kept : (g : Ground) (ns : List ℕ) (o : Option RowId) (place : Place) (t : ℕ) (vs : List Value) (made : ℕ) (c : Option Complaint) (ks : List StackEntry) (s : State) → AreFrames g ns s.frames → (allows ks).faults ≡ true → IsRow g.schema (table_there g ns place.out place.number) vs → IsStack g ns ks →
    Kept g ns (insert_answered o place t vs made c ks s)
insert_kept g ns (Some row) place t vs made c ks s h e r k = (holding_in_keeps g ns place (Record row vs Exclusive (Some made)) s h r, (tt, k))
insert_kept g ns None place t vs made (Some c) ks s h e r k = (h, (e, k))
insert_kept g ns None place t vs made None ks s h e r k = (h, (tt, k))

refused_kept : (g : Ground) (ns : List ℕ) (c : Option Complaint) (ks : List StackEntry) (s : State) → AreFrames g ns s.frames → (allows ks).faults ≡ true → IsStack g ns ks → Kept g ns (refused_answered c ks s)
refused_kept g ns (Some c) ks s h e k = (h, (e, k))
refused_kept g ns None ks s h e k = (h, (tt, k))

read_kept : (g : Ground) (ns : List ℕ) (p : Program) (o : Option (List Value)) (r : Reading) (retry : Bool) (row : RowId) (held : Held) (ks : List StackEntry) (s : State) → AreFrames g ns s.frames → IsSearch g ns (allows ks) r → (allows ks).lost ≡ true →
    IfSome o (IsRow g.schema (table_here g ns r.buffer)) → IsStack g ns ks → Kept g ns (read_answered p o r retry row held ks s)
read_kept g ns p (Some values) r retry row held ks s h is l v k =
    test_kept g ns p r.test r.buffer retry (λ s. config (Unwind Normal) ks (holding r.buffer (Record row values held None) s)) (λ s. config (Unwind Lost) ks s) ks (shows r.buffer row values s) (holding_keeps g ns r.buffer (Record row values NoLock None) s h v) is.faults k
    (λ t h. (holding_keeps g ns r.buffer (Record row values held None) t h v, (tt, k))) (λ t h. (h, (l, k)))
read_kept g ns p None r retry row held ks s h is l v k = (emptied_keeps g ns r.buffer s h, (l, k))

busy_kept : (g : Ground) (ns : List ℕ) (b : ℕ) (ks : List StackEntry) (s : State) → AreFrames g ns s.frames → (allows ks).faults ≡ true → IsStack g ns ks → Kept g ns (busy_answered b ks s)
busy_kept g ns b ks s h e k = (marked_keeps g ns b true (emptied b s) (emptied_keeps g ns b s h), (e, k))

grant_kept : (g : Ground) (ns : List ℕ) (x : Grant) (r : Reading) (retry : Bool) (row : RowId) (ks : List StackEntry) (s : State) → AreFrames g ns s.frames → IsSearch g ns (allows ks) r → (allows ks).lost ≡ true → IsStack g ns ks →
    Kept g ns (grant_answered x r retry row ks s)
grant_kept g ns IsGranted r retry row ks s h is l k =
    let there = (read_table g.schema (here g ns).buffers r.buffer r.index is.named).table in
    ask_kept g ns (op.Get (table_of r.buffer s) row) (WasRead r retry row (held_as r.lock)) ks s h (has_now g ns r.buffer s h there) (is, l, gets_here g ns r.buffer row s there h) k
grant_kept g ns IsBusy r retry row ks s h is l k = busy_kept g ns r.buffer ks s h is.faults k
grant_kept g ns IsGone r retry row ks s h is l k = (emptied_keeps g ns r.buffer s h, (l, k))

second_kept : (g : Ground) (ns : List ℕ) (p : Program) (o : Option FoundRow) (n : ℕ) (q : Search) (c : Cursor) (values : List Value) (ks : List StackEntry) (s : State) → AreFrames g ns s.frames → IsSearch g ns (allows ks) q.reading → IsRow g.schema (table_here g ns q.reading.buffer) values →
    IfSome o (λ (x : FoundRow). IsRow g.schema (table_here g ns q.reading.buffer) x.values) → IsStack g ns ks → Kept g ns (second_answered p o n q c values ks s)
second_kept g ns p (Some x) n q c values ks s h is r v k =
    test_kept g ns p q.reading.test q.reading.buffer q.retry (λ s. fault (MoreThanOne q.reading.buffer) ks (emptied q.reading.buffer s)) (λ s. config (Execute (Seconds n q c values x.cursor)) ks s) ks
    (shows q.reading.buffer x.cursor.row x.values s) (holding_keeps g ns q.reading.buffer (Record x.cursor.row x.values NoLock None) s h v) is.faults k (λ t h. (emptied_keeps g ns q.reading.buffer t h, (is.faults, k))) (λ t h. (h, ((is, r), k)))
second_kept g ns p None n q c values ks s h is r v k = (holding_keeps g ns q.reading.buffer (Record c.row values NoLock None) s h r, (tt, k))

next_kept : (g : Ground) (ns : List ℕ) (p : Program) (o : Option FoundRow) (n : ℕ) (q : Search) (ks : List StackEntry) (s : State) → AreFrames g ns s.frames → IsSearch g ns (allows ks) q.reading → (allows ks).found ≡ true →
    IfSome o (λ (x : FoundRow). IsRow g.schema (table_here g ns q.reading.buffer) x.values) → IsStack g ns ks → Kept g ns (next_answered p o n q ks s)
next_kept g ns p (Some x) n q ks s h is f v k =
    test_kept g ns p q.reading.test q.reading.buffer q.retry (λ s. config (Execute (Takes q x.cursor x.values)) (OrDo (Looks n q (Some x.cursor)) ∷ ks) s) (λ s. config (Execute (Looks n q (Some x.cursor))) ks s) ks
    (next_shown q x s) (holding_keeps g ns q.reading.buffer (Record x.cursor.row x.values NoLock None) (with_spot q.reading.buffer (spot_at q.reading x.cursor) s) (spot_keeps g ns q.reading.buffer (spot_at q.reading x.cursor) s h) v) is.faults k
    (λ t h. (h, ((record { reading = is.reading; named = is.named; faults = is.faults }, f, refl, v), ((is, f), k)))) (λ t h. (h, ((is, f), k)))
next_kept g ns p None n q ks s h is f v k = (spot_keeps g ns q.reading.buffer None s h, (f, k))

current_kept : (g : Ground) (ns : List ℕ) (o : Option (List Value)) (r : Reading) (row : RowId) (made : Option ℕ) (ks : List StackEntry) (s : State) → AreFrames g ns s.frames → (allows ks).faults ≡ true → IfSome o (IsRow g.schema (table_here g ns r.buffer)) → IsStack g ns ks → Kept g ns (current_answered o r row made ks s)
current_kept g ns (Some values) r row made ks s h e v k = (holding_keeps g ns r.buffer (Record row values (held_as r.lock) made) s h v, (tt, k))
current_kept g ns None r row made ks s h e v k = (emptied_keeps g ns r.buffer s h, (e, k))

current_grant_kept : (g : Ground) (ns : List ℕ) (x : Grant) (r : Reading) (row : RowId) (made : Option ℕ) (ks : List StackEntry) (s : State) → AreFrames g ns s.frames → (allows ks).faults ≡ true → HasTable g.schema (table_here g ns r.buffer) → IsStack g ns ks → Kept g ns (current_grant_answered x r row made ks s)
current_grant_kept g ns IsGranted r row made ks s h e t k = ask_kept g ns (op.Get (table_of r.buffer s) row) (WasCurrent r row made) ks s h (has_now g ns r.buffer s h t) (e, gets_here g ns r.buffer row s t h) k
current_grant_kept g ns IsBusy r row made ks s h e t k = busy_kept g ns r.buffer ks s h e k
current_grant_kept g ns IsGone r row made ks s h e t k = (emptied_keeps g ns r.buffer s h, (e, k))

count_kept : (g : Ground) (ns : List ℕ) (o : Option ℤ) (t : Target) (ks : List StackEntry) (s : State) → AreFrames g ns s.frames → is_target (here g ns) t ≡ true → (allows ks).faults ≡ true → IsStack g ns ks → Kept g ns (count_answered o t ks s)
count_kept g ns (Some n) t ks s h is e k = ends_kept g ns (stored t (Int64 n) s) ks (stored_ends g ns (allows ks) t (Int64 n) s h is e) k
count_kept g ns None t ks s h is e k = (h, (e, k))

heard_kept : (g : Ground) (ns : List ℕ) (o : Op) (on : OnAnswer) (a : Answer) (ks : List StackEntry) (s : State) → Fits g.schema o a → AreFrames g ns s.frames → IsAwaited g ns (allows ks) o on → IsStack g ns ks → Kept g ns (answer_step g.program on a ks s)
heard_kept g ns o (WasInserted place t vs made) a ks s fit h is k = insert_kept g ns (row_in a) place t vs made (refusal_in place.number t a) ks s h is.0 is.1 k
heard_kept g ns o WasDropped a ks s fit h is k = (h, (tt, k))
heard_kept g ns o WasLeft a ks s fit h is k = (left_keeps g ns s h, (tt, k))
heard_kept g ns o (WasBack copy but) a ks s fit h is k = (h, (is, k))
heard_kept g ns o (WasGot place row held made) a ks s fit h is k = (got_keeps g ns o place row held made a s fit h is, (tt, k))
heard_kept g ns o (WasSecond n q c values) a ks s fit h is k = second_kept g ns g.program (found_in a) n q c values ks s h is.0 is.1 (found_suited g o (table_here g ns q.reading.buffer) (found_in a) (found_fit g o a fit) is.2) k
heard_kept g ns o (WasNext n q) a ks s fit h is k = next_kept g ns g.program (found_in a) n q ks s h is.0 is.1 (found_suited g o (table_here g ns q.reading.buffer) (found_in a) (found_fit g o a fit) is.2) k
heard_kept g ns o (WasGranted r retry row) a ks s fit h is k = grant_kept g ns (grant_in a) r retry row ks s h is.0 is.1 k
heard_kept g ns o (WasRead r retry row held) a ks s fit h is k = read_kept g ns g.program (values_in a) r retry row held ks s h is.0 is.1 (suited g o (table_here g ns r.buffer) (values_in a) (values_fit g o a fit) is.2) k
heard_kept g ns o (CurrentGranted r row made) a ks s fit h is k = current_grant_kept g ns (grant_in a) r row made ks s h is.0 is.1 k
heard_kept g ns o (WasCurrent r row made) a ks s fit h is k = current_kept g ns (values_in a) r row made ks s h is.0 (suited g o (table_here g ns r.buffer) (values_in a) (values_fit g o a fit) is.1) k
heard_kept g ns o (WasCounted t) a ks s fit h is k = count_kept g ns (number_in a) t ks s h is.0 is.1 k
heard_kept g ns o (WasUpgraded b row values made) a ks s fit h is k =
    kept_if g ns (is_gone a) (fault (RecordIsGone b) ks s) (config (Unwind Normal) ks (holding b (Record row values Exclusive made) s)) (λ _. (h, (is.0, k))) (λ _. (holding_keeps g ns b (Record row values Exclusive made) s h is.1, (tt, k)))
heard_kept g ns o (WasPut b t) a ks s fit h is k = refused_kept g ns (refusal_in b t a) ks s h is k
heard_kept g ns o (WasDeleted b) a ks s fit h is k =
    kept_if g ns (is_gone a) (fault (RecordIsGone b) ks s) (config (Unwind Normal) ks (emptied b s)) (λ _. (h, (is, k))) (λ _. (emptied_keeps g ns b s h, (tt, k)))
heard_kept g ns o (WasEntered b t retry body d) a ks s fit h is k = (h, ((is.0, copy_has g ns s h, is.1), k))

pub answer_kept : (g : Ground) (ns : List ℕ) (a : Answer) (o : Op) (on : OnAnswer) (ks : List StackEntry) (s : State) → Fits g.schema o a → AreFrames g ns s.frames → IsOfSchema g.schema o → IsAwaited g ns (allows ks) o on → IsStack g ns ks → Kept g ns (answered g.program a o on ks s)
answer_kept g ns (answer.Blocked holders) o on ks s fit h w is k = (h, (w, is, k))
answer_kept g ns answer.NoMemory o on ks s fit h w is k = (h, tt)
answer_kept g ns answer.Closed o on ks s fit h w is k = (h, tt)
answer_kept g ns (answer.Deadlock cycle) o on ks s fit h w is k = (h, tt)
answer_kept g ns answer.TxFull o on ks s fit h w is k = (h, tt)
answer_kept g ns answer.TraceFull o on ks s fit h w is k = (h, tt)
answer_kept g ns a o on ks s fit h w is k = heard_kept g ns o on a ks s fit h is k
