-- The operations that changes ask for are not on levels: with a unit left, the step shows its operation.
use Rattle.std.proofs.Common.{◌≡◌, ℕ, Bool, true, false, List, [], Option, Some, None, ap, subst}
use Rattle.abl_base.specs.declared.row.RowId.{RowId}
use Rattle.abl_base.specs.declared.value.Value.{Value}
use Rattle.database_protocol.specs.declared.operation.Op.{Op}
use Rattle.database_protocol.specs.declared.operation.Op.TheVariants as op
use Rattle.block_meaning.specs.Changes.{all_begun}
use Rattle.block_meaning.specs.Lines.{Complaint}
use Rattle.block_meaning.specs.Program.{Program, table_at}
use Rattle.block_meaning.specs.State as state
use Rattle.block_meaning.specs.State.{State, Content, Empty, Record, Pending, Held, NoLock, Share, Exclusive}
use Rattle.block_meaning.specs.Buffers.{missing_field}
use Rattle.flat_machine.specs.Flat as flat
use Rattle.block_meaning.specs.Frames.{content_of, table_of}
use Rattle.buffer_steps.specs.changes.Steps.{SettleGoes}
use Rattle.buffer_steps.specs.declared.changes.stores.StoreStep.{StoreStep}
use Rattle.buffer_steps.specs.declared.changes.stores.StoreStep.TheVariants as store
use Rattle.client_machine.specs.Order.{IsNotOnLevels}
use Rattle.client_memory.specs.Memory.{Remembered}
use Rattle.client_records.specs.Locks.{StoresRow}
use Rattle.client_values.specs.Reads.{Reads}

-- with one unit left
abbrev pub one_unit : State → State
one_unit s = record s { units = 1 }

not_unwound : (w : state.Completion) (o : Op) (k : flat.OnAnswer) (s t : State) → flat.config (flat.Unwind w) [] s ≡ flat.config (flat.Await o k) [] t → IsNotOnLevels o
not_unwound w o k s t e = absurd (let h : flat.Unwind w ≡ flat.Await o k = ap (λ (c : flat.Config). c.mode) e in cc)

not_executed : (x : flat.Task) (o : Op) (k : flat.OnAnswer) (s t : State) → flat.config (flat.Execute x) [] s ≡ flat.config (flat.Await o k) [] t → IsNotOnLevels o
not_executed x o k s t e = absurd (let h : flat.Execute x ≡ flat.Await o k = ap (λ (c : flat.Config). c.mode) e in cc)

awaited : (o x : Op) (k y : flat.OnAnswer) (s t : State) → flat.config (flat.Await o k) [] s ≡ flat.config (flat.Await x y) [] t → o ≡ x
awaited o x k y s t e = let h : flat.Await o k ≡ flat.Await x y = ap (λ (c : flat.Config). c.mode) e in cc

-- ---- the lock

upgrade_asks : (held : Held) (t b : ℕ) (row : RowId) (values : List Value) (made : Option ℕ) (s z : State) (o : Op) (k : flat.OnAnswer) → flat.upgrade_step held t b row values made [] (one_unit s) ≡ flat.config (flat.Await o k) [] z → IsNotOnLevels o
upgrade_asks NoLock t b row values made s z o k e = not_unwound _ o k _ z e
upgrade_asks Share t b row values made s z o k e = subst IsNotOnLevels (awaited (op.Lock t row true true) o _ k _ z e) tt
upgrade_asks Exclusive t b row values made s z o k e = not_unwound _ o k _ z e

pub lock_asks : (x : Content) (t b : ℕ) (s z : State) (o : Op) (k : flat.OnAnswer) → flat.lock_step x t b [] (one_unit s) ≡ flat.config (flat.Await o k) [] z → IsNotOnLevels o
lock_asks Empty t b s z o k e = not_unwound _ o k _ z e
lock_asks (Pending values since made) t b s z o k e = not_unwound _ o k _ z e
lock_asks (Record row values held made) t b s z o k e = upgrade_asks held t b row values made s z o k e

-- ---- storing

inserts_if : (b : Bool) (x : flat.Task) (s z : State) (o : Op) (k : flat.OnAnswer) → flat.config_if b (flat.config (flat.Execute x) [] s) (flat.config (flat.Unwind state.Normal) [] s) ≡ flat.config (flat.Await o k) [] z → IsNotOnLevels o
inserts_if true x s z o k e = not_executed x o k s z e
inserts_if false x s z o k e = not_unwound state.Normal o k s z e

puts_if : (long : Bool) (c : Complaint) (b t : ℕ) (row : RowId) (vs : List Value) (s z : State) (o : Op) (k : flat.OnAnswer) → flat.config_if long (flat.fault c [] (one_unit s)) (flat.ask (op.Put t row vs) (flat.WasPut b t) [] (one_unit s)) ≡ flat.config (flat.Await o k) [] z → IsNotOnLevels o
puts_if true c b t row vs s z o k e = not_unwound _ o k _ z e
puts_if false c b t row vs s z o k e = subst IsNotOnLevels (awaited (op.Put t row vs) o _ k _ z e) tt

put_asks : (missing : Option ℕ) (b t : ℕ) (row : RowId) (vs : List Value) (s z : State) (o : Op) (k : flat.OnAnswer) → flat.put_unless missing b t row vs [] (one_unit s) ≡ flat.config (flat.Await o k) [] z → IsNotOnLevels o
put_asks (Some f) b t row vs s z o k e = not_unwound _ o k _ z e
put_asks None b t row vs s z o k e = puts_if _ _ b t row vs s z o k e

pub settle_asks : (p : Program) (x : Content) (t b : ℕ) (s z : State) (o : Op) (k : flat.OnAnswer) → flat.settle_step p x t b [] (one_unit s) ≡ flat.config (flat.Await o k) [] z → IsNotOnLevels o
settle_asks p Empty t b s z o k e = not_unwound _ o k _ z e
settle_asks p (Pending values since made) t b s z o k e = inserts_if (all_begun (table_at p t).indexes since) _ (one_unit s) z o k e
settle_asks p (Record row values held made) t b s z o k e = put_asks (missing_field 0 (table_at p t).fields values) b t row values s z o k e

-- a step that stores a record
pub stores_row : (step : StoreStep) (p : Program) (b : ℕ) (s : State) → SettleGoes step p b (one_unit s) → StoresRow step
stores_row store.Nothing p b s goes = tt
stores_row store.Inserts p b s goes = tt
stores_row (store.Fails c) p b s goes = tt
stores_row (store.Asks o) p b s goes = settle_asks p (content_of b s) (table_of b s) b s _ o (flat.WasPut b (table_of b s)) (goes [])

-- the number of units counts for nothing
pub more_units : (p : Program) (rest : State) (ns : List ℕ) (m : Remembered) (error : Bool) (returned : List ℕ) → Reads p rest ns m error returned → Reads p (one_unit rest) ns m error returned
more_units p rest ns m error returned r = record { forms = r.forms; even = r.even; status_is = r.status_is; returned_is = r.returned_is }
