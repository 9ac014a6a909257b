-- An answer writes nothing.
use Rattle.std.proofs.Common.{◌≡◌, ℕ, zero, suc, List, Option, Some, None, Bool, true, false, refl}
use Rattle.std.specs.Prelude.{◌==◌, ℤ}
use Rattle.abl_base.specs.declared.row.RowId.{RowId}
use Rattle.abl_base.specs.declared.value.Kind.{Kind}
use Rattle.abl_base.specs.declared.value.Value.{Value}
use Rattle.abl_base.specs.declared.value.Value.TheVariants.{Int64}
use Rattle.expression_meaning.specs.Operators.{holds}
use Rattle.database_protocol.specs.declared.answer.Answer.{Answer}
use Rattle.database_protocol.specs.declared.operation.Op.{Op}
use Rattle.database_protocol.specs.declared.row_order.Cursor.{Cursor}
use Rattle.bound_tree.specs.declared.statement.Target.{Target}
use Rattle.bound_tree.specs.declared.statement.Target.TheVariants as target
use Rattle.bound_tree.specs.Tree.{Expr, Reading}
use Rattle.block_meaning.specs.Program.{Program}
use Rattle.block_meaning.specs.Lines.{Complaint}
use Rattle.block_meaning.specs.State.{State, Content, Empty, Record, Pending, Held}
use Rattle.block_meaning.specs.Frames.{assigned, content_of, emptied}
use Rattle.block_meaning.specs.Values.{Evaluated, Gives, Fails, value_now, fit}
use Rattle.block_meaning.specs.Views.{FoundRow, found_in, values_in, row_in, number_in, Grant, IsGranted, IsBusy, IsGone, grant_in, is_gone, refusal_in}
use Rattle.block_meaning.specs.Buffers.{Place, left_if}
use Rattle.block_meaning.specs.Reads.{Search, held_as}
use Rattle.block_meaning.specs.Changes.{stored, stored_in, stored_value}
use Rattle.flat_machine.specs.Config.{Config, StackEntry, OnAnswer, WasInserted, WasDropped, WasLeft, WasBack, WasGot, WasSecond, WasNext, WasGranted, WasRead, CurrentGranted, WasCurrent, WasCounted, WasUpgraded, WasPut, WasDeleted, WasEntered}
use Rattle.flat_machine.specs.Steps.{asked_from, config_if, judge_step, test_step}
use Rattle.flat_machine.specs.Machine.{answer_step, insert_answered, refused_answered, read_answered, grant_answered, second_answered, next_answered, current_answered, current_grant_answered, count_answered}

-- the configuration has written what the state has
abbrev WritesAs : State → Config → Type 0
WritesAs s c = c.state.written ≡ s.written

-- ---- parts of a step

asks : (n : ℕ) (o : Op) (k : OnAnswer) (ks : List StackEntry) (s : State) → WritesAs s (asked_from n o k ks s)
asks zero o k ks s = refl
asks (suc n) o k ks s = refl

one_of : (b : Bool) (s : State) (c d : Config) → WritesAs s c → WritesAs s d → WritesAs s (config_if b c d)
one_of true s c d x y = x
one_of false s c d x y = y

judges : (e : Evaluated) (b : ℕ) (good bad : State → Config) (ks : List StackEntry) (r s : State) → s.written ≡ r.written → ((t : State) → t.written ≡ s.written → WritesAs r (good t)) → ((t : State) → t.written ≡ s.written → WritesAs r (bad t)) → WritesAs r (judge_step e b good bad ks s)
judges (Gives v) b good bad ks r s same x y = one_of (holds v) r (good s) (bad (emptied b s)) (x s refl) (y (emptied b s) refl)
judges (Fails c) b good bad ks r s same x y = same

tests : (p : Program) (e : Option Expr) (b : ℕ) (retry : Bool) (good bad : State → Config) (ks : List StackEntry) (r s : State) → s.written ≡ r.written → ((t : State) → t.written ≡ s.written → WritesAs r (good t)) → ((t : State) → t.written ≡ s.written → WritesAs r (bad t)) → WritesAs r (test_step p e b retry good bad ks s)
tests p None b retry good bad ks r s same x y = x s refl
tests p (Some e) b retry good bad ks r s same x y = judges (value_now p e retry s) b good bad ks r s same x y

-- ---- values that are stored

value_stores : (e : Evaluated) (set : Value → State → State) (s : State) → ((v : Value) → (set v s).written ≡ s.written) → (stored_value e set s).state.written ≡ s.written
value_stores (Gives v) set s x = x v
value_stores (Fails c) set s x = refl

field_stores : (c : Content) (b f : ℕ) (k : Kind) (v : Value) (s : State) → (stored_in c b f k v s).state.written ≡ s.written
field_stores Empty b f k v s = refl
field_stores (Record row values held made) b f k v s = value_stores (fit k v) _ s (λ v. refl)
field_stores (Pending values since made) b f k v s = value_stores (fit k v) _ s (λ v. refl)

variable_writes : (undoable external : Bool) (n : ℕ) (k : Kind) (v : Value) (s : State) → (assigned (record { external = external; undoable = undoable; number = n; kind = k }) v s).written ≡ s.written
variable_writes true true n k v s = refl
variable_writes true false n k v s = refl
variable_writes false true n k v s = refl
variable_writes false false n k v s = refl

stores : (t : Target) (v : Value) (s : State) → (stored t v s).state.written ≡ s.written
stores (target.Variable x) v s = value_stores (fit x.kind v) (assigned x) s (λ w. variable_writes x.undoable x.external x.number x.kind w s)
stores (target.Field b f k) v s = field_stores (content_of b s) b f k v s

-- ---- answers

left_writes : (b : Bool) (s : State) → (left_if b s).written ≡ s.written
left_writes true s = refl
left_writes false s = refl

inserts : (row : Option RowId) (at : Place) (t : ℕ) (vs : List Value) (made : ℕ) (c : Option Complaint) (ks : List StackEntry) (s : State) → WritesAs s (insert_answered row at t vs made c ks s)
inserts (Some row) at t vs made c ks s = refl
inserts None at t vs made (Some c) ks s = refl
inserts None at t vs made None ks s = refl

refuses : (c : Option Complaint) (ks : List StackEntry) (s : State) → WritesAs s (refused_answered c ks s)
refuses (Some c) ks s = refl
refuses None ks s = refl

reads : (p : Program) (x : Option (List Value)) (r : Reading) (retry : Bool) (row : RowId) (held : Held) (ks : List StackEntry) (s : State) → WritesAs s (read_answered p x r retry row held ks s)
reads p (Some values) r retry row held ks s = tests p r.test r.buffer retry _ _ ks s _ refl (λ t e. e) (λ t e. e)
reads p None r retry row held ks s = refl

grants : (g : Grant) (r : Reading) (retry : Bool) (row : RowId) (ks : List StackEntry) (s : State) → WritesAs s (grant_answered g r retry row ks s)
grants IsGranted r retry row ks s = asks s.units _ (WasRead r retry row (held_as r.lock)) ks s
grants IsBusy r retry row ks s = refl
grants IsGone r retry row ks s = refl

seconds : (p : Program) (x : Option FoundRow) (n : ℕ) (k : Search) (c : Cursor) (values : List Value) (ks : List StackEntry) (s : State) → WritesAs s (second_answered p x n k c values ks s)
seconds p (Some x) n k c values ks s = tests p k.reading.test k.reading.buffer k.retry _ _ ks s _ refl (λ t e. e) (λ t e. e)
seconds p None n k c values ks s = refl

nexts : (p : Program) (x : Option FoundRow) (n : ℕ) (k : Search) (ks : List StackEntry) (s : State) → WritesAs s (next_answered p x n k ks s)
nexts p (Some x) n k ks s = tests p k.reading.test k.reading.buffer k.retry _ _ ks s _ refl (λ t e. e) (λ t e. e)
nexts p None n k ks s = refl

currents : (x : Option (List Value)) (r : Reading) (row : RowId) (made : Option ℕ) (ks : List StackEntry) (s : State) → WritesAs s (current_answered x r row made ks s)
currents (Some values) r row made ks s = refl
currents None r row made ks s = refl

current_grants : (g : Grant) (r : Reading) (row : RowId) (made : Option ℕ) (ks : List StackEntry) (s : State) → WritesAs s (current_grant_answered g r row made ks s)
current_grants IsGranted r row made ks s = asks s.units _ (WasCurrent r row made) ks s
current_grants IsBusy r row made ks s = refl
current_grants IsGone r row made ks s = refl

counts : (n : Option ℤ) (t : Target) (ks : List StackEntry) (s : State) → WritesAs s (count_answered n t ks s)
counts (Some n) t ks s = stores t (Int64 n) s
counts None t ks s = refl

pub answer_step_writes : (p : Program) (k : OnAnswer) (a : Answer) (ks : List StackEntry) (s : State) → (answer_step p k a ks s).state.written ≡ s.written
answer_step_writes p (WasInserted at t vs made) a ks s = inserts (row_in a) at t vs made (refusal_in at.number t a) ks s
answer_step_writes p WasDropped a ks s = refl
answer_step_writes p WasLeft a ks s = left_writes (s.level == 1) s
answer_step_writes p (WasBack copy but) a ks s = refl
answer_step_writes p (WasGot at row held made) a ks s = refl
answer_step_writes p (WasSecond n k c values) a ks s = seconds p (found_in a) n k c values ks s
answer_step_writes p (WasNext n k) a ks s = nexts p (found_in a) n k ks s
answer_step_writes p (WasGranted r retry row) a ks s = grants (grant_in a) r retry row ks s
answer_step_writes p (WasRead r retry row held) a ks s = reads p (values_in a) r retry row held ks s
answer_step_writes p (CurrentGranted r row made) a ks s = current_grants (grant_in a) r row made ks s
answer_step_writes p (WasCurrent r row made) a ks s = currents (values_in a) r row made ks s
answer_step_writes p (WasCounted t) a ks s = counts (number_in a) t ks s
answer_step_writes p (WasUpgraded b row values made) a ks s = one_of (is_gone a) s _ _ refl refl
answer_step_writes p (WasPut b t) a ks s = refuses (refusal_in b t a) ks s
answer_step_writes p (WasDeleted b) a ks s = one_of (is_gone a) s _ _ refl refl
answer_step_writes p (WasEntered b t retry body d) a ks s = refl
