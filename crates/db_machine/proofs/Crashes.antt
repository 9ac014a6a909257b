-- What the answers of the operations do to what stops leave.
use Rattle.std.proofs.Common.{◌≡◌, ◌∙◌, ℕ, true, false, List, refl, sym, ap, subst, inl, inr}
use Rattle.std.specs.Prelude.{IfOk, Result, Ok, Err}
use Rattle.database_protocol.specs.declared.operation.Op.{Op}
use Rattle.database_protocol.specs.declared.operation.Op.TheVariants.{Enter, Leave, Back, Next, Get, Lock, Insert, Put, Delete, Drop as DropLock, NextValue, CurrentValue, End}
use Rattle.database_protocol.specs.declared.answer.Answer.{Answer}
use Rattle.database_protocol.specs.declared.answer.Answer.TheVariants.{Closed, Committed}
use Rattle.database_protocol.specs.declared.event.Event.{Event}
use Rattle.abl_values.specs.Schema.{SchemaData}
use Rattle.database_meaning.specs.declared.contents.Contents.{Contents}
use Rattle.database_meaning.specs.Fits.{IsOwnAnswer}
use Rattle.database_meaning.specs.Setting.{Setting}
use Rattle.database_meaning.specs.Traces.{is_committed, is_leave}
use Rattle.row_store.specs.declared.store.RowFault.{RowFault}
use Rattle.row_store.specs.declared.store.RowFault.TheVariants.{Disk as DiskFailed, NoMemory as OutOfMemory}
use Rattle.row_store.specs.Rows.{Durable, OnlyDisk, RowState}
use Rattle.row_store.specs.Times.{Times}
use Rattle.db_core.specs.declared.control.Control.{Control}
use Rattle.db_core.specs.Crashes.{Continues, IsDurable, StaysDurable, longer}
use Rattle.db_core.proofs.Crashes.{grows_quietly}
use Rattle.db_machine.specs.Crashes.{answer_for}
use Rattle.db_machine.specs.declared.replies.Reply.{Reply}
use Rattle.db_machine.specs.OwnAnswers.{IsOpenAnswer}
use Rattle.db_machine.specs.Replies.{IsFitted, IsRefusal}

-- ---- answers that commit nothing

committed_is_not : (schema : SchemaData) (op : Op) (moment : ℕ) → is_leave op ≡ false → ¬ IsOwnAnswer schema op (Committed moment)
committed_is_not schema Enter moment other h = h
committed_is_not schema (Leave keep) moment other h = let clash : true ≡ false = other in cc
committed_is_not schema (Back depth) moment other h = h
committed_is_not schema (Next table index prefix cursor forward) moment other h = h
committed_is_not schema (Get table row) moment other h = h
committed_is_not schema (Lock table row exclusive wait) moment other h = h
committed_is_not schema (Insert table values) moment other h = h
committed_is_not schema (Put table row values) moment other h = h
committed_is_not schema (Delete table row) moment other h = h
committed_is_not schema (DropLock row) moment other h = h
committed_is_not schema (NextValue sequence) moment other h = h
committed_is_not schema (CurrentValue sequence) moment other h = h
committed_is_not schema End moment other h = h

own_quiet : (schema : SchemaData) (op : Op) (a : Answer) → is_leave op ≡ false → IsOwnAnswer schema op a → is_committed a ≡ false
own_quiet schema op (Committed moment) other own = absurd (committed_is_not schema op moment other own)
own_quiet schema op _ other own = refl

-- only a Leave is answered Committed
open_quiet : (schema : SchemaData) (op : Op) (a : Answer) → is_leave op ≡ false → IsOpenAnswer schema op a → is_committed a ≡ false
open_quiet schema op a other (no_end, inl full) = ap is_committed full
open_quiet schema op a other (no_end, inr own) = own_quiet schema op a other own

pub refusal_quiet : (a : Answer) → IsRefusal a → is_committed a ≡ false
refusal_quiet (Committed moment) is = absurd is
refusal_quiet _ is = refl

pub fitted_quiet_of : (kept : ℕ) (op : Op) (b a : Answer) → IsFitted kept op b a → is_committed b ≡ false → is_committed a ≡ false
fitted_quiet_of kept op b a (inl fitted) none = ap is_committed fitted.1 ∙ none
fitted_quiet_of kept op b a (inr full) none = ap is_committed full.1

error_quiet : (error : RowFault) → is_committed (answer_for (Err error)) ≡ false
error_quiet OutOfMemory = refl
error_quiet DiskFailed = refl

pub error_quiet_of : (result : Result Reply RowFault) (error : RowFault) → result ≡ Err error → is_committed (answer_for result) ≡ false
error_quiet_of result error is = ap (λ (r : Result Reply RowFault). is_committed (answer_for r)) is ∙ error_quiet error

error_closed : {T : Type 0} (error : RowFault) → OnlyDisk {T = T} (Err error) → answer_for (Err error) ≡ Closed
error_closed OutOfMemory only = absurd (only refl)
error_closed DiskFailed only = refl

-- an error of a call that takes no memory
pub error_closed_of : {T : Type 0} (result : Result Reply RowFault) (error : RowFault) → result ≡ Err error → OnlyDisk {T = T} (Err error) → answer_for result ≡ Closed
error_closed_of {T} result error is only = ap answer_for is ∙ error_closed {T = T} error only

reply_quiet : (schema : SchemaData) (op : Op) (result : Result Reply RowFault) → is_leave op ≡ false → IfOk result (λ reply. IsOpenAnswer schema op reply.answer) → is_committed (answer_for result) ≡ false
reply_quiet schema op (Ok reply) other own = open_quiet schema op reply.answer other own
reply_quiet schema op (Err error) other own = error_quiet error

leave_quiet : (result : Result Reply RowFault) → IfOk result (λ reply. is_committed reply.answer ≡ false) → is_committed (answer_for result) ≡ false
leave_quiet (Ok reply) none = none
leave_quiet (Err error) none = error_quiet error

-- ---- steps that commit nothing

module _ (old new : RowState) (before after : ℕ → Durable → Type 0) (was now : Times) (control : Control) (c : ℕ) (op : Op) (result : Result Reply RowFault) (stays : StaysDurable old new before after was now) where
  quietly : is_committed (answer_for result) ≡ false → Continues old new before after was now control c op (answer_for result)
  quietly none f contents trace represents unshut h = grows_quietly new after now f contents trace c op (answer_for result) none (stays f contents trace h)

  pub continues_by : (schema : SchemaData) → is_leave op ≡ false → IfOk result (λ reply. IsOpenAnswer schema op reply.answer) → Continues old new before after was now control c op (answer_for result)
  continues_by schema other own = quietly (reply_quiet schema op result other own)

  pub continues_inside : IfOk result (λ reply. is_committed reply.answer ≡ false) → Continues old new before after was now control c op (answer_for result)
  continues_inside none = quietly (leave_quiet result none)

-- ---- a whole step

-- the trace and the operation as the database has them
pub continues_in : (rows : RowState) (left : ℕ → Durable → Type 0) (times : Times) (f : Setting) (contents : Contents) (trace : List Event) (c : ℕ) (op written : Op) (a b : Answer) → op ≡ written → a ≡ b
    → IsDurable rows left times f contents (longer trace c written b) → IsDurable rows left times f contents (longer trace c op a)
continues_in rows left times f contents trace c op written a b op_is is h =
    subst (λ (x : Answer). IsDurable rows left times f contents (longer trace c op x)) (sym is) (subst (λ (o : Op). IsDurable rows left times f contents (longer trace c o b)) (sym op_is) h)
