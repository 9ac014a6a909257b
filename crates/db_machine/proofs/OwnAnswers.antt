-- What holds of answers that an operation can have.
use Rattle.std.proofs.Common.{◌≡◌, ◌≢◌, ◌⊎◌, ◌∙◌, ℕ, refl, sym, subst, inl, inr}
use Rattle.database_protocol.specs.declared.operation.Op.{Op}
use Rattle.database_protocol.specs.declared.operation.Op.TheVariants.{Enter, Leave, Back, Next, Get, Lock, Insert, Put, Delete, Drop as DropLock, NextValue, CurrentValue, End}
use Rattle.database_protocol.specs.declared.answer.Answer.{Answer}
use Rattle.database_protocol.specs.declared.answer.Answer.TheVariants.{Refused, Closed, TraceFull, Gone, KeyTooLong, Busy, Blocked, Deadlock, Duplicate, Full, TxFull, SequenceEnd, AtEnd, NoMemory, Done, Committed, Found, Row as RowAnswer, Granted, Inserted, Value as ValueAnswer}
use Rattle.abl_values.specs.Schema.{SchemaData}
use Rattle.database_meaning.specs.Fits.{Fits, IsNoEnd, IsOwnAnswer}
use Rattle.db_machine.specs.OwnAnswers.{IsEntryAnswer, IsOpenAnswer}
use Rattle.db_machine.specs.Replies.{IsFitted}

pub insert_entry : (schema : SchemaData) (table : ℕ) (values : _) (a : Answer) → IsEntryAnswer schema table a → IsOwnAnswer schema (Insert table values) a
insert_entry schema table values (KeyTooLong index) h = h
insert_entry schema table values (Duplicate index row) h = h
insert_entry schema table values (Blocked holders) h = tt
insert_entry schema table values (Deadlock cycle) h = tt
insert_entry schema table values Full h = tt
insert_entry schema table values TxFull h = tt
insert_entry schema table values _ h = absurd h

pub put_entry : (schema : SchemaData) (table : ℕ) (row : _) (values : _) (a : Answer) → IsEntryAnswer schema table a → IsOwnAnswer schema (Put table row values) a
put_entry schema table row values (KeyTooLong index) h = h
put_entry schema table row values (Duplicate index other) h = h
put_entry schema table row values (Blocked holders) h = tt
put_entry schema table row values (Deadlock cycle) h = tt
put_entry schema table row values Full h = tt
put_entry schema table row values TxFull h = tt
put_entry schema table row values _ h = absurd h

own_fits : (schema : SchemaData) (op : Op) (a : Answer) → IsNoEnd op → IsOwnAnswer schema op a → Fits schema op a
own_fits schema op Refused other own = tt
own_fits schema op Closed other own = other
own_fits schema op TraceFull other own = other
own_fits schema op NoMemory other own = other
own_fits schema op Gone other own = own
own_fits schema op (KeyTooLong index) other own = own
own_fits schema op (Busy holders) other own = own
own_fits schema op (Blocked holders) other own = own
own_fits schema op (Deadlock cycle) other own = own
own_fits schema op (Duplicate index row) other own = own
own_fits schema op Full other own = own
own_fits schema op TxFull other own = own
own_fits schema op SequenceEnd other own = own
own_fits schema op AtEnd other own = own
own_fits schema op Done other own = own
own_fits schema op (Committed moment) other own = own
own_fits schema op (Found row key values) other own = own
own_fits schema op (RowAnswer values) other own = own
own_fits schema op Granted other own = own
own_fits schema op (Inserted row) other own = own
own_fits schema op (ValueAnswer value) other own = own

refused_is_not : (schema : SchemaData) (op : Op) → ¬ IsOwnAnswer schema op Refused
refused_is_not schema Enter h = h
refused_is_not schema (Leave keep) h = h
refused_is_not schema (Back depth) h = h
refused_is_not schema (Next table index prefix cursor forward) h = h
refused_is_not schema (Get table row) h = h
refused_is_not schema (Lock table row exclusive wait) h = h
refused_is_not schema (Insert table values) h = h
refused_is_not schema (Put table row values) h = h
refused_is_not schema (Delete table row) h = h
refused_is_not schema (DropLock row) h = h
refused_is_not schema (NextValue sequence) h = h
refused_is_not schema (CurrentValue sequence) h = h
refused_is_not schema End h = h

closed_is_not : (schema : SchemaData) (op : Op) → ¬ IsOwnAnswer schema op Closed
closed_is_not schema Enter h = h
closed_is_not schema (Leave keep) h = h
closed_is_not schema (Back depth) h = h
closed_is_not schema (Next table index prefix cursor forward) h = h
closed_is_not schema (Get table row) h = h
closed_is_not schema (Lock table row exclusive wait) h = h
closed_is_not schema (Insert table values) h = h
closed_is_not schema (Put table row values) h = h
closed_is_not schema (Delete table row) h = h
closed_is_not schema (DropLock row) h = h
closed_is_not schema (NextValue sequence) h = h
closed_is_not schema (CurrentValue sequence) h = h
closed_is_not schema End h = h

pub open_fits : (schema : SchemaData) (op : Op) (a : Answer) → IsOpenAnswer schema op a → Fits schema op a
open_fits schema op a (other, inl full) = subst (Fits schema op) (sym full) other
open_fits schema op a (other, inr own) = own_fits schema op a other own

pub open_unrefused : (schema : SchemaData) (op : Op) (a : Answer) → IsOpenAnswer schema op a → a ≢ Refused
open_unrefused schema op a (other, inl full) is = let clash : TraceFull ≡ Refused = sym full ∙ is in cc
open_unrefused schema op a (other, inr own) is = refused_is_not schema op (subst (IsOwnAnswer schema op) is own)

pub open_unclosed : (schema : SchemaData) (op : Op) (a : Answer) → IsOpenAnswer schema op a → a ≢ Closed
open_unclosed schema op a (other, inl full) is = let clash : TraceFull ≡ Closed = sym full ∙ is in cc
open_unclosed schema op a (other, inr own) is = closed_is_not schema op (subst (IsOwnAnswer schema op) is own)

memory_is_not : (schema : SchemaData) (op : Op) → ¬ IsOwnAnswer schema op NoMemory
memory_is_not schema Enter h = h
memory_is_not schema (Leave keep) h = h
memory_is_not schema (Back depth) h = h
memory_is_not schema (Next table index prefix cursor forward) h = h
memory_is_not schema (Get table row) h = h
memory_is_not schema (Lock table row exclusive wait) h = h
memory_is_not schema (Insert table values) h = h
memory_is_not schema (Put table row values) h = h
memory_is_not schema (Delete table row) h = h
memory_is_not schema (DropLock row) h = h
memory_is_not schema (NextValue sequence) h = h
memory_is_not schema (CurrentValue sequence) h = h
memory_is_not schema End h = h

pub open_met : (schema : SchemaData) (op : Op) (a : Answer) → IsOpenAnswer schema op a → a ≢ NoMemory
open_met schema op a (other, inl full) is = let clash : TraceFull ≡ NoMemory = sym full ∙ is in cc
open_met schema op a (other, inr own) is = memory_is_not schema op (subst (IsOwnAnswer schema op) is own)

-- the decided answer of an operation, or TraceFull
pub fitted_from : (schema : SchemaData) (size : ℕ) (op o : Op) (decided a : Answer) → op ≡ o → IsNoEnd o → IsOwnAnswer schema o decided → IsFitted size op decided a → IsOpenAnswer schema op a
fitted_from schema size op o decided a is other own (inl fitted) =
    (subst IsNoEnd (sym is) other, inr (subst (λ (x : Answer). IsOwnAnswer schema op x) (sym fitted.1) (subst (λ (x : Op). IsOwnAnswer schema x decided) (sym is) own)))
fitted_from schema size op o decided a is other own (inr full) = (subst IsNoEnd (sym is) other, inl full.1)

-- End is not prepared: its answer is Done
pub not_end : (op : Op) → op ≢ End → IsNoEnd op
not_end End ne = absurd (ne refl)
not_end Enter ne = tt
not_end (Leave keep) ne = tt
not_end (Back depth) ne = tt
not_end (Next table index prefix cursor forward) ne = tt
not_end (Get table row) ne = tt
not_end (Lock table row exclusive wait) ne = tt
not_end (Insert table values) ne = tt
not_end (Put table row values) ne = tt
not_end (Delete table row) ne = tt
not_end (DropLock row) ne = tt
not_end (NextValue sequence) ne = tt
not_end (CurrentValue sequence) ne = tt

pub end_or : (op : Op) → (op ≡ End) ⊎ (op ≢ End)
end_or End = inl refl
end_or Enter = inr (λ e. cc)
end_or (Leave keep) = inr (λ e. cc)
end_or (Back depth) = inr (λ e. cc)
end_or (Next table index prefix cursor forward) = inr (λ e. cc)
end_or (Get table row) = inr (λ e. cc)
end_or (Lock table row exclusive wait) = inr (λ e. cc)
end_or (Insert table values) = inr (λ e. cc)
end_or (Put table row values) = inr (λ e. cc)
end_or (Delete table row) = inr (λ e. cc)
end_or (DropLock row) = inr (λ e. cc)
end_or (NextValue sequence) = inr (λ e. cc)
end_or (CurrentValue sequence) = inr (λ e. cc)
