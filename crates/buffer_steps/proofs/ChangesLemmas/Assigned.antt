-- Assignments to a field.
use Rattle.std.proofs.Common.{◌≡◌, ℕ, true, false, List, ◌∷◌, Option, Some, Result, Err, refl, sym, ap, ◌∙◌, subst}
use Rattle.std.specs.Prelude.{slice_set}
use Rattle.abl_base.specs.declared.row.RowId.{RowId}
use Rattle.abl_base.specs.declared.value.Kind.{Kind}
use Rattle.abl_base.specs.declared.value.Value.{Value}
use Rattle.evaluator.specs.declared.fault.EvalFault.{EvalFault}
use Rattle.evaluator.specs.declared.fault.EvalFault.TheVariants.{Fault, NoMemory}
use Rattle.block_meaning.specs.Lines.{NoRecordIn}
use Rattle.block_meaning.specs.State.{State, Content, Empty, Record, Pending, Held, Normal, Faults, completed}
use Rattle.block_meaning.specs.Changes.{stored_in, stored_value, with_field}
use Rattle.block_meaning.specs.Frames.{holding}
use Rattle.block_meaning.specs.Values.{Evaluated, Gives, fit, is_available}
use Rattle.client_values.specs.Ends.{Assigns, Evaluates}

-- there is no record
pub no_record : (x : Content) (b f : ℕ) (k : Kind) (v : Value) (s : State) → is_available x ≡ false → stored_in x b f k v s ≡ completed (Faults (Some (NoRecordIn b))) s
no_record Empty b f k v s none = refl
no_record (Record row values held made) b f k v s none = cc
no_record (Pending values since made) b f k v s none = cc

unfit_now : (fault : EvalFault) (x : Content) (b f : ℕ) (k : Kind) (v : Value) (s : State) → is_available x ≡ true → Evaluates (Err fault) (fit k v) → Assigns {A = Unit {0}} (Err fault) (stored_in x b f k v s) s
unfit_now (Fault g) Empty b f k v s has h = cc
unfit_now (Fault g) (Record row values held made) b f k v s has h = ap (λ (e : Evaluated). stored_value e (λ w. with_field f w b (Record row values held made)) s) h
unfit_now (Fault g) (Pending values since made) b f k v s has h = ap (λ (e : Evaluated). stored_value e (λ w. with_field f w b (Pending values since made)) s) h
unfit_now NoMemory x b f k v s has h = tt

-- the value does not fit
pub unfit : (r : Result (Unit {0}) EvalFault) (fault : EvalFault) (x : Content) (b f : ℕ) (k : Kind) (v : Value) (s : State) → r ≡ Err fault → is_available x ≡ true → Evaluates (Err fault) (fit k v) → Assigns r (stored_in x b f k v s) s
unfit r fault x b f k v s e has h = subst (λ (y : Result (Unit {0}) EvalFault). Assigns y (stored_in x b f k v s) s) (sym e) (unfit_now fault x b f k v s has h)

-- a field of a row
pub record_set : (x : Content) (b f : ℕ) (k : Kind) (v w : Value) (s : State) (row : RowId) (values : List Value) (held : Held) (made : Option ℕ) → x ≡ Record row values held made → fit k v ≡ Gives w → stored_in x b f k v s ≡ completed Normal (holding b (Record row (slice_set values f w) held made) s)
record_set x b f k v w s row values held made is fits =
    ap (λ (c : Content). stored_in c b f k v s) is ∙ ap (λ (e : Evaluated). stored_value e (λ y. with_field f y b (Record row values held made)) s) fits

-- a field of a pending record
pub pending_set : (x : Content) (b f : ℕ) (k : Kind) (v w : Value) (s : State) (values : List Value) (since : List ℕ) (made : ℕ) → x ≡ Pending values since made → fit k v ≡ Gives w → stored_in x b f k v s ≡ completed Normal (holding b (Pending (slice_set values f w) (f ∷ since) made) s)
pending_set x b f k v w s values since made is fits =
    ap (λ (c : Content). stored_in c b f k v s) is ∙ ap (λ (e : Evaluated). stored_value e (λ y. with_field f y b (Pending values since made)) s) fits
