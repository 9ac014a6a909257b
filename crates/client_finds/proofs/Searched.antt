-- A search: the bracket, and Next.
use Rattle.std.proofs.Common.{◌≡◌, Bool, false, true, ℕ, suc, List, ◌∷◌, Option, Some, None, refl, sym, ap, ◌∙◌, subst}
use Rattle.abl_base.specs.declared.value.Value.{Value}
use Rattle.expression_meaning.specs.declared.fault.RunFault.{RunFault}
use Rattle.database_protocol.specs.declared.operation.Op.{Op}
use Rattle.database_protocol.specs.declared.operation.Op.TheVariants as op
use Rattle.database_protocol.specs.declared.row_order.Cursor.{Cursor}
use Rattle.block_meaning.specs.Lines.{MoreThanOne, complaint_of}
use Rattle.block_meaning.specs.Program.{Program}
use Rattle.block_meaning.specs.State as state
use Rattle.block_meaning.specs.State.{State}
use Rattle.block_meaning.specs.Frames.{table_of}
use Rattle.block_meaning.specs.Views.{FoundRow}
use Rattle.flat_machine.specs.Flat as flat
use Rattle.block_code.specs.declared.code.Instr.{Instr}
use Rattle.evaluator.specs.declared.fault.EvalFault.{EvalFault}
use Rattle.record_rules.specs.readings.Reading.{Brackets}
use Rattle.buffer_steps.specs.reads.Steps.{NextGoes, NextTested, SecondGoes, SecondTested}
use Rattle.buffer_steps.specs.declared.reads.search.NextTest.{NextTest}
use Rattle.client_machine.specs.declared.machine.Machine.{Machine}
use Rattle.client_machine.specs.declared.mode.reads.SearchData.{SearchData}
use Rattle.client_machine.specs.Config.{reading_at, search_of}
use Rattle.client_machine.specs.KeepsFrom.{KeepsFrom}
use Rattle.client_machine.specs.Machine.{stack_in, state_in}
use Rattle.client_machine.specs.Step.{code_in}
use Rattle.client_finds.specs.Stays.{ReadsIn, StaysIn, state_under}
use Rattle.client_finds.specs.Steps.{instrs_in, KeepsExecuted}
use Rattle.client_finds.proofs.Kept.{memory_goes, reads_now, rest_now, step_kept}
use Rattle.std.specs.Prelude.{Ok, Err, Result}
use Rattle.evaluator.specs.declared.fault.EvalFault.TheVariants.{Fault}

-- the bracket has these values
pub searched : (old mid new : Machine) (sd : SearchData) (from : Option Cursor) → mid ≡ old →
    ((p : Program) (rest : State) → ReadsIn p rest old → Brackets (Ok sd.prefix) p (reading_at (instrs_in old) sd.place) sd.retry (state_under rest old)) →
    KeepsExecuted (flat.Looks mid.units (search_of (instrs_in mid) sd) from) mid new → KeepsExecuted (flat.Searches (reading_at (instrs_in old) sd.place) sd.forward sd.only sd.wait sd.retry from) old new
searched old mid new sd from same goes keeps =
    step_kept (flat.Searches (reading_at (instrs_in old) sd.place) sd.forward sd.only sd.wait sd.retry from)
    (λ p s. flat.config (flat.Execute (flat.Looks old.units (search_of (instrs_in old) sd) from)) (stack_in old) s) old new
    (λ p rest f. goes p (rest_now rest old) (reads_now p rest old f) sd.forward sd.only sd.wait from (stack_in old))
    (subst (λ (m : Machine). KeepsExecuted (flat.Looks m.units (search_of (instrs_in m) sd) from) m new) same keeps)

-- it has a fault
pub search_fails : (old mid new : Machine) (k : ℕ) (forward only wait retry : Bool) (from : Option Cursor) (x : RunFault) → mid ≡ old →
    ((p : Program) (rest : State) → ReadsIn p rest old → Brackets (Err (Fault x)) p (reading_at (instrs_in old) k) retry (state_under rest old)) →
    KeepsFrom (λ p s. flat.fault (complaint_of x) (stack_in mid) s) mid new → KeepsExecuted (flat.Searches (reading_at (instrs_in old) k) forward only wait retry from) old new
search_fails old mid new k forward only wait retry from x same goes keeps =
    step_kept (flat.Searches (reading_at (instrs_in old) k) forward only wait retry from)
    (λ p s. flat.fault (complaint_of x) (stack_in old) s) old new
    (λ p rest f. goes p (rest_now rest old) (reads_now p rest old f) forward only wait from (stack_in old))
    (subst (λ (m : Machine). KeepsFrom (λ p s. flat.fault (complaint_of x) (stack_in m) s) m new) same keeps)

-- the operation Next of a search
abbrev pub NextAsked : Op → Machine → ℕ → List Value → Option Cursor → Bool → Type 0
NextAsked o m k prefix from forward = (p : Program) (rest : State) → ReadsIn p rest m → o ≡ op.Next (table_of (reading_at (instrs_in m) k).buffer (state_under rest m)) (reading_at (instrs_in m) k).index prefix from forward

-- Next is asked
pub looked : (old new : Machine) (fuel fuel' : ℕ) (sd : SearchData) (from : Option Cursor) (prefix : List Value) (o : Op) → fuel ≡ suc fuel' → prefix ≡ sd.prefix → NextAsked o old sd.place prefix from sd.forward →
    KeepsFrom (λ p s. flat.ask o (flat.WasNext fuel' (search_of (instrs_in old) sd)) (stack_in old) s) old new → KeepsExecuted (flat.Looks fuel (search_of (instrs_in old) sd) from) old new
looked old new fuel fuel' sd from prefix o more copied asked keeps =
    let k = search_of (instrs_in old) sd in
    step_kept (flat.Looks fuel k from) (λ p s. flat.ask o (flat.WasNext fuel' k) (stack_in old) s) old new
    (λ p rest f.
    ap (λ n. flat.task_step (code_in old) p (flat.Looks n k from) (stack_in old) (state_in rest old)) more
    ∙ ap (λ vs. flat.ask (op.Next (table_of k.reading.buffer (state_in rest old)) k.reading.index vs from sd.forward) (flat.WasNext fuel' k) (stack_in old) (state_in rest old)) (sym copied)
    ∙ ap (λ x. flat.ask x (flat.WasNext fuel' k) (stack_in old) (state_in rest old)) (sym (asked p (rest_now rest old) (reads_now p rest old f)))) keeps

pub look_stops : (old new : Machine) (fuel : ℕ) (sd : SearchData) (from : Option Cursor) → fuel ≡ 0 →
    KeepsFrom (λ p s. flat.config (flat.Unwind (state.Stops state.out_of_units)) (stack_in old) s) old new → KeepsExecuted (flat.Looks fuel (search_of (instrs_in old) sd) from) old new
look_stops old new fuel sd from none keeps =
    let k = search_of (instrs_in old) sd in
    step_kept (flat.Looks fuel k from) (λ p s. flat.config (flat.Unwind (state.Stops state.out_of_units)) (stack_in old) s) old new
    (λ p rest f. ap (λ n. flat.task_step (code_in old) p (flat.Looks n k from) (stack_in old) (state_in rest old)) none) keeps

-- the same for a second match
pub looked_second : (old new : Machine) (fuel fuel' : ℕ) (sd : SearchData) (c : Cursor) (values : List Value) (from : Cursor) (prefix : List Value) (o : Op) → fuel ≡ suc fuel' → prefix ≡ sd.prefix → NextAsked o old sd.place prefix (Some from) true →
    KeepsFrom (λ p s. flat.ask o (flat.WasSecond fuel' (search_of (instrs_in old) sd) c values) (stack_in old) s) old new → KeepsExecuted (flat.Seconds fuel (search_of (instrs_in old) sd) c values from) old new
looked_second old new fuel fuel' sd c values from prefix o more copied asked keeps =
    let k = search_of (instrs_in old) sd in
    step_kept (flat.Seconds fuel k c values from) (λ p s. flat.ask o (flat.WasSecond fuel' k c values) (stack_in old) s) old new
    (λ p rest f.
    ap (λ n. flat.task_step (code_in old) p (flat.Seconds n k c values from) (stack_in old) (state_in rest old)) more
    ∙ ap (λ vs. flat.ask (op.Next (table_of k.reading.buffer (state_in rest old)) k.reading.index vs (Some from) true) (flat.WasSecond fuel' k c values) (stack_in old) (state_in rest old)) (sym copied)
    ∙ ap (λ x. flat.ask x (flat.WasSecond fuel' k c values) (stack_in old) (state_in rest old)) (sym (asked p (rest_now rest old) (reads_now p rest old f)))) keeps

pub second_stops : (old new : Machine) (fuel : ℕ) (sd : SearchData) (c : Cursor) (values : List Value) (from : Cursor) → fuel ≡ 0 →
    KeepsFrom (λ p s. flat.config (flat.Unwind (state.Stops state.out_of_units)) (stack_in old) s) old new → KeepsExecuted (flat.Seconds fuel (search_of (instrs_in old) sd) c values from) old new
second_stops old new fuel sd c values from none keeps =
    let k = search_of (instrs_in old) sd in
    step_kept (flat.Seconds fuel k c values from) (λ p s. flat.config (flat.Unwind (state.Stops state.out_of_units)) (stack_in old) s) old new
    (λ p rest f. ap (λ n. flat.task_step (code_in old) p (flat.Seconds n k c values from) (stack_in old) (state_in rest old)) none) keeps

-- ---- what Next has found

-- it passes WHERE, and is taken
pub passed_kept : (old mid new : Machine) (fuel : ℕ) (sd : SearchData) (x : FoundRow) (found : NextTest) → (let m : Machine = record old { memory = mid.memory } in mid ≡ m) → StaysIn old mid.memory → found.passes ≡ true →
    ((p : Program) (rest : State) → ReadsIn p rest old → NextGoes (Ok found) p (reading_at (instrs_in old) sd.place) sd.retry x (state_under rest old) (state_under rest mid)) →
    KeepsFrom (λ p s. flat.config (flat.Execute (flat.Takes (search_of (instrs_in mid) sd) found.cursor x.values)) (flat.OrDo (flat.Looks fuel (search_of (instrs_in mid) sd) (Some found.cursor)) ∷ stack_in mid) s) mid new →
    KeepsFrom (λ p s. flat.next_answered p (Some x) fuel (search_of (instrs_in old) sd) (stack_in old) s) old new
passed_kept old mid new fuel sd x found moved stays passes goes keeps =
    let from' : List Instr → Program → List flat.StackEntry → State → flat.Config = λ is p ks s. flat.config (flat.Execute (flat.Takes (search_of is sd) found.cursor x.values)) (flat.OrDo (flat.Looks fuel (search_of is sd) (Some found.cursor)) ∷ ks) s in
    memory_goes (λ p s. flat.next_answered p (Some x) fuel (search_of (instrs_in old) sd) (stack_in old) s) from' old mid new moved stays
    (λ p rest reads.
    let g = goes p rest reads in
    let tested = subst (λ (b : Bool). NextTested b p (reading_at (instrs_in old) sd.place) sd.retry x (state_under rest old) (state_under rest mid)) passes g.1 in
    tested fuel sd.forward sd.only sd.wait sd.prefix (stack_in old)
    ∙ ap (λ (k : Cursor). flat.config (flat.Execute (flat.Takes (search_of (instrs_in old) sd) k x.values)) (flat.OrDo (flat.Looks fuel (search_of (instrs_in old) sd) (Some k)) ∷ stack_in old) (state_under rest mid)) (sym g.0)) keeps

-- it does not, and the search goes on after it
pub failed_kept : (old mid new : Machine) (fuel : ℕ) (sd : SearchData) (x : FoundRow) (found : NextTest) → (let m : Machine = record old { memory = mid.memory } in mid ≡ m) → StaysIn old mid.memory → found.passes ≡ false →
    ((p : Program) (rest : State) → ReadsIn p rest old → NextGoes (Ok found) p (reading_at (instrs_in old) sd.place) sd.retry x (state_under rest old) (state_under rest mid)) →
    KeepsExecuted (flat.Looks fuel (search_of (instrs_in mid) sd) (Some found.cursor)) mid new →
    KeepsFrom (λ p s. flat.next_answered p (Some x) fuel (search_of (instrs_in old) sd) (stack_in old) s) old new
failed_kept old mid new fuel sd x found moved stays fails goes keeps =
    memory_goes (λ p s. flat.next_answered p (Some x) fuel (search_of (instrs_in old) sd) (stack_in old) s)
    (λ is p ks s. flat.config (flat.Execute (flat.Looks fuel (search_of is sd) (Some found.cursor))) ks s) old mid new moved stays
    (λ p rest reads.
    let g = goes p rest reads in
    let tested = subst (λ (b : Bool). NextTested b p (reading_at (instrs_in old) sd.place) sd.retry x (state_under rest old) (state_under rest mid)) fails g.1 in
    tested fuel sd.forward sd.only sd.wait sd.prefix (stack_in old)
    ∙ ap (λ (k : Cursor). flat.config (flat.Execute (flat.Looks fuel (search_of (instrs_in old) sd) (Some k))) (stack_in old) (state_under rest mid)) (sym g.0)) keeps

-- a second one does not, and the search for it goes on
pub second_kept : (old mid new : Machine) (fuel : ℕ) (sd : SearchData) (x : FoundRow) (c : Cursor) (values : List Value) (found : NextTest) → (let m : Machine = record old { memory = mid.memory } in mid ≡ m) → StaysIn old mid.memory → found.passes ≡ false →
    ((p : Program) (rest : State) → ReadsIn p rest old → SecondGoes (Ok found) p (reading_at (instrs_in old) sd.place) sd.retry x (state_under rest old) (state_under rest mid)) →
    KeepsExecuted (flat.Seconds fuel (search_of (instrs_in mid) sd) c values found.cursor) mid new →
    KeepsFrom (λ p s. flat.second_answered p (Some x) fuel (search_of (instrs_in old) sd) c values (stack_in old) s) old new
second_kept old mid new fuel sd x c values found moved stays fails goes keeps =
    memory_goes (λ p s. flat.second_answered p (Some x) fuel (search_of (instrs_in old) sd) c values (stack_in old) s)
    (λ is p ks s. flat.config (flat.Execute (flat.Seconds fuel (search_of is sd) c values found.cursor)) ks s) old mid new moved stays
    (λ p rest reads.
    let g = goes p rest reads in
    let tested = subst (λ (b : Bool). SecondTested b p (reading_at (instrs_in old) sd.place) sd.retry x (state_under rest old) (state_under rest mid)) fails g.1 in
    tested fuel sd.forward sd.only sd.wait sd.prefix c values (stack_in old)
    ∙ ap (λ (k : Cursor). flat.config (flat.Execute (flat.Seconds fuel (search_of (instrs_in old) sd) c values k)) (stack_in old) (state_under rest mid)) (sym g.0)) keeps

-- WHERE has a fault
pub next_fails : (old mid new : Machine) (fuel : ℕ) (sd : SearchData) (x : FoundRow) (f : RunFault) → (let m : Machine = record old { memory = mid.memory } in mid ≡ m) → StaysIn old mid.memory →
    ((p : Program) (rest : State) → ReadsIn p rest old → NextGoes (Err (Fault f)) p (reading_at (instrs_in old) sd.place) sd.retry x (state_under rest old) (state_under rest mid)) →
    KeepsFrom (λ p s. flat.fault (complaint_of f) (stack_in mid) s) mid new →
    KeepsFrom (λ p s. flat.next_answered p (Some x) fuel (search_of (instrs_in old) sd) (stack_in old) s) old new
next_fails old mid new fuel sd x f moved stays goes keeps =
    memory_goes (λ p s. flat.next_answered p (Some x) fuel (search_of (instrs_in old) sd) (stack_in old) s) (λ is p ks s. flat.fault (complaint_of f) ks s) old mid new moved stays
    (λ p rest reads. goes p rest reads fuel sd.forward sd.only sd.wait sd.prefix (stack_in old)) keeps

pub second_fails : (old mid new : Machine) (fuel : ℕ) (sd : SearchData) (x : FoundRow) (c : Cursor) (values : List Value) (f : RunFault) → (let m : Machine = record old { memory = mid.memory } in mid ≡ m) → StaysIn old mid.memory →
    ((p : Program) (rest : State) → ReadsIn p rest old → SecondGoes (Err (Fault f)) p (reading_at (instrs_in old) sd.place) sd.retry x (state_under rest old) (state_under rest mid)) →
    KeepsFrom (λ p s. flat.fault (complaint_of f) (stack_in mid) s) mid new →
    KeepsFrom (λ p s. flat.second_answered p (Some x) fuel (search_of (instrs_in old) sd) c values (stack_in old) s) old new
second_fails old mid new fuel sd x c values f moved stays goes keeps =
    memory_goes (λ p s. flat.second_answered p (Some x) fuel (search_of (instrs_in old) sd) c values (stack_in old) s) (λ is p ks s. flat.fault (complaint_of f) ks s) old mid new moved stays
    (λ p rest reads. goes p rest reads fuel sd.forward sd.only sd.wait sd.prefix c values (stack_in old)) keeps

-- a second one matches
pub second_refused : (old mid new : Machine) (fuel : ℕ) (sd : SearchData) (x : FoundRow) (c : Cursor) (values : List Value) (found : NextTest) → (let m : Machine = record old { memory = mid.memory } in mid ≡ m) → StaysIn old mid.memory → found.passes ≡ true →
    ((p : Program) (rest : State) → ReadsIn p rest old → SecondGoes (Ok found) p (reading_at (instrs_in old) sd.place) sd.retry x (state_under rest old) (state_under rest mid)) →
    KeepsFrom (λ p s. flat.fault (MoreThanOne (reading_at (instrs_in mid) sd.place).buffer) (stack_in mid) s) mid new →
    KeepsFrom (λ p s. flat.second_answered p (Some x) fuel (search_of (instrs_in old) sd) c values (stack_in old) s) old new
second_refused old mid new fuel sd x c values found moved stays passes goes keeps =
    memory_goes (λ p s. flat.second_answered p (Some x) fuel (search_of (instrs_in old) sd) c values (stack_in old) s) (λ is p ks s. flat.fault (MoreThanOne (reading_at is sd.place).buffer) ks s) old mid new moved stays
    (λ p rest reads.
    let tested = subst (λ (b : Bool). SecondTested b p (reading_at (instrs_in old) sd.place) sd.retry x (state_under rest old) (state_under rest mid)) passes (goes p rest reads).1 in
    tested fuel sd.forward sd.only sd.wait sd.prefix c values (stack_in old)) keeps
