-- The memory of a machine is lent to buffers of the running procedure.
use Rattle.std.proofs.Common.{◌≡◌, ℕ, Bool, List, length, sym, ap, ◌∙◌, subst}
use Rattle.std.specs.Prelude.{Result, Ok, Err, IfOk}
use Rattle.block_meaning.specs.Program.{Program}
use Rattle.block_meaning.specs.State.{State, Copy}
use Rattle.client_memory.specs.Memory.{Remembered}
use Rattle.client_values.specs.Reads.{Reads}
use Rattle.client_values.specs.Variables.{AreEven, state_with}
use Rattle.client_machine.specs.declared.machine.Machine.{Machine}
use Rattle.client_machine.specs.Machine.{state_in}
use Rattle.client_records.specs.Reads.{ReadsOf}

-- the other fields of the state
abbrev pub rest_at : State → Machine → State
rest_at rest m = record rest { level = length m.memory.copies; units = m.units }

pub if_ok : {A E : Type 0} {P Q : A → Type 0} (r : Result A E) → ((x : A) → P x → Q x) → IfOk r P → IfOk r Q
if_ok (Ok x) f p = f x p
if_ok (Err e) f p = p

-- they read what the machine reads
pub lent : (p : Program) (rest : State) (m : Machine) (ns returned : List ℕ) → ns ≡ m.procedures.items → returned ≡ m.returned → ReadsOf p rest m → Reads p (rest_at rest m) ns m.memory m.status returned
lent p rest m ns returned e1 e2 r =
    subst (λ (x : List ℕ). Reads p (rest_at rest m) x m.memory m.status returned) (sym e1) (subst (λ (x : List ℕ). Reads p (rest_at rest m) m.procedures.items m.memory m.status x) (sym e2) r)

-- and so after a step, which leaves the procedures and the copies
pub lent_reads : (p : Program) (rest : State) (m : Machine) (mem : Remembered) (ns ns' returned returned' : List ℕ) (error : Bool) → ns ≡ m.procedures.items → returned ≡ m.returned → ns' ≡ ns → mem.copies ≡ m.memory.copies →
    (Reads p (rest_at rest m) ns m.memory m.status returned → Reads p (rest_at rest m) ns' mem error returned') → ReadsOf p rest m →
    Reads p (record rest { level = length mem.copies; units = m.units }) m.procedures.items mem m.status m.returned
lent_reads p rest m mem ns ns' returned returned' error e1 e2 e3 copies fits r =
    let q = fits (lent p rest m ns returned e1 e2 r) in
    record { forms = q.forms; even = subst (λ (x : List ℕ). AreEven x mem) (e3 ∙ e1) q.even; status_is = r.status_is; returned_is = r.returned_is }

-- the state after a step
pub lent_state : (rest : State) (m : Machine) (mem : Remembered) (ns ns' : List ℕ) (f : State → State) → ns ≡ m.procedures.items → ns' ≡ ns → mem.copies ≡ m.memory.copies →
    state_with (rest_at rest m) ns' mem ≡ f (state_with (rest_at rest m) ns m.memory) →
    (let n : Machine = record m { memory = mem } in state_in rest n ≡ f (state_in rest m))
lent_state rest m mem ns ns' f e1 e3 copies is =
    ap (λ (cs : List Copy). let r : State = record rest { level = length cs; units = m.units } in state_with r m.procedures.items mem) copies
    ∙ ap (λ (x : List ℕ). state_with (rest_at rest m) x mem) (sym (e3 ∙ e1))
    ∙ is
    ∙ ap (λ (x : List ℕ). f (state_with (rest_at rest m) x m.memory)) e1

-- the state that they have
pub lent_now : (rest : State) (m : Machine) (ns : List ℕ) → ns ≡ m.procedures.items → state_with (rest_at rest m) ns m.memory ≡ state_in rest m
lent_now rest m ns e = ap (λ (x : List ℕ). state_with (rest_at rest m) x m.memory) e
