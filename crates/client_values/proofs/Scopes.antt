-- An expression evaluated from memory has the same environment as in the state.
use Rattle.std.proofs.Common.{◌≡◌, ℕ, zero, suc, ◌-◌, ◌<◌, List, [], ◌∷◌, ◌++◌, length, Bool, true, false, refl, sym, ap, ◌∙◌, arith}
use Rattle.std.specs.Prelude.{reverse, slice_index_or, Result, Ok, Err, IfOk}
use Rattle.std.proofs.lemmas.List.{reverse-append, length-append}
use Rattle.abl_base.specs.declared.value.Value.{Value}
use Rattle.abl_base.specs.declared.value.Value.TheVariants.{Unknown}
use Rattle.bound_tree.specs.declared.expression.Variable.{Variable}
use Rattle.expression_meaning.specs.Env.{Env}
use Rattle.block_meaning.specs.State.{State, CallFrame}
use Rattle.block_meaning.specs.Frames.{no_frame, own_frame, last_frame, frame_for, value_in, value_of}
use Rattle.bound_tree.specs.Tree.{Expr}
use Rattle.expression_meaning.specs.declared.fault.RunFault.{RunFault}
use Rattle.abl_base.specs.text_forms.TextForms.{TextForms}
use Rattle.expression_meaning.specs.Evaluate.{evaluate}
use Rattle.evaluator.specs.declared.fault.EvalFault.{EvalFault}
use Rattle.evaluator.specs.declared.fault.EvalFault.TheVariants.{Fault, NoMemory}
use Rattle.evaluator.specs.Forms.{AreForms}
use Rattle.block_meaning.specs.Program.{Program}
use Rattle.block_meaning.specs.Values.{field_in, is_available, env_of, as_evaluated, value_now as value_here}
use Rattle.block_meaning.specs.State.{Buffer}
use Rattle.client_memory.specs.Undo.{Values}
use Rattle.client_memory.specs.Memory.{Remembered, frame_of, value_as, value_now}
use Rattle.client_memory.proofs.FramesOut.{AreAlike, own_buffer_is}
use Rattle.client_memory.proofs.FramesOut as frames
use Rattle.client_values.specs.Variables.{frames_out, state_with, AreEven}
use Rattle.client_values.specs.Scope.{env_in}
use Rattle.client_values.specs.Reads.{Reads}
use Rattle.client_values.specs.Ends.{Evaluates}

-- ---- the outermost procedure, and the innermost

last_of : (xs : List CallFrame) (f : CallFrame) → last_frame (xs ++ f ∷ []) ≡ f
last_of [] f = refl
last_of (x ∷ []) f = refl
last_of (x ∷ y ∷ xs) f = last_of (y ∷ xs) f

pub outermost : (fs : List CallFrame) → last_frame (reverse fs) ≡ slice_index_or fs 0 no_frame
outermost [] = refl
outermost (f ∷ fs) = ap last_frame (reverse-append (f ∷ []) fs) ∙ last_of (reverse fs) f

own_more : (xs : List CallFrame) (f : CallFrame) (g : CallFrame) → own_frame ((f ∷ xs) ++ g ∷ []) ≡ f
own_more xs f g = refl

innermost_by : (xs : List CallFrame) (f g : CallFrame) (fs : List CallFrame) → own_frame (reverse (g ∷ fs)) ≡ slice_index_or (g ∷ fs) (length fs) no_frame → xs ≡ reverse (g ∷ fs) → own_frame (xs ++ f ∷ []) ≡ own_frame xs → own_frame (xs ++ f ∷ []) ≡ slice_index_or (g ∷ fs) (length fs) no_frame
innermost_by xs f g fs ih is first = first ∙ ap own_frame is ∙ ih

own_append : (xs ys : List CallFrame) → 0 < length xs → own_frame (xs ++ ys) ≡ own_frame xs
own_append [] ys lt = absurd (omega (arith, lt))
own_append (x ∷ xs) ys lt = refl

pub length_rev_cons : (g : CallFrame) (fs : List CallFrame) → 0 < length (reverse (g ∷ fs))
length_rev_cons g fs = let a = ap length (reverse-append (g ∷ []) fs) in let b = length-append (reverse fs) (g ∷ []) in omega (arith, a, b)

pub innermost : (fs : List CallFrame) → own_frame (reverse fs) ≡ slice_index_or fs (length fs - 1) no_frame
innermost [] = refl
innermost (f ∷ []) = refl
innermost (f ∷ g ∷ fs) =
    ap own_frame (reverse-append (f ∷ []) (g ∷ fs)) ∙ own_append (reverse (g ∷ fs)) (f ∷ []) (length_rev_cons g fs) ∙ innermost (g ∷ fs)
    ∙ ap (λ n. slice_index_or (g ∷ fs) n no_frame) (let e : length (g ∷ fs) - 1 ≡ length fs = omega arith in e)
    ∙ ap (λ n. slice_index_or (f ∷ g ∷ fs) n no_frame) (let e : suc (length fs) ≡ length (f ∷ g ∷ fs) - 1 = omega arith in e)

-- ---- the frames of what is remembered

undoable_at : (ns : List ℕ) (uss kss : Values) (bss : List (List Buffer)) (k : ℕ) → AreAlike ns uss kss bss → (slice_index_or (frames_out ns uss kss bss) k no_frame).undoable ≡ slice_index_or uss k []
undoable_at [] [] kss bss k e = refl
undoable_at [] (us ∷ uss) kss bss k e = absurd (omega (arith, e.0))
undoable_at (n ∷ ns) [] kss bss k e = absurd (omega (arith, e.0))
undoable_at (n ∷ ns) (us ∷ uss) [] bss k e = absurd (omega (arith, e.1))
undoable_at (n ∷ ns) (us ∷ uss) (ks ∷ kss) [] k e = absurd (omega (arith, e.2))
undoable_at (n ∷ ns) (us ∷ uss) (ks ∷ kss) (bs ∷ bss) zero e = refl
undoable_at (n ∷ ns) (us ∷ uss) (ks ∷ kss) (bs ∷ bss) (suc k) e = undoable_at ns uss kss bss k (omega (arith, e.0), omega (arith, e.1), omega (arith, e.2))

kept_at : (ns : List ℕ) (uss kss : Values) (bss : List (List Buffer)) (k : ℕ) → AreAlike ns uss kss bss → (slice_index_or (frames_out ns uss kss bss) k no_frame).no_undo ≡ slice_index_or kss k []
kept_at [] uss [] bss k e = refl
kept_at [] uss (ks ∷ kss) bss k e = absurd (omega (arith, e.1))
kept_at (n ∷ ns) [] kss bss k e = absurd (omega (arith, e.0))
kept_at (n ∷ ns) (us ∷ uss) [] bss k e = absurd (omega (arith, e.1))
kept_at (n ∷ ns) (us ∷ uss) (ks ∷ kss) [] k e = absurd (omega (arith, e.2))
kept_at (n ∷ ns) (us ∷ uss) (ks ∷ kss) (bs ∷ bss) zero e = refl
kept_at (n ∷ ns) (us ∷ uss) (ks ∷ kss) (bs ∷ bss) (suc k) e = kept_at ns uss kss bss k (omega (arith, e.0), omega (arith, e.1), omega (arith, e.2))

pub length_out : (ns : List ℕ) (uss kss : Values) (bss : List (List Buffer)) → AreAlike ns uss kss bss → length (frames_out ns uss kss bss) ≡ length uss
length_out ns uss kss bss e = frames.length_out ns uss kss bss e ∙ e.0

-- ---- a variable

pub frame_is : (e : Bool) (fs : List CallFrame) → frame_for e (reverse fs) ≡ slice_index_or fs (frame_of e (length fs)) no_frame
frame_is true fs = outermost fs
frame_is false fs = innermost fs

value_is : (u : Bool) (n k : ℕ) (ns : List ℕ) (m : Remembered) → AreEven ns m → value_in u n (slice_index_or (frames_out ns m.undoable m.no_undo m.buffers) k no_frame) ≡ value_as u k n m
value_is true n k ns m even = ap (λ vs. slice_index_or vs n Unknown) (undoable_at ns m.undoable m.no_undo m.buffers k even)
value_is false n k ns m even = ap (λ vs. slice_index_or vs n Unknown) (kept_at ns m.undoable m.no_undo m.buffers k even)

pub variable_is : (rest : State) (ns : List ℕ) (m : Remembered) → AreEven ns m → (x : Variable) → value_of x (state_with rest ns m) ≡ value_now x m
variable_is rest ns m even x =
    ap (value_in x.undoable x.number) (frame_is x.external (frames_out ns m.undoable m.no_undo m.buffers))
    ∙ ap (λ l. value_in x.undoable x.number (slice_index_or (frames_out ns m.undoable m.no_undo m.buffers) (frame_of x.external l) no_frame)) (length_out ns m.undoable m.no_undo m.buffers even)
    ∙ value_is x.undoable x.number (frame_of x.external (length m.undoable)) ns m even

-- ---- all of it

pub sees_the_state : (rest : State) (ns : List ℕ) (m : Remembered) (retry : Bool) → AreEven ns m → env_in m retry rest.status rest.returned ≡ env_of retry (state_with rest ns m)
sees_the_state rest ns m retry even =
    let s = state_with rest ns m in
    λ i. record {
      variable = λ x. (sym (variable_is rest ns m even x)) i;
      field = λ b f. (ap (λ y. field_in f y.content) (sym (own_buffer_is rest ns m b even))) i;
      available = λ b. (ap (λ y. is_available y.content) (sym (own_buffer_is rest ns m b even))) i;
      locked = λ b. (ap (λ y. y.locked) (sym (own_buffer_is rest ns m b even))) i;
      retry = retry;
      error_status = rest.status;
      return_value = rest.returned;
    }

-- ---- what an expression gives

told : (p : Program) (rest : State) (ns : List ℕ) (m : Remembered) (e : Expr) (retry status : Bool) (returned : List ℕ) → AreEven ns m → rest.status ≡ status → rest.returned ≡ returned → evaluate p.forms (env_of retry (state_with rest ns m)) e ≡ evaluate p.forms (env_in m retry status returned) e
told p rest ns m e retry status returned even e1 e2 =
    ap (λ (env : Env). evaluate p.forms env e) (sym (sees_the_state rest ns m retry even))
    ∙ ap (λ b. evaluate p.forms (env_in m retry b rest.returned) e) e1
    ∙ ap (λ t. evaluate p.forms (env_in m retry status t) e) e2

-- a result that is right in the environment of the memory is right in the state
pub evaluates_here : (m : Remembered) (e : Expr) (retry status : Bool) (returned : List ℕ) (r : Result Value EvalFault) → IfOk r (λ v. (forms : TextForms) → AreForms forms → evaluate forms (env_in m retry status returned) e ≡ Ok v) →
    ((fault : RunFault) → r ≡ Err (Fault fault) → (forms : TextForms) → AreForms forms → evaluate forms (env_in m retry status returned) e ≡ Err fault) →
    (p : Program) (rest : State) (ns : List ℕ) → Reads p rest ns m status returned → Evaluates r (value_here p e retry (state_with rest ns m))
evaluates_here m e retry status returned (Ok v) is fails p rest ns x = ap as_evaluated (told p rest ns m e retry status returned x.even x.status_is x.returned_is ∙ is p.forms x.forms)
evaluates_here m e retry status returned (Err (Fault fault)) is fails p rest ns x = ap as_evaluated (told p rest ns m e retry status returned x.even x.status_is x.returned_is ∙ fails fault refl p.forms x.forms)
evaluates_here m e retry status returned (Err NoMemory) is fails p rest ns x = tt
