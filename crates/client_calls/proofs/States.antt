-- The states before and after a procedure.
use Rattle.std.proofs.Common.{◌≡◌, ℕ, ◌+◌, ◌-◌, ◌<◌, List, [], ◌∷◌, ◌++◌, length, take, false, refl, sym, ap, ◌∙◌, subst, arith}
use Rattle.std.specs.Prelude.{map, reverse}
use Rattle.std.proofs.lemmas.List.{reverse-append, length-append}
use Rattle.abl_base.specs.declared.value.Value.{Value}
use Rattle.bound_tree.specs.Tree.{Argument, In, Out, InOut, Procedure}
use Rattle.bound_tree.specs.declared.expression.Variable.{Variable}
use Rattle.block_meaning.specs.Program.{Program, procedure_at}
use Rattle.block_meaning.specs.State.{State, CallFrame, Buffer}
use Rattle.block_meaning.specs.Frames.{own_frame, value_in, assigned}
use Rattle.block_meaning.specs.Meaning.{params_set, copied_out, new_buffer, new_frame, popped, without_frame, opened_frame}
use Rattle.client_memory.specs.Undo.{Values}
use Rattle.client_memory.specs.Memory.{Remembered, begun, ended, IsOuter, set_variable}
use Rattle.client_values.specs.Variables.{frames_out, state_with, AreEven, HasSameShape}
use Rattle.client_memory.proofs.FramesOut.{AreAlike, frames_more}
use Rattle.client_values.proofs.Scopes.{variable_is}
use Rattle.client_values.proofs.Assigned.{even_after, same_shape, set_shape, shape_after, variable_set}
use Rattle.block_code.specs.declared.code.ProcedureCode.{ProcedureCode}
use Rattle.client_calls.specs.Calls.{frame_with, Opens, OutputOf, own_value, outputs_of, all_set}

-- ---- a procedure more

frames_in : (ns : List ℕ) (uss kss : Values) (bss : List (List Buffer)) (n : ℕ) (us ks : List Value) (bs : List Buffer) → AreAlike ns uss kss bss → reverse (frames_out (ns ++ n ∷ []) (uss ++ us ∷ []) (kss ++ ks ∷ []) (bss ++ bs ∷ [])) ≡ frame_with n us ks bs ∷ reverse (frames_out ns uss kss bss)
frames_in ns uss kss bss n us ks bs e = ap reverse (frames_more ns uss kss bss n us ks bs e) ∙ reverse-append (frames_out ns uss kss bss) (frame_with n us ks bs ∷ [])

-- the code has what the procedure has
pub record IsCodeOfProcedure (c : ProcedureCode) (q : Procedure) : Type 0 where
  pub undoable : c.undoable ≡ q.undoable
  pub no_undo : c.no_undo ≡ q.no_undo
  pub parameters : c.parameters.items ≡ q.parameters
  pub buffers : c.buffers.items ≡ q.buffers

frame_is_new : (p : Program) (n : ℕ) (c : ProcedureCode) → IsCodeOfProcedure c (procedure_at p n) → frame_with n c.undoable c.no_undo (map new_buffer c.buffers.items) ≡ new_frame p n
frame_is_new p n c is =
    ap (λ us. frame_with n us c.no_undo (map new_buffer c.buffers.items)) is.undoable
    ∙ ap (λ ks. frame_with n (procedure_at p n).undoable ks (map new_buffer c.buffers.items)) is.no_undo
    ∙ ap (λ bs. frame_with n (procedure_at p n).undoable (procedure_at p n).no_undo (map new_buffer bs)) is.buffers

pub opened_state : (p : Program) (n : ℕ) (c : ProcedureCode) (args : List Argument) (vs : List Value) (rest : State) (ns : List ℕ) (old new : Remembered) → IsCodeOfProcedure c (procedure_at p n) → Opens c args vs old new → AreEven ns old →
    state_with rest (ns ++ n ∷ []) new ≡ opened_frame p n args vs (state_with rest ns old)
opened_state p n c args vs rest ns old new is opens even =
    let bs = map new_buffer c.buffers.items in
    ap (state_with rest (ns ++ n ∷ [])) opens.is
    ∙ ap (λ fs. record rest { frames = fs }) (frames_in ns old.undoable old.no_undo old.buffers n opens.undoable opens.no_undo bs even)
    ∙ ap (λ f. record rest { frames = f ∷ reverse (frames_out ns old.undoable old.no_undo old.buffers) })
    (opens.frame n bs ∙ ap (λ xs. params_set args xs vs (frame_with n c.undoable c.no_undo bs)) is.parameters ∙ ap (params_set args (procedure_at p n).parameters vs) (frame_is_new p n c is))

pub even_opened : (ns : List ℕ) (n : ℕ) (us ks : List Value) (bs : List Buffer) (old new : Remembered) → new ≡ begun us ks bs old → AreEven ns old → AreEven (ns ++ n ∷ []) new
even_opened ns n us ks bs old new is even =
    let a = length-append ns (n ∷ []) in
    let b = length-append old.undoable (us ∷ []) in
    let d = length-append old.no_undo (ks ∷ []) in
    let e = length-append old.buffers (bs ∷ []) in
    subst (λ (m : Remembered). AreEven (ns ++ n ∷ []) m) (sym is) (omega (arith, a, b, even.0), omega (arith, a, d, even.1), omega (arith, a, e, even.2))

-- ---- a procedure less

-- what a list is without its last
pub record Splits (A : Type 0) (xs : List A) : Type 0 where
  pub last : A
  pub is : xs ≡ take (length xs - 1) xs ++ last ∷ []

splits_at : {A : Type 0} (x : A) (xs : List A) → (last : A) × (x ∷ xs ≡ take (length xs) (x ∷ xs) ++ last ∷ [])
splits_at x [] = (x, refl)
splits_at x (y ∷ xs) = let r = splits_at y xs in (r.0, ap (λ ys. x ∷ ys) r.1)

pub splits : {A : Type 0} (xs : List A) → 0 < length xs → Splits A xs
splits [] lt = absurd (omega (arith, lt))
splits {A = A} (x ∷ xs) lt =
    let r = splits_at x xs in
    record { last = r.0; is = r.1 ∙ ap (λ n. take n (x ∷ xs) ++ r.0 ∷ []) (let e : length xs ≡ length (x ∷ xs) - 1 = omega arith in e) }

shorter : {A : Type 0} (xs : List A) → 0 < length xs → length (take (length xs - 1) xs) + 1 ≡ length xs
shorter xs lt = let s = splits xs lt in let a = ap length s.is in let b = length-append (take (length xs - 1) xs) (s.last ∷ []) in omega (arith, a, b)

pub even_ended : (ns : List ℕ) (m : Remembered) → 0 < length m.undoable → AreEven ns m → AreEven (take (length ns - 1) ns) (ended m)
even_ended ns m lt even =
    let a = shorter ns (omega (arith, lt, even.0)) in
    let b = shorter m.undoable lt in
    let d = shorter m.no_undo (omega (arith, lt, even.0, even.1)) in
    let e : length m.no_undo - 1 ≡ length m.undoable - 1 = omega (arith, even.0, even.1) in
    let g = shorter m.buffers (omega (arith, lt, even.0, even.2)) in
    let h : length m.buffers - 1 ≡ length m.undoable - 1 = omega (arith, even.0, even.2) in
    (omega (arith, a, b, even.0), (let k : length (take (length ns - 1) ns) ≡ length (take (length m.no_undo - 1) m.no_undo) = omega (arith, a, d, even.1) in k ∙ ap (λ j. length (take j m.no_undo)) e), (let k : length (take (length ns - 1) ns) ≡ length (take (length m.buffers - 1) m.buffers) = omega (arith, a, g, even.2) in k ∙ ap (λ j. length (take j m.buffers)) h))

-- the frames, the innermost first
pub record Innermost (rest : State) (ns : List ℕ) (m : Remembered) : Type 0 where
  pub frame : CallFrame
  pub frames : (state_with rest ns m).frames ≡ frame ∷ (state_with rest (take (length ns - 1) ns) (ended m)).frames

pub innermost_frame : (rest : State) (ns : List ℕ) (m : Remembered) → 0 < length m.undoable → AreEven ns m → Innermost rest ns m
innermost_frame rest ns m lt even =
    let one = splits ns (omega (arith, lt, even.0)) in
    let two = splits m.undoable lt in
    let three = splits m.no_undo (omega (arith, lt, even.0, even.1)) in
    let ns' = take (length ns - 1) ns in
    let uss = take (length m.undoable - 1) m.undoable in
    let e : length m.no_undo - 1 ≡ length m.undoable - 1 = omega (arith, even.0, even.1) in
    let three-is : m.no_undo ≡ take (length m.undoable - 1) m.no_undo ++ three.last ∷ [] = three.is ∙ ap (λ j. take j m.no_undo ++ three.last ∷ []) e in
    let kss = take (length m.undoable - 1) m.no_undo in
    let four = splits m.buffers (omega (arith, lt, even.0, even.2)) in
    let h : length m.buffers - 1 ≡ length m.undoable - 1 = omega (arith, even.0, even.2) in
    let four-is : m.buffers ≡ take (length m.undoable - 1) m.buffers ++ four.last ∷ [] = four.is ∙ ap (λ j. take j m.buffers ++ four.last ∷ []) h in
    let bss = take (length m.undoable - 1) m.buffers in
    let even' = even_ended ns m lt even in
    record {
      frame = frame_with one.last two.last three.last four.last;
      frames =
          ap (λ xs. reverse (frames_out xs m.undoable m.no_undo m.buffers)) one.is
          ∙ ap (λ xs. reverse (frames_out (ns' ++ one.last ∷ []) xs m.no_undo m.buffers)) two.is
          ∙ ap (λ xs. reverse (frames_out (ns' ++ one.last ∷ []) (uss ++ two.last ∷ []) xs m.buffers)) three-is
          ∙ ap (λ xs. reverse (frames_out (ns' ++ one.last ∷ []) (uss ++ two.last ∷ []) (kss ++ three.last ∷ []) xs)) four-is
          ∙ frames_in ns' uss kss bss one.last two.last three.last four.last even';
    }

pub frame_dropped : (rest : State) (ns : List ℕ) (m : Remembered) → 0 < length m.undoable → AreEven ns m → state_with rest (take (length ns - 1) ns) (ended m) ≡ without_frame (state_with rest ns m)
frame_dropped rest ns m lt even =
    let i = innermost_frame rest ns m lt even in
    ap (λ fs. record rest { frames = fs }) (sym (ap popped i.frames))

-- ---- outputs

-- assigns values, from left to right
abbrev pub all_assigned : List OutputOf → State → State
all_assigned [] s = s
all_assigned (o ∷ os) s = all_assigned os (assigned o.variable o.value s)

set_is_assigned : (rest : State) (ns : List ℕ) (os : List OutputOf) (m : Remembered) → AreEven ns m → state_with rest ns (all_set os m) ≡ all_assigned os (state_with rest ns m)
set_is_assigned rest ns [] m even = refl
set_is_assigned rest ns (o ∷ os) m even =
    set_is_assigned rest ns os (set_variable o.variable o.value m) (even_after ns m (set_variable o.variable o.value m) (set_shape o.variable o.value m) even)
    ∙ ap (all_assigned os) (sym (variable_set rest ns m o.variable o.value even))

copied_are_assigned : (args : List Argument) (xs : List Variable) (m : Remembered) (f : CallFrame) (s : State) → ((x : Variable) → value_in x.undoable x.number f ≡ own_value x m) → copied_out args xs f s ≡ all_assigned (outputs_of args xs m) s
copied_are_assigned [] xs m f s is = refl
copied_are_assigned (a ∷ args) [] m f s is = refl
copied_are_assigned (In e ∷ args) (x ∷ xs) m f s is = copied_are_assigned args xs m f s is
copied_are_assigned (InOut y ∷ args) (x ∷ xs) m f s is =
    copied_are_assigned args xs m f (assigned y (value_in x.undoable x.number f) s) is
    ∙ ap (λ v. all_assigned (outputs_of args xs m) (assigned y v s)) (is x)
copied_are_assigned (Out y ∷ args) (x ∷ xs) m f s is =
    copied_are_assigned args xs m f (assigned y (value_in x.undoable x.number f) s) is
    ∙ ap (λ v. all_assigned (outputs_of args xs m) (assigned y v s)) (is x)

own_is : (rest : State) (ns : List ℕ) (m : Remembered) → AreEven ns m → (x : Variable) → value_in x.undoable x.number (own_frame (state_with rest ns m).frames) ≡ own_value x m
own_is rest ns m even x = variable_is rest ns m even (record x { external = false })

pub closed_state : (rest : State) (ns : List ℕ) (args : List Argument) (xs : List Variable) (old new : Remembered) → IsOuter old → AreEven ns old → new ≡ all_set (outputs_of args xs old) (ended old) →
    state_with rest (take (length ns - 1) ns) new ≡ copied_out args xs (own_frame (state_with rest ns old).frames) (without_frame (state_with rest ns old))
closed_state rest ns args xs old new outer even is =
    let ns' = take (length ns - 1) ns in
    ap (state_with rest ns') is
    ∙ set_is_assigned rest ns' (outputs_of args xs old) (ended old) (even_ended ns old outer.0 even)
    ∙ ap (all_assigned (outputs_of args xs old)) (frame_dropped rest ns old outer.0 even)
    ∙ sym (copied_are_assigned args xs old (own_frame (state_with rest ns old).frames) (without_frame (state_with rest ns old)) (own_is rest ns old even))

pub even_set : (ns : List ℕ) (os : List OutputOf) (m : Remembered) → AreEven ns m → AreEven ns (all_set os m)
even_set ns [] m even = even
even_set ns (o ∷ os) m even = even_set ns os (set_variable o.variable o.value m) (even_after ns m (set_variable o.variable o.value m) (set_shape o.variable o.value m) even)

pub shape_set : (os : List OutputOf) (m : Remembered) → HasSameShape m (all_set os m)
shape_set [] m = same_shape m
shape_set (o ∷ os) m = shape_after m (set_variable o.variable o.value m) (all_set os (set_variable o.variable o.value m)) (set_shape o.variable o.value m) (shape_set os (set_variable o.variable o.value m))
