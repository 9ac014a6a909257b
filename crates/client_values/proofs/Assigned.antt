-- An assignment to a variable is one in the state.
use Rattle.std.proofs.Common.{◌≡◌, ℕ, zero, suc, ◌-◌, ◌<◌, List, [], ◌∷◌, ◌++◌, length, Bool, true, false, refl, sym, ap, ◌∙◌, arith}
use Rattle.std.specs.Prelude.{reverse, slice_index_or, slice_set}
use Rattle.std.proofs.lemmas.List.{reverse-append}
use Rattle.abl_base.specs.declared.value.Value.{Value}
use Rattle.bound_tree.specs.declared.expression.Variable.{Variable}
use Rattle.block_meaning.specs.State.{State, CallFrame, Buffer}
use Rattle.client_memory.proofs.FramesOut.{AreAlike}
use Rattle.block_meaning.specs.Frames.{no_frame, with_own, with_last, with_frame_for, set_in, assigned}
use Rattle.client_memory.specs.Undo.{Values, with_value}
use Rattle.client_memory.specs.Memory.{Remembered, frame_of, set_as, set_variable}
use Rattle.client_values.specs.Variables.{frames_out, state_with, AreEven, HasSameShape}
use Rattle.client_values.proofs.Scopes.{length_rev_cons, length_out, frame_is}

-- ---- the outermost procedure, and the innermost

last_set : (xs : List CallFrame) (f g : CallFrame) → with_last f (xs ++ g ∷ []) ≡ xs ++ f ∷ []
last_set [] f g = refl
last_set (x ∷ []) f g = refl
last_set (x ∷ y ∷ xs) f g = ap (λ zs. x ∷ zs) (last_set (y ∷ xs) f g)

set_outermost : (fs : List CallFrame) (f : CallFrame) → with_last f (reverse fs) ≡ reverse (slice_set fs 0 f)
set_outermost [] f = refl
set_outermost (g ∷ fs) f = ap (with_last f) (reverse-append (g ∷ []) fs) ∙ last_set (reverse fs) f g ∙ sym (reverse-append (f ∷ []) fs)

own_set : (xs ys : List CallFrame) (f : CallFrame) → 0 < length xs → with_own f (xs ++ ys) ≡ with_own f xs ++ ys
own_set [] ys f lt = absurd (omega (arith, lt))
own_set (x ∷ xs) ys f lt = refl

set_innermost : (fs : List CallFrame) (f : CallFrame) → with_own f (reverse fs) ≡ reverse (slice_set fs (length fs - 1) f)
set_innermost [] f = refl
set_innermost (g ∷ []) f = refl
set_innermost (g ∷ h ∷ fs) f =
    ap (with_own f) (reverse-append (g ∷ []) (h ∷ fs)) ∙ own_set (reverse (h ∷ fs)) (g ∷ []) f (length_rev_cons h fs)
    ∙ ap (λ xs. xs ++ g ∷ []) (set_innermost (h ∷ fs) f)
    ∙ sym (reverse-append (g ∷ []) (slice_set (h ∷ fs) (length (h ∷ fs) - 1) f))
    ∙ ap (λ n. reverse (g ∷ slice_set (h ∷ fs) n f)) (let e : length (h ∷ fs) - 1 ≡ length fs = omega arith in e)
    ∙ ap (λ n. reverse (slice_set (g ∷ h ∷ fs) n f)) (let e : suc (length fs) ≡ length (g ∷ h ∷ fs) - 1 = omega arith in e)

frame_set : (e : Bool) (fs : List CallFrame) (f : CallFrame) → with_frame_for e f (reverse fs) ≡ reverse (slice_set fs (frame_of e (length fs)) f)
frame_set true fs f = set_outermost fs f
frame_set false fs f = set_innermost fs f

-- ---- the frames of what is remembered

undoable_set : (ns : List ℕ) (uss kss : Values) (bss : List (List Buffer)) (k n : ℕ) (v : Value) → AreAlike ns uss kss bss →
    slice_set (frames_out ns uss kss bss) k (set_in true n v (slice_index_or (frames_out ns uss kss bss) k no_frame)) ≡ frames_out ns (with_value k n v uss) kss bss
undoable_set [] uss kss bss k n v e = refl
undoable_set (x ∷ ns) [] kss bss k n v e = absurd (omega (arith, e.0))
undoable_set (x ∷ ns) (us ∷ uss) [] bss k n v e = absurd (omega (arith, e.1))
undoable_set (x ∷ ns) (us ∷ uss) (ks ∷ kss) [] k n v e = absurd (omega (arith, e.2))
undoable_set (x ∷ ns) (us ∷ uss) (ks ∷ kss) (bs ∷ bss) zero n v e = refl
undoable_set (x ∷ ns) (us ∷ uss) (ks ∷ kss) (bs ∷ bss) (suc k) n v e =
    ap (λ (fs : List CallFrame). let f : CallFrame = record { procedure = x; undoable = us; no_undo = ks; buffers = bs } in f ∷ fs) (undoable_set ns uss kss bss k n v (omega (arith, e.0), omega (arith, e.1), omega (arith, e.2)))

kept_set : (ns : List ℕ) (uss kss : Values) (bss : List (List Buffer)) (k n : ℕ) (v : Value) → AreAlike ns uss kss bss →
    slice_set (frames_out ns uss kss bss) k (set_in false n v (slice_index_or (frames_out ns uss kss bss) k no_frame)) ≡ frames_out ns uss (with_value k n v kss) bss
kept_set [] uss kss bss k n v e = refl
kept_set (x ∷ ns) [] kss bss k n v e = absurd (omega (arith, e.0))
kept_set (x ∷ ns) (us ∷ uss) [] bss k n v e = absurd (omega (arith, e.1))
kept_set (x ∷ ns) (us ∷ uss) (ks ∷ kss) [] k n v e = absurd (omega (arith, e.2))
kept_set (x ∷ ns) (us ∷ uss) (ks ∷ kss) (bs ∷ bss) zero n v e = refl
kept_set (x ∷ ns) (us ∷ uss) (ks ∷ kss) (bs ∷ bss) (suc k) n v e =
    ap (λ (fs : List CallFrame). let f : CallFrame = record { procedure = x; undoable = us; no_undo = ks; buffers = bs } in f ∷ fs) (kept_set ns uss kss bss k n v (omega (arith, e.0), omega (arith, e.1), omega (arith, e.2)))

value_set : (u : Bool) (ns : List ℕ) (m : Remembered) (k n : ℕ) (v : Value) → AreEven ns m →
    slice_set (frames_out ns m.undoable m.no_undo m.buffers) k (set_in u n v (slice_index_or (frames_out ns m.undoable m.no_undo m.buffers) k no_frame)) ≡ frames_out ns (set_as u k n v m).undoable (set_as u k n v m).no_undo (set_as u k n v m).buffers
value_set true ns m k n v even = undoable_set ns m.undoable m.no_undo m.buffers k n v even
value_set false ns m k n v even = kept_set ns m.undoable m.no_undo m.buffers k n v even

pub variable_set : (rest : State) (ns : List ℕ) (m : Remembered) (x : Variable) (v : Value) → AreEven ns m → assigned x v (state_with rest ns m) ≡ state_with rest ns (set_variable x v m)
variable_set rest ns m x v even =
    let fs = frames_out ns m.undoable m.no_undo m.buffers in
    ap (λ f. record rest { frames = with_frame_for x.external (set_in x.undoable x.number v f) (reverse fs) }) (frame_is x.external fs)
    ∙ ap (λ gs. record rest { frames = gs }) (frame_set x.external fs (set_in x.undoable x.number v (slice_index_or fs (frame_of x.external (length fs)) no_frame)))
    ∙ ap (λ l. record rest { frames = reverse (slice_set fs (frame_of x.external l) (set_in x.undoable x.number v (slice_index_or fs (frame_of x.external l) no_frame))) }) (length_out ns m.undoable m.no_undo m.buffers even)
    ∙ ap (λ gs. record rest { frames = reverse gs }) (value_set x.undoable ns m (frame_of x.external (length m.undoable)) x.number v even)

-- ---- the shape stays

length_slice_set : {A : Type 0} (xs : List A) (k : ℕ) (x : A) → length (slice_set xs k x) ≡ length xs
length_slice_set [] k x = refl
length_slice_set (y ∷ xs) zero x = refl
length_slice_set (y ∷ xs) (suc k) x = ap suc (length_slice_set xs k x)

pub same_shape : (m : Remembered) → HasSameShape m m
same_shape m = record { copies = refl; undoable = refl; no_undo = refl; buffers = refl }

as_shape : (u : Bool) (k n : ℕ) (v : Value) (m : Remembered) → HasSameShape m (set_as u k n v m)
as_shape true k n v m = record { copies = refl; undoable = length_slice_set m.undoable k _; no_undo = refl; buffers = refl }
as_shape false k n v m = record { copies = refl; undoable = refl; no_undo = length_slice_set m.no_undo k _; buffers = refl }

pub set_shape : (x : Variable) (v : Value) (m : Remembered) → HasSameShape m (set_variable x v m)
set_shape x v m = as_shape x.undoable (frame_of x.external (length m.undoable)) x.number v m

pub shape_after : (a b c : Remembered) → HasSameShape a b → HasSameShape b c → HasSameShape a c
shape_after a b c f g = record { copies = g.copies ∙ f.copies; undoable = g.undoable ∙ f.undoable; no_undo = g.no_undo ∙ f.no_undo; buffers = g.buffers ∙ f.buffers }

pub even_after : (ns : List ℕ) (a b : Remembered) → HasSameShape a b → AreEven ns a → AreEven ns b
even_after ns a b f even = (even.0 ∙ sym f.undoable, even.1 ∙ sym f.no_undo, even.2 ∙ sym f.buffers)
