-- Changes of a state that keep the values of each open procedure of their kinds.
use Rattle.std.proofs.Common.{◌≡◌, ℕ, zero, suc, Bool, true, false, List, [], ◌∷◌, Option, Some, None, refl, sym, ap, subst, ◌∙◌}
use Rattle.std.specs.Prelude.{if◌then◌else◌, slice_get, slice_index_or, slice_set}
use Rattle.std.proofs.lemmas.Option.{same_Some}
use Rattle.abl_base.specs.declared.value.Kind.{Kind}
use Rattle.abl_base.specs.declared.value.Kind.TheVariants as kind
use Rattle.abl_base.specs.declared.value.Value.{Value}
use Rattle.abl_base.specs.declared.value.Value.TheVariants as value
use Rattle.abl_base.specs.declared.value.Value.TheVariants.{Unknown}
use Rattle.abl_values.specs.Fit.{IsOfKind}
use Rattle.bound_tree.specs.declared.expression.Variable.{Variable}
use Rattle.bind_names.specs.Sorts.{same_kind}
use Rattle.kind_laws.specs.bound_kinds.WellKinded.{VariableKinds, is_kind, is_of_kind, is_variable, kind_of_variable}
use Rattle.block_meaning.specs.Frames.{assigned, frame_for, last_frame, set_in, value_in, value_of, with_frame_for, with_last}
use Rattle.block_meaning.specs.State.{CallFrame, State}
use Rattle.kind_laws.specs.Reached.{Ground, kinds_at}
use Rattle.kind_laws.proofs.Kept.{AreFrames, HaveKinds, here, IsFrame}

-- ---- values of kinds

pub kinds_equal : (j k : Kind) → same_kind j k ≡ true → j ≡ k
kinds_equal kind.Character kind.Character e = refl
kinds_equal kind.Integer kind.Integer e = refl
kinds_equal kind.Int64 kind.Int64 e = refl
kinds_equal kind.Decimal kind.Decimal e = refl
kinds_equal kind.Logical kind.Logical e = refl
kinds_equal kind.Date kind.Date e = refl
kinds_equal j k e = absurd cc

-- a value of a kind is one of the same kind
pub same_is : (j k : Kind) (v : Value) → same_kind j k ≡ true → is_of_kind j v ≡ true → is_of_kind k v ≡ true
same_is j k v e h = subst (λ l. is_of_kind l v ≡ true) (kinds_equal j k e) h

-- the kind that is marked is there
pub kind_there : (k : Kind) (o : Option Kind) → is_kind k o ≡ true → o ≡ Some k
kind_there k None e = absurd cc
kind_there k (Some l) e = ap Some (sym (kinds_equal k l e))

-- a value of the kind, as a row of the database has it
pub of_kind : (k : Kind) (v : Value) → IsOfKind k v → is_of_kind k v ≡ true
of_kind k value.Unknown h = refl
of_kind kind.Character (value.Text t) h = refl
of_kind kind.Integer (value.Int n) h = refl
of_kind kind.Int64 (value.Int64 n) h = refl
of_kind kind.Decimal (value.Dec n) h = refl
of_kind kind.Logical (value.Logical c) h = refl
of_kind kind.Date (value.Date d) h = refl
of_kind k v h = absurd h

-- one value of its kind more
pub set_has : (kinds : ℕ → Option Kind) (values : List Value) (n : ℕ) (k : Kind) (v : Value) → HaveKinds kinds values → kinds n ≡ Some k → is_of_kind k v ≡ true → HaveKinds kinds (slice_set values n v)
set_has kinds [] n k v h e is = h
set_has kinds (x ∷ xs) zero k v h e is = λ m l a. first m l a
  where
    first : (m : ℕ) (l : Kind) → kinds m ≡ Some l → is_of_kind l (slice_index_or (v ∷ xs) m Unknown) ≡ true
    first zero l a = subst (λ i. is_of_kind i v ≡ true) (same_Some k l (sym e ∙ a)) is
    first (suc m) l a = h (suc m) l a
set_has kinds (x ∷ xs) (suc n) k v h e is = λ m l a. later (set_has (λ m. kinds (suc m)) xs n k v (λ m l a. h (suc m) l a) e is) m l a
  where
    later : HaveKinds (λ m. kinds (suc m)) (slice_set xs n v) → (m : ℕ) (l : Kind) → kinds m ≡ Some l → is_of_kind l (slice_index_or (x ∷ slice_set xs n v) m Unknown) ≡ true
    later rest zero l a = h zero l a
    later rest (suc m) l a = rest m l a

-- ---- frames

-- the kinds of the variables that an UNDO restores, or of the others
abbrev pub kinds_in : VariableKinds → Bool → List Kind
kinds_in kinds true = kinds.undoable
kinds_in kinds false = kinds.no_undo

pub value_has : (g : Ground) (m : ℕ) (f : CallFrame) (u : Bool) (n : ℕ) (k : Kind) → IsFrame g m f → slice_get (kinds_in (kinds_at g m) u) n ≡ Some k → is_of_kind k (value_in u n f) ≡ true
value_has g m f true n k h e = h.undoable n k e
value_has g m f false n k h e = h.no_undo n k e

pub frame_set : (g : Ground) (m : ℕ) (f : CallFrame) (u : Bool) (n : ℕ) (k : Kind) (v : Value) → IsFrame g m f → slice_get (kinds_in (kinds_at g m) u) n ≡ Some k → is_of_kind k v ≡ true → IsFrame g m (set_in u n v f)
frame_set g m f true n k v h e is = record { procedure = h.procedure; undoable = set_has (slice_get (kinds_at g m).undoable) f.undoable n k v h.undoable e is; no_undo = h.no_undo; buffers = h.buffers }
frame_set g m f false n k v h e is = record { procedure = h.procedure; undoable = h.undoable; no_undo = set_has (slice_get (kinds_at g m).no_undo) f.no_undo n k v h.no_undo e is; buffers = h.buffers }

-- the outermost frame
last_has : (g : Ground) (n : ℕ) (ns : List ℕ) (f : CallFrame) (fs : List CallFrame) (u : Bool) (i : ℕ) (k : Kind) → AreFrames g (n ∷ ns) (f ∷ fs) → slice_get (kinds_in (kinds_at g 0) u) i ≡ Some k →
    is_of_kind k (value_in u i (last_frame (f ∷ fs))) ≡ true
last_has g n [] f [] u i k h e = value_has g n f u i k h.0 (subst (λ (m : ℕ). slice_get (kinds_in (kinds_at g m) u) i ≡ Some k) (sym h.1) e)
last_has g n [] f (x ∷ xs) u i k h e = absurd h.2
last_has g n (m ∷ ms) f [] u i k h e = absurd h.2
last_has g n (m ∷ ms) f (x ∷ xs) u i k h e = last_has g m ms x xs u i k h.2 e

last_set : (g : Ground) (n : ℕ) (ns : List ℕ) (f : CallFrame) (fs : List CallFrame) (u : Bool) (i : ℕ) (k : Kind) (v : Value) → AreFrames g (n ∷ ns) (f ∷ fs) → slice_get (kinds_in (kinds_at g 0) u) i ≡ Some k →
    is_of_kind k v ≡ true → AreFrames g (n ∷ ns) (with_last (set_in u i v (last_frame (f ∷ fs))) (f ∷ fs))
last_set g n [] f [] u i k v h e is = (frame_set g n f u i k v h.0 (subst (λ (m : ℕ). slice_get (kinds_in (kinds_at g m) u) i ≡ Some k) (sym h.1) e) is, h.1, tt)
last_set g n [] f (x ∷ xs) u i k v h e is = absurd h.2
last_set g n (m ∷ ms) f [] u i k v h e is = absurd h.2
last_set g n (m ∷ ms) f (x ∷ xs) u i k v h e is = (h.0, tt, last_set g m ms x xs u i k v h.2 e is)

-- the kinds of the running procedure's variables, or of the external one's
abbrev pub kinds_for : Ground → List ℕ → Bool → VariableKinds
kinds_for g ns external = if external then (here g ns).outer else (here g ns).own

frames_have : (g : Ground) (ns : List ℕ) (fs : List CallFrame) (external u : Bool) (i : ℕ) (k : Kind) → AreFrames g ns fs → slice_get (kinds_in (kinds_for g ns external) u) i ≡ Some k →
    is_of_kind k (value_in u i (frame_for external fs)) ≡ true
frames_have g [] [] true true i k h e = refl
frames_have g [] [] true false i k h e = refl
frames_have g [] [] false true i k h e = refl
frames_have g [] [] false false i k h e = refl
frames_have g [] (f ∷ fs) external u i k h e = absurd h
frames_have g (n ∷ ns) [] external u i k h e = absurd h
frames_have g (n ∷ ns) (f ∷ fs) true u i k h e = last_has g n ns f fs u i k h e
frames_have g (n ∷ ns) (f ∷ fs) false u i k h e = value_has g n f u i k h.0 e

frames_set : (g : Ground) (ns : List ℕ) (fs : List CallFrame) (external u : Bool) (i : ℕ) (k : Kind) (v : Value) → AreFrames g ns fs → slice_get (kinds_in (kinds_for g ns external) u) i ≡ Some k →
    is_of_kind k v ≡ true → AreFrames g ns (with_frame_for external (set_in u i v (frame_for external fs)) fs)
frames_set g [] [] true u i k v h e is = tt
frames_set g [] [] false u i k v h e is = tt
frames_set g [] (f ∷ fs) external u i k v h e is = absurd h
frames_set g (n ∷ ns) [] external u i k v h e is = absurd h
frames_set g (n ∷ ns) (f ∷ fs) true u i k v h e is = last_set g n ns f fs u i k v h e is
frames_set g (n ∷ ns) (f ∷ fs) false u i k v h e is = (frame_set g n f u i k v h.0 e is, h.1, h.2)

-- ---- variables

-- the kind of a variable that is there
pub variable_kind : (g : Ground) (ns : List ℕ) (x : Variable) → is_variable (here g ns) x ≡ true → slice_get (kinds_in (kinds_for g ns x.external) x.undoable) x.number ≡ Some x.kind
variable_kind g ns x e = go x.undoable (kind_there x.kind (kind_of_variable (here g ns) x) e)
  where
    go : (u : Bool) → slice_get (if u then (kinds_for g ns x.external).undoable else (kinds_for g ns x.external).no_undo) x.number ≡ Some x.kind → slice_get (kinds_in (kinds_for g ns x.external) u) x.number ≡ Some x.kind
    go true h = h
    go false h = h

-- A VARIABLE HAS A VALUE OF ITS KIND
pub variable_has : (g : Ground) (ns : List ℕ) (x : Variable) (s : State) → AreFrames g ns s.frames → is_variable (here g ns) x ≡ true → is_of_kind x.kind (value_of x s) ≡ true
variable_has g ns x s h e = frames_have g ns s.frames x.external x.undoable x.number x.kind h (variable_kind g ns x e)

-- another value of its kind
pub assigned_keeps : (g : Ground) (ns : List ℕ) (x : Variable) (v : Value) (s : State) → AreFrames g ns s.frames → is_variable (here g ns) x ≡ true → is_of_kind x.kind v ≡ true → AreFrames g ns (assigned x v s).frames
assigned_keeps g ns x v s h e is = frames_set g ns s.frames x.external x.undoable x.number x.kind v h (variable_kind g ns x e) is
