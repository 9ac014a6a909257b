-- A completion that reaches an entry of the stack keeps the levels at which it is reached.
use Rattle.std.proofs.Common.{◌≡◌, ◌≤◌, arith, refl, sym, ◌∙◌, subst, ℕ, Bool, true, false, List, [], ◌∷◌, Option, Some, None}
use Rattle.bound_tree.specs.declared.statement.FindWord.{FindWord}
use Rattle.bound_tree.specs.declared.statement.FindWord.TheVariants as find
use Rattle.bound_tree.specs.Tree.{Argument, Header}
use Rattle.block_meaning.specs.Program.{Program, procedure_at}
use Rattle.block_meaning.specs.State.{Again, Completion, Content, Copy, EndKeys, Faults, Found, Lost, Normal, NotFound, Raises, Returns, State, Stops, Turn, nothing_passed}
use Rattle.block_meaning.specs.Blocks.{Iteration, after_iteration, complained}
use Rattle.block_meaning.specs.Frames.{emptied, own_frame}
use Rattle.block_meaning.specs.Meaning.{copied_out, without_frame}
use Rattle.flat_machine.specs.Config.{AfterBack, AfterClosing, AndAgain, AsBefore, Called, Completes, ErrorComes, Execute, FetchedAs, FoundAs, Handles, In, OrDo, Quiet, LeavesIf, StackEntry, Task, ThenDo}
use Rattle.flat_machine.specs.Steps.{config}
use Rattle.flat_machine.specs.Machine.{again_step, before_step, called_step, closing_step, fetched_step, found_step, handled_step, not_found_step, or_step, over_step, pop_step, quiet_step, then_step}
use Rattle.bound_tree.specs.declared.expression.Variable.{Variable}
use Rattle.bound_tree.specs.Tree.{Body, In as InArgument, InOut, Out}
use Rattle.block_meaning.specs.Lines.{Complaint}
use Rattle.block_meaning.specs.State.{CallFrame, written_if}
use Rattle.block_meaning.specs.declared.wants.Piece.{Piece}
use Rattle.machine_laws.proofs.LevelsLemmas.Kept.{IsBlockAt, Around, Arrives, Below, Comes, FirstAt, HasLevel, IsIterationAt, Sound, StackAt, TaskAt, class, class_of_first, takes}
use Rattle.machine_laws.proofs.LevelsLemmas.Parts.{back_level, complained_level}
use Rattle.machine_laws.proofs.LevelsLemmas.Tasks.{after_over, class_fits, over_comes}
use Rattle.std.specs.Prelude.{◌||◌}
use Rattle.txn_infer.specs.Updates.{fetches_exclusively, updates_in}

copied_level : (args : List Argument) (xs : List Variable) (f : CallFrame) (s : State) → (copied_out args xs f s).level ≡ s.level
copied_level [] xs f s = refl
copied_level (a ∷ rest) [] f s = refl
copied_level (InArgument w ∷ rest) (x ∷ xs) f s = copied_level rest xs f s
copied_level (InOut y ∷ rest) (x ∷ xs) f s = copied_level rest xs f _
copied_level (Out y ∷ rest) (x ∷ xs) f s = copied_level rest xs f _

-- the line about a fault is written, or the client stops
written_comes : (b : Bool) (piece : Piece) (s : State) (n f : ℕ) → Comes (written_if b piece s).completion n f n
written_comes true piece s n f = tt
written_comes false piece s n f = refl

complained_comes : (p : Program) (c : Option Complaint) (s : State) (n f : ℕ) → Comes (complained p c s).completion n f n
complained_comes p None s n f = refl
complained_comes p (Some c) s n f = written_comes _ _ s n f

written_none : (b : Bool) (piece : Piece) (s : State) → class (written_if b piece s).completion ≡ 0
written_none true piece s = refl
written_none false piece s = refl

complained_none : (p : Program) (c : Option Complaint) (s : State) → class (complained p c s).completion ≡ 0
complained_none p None s = refl
complained_none p (Some c) s = written_none _ _ s

first_none : (o : Option Copy) (f l : ℕ) → class_of_first o ≤ 1 → FirstAt f o l → l ≡ f
first_none None f l c h = h
first_none (Some copy) f l c h = absurd (omega (arith, c))

first_of_below : (o : Option Copy) (i m : ℕ) → Below o i m → FirstAt m o i
first_of_below None i m h = h
first_of_below (Some copy) i m h = (h.0 ∙ h.1, (let x = h.1 in omega (arith, x)))

-- where all completions come at one level
passed : (completion : Completion) (n f l : ℕ) → Comes completion n f l → n ≡ f → Comes completion f f l
passed Normal n f l h e = h ∙ e
passed completion n f l h e = h

arrives : (completion : Completion) (n f l : ℕ) → Comes completion n f l → n ≡ f → Arrives completion f l
arrives Normal n f l h e = h ∙ e
arrives completion n f l h e = h

has_level : (tree : ℕ → Body) (t : Task) (s : State) (k : ℕ) → s.level ≡ k → HasLevel tree (Execute t) s k
has_level tree (AfterBack copy but) s k e = tt
has_level tree t s k e = e

module _ (tree : ℕ → Body) (p : Program) (k : ℕ) (s : State) (e : s.level ≡ k) where
  -- what is known where a completion comes to an entry
  abbrev At : Completion → List StackEntry → Type 0
  At completion ks = (n : ℕ) × (f : ℕ) × Comes completion n f k × StackAt tree ks n f × (class completion ≤ takes ks)

  then_sound : (completion : Completion) (t : Task) (ks : List StackEntry) → At completion (ThenDo t ∷ ks) → Sound tree k (then_step completion t ks s)
  then_sound Normal t ks a = (has_level tree t s k e, subst (TaskAt tree (StackAt tree ks) (takes ks) t) (sym a.2) a.3.0)
  then_sound completion t ks a = (e, (a.3.1.0, a.1, a.2, a.3.1.1, a.4))

  or_sound : (completion : Completion) (t : Task) (ks : List StackEntry) → At completion (OrDo t ∷ ks) → Sound tree k (or_step completion t ks s)
  or_sound Lost t ks a = (has_level tree t s k e, subst (TaskAt tree (StackAt tree ks) (takes ks) t) (sym a.2) a.3.2)
  or_sound completion t ks a = (e, (a.1, a.1, passed completion a.0 a.1 k a.2 a.3.0, a.3.1, a.4))

  not_found_sound : (word : FindWord) (b : ℕ) (ks : List StackEntry) (f : ℕ) → k ≡ f → StackAt tree ks f f → 1 ≤ takes ks → Sound tree k (not_found_step word b ks s)
  not_found_sound find.Next b ks f l st c = (e, (f, f, l, st, c))
  not_found_sound find.Previous b ks f l st c = (e, (f, f, l, st, c))
  not_found_sound word b ks f l st c = (e, (f, f, l, st, omega arith))

  found_sound : (completion : Completion) (word : FindWord) (b : ℕ) (ks : List StackEntry) → At completion (FoundAs word b ∷ ks) → Sound tree k (found_step completion word b ks s)
  found_sound (Found at) word b ks a = (e, (a.1, a.1, a.2, a.3.1, omega arith))
  found_sound NotFound word b ks a = not_found_sound word b ks a.1 a.2 a.3.1 a.3.2
  found_sound completion word b ks a = (let c = a.4 in let d = a.3.2 in (e, (a.1, a.1, passed completion a.0 a.1 k a.2 a.3.0, a.3.1, omega (arith, c, d))))

  before_sound : (completion : Completion) (olds : List Content) (bs : List ℕ) (ks : List StackEntry) → At completion (AsBefore olds bs ∷ ks) → Sound tree k (before_step completion olds bs ks s)
  before_sound (Faults f) olds bs ks a = (back_level olds bs s ∙ e, a)
  before_sound completion olds bs ks a = (e, a)

  closing_sound : (completion : Completion) (b : Header) (o : Iteration) (out : Completion) (ks : List StackEntry) → At completion (AfterClosing b o out ∷ ks) → Sound tree k (closing_step completion p b o out ks s)
  closing_sound Normal b o out ks a = (e, (a.0, a.0, over_comes (after_iteration b o out) a.0 k (after_over b o out a.3.3) a.2, a.3.1, class_fits (after_iteration b o out) ks a.3.2))
  closing_sound (Faults f) b o out ks a =
      let below : StackAt tree (ThenDo (ErrorComes b o nothing_passed) ∷ ks) k a.0 = ((a.1, a.2, (a.0, a.3.0, a.3.1, a.3.2, a.3.4)), (a.0, a.3.1)) in
      let none = complained_none p f s in
      (complained_level p f s ∙ e, (k, a.0, complained_comes p f s k a.0, below, omega (arith, none)))
  closing_sound (Stops end) b o out ks a = (e, (a.0, a.0, tt, a.3.1, omega arith))
  closing_sound (EndKeys q) b o out ks a = absurd (none_of q.first a.4)
    where
      none_of : (o : Option Copy) → class_of_first o ≤ 0 → ⊥
      none_of None c = omega (arith, c)
      none_of (Some copy) c = omega (arith, c)
  closing_sound completion b o out ks a = absurd (let c = a.4 in omega (arith, c))

  quiet_sound : (completion : Completion) (quiet : Bool) (ks : List StackEntry) → At completion (Quiet quiet ∷ ks) → Sound tree k (quiet_step completion quiet ks s)
  quiet_sound (EndKeys q) true ks a = (e, (a.1, a.1, first_none q.first a.1 k a.4 a.2, a.3.1, omega arith))
  quiet_sound (EndKeys q) false ks a = (e, (a.1, a.1, a.2, a.3.1, class_fits (EndKeys q) ks a.3.2))
  quiet_sound completion quiet ks a = (e, (a.1, a.1, passed completion a.0 a.1 k a.2 a.3.0, a.3.1, class_fits completion ks a.3.2))

  handled_sound : (completion : Completion) (quiet : Bool) (ks : List StackEntry) → At completion (Handles quiet ∷ ks) → Sound tree k (handled_step completion p quiet ks s)
  handled_sound (Faults f) false ks a =
      let below : StackAt tree (ThenDo (Completes (Raises nothing_passed)) ∷ ks) k a.1 = ((a.1, a.1, a.2, a.3.1, a.3.2), (a.1, a.3.1)) in
      let none = complained_none p f s in
      (complained_level p f s ∙ e, (k, a.1, complained_comes p f s k a.1, below, omega (arith, none)))
  handled_sound (Faults f) true ks a = (e, (a.1, a.1, a.2, a.3.1, omega arith))
  handled_sound completion quiet ks a = (e, (a.1, a.1, passed completion a.0 a.1 k a.2 a.3.0, a.3.1, class_fits completion ks a.3.2))

  around_at : (b : Header) (copy : Option Copy) (ks : List StackEntry) (f : ℕ) → k ≡ f → Around tree (StackAt tree ks) (takes ks) b copy f → Around tree (StackAt tree ks) (takes ks) b copy k
  around_at b copy ks f l a = subst (Around tree (StackAt tree ks) (takes ks) b copy) (sym l) a

  leaves : (b : Header) (copy : Option Copy) (buffer : ℕ) (ks : List StackEntry) (f : ℕ) → k ≡ f → Around tree (StackAt tree ks) (takes ks) b copy f → Sound tree k (config (Execute (LeavesIf copy b.scoped)) ks (emptied buffer s))
  leaves b copy buffer ks f l around = let a = around_at b copy ks f l around in (e, (a.0, a.0, a.1, a.2))

  fetched_sound : (completion : Completion) (b : Header) (copy : Option Copy) (t : Turn) (buffer body d : ℕ) (retry : Bool) (ks : List StackEntry) → At completion (FetchedAs b copy t buffer body d retry ∷ ks) → Sound tree k (fetched_step completion b copy t buffer body d retry ks s)
  fetched_sound (Found at) b copy t buffer body d retry ks a =
      let it : IsIterationAt tree b body k = subst (IsIterationAt tree b body) (sym a.2) a.3.1 in
      (e, ((refl, around_at b copy ks a.1 a.2 a.3.2), omega arith, record { inside = λ u. it.inside (or_right (fetches_exclusively b.fetch) (updates_in (tree body)) u); flags = it.flags }))
    where
      or_right : (b c : Bool) → c ≡ true → (b || c) ≡ true
      or_right true c e = refl
      or_right false c e = e
  fetched_sound (Faults f) b copy t buffer body d retry ks a =
      let around = around_at b copy ks a.1 a.2 a.3.2 in
      (e, (around.0, around.0, first_of_below copy k around.0 around.1, ((around.0, around.0, refl, around.2, omega arith), (around.0, around.2))))
  fetched_sound (Stops end) b copy t buffer body d retry ks a = (e, (a.3.2.0, a.3.2.0, tt, a.3.2.2, omega arith))
  fetched_sound Normal b copy t buffer body d retry ks a = leaves b copy buffer ks a.1 (a.2 ∙ a.3.0) a.3.2
  fetched_sound Lost b copy t buffer body d retry ks a = leaves b copy buffer ks a.1 a.2 a.3.2
  fetched_sound NotFound b copy t buffer body d retry ks a = leaves b copy buffer ks a.1 a.2 a.3.2
  fetched_sound (EndKeys q) b copy t buffer body d retry ks a = leaves b copy buffer ks a.1 (first_none q.first a.1 k a.4 a.2) a.3.2
  fetched_sound completion b copy t buffer body d retry ks a = absurd (let c = a.4 in omega (arith, c))

  again_sound : (completion : Completion) (n : ℕ) (b : Header) (outer : Bool) (body d : ℕ) (ks : List StackEntry) → At completion (AndAgain n b outer body d ∷ ks) → Sound tree k (again_step completion n b outer body d ks s)
  again_sound (Again t) n b outer body d ks a = (e, (subst (λ m. StackAt tree ks m m) (sym a.2) a.3.2, a.3.3, subst (IsBlockAt tree b body) (sym a.2) a.3.1))
  again_sound completion n b outer body d ks a = (e, (a.1, a.1, passed completion a.0 a.1 k a.2 a.3.0, a.3.2, class_fits completion ks a.3.3))

  called_sound : (completion : Completion) (args : List Argument) (i : ℕ) (ks : List StackEntry) → At completion (Called args i ∷ ks) → Sound tree k (called_step completion args (procedure_at p i) ks s)
  called_sound Normal args i ks a = (copied_level args (procedure_at p i).parameters (own_frame s.frames) (without_frame s) ∙ e, (a.1, a.1, a.2 ∙ a.3.0, a.3.1, omega arith))
  called_sound (Returns false) args i ks a = (copied_level args (procedure_at p i).parameters (own_frame s.frames) (without_frame s) ∙ e, (a.1, a.1, a.2, a.3.1, omega arith))
  called_sound (Returns true) args i ks a = (e, (a.1, a.1, a.2, a.3.1, omega arith))
  called_sound completion args i ks a = (e, (a.1, a.1, passed completion a.0 a.1 k a.2 a.3.0, a.3.1, class_fits completion ks a.3.2))

  pop_sound : (x : StackEntry) (completion : Completion) (ks : List StackEntry) → At completion (x ∷ ks) → Sound tree k (pop_step p x completion ks s)
  pop_sound (ThenDo t) completion ks a = then_sound completion t ks a
  pop_sound (OrDo t) completion ks a = or_sound completion t ks a
  pop_sound (FoundAs word b) completion ks a = found_sound completion word b ks a
  pop_sound (AsBefore olds bs) completion ks a = before_sound completion olds bs ks a
  pop_sound (AfterClosing b o out) completion ks a = closing_sound completion b o out ks a
  pop_sound (Quiet quiet) completion ks a = quiet_sound completion quiet ks a
  pop_sound (Handles quiet) completion ks a = handled_sound completion quiet ks a
  pop_sound (In b o) completion ks a = (e, (a.1, arrives completion a.0 a.1 k a.2 a.3.0, a.3.1))
  pop_sound (FetchedAs b copy t buffer body d retry) completion ks a = fetched_sound completion b copy t buffer body d retry ks a
  pop_sound (AndAgain n b outer body d) completion ks a = again_sound completion n b outer body d ks a
  pop_sound (Called args i) completion ks a = called_sound completion args i ks a

  pub over_sound : (ks : List StackEntry) (completion : Completion) → At completion ks → Sound tree k (over_step p ks completion s)
  over_sound [] completion a = (e, a)
  over_sound (x ∷ ks) completion a = pop_sound x completion ks a
