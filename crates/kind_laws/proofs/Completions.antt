-- The steps of a completion that reaches an entry of the stack.
use Rattle.std.proofs.Common.{◌≡◌, ℕ, Bool, true, false, List, [], ◌∷◌, Option, refl, subst}
use Rattle.database_protocol.specs.declared.ends.ClientEnd.{ClientEnd}
use Rattle.bound_tree.specs.declared.statement.FindWord.{FindWord}
use Rattle.bound_tree.specs.declared.statement.FindWord.TheVariants as find
use Rattle.bound_tree.specs.Tree.{Argument, Header}
use Rattle.block_meaning.specs.Blocks.{Iteration, after_iteration}
use Rattle.block_meaning.specs.Frames.{own_frame}
use Rattle.block_meaning.specs.Meaning.{copied_out, popped, without_frame}
use Rattle.block_meaning.specs.Program.{procedure_at}
use Rattle.block_meaning.specs.State.{Again, CallFrame, Completion, Content, Copy, EndKeys, Faults, Found, Lost, Normal, NotFound, Raises, Returns, State, Stops, Turn, Undoes, nothing_passed}
use Rattle.flat_machine.specs.Config.{AfterClosing, AndAgain, AsBefore, Called, Completes, EndsWith, ErrorComes, Execute, FetchedAs, FoundAs, Handles, In, OrDo, Quiet, StackEntry, Task, ThenDo}
use Rattle.flat_machine.specs.Machine.{again_step, before_step, called_step, closing_step, fetched_step, found_step, handled_step, not_found_step, or_step, pop_step, quiet_step, then_step}
use Rattle.flat_machine.specs.Steps.{config}
use Rattle.kind_laws.specs.Placed.{is_nil}
use Rattle.kind_laws.specs.Reached.{Ground}
use Rattle.kind_laws.proofs.Kept.{allows, AreFrames, AreOld, CanFail, in_block, IsAllowed, IsCall, IsFrame, IsKept, IsOpen, IsOver, IsStack, IsTask, IsWhole, Kept, nothing, IsCopy}
use Rattle.kind_laws.proofs.Calls.{copied_keeps, parameters_own, parameters_there}
use Rattle.kind_laws.proofs.Parts.{after_over, errs_kept, executes, false_true, true_false, unwinds}
use Rattle.kind_laws.proofs.Buffers.{back_keeps, emptied_keeps}

-- what a stack that handles more of a fault, an iteration or a search passes on
then_kept : (g : Ground) (ns : List ℕ) (completion : Completion) (t : Task) (ks : List StackEntry) (s : State) → AreFrames g ns s.frames → IsAllowed g ns (allows ks) completion → IsTask g ns (allows ks) t → IsStack g ns ks → Kept g ns (then_step completion t ks s)
then_kept g ns Normal t ks s h a is k = executes g ns t ks s h is k
then_kept g ns (Stops end) t ks s h a is k = (h, tt)
then_kept g ns completion t ks s h a is k = (h, (a, k))

or_kept : (g : Ground) (ns : List ℕ) (completion : Completion) (t : Task) (ks : List StackEntry) (s : State) → AreFrames g ns s.frames → IsAllowed g ns (record (allows ks) { lost = true }) completion → IsTask g ns (allows ks) t → IsStack g ns ks →
    Kept g ns (or_step completion t ks s)
or_kept g ns Lost t ks s h a is k = executes g ns t ks s h is k
or_kept g ns (Stops end) t ks s h a is k = (h, tt)
or_kept g ns completion t ks s h a is k = (h, (a, k))

not_found_kept : (g : Ground) (ns : List ℕ) (word : FindWord) (b : ℕ) (ks : List StackEntry) (s : State) → AreFrames g ns s.frames → CanFail (allows ks) → IsStack g ns ks → Kept g ns (not_found_step word b ks s)
not_found_kept g ns find.Next b ks s h f k = (h, ((f.inside, tt), k))
not_found_kept g ns find.Previous b ks s h f k = (h, ((f.inside, tt), k))
not_found_kept g ns word b ks s h f k = (h, (f.faults, k))

found_kept : (g : Ground) (ns : List ℕ) (completion : Completion) (word : FindWord) (b : ℕ) (ks : List StackEntry) (s : State) → AreFrames g ns s.frames → IsAllowed g ns (record (allows ks) { found = true }) completion → CanFail (allows ks) → IsStack g ns ks →
    Kept g ns (found_step completion word b ks s)
found_kept g ns (Found c) word b ks s h a f k = (h, (tt, k))
found_kept g ns NotFound word b ks s h a f k = not_found_kept g ns word b ks s h f k
found_kept g ns (Stops end) word b ks s h a f k = (h, tt)
found_kept g ns completion word b ks s h a f k = (h, (a, k))

before_kept : (g : Ground) (ns : List ℕ) (completion : Completion) (olds : List Content) (bs : List ℕ) (ks : List StackEntry) (s : State) → AreFrames g ns s.frames → IsAllowed g ns (allows ks) completion → AreOld g ns olds bs → IsStack g ns ks → Kept g ns (before_step completion olds bs ks s)
before_kept g ns (Faults c) olds bs ks s h a old k = (back_keeps g ns olds bs s old h, (a, k))
before_kept g ns (Stops end) olds bs ks s h a old k = (h, tt)
before_kept g ns completion olds bs ks s h a old k = (h, (a, k))

closing_kept : (g : Ground) (ns : List ℕ) (completion : Completion) (b : Header) (o : Iteration) (out : Completion) (ks : List StackEntry) (s : State) → AreFrames g ns s.frames → IsAllowed g ns (record nothing { faults = true }) completion →
    IsOpen g ns (allows ks) b o → IsOver (b.number ∷ (allows ks).blocks) out → IsStack g ns ks → Kept g ns (closing_step completion g.program b o out ks s)
closing_kept g ns Normal b o out ks s h a is over k = unwinds g ns (after_iteration b o out) ks s h (after_over g ns (allows ks) b o out over is.again) k
closing_kept g ns (Faults c) b o out ks s h a is over k = errs_kept g ns g.program c (ErrorComes b o nothing_passed) ks s h (is, tt) k
closing_kept g ns (Returns error) b o out ks s h a is over k = (h, (tt, k))
closing_kept g ns (Stops end) b o out ks s h a is over k = (h, tt)
closing_kept g ns (Raises passed) b o out ks s h a is over k = absurd (true_false a.0)
closing_kept g ns (EndKeys passed) b o out ks s h a is over k = absurd (true_false a.0)
closing_kept g ns (Undoes l act retry passed) b o out ks s h a is over k = absurd (false_true a.0)
closing_kept g ns completion b o out ks s h a is over k = absurd (false_true a)

quiet_kept : (g : Ground) (ns : List ℕ) (completion : Completion) (quiet : Bool) (ks : List StackEntry) (s : State) → AreFrames g ns s.frames → IsAllowed g ns (allows ks) completion → (allows ks).faults ≡ true → IsStack g ns ks → Kept g ns (quiet_step completion quiet ks s)
quiet_kept g ns (EndKeys passed) true ks s h a e k = (h, (e, k))
quiet_kept g ns (EndKeys passed) false ks s h a e k = (h, (a, k))
quiet_kept g ns (Stops end) quiet ks s h a e k = (h, tt)
quiet_kept g ns completion quiet ks s h a e k = (h, (a, k))

handled_kept : (g : Ground) (ns : List ℕ) (completion : Completion) (quiet : Bool) (ks : List StackEntry) (s : State) → AreFrames g ns s.frames → IsAllowed g ns (record (allows ks) { faults = true }) completion → is_nil (allows ks).blocks ≡ false → IsStack g ns ks →
    Kept g ns (handled_step completion g.program quiet ks s)
handled_kept g ns (Faults c) false ks s h a i k = errs_kept g ns g.program c (Completes (Raises nothing_passed)) ks s h (i, tt) k
handled_kept g ns (Faults c) true ks s h a i k = (h, (tt, k))
handled_kept g ns (Stops end) quiet ks s h a i k = (h, tt)
handled_kept g ns completion quiet ks s h a i k = (h, (a, k))

-- the iteration has completed so
in_kept : (g : Ground) (ns : List ℕ) (completion : Completion) (b : Header) (o : Iteration) (ks : List StackEntry) (s : State) → AreFrames g ns s.frames → IsAllowed g ns (in_block b.number (allows ks)) completion → IsOpen g ns (allows ks) b o → IsStack g ns ks →
    Kept g ns (config (Execute (EndsWith b o completion)) ks s)
in_kept g ns completion b o ks s h a is k = executes g ns (EndsWith b o completion) ks s h (is, a) k

fetched_kept : (g : Ground) (ns : List ℕ) (completion : Completion) (b : Header) (copy : Option Copy) (t : Turn) (buffer body d : ℕ) (retry : Bool) (ks : List StackEntry) (s : State) → AreFrames g ns s.frames → IsWhole g ns (allows ks) b body → IsCopy g ns copy →
    (allows ks).again ≡ true → (allows ks).faults ≡ true → IsStack g ns ks → Kept g ns (fetched_step completion b copy t buffer body d retry ks s)
fetched_kept g ns (Found own) b copy t buffer body d retry ks s h w c a e k = (h, ((record { kinded = w.code.kinded; placed = w.code.placed; named = w.code.named }, refl), (record { block = w.block; copy = c; again = a }, k)))
fetched_kept g ns (Faults c) b copy t buffer body d retry ks s h w cp a e k = (h, (cp, (e, k)))
fetched_kept g ns (Stops end) b copy t buffer body d retry ks s h w c a e k = (h, tt)
fetched_kept g ns completion b copy t buffer body d retry ks s h w c a e k = (emptied_keeps g ns buffer s h, (tt, k))

again_kept : (g : Ground) (ns : List ℕ) (completion : Completion) (n : ℕ) (b : Header) (outer : Bool) (body d : ℕ) (ks : List StackEntry) (s : State) → AreFrames g ns s.frames → IsAllowed g ns (record (allows ks) { again = true }) completion →
    IsWhole g ns (allows ks) b body → IsStack g ns ks → Kept g ns (again_step completion n b outer body d ks s)
again_kept g ns (Again t) n b outer body d ks s h a w k = (h, (w, k))
again_kept g ns (Stops end) n b outer body d ks s h a w k = (h, tt)
again_kept g ns completion n b outer body d ks s h a w k = (h, (a, k))

-- ---- a procedure ends

-- the frames below, and the procedure's own
below : (g : Ground) (m l : ℕ) (ns : List ℕ) (fs : List CallFrame) → AreFrames g (m ∷ l ∷ ns) fs → AreFrames g (l ∷ ns) (popped fs)
below g m l ns [] h = absurd h
below g m l ns (f ∷ fs) h = h.2

own_is : (g : Ground) (m l : ℕ) (ns : List ℕ) (fs : List CallFrame) → AreFrames g (m ∷ l ∷ ns) fs → IsFrame g m (own_frame fs)
own_is g m l ns [] h = absurd h
own_is g m l ns (f ∷ fs) h = h.0

out_kept : (g : Ground) (m l : ℕ) (ns : List ℕ) (args : List Argument) (n : ℕ) (s : State) → AreFrames g (m ∷ l ∷ ns) s.frames → m ≡ n → IsCall g (l ∷ ns) n args →
    AreFrames g (l ∷ ns) (copied_out args (procedure_at g.program n).parameters (own_frame s.frames) (without_frame s)).frames
out_kept g m l ns args n s h e c =
    copied_keeps g (l ∷ ns) n args (procedure_at g.program n).parameters (own_frame s.frames) (without_frame s) (parameters_there g n c.procedure) (parameters_own g n c.procedure) c.arguments
    (subst (λ (i : ℕ). IsFrame g i (own_frame s.frames)) e (own_is g m l ns s.frames h)) (below g m l ns s.frames h)

called_kept : (g : Ground) (m l : ℕ) (ns : List ℕ) (completion : Completion) (args : List Argument) (n : ℕ) (ks : List StackEntry) (s : State) → AreFrames g (m ∷ l ∷ ns) s.frames → IsAllowed g (m ∷ l ∷ ns) nothing completion → m ≡ n → IsCall g (l ∷ ns) n args →
    (allows ks).faults ≡ true → IsStack g (l ∷ ns) ks → IsKept g (called_step completion args (procedure_at g.program n) ks s)
called_kept g m l ns Normal args n ks s h a e c f k = (l, ns, (out_kept g m l ns args n s h e c, (tt, k)))
called_kept g m l ns (Returns false) args n ks s h a e c f k = (l, ns, (out_kept g m l ns args n s h e c, (tt, k)))
called_kept g m l ns (Returns true) args n ks s h a e c f k = (l, ns, (below g m l ns s.frames h, (f, k)))
called_kept g m l ns (Stops end) args n ks s h a e c f k = (m, l ∷ ns, (h, tt))
called_kept g m l ns (Raises passed) args n ks s h a e c f k = absurd (true_false a.0)
called_kept g m l ns (EndKeys passed) args n ks s h a e c f k = absurd (true_false a.0)
called_kept g m l ns (Undoes b act retry passed) args n ks s h a e c f k = absurd (false_true a.0)
called_kept g m l ns completion args n ks s h a e c f k = absurd (false_true a)

-- ---- the stack

pub pop_kept : (g : Ground) (m : ℕ) (ns : List ℕ) (x : StackEntry) (completion : Completion) (ks : List StackEntry) (s : State) → AreFrames g (m ∷ ns) s.frames → IsAllowed g (m ∷ ns) (allows (x ∷ ks)) completion → IsStack g (m ∷ ns) (x ∷ ks) →
    IsKept g (pop_step g.program x completion ks s)
pop_kept g m ns (ThenDo t) completion ks s h a k = (m, ns, then_kept g (m ∷ ns) completion t ks s h a k.0 k.1)
pop_kept g m ns (OrDo t) completion ks s h a k = (m, ns, or_kept g (m ∷ ns) completion t ks s h a k.0 k.1)
pop_kept g m ns (FoundAs word b) completion ks s h a k = (m, ns, found_kept g (m ∷ ns) completion word b ks s h a k.0 k.1)
pop_kept g m ns (AsBefore olds bs) completion ks s h a k = (m, ns, before_kept g (m ∷ ns) completion olds bs ks s h a k.0 k.1)
pop_kept g m ns (AfterClosing b o out) completion ks s h a k = (m, ns, closing_kept g (m ∷ ns) completion b o out ks s h a k.0.0 k.0.1 k.1)
pop_kept g m ns (Quiet quiet) completion ks s h a k = (m, ns, quiet_kept g (m ∷ ns) completion quiet ks s h a k.0 k.1)
pop_kept g m ns (Handles quiet) completion ks s h a k = (m, ns, handled_kept g (m ∷ ns) completion quiet ks s h a k.0 k.1)
pop_kept g m ns (In b o) completion ks s h a k = (m, ns, in_kept g (m ∷ ns) completion b o ks s h a k.0 k.1)
pop_kept g m ns (FetchedAs b copy t buffer body d retry) completion ks s h a k = (m, ns, fetched_kept g (m ∷ ns) completion b copy t buffer body d retry ks s h k.0.0 k.0.1 k.0.2 k.0.3 k.1)
pop_kept g m ns (AndAgain n b outer body d) completion ks s h a k = (m, ns, again_kept g (m ∷ ns) completion n b outer body d ks s h a k.0 k.1)
pop_kept g m [] (Called args n) completion ks s h a k = absurd k
pop_kept g m (l ∷ ns) (Called args n) completion ks s h a k = called_kept g m l ns completion args n ks s h a k.0.0 k.0.1 k.0.2 k.1

-- one that is about to end passes them all
pub stop_kept : (g : Ground) (m : ℕ) (ns : List ℕ) (x : StackEntry) (end : ClientEnd) (ks : List StackEntry) (s : State) → AreFrames g (m ∷ ns) s.frames → IsKept g (pop_step g.program x (Stops end) ks s)
stop_kept g m ns (ThenDo t) end ks s h = (m, ns, (h, tt))
stop_kept g m ns (OrDo t) end ks s h = (m, ns, (h, tt))
stop_kept g m ns (FoundAs word b) end ks s h = (m, ns, (h, tt))
stop_kept g m ns (AsBefore olds bs) end ks s h = (m, ns, (h, tt))
stop_kept g m ns (AfterClosing b o out) end ks s h = (m, ns, (h, tt))
stop_kept g m ns (Quiet quiet) end ks s h = (m, ns, (h, tt))
stop_kept g m ns (Handles true) end ks s h = (m, ns, (h, tt))
stop_kept g m ns (Handles false) end ks s h = (m, ns, (h, tt))
stop_kept g m ns (In b o) end ks s h = (m, ns, (h, tt))
stop_kept g m ns (FetchedAs b copy t buffer body d retry) end ks s h = (m, ns, (h, tt))
stop_kept g m ns (AndAgain n b outer body d) end ks s h = (m, ns, (h, tt))
stop_kept g m ns (Called args n) end ks s h = (m, ns, (h, tt))
