-- A completion that reaches an entry of the stack keeps what the buffers claim.
use Rattle.std.proofs.Common.{refl, ◌∙◌, ℕ, Bool, true, false, List, [], ◌∷◌, Option}
use Rattle.bound_tree.specs.declared.statement.FindWord.{FindWord}
use Rattle.bound_tree.specs.declared.statement.FindWord.TheVariants as find
use Rattle.bound_tree.specs.Tree.{Argument, Header, Procedure}
use Rattle.block_meaning.specs.Program.{Program, procedure_at}
use Rattle.block_meaning.specs.State.{Again, Completion, Content, Copy, EndKeys, Faults, Found, Lost, Normal, NotFound, Raises, Returns, State, Stops, Turn, nothing_passed}
use Rattle.block_meaning.specs.Blocks.{Iteration, after_iteration, complained}
use Rattle.block_meaning.specs.Frames.{emptied, own_frame}
use Rattle.block_meaning.specs.Meaning.{copied_out, without_frame}
use Rattle.flat_machine.specs.Config.{AfterBack, AfterClosing, AndAgain, AsBefore, AssignsEach, AssignsOne, Called, Completes, DeletesRow, EntersOne, ErrorComes, Execute, FetchedAs, FoundAs, Handles, In, LocksAll, LocksOne, OrDo, Quiet, SettlesAll, SettlesOne, StackEntry, Task, ThenDo, Unwind}
use Rattle.flat_machine.specs.Steps.{config}
use Rattle.flat_machine.specs.Machine.{again_step, before_step, called_step, closing_step, fetched_step, found_step, handled_step, not_found_step, or_step, over_step, pop_step, quiet_step, then_step}
use Rattle.machine_laws.proofs.OperationsLemmas.Claims.{back_keeps, back_level, copied_keeps, copied_level, without_keeps}
use Rattle.machine_laws.proofs.OperationsLemmas.Kept.{AtMode, Calm, FitsEntry, Good, IsPlain, IsShaped, Needs, Sound, free_needs}
use Rattle.machine_laws.proofs.OperationsLemmas.Parts.{Keeps, calm_done, calm_unwinds, complained_state, emptied_state, good_to, to, unwinds}

module _ (held : ℕ → Bool) (k : ℕ) where
  -- the task that follows
  does_sound : (t : Task) (ks : List StackEntry) (s : State) → FitsEntry (ThenDo t) ks → IsShaped ks → Good held k s → Needs held [] (ThenDo t ∷ ks) s → Sound held k (config (Execute t) ks s)
  does_sound (LocksAll bs) ks s f h g n = (h, (g, n))
  does_sound (AssignsEach xs retry) ks s f h g n = (h, (g, n))
  does_sound (AfterBack copy but) ks s f h g n = absurd f
  does_sound (SettlesOne b) ks s f h g n = absurd f
  does_sound (SettlesAll olds bs) ks s f h g n = (h, (g, (n, f)))
  does_sound (DeletesRow b t row) ks s f h g n = (h, (g, (n, f)))
  does_sound (EntersOne place) ks s f h g n = (h, (g, free_needs held [] ks s f))
  does_sound (AssignsOne t x retry) ks s f h g n = (h, (g, free_needs held [] ks s f))
  does_sound (LocksOne b) ks s f h g n = (h, (g, free_needs held (b ∷ []) ks s f))
  does_sound t ks s f h g n = (h, (g, f))

  then_sound : (completion : Completion) (t : Task) (ks : List StackEntry) (s : State) → FitsEntry (ThenDo t) ks → IsShaped ks → AtMode held k (Unwind completion) (ThenDo t ∷ ks) s → Sound held k (then_step completion t ks s)
  then_sound Normal t ks s f h a = does_sound t ks s f h a.0 a.1
  then_sound completion t ks s f h a = (h, a)

  plain_does : (t : Task) (ks : List StackEntry) (s : State) → IsPlain t → Calm held k ks s → Sound held k (config (Execute t) ks s)
  plain_does (EntersOne place) ks s is c = absurd is
  plain_does (AfterBack copy but) ks s is c = absurd is
  plain_does (AssignsOne t x retry) ks s is c = absurd is
  plain_does (AssignsEach xs retry) ks s is c = absurd is
  plain_does (LocksOne b) ks s is c = absurd is
  plain_does (LocksAll bs) ks s is c = absurd is
  plain_does (SettlesOne b) ks s is c = absurd is
  plain_does (SettlesAll olds bs) ks s is c = absurd is
  plain_does (DeletesRow b t row) ks s is c = absurd is
  plain_does t ks s is c = (c.shaped, (c.good, c.free))

  or_sound : (completion : Completion) (t : Task) (ks : List StackEntry) (s : State) → IsPlain t → Calm held k ks s → Sound held k (or_step completion t ks s)
  or_sound Lost t ks s is c = plain_does t ks s is c
  or_sound completion t ks s is c = calm_unwinds held k completion ks s c

  not_found_sound : (word : FindWord) (b : ℕ) (ks : List StackEntry) (s : State) → Calm held k ks s → Sound held k (not_found_step word b ks s)
  not_found_sound find.Next b ks s c = (c.shaped, c.good)
  not_found_sound find.Previous b ks s c = (c.shaped, c.good)
  not_found_sound word b ks s c = (c.shaped, c.good)

  found_sound : (completion : Completion) (word : FindWord) (b : ℕ) (ks : List StackEntry) (s : State) → Calm held k ks s → Sound held k (found_step completion word b ks s)
  found_sound (Found at) word b ks s c = calm_done held k ks s c
  found_sound NotFound word b ks s c = not_found_sound word b ks s c
  found_sound completion word b ks s c = calm_unwinds held k completion ks s c

  -- a fault puts contents back, and needs nothing
  before_sound : (completion : Completion) (olds : List Content) (bs : List ℕ) (ks : List StackEntry) (s : State) → IsShaped ks → AtMode held k (Unwind completion) (AsBefore olds bs ∷ ks) s → Sound held k (before_step completion olds bs ks s)
  before_sound (Faults f) olds bs ks s h a = (h, (back_level olds bs s ∙ a.0, back_keeps held olds bs s a.1))
  before_sound completion olds bs ks s h a = (h, a)

  closing_sound : (completion : Completion) (p : Program) (b : Header) (o : Iteration) (out : Completion) (ks : List StackEntry) (s : State) → Calm held k ks s → Sound held k (closing_step completion p b o out ks s)
  closing_sound Normal p b o out ks s c = calm_unwinds held k (after_iteration b o out) ks s c
  closing_sound (Faults f) p b o out ks s c =
      unwinds held k (complained p f s).completion (ThenDo (ErrorComes b o nothing_passed) ∷ ks) (complained p f s).state (c.free, c.shaped) (good_to held k s (complained p f s).state (complained_state p f s) c.good) tt
  closing_sound completion p b o out ks s c = calm_unwinds held k completion ks s c

  quiet_sound : (completion : Completion) (quiet : Bool) (ks : List StackEntry) (s : State) → Calm held k ks s → Sound held k (quiet_step completion quiet ks s)
  quiet_sound (EndKeys passed) true ks s c = (c.shaped, c.good)
  quiet_sound (EndKeys passed) false ks s c = (c.shaped, c.good)
  quiet_sound completion quiet ks s c = calm_unwinds held k completion ks s c

  handled_sound : (completion : Completion) (p : Program) (quiet : Bool) (ks : List StackEntry) (s : State) → Calm held k ks s → Sound held k (handled_step completion p quiet ks s)
  handled_sound (Faults f) p false ks s c =
      unwinds held k (complained p f s).completion (ThenDo (Completes (Raises nothing_passed)) ∷ ks) (complained p f s).state (c.free, c.shaped) (good_to held k s (complained p f s).state (complained_state p f s) c.good) tt
  handled_sound (Faults f) p true ks s c = (c.shaped, (c.good, free_needs held [] ks _ c.free))
  handled_sound completion p quiet ks s c = calm_unwinds held k completion ks s c

  fetched_sound : (completion : Completion) (b : Header) (copy : Option Copy) (t : Turn) (buffer body d : ℕ) (retry : Bool) (ks : List StackEntry) (s : State) → Calm held k ks s → Sound held k (fetched_step completion b copy t buffer body d retry ks s)
  fetched_sound (Found at) b copy t buffer body d retry ks s c = ((c.free, c.shaped), (c.good, tt))
  fetched_sound (Faults f) b copy t buffer body d retry ks s c = ((c.free, c.shaped), (c.good, tt))
  fetched_sound (Stops end) b copy t buffer body d retry ks s c = (c.shaped, c.good)
  fetched_sound completion b copy t buffer body d retry ks s c = (c.shaped, (good_to held k s (emptied buffer s) (emptied_state buffer s) c.good, c.free))

  again_sound : (completion : Completion) (n : ℕ) (b : Header) (outer : Bool) (body d : ℕ) (ks : List StackEntry) (s : State) → Calm held k ks s → Sound held k (again_step completion n b outer body d ks s)
  again_sound (Again t) n b outer body d ks s c = (c.shaped, (c.good, c.free))
  again_sound completion n b outer body d ks s c = calm_unwinds held k completion ks s c

  without_state : (s : State) → Keeps s (without_frame s)
  without_state s = record { level = refl; claims = λ held h. without_keeps held s h }

  copied_state : (args : List Argument) (q : Procedure) (s : State) → Keeps s (copied_out args q.parameters (own_frame s.frames) (without_frame s))
  copied_state args q s =
      record { level = copied_level args q.parameters (own_frame s.frames) (without_frame s); claims = λ held h. copied_keeps held args q.parameters (own_frame s.frames) (without_frame s) (without_keeps held s h) }

  called_sound : (completion : Completion) (args : List Argument) (q : Procedure) (ks : List StackEntry) (s : State) → Calm held k ks s → Sound held k (called_step completion args q ks s)
  called_sound Normal args q ks s c = calm_done held k ks _ (to held k ks s _ (copied_state args q s) c)
  called_sound (Returns false) args q ks s c = calm_done held k ks _ (to held k ks s _ (copied_state args q s) c)
  called_sound (Returns true) args q ks s c = (c.shaped, good_to held k s (without_frame s) (without_state s) c.good)
  called_sound completion args q ks s c = calm_unwinds held k completion ks s c

  good_of : (completion : Completion) (ks : List StackEntry) (s : State) → AtMode held k (Unwind completion) ks s → Good held k s
  good_of Normal ks s a = a.0
  good_of completion ks s a = a

  pub pop_sound : (p : Program) (e : StackEntry) (completion : Completion) (ks : List StackEntry) (s : State) → IsShaped (e ∷ ks) → AtMode held k (Unwind completion) (e ∷ ks) s → Sound held k (pop_step p e completion ks s)
  pop_sound p (ThenDo t) completion ks s h a = then_sound completion t ks s h.0 h.1 a
  pop_sound p (OrDo t) completion ks s h a = or_sound completion t ks s h.0.0 (record { good = good_of completion (OrDo t ∷ ks) s a; shaped = h.1; free = h.0.1 })
  pop_sound p (FoundAs word b) completion ks s h a = found_sound completion word b ks s (record { good = good_of completion (FoundAs word b ∷ ks) s a; shaped = h.1; free = h.0 })
  pop_sound p (AsBefore olds bs) completion ks s h a = before_sound completion olds bs ks s h.1 a
  pop_sound p (AfterClosing b o out) completion ks s h a = closing_sound completion p b o out ks s (record { good = good_of completion (AfterClosing b o out ∷ ks) s a; shaped = h.1; free = h.0 })
  pop_sound p (Quiet quiet) completion ks s h a = quiet_sound completion quiet ks s (record { good = good_of completion (Quiet quiet ∷ ks) s a; shaped = h.1; free = h.0 })
  pop_sound p (Handles quiet) completion ks s h a = handled_sound completion p quiet ks s (record { good = good_of completion (Handles quiet ∷ ks) s a; shaped = h.1; free = h.0 })
  pop_sound p (In b o) completion ks s h a = (h.1, (good_of completion (In b o ∷ ks) s a, h.0))
  pop_sound p (FetchedAs b copy t buffer body d retry) completion ks s h a =
      fetched_sound completion b copy t buffer body d retry ks s (record { good = good_of completion (FetchedAs b copy t buffer body d retry ∷ ks) s a; shaped = h.1; free = h.0 })
  pop_sound p (AndAgain n b outer body d) completion ks s h a = again_sound completion n b outer body d ks s (record { good = good_of completion (AndAgain n b outer body d ∷ ks) s a; shaped = h.1; free = h.0 })
  pop_sound p (Called args n) completion ks s h a = called_sound completion args (procedure_at p n) ks s (record { good = good_of completion (Called args n ∷ ks) s a; shaped = h.1; free = h.0 })

  pub over_sound : (p : Program) (ks : List StackEntry) (completion : Completion) (s : State) → IsShaped ks → AtMode held k (Unwind completion) ks s → Sound held k (over_step p ks completion s)
  over_sound p [] completion s h a = (h, a)
  over_sound p (e ∷ ks) completion s h a = pop_sound p e completion ks s h a
