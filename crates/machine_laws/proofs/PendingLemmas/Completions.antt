-- A completion that reaches an entry of the stack leaves no record pending outside of a transaction.
use Rattle.std.proofs.Common.{◌≡◌, ◌≤◌, refl, ℕ, Bool, true, false, List, [], ◌∷◌, Option, Some, None}
use Rattle.bound_tree.specs.declared.statement.FindWord.{FindWord}
use Rattle.bound_tree.specs.declared.statement.FindWord.TheVariants as find
use Rattle.bound_tree.specs.Tree.{Argument, Header, Procedure}
use Rattle.block_meaning.specs.Program.{Program, procedure_at}
use Rattle.block_meaning.specs.State.{Again, Completion, Content, Copy, EndKeys, Faults, Found, Lost, Normal, NotFound, Raises, Returns, State, Stops, Turn, nothing_passed}
use Rattle.block_meaning.specs.Blocks.{Iteration, after_iteration, complained}
use Rattle.block_meaning.specs.Frames.{emptied, own_frame}
use Rattle.block_meaning.specs.Meaning.{without_frame}
use Rattle.flat_machine.specs.Config.{AfterBack, AfterClosing, AndAgain, AsBefore, Begins, Called, Closing, Completes, Drops, Empties, EndKeyComes, EndsWith, Enters, EntersOne, EntersRest, ErrorComes, Execute, FetchedAs, Fetches, FetchesFrom, FindsAs, FoundAs, GoesBack, Handles, In, IsOnly, LeavesIf, LeavesNow, Looks, OrDo, Passes, Quiet, Releases, Searches, Seconds, StackEntry, Takes, TakesAgain, TakesAs, Task, ThenDo, UndoComes, Unwind, Updates, UpdatesOne}
use Rattle.flat_machine.specs.Steps.{config}
use Rattle.flat_machine.specs.Machine.{again_step, before_step, called_step, closing_step, fetched_step, found_step, handled_step, not_found_step, or_step, over_step, pop_step, quiet_step, then_step}
use Rattle.bound_tree.specs.Tree.{Body}
use Rattle.block_meaning.specs.Lines.{NoRecordFound}
use Rattle.flat_machine.specs.Means.{contents_back}
use Rattle.block_meaning.specs.State.{CallFrame, Passed}
use Rattle.machine_laws.proofs.LevelsLemmas.Kept.{Comes, IsOver, StackAt, class, takes}
use Rattle.machine_laws.proofs.LevelsLemmas.Parts.{complained_class}
use Rattle.machine_laws.proofs.LevelsLemmas.Tasks.{after_over}
use Rattle.machine_laws.proofs.PendingLemmas.Pends.{None_is, emptied_keeps, without_keeps}
use Rattle.machine_laws.proofs.PendingLemmas.Places.{none_pending}
use Rattle.machine_laws.proofs.PendingLemmas.Kept.{IsLeaving, IsReading, IsSearching, Carries, CarriesNone, FitsOver, Follows, IsCopyOf, IsIn, IsUndone, IsUnpended, LeavesTo, ModeFits, Rests, Want, WantAny, end_any, reading_want, rests_want, want_any}
use Rattle.machine_laws.proofs.PendingLemmas.Parts.{Fits, backs_keep, complained_keeps, copies_keep, done, emptied_stays, faulted, normal, none_carries, over_none, plain_carries, rests_follow, to, unwinds, want_follow}
use Rattle.database_protocol.specs.declared.ends.ClientEnd.{ClientEnd}

abbrev IsNoStop : Completion → Type 0
IsNoStop (Stops end) = ⊥
IsNoStop completion = Unit {0}

abbrev IsNotNormal : Completion → Type 0
IsNotNormal Normal = ⊥
IsNotNormal completion = Unit {0}

abbrev IsNoError : Task → Type 0
IsNoError (ErrorComes b o passed) = ⊥
IsNoError t = Unit {0}

abbrev IsOther : StackEntry → Type 0
IsOther (ThenDo t) = ⊥
IsOther x = Unit {0}

module _ (m k : ℕ) where
  -- what is known at an entry that is no task
  parts : (completion : Completion) (x : StackEntry) (ks : List StackEntry) (s : State) → IsNoStop completion → IsOther x → ModeFits m k (Unwind completion) (x ∷ ks) s → IsIn m k (x ∷ ks) s × Carries m completion × Follows completion (x ∷ ks) s.frames k
  parts (Stops end) x ks s goes is a = absurd goes
  parts completion (ThenDo t) ks s goes is a = absurd is
  parts completion x ks s goes is a = a

  -- ---- a task

  if_clear : (copy : Option Copy) (but : List ℕ) (ks : List StackEntry) (fs : List CallFrame) → Want [] (ThenDo (LeavesIf copy but) ∷ ks) fs k → IsUnpended copy fs
  if_clear None but ks fs w = tt
  if_clear (Some copy) but ks fs w = λ e. none_pending fs (w e)

  completes_mode : (completion : Completion) (ks : List StackEntry) (s : State) → IsIn m k ks s → CarriesNone completion → Want [] ks s.frames k → ModeFits m k (Execute (Completes completion)) ks s
  completes_mode (Stops end) ks s i c w = tt
  completes_mode completion ks s i c w = (i, (none_carries m completion c, want_follow completion ks s.frames k w))

  does : (t : Task) (ks : List StackEntry) (s : State) → ModeFits m k (Unwind Normal) (ThenDo t ∷ ks) s → ModeFits m k (Execute t) ks s
  does (ErrorComes b o passed) ks s a = (a.0, (a.1, a.2, a.3))
  does (Empties but) ks s a = a
  does (Enters more) ks s a = ((a.0.0, a.0.1, a.0.2.1), (a.0.2.0, a.2))
  does (EntersRest copy) ks s a = ((a.0.0, a.0.1, a.0.2.1), a.0.2.0)
  does (LeavesIf copy but) ks s a = ((a.0.0, a.0.1, a.0.2.1), (a.0.2.0, if_clear copy but ks s.frames a.2))
  does (LeavesNow but) ks s a = ((a.0.0, a.0.1, a.0.2.1), (a.0.2.0, a.2))
  does (Updates mark but more) ks s a = ((a.0.0, a.0.1, a.0.2.1), (a.0.2.0, a.2.0, a.2.1))
  does (Completes completion) ks s a = completes_mode completion ks s (a.0.0, a.0.1, a.0.2.1) a.0.2.0 a.2
  does (Drops b) ks s a = ((a.0.0, a.0.1, a.0.2.1), a.2)
  does (Releases bs) ks s a = ((a.0.0, a.0.1, a.0.2.1), a.2)
  does (TakesAs r wait retry row) ks s a = ((a.0.0, a.0.1, a.0.2.1), a.2)
  does (FetchesFrom again f retry at) ks s a = ((a.0.0, a.0.1, a.0.2.1), (a.0.2.0, a.2))
  does (FindsAs word r wait retry) ks s a = ((a.0.0, a.0.1, a.0.2.1), (a.0.2.0, a.2))
  does (EntersOne place) ks s a = absurd a.0.2.0
  does (UpdatesOne mark place) ks s a = absurd a.0.2.0
  does (Closing b o) ks s a = absurd a.0.2.0
  does (GoesBack copy but) ks s a = absurd a.0.2.0
  does (AfterBack copy but) ks s a = absurd a.0.2.0
  does (EndsWith b o completion) ks s a = absurd a.0.2.0
  does (UndoComes b o target act retry passed) ks s a = absurd a.0.2.0
  does (EndKeyComes b o passed) ks s a = absurd a.0.2.0
  does (Passes b ended_way left_way) ks s a = absurd a.0.2.0
  does (Begins b copy t retry body d) ks s a = absurd a.0.2.0
  does (IsOnly q at values) ks s a = absurd a.0.2.0
  does (Seconds n q at values from) ks s a = absurd a.0.2.0
  does (TakesAgain r retry row) ks s a = absurd a.0.2.0
  does (Takes q at values) ks s a = absurd a.0.2.0
  does (Looks n q from) ks s a = absurd a.0.2.0
  does (Searches r forward only wait retry from) ks s a = absurd a.0.2.0
  does (Fetches f t retry) ks s a = absurd a.0.2.0
  does t ks s a = ((a.0.0, a.0.1, a.0.2.1), a.0.2.0)

  -- what the read of a FOR needs, below a task
  leaves_any : (ks : List StackEntry) (fs : List CallFrame) → LeavesTo ks → WantAny ks fs
  leaves_any (ThenDo (Empties but) ∷ ks) fs r = tt
  leaves_any ks fs r = want_any ks fs k (rests_want [] ks fs k r)

  undone_any : (but : List ℕ) (ks : List StackEntry) (fs : List CallFrame) → IsUndone but ks → WantAny ks fs
  undone_any but (ThenDo (LeavesNow b) ∷ ThenDo (Empties c) ∷ ks) fs r = tt
  undone_any but ks fs r = absurd r

  leaving_any : (copy : Option Copy) (ks : List StackEntry) (fs : List CallFrame) → IsLeaving copy ks → WantAny ks fs
  leaving_any copy (ThenDo (LeavesIf c but) ∷ ks) fs r = tt
  leaving_any copy ks fs r = absurd r

  rests_any : (ks : List StackEntry) (fs : List CallFrame) → Rests ks → WantAny ks fs
  rests_any ks fs r = want_any ks fs k (rests_want [] ks fs k r)

  below_any : (t : Task) (ks : List StackEntry) (fs : List CallFrame) → FitsOver t ks → WantAny (ThenDo t ∷ ks) fs → WantAny ks fs
  below_any (Enters more) ks fs h w = end_any ks fs h
  below_any (EntersRest copy) ks fs h w = leaving_any copy ks fs h
  below_any (LeavesIf copy but) ks fs h w = rests_any ks fs h
  below_any (Updates mark but more) ks fs h w = undone_any but ks fs h
  below_any (LeavesNow but) ks fs h w = leaves_any ks fs h
  below_any (Empties but) ks fs h w = rests_any ks fs h
  below_any t ks fs h w = w

  below_follows : (completion : Completion) (t : Task) (ks : List StackEntry) (fs : List CallFrame) → IsNotNormal completion → FitsOver t ks → Follows completion (ThenDo t ∷ ks) fs k → Follows completion ks fs k
  below_follows Normal t ks fs n h w = absurd n
  below_follows (Faults f) t ks fs n h w = tt
  below_follows completion t ks fs n h w = below_any t ks fs h w

  -- a completion that is not the end passes by
  by_error : (completion : Completion) (b : Header) (o : Iteration) (passed : Passed) (ks : List StackEntry) (s : State) → IsNoStop completion → ModeFits m k (Unwind completion) (ThenDo (ErrorComes b o passed) ∷ ks) s → Fits m k (config (Unwind completion) ks s)
  by_error (Stops end) b o passed ks s goes a = absurd goes
  by_error completion b o passed ks s goes a = unwinds m k completion ks s a.0 a.4 (rests_follow completion ks s.frames k a.3)

  by_task : (completion : Completion) (t : Task) (ks : List StackEntry) (s : State) → IsNoStop completion → IsNotNormal completion → IsIn m k (ThenDo t ∷ ks) s × Carries m completion × Follows completion (ThenDo t ∷ ks) s.frames k → Fits m k (config (Unwind completion) ks s)
  by_task completion t ks s goes n a = unwinds m k completion ks s (a.0.0, a.0.1, a.0.2.1) a.1 (below_follows completion t ks s.frames n a.0.2.0 a.2)

  task_parts : (completion : Completion) (t : Task) (ks : List StackEntry) (s : State) → IsNoStop completion → IsNotNormal completion → IsNoError t → ModeFits m k (Unwind completion) (ThenDo t ∷ ks) s → IsIn m k (ThenDo t ∷ ks) s × Carries m completion × Follows completion (ThenDo t ∷ ks) s.frames k
  task_parts (Stops end) t ks s goes n is a = absurd goes
  task_parts Normal t ks s goes n is a = absurd n
  task_parts completion (ErrorComes b o passed) ks s goes n is a = absurd is
  task_parts completion t ks s goes n is a = a

  passes_task : (completion : Completion) (t : Task) (ks : List StackEntry) (s : State) → IsNoStop completion → IsNotNormal completion → ModeFits m k (Unwind completion) (ThenDo t ∷ ks) s → Fits m k (config (Unwind completion) ks s)
  passes_task completion (ErrorComes b o passed) ks s goes n a = by_error completion b o passed ks s goes a
  passes_task completion t ks s goes n a = by_task completion t ks s goes n (task_parts completion t ks s goes n tt a)

  then_fits : (completion : Completion) (t : Task) (ks : List StackEntry) (s : State) → ModeFits m k (Unwind completion) (ThenDo t ∷ ks) s → Fits m k (then_step completion t ks s)
  then_fits Normal t ks s a = does t ks s a
  then_fits (Stops end) t ks s a = tt
  then_fits completion t ks s a = passes_task completion t ks s tt tt a

  -- ---- other entries

  searches : (t : Task) (ks : List StackEntry) (s : State) → IsSearching t → IsIn m k ks s → IsReading ks × Want [] ks s.frames k → ModeFits m k (Execute t) ks s
  searches (Looks n q from) ks s is i w = (i, w)
  searches (Searches r forward only wait retry from) ks s is i w = (i, w)
  searches t ks s is i w = absurd is

  or_fits : (completion : Completion) (t : Task) (ks : List StackEntry) (s : State) → IsNoStop completion → IsIn m k (OrDo t ∷ ks) s → Carries m completion → Follows completion (OrDo t ∷ ks) s.frames k → Fits m k (or_step completion t ks s)
  or_fits Lost t ks s goes i c w = searches t ks s i.2.0.0 (i.0, i.1, i.2.1) (i.2.0.1, reading_want ks s.frames k i.2.0.1 w)
  or_fits Normal t ks s goes i c w = normal m k ks s (i.0, i.1, i.2.1) w
  or_fits (Faults f) t ks s goes i c w = faulted m k f ks s (i.0, i.1, i.2.1)
  or_fits completion t ks s goes i c w = unwinds m k completion ks s (i.0, i.1, i.2.1) c w

  -- over a stack that rests
  passes_by : (completion : Completion) (ks : List StackEntry) (s : State) → IsIn m k ks s → Carries m completion → Rests ks → Fits m k (config (Unwind completion) ks s)
  passes_by completion ks s i c r = unwinds m k completion ks s i c (rests_follow completion ks s.frames k r)

  not_found_fits : (word : FindWord) (b : ℕ) (ks : List StackEntry) (s : State) → IsIn m k ks s → Rests ks → Fits m k (not_found_step word b ks s)
  not_found_fits find.Next b ks s i r = passes_by (EndKeys nothing_passed) ks s i tt r
  not_found_fits find.Previous b ks s i r = passes_by (EndKeys nothing_passed) ks s i tt r
  not_found_fits word b ks s i r = faulted m k (Some (NoRecordFound b)) ks s i

  found_fits : (completion : Completion) (word : FindWord) (b : ℕ) (ks : List StackEntry) (s : State) → IsIn m k ks s → Carries m completion → Rests ks → Fits m k (found_step completion word b ks s)
  found_fits (Found at) word b ks s i c r = done m k ks s i r
  found_fits NotFound word b ks s i c r = not_found_fits word b ks s i r
  found_fits completion word b ks s i c r = passes_by completion ks s i c r

  before_fits : (completion : Completion) (olds : List Content) (bs : List ℕ) (ks : List StackEntry) (s : State) → IsIn m k ks s → Carries m completion → Rests ks → Fits m k (before_step completion olds bs ks s)
  before_fits (Faults f) olds bs ks s i c r = faulted m k f ks (contents_back olds bs s) (to m k ks s (contents_back olds bs s) (backs_keep olds bs s) i)
  before_fits completion olds bs ks s i c r = passes_by completion ks s i c r

  errs_fits : (completion : Completion) (b : Header) (o : Iteration) (ks : List StackEntry) (s : State) → class completion ≡ 0 → IsIn m k ks s → IsCopyOf m o.copy → Rests ks → Fits m k (config (Unwind completion) (ThenDo (ErrorComes b o nothing_passed) ∷ ks) s)
  errs_fits (Stops end) b o ks s c i x r = tt
  errs_fits completion b o ks s c i x r = (i, x, tt, r, plain_carries m completion c)

  closing_fits : (completion : Completion) (p : Program) (b : Header) (o : Iteration) (out : Completion) (ks : List StackEntry) (s : State) → IsOver out → IsIn m k ks s → IsCopyOf m o.copy → Carries m completion → Rests ks → Fits m k (closing_step completion p b o out ks s)
  closing_fits Normal p b o out ks s over i x c r = passes_by (after_iteration b o out) ks s i (none_carries m (after_iteration b o out) (over_none (after_iteration b o out) (after_over b o out over))) r
  closing_fits (Faults f) p b o out ks s over i x c r =
      errs_fits (complained p f s).completion b o ks (complained p f s).state (complained_class p f s) (to m k ks s (complained p f s).state (complained_keeps p f s) i) x r
  closing_fits completion p b o out ks s over i x c r = passes_by completion ks s i c r

  quiet_fits : (completion : Completion) (quiet : Bool) (ks : List StackEntry) (s : State) → IsIn m k ks s → Carries m completion → Rests ks → Fits m k (quiet_step completion quiet ks s)
  quiet_fits (EndKeys q) true ks s i c r = faulted m k None ks s i
  quiet_fits (EndKeys q) false ks s i c r = passes_by (EndKeys q) ks s i c r
  quiet_fits completion quiet ks s i c r = passes_by completion ks s i c r

  handled_fits : (completion : Completion) (p : Program) (quiet : Bool) (ks : List StackEntry) (s : State) → IsIn m k ks s → Carries m completion → Rests ks → Fits m k (handled_step completion p quiet ks s)
  handled_fits (Faults f) p false ks s i c r =
      let x = complained p f s in
      let j = to m k ks s x.state (complained_keeps p f s) i in
      unwinds m k x.completion (ThenDo (Completes (Raises nothing_passed)) ∷ ks) x.state (j.0, j.1, (tt, j.2)) (plain_carries m x.completion (complained_class p f s)) (rests_follow x.completion (ThenDo (Completes (Raises nothing_passed)) ∷ ks) x.state.frames k (tt, r))
  handled_fits (Faults f) p true ks s i c r = done m k ks _ i r
  handled_fits completion p quiet ks s i c r = passes_by completion ks s i c r

  ends_in : (completion : Completion) (b : Header) (o : Iteration) (ks : List StackEntry) (s : State) → IsNoStop completion → IsIn m k ks s → IsCopyOf m o.copy → Carries m completion → Rests ks → ModeFits m k (Execute (EndsWith b o completion)) ks s
  ends_in (Stops end) b o ks s goes i x c r = absurd goes
  ends_in completion b o ks s goes i x c r = (i, (x, c, r))

  unpended : (completion : Completion) (b : Header) (copy : Option Copy) (t : Turn) (buffer body d : ℕ) (retry : Bool) (ks : List StackEntry) (fs : List CallFrame) → WantAny (FetchedAs b copy t buffer body d retry ∷ ks) fs → IsUnpended copy fs
  unpended completion b None t buffer body d retry ks fs w = tt
  unpended completion b (Some copy) t buffer body d retry ks fs w = λ e. none_pending fs (w e)

  fetched_any : (completion : Completion) (b : Header) (copy : Option Copy) (t : Turn) (buffer body d : ℕ) (retry : Bool) (ks : List StackEntry) (fs : List CallFrame) → Want [] (FetchedAs b copy t buffer body d retry ∷ ks) fs k → WantAny (FetchedAs b copy t buffer body d retry ∷ ks) fs
  fetched_any completion b copy t buffer body d retry ks fs w = want_any (FetchedAs b copy t buffer body d retry ∷ ks) fs k w

  emptied_unpended : (copy : Option Copy) (buffer : ℕ) (s : State) → IsUnpended copy s.frames → IsUnpended copy (emptied buffer s).frames
  emptied_unpended None buffer s h = tt
  emptied_unpended (Some copy) buffer s h = λ e. emptied_keeps None_is buffer s (h e)

  leaves : (b : Header) (copy : Option Copy) (buffer : ℕ) (ks : List StackEntry) (s : State) → IsIn m k ks s → Rests ks → IsUnpended copy s.frames → Fits m k (config (Execute (LeavesIf copy b.scoped)) ks (emptied buffer s))
  leaves b copy buffer ks s i r h = (to m k ks s (emptied buffer s) (emptied_stays buffer s).keeps i, (r, emptied_unpended copy buffer s h))

  fetched_fits : (completion : Completion) (b : Header) (copy : Option Copy) (t : Turn) (buffer body d : ℕ) (retry : Bool) (ks : List StackEntry) (s : State) → IsIn m k ks s → IsCopyOf m copy → Rests ks → Follows completion (FetchedAs b copy t buffer body d retry ∷ ks) s.frames k → Fits m k (fetched_step completion b copy t buffer body d retry ks s)
  fetched_fits (Found at) b copy t buffer body d retry ks s i x r w = ((i.0, i.1, ((x, r), i.2)), tt)
  fetched_fits (Faults f) b copy t buffer body d retry ks s i x r w = ((i.0, i.1, (tt, i.2)), (x, (tt, r)))
  fetched_fits (Stops end) b copy t buffer body d retry ks s i x r w = tt
  fetched_fits Normal b copy t buffer body d retry ks s i x r w = leaves b copy buffer ks s i r (unpended Normal b copy t buffer body d retry ks s.frames (fetched_any Normal b copy t buffer body d retry ks s.frames w))
  fetched_fits completion b copy t buffer body d retry ks s i x r w = leaves b copy buffer ks s i r (unpended completion b copy t buffer body d retry ks s.frames w)

  again_fits : (completion : Completion) (n : ℕ) (b : Header) (outer : Bool) (body d : ℕ) (ks : List StackEntry) (s : State) → IsIn m k ks s → Carries m completion → Rests ks → Fits m k (again_step completion n b outer body d ks s)
  again_fits (Again t) n b outer body d ks s i c r = (i, r)
  again_fits completion n b outer body d ks s i c r = passes_by completion ks s i c r

  without_in : (ks : List StackEntry) (s : State) → IsIn m k ks s → IsIn m k ks (without_frame s)
  without_in ks s i = to m k ks s (without_frame s) (record { made = refl; claims = λ held h. without_keeps held s h }) i

  called_fits : (completion : Completion) (args : List Argument) (q : Procedure) (ks : List StackEntry) (s : State) → IsIn m k ks s → Carries m completion → Rests ks → Fits m k (called_step completion args q ks s)
  called_fits Normal args q ks s i c r = done m k ks _ (to m k ks (without_frame s) _ (copies_keep args q.parameters (own_frame s.frames) (without_frame s)) (without_in ks s i)) r
  called_fits (Returns false) args q ks s i c r = done m k ks _ (to m k ks (without_frame s) _ (copies_keep args q.parameters (own_frame s.frames) (without_frame s)) (without_in ks s i)) r
  called_fits (Returns true) args q ks s i c r = faulted m k None ks (without_frame s) (without_in ks s i)
  called_fits completion args q ks s i c r = passes_by completion ks s i c r

  -- ---- an entry

  stop_fits : (p : Program) (x : StackEntry) (end : ClientEnd) (ks : List StackEntry) (s : State) → Fits m k (pop_step p x (Stops end) ks s)
  stop_fits p (ThenDo t) end ks s = tt
  stop_fits p (OrDo t) end ks s = tt
  stop_fits p (FoundAs word b) end ks s = tt
  stop_fits p (AsBefore olds bs) end ks s = tt
  stop_fits p (AfterClosing b o out) end ks s = tt
  stop_fits p (Quiet quiet) end ks s = tt
  stop_fits p (Handles true) end ks s = tt
  stop_fits p (Handles false) end ks s = tt
  stop_fits p (In b o) end ks s = tt
  stop_fits p (FetchedAs b copy t buffer body d retry) end ks s = tt
  stop_fits p (AndAgain n b outer body d) end ks s = tt
  stop_fits p (Called args n) end ks s = tt

  pop_fits : (tree : ℕ → Body) (p : Program) (x : StackEntry) (completion : Completion) (ks : List StackEntry) (s : State) → IsNoStop completion → ((n : ℕ) × (f : ℕ) × Comes completion n f k × StackAt tree (x ∷ ks) n f × (class completion ≤ takes (x ∷ ks))) → ModeFits m k (Unwind completion) (x ∷ ks) s → Fits m k (pop_step p x completion ks s)
  pop_fits tree p (ThenDo t) completion ks s goes l a = then_fits completion t ks s a
  pop_fits tree p (OrDo t) completion ks s goes l a = (let x = parts completion (OrDo t) ks s goes tt a in or_fits completion t ks s goes x.0 x.1 x.2)
  pop_fits tree p (FoundAs word b) completion ks s goes l a = (let x = parts completion (FoundAs word b) ks s goes tt a in found_fits completion word b ks s (x.0.0, x.0.1, x.0.2.1) x.1 x.0.2.0)
  pop_fits tree p (AsBefore olds bs) completion ks s goes l a = (let x = parts completion (AsBefore olds bs) ks s goes tt a in before_fits completion olds bs ks s (x.0.0, x.0.1, x.0.2.1) x.1 x.0.2.0)
  pop_fits tree p (AfterClosing b o out) completion ks s goes l a =
      (let x = parts completion (AfterClosing b o out) ks s goes tt a in closing_fits completion p b o out ks s l.3.3 (x.0.0, x.0.1, x.0.2.1) x.0.2.0.0 x.1 x.0.2.0.1)
  pop_fits tree p (Quiet quiet) completion ks s goes l a = (let x = parts completion (Quiet quiet) ks s goes tt a in quiet_fits completion quiet ks s (x.0.0, x.0.1, x.0.2.1) x.1 x.0.2.0)
  pop_fits tree p (Handles quiet) completion ks s goes l a = (let x = parts completion (Handles quiet) ks s goes tt a in handled_fits completion p quiet ks s (x.0.0, x.0.1, x.0.2.1) x.1 x.0.2.0)
  pop_fits tree p (In b o) completion ks s goes l a = (let x = parts completion (In b o) ks s goes tt a in ends_in completion b o ks s goes (x.0.0, x.0.1, x.0.2.1) x.0.2.0.0 x.1 x.0.2.0.1)
  pop_fits tree p (FetchedAs b copy t buffer body d retry) completion ks s goes l a =
      (let x = parts completion (FetchedAs b copy t buffer body d retry) ks s goes tt a in fetched_fits completion b copy t buffer body d retry ks s (x.0.0, x.0.1, x.0.2.1) x.0.2.0.0 x.0.2.0.1 x.2)
  pop_fits tree p (AndAgain n b outer body d) completion ks s goes l a = (let x = parts completion (AndAgain n b outer body d) ks s goes tt a in again_fits completion n b outer body d ks s (x.0.0, x.0.1, x.0.2.1) x.1 x.0.2.0)
  pop_fits tree p (Called args n) completion ks s goes l a = (let x = parts completion (Called args n) ks s goes tt a in called_fits completion args (procedure_at p n) ks s (x.0.0, x.0.1, x.0.2.1) x.1 x.0.2.0)

  pub over_fits : (tree : ℕ → Body) (p : Program) (ks : List StackEntry) (completion : Completion) (s : State) → ((n : ℕ) × (f : ℕ) × Comes completion n f k × StackAt tree ks n f × (class completion ≤ takes ks)) → ModeFits m k (Unwind completion) ks s → Fits m k (over_step p ks completion s)
  over_fits tree p [] completion s l a = a
  over_fits tree p (x ∷ ks) (Stops end) s l a = stop_fits p x end ks s
  over_fits tree p (x ∷ ks) completion s l a = pop_fits tree p x completion ks s tt l a
