-- What a step has written is a prefix of what the run has written when it asks next: every part only appends.
use Rattle.std.specs.Prelude.{◌≡◌, ℕ, List, [], ◌∷◌, Bool, length}
use Rattle.std.proofs.Common.{refl, ap, subst, ◌++◌, arith}
use Rattle.std.proofs.lemmas.List.{length-append}
use Rattle.database_protocol.specs.declared.answer.Answer.{Answer}
use Rattle.bound_tree.specs.Tree.{Body}
use Rattle.block_meaning.specs.Program.{Program, procedure_at}
use Rattle.block_meaning.specs.State.{State, Copy, Content, Completion, Normal, Faults, Outcome, Continuation, completes, update_then, and_then, Done, Suspended}
use Rattle.block_meaning.specs.Frames.{content_of, table_of, holding, all_emptied, put_back}
use Rattle.block_meaning.specs.Buffers.{own, all_places, leaves, left, updates_places}
use Rattle.block_meaning.specs.Reads.{found, found_completion}
use Rattle.block_meaning.specs.Changes.{settles, begun, as_before, was_deleted}
use Rattle.block_meaning.specs.Blocks.{after_back, after_closing, ends_with, ends, fetched, turns, and_again, if_again, fetched_completion}
use Rattle.block_meaning.specs.Streams.{line_now}
use Rattle.block_meaning.specs.Meaning.{context_at, meaning_all, handled, returned, finished, ends_in, end_of, handled_completion, returned_completion}
use Rattle.block_meaning.specs.declared.wants.Piece.{Piece}
use Rattle.database_protocol.specs.declared.ends.ClientEnd.{ClientEnd}
use Rattle.block_meaning.specs.GivesUp.{Begins as LeadsTo, IsAsked}
use Rattle.block_meaning.proofs.Continues.{after_part, continues_goes, Keeps, continues_asks, continues_handled, continues_then, After, Fits, Continues, continues_first}
use Rattle.block_meaning.proofs.Parts.{all_emptied_keeps, then_ran, enters_in_continues, enters_places_continues, drops_continues, releases_all_continues, leaves_continues, updates_continues, updates_places_continues, takes_as_continues, takes_again_continues, looks_for_second_continues, is_only_continues, or_again_continues, takes_continues, looks_continues, searches_continues, fetches_from_continues, fetches_continues, finds_as_continues, found_completion_continues, finds_continues, finds_current_continues}
use Rattle.block_meaning.proofs.Part_changes.{assigns_one_continues, assigns_each_continues, locks_content_continues, locks_all_continues, settles_continues, assigns_continues, creates_continues, was_deleted_continues, deletes_continues}
use Rattle.block_meaning.proofs.Whole.{goes_back_continues, closes_continues, acts_continues, passes_continues, undo_comes_continues, error_comes_continues, endkey_to_continues, leaves_if_continues, enters_rest_continues, closing_continues, after_closing_handles, after_closing_completion_continues, ends_with_continues, fetched_completion_continues, begins_continues, enters_level_continues, iteration_continues, if_again_continues, turns_continues, block_continues, imports_line_continues, handled_completion_continues, quiet_find_continues, meaning_all_continues, returned_completion_continues, calls_go_on, after_closing_completion}
use Rattle.flat_machine.specs.Config.{Acts, AfterClosing, AndAgain, AsBefore, Await, Assigns, AssignsEach, AssignsOne, Begins, Begun, Blocks, Called, Calls, Closes, Closing, AfterBack, Creates, Deletes, DeletesRow, Execute, RunsFrom, Drops, Empties, EndKeyComes, EndsWith, Enters, EntersLevel, EntersOne, EntersRest, ErrorComes, FetchedAs, Fetches, FetchesFrom, Finds, FindsAs, FindsCurrent, FoundAs, GoesBack, Handles, Imports, In, IsOnly, Iterates, LeavesIf, LeavesNow, LocksAll, LocksOne, Looks, OrDo, Unwind, Passes, Quiet, Releases, Completes, Searches, Seconds, SettlesAll, SettlesOne, Takes, TakesAgain, TakesAs, ThenDo, Turns, UndoComes, Updates, UpdatesOne, Task, StackEntry, Mode, Config}
use Rattle.flat_machine.specs.Means.{task_means, after_entry, after_stack, mode_means, means, contents_back, contents_back_on_fault, or_contents_back, settles_back, less, first_of}
use Rattle.flat_machine.specs.Works.{IsRunning}
use Rattle.database_protocol.specs.declared.operation.Op.TheVariants as op

-- ---- contents that are restored

contents_back_keeps : (cs : List Content) (bs : List ℕ) (s : State) → Keeps (contents_back cs bs) s
contents_back_keeps cs [] s = record { units = refl; written = refl }
contents_back_keeps cs (b ∷ bs) s =
    let x = contents_back_keeps (less cs) bs (holding b (as_before (first_of cs) (content_of b s)) s) in
    record { units = x.units; written = x.written }

contents_back_on_fault_continues : (cs : List Content) (bs : List ℕ) (completion : Completion) → Continues (contents_back_on_fault completion cs bs)
contents_back_on_fault_continues cs bs (Faults c) s ans more = then_ran (contents_back cs bs) (Faults c) (contents_back_keeps cs bs) s ans more
contents_back_on_fault_continues cs bs completion s ans more = continues_goes completion s ans more

or_contents_continues : (cs : List Content) (bs : List ℕ) (go : Continuation) → Continues go → (s : State) (ans more : List Answer) → Fits s ans (or_contents_back cs bs (go s ans)) (or_contents_back cs bs (go s (ans ++ more))) more
or_contents_continues cs bs go x = continues_handled go (or_contents_back cs bs) (λ completion. contents_back_on_fault completion cs bs) (record { completes = λ completion s ans. refl; stands = λ d. refl }) x (contents_back_on_fault_continues cs bs)

settles_back_continues : (p : Program) (cs : List Content) (bs : List ℕ) → Continues (settles_back p cs bs)
settles_back_continues p cs [] = continues_goes Normal
settles_back_continues p cs (b ∷ bs) = continues_then (λ s ans. or_contents_back cs (b ∷ bs) (settles p b s ans)) (settles_back p (less cs) bs) (or_contents_continues cs (b ∷ bs) (settles p b) (settles_continues p b)) (settles_back_continues p (less cs) bs)

-- ---- after Back

after_back_continues : (copy : Copy) (but : List ℕ) → Continues (after_back copy but)
after_back_continues copy but s ans more =
    continues_first (put_back copy)
    (λ t ans. and_then (and_then (updates_places copy.made but (all_places (put_back copy s)) t ans) (leaves but)) (update_then (all_emptied but) (completes Normal)))
    (λ s. record { units = refl; written = refl })
    (continues_then (λ t ans. and_then (updates_places copy.made but (all_places (put_back copy s)) t ans) (leaves but)) (update_then (all_emptied but) (completes Normal))
    (continues_then (updates_places copy.made but (all_places (put_back copy s))) (leaves but) (updates_places_continues copy.made but (all_places (put_back copy s))) (leaves_continues but))
    (then_ran (all_emptied but) Normal (all_emptied_keeps but))) s ans more

-- ---- tasks

module _ (tree : ℕ → Body) (p : Program) where
  all_continues : (k d : ℕ) (retry : Bool) → Continues (meaning_all (tree k) (context_at p d retry))
  all_continues k d retry = meaning_all_continues (tree k) (context_at p d retry) (calls_go_on p d)

  task_continues : (t : Task) → Continues (task_means tree p t)
  task_continues (EntersOne place) = enters_in_continues p place
  task_continues (Enters places) = enters_places_continues p places
  task_continues (Drops b) = drops_continues b
  task_continues (Releases bs) = releases_all_continues p bs
  task_continues (EntersRest copy) = enters_rest_continues p copy
  task_continues (LeavesIf copy but) = leaves_if_continues copy but
  task_continues (LeavesNow but) = leaves_continues but
  task_continues (Closing b o) = closing_continues p b o
  task_continues (GoesBack copy but) = goes_back_continues copy but
  task_continues (UpdatesOne mark place) = updates_continues mark place
  task_continues (Updates mark but places) = updates_places_continues mark but places
  task_continues (AfterBack copy but) = after_back_continues copy but
  task_continues (Acts b o act retry) = acts_continues p b o act retry
  task_continues (IsOnly k c values) = is_only_continues p k.only k c values
  task_continues (Seconds n k c values from) = looks_for_second_continues p n k c values from
  task_continues (TakesAs r wait retry row) = takes_as_continues p r.lock r wait retry row
  task_continues (TakesAgain r retry row) = takes_again_continues p r.lock r retry row
  task_continues (Takes k c values) = takes_continues p k c values
  task_continues (Looks n k from) = looks_continues p n k from
  task_continues (Searches r forward only wait retry from) = searches_continues p r forward only wait retry from
  task_continues (FetchesFrom again f retry own) = fetches_from_continues p again f retry own
  task_continues (Fetches f t retry) = fetches_continues p f t retry
  task_continues (FindsAs word r wait retry) = finds_as_continues p word r wait retry
  task_continues (Finds word r wait retry) = finds_continues p word r wait retry
  task_continues (FindsCurrent r wait) = finds_current_continues r wait
  task_continues (AssignsOne t x retry) = assigns_one_continues p t x retry
  task_continues (AssignsEach xs retry) = assigns_each_continues p xs retry
  task_continues (LocksOne b) = λ s ans more. locks_content_continues (content_of b s) (table_of b s) b s ans more
  task_continues (LocksAll bs) = locks_all_continues bs
  task_continues (SettlesOne b) = settles_continues p b
  task_continues (SettlesAll olds bs) = settles_back_continues p olds bs
  task_continues (Assigns xs retry) = assigns_continues p xs retry
  task_continues (Creates b) = creates_continues p b
  task_continues (Deletes b) = deletes_continues b
  task_continues (DeletesRow b t row) = continues_asks (op.Delete t row) (was_deleted b) (was_deleted_continues b)
  task_continues (Begun b) = then_ran (begun p b) Normal (λ s. record { units = refl; written = refl })
  task_continues (Completes completion) = continues_goes completion
  task_continues (Empties but) = then_ran (all_emptied but) Normal (all_emptied_keeps but)
  task_continues (Closes b o completion) = closes_continues p b o completion
  task_continues (Passes b ended_way left_way) = passes_continues p b ended_way left_way
  task_continues (UndoComes b o target act retry passed) = undo_comes_continues p b o target act retry passed
  task_continues (ErrorComes b o passed) = error_comes_continues p b o passed
  task_continues (EndKeyComes b o passed) = endkey_to_continues p b o b.on_endkey passed
  task_continues (EndsWith b o completion) = ends_with_continues p b o completion
  task_continues (RunsFrom k d retry) = all_continues k d retry
  task_continues (Begins b copy t retry k d) = begins_continues b.fetch p b copy t retry (meaning_all (tree k) (context_at p d retry)) (all_continues k d retry)
  task_continues (EntersLevel b t retry k d) = enters_level_continues p b t retry (meaning_all (tree k) (context_at p d retry)) (all_continues k d retry)
  task_continues (Turns n b outer k d t) = turns_continues n p b outer (λ retry. meaning_all (tree k) (context_at p d retry)) (all_continues k d) t
  task_continues (Iterates b outer k d t) = iteration_continues p b outer (λ retry. meaning_all (tree k) (context_at p d retry)) (all_continues k d) t
  task_continues (Blocks b outer k d) = block_continues p b outer (λ retry. meaning_all (tree k) (context_at p d retry)) (all_continues k d)
  task_continues (Imports n ts retry) = λ s ans more. imports_line_continues p n ts retry (line_now p n ts s) s ans more
  task_continues (Calls d n args vs) = calls_go_on p d n args vs

  -- ---- the stack

  open_continues : (k : StackEntry) (go : Continuation) → Continues go → Continues (λ s ans. after_entry tree p k (go s ans))
  open_continues (ThenDo t) go x = continues_then go (task_means tree p t) x (task_continues t)
  open_continues (OrDo t) go x = or_again_continues go (task_means tree p t) x (task_continues t)
  open_continues (FoundAs word b) go x = continues_handled go (found word b) (found_completion word b) (record { completes = λ completion s ans. refl; stands = λ d. refl }) x (found_completion_continues word b)
  open_continues (AsBefore olds bs) go x = or_contents_continues olds bs go x
  open_continues (AfterClosing b o completion) go x = continues_handled go (after_closing p b o completion) (after_closing_completion p b o completion) (after_closing_handles p b o completion) x (after_closing_completion_continues p b o completion)
  open_continues (Quiet quiet) go x = quiet_find_continues quiet go x
  open_continues (Handles quiet) go x = continues_handled go (handled p quiet) (handled_completion p quiet) (record { completes = λ completion s ans. refl; stands = λ d. refl }) x (handled_completion_continues p quiet)
  open_continues (In b o) go x = continues_handled go (ends p b o) (ends_with p b o) (record { completes = λ completion s ans. refl; stands = λ d. refl }) x (ends_with_continues p b o)
  open_continues (FetchedAs b copy t buffer k d retry) go x =
      continues_handled go (fetched p b copy t buffer (meaning_all (tree k) (context_at p d retry))) (fetched_completion p b copy t buffer (meaning_all (tree k) (context_at p d retry))) (record { completes = λ completion s ans. refl; stands = λ d. refl }) x
      (fetched_completion_continues p b copy t buffer (meaning_all (tree k) (context_at p d retry)) (all_continues k d retry))
  open_continues (AndAgain n b outer k d) go x =
      continues_handled go (λ r. and_again r (turns n p b outer (λ retry. meaning_all (tree k) (context_at p d retry)))) (λ completion. if_again completion (turns n p b outer (λ retry. meaning_all (tree k) (context_at p d retry)))) (record { completes = λ completion s ans. refl; stands = λ d. refl }) x
      (if_again_continues (turns n p b outer (λ retry. meaning_all (tree k) (context_at p d retry))) (turns_continues n p b outer (λ retry. meaning_all (tree k) (context_at p d retry)) (all_continues k d)))
  open_continues (Called args n) go x = continues_handled go (returned args (procedure_at p n)) (returned_completion args (procedure_at p n)) (record { completes = λ completion s ans. refl; stands = λ d. refl }) x (returned_completion_continues args (procedure_at p n))

  opens_go_on : (ks : List StackEntry) (go : Continuation) → Continues go → Continues (λ s ans. after_stack tree p ks (go s ans))
  opens_go_on [] go x = x
  opens_go_on (k ∷ ks) go x = opens_go_on ks (λ s ans. after_entry tree p k (go s ans)) (open_continues k go x)

  -- ---- the machine

  mode_continues : (m : Mode) → IsRunning m → Continues (mode_means tree p m)
  mode_continues (Execute t) work = task_continues t
  mode_continues (Unwind completion) work = continues_goes completion
  mode_continues (Await o k) work = absurd work

  ends_written : (e : ClientEnd) (s : State) (ans : List Answer) → s.written ≡ (ends_in e s ans).written
  ends_written e s [] = refl
  ends_written e s (a ∷ ans) = refl

  finished_after : (written : List Piece) (r : Outcome) → After written r → LeadsTo written (finished r).written
  finished_after written (Done completion s ans) x = subst (LeadsTo written) (ends_written (end_of completion s) s ans) x
  finished_after written (Suspended d) x = x

  pub written_continues : (c : Config) → IsRunning c.mode → (ans : List Answer) → LeadsTo c.state.written (finished (means tree p c ans)).written
  written_continues c work ans =
      finished_after c.state.written (means tree p c ans) (after_part (λ s ans. after_stack tree p c.stack (mode_means tree p c.mode s ans)) (opens_go_on c.stack (mode_means tree p c.mode) (mode_continues c.mode work)) c.state ans)

  asked_by : (s : State) (r again : Outcome) → Fits s [] r again [] → IsAsked (finished r).wants
  asked_by s (Done completion t []) again x = tt
  asked_by s (Done completion t (a ∷ left)) again x = absurd (let e = ap length x.is in let f = length-append x.used (a ∷ left) in omega (arith, e, f))
  asked_by s (Suspended d) again x = x.asked

  pub something_is_asked : (c : Config) → IsRunning c.mode → IsAsked (finished (means tree p c [])).wants
  something_is_asked c work =
      asked_by c.state (means tree p c []) (means tree p c ([] ++ [])) (opens_go_on c.stack (mode_means tree p c.mode) (mode_continues c.mode work) c.state [] [])
