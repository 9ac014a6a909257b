-- What remains of a run from a configuration, as a function of the answers.
use Rattle.std.specs.Prelude.{ℕ, List, [], ◌∷◌, Some, map}
use Rattle.database_protocol.specs.declared.answer.Answer.{Answer}
use Rattle.bound_tree.specs.Tree.{Body}
use Rattle.block_meaning.specs.Program.{Program, procedure_at}
use Rattle.block_meaning.specs.State.{State, Content, Empty, Completion, Normal, Faults, Outcome, Continuation, completes, update_then, asks, awaits, and_then, Done, Suspended}
use Rattle.block_meaning.specs.Frames.{content_of, table_of, holding, all_emptied, copy_of}
use Rattle.block_meaning.specs.Buffers.{own, was_inserted, enters_in, enters_places, drops, was_dropped, releases_all, was_left, leaves, was_got, updates, updates_places}
use Rattle.block_meaning.specs.Reads.{takes_as, takes_again_as, is_only, looks_for_second, takes, looks, searches, fetches_from, fetches, finds_as, finds, found, finds_current, or_again, was_second, was_next, was_granted, was_read, current_granted, was_current}
use Rattle.block_meaning.specs.Changes.{assigns_one, assigns_each, locks_content, locks_all, settles, assigns, creates, deletes, begun, as_before, was_counted, was_upgraded, was_put, was_deleted}
use Rattle.block_meaning.specs.Blocks.{after_back, goes_back, leaves_if, enters_rest, closing, after_closing, closes, passes, acts, undo_comes, error_comes, endkey_to, ends_with, ends, fetched, begins, enters_level, deeper, iteration, turns, and_again, block}
use Rattle.block_meaning.specs.Streams.{imports}
use Rattle.block_meaning.specs.Meaning.{context_at, meaning_all, calls_of, quiet_result, handled, returned}
use Rattle.flat_machine.specs.Config.{Task, StackEntry, OnAnswer, Mode, Config, EntersOne, Enters, Drops, Releases, EntersRest, LeavesIf, LeavesNow, Closing, GoesBack, UpdatesOne, Updates, AfterBack, Acts, IsOnly, Seconds, TakesAs, TakesAgain, Takes, Looks, Searches, FetchesFrom, Fetches, FindsAs, Finds, FindsCurrent, AssignsOne, AssignsEach, LocksOne, LocksAll, SettlesOne, SettlesAll, Assigns, Creates, Deletes, DeletesRow, Begun, Completes, Empties, Closes, Passes, UndoComes, ErrorComes, EndKeyComes, EndsWith, RunsFrom, Begins, EntersLevel, Turns, Iterates, Blocks, Imports, Calls, ThenDo, OrDo, FoundAs, AsBefore, AfterClosing, Quiet, Handles, In, FetchedAs, AndAgain, Called, WasInserted, WasDropped, WasLeft, WasBack, WasGot, WasSecond, WasNext, WasGranted, WasRead, CurrentGranted, WasCurrent, WasCounted, WasUpgraded, WasPut, WasDeleted, WasEntered, Execute, Unwind, Await}
use Rattle.database_protocol.specs.declared.operation.Op.TheVariants as op

-- ---- buffers restored after a fault, from their contents before the statement

-- the contents of buffers
abbrev pub contents_of : State → List ℕ → List Content
contents_of s bs = map (λ b. content_of b s) bs

-- all but the first
abbrev pub less : List Content → List Content
less [] = []
less (c ∷ cs) = cs

-- the first
abbrev pub first_of : List Content → Content
first_of [] = Empty
first_of (c ∷ cs) = c

-- restores several buffers
abbrev pub contents_back : List Content → List ℕ → State → State
contents_back cs [] s = s
contents_back cs (b ∷ bs) s = contents_back (less cs) bs (holding b (as_before (first_of cs) (content_of b s)) s)

-- the same where the completion is a fault
abbrev pub contents_back_on_fault : Completion → List Content → List ℕ → Continuation
contents_back_on_fault (Faults c) cs bs s ans = Done (Faults c) (contents_back cs bs s) ans
contents_back_on_fault completion cs bs s ans = Done completion s ans

-- the same for an outcome
abbrev pub or_contents_back : List Content → List ℕ → Outcome → Outcome
or_contents_back cs bs (Done completion s ans) = contents_back_on_fault completion cs bs s ans
or_contents_back cs bs (Suspended d) = Suspended d

-- each changed buffer is stored
abbrev pub settles_back : Program → List Content → List ℕ → Continuation
settles_back p cs [] s ans = Done Normal s ans
settles_back p cs (b ∷ bs) s ans = and_then (or_contents_back cs (b ∷ bs) (settles p b s ans)) (settles_back p (less cs) bs)

-- ---- meanings

-- where `tree` gives the body at each place
module _ (tree : ℕ → Body) where
  abbrev pub task_means : Program → Task → Continuation
  task_means p (EntersOne place) = enters_in p place
  task_means p (Enters places) = enters_places p places
  task_means p (Drops b) = drops b
  task_means p (Releases bs) = releases_all p bs
  task_means p (EntersRest copy) = enters_rest p copy
  task_means p (LeavesIf copy but) = leaves_if copy but
  task_means p (LeavesNow but) = leaves but
  task_means p (Closing b o) = closing p b o
  task_means p (GoesBack copy but) = goes_back copy but
  task_means p (UpdatesOne mark place) = updates mark place
  task_means p (Updates mark but places) = updates_places mark but places
  task_means p (AfterBack copy but) = after_back copy but
  task_means p (Acts b o act retry) = acts p b o act retry
  task_means p (IsOnly k c values) = is_only p k.only k c values
  task_means p (Seconds n k c values from) = looks_for_second p n k c values from
  task_means p (TakesAs r wait retry row) = takes_as p r.lock r wait retry row
  task_means p (TakesAgain r retry row) = takes_again_as p r.lock r retry row
  task_means p (Takes k c values) = takes p k c values
  task_means p (Looks n k from) = looks p n k from
  task_means p (Searches r forward only wait retry from) = searches p r forward only wait retry from
  task_means p (FetchesFrom again f retry own) = fetches_from p again f retry own
  task_means p (Fetches f t retry) = fetches p f t retry
  task_means p (FindsAs word r wait retry) = finds_as p word r wait retry
  task_means p (Finds word r wait retry) = finds p word r wait retry
  task_means p (FindsCurrent r wait) = finds_current r wait
  task_means p (AssignsOne t x retry) = assigns_one p t x retry
  task_means p (AssignsEach xs retry) = assigns_each p xs retry
  task_means p (LocksOne b) = λ s ans. locks_content (content_of b s) (table_of b s) b s ans
  task_means p (LocksAll bs) = locks_all bs
  task_means p (SettlesOne b) = settles p b
  task_means p (SettlesAll olds bs) = settles_back p olds bs
  task_means p (Assigns xs retry) = assigns p xs retry
  task_means p (Creates b) = creates p b
  task_means p (Deletes b) = deletes b
  task_means p (DeletesRow b t row) = asks (op.Delete t row) (was_deleted b)
  task_means p (Begun b) = update_then (begun p b) (completes Normal)
  task_means p (Completes completion) = completes completion
  task_means p (Empties but) = update_then (all_emptied but) (completes Normal)
  task_means p (Closes b o completion) = closes p b o completion
  task_means p (Passes b ended_way left_way) = passes p b ended_way left_way
  task_means p (UndoComes b o target act retry passed) = undo_comes p b o target act retry passed
  task_means p (ErrorComes b o passed) = error_comes p b o passed
  task_means p (EndKeyComes b o passed) = endkey_to p b o b.on_endkey passed
  task_means p (EndsWith b o completion) = ends_with p b o completion
  task_means p (RunsFrom body d retry) = meaning_all (tree body) (context_at p d retry)
  task_means p (Begins b copy t retry body d) = begins p b copy t retry (meaning_all (tree body) (context_at p d retry))
  task_means p (EntersLevel b t retry body d) = enters_level p b t retry (meaning_all (tree body) (context_at p d retry))
  task_means p (Turns n b outer body d t) = turns n p b outer (λ retry. meaning_all (tree body) (context_at p d retry)) t
  task_means p (Iterates b outer body d t) = iteration p b outer (λ retry. meaning_all (tree body) (context_at p d retry)) t
  task_means p (Blocks b outer body d) = block p b outer (λ retry. meaning_all (tree body) (context_at p d retry))
  task_means p (Imports n ts retry) = imports p n ts retry
  task_means p (Calls d n args vs) = calls_of p d n args vs

  abbrev pub after_entry : Program → StackEntry → Outcome → Outcome
  after_entry p (ThenDo t) r = and_then r (task_means p t)
  after_entry p (OrDo t) r = or_again r (task_means p t)
  after_entry p (FoundAs word b) r = found word b r
  after_entry p (AsBefore olds bs) r = or_contents_back olds bs r
  after_entry p (AfterClosing b o completion) r = after_closing p b o completion r
  after_entry p (Quiet quiet) r = quiet_result quiet r
  after_entry p (Handles quiet) r = handled p quiet r
  after_entry p (In b o) r = ends p b o r
  after_entry p (FetchedAs b copy t buffer body d retry) r = fetched p b copy t buffer (meaning_all (tree body) (context_at p d retry)) r
  after_entry p (AndAgain n b outer body d) r = and_again r (turns n p b outer (λ retry. meaning_all (tree body) (context_at p d retry)))
  after_entry p (Called args n) r = returned args (procedure_at p n) r

  abbrev pub after_stack : Program → List StackEntry → Outcome → Outcome
  after_stack p [] r = r
  after_stack p (k ∷ ks) r = after_stack p ks (after_entry p k r)

  abbrev pub answer_means : Program → OnAnswer → Answer → Continuation
  answer_means p (WasInserted place t vs made) a = was_inserted place t vs made a
  answer_means p WasDropped a = was_dropped a
  answer_means p WasLeft a = was_left a
  answer_means p (WasBack copy but) a = after_back copy but
  answer_means p (WasGot place row held made) a = was_got place row held made a
  answer_means p (WasSecond n k c values) a = was_second p k c values (looks_for_second p n k c values) a
  answer_means p (WasNext n k) a = was_next p k (λ c. looks p n k (Some c)) a
  answer_means p (WasGranted r retry row) a = was_granted p r retry row a
  answer_means p (WasRead r retry row held) a = was_read p r retry row held a
  answer_means p (CurrentGranted r row made) a = current_granted r row made a
  answer_means p (WasCurrent r row made) a = was_current r row made a
  answer_means p (WasCounted t) a = was_counted t a
  answer_means p (WasUpgraded b row values made) a = was_upgraded b row values made a
  answer_means p (WasPut b t) a = was_put b t a
  answer_means p (WasDeleted b) a = was_deleted b a
  answer_means p (WasEntered b t retry body d) a = λ s ans. begins p b (Some (copy_of s)) t retry (meaning_all (tree body) (context_at p d retry)) (deeper s) ans

  abbrev pub mode_means : Program → Mode → Continuation
  mode_means p (Execute t) = task_means p t
  mode_means p (Unwind completion) = completes completion
  mode_means p (Await op k) = awaits op (answer_means p k)

  -- the outcome of the rest of the run from a configuration
  abbrev pub means : Program → Config → List Answer → Outcome
  means p c ans = after_stack p c.stack (mode_means p c.mode c.state ans)
