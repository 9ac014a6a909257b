-- The reading of a FOR, and how the statements on records begin.
use Rattle.std.proofs.Common.{◌≡◌, ℕ, List, ◌∷◌, Bool, Option, Some, None, refl, ap, ◌∙◌}
use Rattle.database_protocol.specs.declared.answer.Answer.{Answer}
use Rattle.bound_tree.specs.Tree.{Body, Header, Fetch}
use Rattle.block_meaning.specs.Program.{Program}
use Rattle.block_meaning.specs.State.{State, Copy, Turn, Continuation, Completion, Normal, Again, Leaves, Nexts, Undoes, Faults, Raises, EndKeys, Returns, Stops, Found, Lost, NotFound, Outcome, Done, Suspended}
use Rattle.block_meaning.specs.Reads.{fetches}
use Rattle.block_meaning.specs.Meaning.{cleared}
use Rattle.block_meaning.specs.Blocks.{begins_as, fetched, fetched_completion}
use Rattle.flat_machine.specs.Flat as flat
use Rattle.flat_machine.specs.Flat.{means, config, after_stack}
use Rattle.block_code.specs.declared.code.Instr.{Instr}
use Rattle.client_machine.specs.declared.mode.StackEntry.{StackEntry}
use Rattle.client_machine.specs.declared.statements.RecordStmt.{RecordStmt}
use Rattle.client_machine.specs.declared.statements.RecordStmt.TheVariants as record_stmt
use Rattle.client_machine.specs.Config.{turn_read, task_of, stack_of, instr_at}
use Rattle.client_machine.specs.Records.{stmt_of_kind, record_task_of, entries_of_stmt}
use Rattle.client_machine.specs.Order.{Nesting, InOrder, TaskInOrder}

-- ---- a FOR

-- what follows the reading does not read the place in the data of the iteration
fetched_by : (w : Completion) (p : Program) (b : Header) (copy : Option Copy) (t : Turn) (buffer : ℕ) (body : Continuation) (s : State) (ans : List Answer) →
    fetched_completion p b copy t buffer body w s ans ≡ fetched_completion p b copy (record t { own = None }) buffer body w s ans
fetched_by Normal p b copy t buffer body s ans = refl
fetched_by (Again x) p b copy t buffer body s ans = refl
fetched_by (Leaves l) p b copy t buffer body s ans = refl
fetched_by (Nexts l) p b copy t buffer body s ans = refl
fetched_by (Undoes l a r x) p b copy t buffer body s ans = refl
fetched_by (Faults c) p b copy t buffer body s ans = refl
fetched_by (Raises x) p b copy t buffer body s ans = refl
fetched_by (EndKeys x) p b copy t buffer body s ans = refl
fetched_by (Found c) p b copy t buffer body s ans = refl
fetched_by Lost p b copy t buffer body s ans = refl
fetched_by NotFound p b copy t buffer body s ans = refl
fetched_by (Returns e) p b copy t buffer body s ans = refl
fetched_by (Stops e) p b copy t buffer body s ans = refl

fetched_same : (r : Outcome) (p : Program) (b : Header) (copy : Option Copy) (t : Turn) (buffer : ℕ) (body : Continuation) → fetched p b copy t buffer body r ≡ fetched p b copy (record t { own = None }) buffer body r
fetched_same (Done w s ans) p b copy t buffer body = fetched_by w p b copy t buffer body s ans
fetched_same (Suspended d) p b copy t buffer body = refl

pub fetch_begins : (tree : ℕ → Body) (p : Program) (b : Header) (f : Fetch) (copy : Option Copy) (t : Turn) (retry : Bool) (body d : ℕ) (ks : List flat.StackEntry) (s : State) (ans : List Answer) → b.fetch ≡ Some f →
    means tree p (config (flat.Execute (flat.Begins b copy t retry body d)) ks s) ans
    ≡ means tree p (config (flat.Execute (flat.Fetches f (turn_read t.retry t.own) retry)) (flat.FetchedAs b copy (record t { own = None }) f.reading.buffer body d retry ∷ ks) s) ans
fetch_begins tree p b f copy t retry body d ks s ans e =
    let run : Continuation = flat.task_means tree p (flat.RunsFrom body d retry) in
    ap (λ x. after_stack tree p ks (begins_as x p b copy t retry run s ans)) e
    ∙ ap (after_stack tree p ks) (fetched_same (fetches p f t retry s ans) p b copy t f.reading.buffer run)

-- ---- a statement on records

-- its first step
pub record_begins : (stmt : RecordStmt) (code : List Instr) (cs : List Copy) (p : Program) (place : ℕ) (quiet : Bool) (next d : ℕ) (retry : Bool) (ks : List StackEntry) (s : State) →
    flat.stmt_step p (stmt_of_kind stmt quiet (instr_at code place)) d retry (flat.ThenDo (flat.RunsFrom next d retry) ∷ stack_of code cs ks) s
    ≡ config (flat.Execute (task_of code cs (record_task_of stmt place retry))) (stack_of code cs (entries_of_stmt stmt quiet next d retry ks)) (cleared quiet s)
record_begins record_stmt.Find code cs p place quiet next d retry ks s = refl
record_begins record_stmt.FindCurrent code cs p place quiet next d retry ks s = refl
record_begins (record_stmt.Create b) code cs p place quiet next d retry ks s = refl
record_begins (record_stmt.Delete b) code cs p place quiet next d retry ks s = refl
record_begins (record_stmt.Release b) code cs p place quiet next d retry ks s = refl
record_begins record_stmt.Assign code cs p place quiet next d retry ks s = refl

pub record_order : (stmt : RecordStmt) (n : Nesting) (place : ℕ) (quiet : Bool) (next d : ℕ) (retry : Bool) (ks : List StackEntry) → InOrder n ks → TaskInOrder n (record_task_of stmt place retry) (entries_of_stmt stmt quiet next d retry ks)
record_order record_stmt.Find n place quiet next d retry ks o = (tt, (tt, o))
record_order record_stmt.FindCurrent n place quiet next d retry ks o = (tt, (tt, o))
record_order (record_stmt.Create b) n place quiet next d retry ks o = (tt, (tt, o))
record_order (record_stmt.Delete b) n place quiet next d retry ks o = (tt, (tt, o))
record_order (record_stmt.Release b) n place quiet next d retry ks o = (tt, (tt, (tt, o)))
record_order record_stmt.Assign n place quiet next d retry ks o = (tt, (tt, o))
