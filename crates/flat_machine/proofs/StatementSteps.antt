-- The steps of statements keep the run.
use Rattle.std.proofs.Common.{◌≡◌, refl, sym, ap, ◌∙◌}
use Rattle.std.specs.Prelude.{ℕ, zero, suc, List, ◌∷◌, Bool, true, false, Some}
use Rattle.abl_base.specs.declared.value.Value.{Value}
use Rattle.database_protocol.specs.declared.answer.Answer.{Answer}
use Rattle.bound_tree.specs.Tree.{Expr, Stmt, Inner, Choose, Assign, Find, FindCurrent, Create, Remove, Release, UndoBlock, LeaveBlock, NextBlock, Return, ReturnError, Stop, Run, Import, Export, ExportRecord, PutItems, Message, OutputTo, OutputClose, InputFrom, InputClose, Body, Nothing, Then}
use Rattle.expression_meaning.specs.Operators.{holds}
use Rattle.block_meaning.specs.Program.{Program, procedure_at}
use Rattle.block_meaning.specs.State.{State, nothing_passed, Completed, Completion, Normal, Raises, Outcome, Done, Suspended, completes, if_else, and_then, costs_unit_of, if_normal}
use Rattle.block_meaning.specs.Frames.{content_of}
use Rattle.block_meaning.specs.Values.{Evaluated, Gives, Fails, value_now, EvaluatedAll, values_now, export_line, message_line, put_text, given_all}
use Rattle.block_meaning.specs.Blocks.{complained, block}
use Rattle.block_meaning.specs.Streams.{writes_to}
use Rattle.block_meaning.specs.Meaning.{Context, context_at, meaning, meaning_all, calls_of, handled, cleared, argument_values, chosen}
use Rattle.flat_machine.specs.Config.{Blocks, Calls, Execute, RunsFrom, Handles, StackEntry, Completes, ThenDo}
use Rattle.flat_machine.specs.Steps.{choose_step, config_if, ends_as, given_all_step, costing, wrote_to, stmt_step, instr_step, errs_step, config}
use Rattle.flat_machine.specs.Means.{after_stack, means}
use Rattle.flat_machine.specs.Code.{Instr, Ends, Opens, Tests, Plain, IsSimple, IsIf, before, DenotesAt}
use Rattle.flat_machine.proofs.PartSteps.{paid_means, given_all_means, export_means, text_means}

-- a statement that evaluates values, and writes
pub values_means : (tree : ℕ → Body) (p : Program) (v : EvaluatedAll) (n : ℕ) (text : List Value → List ℕ) (ks : List StackEntry) (s : State) (ans : List Answer) →
    after_stack tree p ks (given_all v (λ vs. writes_to n (text vs)) s ans) ≡ means tree p (given_all_step v (λ vs s. ends_as (wrote_to n (text vs) s) ks) ks s) ans
values_means tree p v n text ks s ans = given_all_means tree p v (λ vs. writes_to n (text vs)) (λ vs s. ends_as (wrote_to n (text vs) s) ks) ks s ans (λ vs s. refl)

-- a body followed by another one
pub before_means : (p : Program) (one rest : Body) (w : Context) (s : State) (ans : List Answer) → and_then (meaning_all one w s ans) (meaning_all rest w) ≡ meaning_all (before one rest) w s ans
before_means p Nothing rest w s ans = refl
before_means p (Then t one) rest w s ans = then_before (λ s ans. before_means p one rest w s ans) (meaning t w s ans)
  where
    after_before : ((s : State) (ans : List Answer) → and_then (meaning_all one w s ans) (meaning_all rest w) ≡ meaning_all (before one rest) w s ans) → (completion : Completion) (s : State) (ans : List Answer) → and_then (if_normal completion (meaning_all one w) s ans) (meaning_all rest w) ≡ if_normal completion (meaning_all (before one rest) w) s ans
    after_before next Normal s ans = next s ans
    after_before next completion s ans = refl

    then_before : ((s : State) (ans : List Answer) → and_then (meaning_all one w s ans) (meaning_all rest w) ≡ meaning_all (before one rest) w s ans) → (r : Outcome) → and_then (and_then r (meaning_all one w)) (meaning_all rest w) ≡ and_then r (meaning_all (before one rest) w)
    then_before next (Done completion s ans) = after_before next completion s ans
    then_before next (Suspended d) = refl

pub choose_means : (tree : ℕ → Body) (p : Program) (x : Evaluated) (test : Expr) (all : Body) (one other : ℕ) (is : IsIf test all (tree one) (tree other)) (d : ℕ) (retry : Bool) (ks : List StackEntry) (s : State) (ans : List Answer) →
    after_stack tree p ks (and_then (chosen p x (meaning_all is.then_it (context_at p d retry)) (meaning_all is.else_it (context_at p d retry)) s ans) (meaning_all is.rest (context_at p d retry))) ≡ means tree p (choose_step x p one other d retry ks s) ans
choose_means tree p (Gives v) test all one other is d retry ks s ans =
    chosen_as (holds v)
  where
    chosen_as : (b : Bool) → after_stack tree p ks (and_then (if_else b (meaning_all is.then_it (context_at p d retry)) (meaning_all is.else_it (context_at p d retry)) s ans) (meaning_all is.rest (context_at p d retry))) ≡ means tree p (config_if b (config (Execute (RunsFrom one d retry)) ks s) (config (Execute (RunsFrom other d retry)) ks s)) ans
    chosen_as true = ap (after_stack tree p ks) (before_means p is.then_it is.rest (context_at p d retry) s ans ∙ ap (λ b. meaning_all b (context_at p d retry) s ans) (sym is.first))
    chosen_as false = ap (after_stack tree p ks) (before_means p is.else_it is.rest (context_at p d retry) s ans ∙ ap (λ b. meaning_all b (context_at p d retry) s ans) (sym is.second))
choose_means tree p (Fails c) test all one other is d retry ks s ans = fails (complained p (Some c) s)
  where
    after_line : (completion : Completion) (s : State) → after_stack tree p ks (and_then (if_normal completion (completes (Raises nothing_passed)) s ans) (meaning_all is.rest (context_at p d retry))) ≡ after_stack tree p ks (if_normal completion (completes (Raises nothing_passed)) s ans)
    after_line Normal s = refl
    after_line completion s = refl

    fails : (x : Completed) → after_stack tree p ks (and_then (and_then (Done x.completion x.state ans) (completes (Raises nothing_passed))) (meaning_all is.rest (context_at p d retry))) ≡ means tree p (errs_step x (Completes (Raises nothing_passed)) ks) ans
    fails x = after_line x.completion x.state

-- a statement that is neither a block nor an IF, after its unit was charged
pub does_paid : (ℕ → Body) → Program → Stmt → ℕ → Bool → List StackEntry → List Answer → Type 0
does_paid tree p t d retry ks ans =
    (s : State) → after_stack tree p ks (meaning t (context_at p d retry) (record s { units = suc s.units }) ans) ≡ means tree p (stmt_step p t d retry ks s) ans

pub stmt_means : (tree : ℕ → Body) (p : Program) (t : Stmt) (d : ℕ) (retry : Bool) (ks : List StackEntry) (ans : List Answer) → IsSimple t → does_paid tree p t d retry ks ans
unfolding does_paid
stmt_means tree p (Inner b body) d retry ks ans plain s = absurd plain
stmt_means tree p (Choose test then_it else_it) d retry ks ans plain s = absurd plain
stmt_means tree p (Assign pairs quiet) d retry ks ans plain s = refl
stmt_means tree p (Find word reading wait quiet) d retry ks ans plain s = refl
stmt_means tree p (FindCurrent reading wait quiet) d retry ks ans plain s = refl
stmt_means tree p (Create b quiet) d retry ks ans plain s = refl
stmt_means tree p (Remove b quiet) d retry ks ans plain s = refl
stmt_means tree p (Release b quiet) d retry ks ans plain s = refl
stmt_means tree p (UndoBlock l act) d retry ks ans plain s = refl
stmt_means tree p (LeaveBlock l) d retry ks ans plain s = refl
stmt_means tree p (NextBlock l) d retry ks ans plain s = refl
stmt_means tree p (Return e) d retry ks ans plain s = refl
stmt_means tree p (ReturnError l e) d retry ks ans plain s = refl
stmt_means tree p Stop d retry ks ans plain s = refl
stmt_means tree p (Run n args quiet) d retry ks ans plain s = given_all_means tree p (argument_values p args (procedure_at p n).parameters retry (cleared quiet s)) (calls_of p d n args) (λ vs s. config (Execute (Calls d n args vs)) (Handles quiet ∷ ks) s) (Handles quiet ∷ ks) (cleared quiet s) ans (λ vs s. refl)
stmt_means tree p (Import n targets quiet) d retry ks ans plain s = refl
stmt_means tree p (Export n es) d retry ks ans plain s = values_means tree p (values_now p es retry s) n export_line (Handles false ∷ ks) s ans
stmt_means tree p (ExportRecord n b) d retry ks ans plain s = export_means tree p (content_of b s) n b (Handles false ∷ ks) s ans
stmt_means tree p (PutItems n items) d retry ks ans plain s = text_means tree p (put_text p items retry s) n (Handles false ∷ ks) s ans
stmt_means tree p (Message es) d retry ks ans plain s = values_means tree p (values_now p es retry s) 0 message_line (Handles false ∷ ks) s ans
stmt_means tree p (OutputTo n output appends) d retry ks ans plain s = refl
stmt_means tree p (OutputClose n) d retry ks ans plain s = refl
stmt_means tree p (InputFrom n input) d retry ks ans plain s = refl
stmt_means tree p (InputClose n) d retry ks ans plain s = refl

-- a statement with its unit
pub one_means : (tree : ℕ → Body) (p : Program) (t : Stmt) (d : ℕ) (retry : Bool) (ks : List StackEntry) (s : State) (ans : List Answer) → IsSimple t →
    after_stack tree p ks (meaning t (context_at p d retry) s ans) ≡ means tree p (costing s.units (λ s. stmt_step p t d retry ks s) ks s) ans
unfolding does_paid
one_means tree p (Inner b body) d retry ks s ans plain = absurd plain
one_means tree p (Choose test then_it else_it) d retry ks s ans plain = absurd plain
one_means tree p (Assign pairs quiet) d retry ks s ans plain = paid_means tree p s.units _ (λ s. stmt_step p (Assign pairs quiet) d retry ks s) ks s ans (stmt_means tree p (Assign pairs quiet) d retry ks ans plain)
one_means tree p (Find word reading wait quiet) d retry ks s ans plain = paid_means tree p s.units _ (λ s. stmt_step p (Find word reading wait quiet) d retry ks s) ks s ans (stmt_means tree p (Find word reading wait quiet) d retry ks ans plain)
one_means tree p (FindCurrent reading wait quiet) d retry ks s ans plain = paid_means tree p s.units _ (λ s. stmt_step p (FindCurrent reading wait quiet) d retry ks s) ks s ans (stmt_means tree p (FindCurrent reading wait quiet) d retry ks ans plain)
one_means tree p (Create b quiet) d retry ks s ans plain = paid_means tree p s.units _ (λ s. stmt_step p (Create b quiet) d retry ks s) ks s ans (stmt_means tree p (Create b quiet) d retry ks ans plain)
one_means tree p (Remove b quiet) d retry ks s ans plain = paid_means tree p s.units _ (λ s. stmt_step p (Remove b quiet) d retry ks s) ks s ans (stmt_means tree p (Remove b quiet) d retry ks ans plain)
one_means tree p (Release b quiet) d retry ks s ans plain = paid_means tree p s.units _ (λ s. stmt_step p (Release b quiet) d retry ks s) ks s ans (stmt_means tree p (Release b quiet) d retry ks ans plain)
one_means tree p (UndoBlock l act) d retry ks s ans plain = paid_means tree p s.units _ (λ s. stmt_step p (UndoBlock l act) d retry ks s) ks s ans (stmt_means tree p (UndoBlock l act) d retry ks ans plain)
one_means tree p (LeaveBlock l) d retry ks s ans plain = paid_means tree p s.units _ (λ s. stmt_step p (LeaveBlock l) d retry ks s) ks s ans (stmt_means tree p (LeaveBlock l) d retry ks ans plain)
one_means tree p (NextBlock l) d retry ks s ans plain = paid_means tree p s.units _ (λ s. stmt_step p (NextBlock l) d retry ks s) ks s ans (stmt_means tree p (NextBlock l) d retry ks ans plain)
one_means tree p (Return e) d retry ks s ans plain = paid_means tree p s.units _ (λ s. stmt_step p (Return e) d retry ks s) ks s ans (stmt_means tree p (Return e) d retry ks ans plain)
one_means tree p (ReturnError l e) d retry ks s ans plain = paid_means tree p s.units _ (λ s. stmt_step p (ReturnError l e) d retry ks s) ks s ans (stmt_means tree p (ReturnError l e) d retry ks ans plain)
one_means tree p Stop d retry ks s ans plain = paid_means tree p s.units _ (λ s. stmt_step p Stop d retry ks s) ks s ans (stmt_means tree p Stop d retry ks ans plain)
one_means tree p (Run n args quiet) d retry ks s ans plain = paid_means tree p s.units _ (λ s. stmt_step p (Run n args quiet) d retry ks s) ks s ans (stmt_means tree p (Run n args quiet) d retry ks ans plain)
one_means tree p (Import n targets quiet) d retry ks s ans plain = paid_means tree p s.units _ (λ s. stmt_step p (Import n targets quiet) d retry ks s) ks s ans (stmt_means tree p (Import n targets quiet) d retry ks ans plain)
one_means tree p (Export n es) d retry ks s ans plain = paid_means tree p s.units _ (λ s. stmt_step p (Export n es) d retry ks s) ks s ans (stmt_means tree p (Export n es) d retry ks ans plain)
one_means tree p (ExportRecord n b) d retry ks s ans plain = paid_means tree p s.units _ (λ s. stmt_step p (ExportRecord n b) d retry ks s) ks s ans (stmt_means tree p (ExportRecord n b) d retry ks ans plain)
one_means tree p (PutItems n items) d retry ks s ans plain = paid_means tree p s.units _ (λ s. stmt_step p (PutItems n items) d retry ks s) ks s ans (stmt_means tree p (PutItems n items) d retry ks ans plain)
one_means tree p (Message es) d retry ks s ans plain = paid_means tree p s.units _ (λ s. stmt_step p (Message es) d retry ks s) ks s ans (stmt_means tree p (Message es) d retry ks ans plain)
one_means tree p (OutputTo n output appends) d retry ks s ans plain = paid_means tree p s.units _ (λ s. stmt_step p (OutputTo n output appends) d retry ks s) ks s ans (stmt_means tree p (OutputTo n output appends) d retry ks ans plain)
one_means tree p (OutputClose n) d retry ks s ans plain = paid_means tree p s.units _ (λ s. stmt_step p (OutputClose n) d retry ks s) ks s ans (stmt_means tree p (OutputClose n) d retry ks ans plain)
one_means tree p (InputFrom n input) d retry ks s ans plain = paid_means tree p s.units _ (λ s. stmt_step p (InputFrom n input) d retry ks s) ks s ans (stmt_means tree p (InputFrom n input) d retry ks ans plain)
one_means tree p (InputClose n) d retry ks s ans plain = paid_means tree p s.units _ (λ s. stmt_step p (InputClose n) d retry ks s) ks s ans (stmt_means tree p (InputClose n) d retry ks ans plain)

-- an IF with its unit
pub if_means : (tree : ℕ → Body) (p : Program) (test : Expr) (all : Body) (one other d : ℕ) (retry : Bool) (is : IsIf test all (tree one) (tree other)) (ks : List StackEntry) (s : State) (ans : List Answer) (n : ℕ) →
    after_stack tree p ks (and_then (costs_unit_of n (λ s ans. chosen p (value_now p test retry s) (meaning_all is.then_it (context_at p d retry)) (meaning_all is.else_it (context_at p d retry)) s ans) s ans) (meaning_all is.rest (context_at p d retry)))
    ≡ means tree p (costing n (λ s. choose_step (value_now p test retry s) p one other d retry ks s) ks s) ans
if_means tree p test all one other d retry is ks s ans zero = refl
if_means tree p test all one other d retry is ks s ans (suc n) = choose_means tree p (value_now p test retry (record s { units = n })) test all one other is d retry ks (record s { units = n }) ans

-- an instruction that denotes the first statement of a body
pub instr_means : (tree : ℕ → Body) (p : Program) (i : Instr) (k d : ℕ) (retry : Bool) (ks : List StackEntry) (s : State) (ans : List Answer) → DenotesAt tree k i →
    after_stack tree p ks (meaning_all (tree k) (context_at p d retry) s ans) ≡ means tree p (instr_step p i d retry ks s) ans
instr_means tree p Ends k d retry ks s ans is = ap (λ b. after_stack tree p ks (meaning_all b (context_at p d retry) s ans)) is
instr_means tree p (Opens b body next) k d retry ks s ans is =
    ap (λ b. after_stack tree p ks (meaning_all b (context_at p d retry) s ans)) is
    ∙ paid_means tree p s.units (λ s ans. handled p false (block p b retry (λ retry. meaning_all (tree body) (context_at p d retry)) s ans)) (λ s. config (Execute (Blocks b retry body d)) (Handles false ∷ ThenDo (RunsFrom next d retry) ∷ ks) s) (ThenDo (RunsFrom next d retry) ∷ ks) s ans (λ s. refl)
    ∙ unpaid_same s.units s
  where
    unpaid_same : (n : ℕ) (s : State) → means tree p (costing n (λ s. config (Execute (Blocks b retry body d)) (Handles false ∷ ThenDo (RunsFrom next d retry) ∷ ks) s) (ThenDo (RunsFrom next d retry) ∷ ks) s) ans ≡ means tree p (costing n (λ s. config (Execute (Blocks b retry body d)) (Handles false ∷ ThenDo (RunsFrom next d retry) ∷ ks) s) ks s) ans
    unpaid_same zero s = refl
    unpaid_same (suc n) s = refl
instr_means tree p (Tests test one other) k d retry ks s ans is =
    ap (λ b. after_stack tree p ks (meaning_all b (context_at p d retry) s ans)) is.is
    ∙ if_means tree p test (tree k) one other d retry is ks s ans s.units
instr_means tree p (Plain t next) k d retry ks s ans is =
    ap (λ b. after_stack tree p ks (meaning_all b (context_at p d retry) s ans)) is.1
    ∙ one_means tree p t d retry (ThenDo (RunsFrom next d retry) ∷ ks) s ans is.0
    ∙ unpaid_same s.units s
  where
    unpaid_same : (n : ℕ) (s : State) → means tree p (costing n (λ s. stmt_step p t d retry (ThenDo (RunsFrom next d retry) ∷ ks) s) (ThenDo (RunsFrom next d retry) ∷ ks) s) ans ≡ means tree p (costing n (λ s. stmt_step p t d retry (ThenDo (RunsFrom next d retry) ∷ ks) s) ks s) ans
    unpaid_same zero s = refl
    unpaid_same (suc n) s = refl
