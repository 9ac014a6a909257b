-- A call of a client, from an answer to its next step.
use Rattle.std.proofs.Common.{◌≡◌, ℕ, ◌⊎◌, inl, inr, List, [], ◌∷◌, ◌++◌, refl, sym, ap, ◌∙◌, subst, append_assoc, append-nil}
use Rattle.database_protocol.specs.declared.operation.Op.{Op}
use Rattle.database_protocol.specs.declared.operation.Op.TheVariants.{End}
use Rattle.database_protocol.specs.declared.answer.Answer.{Answer}
use Rattle.database_protocol.specs.declared.answer.Answer.TheVariants as answer
use Rattle.bound_tree.specs.Tree.{Body}
use Rattle.database_protocol.specs.declared.ends.ClientEnd.{ClientEnd}
use Rattle.block_meaning.specs.declared.wants.Piece.{Piece}
use Rattle.database_protocol.specs.declared.next_step.NextStep.{NextStep}
use Rattle.database_protocol.specs.declared.next_step.NextStep.TheVariants.{Ask, Ended}
use Rattle.block_meaning.specs.State.{State, Progress}
use Rattle.block_meaning.specs.Program.{Program}
use Rattle.block_meaning.specs.Meaning.{finished}
use Rattle.block_meaning.specs.GivesUp.{Begins, IsAsked, before_last, written_at, GaveUp}
use Rattle.block_meaning.proofs.Continues.{begins_itself, begins_further, begins_same}
use Rattle.flat_machine.specs.Flat as flat
use Rattle.flat_machine.specs.Flat.{IsCodeOf, means, config, answered, answer_step}
use Rattle.flat_machine.proofs.Machine.{asks_means, answered_means}
use Rattle.flat_machine.proofs.Continues.{written_continues, something_is_asked}
use Rattle.client_output.specs.Written.{HasWritten as Wrote, IsUnchanged}
use Rattle.client_output.proofs.Unchanged.{still_written}
use Rattle.block_code.specs.declared.code.Code.{Code as SourceCode}
use Rattle.block_code.specs.Code.{place_of}
use Rattle.client_machine.specs.Inputs.{names_of}
use Rattle.client_machine.specs.declared.machine.Machine.{Machine}
use Rattle.client_machine.specs.declared.mode.Mode.{Mode}
use Rattle.client_machine.specs.declared.mode.Mode.TheVariants as mode
use Rattle.client_machine.specs.Config.{instr_at, body_at, on_answer_of, mode_of}
use Rattle.client_machine.specs.Machine.{config_of, stack_in, state_in}
use Rattle.client_machine.specs.Step.{code_in, Fits, KeepsRun as StepKeeps, NextStepIs, IsAwaiting}
use Rattle.client_core.proofs.AnswerWrites.{answer_step_writes}
use Rattle.client_core.specs.declared.client.Client.{Client}
use Rattle.client_core.specs.declared.client.Phase.{Phase}
use Rattle.client_core.specs.declared.client.Phase.TheVariants as phase
use Rattle.client_core.specs.Refines.{after, Follows, HasEnded, FollowsIn, Refines, AfterResume, HasNotBegun, RunsFrom, IsAt, GaveIn, RunsOn}

-- ---- any configuration

-- in every mode, the written pieces begin with those that were written before
written_in : (tree : ℕ → Body) (p : Program) (m : flat.Mode) (ks : List flat.StackEntry) (s : State) → Begins s.written (finished (means tree p (config m ks s) [])).written
written_in tree p (flat.Execute t) ks s = written_continues tree p (config (flat.Execute t) ks s) tt []
written_in tree p (flat.Unwind completion) ks s = written_continues tree p (config (flat.Unwind completion) ks s) tt []
written_in tree p (flat.Await o k) ks s = begins_same _ _ (ap (λ r. (finished r).written) (sym (asks_means tree p o k ks s)))

asked_in : (tree : ℕ → Body) (p : Program) (m : flat.Mode) (ks : List flat.StackEntry) (s : State) → IsAsked (finished (means tree p (config m ks s) [])).wants
asked_in tree p (flat.Execute t) ks s = something_is_asked tree p (config (flat.Execute t) ks s) tt
asked_in tree p (flat.Unwind completion) ks s = something_is_asked tree p (config (flat.Unwind completion) ks s) tt
asked_in tree p (flat.Await o k) ks s = subst (λ r. IsAsked (finished r).wants) (sym (asks_means tree p o k ks s)) tt

-- ---- what an answer writes

answer_writes : (p : Program) (a : Answer) (o : Op) (k : flat.OnAnswer) (ks : List flat.StackEntry) (s : State) → (answer_step p k a ks s).state.written ≡ s.written → (answered p a o k ks s).state.written ≡ s.written
answer_writes p (answer.Blocked holders) o k ks s e = refl
answer_writes p answer.NoMemory o k ks s e = refl
answer_writes p answer.Closed o k ks s e = refl
answer_writes p (answer.Deadlock cycle) o k ks s e = refl
answer_writes p answer.TxFull o k ks s e = refl
answer_writes p answer.TraceFull o k ks s e = refl
answer_writes p a o k ks s e = e

-- ---- runs after answers

same_runs : (f g : List Answer → Progress) → ((ans : List Answer) → f ans ≡ g ans) → f ≡ g
same_runs f g h = λ i ans. h ans i

one_more : (answers : List Answer) (a : Answer) (m : List Answer → Progress) (ans : List Answer) → after (answers ++ a ∷ []) m ans ≡ after answers m (a ∷ ans)
one_more answers a m ans = ap m (append_assoc answers (a ∷ []) ans)

now : (answers : List Answer) (m : List Answer → Progress) → after answers m [] ≡ m answers
now answers m = ap m (append-nil answers)

before_one : (b a : Answer) (bs : List Answer) → before_last b (bs ++ a ∷ []) ≡ b ∷ bs
before_one b a [] = refl
before_one b a (c ∷ bs) = ap (λ l. b ∷ l) (before_one c a bs)

written_before : (m : List Answer → Progress) (answers : List Answer) (a : Answer) → written_at m (answers ++ a ∷ []) ≡ (m answers).written
written_before m [] a = refl
written_before m (b ∷ bs) a = ap (λ l. (m l).written) (before_one b a bs)

-- ---- going on

-- the same code
recode : (tree : ℕ → Body) (p : Program) (a b : Machine) → b.code ≡ a.code → IsCodeOf (code_in a) p tree → IsCodeOf (code_in b) p tree
recode tree p a b e is = subst (λ (k : SourceCode). IsCodeOf (record { instr = instr_at k.instrs.items; entry = λ n. body_at k.instrs.items (place_of k.procedures.items n) }) p tree) (sym e) is

pub begin_going : (m : List Answer → Progress) (names : List (List ℕ)) (from : List Piece) (c : Machine) → Follows m names from c → RunsFrom m names from c
begin_going m names from c f = record { pieces = from; more = begins_itself from; follows = f }

-- a machine that ran on, and received these answers
went : (m m' : List Answer → Progress) (names : List (List ℕ)) (from : List Piece) (answers : List Answer) (c c' : Machine) → ((ans : List Answer) → m' ans ≡ m (answers ++ ans)) → Follows m names from c → StepKeeps answers c c' → RunsFrom m' names from c'
went m m' names from answers c c' is f k =
    let x = k f.tree f.program f.rest f.code f.fits in
    record {
      pieces = x.rest.written;
      more = subst (λ w. Begins w x.rest.written) f.is x.more;
      follows = record {
        tree = f.tree;
        program = f.program;
        rest = x.rest;
        code = recode f.tree f.program c c' x.code f.code;
        names_are = f.names_are ∙ ap names_of (sym x.code);
        fits = x.fits;
        is = refl;
        has = subst (λ ns. Wrote c'.output ns x.rest.written) (sym f.names_are) (x.has (subst (λ ns. Wrote c.output ns f.rest.written) f.names_are (subst (λ ps. Wrote c.output names ps) (sym f.is) f.has)));
        same = λ ans. is ans ∙ f.same (answers ++ ans) ∙ ap finished (x.same ans);
      };
    }

pub step_going : (m : List Answer → Progress) (names : List (List ℕ)) (from : List Piece) (c c' : Machine) → StepKeeps [] c c' → RunsFrom m names from c → RunsFrom m names from c'
step_going m names from c c' k g =
    let x = went m m names g.pieces [] c c' (λ ans. refl) g.follows k in
    record { pieces = x.pieces; more = begins_further from g.pieces x.pieces g.more x.more; follows = x.follows }

pub going_on_runs_on : (m : List Answer → Progress) (names : List (List ℕ)) (from : List Piece) (c : Client) (wants : NextStep) → c.phase ≡ phase.Running → NextStepIs wants c.machine → RunsFrom m names from c.machine → RunsOn m names from c wants
going_on_runs_on m names from c wants run_from shows g =
    let f = g.follows in
    let refines : m [] ≡ (let d : Progress = record { written = g.pieces; wants = wants } in d) =
    f.same [] ∙ shows f.tree f.program f.rest f.fits ∙ ap (λ ps. let d : Progress = record { written = ps; wants = wants } in d) f.is in
    record { pieces = g.pieces; more = g.more; has = f.has; at = inl (record { run_from = run_from; follows = f; refines = refines }) }

-- out of memory; the sections are unchanged
pub fails_going : (m : List Answer → Progress) (names : List (List ℕ)) (from : List Piece) (c : Machine) (new : Client) (wants : NextStep) → new.phase ≡ phase.GivingUp → wants ≡ Ask End → IsUnchanged c.output new.machine.output → RunsFrom m names from c → RunsOn m names from new wants
fails_going m names from c new wants gives asks same g =
    let f = g.follows in
    let k = mode_of c.code.instrs.items c.memory.copies c.mode in
    record {
      pieces = g.pieces;
      more = g.more;
      has = still_written c.output new.machine.output names g.pieces same f.has;
      at = inr (record {
        gives_up = gives;
        asks = asks;
        op_asked = subst (λ (d : Progress). IsAsked d.wants) (sym (f.same [])) (asked_in f.tree f.program k (stack_in c) (state_in f.rest c));
        to = subst (λ (d : Progress). Begins g.pieces d.written) (sym (f.same [])) (subst (λ ps. Begins ps (finished (means f.tree f.program (config_of f.rest c) [])).written) f.is (written_in f.tree f.program k (stack_in c) (state_in f.rest c)));
      });
    }

-- ---- the result of running on

runs_does : (ph : Phase) (c : Machine) (m : List Answer → Progress) (names : List (List ℕ)) (written : List Piece) → ph ≡ phase.Running → Follows m names written c → FollowsIn ph m names written c
runs_does ph c m names written e f = subst (λ x. FollowsIn x m names written c) (sym e) f

came_by : (m : List Answer → Progress) (names : List (List ℕ)) (answers : List Answer) (from : List Piece) (c : Client) (w : NextStep) → Begins (written_at m answers) from → (g : RunsOn (after answers m) names from c w) → IsAt (after answers m) names g.pieces c w ⊎ GaveIn (after answers m) g.pieces c w → AfterResume c names m answers w
came_by m names answers from c w least g (inl s) =
    inl (record {
      refines = record { written = g.pieces; follows = runs_does c.phase c.machine (after answers m) names g.pieces s.run_from s.follows };
      pieces = g.pieces;
      has = g.has;
      meant = sym (now answers m) ∙ s.refines;
    })
came_by m names answers from c w least g (inr u) =
    let gave : GaveUp m answers g.pieces = record {
      asked = subst (λ (d : Progress). IsAsked d.wants) (now answers m) u.op_asked;
      from = begins_further (written_at m answers) from g.pieces least g.more;
      to = subst (λ (d : Progress). Begins g.pieces d.written) (now answers m) u.to;
    } in
    inr (record { pieces = g.pieces; given_up = record { ends = u.gives_up; has = g.has; gave = gave }; asks = u.asks })

came : (m : List Answer → Progress) (names : List (List ℕ)) (answers : List Answer) (from : List Piece) (c : Client) (w : NextStep) → Begins (written_at m answers) from → RunsOn (after answers m) names from c w → AfterResume c names m answers w
came m names answers from c w least g = came_by m names answers from c w least g g.at

-- ---- the first call

-- what `go_on` ensures
abbrev pub WillGoOn : Phase → Machine → Client → NextStep → Type 0
WillGoOn ph old new w = (names : List (List ℕ)) (m : List Answer → Progress) (from : List Piece) → ph ≡ phase.Running → Follows m names from old → RunsOn m names from new w

followed : (ph : Phase) (c : Machine) (m : List Answer → Progress) (names : List (List ℕ)) (written : List Piece) → ph ≡ phase.Running → FollowsIn ph m names written c → Follows m names written c
followed ph c m names written e f = subst (λ x. FollowsIn x m names written c) e f

pub first_call : (names : List (List ℕ)) (m : List Answer → Progress) (answers : List Answer) (old new : Client) (w : NextStep) → HasNotBegun old → answers ≡ [] → WillGoOn old.phase old.machine new w → Refines old names m answers → AfterResume new names m answers w
first_call names m answers old new w begun none will d =
    came m names answers d.written new w (subst (λ (l : List Answer). Begins (written_at m l) d.written) (sym none) (d.written, refl))
    (will names (after answers m) d.written begun.0 (followed old.phase old.machine (after answers m) names d.written begun.0 d.follows))

-- ---- an answer

-- what was written before it
asking_now : (x : Mode) (m : List Answer → Progress) (names : List (List ℕ)) (written : List Piece) (c : Machine) → x ≡ c.mode → IsAwaiting x → Follows m names written c → (m []).written ≡ written
asking_now (mode.Execute t) m names written c e waits f = absurd waits
asking_now (mode.Unwind w) m names written c e waits f = absurd waits
asking_now (mode.Await o k) m names written c e waits f =
    ap (λ (d : Progress). d.written) (f.same [])
    ∙ ap (λ x. (finished (means f.tree f.program (config (mode_of c.code.instrs.items c.memory.copies x) (stack_in c) (state_in f.rest c)) [])).written) (sym e)
    ∙ ap (λ r. (finished r).written) (asks_means f.tree f.program o (on_answer_of c.code.instrs.items c.memory.copies o k) (stack_in c) (state_in f.rest c))
    ∙ f.is

least_at : (m : List Answer → Progress) (answers : List Answer) (a : Answer) (written : List Piece) → (after answers m []).written ≡ written → Begins (written_at m (answers ++ a ∷ [])) written
least_at m answers a written e = begins_same _ _ (written_before m answers a ∙ ap (λ (d : Progress). d.written) (sym (now answers m)) ∙ e)

-- the answer was accepted, and the client ran on
pub answered_call : (names : List (List ℕ)) (a : Answer) (m : List Answer → Progress) (answers : List Answer) (old new : Client) (mid : Machine) (w : NextStep) → old.phase ≡ phase.Running → IsAwaiting old.machine.mode → StepKeeps (a ∷ []) old.machine mid → WillGoOn old.phase mid new w → Refines old names m answers → AfterResume new names m (answers ++ a ∷ []) w
answered_call names a m answers old new mid w run_from waits k will d =
    let f = followed old.phase old.machine (after answers m) names d.written run_from d.follows in
    let g = went (after answers m) (after (answers ++ a ∷ []) m) names d.written (a ∷ []) old.machine mid (one_more answers a m) f k in
    let least = least_at m answers a d.written (asking_now old.machine.mode (after answers m) names d.written old.machine refl waits f) in
    came m names (answers ++ a ∷ []) g.pieces new w (begins_further _ d.written g.pieces least g.more) (will names (after (answers ++ a ∷ []) m) g.pieces run_from g.follows)

-- out of memory while accepting the answer
fails_by : (x : Mode) (a : Answer) (m : List Answer → Progress) (names : List (List ℕ)) (written : List Piece) (c : Machine) → x ≡ c.mode → IsAwaiting x → Follows m names written c → IsAsked (m (a ∷ [])).wants × Begins written (m (a ∷ [])).written
fails_by (mode.Execute t) a m names written c e waits f = absurd waits
fails_by (mode.Unwind w) a m names written c e waits f = absurd waits
fails_by (mode.Await o k) a m names written c e waits f =
    let ks = stack_in c in
    let s = state_in f.rest c in
    let x = answered f.program a o (on_answer_of c.code.instrs.items c.memory.copies o k) ks s in
    let is : m (a ∷ []) ≡ finished (means f.tree f.program x []) =
    f.same (a ∷ []) ∙ ap (λ x. finished (means f.tree f.program (config (mode_of c.code.instrs.items c.memory.copies x) ks s) (a ∷ []))) (sym e)
    ∙ ap finished (answered_means f.tree f.program a o (on_answer_of c.code.instrs.items c.memory.copies o k) ks s []) in
    let stays : x.state.written ≡ written = answer_writes f.program a o (on_answer_of c.code.instrs.items c.memory.copies o k) ks s (answer_step_writes f.program (on_answer_of c.code.instrs.items c.memory.copies o k) a ks s) ∙ f.is in
    (subst (λ (d : Progress). IsAsked d.wants) (sym is) (asked_in f.tree f.program x.mode x.stack x.state), subst (λ (d : Progress). Begins written d.written) (sym is) (subst (λ ps. Begins ps (finished (means f.tree f.program x [])).written) stays (written_in f.tree f.program x.mode x.stack x.state)))

pub failed_call : (names : List (List ℕ)) (a : Answer) (m : List Answer → Progress) (answers : List Answer) (old new : Client) (w : NextStep) → old.phase ≡ phase.Running → IsAwaiting old.machine.mode → new.phase ≡ phase.GivingUp → w ≡ Ask End → IsUnchanged old.machine.output new.machine.output → Refines old names m answers → AfterResume new names m (answers ++ a ∷ []) w
failed_call names a m answers old new w run_from waits gives asks same d =
    let f = followed old.phase old.machine (after answers m) names d.written run_from d.follows in
    let least = least_at m answers a d.written (asking_now old.machine.mode (after answers m) names d.written old.machine refl waits f) in
    let x = fails_by old.machine.mode a (after answers m) names d.written old.machine refl waits f in
    inr (record {
      pieces = d.written;
      given_up = record {
        ends = gives;
        has = still_written old.machine.output new.machine.output names d.written same f.has;
        gave = record { asked = x.0; from = least; to = x.1 };
      };
      asks = asks;
    })

-- ---- the answer to End

-- what `end` ensures
abbrev pub WillEnd : Machine → ClientEnd → Type 0
WillEnd c end = (tree : ℕ → Body) (p : Program) (rest : State) → Fits p rest c → (a : Answer) (ans : List Answer) → finished (means tree p (config_of rest c) (a ∷ ans)) ≡ record { written = rest.written; wants = Ended end }

pub end_call : (names : List (List ℕ)) (a : Answer) (m : List Answer → Progress) (answers : List Answer) (old new : Client) (end : ClientEnd) → old.phase ≡ phase.Running → new.phase ≡ phase.Ended → WillEnd old.machine end → IsUnchanged old.machine.output new.machine.output → Refines old names m answers → AfterResume new names m (answers ++ a ∷ []) (Ended end)
end_call names a m answers old new end run_from ended will same d =
    let f = followed old.phase old.machine (after answers m) names d.written run_from d.follows in
    let refines : (ans : List Answer) → after (answers ++ a ∷ []) m ans ≡ (let d : Progress = record { written = d.written; wants = Ended end } in d) =
    λ ans. one_more answers a m ans ∙ f.same (a ∷ ans) ∙ will f.tree f.program f.rest f.fits a ans ∙ ap (λ ps. let d : Progress = record { written = ps; wants = Ended end } in d) f.is in
    let e : HasEnded (after (answers ++ a ∷ []) m) names d.written new.machine = record { has = still_written old.machine.output new.machine.output names d.written same f.has; end = end; same = refines } in
    inl (record {
      refines = record { written = d.written; follows = subst (λ x. FollowsIn x (after (answers ++ a ∷ []) m) names d.written new.machine) (sym ended) e };
      pieces = d.written;
      has = still_written old.machine.output new.machine.output names d.written same f.has;
      meant = sym (now (answers ++ a ∷ []) m) ∙ refines [];
    })
