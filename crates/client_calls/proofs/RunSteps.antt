-- The steps of RUN.
use Rattle.std.proofs.Common.{◌≡◌, ℕ, suc, ◌+◌, ◌-◌, ◌<◌, List, [], ◌∷◌, ◌++◌, length, take, None, Bool, true, false, refl, sym, ap, ◌∙◌, subst, arith}
use Rattle.std.specs.Prelude.{map, reverse}
use Rattle.std.proofs.lemmas.List.{length-append, length-take-le}
use Rattle.abl_base.specs.declared.value.Value.{Value}
use Rattle.bound_tree.specs.Tree.{Argument, Procedure, Run}
use Rattle.block_meaning.specs.Program.{Program, procedure_at}
use Rattle.block_meaning.specs.State as state
use Rattle.block_meaning.specs.State.{State, Copy}
use Rattle.block_meaning.specs.Frames.{own_frame}
use Rattle.block_meaning.specs.Meaning.{cleared, copied_out, without_frame, opened_frame, argument_values, new_buffer}
use Rattle.block_meaning.proofs.Continues.{begins_itself}
use Rattle.flat_machine.specs.Flat as flat
use Rattle.flat_machine.proofs.Machine.{step_means}
use Rattle.client_memory.specs.Memory.{Remembered, IsOuter, ended, begun}
use Rattle.client_output.proofs.Unchanged.{written_same}
use Rattle.client_machine.specs.declared.machine.Machine.{Machine}
use Rattle.client_machine.specs.declared.mode.Mode.TheVariants as mode
use Rattle.client_machine.specs.declared.mode.Completion.{Completion}
use Rattle.client_machine.specs.declared.mode.Completion.TheVariants as completion
use Rattle.client_machine.specs.declared.mode.Task.TheVariants as task
use Rattle.client_machine.specs.declared.mode.StackEntry.TheVariants as stack
use Rattle.client_machine.specs.Config.{instr_at, header_at, body_at, run_arguments, run_procedure, entry_of, stack_of, state_of, completion_of, AreEven}
use Rattle.client_machine.specs.Inputs.{IsProgramOf, names_of}
use Rattle.client_machine.specs.Machine.{config_of, stack_in, state_in}
use Rattle.client_machine.specs.Order.{Nesting, nesting_of, returned_in, InOrder, ModeInOrder, HaveDepths, first_in}
use Rattle.client_machine.specs.Step.{code_in, RestFits, FitsIn, EntryFits, KeepsTask, KeepsEntry}
use Rattle.client_machine.proofs.Orders.{completes_order}
use Rattle.client_machine.proofs.Nestings.{is_outer, nesting_begun, nesting_ended}
use Rattle.client_values.specs.Variables.{HasSameShape, state_with}
use Rattle.client_values.proofs.Assigned.{even_after}
use Rattle.client_calls.specs.declared.runs.RunAt.{RunAt}
use Rattle.client_calls.specs.declared.runs.Begun.{Begun}
use Rattle.client_calls.specs.Calls.{outputs_of}
use Rattle.client_calls.specs.Runs.{IsRunAt, Begins, Returns}
use Rattle.client_calls.specs.Steps.{status_after, values_step, EvaluatesRun}
use Rattle.client_calls.proofs.States.{opened_state, closed_state, even_opened, even_ended, frame_dropped, shape_set}
use Rattle.client_calls.proofs.Found.{found_is, place_found, rest_of, state_is}

-- ---- the statement

abbrev pub rest_after : Bool → State → State
rest_after quiet rest = record rest { status = status_after quiet rest.status }

cleared_is : (quiet : Bool) (rest : State) (m : Machine) → cleared quiet (state_in rest m) ≡ state_in (rest_after quiet rest) m
cleared_is true rest m = refl
cleared_is false rest m = refl

pub run_kept : (run : RunAt) (place left : ℕ) (retry : Bool) (old mid new : Machine) → IsRunAt run (instr_at old.code.instrs.items place) →
    (let x : Machine = record old { units = mid.units; status = status_after run.no_error old.status } in mid ≡ x) →
    ((rest : State) (ks : List flat.StackEntry) (go : State → flat.Config) → flat.costing old.units go ks (state_in rest old) ≡ go (state_of rest old.procedures.items old.memory mid.units)) →
    (let y : Machine = record mid { mode = new.mode; stack = new.stack } in new ≡ y) →
    ((n : Nesting) → InOrder n (reverse mid.stack.items) → ModeInOrder n new.mode (reverse new.stack.items)) →
    EvaluatesRun run place left retry mid new →
    KeepsTask (task.RunsFrom place left retry) old new
run_kept run place left retry old mid new is began paid moved order evaluated = λ tree p rest code f.
    let i = instr_at old.code.instrs.items place in
    let rest' = rest_after run.no_error rest in
    let went : Machine = record old { units = mid.units; status = status_after run.no_error old.status } in
    let whole : Machine = record went { mode = new.mode; stack = new.stack } in
    let is_whole : new ≡ whole = moved ∙ ap (λ (m : Machine). record m { mode = new.mode; stack = new.stack }) began in
    let ks = flat.ThenDo (flat.RunsFrom run.next left retry) ∷ stack_in old in
    let go : State → flat.Config = λ s. flat.stmt_step p (Run (run_procedure i) (run_arguments i) run.no_error) left retry ks s in
    let fits' : RestFits rest' went = record { made_is = f.state.made_is; status_is = ap (status_after run.no_error) f.state.status_is; returned_is = f.state.returned_is; size_is = f.state.size_is; streams_are = f.state.streams_are; at_is = f.state.at_is } in
    let steps = evaluated p rest' (subst (λ (m : Machine). IsProgramOf p m.code m.inputs) (sym began) f.program) (subst (λ (m : Machine). RestFits rest' m) (sym began) fits') (subst (λ (m : Machine). AreEven m.procedures.items m.memory) (sym began) f.even) in
    let values : State → flat.Config = λ s. values_step old.code.instrs.items place left (argument_values p (run_arguments i) (procedure_at p (run_procedure i)).parameters retry s) (flat.Handles run.no_error ∷ ks) s in
    record {
      rest = rest';
      code = ap (λ (m : Machine). m.code) is_whole;
      fits = subst (λ (m : Machine). FitsIn p rest' m.mode m) (sym is_whole) (record {
        program = f.program;
        state = fits';
        even = f.even;
        whole = f.whole;
        order = order (nesting_of old.memory) (subst (λ (m : Machine). InOrder (nesting_of old.memory) (reverse m.stack.items)) (sym began) f.order.1);
      });
      more = begins_itself rest.written;
      has = λ has. written_same old.output new.output (names_of old.code) rest.written (ap (λ (m : Machine). m.output) is_whole) has;
      same = λ ans.
          step_means (code_in old) tree p code (flat.config (flat.Execute (flat.RunsFrom place left retry)) (stack_in old) (state_in rest old)) ans
          ∙ ap (λ c. flat.means tree p c ans)
          (ap (λ x. flat.instr_step p x left retry (stack_in old) (state_in rest old)) is
          ∙ paid rest (stack_in old) go
          ∙ ap values (cleared_is run.no_error rest (record old { units = mid.units }))
          ∙ sym (ap (λ (m : Machine). values_step m.code.instrs.items place left (argument_values p (run_arguments (instr_at m.code.instrs.items place)) (procedure_at p (run_procedure (instr_at m.code.instrs.items place))).parameters retry (state_in rest' m)) (flat.Handles run.no_error ∷ flat.ThenDo (flat.RunsFrom run.next left retry) ∷ stack_in m) (state_in rest' m)) began)
          ∙ sym steps);
    }

-- ---- the procedure begins

pub call_kept : (place left left' : ℕ) (vs : List Value) (begun : Begun) (old new : Machine) (mem : Remembered) → left ≡ suc left' → Begins begun old.code place vs old.memory mem →
    new.procedures.items ≡ old.procedures.items ++ begun.number ∷ [] → reverse new.stack.items ≡ stack.Called place ∷ reverse old.stack.items →
    (let x : Machine = record old { mode = mode.Execute (task.Blocks begun.place false left'); stack = new.stack; procedures = new.procedures; memory = mem } in new ≡ x) →
    KeepsTask (task.Calls place left vs) old new
call_kept place left left' vs begun old new mem is b procs entries moved = λ tree p rest code f.
    let i = instr_at old.code.instrs.items place in
    let n = run_procedure i in
    let args = run_arguments i in
    let ns = old.procedures.items in
    let instrs = old.code.instrs.items in
    let c = b.procedure in
    let found = found_is instrs old.code.procedures.items p.source.procedures n c f.program.procedures b.found in
    let at : body_at instrs begun.place ≡ (code_in old).entry n = ap (body_at instrs) (b.place_is ∙ sym (place_found old.code.procedures.items n c b.found)) in
    let head : header_at instrs begun.place ≡ (procedure_at p n).header = ap (header_at instrs) b.place_is ∙ found.header in
    let copies : mem.copies ≡ old.memory.copies = ap (λ (m : Remembered). m.copies) b.opens.is in
    let ns' : new.procedures.items ≡ ns ++ n ∷ [] = procs ∙ ap (λ j. ns ++ j ∷ []) b.number_is in
    let x : Machine = record old { mode = mode.Execute (task.Blocks begun.place false left'); stack = new.stack; procedures = new.procedures; memory = mem } in
    let longer : length mem.undoable ≡ length old.memory.undoable + 1 = ap (λ (m : Remembered). length m.undoable) b.opens.is ∙ length-append old.memory.undoable (b.opens.undoable ∷ []) in
    let even' : AreEven new.procedures.items mem = subst (λ js. AreEven js mem) (sym ns') (even_opened ns n b.opens.undoable b.opens.no_undo (map new_buffer c.buffers.items) old.memory mem b.opens.is f.even) in
    let opened : state_of rest new.procedures.items mem old.units ≡ opened_frame p n args vs (state_in rest old) =
    ap (λ js. state_of rest js mem old.units) ns'
    ∙ state_is rest (ns ++ n ∷ []) mem old.units
    ∙ ap (λ cs. state_with (record rest { level = length cs; units = old.units }) (ns ++ n ∷ []) mem) copies
    ∙ opened_state p n c args vs (rest_of rest old.memory old.units) ns old.memory mem (record { undoable = found.undoable; no_undo = found.no_undo; parameters = found.parameters; buffers = found.buffers }) b.opens f.even
    ∙ ap (opened_frame p n args vs) (sym (state_is rest ns old.memory old.units)) in
    record {
      rest = rest;
      code = ap (λ (m : Machine). m.code) moved;
      fits = subst (λ (m : Machine). FitsIn p rest m.mode m) (sym moved) (record {
        program = f.program;
        state = f.state;
        even = even';
        whole = subst (HaveDepths 0) (sym copies) f.whole;
        order = (tt, subst (InOrder (nesting_of mem)) (sym entries) (omega (arith, longer), subst (λ k. InOrder k (reverse old.stack.items)) (sym (nesting_begun old.memory mem longer copies)) f.order.1));
      });
      more = begins_itself rest.written;
      has = λ has. written_same old.output new.output (names_of old.code) rest.written (ap (λ (m : Machine). m.output) moved) has;
      same = λ ans.
          step_means (code_in old) tree p code (flat.config (flat.Execute (flat.Calls left n args vs)) (stack_in old) (state_in rest old)) ans
          ∙ ap (λ k. flat.means tree p k ans)
          (ap (λ d. flat.task_step (code_in old) p (flat.Calls d n args vs) (stack_in old) (state_in rest old)) is
          ∙ ap (λ h. flat.config (flat.Execute (flat.Blocks h false ((code_in old).entry n) left')) (flat.Called args n ∷ stack_in old) (opened_frame p n args vs (state_in rest old))) (sym head)
          ∙ ap (λ e. flat.config (flat.Execute (flat.Blocks (header_at instrs begun.place) false e left')) (flat.Called args n ∷ stack_in old) (opened_frame p n args vs (state_in rest old))) (sym at)
          ∙ ap (λ s. flat.config (flat.Execute (flat.Blocks (header_at instrs begun.place) false (body_at instrs begun.place) left')) (flat.Called args n ∷ stack_in old) s) (sym opened)
          ∙ ap (λ cs. flat.config (flat.Execute (flat.Blocks (header_at instrs begun.place) false (body_at instrs begun.place) left')) (flat.Called args n ∷ stack_of instrs cs (reverse old.stack.items)) (state_of rest new.procedures.items mem old.units)) (sym copies)
          ∙ ap (λ es. flat.config (flat.Execute (flat.Blocks (header_at instrs begun.place) false (body_at instrs begun.place) left')) (stack_of instrs mem.copies es) (state_of rest new.procedures.items mem old.units)) (sym entries))
          ∙ ap (λ (m : Machine). flat.means tree p (config_of rest m) ans) (sym moved);
    }

-- ---- the procedure ends

shorter_by : (m mem : Remembered) → 0 < length m.undoable → length mem.undoable ≡ length (ended m).undoable → length mem.undoable + 1 ≡ length m.undoable
shorter_by m mem some e = let k = length-take-le (length m.undoable - 1) m.undoable (omega arith) in omega (arith, e, k, some)

-- what the entry says of the order
pub record EndsInOrder (old : Machine) : Type 0 where
  pub some : 0 < length old.memory.undoable
  pub order : InOrder (returned_in (nesting_of old.memory)) (reverse old.stack.items)
  pub outer : IsOuter old.memory

ends_in_order : (place : ℕ) (old : Machine) → InOrder (nesting_of old.memory) (stack.Called place ∷ reverse old.stack.items) → EndsInOrder old
ends_in_order place old o = record { some = o.0; order = o.1; outer = is_outer old.memory (reverse old.stack.items) o.0 o.1 }

-- the frame is gone
pub gone_kept : (place : ℕ) (w w' : Completion) (old new : Machine) (mem : Remembered) (after : Program → State → State) → ((p : Program) (rest : State) → EntryFits p rest (stack.Called place) w old → EndsInOrder old) →
    ((e : EndsInOrder old) → HasSameShape (ended old.memory) mem) →
    ((p : Program) (rest : State) → IsProgramOf p old.code old.inputs → AreEven old.procedures.items old.memory → (e : EndsInOrder old) → state_with (rest_of rest old.memory old.units) (take (length old.procedures.items - 1) old.procedures.items) mem ≡ after p (state_with (rest_of rest old.memory old.units) old.procedures.items old.memory)) →
    ((p : Program) (cs : List Copy) (ks : List flat.StackEntry) (s : State) → flat.called_step (completion_of old.code.instrs.items cs w) (run_arguments (instr_at old.code.instrs.items place)) (procedure_at p (run_procedure (instr_at old.code.instrs.items place))) ks s ≡ flat.config (flat.Unwind (completion_of old.code.instrs.items cs w')) ks (after p s)) →
    first_in w' ≡ None →
    new.procedures.items ≡ take (length old.procedures.items - 1) old.procedures.items →
    (let x : Machine = record old { mode = mode.Unwind w'; procedures = new.procedures; memory = mem } in new ≡ x) →
    ((cs cs' : List Copy) → completion_of old.code.instrs.items cs w' ≡ completion_of old.code.instrs.items cs' w') →
    KeepsEntry (stack.Called place) w old new
gone_kept place w w' old new mem after ordered shape states called none procs moved same_way = λ tree p rest code f.
    let e = ordered p rest f in
    let sh = shape e in
    let ns = old.procedures.items in
    let ns' = take (length ns - 1) ns in
    let instrs = old.code.instrs.items in
    let os = reverse old.stack.items in
    let copies : mem.copies ≡ old.memory.copies = sh.copies in
    let less : length mem.undoable + 1 ≡ length old.memory.undoable = shorter_by old.memory mem e.some sh.undoable in
    let even' : AreEven ns' mem = even_after ns' (ended old.memory) mem sh (even_ended ns old.memory e.some f.even) in
    let state' : state_of rest new.procedures.items mem old.units ≡ after p (state_in rest old) =
    ap (λ js. state_of rest js mem old.units) procs
    ∙ state_is rest ns' mem old.units
    ∙ ap (λ cs. state_with (record rest { level = length cs; units = old.units }) ns' mem) copies
    ∙ states p rest f.program f.even e
    ∙ ap (after p) (sym (state_is rest ns old.memory old.units)) in
    record {
      rest = rest;
      code = ap (λ (m : Machine). m.code) moved;
      fits = subst (λ (m : Machine). FitsIn p rest m.mode m) (sym moved) (record {
        program = f.program;
        state = f.state;
        even = subst (λ js. AreEven js mem) (sym procs) even';
        whole = subst (HaveDepths 0) (sym copies) f.whole;
        order = completes_order (nesting_of mem) w' os none (subst (λ k. InOrder k os) (sym (nesting_ended old.memory mem less copies)) e.order);
      });
      more = begins_itself rest.written;
      has = λ has. written_same old.output new.output (names_of old.code) rest.written (ap (λ (m : Machine). m.output) moved) has;
      same = λ ans.
          step_means (code_in old) tree p code (flat.config (flat.Unwind (completion_of old.code.instrs.items old.memory.copies w)) (entry_of instrs old.memory.copies (stack.Called place) ∷ stack_in old) (state_in rest old)) ans
          ∙ ap (λ k. flat.means tree p k ans)
          (called p old.memory.copies (stack_in old) (state_in rest old)
          ∙ ap (λ s. flat.config (flat.Unwind (completion_of old.code.instrs.items old.memory.copies w')) (stack_in old) s) (sym state')
          ∙ ap (λ x. flat.config (flat.Unwind x) (stack_in old) (state_of rest new.procedures.items mem old.units)) (same_way old.memory.copies mem.copies)
          ∙ ap (λ cs. flat.config (flat.Unwind (completion_of old.code.instrs.items mem.copies w')) (stack_of instrs cs os) (state_of rest new.procedures.items mem old.units)) (sym copies))
          ∙ ap (λ (m : Machine). flat.means tree p (config_of rest m) ans) (sym moved);
    }

-- it ends normally, or by RETURN: the outputs are copied
pub returned_kept : (place : ℕ) (w : Completion) (old new : Machine) (mem : Remembered) → ((p : Program) (rest : State) → EntryFits p rest (stack.Called place) w old → InOrder (nesting_of old.memory) (stack.Called place ∷ reverse old.stack.items)) →
    ((p : Program) (cs : List Copy) (args : List Argument) (q : Procedure) (ks : List flat.StackEntry) (s : State) → flat.called_step (completion_of old.code.instrs.items cs w) args q ks s ≡ flat.config (flat.Unwind state.Normal) ks (copied_out args q.parameters (own_frame s.frames) (without_frame s))) →
    Returns old.code place old.memory mem →
    new.procedures.items ≡ take (length old.procedures.items - 1) old.procedures.items →
    (let x : Machine = record old { mode = mode.Unwind completion.Normal; procedures = new.procedures; memory = mem } in new ≡ x) →
    KeepsEntry (stack.Called place) w old new
returned_kept place w old new mem ordered called r procs moved =
    let i = instr_at old.code.instrs.items place in
    let args = run_arguments i in
    let n = run_procedure i in
    let c = r.procedure in
    let outs = outputs_of args c.parameters.items old.memory in
    gone_kept place w completion.Normal old new mem (λ p s. copied_out args (procedure_at p n).parameters (own_frame s.frames) (without_frame s))
    (λ p rest f. ends_in_order place old (ordered p rest f))
    (λ e. subst (HasSameShape (ended old.memory)) (sym (r.is e.outer)) (shape_set outs (ended old.memory)))
    (λ p rest prog even e.
    let S = state_with (rest_of rest old.memory old.units) old.procedures.items old.memory in
    closed_state (rest_of rest old.memory old.units) old.procedures.items args c.parameters.items old.memory mem e.outer even (r.is e.outer)
    ∙ ap (λ xs. copied_out args xs (own_frame S.frames) (without_frame S)) (found_is old.code.instrs.items old.code.procedures.items p.source.procedures n c prog.procedures r.found).parameters)
    (λ p cs ks s. called p cs args (procedure_at p n) ks s)
    refl procs moved (λ cs cs'. refl)

-- RETURN ERROR: nothing is copied
pub failed_kept : (place : ℕ) (old new : Machine) (mem : Remembered) → (IsOuter old.memory → mem ≡ ended old.memory) →
    new.procedures.items ≡ take (length old.procedures.items - 1) old.procedures.items →
    (let x : Machine = record old { mode = mode.Unwind (completion.Faults None); procedures = new.procedures; memory = mem } in new ≡ x) →
    KeepsEntry (stack.Called place) (completion.Returns true) old new
failed_kept place old new mem is procs moved =
    gone_kept place (completion.Returns true) (completion.Faults None) old new mem (λ p s. without_frame s)
    (λ p rest f. ends_in_order place old f.order.1)
    (λ e. subst (HasSameShape (ended old.memory)) (sym (is e.outer)) (shape_set [] (ended old.memory)))
    (λ p rest prog even e. ap (state_with (rest_of rest old.memory old.units) (take (length old.procedures.items - 1) old.procedures.items)) (is e.outer) ∙ frame_dropped (rest_of rest old.memory old.units) old.procedures.items old.memory e.some even)
    (λ p cs ks s. refl)
    refl procs moved (λ cs cs'. refl)
