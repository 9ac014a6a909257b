-- The fault of a statement: NO-ERROR, its line, and ERROR. A step with an effect on the rest of the state.
use Rattle.std.proofs.Common.{◌≡◌, ℕ, ◌+◌, List, [], ◌∷◌, ◌++◌, Option, Some, None, refl, sym, ap, ◌∙◌, subst, length, true, false}
use Rattle.std.specs.Prelude.{nat_lt}
use Rattle.abl_base.specs.declared.limits.TheConstants.{MAX_OUTPUT_BYTES}
use Rattle.block_meaning.specs.declared.wants.Piece.{Piece}
use Rattle.block_meaning.specs.declared.wants.Piece.TheVariants.{Wrote}
use Rattle.block_meaning.specs.Program.{Program}
use Rattle.block_meaning.specs.Lines.{line_of}
use Rattle.block_meaning.specs.State.{State, Normal, Stops, Faults, Raises, nothing_passed, completed, wrote, written_if, bytes_in}
use Rattle.block_meaning.specs.Frames.{own_frame}
use Rattle.block_meaning.specs.Blocks.{complained}
use Rattle.database_protocol.specs.declared.ends.StopWhy.TheVariants as why
use Rattle.database_protocol.specs.declared.ends.ClientEnd.TheVariants as client
use Rattle.block_meaning.proofs.Continues.{begins_itself}
use Rattle.flat_machine.specs.Flat as flat
use Rattle.flat_machine.proofs.Machine.{step_means}
use Rattle.client_output.specs.declared.output.Output.{Output}
use Rattle.client_output.specs.Written.{HasWritten}
use Rattle.client_output.proofs.Unchanged.{written_same}
use Rattle.client_machine.specs.declared.machine.Machine.{Machine}
use Rattle.client_machine.specs.declared.mode.Mode.TheVariants as mode
use Rattle.client_machine.specs.declared.mode.LineFault.{LineFault}
use Rattle.client_machine.specs.declared.mode.Completion.TheVariants as completion
use Rattle.client_machine.specs.declared.mode.StackEntry.TheVariants as stack
use Rattle.client_machine.specs.declared.mode.ends.BufferList.TheVariants as buffer_list
use Rattle.client_machine.specs.Config.{complaint_in, complaint_if, AreEven}
use Rattle.client_machine.specs.Machine.{config_of, stack_in, state_in}
use Rattle.client_machine.specs.Inputs.{IsProgramOf, names_of}
use Rattle.client_machine.specs.Step.{RestFits, FitsIn, KeepsEntry, KeepsComplaint}

-- ---- a piece is written

-- the rest of the state after it
abbrev pub rest_with : Piece → State → State
rest_with piece rest = record rest { written = rest.written ++ piece ∷ []; size = rest.size + bytes_in piece }

-- there is room for it
pub wrote_fits : (piece : Piece) (rest : State) (m : Machine) → RestFits rest m → nat_lt MAX_OUTPUT_BYTES (m.output.size + bytes_in piece) ≡ false → wrote piece (state_in rest m) ≡ completed Normal (state_in (rest_with piece rest) m)
wrote_fits piece rest m f room =
    ap (λ b. written_if b piece (state_in rest m)) (ap (λ n. nat_lt MAX_OUTPUT_BYTES (n + bytes_in piece)) f.size_is ∙ room)

-- there is none
pub wrote_full : (piece : Piece) (rest : State) (m : Machine) → RestFits rest m → nat_lt MAX_OUTPUT_BYTES (m.output.size + bytes_in piece) ≡ true → wrote piece (state_in rest m) ≡ completed (Stops (client.Stop why.OutputFull)) (state_in rest m)
wrote_full piece rest m f full =
    ap (λ b. written_if b piece (state_in rest m)) (ap (λ n. nat_lt MAX_OUTPUT_BYTES (n + bytes_in piece)) f.size_is ∙ full)

-- the state still fits
pub written_fits : (piece : Piece) (rest : State) (m : Machine) (output : Output) → RestFits rest m → output.size ≡ m.output.size + bytes_in piece → (let x : Machine = record m { output = output } in RestFits (rest_with piece rest) x)
written_fits piece rest m output f size = record {
  made_is = f.made_is;
  status_is = f.status_is;
  returned_is = f.returned_is;
  size_is = ap (λ n. n + bytes_in piece) f.size_is ∙ sym size;
  streams_are = f.streams_are;
  at_is = f.at_is;
}

-- ---- NO-ERROR

pub quiet_kept : (fault : Option LineFault) (old new : Machine) → (let x : Machine = record old { status = true; mode = mode.Unwind completion.Normal } in new ≡ x) → KeepsEntry (stack.Handles true) (completion.Faults fault) old new
quiet_kept fault old new moved = λ tree p rest is f.
    let x : Machine = record old { status = true; mode = mode.Unwind completion.Normal } in
    let rest' : State = record rest { status = true } in
    record {
      rest = rest';
      code = ap (λ (m : Machine). m.code) moved;
      fits = subst (λ (n : Machine). FitsIn p rest' n.mode n) (sym moved) (record {
        program = f.program;
        state = record { made_is = f.state.made_is; status_is = refl; returned_is = f.state.returned_is; size_is = f.state.size_is; streams_are = f.state.streams_are; at_is = f.state.at_is };
        even = f.even;
        whole = f.whole;
        order = f.order;
      });
      more = begins_itself rest.written;
      has = λ has. written_same old.output new.output (names_of old.code) rest.written (ap (λ (m : Machine). m.output) moved) has;
      same = λ ans. ap (λ (m : Machine). flat.means tree p (config_of rest' m) ans) (sym moved);
    }

-- ---- the line

-- a complaint at the entry of a statement
pub complained_kept : (fault : Option LineFault) (old new : Machine) → KeepsComplaint fault old new → KeepsEntry (stack.Handles false) (completion.Faults fault) old new
complained_kept fault old new kept = λ tree p rest is f.
    let k = kept tree p rest is (record { program = f.program; state = f.state; even = f.even; whole = f.whole; order = f.order }) in
    record {
      rest = k.rest;
      code = k.code;
      fits = k.fits;
      more = k.more;
      has = k.has;
      same = λ ans.
          step_means _ tree p is (flat.config (flat.Unwind (Faults (complaint_if fault))) (flat.Handles false ∷ stack_in old) (state_in rest old)) ans ∙ k.same ans;
    }

-- no line
pub raised_kept : (old new : Machine) → (let x : Machine = record old { mode = mode.Unwind (completion.Raises (record { first = None; buffers = buffer_list.None })) } in new ≡ x) → KeepsComplaint None old new
raised_kept old new moved = λ tree p rest is f.
    record {
      rest = rest;
      code = ap (λ (m : Machine). m.code) moved;
      fits = subst (λ (n : Machine). FitsIn p rest n.mode n) (sym moved) (record { program = f.program; state = f.state; even = f.even; whole = f.whole; order = f.order });
      more = begins_itself rest.written;
      has = λ has. written_same old.output new.output (names_of old.code) rest.written (ap (λ (m : Machine). m.output) moved) has;
      same = λ ans. ap (λ (m : Machine). flat.means tree p (config_of rest m) ans) (sym moved);
    }

-- the line is written
pub line_kept : (fault : LineFault) (line : List ℕ) (old new : Machine) (output : Output) → ((p : Program) (rest : State) → IsProgramOf p old.code old.inputs → AreEven old.procedures.items old.memory → line ≡ line_of p (own_frame (state_in rest old).frames).procedure (complaint_in fault)) →
    (let x : Machine = record old { output = output; mode = mode.Unwind (completion.Raises (record { first = None; buffers = buffer_list.None })) } in new ≡ x) →
    nat_lt MAX_OUTPUT_BYTES (old.output.size + length line) ≡ false → output.size ≡ old.output.size + length line →
    ((names : List (List ℕ)) (pieces : List Piece) → HasWritten old.output names pieces → HasWritten output names (pieces ++ Wrote None line ∷ [])) →
    KeepsComplaint (Some fault) old new
line_kept fault line old new output is_line moved room size wrote_it = λ tree p rest is f.
    let x : Machine = record old { output = output; mode = mode.Unwind (completion.Raises (record { first = None; buffers = buffer_list.None })) } in
    let piece = Wrote None line in
    let rest' = rest_with piece rest in
    let s = state_in rest old in
    let wrote_line : complained p (Some (complaint_in fault)) s ≡ completed Normal (state_in rest' old) =
    ap (λ l. wrote (Wrote None l) s) (sym (is_line p rest f.program f.even)) ∙ wrote_fits piece rest old f.state room in
    record {
      rest = rest';
      code = ap (λ (m : Machine). m.code) moved;
      fits = subst (λ (n : Machine). FitsIn p rest' n.mode n) (sym moved) (record {
        program = f.program;
        state = written_fits piece rest old output f.state size;
        even = f.even;
        whole = f.whole;
        order = f.order;
      });
      more = (piece ∷ [], refl);
      has = λ has. written_same output new.output (names_of old.code) rest'.written (ap (λ (m : Machine). m.output) moved) (wrote_it (names_of old.code) rest.written has);
      same = λ ans.
          ap (λ w. flat.means tree p (flat.errs_step w (flat.Completes (Raises nothing_passed)) (stack_in old)) ans) wrote_line
          ∙ ap (λ (m : Machine). flat.means tree p (config_of rest' m) ans) (sym moved);
    }

-- the output is full
pub full_kept : (fault : LineFault) (line : List ℕ) (old new : Machine) (output : Output) → ((p : Program) (rest : State) → IsProgramOf p old.code old.inputs → AreEven old.procedures.items old.memory → line ≡ line_of p (own_frame (state_in rest old).frames).procedure (complaint_in fault)) →
    (let x : Machine = record old { output = output; mode = mode.Unwind (completion.Stops why.OutputFull) } in new ≡ x) → output ≡ old.output →
    nat_lt MAX_OUTPUT_BYTES (old.output.size + length line) ≡ true →
    KeepsComplaint (Some fault) old new
full_kept fault line old new output is_line moved same full = λ tree p rest is f.
    let x : Machine = record old { mode = mode.Unwind (completion.Stops why.OutputFull) } in
    let moved' : new ≡ x = moved ∙ ap (λ (o : Output). record old { output = o; mode = mode.Unwind (completion.Stops why.OutputFull) }) same in
    let piece = Wrote None line in
    let s = state_in rest old in
    let stops : complained p (Some (complaint_in fault)) s ≡ completed (Stops (client.Stop why.OutputFull)) s =
    ap (λ l. wrote (Wrote None l) s) (sym (is_line p rest f.program f.even)) ∙ wrote_full piece rest old f.state full in
    record {
      rest = rest;
      code = ap (λ (m : Machine). m.code) moved;
      fits = subst (λ (n : Machine). FitsIn p rest n.mode n) (sym moved') (record { program = f.program; state = f.state; even = f.even; whole = f.whole; order = tt });
      more = begins_itself rest.written;
      has = λ has. written_same old.output new.output (names_of old.code) rest.written (ap (λ (m : Machine). m.output) moved ∙ same) has;
      same = λ ans.
          ap (λ w. flat.means tree p (flat.errs_step w (flat.Completes (Raises nothing_passed)) (stack_in old)) ans) stops
          ∙ ap (λ (m : Machine). flat.means tree p (config_of rest m) ans) (sym moved');
    }
