-- What a statement of a stream does to the rest of the state.
use Rattle.std.proofs.Common.{◌≡◌, ℕ, zero, suc, ◌+◌, List, [], ◌∷◌, ◌++◌, Bool, true, false, Some, refl, sym, ap, ◌∙◌, subst, length, arith}
use Rattle.std.specs.Prelude.{Vec, map, reverse, nat_lt, slice_index_or, slice_set}
use Rattle.std.specs.declared.alloc.Global.{Global}
use Rattle.std.proofs.lemmas.List.{reverse-append, map-set}
use Rattle.abl_base.specs.declared.limits.TheConstants.{MAX_OUTPUT_BYTES}
use Rattle.database_protocol.specs.declared.ends.StopWhy.TheVariants as why
use Rattle.block_meaning.specs.declared.wants.Piece.{Piece}
use Rattle.block_meaning.specs.declared.wants.Piece.TheVariants.{Wrote, Opened}
use Rattle.block_meaning.specs.Program.{Program}
use Rattle.block_meaning.specs.State as state
use Rattle.block_meaning.specs.State.{State, wrote, bytes_in}
use Rattle.block_meaning.specs.Lines.{complaint_of}
use Rattle.block_meaning.specs.Values.{Text, IsText, HasFault, EvaluatedAll, GivesAll, FailsAll}
use Rattle.abl_base.specs.declared.value.Value.{Value}
use Rattle.expression_meaning.specs.declared.fault.RunFault.{RunFault}
use Rattle.client_streams.specs.lines.Writes.{line_text}
use Rattle.block_meaning.specs.Streams as streams
use Rattle.block_meaning.specs.Streams.{stream_at, with_stream}
use Rattle.block_meaning.proofs.Continues.{begins_itself}
use Rattle.flat_machine.specs.Flat as flat
use Rattle.client_output.specs.declared.output.Output.{Output}
use Rattle.client_output.specs.Written.{HasWritten}
use Rattle.client_output.proofs.Unchanged.{written_same}
use Rattle.client_machine.specs.declared.inputs.Stream.{Stream}
use Rattle.client_machine.specs.declared.machine.Machine.{Machine}
use Rattle.client_machine.specs.declared.mode.LineFault.{LineFault}
use Rattle.client_machine.specs.declared.mode.Mode.TheVariants as mode
use Rattle.client_machine.specs.declared.mode.Completion.TheVariants as completion
use Rattle.client_machine.specs.declared.mode.Task.TheVariants as task
use Rattle.client_machine.specs.declared.mode.StackEntry.{StackEntry}
use Rattle.client_machine.specs.declared.mode.StackEntry.TheVariants as stack
use Rattle.client_machine.specs.Config.{complaint_in, stack_of}
use Rattle.client_machine.specs.Inputs.{names_of, stream_of}
use Rattle.client_machine.specs.Machine.{config_of, state_in}
use Rattle.client_machine.specs.Order.{ModeInOrder, nesting_of}
use Rattle.client_machine.specs.Step.{RestFits, FitsIn}
use Rattle.client_machine.proofs.Faults.{rest_with, wrote_fits, wrote_full, written_fits}
use Rattle.client_machine.specs.KeepsFrom.{KeepsFrom}
use Rattle.client_streams.specs.Statements.{section_in, under, no_stream, with_output}

-- ---- streams

section_is : (xs : List Stream) (n : ℕ) → (slice_index_or (map stream_of xs) n streams.no_stream).output ≡ section_in xs n
section_is [] zero = refl
section_is [] (suc n) = refl
section_is (x ∷ xs) zero = refl
section_is (x ∷ xs) (suc n) = section_is xs n

pub writes_there : (rest : State) (m : Machine) (n : ℕ) → RestFits rest m → (stream_at n rest).output ≡ section_in m.streams.items n
writes_there rest m n f = ap (λ xs. (slice_index_or xs n streams.no_stream).output) f.streams_are ∙ section_is m.streams.items n

pub stream_is : (xs : List Stream) (n : ℕ) → stream_of (slice_index_or xs n no_stream) ≡ slice_index_or (map stream_of xs) n streams.no_stream
stream_is [] zero = refl
stream_is [] (suc n) = refl
stream_is (x ∷ xs) zero = refl
stream_is (x ∷ xs) (suc n) = stream_is xs n

-- a changed stream
pub changed_is : (to : Stream → Stream) (change : state.Stream → state.Stream) → ((x : Stream) → stream_of (to x) ≡ change (stream_of x)) → (xs : List Stream) (n : ℕ) →
    slice_set (map stream_of xs) n (change (slice_index_or (map stream_of xs) n streams.no_stream)) ≡ map stream_of (slice_set xs n (to (slice_index_or xs n no_stream)))
changed_is to change is xs n =
    ap (λ x. slice_set (map stream_of xs) n x) (ap change (sym (stream_is xs n)) ∙ sym (is (slice_index_or xs n no_stream)))
    ∙ sym (map-set stream_of xs n (to (slice_index_or xs n no_stream)))

-- ---- the state with other streams

abbrev pub rest_at : ℕ → (state.Stream → state.Stream) → State → State
rest_at n change rest = with_stream n (change (stream_at n rest)) rest

redirected_fits : (n : ℕ) (change : state.Stream → state.Stream) (rest : State) (old : Machine) (xs : Vec Stream Global) → RestFits rest old →
    slice_set (map stream_of old.streams.items) n (change (slice_index_or (map stream_of old.streams.items) n streams.no_stream)) ≡ map stream_of xs.items →
    (let x : Machine = record old { streams = xs } in RestFits (rest_at n change rest) x)
redirected_fits n change rest old xs f is = record {
  made_is = f.made_is;
  status_is = f.status_is;
  returned_is = f.returned_is;
  size_is = f.size_is;
  streams_are = ap (λ ss. slice_set ss n (change (slice_index_or ss n streams.no_stream))) f.streams_are ∙ is;
  at_is = f.at_is;
}

-- ---- the code runs on

-- a stream is redirected
pub redirected_kept : (n : ℕ) (change : state.Stream → state.Stream) (old new : Machine) (xs : Vec Stream Global) (next left : ℕ) (retry : Bool) →
    (let x : Machine = record old { streams = xs; mode = mode.Execute (task.RunsFrom next left retry) } in new ≡ x) →
    slice_set (map stream_of old.streams.items) n (change (slice_index_or (map stream_of old.streams.items) n streams.no_stream)) ≡ map stream_of xs.items →
    KeepsFrom (λ p s. flat.config (flat.Unwind state.Normal) (under old false next left retry) (rest_at n change s)) old new
redirected_kept n change old new xs next left retry moved is = λ tree p rest code f.
    let rest' = rest_at n change rest in
    let fits = redirected_fits n change rest old xs f.state is in
    record {
      rest = rest';
      code = ap (λ (m : Machine). m.code) moved;
      fits = subst (λ (m : Machine). FitsIn p rest' m.mode m) (sym moved) (record {
        program = f.program;
        state = record { made_is = fits.made_is; status_is = fits.status_is; returned_is = fits.returned_is; size_is = fits.size_is; streams_are = fits.streams_are; at_is = fits.at_is };
        even = f.even;
        whole = f.whole;
        order = f.order;
      });
      more = begins_itself rest.written;
      has = λ has. written_same old.output new.output (names_of old.code) rest.written (ap (λ (m : Machine). m.output) moved) has;
      same = λ ans. ap (λ (m : Machine). flat.means tree p (config_of rest' m) ans) (sym moved);
    }

-- a text is written
pub wrote_kept : (n : ℕ) (text : List ℕ) (old new : Machine) (output : Output) (next left : ℕ) (retry : Bool) →
    (let x : Machine = record old { output = output; mode = mode.Execute (task.RunsFrom next left retry) } in new ≡ x) →
    nat_lt MAX_OUTPUT_BYTES (old.output.size + length text) ≡ false → output.size ≡ old.output.size + length text →
    ((names : List (List ℕ)) (pieces : List Piece) → HasWritten old.output names pieces → HasWritten output names (pieces ++ Wrote (section_in old.streams.items n) text ∷ [])) →
    KeepsFrom (λ p s. flat.ends_as (flat.wrote_to n text s) (under old false next left retry)) old new
wrote_kept n text old new output next left retry moved room size wrote_it = λ tree p rest code f.
    let piece = Wrote (section_in old.streams.items n) text in
    let rest' = rest_with piece rest in
    let fits = written_fits piece rest old output f.state size in
    record {
      rest = rest';
      code = ap (λ (m : Machine). m.code) moved;
      fits = subst (λ (m : Machine). FitsIn p rest' m.mode m) (sym moved) (record {
        program = f.program;
        state = record { made_is = fits.made_is; status_is = fits.status_is; returned_is = fits.returned_is; size_is = fits.size_is; streams_are = fits.streams_are; at_is = fits.at_is };
        even = f.even;
        whole = f.whole;
        order = f.order;
      });
      more = (piece ∷ [], refl);
      has = λ has. written_same output new.output (names_of old.code) rest'.written (ap (λ (m : Machine). m.output) moved) (wrote_it (names_of old.code) rest.written has);
      same = λ ans.
          ap (λ w. flat.means tree p (flat.ends_as w (under old false next left retry)) ans)
          (ap (λ o. wrote (Wrote o text) (state_in rest old)) (writes_there rest old n f.state) ∙ wrote_fits piece rest old f.state room)
          ∙ ap (λ (m : Machine). flat.means tree p (config_of rest' m) ans) (sym moved);
    }

-- the output is full
pub full_kept : (n : ℕ) (text : List ℕ) (old new : Machine) (output : Output) (next left : ℕ) (retry : Bool) →
    (let x : Machine = record old { output = output; mode = mode.Unwind (completion.Stops why.OutputFull) } in new ≡ x) → output ≡ old.output →
    nat_lt MAX_OUTPUT_BYTES (old.output.size + length text) ≡ true →
    KeepsFrom (λ p s. flat.ends_as (flat.wrote_to n text s) (under old false next left retry)) old new
full_kept n text old new output next left retry moved' same full = λ tree p rest code f.
    let x : Machine = record old { mode = mode.Unwind (completion.Stops why.OutputFull) } in
    let moved : new ≡ x = moved' ∙ ap (λ (o : Output). record old { output = o; mode = mode.Unwind (completion.Stops why.OutputFull) }) same in
    let piece = Wrote (section_in old.streams.items n) text in
    record {
      rest = rest;
      code = ap (λ (m : Machine). m.code) moved;
      fits = subst (λ (m : Machine). FitsIn p rest m.mode m) (sym moved) (record { program = f.program; state = f.state; even = f.even; whole = f.whole; order = tt });
      more = begins_itself rest.written;
      has = λ has. written_same old.output new.output (names_of old.code) rest.written (ap (λ (m : Machine). m.output) moved) has;
      same = λ ans.
          ap (λ w. flat.means tree p (flat.ends_as w (under old false next left retry)) ans)
          (ap (λ o. wrote (Wrote o text) (state_in rest old)) (writes_there rest old n f.state) ∙ wrote_full piece rest old f.state full)
          ∙ ap (λ (m : Machine). flat.means tree p (config_of rest m) ans) (sym moved);
    }

-- a fault
pub failed_kept : (fault : LineFault) (quiet : Bool) (old new : Machine) (more : Vec StackEntry Global) (next left : ℕ) (retry : Bool) →
    (let x : Machine = record old { stack = more; mode = mode.Unwind (completion.Faults (Some fault)) } in new ≡ x) →
    more.items ≡ (old.stack.items ++ stack.Then (task.RunsFrom next left retry) ∷ []) ++ stack.Handles quiet ∷ [] →
    KeepsFrom (λ p s. flat.fault (complaint_in fault) (under old quiet next left retry) s) old new
failed_kept fault quiet old new more next left retry moved pushed = λ tree p rest code f.
    let below = stack.Then (task.RunsFrom next left retry) in
    let top : reverse more.items ≡ stack.Handles quiet ∷ below ∷ reverse old.stack.items =
    ap reverse pushed ∙ reverse-append (old.stack.items ++ below ∷ []) (stack.Handles quiet ∷ []) ∙ ap (λ zs. stack.Handles quiet ∷ zs) (reverse-append old.stack.items (below ∷ [])) in
    record {
      rest = rest;
      code = ap (λ (m : Machine). m.code) moved;
      fits = subst (λ (m : Machine). FitsIn p rest m.mode m) (sym moved) (record {
        program = f.program;
        state = record { made_is = f.state.made_is; status_is = f.state.status_is; returned_is = f.state.returned_is; size_is = f.state.size_is; streams_are = f.state.streams_are; at_is = f.state.at_is };
        even = f.even;
        whole = f.whole;
        order = subst (λ ks. ModeInOrder (nesting_of old.memory) (mode.Unwind (completion.Faults (Some fault))) ks) (sym top) (tt, (tt, f.order.1));
      });
      more = begins_itself rest.written;
      has = λ has. written_same old.output new.output (names_of old.code) rest.written (ap (λ (m : Machine). m.output) moved) has;
      same = λ ans.
          ap (λ ks. flat.means tree p (flat.config (flat.Unwind (state.Faults (Some (complaint_in fault)))) (stack_of old.code.instrs.items old.memory.copies ks) (state_in rest old)) ans) (sym top)
          ∙ ap (λ (m : Machine). flat.means tree p (config_of rest m) ans) (sym moved);
    }

-- ---- a text that is evaluated

pub text_known : (wanted : Program → State → Text) (text : List ℕ) (old new : Machine) (n next left : ℕ) (retry : Bool) →
    ((p : Program) (rest : State) → FitsIn p rest (mode.Unwind completion.Normal) old → wanted p (state_in rest old) ≡ IsText text) →
    KeepsFrom (λ p s. flat.ends_as (flat.wrote_to n text s) (under old false next left retry)) old new →
    KeepsFrom (λ p s. flat.given_text_step (wanted p s) n (under old false next left retry) s) old new
text_known wanted text old new n next left retry gives keeps = λ tree p rest code f.
    let k = keeps tree p rest code f in
    record {
      rest = k.rest;
      code = k.code;
      fits = k.fits;
      more = k.more;
      has = k.has;
      same = λ ans. ap (λ t. flat.means tree p (flat.given_text_step t n (under old false next left retry) (state_in rest old)) ans) (gives p rest f) ∙ k.same ans;
    }

pub text_fails : (wanted : Program → State → Text) (fault : RunFault) (old new : Machine) (n next left : ℕ) (retry : Bool) →
    ((p : Program) (rest : State) → FitsIn p rest (mode.Unwind completion.Normal) old → wanted p (state_in rest old) ≡ HasFault (complaint_of fault)) →
    KeepsFrom (λ p s. flat.fault (complaint_of fault) (under old false next left retry) s) old new →
    KeepsFrom (λ p s. flat.given_text_step (wanted p s) n (under old false next left retry) s) old new
text_fails wanted fault old new n next left retry fails keeps = λ tree p rest code f.
    let k = keeps tree p rest code f in
    record {
      rest = k.rest;
      code = k.code;
      fits = k.fits;
      more = k.more;
      has = k.has;
      same = λ ans. ap (λ t. flat.means tree p (flat.given_text_step t n (under old false next left retry) (state_in rest old)) ans) (fails p rest f) ∙ k.same ans;
    }

-- a text is a line of values
pub line_step : (line : List Value → List ℕ) (r : EvaluatedAll) (n : ℕ) (ks : List flat.StackEntry) (s : State) →
    flat.given_all_step r (λ vs s. flat.ends_as (flat.wrote_to n (line vs) s) ks) ks s ≡ flat.given_text_step (line_text line r) n ks s
line_step line (GivesAll vs) n ks s = refl
line_step line (FailsAll c) n ks s = refl

pub line_kept : (line : List Value → List ℕ) (r : Program → State → EvaluatedAll) (old new : Machine) (n : ℕ) (ks : List flat.StackEntry) →
    KeepsFrom (λ p s. flat.given_text_step (line_text line (r p s)) n ks s) old new →
    KeepsFrom (λ p s. flat.given_all_step (r p s) (λ vs s. flat.ends_as (flat.wrote_to n (line vs) s) ks) ks s) old new
line_kept line r old new n ks keeps = λ tree p rest code f.
    let k = keeps tree p rest code f in
    record {
      rest = k.rest;
      code = k.code;
      fits = k.fits;
      more = k.more;
      has = k.has;
      same = λ ans. ap (λ c. flat.means tree p c ans) (line_step line (r p (state_in rest old)) n ks (state_in rest old)) ∙ k.same ans;
    }

-- ---- an output is opened

-- the state of OUTPUT TO
abbrev pub opening_rest : ℕ → ℕ → State → State
opening_rest n output rest = rest_at n (λ x. record x { output = Some output }) rest

opening_fits : (n o : ℕ) (rest : State) (old : Machine) (xs : Vec Stream Global) → RestFits rest old → xs.items ≡ with_output n (Some o) old.streams.items →
    (let x : Machine = record old { streams = xs } in RestFits (opening_rest n o rest) x)
opening_fits n o rest old xs f is =
    redirected_fits n (λ x. record x { output = Some o }) rest old xs f
    (changed_is (λ x. record x { output = Some o }) (λ x. record x { output = Some o }) (λ x. refl) old.streams.items n ∙ ap (map stream_of) (sym is))

pub opened_kept : (n o : ℕ) (append : Bool) (old new : Machine) (output : Output) (xs : Vec Stream Global) (next left : ℕ) (retry : Bool) →
    (let x : Machine = record old { output = output; streams = xs; mode = mode.Execute (task.RunsFrom next left retry) } in new ≡ x) →
    xs.items ≡ with_output n (Some o) old.streams.items →
    nat_lt MAX_OUTPUT_BYTES old.output.size ≡ false → output.size ≡ old.output.size →
    ((pieces : List Piece) → HasWritten old.output (names_of old.code) pieces → HasWritten output (names_of old.code) (pieces ++ Opened o append ∷ [])) →
    KeepsFrom (λ p s. flat.ends_as (wrote (Opened o append) (opening_rest n o s)) (under old false next left retry)) old new
opened_kept n o append old new output xs next left retry moved is room size opened = λ tree p rest code f.
    let piece = Opened o append in
    let mid : Machine = record old { streams = xs } in
    let fits' = opening_fits n o rest old xs f.state is in
    let rest' = rest_with piece (opening_rest n o rest) in
    let plus : output.size ≡ mid.output.size + bytes_in piece = omega (arith, size) in
    let room' : nat_lt MAX_OUTPUT_BYTES (mid.output.size + bytes_in piece) ≡ false = ap (nat_lt MAX_OUTPUT_BYTES) (omega arith) ∙ room in
    let fits = written_fits piece (opening_rest n o rest) mid output fits' plus in
    record {
      rest = rest';
      code = ap (λ (m : Machine). m.code) moved;
      fits = subst (λ (m : Machine). FitsIn p rest' m.mode m) (sym moved) (record {
        program = f.program;
        state = record { made_is = fits.made_is; status_is = fits.status_is; returned_is = fits.returned_is; size_is = fits.size_is; streams_are = fits.streams_are; at_is = fits.at_is };
        even = f.even;
        whole = f.whole;
        order = f.order;
      });
      more = (piece ∷ [], refl);
      has = λ has. written_same output new.output (names_of old.code) rest'.written (ap (λ (m : Machine). m.output) moved) (opened rest.written has);
      same = λ ans.
          ap (λ w. flat.means tree p (flat.ends_as w (under old false next left retry)) ans) (wrote_fits piece (opening_rest n o rest) mid fits' room')
          ∙ ap (λ (m : Machine). flat.means tree p (config_of rest' m) ans) (sym moved);
    }

pub not_opened_kept : (n o : ℕ) (append : Bool) (old new : Machine) (output : Output) (xs : Vec Stream Global) (next left : ℕ) (retry : Bool) →
    (let x : Machine = record old { output = output; streams = xs; mode = mode.Unwind (completion.Stops why.OutputFull) } in new ≡ x) →
    xs.items ≡ with_output n (Some o) old.streams.items → output ≡ old.output →
    nat_lt MAX_OUTPUT_BYTES old.output.size ≡ true →
    KeepsFrom (λ p s. flat.ends_as (wrote (Opened o append) (opening_rest n o s)) (under old false next left retry)) old new
not_opened_kept n o append old new output xs next left retry moved' is same full = λ tree p rest code f.
    let x : Machine = record old { streams = xs; mode = mode.Unwind (completion.Stops why.OutputFull) } in
    let moved : new ≡ x = moved' ∙ ap (λ (y : Output). record old { output = y; streams = xs; mode = mode.Unwind (completion.Stops why.OutputFull) }) same in
    let piece = Opened o append in
    let mid : Machine = record old { streams = xs } in
    let fits = opening_fits n o rest old xs f.state is in
    let rest' = opening_rest n o rest in
    let full' : nat_lt MAX_OUTPUT_BYTES (mid.output.size + bytes_in piece) ≡ true = ap (nat_lt MAX_OUTPUT_BYTES) (omega arith) ∙ full in
    record {
      rest = rest';
      code = ap (λ (m : Machine). m.code) moved;
      fits = subst (λ (m : Machine). FitsIn p rest' m.mode m) (sym moved) (record {
        program = f.program;
        state = record { made_is = fits.made_is; status_is = fits.status_is; returned_is = fits.returned_is; size_is = fits.size_is; streams_are = fits.streams_are; at_is = fits.at_is };
        even = f.even;
        whole = f.whole;
        order = tt;
      });
      more = begins_itself rest.written;
      has = λ has. written_same old.output new.output (names_of old.code) rest.written (ap (λ (m : Machine). m.output) moved) has;
      same = λ ans.
          ap (λ w. flat.means tree p (flat.ends_as w (under old false next left retry)) ans) (wrote_full piece rest' mid fits full')
          ∙ ap (λ (m : Machine). flat.means tree p (config_of rest' m) ans) (sym moved);
    }
