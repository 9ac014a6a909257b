-- IMPORT reads a line, and moves the place of its input.
use Rattle.std.proofs.Common.{◌≡◌, ℕ, List, [], ◌∷◌, ◌++◌, Bool, Option, Some, None, refl, sym, ap, ◌∙◌, subst}
use Rattle.std.specs.Prelude.{Vec, map, reverse, slice_index_or, slice_set}
use Rattle.std.specs.declared.alloc.Global.{Global}
use Rattle.std.proofs.lemmas.List.{reverse-append}
use Rattle.bound_tree.specs.declared.statement.Target.{Target}
use Rattle.abl_base.specs.text_forms.TextForms.{Imported}
use Rattle.block_meaning.specs.Program.{Program}
use Rattle.block_meaning.specs.State as state
use Rattle.block_meaning.specs.State.{State, nothing_passed}
use Rattle.block_meaning.specs.Streams as streams
use Rattle.block_meaning.specs.Streams.{stream_at, line_now, read_to, read_up_to}
use Rattle.block_meaning.proofs.Continues.{begins_itself}
use Rattle.flat_machine.specs.Flat as flat
use Rattle.flat_machine.specs.Steps.{import_step}
use Rattle.flat_machine.proofs.Machine.{step_means}
use Rattle.client_output.proofs.Unchanged.{written_same}
use Rattle.client_machine.specs.declared.inputs.Stream.{Stream}
use Rattle.client_machine.specs.declared.machine.Machine.{Machine}
use Rattle.client_machine.specs.declared.mode.PassedLevels.{PassedLevels}
use Rattle.client_machine.specs.declared.mode.ends.BufferList.TheVariants as buffer_list
use Rattle.client_machine.specs.declared.mode.Mode.TheVariants as mode
use Rattle.client_machine.specs.declared.mode.Completion.TheVariants as completion
use Rattle.client_machine.specs.declared.mode.Task.TheVariants as task
use Rattle.client_machine.specs.declared.mode.StackEntry.{StackEntry}
use Rattle.client_machine.specs.declared.mode.StackEntry.TheVariants as stack
use Rattle.client_machine.specs.Config.{stack_of}
use Rattle.client_machine.specs.Inputs.{names_of, stream_of}
use Rattle.client_machine.specs.KeepsFrom.{KeepsFrom}
use Rattle.client_machine.specs.Machine.{config_of, state_in}
use Rattle.client_machine.specs.Order.{nesting_of, ModeInOrder}
use Rattle.client_machine.specs.Step.{code_in, RestFits, FitsIn, RunKept}
use Rattle.client_streams.specs.Imports.{input_in, streams_read, own_read}
use Rattle.client_streams.specs.Statements.{under, no_stream}
use Rattle.client_streams.proofs.Effects.{stream_is, changed_is}

-- ---- the stream

stream_there : (rest : State) (m : Machine) (n : ℕ) → RestFits rest m → stream_at n rest ≡ stream_of (slice_index_or m.streams.items n no_stream)
stream_there rest m n f = ap (λ xs. slice_index_or xs n streams.no_stream) f.streams_are ∙ sym (stream_is m.streams.items n)

-- ---- the line

pub line_known : (line : Imported) (n : ℕ) (ts : List (Option Target)) (retry : Bool) (ks : List flat.StackEntry) (old new : Machine) →
    ((p : Program) (rest : State) → FitsIn p rest (mode.Unwind completion.Normal) old → line_now p n ts (state_in rest old) ≡ line) →
    KeepsFrom (λ p s. import_step line n ts retry ks s) old new →
    KeepsFrom (λ p s. flat.config (flat.Execute (flat.Imports n ts retry)) ks s) old new
line_known line n ts retry ks old new is_line keeps = λ tree p rest is f.
    let k = keeps tree p rest is f in
    record {
      rest = k.rest;
      code = k.code;
      fits = k.fits;
      more = k.more;
      has = k.has;
      same = λ ans. step_means (code_in old) tree p is (flat.config (flat.Execute (flat.Imports n ts retry)) ks (state_in rest old)) ans
          ∙ ap (λ l. flat.means tree p (import_step l n ts retry ks (state_in rest old)) ans) (is_line p rest f) ∙ k.same ans;
    }

-- ---- the place moves

read_fits : (o : Option ℕ) (n next : ℕ) (rest : State) (old : Machine) (xs : Vec Stream Global) (at : ℕ) → RestFits rest old →
    xs.items ≡ streams_read o n next old.streams.items → at ≡ own_read o next old.own_at →
    (let m : Machine = record old { streams = xs; own_at = at } in RestFits (read_up_to o n (stream_at n rest) next rest) m)
read_fits None n next rest old xs at f is own = record {
  made_is = f.made_is;
  status_is = f.status_is;
  returned_is = f.returned_is;
  size_is = f.size_is;
  streams_are = f.streams_are ∙ ap (map stream_of) (sym is);
  at_is = sym own;
}
read_fits (Some input) n next rest old xs at f is own =
    let change = λ (x : state.Stream). (let y : state.Stream = record x { at = next } in y) in
    let to = λ (x : Stream). (let y : Stream = record x { at = next } in y) in
    record {
      made_is = f.made_is;
      status_is = f.status_is;
      returned_is = f.returned_is;
      size_is = f.size_is;
      streams_are = ap (λ ss. slice_set ss n (change (slice_index_or ss n streams.no_stream))) f.streams_are ∙ changed_is to change (λ x. refl) old.streams.items n ∙ ap (map stream_of) (sym is);
      at_is = f.at_is ∙ sym own;
    }

read_in : (o : Option ℕ) (n next : ℕ) (x : state.Stream) (rest : State) (m : Machine) → state_in (read_up_to o n x next rest) m ≡ read_up_to o n x next (state_in rest m)
read_in None n next x rest m = refl
read_in (Some input) n next x rest m = refl

read_written : (o : Option ℕ) (n next : ℕ) (x : state.Stream) (rest : State) → (read_up_to o n x next rest).written ≡ rest.written
read_written None n next x rest = refl
read_written (Some input) n next x rest = refl

read_then : (n next : ℕ) (from : Program → State → flat.Config) (old new : Machine) (xs : Vec Stream Global) (at : ℕ) →
    xs.items ≡ streams_read (input_in old.streams.items n) n next old.streams.items → at ≡ own_read (input_in old.streams.items n) next old.own_at →
    (let m : Machine = record old { streams = xs; own_at = at } in KeepsFrom from m new) →
    KeepsFrom (λ p s. from p (read_to n next s)) old new
read_then n next from old new xs at is own keeps = λ tree p rest code f.
    let x = stream_at n rest in
    let o = x.input in
    let same : input_in old.streams.items n ≡ o = sym (ap (λ (y : state.Stream). y.input) (stream_there rest old n f.state)) in
    let fits = read_fits o n next rest old xs at f.state (is ∙ ap (λ o. streams_read o n next old.streams.items) same) (own ∙ ap (λ o. own_read o next old.own_at) same) in
    let rest' = read_up_to o n x next rest in
    let k = keeps tree p rest' code (record {
      program = f.program;
      state = record { made_is = fits.made_is; status_is = fits.status_is; returned_is = fits.returned_is; size_is = fits.size_is; streams_are = fits.streams_are; at_is = fits.at_is };
      even = f.even;
      whole = f.whole;
      order = f.order;
    }) in
    subst (λ pieces. RunKept tree p (from p (read_to n next (state_in rest old))) [] pieces old new) (read_written o n next x rest)
    (record {
      rest = k.rest;
      code = k.code;
      fits = k.fits;
      more = k.more;
      has = k.has;
      same = λ ans. ap (λ s. flat.means tree p (from p s) ans) (sym (read_in o n next x rest old)) ∙ k.same ans;
    })

pub read_kept : (n next : ℕ) (from : Program → State → flat.Config) (old m new : Machine) →
    (let x : Machine = record old { streams = m.streams; own_at = m.own_at } in m ≡ x) →
    m.streams.items ≡ streams_read (input_in old.streams.items n) n next old.streams.items → m.own_at ≡ own_read (input_in old.streams.items n) next old.own_at →
    KeepsFrom from m new → KeepsFrom (λ p s. from p (read_to n next s)) old new
read_kept n next from old m new moved is own keeps = read_then n next from old new m.streams m.own_at is own (subst (λ (y : Machine). KeepsFrom from y new) moved keeps)

-- ---- the end of the input

abbrev pub none_passed : PassedLevels
none_passed = record { first = None; buffers = buffer_list.None }

pub ended_kept : (quiet : Bool) (old new : Machine) (more : Vec StackEntry Global) (next left : ℕ) (retry : Bool) →
    (let x : Machine = record old { stack = more; mode = mode.Unwind (completion.EndKeys none_passed) } in new ≡ x) →
    more.items ≡ (old.stack.items ++ stack.Then (task.RunsFrom next left retry) ∷ []) ++ stack.Handles quiet ∷ [] →
    KeepsFrom (λ p s. flat.config (flat.Unwind (state.EndKeys nothing_passed)) (under old quiet next left retry) s) old new
ended_kept quiet old new more next left retry moved pushed = λ tree p rest code f.
    let below = stack.Then (task.RunsFrom next left retry) in
    let top : reverse more.items ≡ stack.Handles quiet ∷ below ∷ reverse old.stack.items =
    ap reverse pushed ∙ reverse-append (old.stack.items ++ below ∷ []) (stack.Handles quiet ∷ []) ∙ ap (λ zs. stack.Handles quiet ∷ zs) (reverse-append old.stack.items (below ∷ [])) in
    record {
      rest = rest;
      code = ap (λ (m : Machine). m.code) moved;
      fits = subst (λ (m : Machine). FitsIn p rest m.mode m) (sym moved) (record {
        program = f.program;
        state = record { made_is = f.state.made_is; status_is = f.state.status_is; returned_is = f.state.returned_is; size_is = f.state.size_is; streams_are = f.state.streams_are; at_is = f.state.at_is };
        even = f.even;
        whole = f.whole;
        order = subst (λ ks. ModeInOrder (nesting_of old.memory) (mode.Unwind (completion.EndKeys none_passed)) ks) (sym top) (tt, (tt, f.order.1));
      });
      more = begins_itself rest.written;
      has = λ has. written_same old.output new.output (names_of old.code) rest.written (ap (λ (m : Machine). m.output) moved) has;
      same = λ ans.
          ap (λ ks. flat.means tree p (flat.config (flat.Unwind (state.EndKeys nothing_passed)) (stack_of old.code.instrs.items old.memory.copies ks) (state_in rest old)) ans) (sym top)
          ∙ ap (λ (m : Machine). flat.means tree p (config_of rest m) ans) (sym moved);
    }
