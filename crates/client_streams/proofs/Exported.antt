-- EXPORT of a buffer.
use Rattle.std.proofs.Common.{◌≡◌, ℕ, List, ◌∷◌, ◌++◌, length, refl, sym, ap, ◌∙◌, append_assoc}
use Rattle.std.specs.Prelude.{flat_map}
use Rattle.abl_base.specs.declared.value.Value.{Value}
use Rattle.abl_values.specs.Texts.{export_text}
use Rattle.block_meaning.specs.Frames.{content_of}
use Rattle.block_meaning.specs.Program.{Program}
use Rattle.block_meaning.specs.State.{Buffer, Content, Empty, Pending, Record, State}
use Rattle.block_meaning.specs.Values.{spaced}
use Rattle.flat_machine.specs.Flat as flat
use Rattle.flat_machine.specs.Steps.{export_step}
use Rattle.client_memory.specs.declared.buffer.Place.{Place}
use Rattle.client_memory.specs.Buffers.{denoted_place}
use Rattle.client_memory.specs.Memory.{buffer_at}
use Rattle.client_memory.proofs.FramesOut.{own_buffer_is}
use Rattle.client_machine.specs.declared.machine.Machine.{Machine}
use Rattle.client_machine.specs.declared.mode.Mode.TheVariants as mode
use Rattle.client_machine.specs.declared.mode.Completion.TheVariants as completion
use Rattle.client_machine.specs.KeepsFrom.{KeepsFrom}
use Rattle.client_machine.specs.Machine.{state_in}
use Rattle.client_machine.specs.Step.{FitsIn}
use Rattle.client_streams.proofs.LinesLemmas.Texts.{spaced_is}
use Rattle.client_streams.specs.Records.{record_text}

-- ---- the line of a row

pub one_row : (old mid new : List ℕ) (v : Value) (vs all : List Value) → all ≡ v ∷ vs → mid ≡ old ++ export_text v → new ≡ mid ++ flat_map (λ w. 32 ∷ export_text w) vs → new ≡ old ++ spaced export_text all
one_row old mid new v vs all is first others =
    others
    ∙ ap (λ (t : List ℕ). t ++ flat_map (λ w. 32 ∷ export_text w) vs) first
    ∙ append_assoc old (export_text v) (flat_map (λ w. 32 ∷ export_text w) vs)
    ∙ ap (λ (t : List ℕ). old ++ t) (sym (spaced_is export_text v vs))
    ∙ ap (λ (xs : List Value). old ++ spaced export_text xs) (sym is)

-- ---- what the buffer holds

-- the buffer of the running procedure in the memory is that of the state
pub content_is : (p : Program) (rest : State) (m : Machine) (at : Place) (b : ℕ) → at ≡ record { out = 0; number = b } → FitsIn p rest (mode.Unwind completion.Normal) m → content_of b (state_in rest m) ≡ (buffer_at (denoted_place at) m.memory).content
content_is p rest m at b is f =
    ap (λ (x : Buffer). x.content)
    (own_buffer_is (record rest { level = length m.memory.copies; units = m.units }) m.procedures.items m.memory b f.even ∙ ap (λ (x : Place). buffer_at (denoted_place x) m.memory) (sym is))

-- the step is that of a statement with this text
export_is : (c : Content) (n b : ℕ) (ks : List flat.StackEntry) (s : State) → export_step c n b ks s ≡ flat.given_text_step (record_text b c) n ks s
export_is Empty n b ks s = refl
export_is (Record row values held made) n b ks s = refl
export_is (Pending values since made) n b ks s = refl

pub record_kept : (old new : Machine) (n b : ℕ) (ks : List flat.StackEntry) → KeepsFrom (λ p s. flat.given_text_step (record_text b (content_of b s)) n ks s) old new → KeepsFrom (λ p s. export_step (content_of b s) n b ks s) old new
record_kept old new n b ks keeps = λ tree p rest code f.
    let k = keeps tree p rest code f in
    record {
      rest = k.rest;
      code = k.code;
      fits = k.fits;
      more = k.more;
      has = k.has;
      same = λ ans. ap (λ c. flat.means tree p c ans) (export_is (content_of b (state_in rest old)) n b ks (state_in rest old)) ∙ k.same ans;
    }
