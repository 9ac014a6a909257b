-- None of the answers in a run of works of source texts is Refused.
use Rattle.std.proofs.Common.{◌≡◌, ◌≢◌, refl, ap, subst, ℕ, zero, suc, ◌<◌, ◌+◌, List, [], ◌∷◌, Bool, true, false, arith, length}
use Rattle.std.specs.Prelude.{◌==◌, cond}
use Rattle.std.specs.List.{All}
use Rattle.std.proofs.lemmas.Bool.Decides.{nat_tests}
use Rattle.std.proofs.lemmas.List.Elements.{All-cons, All-head, All-nil, All-tail}
use Rattle.evaluator.specs.Forms.{the_forms}
use Rattle.value_formats.specs.Imports.{line_at}
use Rattle.database_protocol.specs.declared.answer.Answer.TheVariants.{Refused}
use Rattle.database_protocol.specs.declared.ends.ClientEnd.{ClientEnd}
use Rattle.database_protocol.specs.declared.event.Event.{Event}
use Rattle.client_output.specs.declared.section.Section.{Section}
use Rattle.database_meaning.specs.Setting.{Setting}
use Rattle.block_meaning.specs.Meaning.{run}
use Rattle.block_meaning.specs.Program.{Program}
use Rattle.client_threads.specs.clients.Outcome.{own_events}
use Rattle.client_threads.specs.served.ClientRun.{ClientOutcome}
use Rattle.client_threads.specs.served.Works.{DidAsMeant, IsProgram, Work}
use Rattle.command_laws.specs.refusals.Unrefused.{NoneRefused}
use Rattle.command_laws.specs.refusals.Works.{AreOfTexts, IsSchemaOfFile}
use Rattle.command_laws.proofs.RefusalsLemmas.Unrefused.{answers_unrefused}

-- ---- the events of each client, and all events

module _ (P : Event → Type 0) where
  own_first : (e : Event) (es : List Event) → own_events e.client (e ∷ es) ≡ e ∷ own_events e.client es
  own_first e es = let same : (e.client == e.client) ≡ true = grind (arith, nat_tests) in ap (λ (b : Bool). cond b (e ∷ own_events e.client es) (own_events e.client es)) same

  later_of : (b : Bool) (e : Event) (es : List Event) → All P (cond b (e ∷ es) es) → All P es
  later_of true e es h = All-tail P e es h
  later_of false e es h = h

  -- what holds of each client's own events holds of all
  pub all_own : (clients : ℕ) (trace : List Event) → All (λ (e : Event). e.client < clients) trace → ((n : ℕ) → n < clients → All P (own_events n trace)) → All P trace
  all_own clients [] of each = All-nil P
  all_own clients (e ∷ es) of each =
      let here = each e.client (All-head (λ (x : Event). x.client < clients) e es of) in
      All-cons P e es (All-head P e (own_events e.client es) (subst (All P) (own_first e es) here))
      (all_own clients es (All-tail (λ (x : Event). x.client < clients) e es of) (λ n less. later_of (e.client == n) e (own_events n es) (each n less)))

-- ---- a program that is the work

abbrev program_of : Work → Program
program_of w = record { tables = w.tables; source = w.tree; input = w.input; inputs = w.inputs; forms = record { masked = the_forms.masked; number_in = the_forms.number_in; line_at = line_at } }

is_program : (w : Work) → IsProgram w (program_of w)
is_program w = record { tables = refl; source = refl; input_is = refl; inputs_are = refl; forms = record { numbers = refl; masks = refl }; lines = refl }

-- ---- works

module _ (file : List ℕ) (setting : Setting) (of_file : IsSchemaOfFile file setting.schema) (units : ℕ) (trace : List Event) where
  -- the client of this number
  one_unrefused : (number : ℕ) (text : List ℕ) (w : Work) (how : ClientEnd) (sections : List Section) → AreOfTexts setting.schema (text ∷ []) (w ∷ []) →
      ((p : Program) → IsProgram w p → ClientOutcome setting w.tree.outputs (run p units) (own_events number trace) how sections) → NoneRefused (own_events number trace)
  one_unrefused number text w how sections of did =
      let it = did (program_of w) (is_program w) in
      answers_unrefused file text (program_of w) units setting (own_events number trace) how it.pieces
      (record { clean = of_file.clean; schema_is = of_file.is; tables = of.0.1; read = of.0.0 }) it.did it.fits it.refused

  -- and each of the others
  each_unrefused : (number : ℕ) (texts : List (List ℕ)) (works : List Work) (ends : List ClientEnd) (parts : List (List Section)) → AreOfTexts setting.schema texts works → DidAsMeant setting units trace number works ends parts →
      (k : ℕ) → k < length works → NoneRefused (own_events (number + k) trace)
  each_unrefused number texts [] ends parts of did k less = absurd (omega (arith, less))
  each_unrefused number [] (w ∷ ws) ends parts of did k less = absurd of
  each_unrefused number (text ∷ texts) (w ∷ ws) [] parts of did k less = absurd did
  each_unrefused number (text ∷ texts) (w ∷ ws) (how ∷ ends) [] of did k less = absurd did
  each_unrefused number (text ∷ texts) (w ∷ ws) (how ∷ ends) (sections ∷ parts) of did zero less =
      subst (λ (n : ℕ). NoneRefused (own_events n trace)) (omega arith) (one_unrefused number text w how sections (of.0, tt) did.0)
  each_unrefused number (text ∷ texts) (w ∷ ws) (how ∷ ends) (sections ∷ parts) of did (suc k) less =
      subst (λ (n : ℕ). NoneRefused (own_events n trace)) (omega arith) (each_unrefused (number + 1) texts ws ends parts of.1 did.1 k (omega (arith, less)))

  pub works_unrefused : (texts : List (List ℕ)) (works : List Work) (ends : List ClientEnd) (parts : List (List Section)) → AreOfTexts setting.schema texts works → DidAsMeant setting units trace 0 works ends parts →
      All (λ (e : Event). e.client < length works) trace → NoneRefused trace
  works_unrefused texts works ends parts of did clients = all_own (λ (e : Event). e.answer ≢ Refused) (length works) trace clients (λ n less. subst (λ (k : ℕ). NoneRefused (own_events k trace)) (omega arith) (each_unrefused 0 texts works ends parts of did n less))
