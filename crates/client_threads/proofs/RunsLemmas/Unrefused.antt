-- None of the answers to the operations on levels of a client of block code is Refused.
use Rattle.std.proofs.Common.{◌≡◌, ◌≢◌, refl, sym, ap, ◌∙◌, subst, ℕ, ◌<◌, ◌≤◌, List, [], ◌∷◌, ◌++◌, append_assoc, append-nil}
use Rattle.std.proofs.lemmas.List.Elements.{All-append, All-cons, All-nil}
use Rattle.database_protocol.specs.declared.answer.Answer.TheVariants.{Refused}
use Rattle.database_protocol.specs.declared.ends.ClientEnd.TheVariants.{NoMemory}
use Rattle.database_protocol.specs.declared.event.Event.{Event}
use Rattle.database_protocol.specs.declared.next_step.NextStep.{NextStep}
use Rattle.database_protocol.specs.declared.next_step.NextStep.TheVariants.{Ask, Ended}
use Rattle.database_protocol.specs.declared.operation.Op.{Op}
use Rattle.database_protocol.specs.declared.operation.Op.TheVariants as op
use Rattle.database_meaning.specs.declared.contents.Contents.{Contents}
use Rattle.database_meaning.specs.Setting.{Setting}
use Rattle.database_meaning.specs.Answers.{IsWellFormed}
use Rattle.database_meaning.specs.Fits.{Fits as HasAnswer}
use Rattle.database_meaning.specs.State.{depth_of}
use Rattle.database_meaning.specs.Traces.{left_by}
use Rattle.turn_lock.specs.Journal.{own_entries}
use Rattle.block_meaning.specs.Meaning.{asked, run}
use Rattle.block_meaning.specs.Program.{Program}
use Rattle.block_meaning.specs.State.{Progress}
use Rattle.client_core.specs.ClientView.{ClientView}
use Rattle.client_runner.specs.Levels.{levels_left}
use Rattle.client_runner.specs.Meant.{AllFit, NoneIsRefused, client_in}
use Rattle.client_threads.specs.session.Along.{Along, AsMeant, AsksEnd, IsOnLevels, IsOpen, IsOver, answers_in, operations_in}
use Rattle.client_threads.proofs.SessionLemmas.Along.{LevelsAreOwn}
use Rattle.client_threads.specs.runs.Unrefused.{IsUnrefused, RefusesRightly}
use Rattle.client_threads.proofs.RunsLemmas.Careful.{run_is, run_is_careful}
use Rattle.client_threads.proofs.RunsLemmas.OwnEvents.{first_of, goes, requested}

-- ---- what is well formed

well_formed : (setting : Setting) (contents : Contents) (trace : List Event) (n open_levels : ℕ) (o : Op) → IsOnLevels o → depth_of (left_by setting contents trace) n ≡ open_levels → IsOpen open_levels o →
    IsWellFormed setting (left_by setting contents trace) n o
well_formed setting contents trace n open_levels op.Enter level depth is = tt
well_formed setting contents trace n open_levels (op.Leave keep) level depth is = subst (λ k. 0 < k) (sym depth) is
well_formed setting contents trace n open_levels (op.Back d) level depth is = (is.0, subst (λ k. d ≤ k) (sym depth) is.1)
well_formed setting contents trace n open_levels op.End level depth is = tt
well_formed setting contents trace n open_levels o level depth is = absurd level

module _ (law : LevelsAreOwn) (names : List (List ℕ)) (p : Program) (units : ℕ) (setting : Setting) (contents : Contents) (n : ℕ) where
  -- after own events as the run requests, with fitting answers and no operation on levels Refused, one that it requests is well formed
  formed : (done : List Event) (o : Op) → operations_in done ≡ asked (run p units) (answers_in done) → AllFit setting done → NoneIsRefused IsOnLevels done → (run p units (answers_in done)).wants ≡ Ask o → IsOnLevels o →
      (before : List Event) → own_entries client_in n before ≡ done → IsWellFormed setting (left_by setting contents before) n o
  formed done o same fits unrefused is level before own =
      well_formed setting contents before n (levels_left 0 done) o level (law setting contents n before ∙ ap (levels_left 0) own) (run_is_careful names p units setting done o same fits unrefused is)

  -- the events of a trace, one after the other, where the run has requested all but the last of them
  each : (trace done rest last : List Event) → own_entries client_in n trace ≡ done ++ (rest ++ last) → operations_in (done ++ rest) ≡ asked (run p units) (answers_in (done ++ rest)) → AllFit setting (done ++ rest) →
      RefusesRightly setting n trace → NoneIsRefused IsOnLevels done → NoneIsRefused IsOnLevels (done ++ rest)
  each trace done [] last same asks fits rightly unrefused = subst (NoneIsRefused IsOnLevels) (sym (append-nil done)) unrefused
  each trace done (e ∷ rest) last same asks fits rightly unrefused =
      let it = requested (run p units) (run_is p units) done e rest asks in
      let this : IsOnLevels e.op → e.answer ≢ Refused = λ level.
      goes setting contents n trace done e (rest ++ last) rightly same (formed done e.op it.before (first_of (λ (e : Event). HasAnswer setting.schema e.op e.answer) done (e ∷ rest) fits) unrefused it.wants level) in
      let next : done ++ e ∷ rest ≡ (done ++ e ∷ []) ++ rest = sym (append_assoc done (e ∷ []) rest) in
      let all : done ++ e ∷ (rest ++ last) ≡ (done ++ e ∷ []) ++ (rest ++ last) = sym (append_assoc done (e ∷ []) (rest ++ last)) in
      subst (NoneIsRefused IsOnLevels) (sym next)
      (each trace (done ++ e ∷ []) rest last (same ∙ all) (subst (λ l. operations_in l ≡ asked (run p units) (answers_in l)) next asks) (subst (AllFit setting) next fits) rightly
      (All-append (λ (e : Event). IsOnLevels e.op → e.answer ≢ Refused) done (e ∷ []) unrefused (All-cons (λ (e : Event). IsOnLevels e.op → e.answer ≢ Refused) e [] this (All-nil (λ (e : Event). IsOnLevels e.op → e.answer ≢ Refused)))))

  -- all but the last of a client's events
  unrefused_all : (trace own last : List Event) → own_entries client_in n trace ≡ own ++ last → operations_in own ≡ asked (run p units) (answers_in own) → AllFit setting own → RefusesRightly setting n trace → NoneIsRefused IsOnLevels own
  unrefused_all trace own last same asks fits rightly = each trace [] own last same asks fits rightly (All-nil (λ (e : Event). IsOnLevels e.op → e.answer ≢ Refused))

  -- a client at any point of its run
  at_a_point : (client : ClientView) (trace own : List Event) (next : NextStep) → own_entries client_in n trace ≡ own → Along client (record { names = names; run = run p units }) own next → AllFit setting own →
      RefusesRightly setting n trace → IsUnrefused setting contents n trace own next
  at_a_point client trace own next same (AsMeant waits agrees asks) fits rightly =
      let none = unrefused_all trace own [] (same ∙ sym (append-nil own)) asks fits rightly in
      record { none = none; next_is = λ o is level. formed own o asks fits none (ap (λ (d : Progress). d.wants) agrees.meant ∙ is) level trace same }
  at_a_point client trace own next same (AsksEnd waits pieces given is_end asks) fits rightly =
      record { none = unrefused_all trace own [] (same ∙ sym (append-nil own)) asks fits rightly; next_is = λ o is level. subst (λ o. IsWellFormed setting (left_by setting contents trace) n o) (let x : op.End ≡ o = (let y : Ask op.End ≡ Ask o = sym is_end ∙ is in cc) in x) tt }
  at_a_point client trace own next same (IsOver pieces before last has is_ended split end asks gave) fits rightly =
      let fit = first_of (λ (e : Event). HasAnswer setting.schema e.op e.answer) before (last ∷ []) (subst (AllFit setting) split fits) in
      record {
        none = subst (NoneIsRefused IsOnLevels) (sym split)
            (All-append (λ (e : Event). IsOnLevels e.op → e.answer ≢ Refused) before (last ∷ []) (unrefused_all trace before (last ∷ []) (same ∙ split) asks fit rightly)
            (All-cons (λ (e : Event). IsOnLevels e.op → e.answer ≢ Refused) last []
            (λ _. goes setting contents n trace before last [] rightly (same ∙ split) (λ earlier own. subst (λ o. IsWellFormed setting (left_by setting contents earlier) n o) (sym end) tt))
            (All-nil (λ (e : Event). IsOnLevels e.op → e.answer ≢ Refused))));
        next_is = λ o is level. absurd (let x : Ask o ≡ Ended NoMemory = sym is ∙ is_ended in cc);
      }

pub clients_unrefused : LevelsAreOwn → (client : ClientView) (names : List (List ℕ)) (p : Program) (units : ℕ) (next : NextStep) (setting : Setting) (contents : Contents) (n : ℕ) (trace : List Event) →
    Along client (record { names = names; run = run p units }) (own_entries client_in n trace) next → AllFit setting (own_entries client_in n trace) → RefusesRightly setting n trace →
    IsUnrefused setting contents n trace (own_entries client_in n trace) next
clients_unrefused law client names p units next setting contents n trace along fits rightly =
    at_a_point law names p units setting contents n client trace (own_entries client_in n trace) next refl along fits rightly
