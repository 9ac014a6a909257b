-- None of the answers to the operations of a client of a source text is Refused.
use Rattle.std.proofs.Common.{◌≡◌, ◌≢◌, refl, sym, ap, ◌∙◌, subst, ℕ, ◌<◌, ◌≤◌, List, [], ◌∷◌, ◌++◌, Option, Some, None, append_assoc, append-nil}
use Rattle.std.specs.Prelude.{IfSome}
use Rattle.std.proofs.lemmas.List.Elements.{All-append, All-cons, All-nil}
use Rattle.abl_values.specs.Schema.{SchemaData}
use Rattle.database_protocol.specs.declared.answer.Answer.TheVariants.{Refused}
use Rattle.database_protocol.specs.declared.ends.ClientEnd.{ClientEnd}
use Rattle.database_protocol.specs.declared.ends.ClientEnd.TheVariants.{NoMemory}
use Rattle.database_protocol.specs.declared.event.Event.{Event}
use Rattle.database_protocol.specs.declared.next_step.NextStep.{NextStep}
use Rattle.database_protocol.specs.declared.next_step.NextStep.TheVariants.{Ask, Ended}
use Rattle.database_protocol.specs.declared.operation.Op.{Op}
use Rattle.database_protocol.specs.declared.operation.Op.TheVariants as op
use Rattle.database_meaning.specs.declared.contents.Contents.{Contents}
use Rattle.database_meaning.specs.Answers.{HasOrder, IsWellFormed}
use Rattle.database_meaning.specs.Fits.{Fits as HasAnswer}
use Rattle.database_meaning.specs.Setting.{HasIndex, Setting}
use Rattle.database_meaning.specs.State.{depth_of}
use Rattle.database_meaning.specs.Traces.{left_by, opened}
use Rattle.turn_lock.specs.Journal.{own_entries}
use Rattle.bound_tree.specs.Tree.{Body}
use Rattle.block_meaning.specs.declared.wants.Piece.{Piece}
use Rattle.block_meaning.specs.Meaning.{asked, run}
use Rattle.block_meaning.specs.Program.{Program}
use Rattle.block_meaning.specs.State.{Progress}
use Rattle.flat_machine.specs.Code.{Code, IsCodeOf}
use Rattle.client_core.specs.ClientView.{ClientView}
use Rattle.client_runner.specs.Levels.{levels_left}
use Rattle.client_runner.specs.Meant.{AllFit, IsSureOf, RefusesOnlyUnsure, RefusesUnsureAfter, client_in}
use Rattle.client_runner.proofs.Levels.{levels_own}
use Rattle.client_threads.specs.session.Along.{Along, AsMeant, AsksEnd, IsOver, answers_in, operations_in}
use Rattle.client_threads.specs.clients.Outcome.{GivingUp, RanAsMeant, ToItsEnd}
use Rattle.client_threads.specs.runs.Unrefused.{RefusesRightly}
use Rattle.client_threads.proofs.RunsLemmas.Careful.{run_is}
use Rattle.client_threads.proofs.RunsLemmas.OwnEvents.{first_of, requested, rightly_unsure}
use Rattle.machine_laws.specs.levels.Reached.{IsInside}
use Rattle.machine_laws.specs.locks.Exclusive.{holds}
use Rattle.machine_laws.proofs.LocksLemmas.Exclusive.{exclusive_own}
use Rattle.machine_laws.specs.operations.HeldRows.{IsOfHeldRow}
use Rattle.machine_laws.specs.pending.Inserted.{IsInsertedInside}
use Rattle.machine_laws.specs.requests.Requested.{Requests}
use Rattle.machine_laws.proofs.RequestsLemmas.Requested.{requested_held, requested_inserted, requested_inside, requested_reached}
use Rattle.kind_laws.specs.bound_kinds.Kinds.{kinds_of_source}
use Rattle.kind_laws.specs.Operations.{IsOfSchema}
use Rattle.kind_laws.specs.Reached.{Ground, IsGround}
use Rattle.kind_laws.proofs.Runs.{asked_of_schema}
use Rattle.kind_laws.proofs.Texts.{text_ground}
use Rattle.command_laws.proofs.RefusalsLemmas.Coded.{program_has_code}
use Rattle.command_laws.specs.refusals.Unrefused.{IsNeverRefused, IsOfFile, NoneRefused}

-- ---- what is well formed

ordered : (setting : Setting) (table : ℕ) (index : Option ℕ) → IfSome index (HasIndex setting.schema table) → HasOrder setting table index
ordered setting table None h = tt
ordered setting table (Some i) h = h

well_formed : (setting : Setting) (contents : Contents) (trace : List Event) (n open_levels : ℕ) (own : List Event) (o : Op) → depth_of (left_by setting contents trace) n ≡ open_levels → own_entries client_in n trace ≡ own → IsInside open_levels o → IsInsertedInside open_levels o → IsOfHeldRow own o →
    IsOfSchema setting.schema o → IsWellFormed setting (left_by setting contents trace) n o
well_formed setting contents trace n open_levels own op.Enter depth mine inside inserted held schema = tt
well_formed setting contents trace n open_levels own (op.Leave keep) depth mine inside inserted held schema = subst (λ k. 0 < k) (sym depth) inside
well_formed setting contents trace n open_levels own (op.Back d) depth mine inside inserted held schema = (inside.0, subst (λ k. d ≤ k) (sym depth) inside.1)
well_formed setting contents trace n open_levels own (op.Next table index prefix cursor forward) depth mine inside inserted held schema = (schema.0, ordered setting table index schema.1)
well_formed setting contents trace n open_levels own (op.Get table row) depth mine inside inserted held schema = schema
well_formed setting contents trace n open_levels own (op.Lock table row exclusive wait) depth mine inside inserted held schema = schema
well_formed setting contents trace n open_levels own (op.Insert table values) depth mine inside inserted held schema = (schema.0, (schema.1, schema.2), subst (λ k. 0 < k) (sym depth) inserted)
well_formed setting contents trace n open_levels own (op.Put table row values) depth mine inside inserted held schema =
    (schema.0, (schema.1, schema.2), subst (λ k. 0 < k) (sym depth) inside, (exclusive_own setting contents n trace row.0).1 (ap (λ l. holds l row.0) mine ∙ held))
well_formed setting contents trace n open_levels own (op.Delete table row) depth mine inside inserted held schema =
    (schema, subst (λ k. 0 < k) (sym depth) inside, (exclusive_own setting contents n trace row.0).1 (ap (λ l. holds l row.0) mine ∙ held))
well_formed setting contents trace n open_levels own (op.Drop row) depth mine inside inserted held schema = tt
well_formed setting contents trace n open_levels own (op.NextValue sequence) depth mine inside inserted held schema = schema
well_formed setting contents trace n open_levels own (op.CurrentValue sequence) depth mine inside inserted held schema = schema
well_formed setting contents trace n open_levels own op.End depth mine inside inserted held schema = tt

-- an End is of every schema
but_end : (schema : SchemaData) (o : Op) → (o ≢ op.End → IsOfSchema schema o) → IsOfSchema schema o
but_end schema op.End h = tt
but_end schema op.Enter h = h (λ e. cc)
but_end schema (op.Leave keep) h = h (λ e. cc)
but_end schema (op.Back d) h = h (λ e. cc)
but_end schema (op.Next table index prefix cursor forward) h = h (λ e. cc)
but_end schema (op.Get table row) h = h (λ e. cc)
but_end schema (op.Lock table row exclusive wait) h = h (λ e. cc)
but_end schema (op.Insert table values) h = h (λ e. cc)
but_end schema (op.Put table row values) h = h (λ e. cc)
but_end schema (op.Delete table row) h = h (λ e. cc)
but_end schema (op.Drop row) h = h (λ e. cc)
but_end schema (op.NextValue sequence) h = h (λ e. cc)
but_end schema (op.CurrentValue sequence) h = h (λ e. cc)

-- ---- own events

one_unrefused : (own : List Event) (e : Event) → NoneRefused own → e.answer ≢ Refused → NoneRefused (own ++ e ∷ [])
one_unrefused own e none this = All-append (λ (e : Event). e.answer ≢ Refused) own (e ∷ []) none (All-cons (λ (e : Event). e.answer ≢ Refused) e [] this (All-nil (λ (e : Event). e.answer ≢ Refused)))

-- all but the last, and the last
refuses_first : (setting : Setting) (done own : List Event) (e : Event) → RefusesUnsureAfter setting done (own ++ e ∷ []) → RefusesUnsureAfter setting done own
refuses_first setting done [] e h = tt
refuses_first setting done (x ∷ own) e h = (h.0, refuses_first setting (done ++ x ∷ []) own e h.1)

refuses_last : (setting : Setting) (done own : List Event) (e : Event) → RefusesUnsureAfter setting done (own ++ e ∷ []) → e.answer ≡ Refused → ¬ IsSureOf setting e.client (done ++ own) e.op
refuses_last setting done [] e h refused = subst (λ (l : List Event). ¬ IsSureOf setting e.client l e.op) (sym (append-nil done)) (h.0 refused)
refuses_last setting done (x ∷ own) e h refused = subst (λ (l : List Event). ¬ IsSureOf setting e.client l e.op) (append_assoc done (x ∷ []) own) (refuses_last setting (done ++ x ∷ []) own e h.1 refused)

end_sure : (setting : Setting) (n : ℕ) (own : List Event) (o : Op) → o ≡ op.End → IsSureOf setting n own o
end_sure setting n own o is = λ contents trace mine. subst (λ o. IsWellFormed setting (left_by setting contents trace) n o) (sym is) tt

-- ---- a client of a text

module _ (file text : List ℕ) (code : Code) (p : Program) (tree : ℕ → Body) (units : ℕ) (setting : Setting) (of_file : IsOfFile file text setting.schema p) (denotes : IsCodeOf code p tree) where
  abbrev ground : Ground
  ground = record { program = p; code = code; tree = tree; schema = setting.schema; kinds = kinds_of_source of_file.read.syntax_of }

  is_ground : IsGround ground
  is_ground = text_ground file text ground (record { clean = of_file.clean; schema = of_file.schema_is; tables = of_file.tables; read = of_file.read; kinds = refl; denotes = denotes })

  -- after own events as the run requests, with fitting answers and none Refused, what it requests is sure to be well formed
  sure : (done : List Event) (o : Op) → operations_in done ≡ asked (run p units) (answers_in done) → AllFit setting done → NoneRefused done → (run p units (answers_in done)).wants ≡ Ask o → (n : ℕ) → IsSureOf setting n done o
  sure done o same fits unrefused is n contents before mine =
      let request : Requests (run p units) setting.schema done o = record { asked_so = same; fits = fits; unrefused = unrefused; wants = is } in
      well_formed setting contents before n (levels_left 0 done) done o (levels_own setting (opened contents) n before ∙ ap (levels_left 0) mine) mine (requested_inside code p tree setting.schema units done o denotes is_ground.flagged request)
      (requested_inserted code p tree setting.schema units done o denotes is_ground.flagged request) (requested_held code p tree setting.schema units done o denotes is_ground.flagged request)
      (but_end setting.schema o (λ other. let it = requested_reached code p tree setting.schema units done o denotes request other in asked_of_schema ground is_ground units done o it.on it.ks it.s it.reached))

  -- one event after the other
  each : (done rest : List Event) → operations_in (done ++ rest) ≡ asked (run p units) (answers_in (done ++ rest)) → AllFit setting (done ++ rest) → RefusesUnsureAfter setting done rest → NoneRefused done → NoneRefused (done ++ rest)
  each done [] asks fits refuses unrefused = subst NoneRefused (sym (append-nil done)) unrefused
  each done (e ∷ rest) asks fits refuses unrefused =
      let it = requested (run p units) (run_is p units) done e rest asks in
      let this : e.answer ≢ Refused = λ refused. refuses.0 refused (sure done e.op it.before (first_of (λ (e : Event). HasAnswer setting.schema e.op e.answer) done (e ∷ rest) fits) unrefused it.wants e.client) in
      let next : done ++ e ∷ rest ≡ (done ++ e ∷ []) ++ rest = sym (append_assoc done (e ∷ []) rest) in
      subst NoneRefused (sym next)
      (each (done ++ e ∷ []) rest (subst (λ l. operations_in l ≡ asked (run p units) (answers_in l)) next asks) (subst (AllFit setting) next fits) refuses.1 (one_unrefused done e unrefused this))

  own_unrefused : (own : List Event) → operations_in own ≡ asked (run p units) (answers_in own) → AllFit setting own → RefusesOnlyUnsure setting own → NoneRefused own
  own_unrefused own asks fits refuses = each [] own asks fits refuses (All-nil (λ (e : Event). e.answer ≢ Refused))

  -- the same, and then an End
  then_end : (before : List Event) (last : Event) → last.op ≡ op.End → operations_in before ≡ asked (run p units) (answers_in before) → AllFit setting (before ++ last ∷ []) → RefusesOnlyUnsure setting (before ++ last ∷ []) → NoneRefused (before ++ last ∷ [])
  then_end before last end asks fits refuses =
      one_unrefused before last (own_unrefused before asks (first_of (λ (e : Event). HasAnswer setting.schema e.op e.answer) before (last ∷ []) fits) (refuses_first setting [] before last refuses))
      (λ refused. refuses_last setting [] before last refuses refused (end_sure setting last.client before last.op end))

  -- a client at its end
  ran_unrefused : (own : List Event) (how : ClientEnd) (pieces : List Piece) → RanAsMeant (run p units) own how pieces → AllFit setting own → RefusesOnlyUnsure setting own → NoneRefused own
  ran_unrefused _ _ _ (ToItsEnd own how pieces asks ends) fits refuses = own_unrefused own asks fits refuses
  ran_unrefused _ _ _ (GivingUp before last pieces end asks gave) fits refuses = then_end before last end asks fits refuses

  -- a client at any point of its run
  at_a_point : (client : ClientView) (names : List (List ℕ)) (contents : Contents) (n : ℕ) (trace own : List Event) (next : NextStep) → own_entries client_in n trace ≡ own → Along client (record { names = names; run = run p units }) own next → AllFit setting own → RefusesOnlyUnsure setting own →
      IsNeverRefused setting contents n trace own next
  at_a_point client names contents n trace own next same (AsMeant waits agrees asks) fits refuses =
      let none = own_unrefused own asks fits refuses in
      record { none = none; next_is = λ o is. sure own o asks fits none (ap (λ (d : Progress). d.wants) agrees.meant ∙ is) n contents trace same }
  at_a_point client names contents n trace own next same (AsksEnd waits pieces given is_end asks) fits refuses =
      record { none = own_unrefused own asks fits refuses; next_is = λ o is. end_sure setting n own o (let y : Ask o ≡ Ask op.End = sym is ∙ is_end in cc) contents trace same }
  at_a_point client names contents n trace own next same (IsOver pieces before last has is_ended split end asks gave) fits refuses =
      record {
        none = subst NoneRefused (sym split) (then_end before last end asks (subst (AllFit setting) split fits) (subst (RefusesOnlyUnsure setting) split refuses));
        next_is = λ o is. absurd (let x : Ask o ≡ Ended NoMemory = sym is ∙ is_ended in cc);
      }

pub answers_unrefused : (file text : List ℕ) (p : Program) (units : ℕ) (setting : Setting) (own : List Event) (how : ClientEnd) (pieces : List Piece) → IsOfFile file text setting.schema p → RanAsMeant (run p units) own how pieces → AllFit setting own → RefusesOnlyUnsure setting own → NoneRefused own
answers_unrefused file text p units setting own how pieces of_file ran fits refuses = let c = program_has_code p in ran_unrefused file text c.code p c.tree units setting of_file c.denotes own how pieces ran fits refuses

pub clients_unrefused : (file text : List ℕ) (p : Program) (client : ClientView) (names : List (List ℕ)) (units : ℕ) (next : NextStep) (setting : Setting) (contents : Contents) (n : ℕ) (trace : List Event) →
    IsOfFile file text setting.schema p → Along client (record { names = names; run = run p units }) (own_entries client_in n trace) next →
    AllFit setting (own_entries client_in n trace) → RefusesRightly setting n trace → IsNeverRefused setting contents n trace (own_entries client_in n trace) next
clients_unrefused file text p client names units next setting contents n trace of_file along fits rightly =
    let c = program_has_code p in
    at_a_point file text c.code p c.tree units setting of_file c.denotes client names contents n trace (own_entries client_in n trace) next refl along fits (rightly_unsure setting n trace [] (own_entries client_in n trace) rightly refl)
