-- A run and the machine go along with the client's own events, one after the other.
use Rattle.std.proofs.Common.{◌≡◌, ◌≢◌, ◌⊎◌, inl, inr, refl, sym, ap, ◌∙◌, subst, ℕ, zero, suc, List, [], ◌∷◌, ◌++◌, append_assoc, append-nil}
use Rattle.std.specs.List.{All}
use Rattle.std.proofs.lemmas.List.Elements.{All-head, All-tail}
use Rattle.abl_values.specs.Schema.{SchemaData}
use Rattle.bound_tree.specs.Tree.{Body}
use Rattle.database_protocol.specs.declared.answer.Answer.{Answer}
use Rattle.database_protocol.specs.declared.answer.Answer.TheVariants.{Refused}
use Rattle.database_protocol.specs.declared.event.Event.{Event}
use Rattle.database_protocol.specs.declared.next_step.NextStep.TheVariants.{Ask, Ended}
use Rattle.database_protocol.specs.declared.operation.Op.{Op}
use Rattle.database_protocol.specs.declared.operation.Op.TheVariants as op
use Rattle.database_meaning.specs.Fits.{Fits}
use Rattle.block_meaning.specs.Meaning.{asked, end_of, finished, op_of, run}
use Rattle.block_meaning.specs.Program.{Program}
use Rattle.block_meaning.specs.State.{Completion, Progress, State}
use Rattle.flat_machine.specs.Code.{Code, IsCodeOf}
use Rattle.flat_machine.specs.Config.{Await, Config, Execute, Mode, OnAnswer, StackEntry, Unwind}
use Rattle.flat_machine.specs.Machine.{answered, first_config, step}
use Rattle.flat_machine.specs.Means.{means}
use Rattle.flat_machine.specs.Steps.{config}
use Rattle.flat_machine.proofs.Machine.{answered_means, asks_means, first_config_means, step_means}
use Rattle.client_runner.specs.Levels.{levels_left}
use Rattle.machine_laws.specs.units.Spending.{after_steps}
use Rattle.machine_laws.specs.halts.Halted.{HaltsIn}
use Rattle.machine_laws.proofs.HaltsLemmas.Runs.{halts}
use Rattle.machine_laws.specs.levels.Flagged.{IsFlaggedProgram}
use Rattle.machine_laws.specs.levels.Reached.{IsInside, Reached, answers, begins, steps}
use Rattle.machine_laws.proofs.LevelsLemmas.Runs.{changes_inside}
use Rattle.machine_laws.specs.operations.HeldRows.{IsOfHeldRow}
use Rattle.machine_laws.proofs.OperationsLemmas.Runs.{changes_held}
use Rattle.machine_laws.specs.pending.Inserted.{IsInsertedInside}
use Rattle.machine_laws.proofs.PendingLemmas.Runs.{inserted_inside}
use Rattle.machine_laws.specs.requests.Requested.{IsReached, Requests, answers_in, operations_in}

head_same : (o q : Op) (os qs : List Op) → o ∷ os ≡ q ∷ qs → (o ≡ q) × (os ≡ qs)
head_same o q os qs e = (cc, cc)

same_ask : (o q : Op) → Ask o ≡ Ask q → o ≡ q
same_ask o q e = cc

module _ (code : Code) (p : Program) (tree : ℕ → Body) (denotes : IsCodeOf code p tree) (schema : SchemaData) (units : ℕ) where
  -- ---- steps

  steps_mean : (n : ℕ) (c : Config) (ans : List Answer) → means tree p c ans ≡ means tree p (after_steps code p n c) ans
  steps_mean zero c ans = refl
  steps_mean (suc n) c ans = step_means code tree p denotes c ans ∙ steps_mean n (step code p c) ans

  steps_reach : (n : ℕ) (own : List Event) (c : Config) → Reached code p schema units own c → Reached code p schema units own (after_steps code p n c)
  steps_reach zero own c r = r
  steps_reach (suc n) own c r = steps_reach n own (step code p c) (steps own c r)

  -- ---- events

  -- the run continues as the machine does
  abbrev Follows : (List Answer → Progress) → Config → Type 0
  Follows m c = (ans : List Answer) → m ans ≡ finished (means tree p c ans)

  abbrev AllUnrefused : List Event → Type 0
  AllUnrefused own = All (λ (e : Event). e.answer ≢ Refused) own

  abbrev AllFit : List Event → Type 0
  AllFit own = All (λ (e : Event). Fits schema e.op e.answer) own

  -- a run that is over requests nothing but End
  over_wants : (m : List Answer → Progress) (completion : Completion) (s : State) → Follows m (config (Unwind completion) [] s) → (own : List Event) (o : Op) → (m (answers_in own)).wants ≡ Ask o → o ≡ op.End
  over_wants m completion s same [] o w = sym (same_ask op.End o (sym (ap (λ (d : Progress). d.wants) (same [])) ∙ w))
  over_wants m completion s same (e ∷ own) o w =
      absurd (let x : Ended (end_of completion s) ≡ Ask o = sym (ap (λ (d : Progress). d.wants) (same (answers_in (e ∷ own)))) ∙ w in cc)

  -- the machine awaits the answer to what the run wants
  awaits_wants : (m : List Answer → Progress) (q : Op) (on : OnAnswer) (ks : List StackEntry) (s : State) → Follows m (config (Await q on) ks s) → (m []).wants ≡ Ask q
  awaits_wants m q on ks s same = ap (λ (d : Progress). d.wants) (same [] ∙ ap finished (asks_means tree p q on ks s))

  -- from a configuration that has halted
  halted : (done : List Event) (mode : Mode) (ks : List StackEntry) (s : State) → HaltsIn mode ks → Reached code p schema units done (config mode ks s) → (m : List Answer → Progress) → Follows m (config mode ks s) → (own : List Event) (o : Op) →
      operations_in own ≡ asked m (answers_in own) → AllFit own → AllUnrefused own → (m (answers_in own)).wants ≡ Ask o → o ≢ op.End → IsReached code p schema units (done ++ own) o
  halted done (Execute t) ks s h r m same own o asks fits unrefused wants goes = absurd h
  halted done (Unwind completion) (k ∷ ks) s h r m same own o asks fits unrefused wants goes = absurd h
  halted done (Unwind completion) [] s h r m same own o asks fits unrefused wants goes = absurd (goes (over_wants m completion s same own o wants))
  halted done (Await q on) ks s h r m same [] o asks fits unrefused wants goes =
      let is : q ≡ o = same_ask q o (sym (awaits_wants m q on ks s same) ∙ wants) in
      subst (λ own. IsReached code p schema units own o) (sym (append-nil done)) (subst (λ o. IsReached code p schema units done o) is (record { on = on; ks = ks; s = s; reached = r }))
  halted done (Await q on) ks s h r m same (e ∷ own) o asks fits unrefused wants goes =
      let both = head_same e.op q (operations_in own) (asked (λ more. m (e.answer ∷ more)) (answers_in own)) (asks ∙ ap (λ w. op_of w ++ asked (λ more. m (e.answer ∷ more)) (answers_in own)) (awaits_wants m q on ks s same)) in
      let at : Reached code p schema units done (config (Await e.op on) ks s) = subst (λ q. Reached code p schema units done (config (Await q on) ks s)) (sym both.0) r in
      let next : Reached code p schema units (done ++ e ∷ []) (answered p e.answer e.op on ks s) = answers done e on ks s (All-head (λ (e : Event). Fits schema e.op e.answer) e own fits) (All-head (λ (e : Event). e.answer ≢ Refused) e own unrefused) at in
      let goes_on : Follows (λ more. m (e.answer ∷ more)) (answered p e.answer e.op on ks s) =
      λ ans. same (e.answer ∷ ans) ∙ ap finished (ap (λ q. means tree p (config (Await q on) ks s) (e.answer ∷ ans)) (sym both.0) ∙ answered_means tree p e.answer e.op on ks s ans) in
      let n = halts code p (answered p e.answer e.op on ks s) in
      let d = after_steps code p n.0 (answered p e.answer e.op on ks s) in
      subst (λ all. IsReached code p schema units all o) (append_assoc done (e ∷ []) own)
      (halted (done ++ e ∷ []) d.mode d.stack d.state n.1 (steps_reach n.0 (done ++ e ∷ []) (answered p e.answer e.op on ks s) next) (λ more. m (e.answer ∷ more)) (λ ans. goes_on ans ∙ ap finished (steps_mean n.0 (answered p e.answer e.op on ks s) ans)) own o both.1
      (All-tail (λ (e : Event). Fits schema e.op e.answer) e own fits) (All-tail (λ (e : Event). e.answer ≢ Refused) e own unrefused) wants goes)

  -- from any configuration
  from : (done : List Event) (c : Config) → Reached code p schema units done c → (m : List Answer → Progress) → Follows m c → (own : List Event) (o : Op) → operations_in own ≡ asked m (answers_in own) → AllFit own → AllUnrefused own →
      (m (answers_in own)).wants ≡ Ask o → o ≢ op.End → IsReached code p schema units (done ++ own) o
  from done c r m same own o asks fits unrefused wants goes =
      let h = halts code p c in
      let d = after_steps code p h.0 c in
      halted done d.mode d.stack d.state h.1 (steps_reach h.0 done c r) m (λ ans. same ans ∙ ap finished (steps_mean h.0 c ans)) own o asks fits unrefused wants goes

pub requested_reached : (code : Code) (p : Program) (tree : ℕ → Body) (schema : SchemaData) (units : ℕ) (own : List Event) (o : Op) → IsCodeOf code p tree → Requests (run p units) schema own o → o ≢ op.End → IsReached code p schema units own o
requested_reached code p tree schema units own o denotes r goes =
    from code p tree denotes schema units [] (first_config code p units) begins (run p units) (first_config_means code tree p denotes units) own o r.asked_so r.fits r.unrefused r.wants goes

-- ---- what holds of each request

either_end : (o : Op) → (o ≡ op.End) ⊎ (o ≢ op.End)
either_end op.End = inl refl
either_end o = inr (λ e. cc e)

pub requested_inside : (code : Code) (p : Program) (tree : ℕ → Body) (schema : SchemaData) (units : ℕ) (own : List Event) (o : Op) → IsCodeOf code p tree → IsFlaggedProgram p → Requests (run p units) schema own o → IsInside (levels_left 0 own) o
requested_inside code p tree schema units own o denotes flagged r =
    elim (either_end o) [
      | inl is ↦ subst (IsInside (levels_left 0 own)) (sym is) tt
      | inr goes ↦ (let x = requested_reached code p tree schema units own o denotes r goes in changes_inside code p tree schema units own o x.on x.ks x.s denotes flagged x.reached)
    ]

pub requested_inserted : (code : Code) (p : Program) (tree : ℕ → Body) (schema : SchemaData) (units : ℕ) (own : List Event) (o : Op) → IsCodeOf code p tree → IsFlaggedProgram p → Requests (run p units) schema own o → IsInsertedInside (levels_left 0 own) o
requested_inserted code p tree schema units own o denotes flagged r =
    elim (either_end o) [
      | inl is ↦ subst (IsInsertedInside (levels_left 0 own)) (sym is) tt
      | inr goes ↦ (let x = requested_reached code p tree schema units own o denotes r goes in inserted_inside code p tree schema units own o x.on x.ks x.s denotes flagged x.reached)
    ]

pub requested_held : (code : Code) (p : Program) (tree : ℕ → Body) (schema : SchemaData) (units : ℕ) (own : List Event) (o : Op) → IsCodeOf code p tree → IsFlaggedProgram p → Requests (run p units) schema own o → IsOfHeldRow own o
requested_held code p tree schema units own o denotes flagged r =
    elim (either_end o) [
      | inl is ↦ subst (IsOfHeldRow own) (sym is) tt
      | inr goes ↦ (let x = requested_reached code p tree schema units own o denotes r goes in changes_held code p tree schema units own o x.on x.ks x.s denotes flagged x.reached)
    ]
