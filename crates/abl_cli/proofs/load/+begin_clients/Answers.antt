-- A client is begun, and then the others.
use Rattle.std.proofs.Common.{◌≡◌, ◌⊎◌, inl, inr, ◌<◌, ◌++◌, ◌∷◌, [], Err, List, sym, ap, ◌∙◌, subst, append_assoc, rules, length}
use Rattle.std.proofs.lemmas.Result.{err_from_is_err_and}
use Rattle.host_io.specs.Files.{FileState}
use Rattle.block_code.specs.declared.code.Code.{Code}
use Rattle.client_core.specs.ClientView.{ClientView}
use Rattle.source_files.specs.declared.files.ClientTexts.{ClientTexts}
use Rattle.run_report.specs.declared.refusal.Refusal.{Refusal}
use Rattle.run_report.specs.declared.refusal.Refusal.TheVariants.{NoMemory}
use Rattle.source_files.specs.Files.{OneIsNotRead}
use Rattle.source_files.specs.Compiled.{schema_in}
use Rattle.abl_cli.specs.Inside.{AreBegun, inputs_of}
use Rattle.source_files.proofs.Causes.{of_error, still_one}
use Rattle.client_threads.proofs.ServedLemmas.Vectors.{first_removed}
use Rattle.abl_cli.proofs.Loads.{still_begun, unread_first, unread_later}
use Rattle.source_files.proofs.Causes.{on_ok, if_err}
use Rattle.abl_cli.proofs.load.+begin_clients.Goals as goal

pub returns-in_err-add_client-clause-refused : goal.returns-in_err-add_client-clause-refused
returns-in_err-add_client-clause-refused g t c =
    let files : FileState = g.F.Files.state c.args.files.now in
    let faults = (g.F.Files.state c.add_client.new.files).faults in
    let some : 0 < length c.args.codes.items = search rules in
    let codes_are = first_removed c.args.codes.items c.remove-code.new.self.items c.remove-code.result some c.remove-code.ensures.value c.remove-code.ensures.items in
    let p = err_from_is_err_and c.from_residual.result c.from_residual.ensures.1 in
    let refusal = c.in_err-add_client.field-0.0 in
    let is : c.from_residual.result ≡ Err refusal = cc (p.1, p.2) in
    of_error (λ (refusal : Refusal). (refusal ≡ NoMemory) ⊎ OneIsNotRead files faults (inputs_of c.args.codes.items) refusal) is
    (elim c.in_err-add_client.ensures.refused [
      | inl e ↦ inl e
      | inr one ↦ inr (subst (λ (codes : List Code). OneIsNotRead files faults (inputs_of codes) refusal) (sym codes_are)
          (unread_first files faults c.remove-code.result.inputs.items (inputs_of c.remove-code.new.self.items) one))
    ])

pub returns-clause-begun : goal.returns-clause-begun
returns-clause-begun g t c =
    let files : FileState = g.F.Files.state c.args.files.now in
    let later : FileState = g.F.Files.state c.add_client.new.files in
    let sound = g.met.F.Files.sound_observable c.args.files.now in
    let some : 0 < length c.args.codes.items = search rules in
    let some_texts : 0 < length c.args.texts.items = search rules in
    let codes = c.remove-code.new.self.items in
    let texts = c.remove-text.new.self.items in
    let codes_are = first_removed c.args.codes.items codes c.remove-code.result some c.remove-code.ensures.value c.remove-code.ensures.items in
    let texts_are = first_removed c.args.texts.items texts c.remove-text.result some_texts c.remove-text.ensures.value c.remove-text.ensures.items in
    let begun = c.in_ok-add_client.ensures.begun in
    let first = begun.0 in
    let tables = (schema_in c.args.df.now).tables in
    let old = c.args.clients.now.items in
    let new = c.begin_clients.new.clients.items in
    on_ok c.begin_clients.result
    ((more : List ClientView) × (new ≡ c.add_client.new.clients.items ++ more) × AreBegun later c.args.units tables codes texts more)
    ((more : List ClientView) × (new ≡ old ++ more) × AreBegun files c.args.units tables c.args.codes.items c.args.texts.items more)
    (λ rest. (
      first ∷ rest.0,
      rest.1 ∙ ap (λ (clients : List ClientView). clients ++ rest.0) begun.1 ∙ append_assoc old (first ∷ []) rest.0,
      subst (λ (cs : List Code). AreBegun files c.args.units tables cs c.args.texts.items (first ∷ rest.0)) (sym codes_are)
          (subst (λ (ts : List ClientTexts). AreBegun files c.args.units tables (c.remove-code.result ∷ codes) ts (first ∷ rest.0)) (sym texts_are)
          (begun.2, still_begun files later c.in_ok-add_client.ensures.same sound c.args.units tables codes texts rest.0 rest.2)),
    ))
    c.begin_clients.ensures.begun

pub returns-clause-refused : goal.returns-clause-refused
returns-clause-refused g t c =
    let files : FileState = g.F.Files.state c.args.files.now in
    let later : FileState = g.F.Files.state c.add_client.new.files in
    let faults = (g.F.Files.state c.begin_clients.new.files).faults in
    let sound = g.met.F.Files.sound_observable c.args.files.now in
    let some : 0 < length c.args.codes.items = search rules in
    let codes = c.remove-code.new.self.items in
    let codes_are = first_removed c.args.codes.items codes c.remove-code.result some c.remove-code.ensures.value c.remove-code.ensures.items in
    let begun = c.in_ok-add_client.ensures.begun in
    if_err c.begin_clients.result
    (λ (refusal : Refusal). (refusal ≡ NoMemory) ⊎ OneIsNotRead later faults (inputs_of codes) refusal)
    (λ (refusal : Refusal). (refusal ≡ NoMemory) ⊎ OneIsNotRead files faults (inputs_of c.args.codes.items) refusal)
    (λ refusal h. elim h [
      | inl e ↦ inl e
      | inr one ↦ inr (subst (λ (cs : List Code). OneIsNotRead files faults (inputs_of cs) refusal) (sym codes_are)
          (unread_later files faults c.remove-code.result.inputs.items (inputs_of codes) begun.2.inputs begun.2.have (still_one files later c.in_ok-add_client.ensures.same sound one)))
    ])
    c.begin_clients.ensures.refused
