-- A client is begun, and then the others.
use Rattle.std.proofs.Common.{◌≡◌, ◌<◌, ◌++◌, ◌∷◌, [], List, sym, ap, ◌∙◌, subst, append_assoc, rules, length}
use Rattle.block_code.specs.declared.code.Code.{Code}
use Rattle.client_core.specs.ClientView.{ClientView}
use Rattle.source_files.specs.declared.files.ClientTexts.{ClientTexts}
use Rattle.source_files.proofs.Causes.{on_ok}
use Rattle.client_threads.proofs.ServedLemmas.Vectors.{first_removed}
use Rattle.bank_run.specs.declared.bank.TheConstants.{BANK_UNITS}
use Rattle.bank_run.specs.Inside.{AreClientsOf}
use Rattle.bank_run.specs.Result.{bank_schema}
use Rattle.bank_run.proofs.bank.+begin_clients.Goals as goal

pub returns : goal.returns
returns t c =
    let some : 0 < length c.args.codes.items = search rules in
    let some_texts : 0 < length c.args.texts.items = search rules in
    let codes = c.remove-code.new.self.items in
    let texts = c.remove-text.new.self.items in
    let codes_are = first_removed c.args.codes.items codes c.remove-code.result some c.remove-code.ensures.value c.remove-code.ensures.items in
    let texts_are = first_removed c.args.texts.items texts c.remove-text.result some_texts c.remove-text.ensures.value c.remove-text.ensures.items in
    let first = c.in_ok-client.client in
    let old = c.args.clients.now.items in
    let new = c.begin_clients.new.clients.items in
    on_ok c.begin_clients.result
    ((more : List ClientView) × (new ≡ c.push_reserved.new.self.items ++ more) × AreClientsOf BANK_UNITS bank_schema.tables codes texts more)
    ((more : List ClientView) × (new ≡ old ++ more) × AreClientsOf BANK_UNITS bank_schema.tables c.args.codes.items c.args.texts.items more)
    (λ rest. (
      first ∷ rest.0,
      rest.1 ∙ ap (λ (clients : List ClientView). clients ++ rest.0) (c.push_reserved.ensures.items ∙ ap (λ (ts : List ClientView). ts ++ first ∷ []) c.reserve.ensures.items) ∙ append_assoc old (first ∷ []) rest.0,
      subst (λ (cs : List Code). AreClientsOf BANK_UNITS bank_schema.tables cs c.args.texts.items (first ∷ rest.0)) (sym codes_are)
          (subst (λ (ts : List ClientTexts). AreClientsOf BANK_UNITS bank_schema.tables (c.remove-code.result ∷ codes) ts (first ∷ rest.0)) (sym texts_are) (c.in_ok-client.ensures, rest.2)),
    ))
    c.begin_clients.ensures
