-- What is compiled and begun is what the bank needs, or prevents it.
use Rattle.std.proofs.Common.{◌≡◌, Err, List, sym, ap, ◌∙◌, subst, arith, length}
use Rattle.std.proofs.lemmas.Result.{err_from_is_err_and}
use Rattle.source_files.specs.declared.files.ClientTexts.{ClientTexts}
use Rattle.source_files.specs.Compiled.{HaveCodes}
use Rattle.source_files.proofs.Causes.{of_error}
use Rattle.bank_run.specs.declared.bank.TheConstants.{BANK_UNITS}
use Rattle.bank_run.specs.Result.{AreTextWorks, bank_schema, bank_wants}
use Rattle.bank_run.proofs.Begun.{as_many_clients, as_many_codes, as_many_texts, begun, prevents}
use Rattle.bank_run.proofs.bank.load.Goals as goal

pub compiled_in-requires : goal.compiled_in-requires
compiled_in-requires c =
    let many = as_many_texts c.args.bank in
    let same = ap (λ (ts : List ClientTexts). length ts) (c.deref.ensures.value ∙ c.in-Ok.ensures) in
    let few = c.requires.few in
    omega (arith, same, many, few)

pub returns-in_default-clause-prevented : goal.returns-in_default-clause-prevented
returns-in_default-clause-prevented c = bank_wants

pub returns-in_err-schema-clause-prevented : goal.returns-in_err-schema-clause-prevented
returns-in_err-schema-clause-prevented c =
    let p = err_from_is_err_and c.from_residual.result c.from_residual.ensures.1 in
    let refusal = c.in_err-schema.field-0.0 in
    let is : c.from_residual.result ≡ Err refusal = cc (p.1, p.2) in
    of_error _ is (prevents c.args.bank c.deref.result.now refusal (c.deref.ensures.value ∙ c.in-Ok.ensures) c.in_err-schema.ensures.refused)

pub ready-requires : goal.ready-requires
ready-requires c = record {
  many =
      as_many_codes bank_schema c.in-Ok.texts.items c.in_ok-schema.field-0.codes.items
      (subst (λ (ts : List ClientTexts). HaveCodes bank_schema ts c.in_ok-schema.field-0.codes.items) c.deref.ensures.value c.in_ok-schema.ensures.codes);
}

pub returns-in-Ok-ready-clause-ready : goal.returns-in-Ok-ready-clause-ready
returns-in-Ok-ready-clause-ready c =
    let codes = c.in_ok-schema.field-0.codes.items in
    let clients = c.in-Ok-ready.loaded.clients.items in
    let have = subst (λ (ts : List ClientTexts). HaveCodes bank_schema ts codes) c.deref.ensures.value c.in_ok-schema.ensures.codes in
    let done = begun bank_schema BANK_UNITS c.in-Ok.texts.items codes clients have c.in-Ok-ready.ensures.clients in
    record {
      schema_is = c.in-Ok-ready.ensures.schema ∙ c.in_ok-schema.ensures.schema;
      works = done.works;
      are = subst (λ (ts : List ClientTexts). AreTextWorks bank_schema ts done.works) c.in-Ok.ensures done.are;
      to_do = done.to_do;
    }

pub returns-in-Ok-ready-clause-many : goal.returns-in-Ok-ready-clause-many
returns-in-Ok-ready-clause-many c =
    as_many_clients bank_schema BANK_UNITS c.in_ok-schema.field-0.codes.items c.in-Ok.texts.items c.in-Ok-ready.loaded.clients.items c.in-Ok-ready.ensures.clients
    ∙ ap (λ (ts : List ClientTexts). length ts) c.in-Ok.ensures ∙ as_many_texts c.args.bank

pub returns-in-Err-clause-prevented : goal.returns-in-Err-clause-prevented
returns-in-Err-clause-prevented c = bank_wants
