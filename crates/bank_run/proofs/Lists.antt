-- The clients that make transfers, one after the other.
use Rattle.std.proofs.Common.{◌≡◌, ◌+◌, ℕ, List, [], ◌∷◌, ◌++◌, sym, ap, ◌∙◌, add-one}
use Rattle.bank_run.specs.declared.inputs.bank.Bank.{Bank}
use Rattle.bank_run.specs.declared.inputs.sources.TheConstants.{TRANSFER_SOURCE}
use Rattle.bank_run.specs.inputs.Bank.{client_input}
use Rattle.source_files.specs.declared.files.ClientTexts.{ClientTexts}
use Rattle.bank_run.specs.Texts.{client_name, transfer_names, transfer_texts, with_input}

pub texts_step : (bank : Bank) (first t : ClientTexts) (n : ℕ) (before after : List ClientTexts) → before ≡ first ∷ transfer_texts bank n → t ≡ with_input TRANSFER_SOURCE.now (client_input bank n) → after ≡ before ++ t ∷ [] →
    after ≡ first ∷ transfer_texts bank (n + 1)
texts_step bank first t n before after are is pushed =
    pushed ∙ ap (λ (ts : List ClientTexts). ts ++ t ∷ []) are ∙ ap (λ (x : ClientTexts). (first ∷ transfer_texts bank n) ++ x ∷ []) is ∙ ap (λ k. first ∷ transfer_texts bank k) (sym (add-one n))

pub names_step : (first name : List ℕ) (n : ℕ) (before after : List (List ℕ)) → before ≡ first ∷ transfer_names n → name ≡ client_name n → after ≡ before ++ name ∷ [] → after ≡ first ∷ transfer_names (n + 1)
names_step first name n before after are is pushed =
    pushed ∙ ap (λ (ns : List (List ℕ)). ns ++ name ∷ []) are ∙ ap (λ (x : List ℕ). (first ∷ transfer_names n) ++ x ∷ []) is ∙ ap (λ k. first ∷ transfer_names k) (sym (add-one n))
