use Rattle.std.proofs.Common.{◌≡◌, ◌∷◌, ◌++◌, sym, ap, subst, ◌∙◌}
use Rattle.std.specs.Prelude.{MatchResult}
use Rattle.abl_base.specs.declared.value.Value.{Value}
use Rattle.abl_base.specs.declared.value.Value.TheVariants.{Unknown}
use Rattle.abl_values.specs.Fit.{IsOfField}
use Rattle.abl_values.specs.Texts.{export_text, plain_text}
use Rattle.schema_text.specs.declared.unread.Unread.TheVariants.{NoMemory}
use Rattle.schema_text.proofs.values.value_at.Goals as goal

pub returns-in-None-clause-value : goal.returns-in-None-clause-value
unfolding export_text plain_text
returns-in-None-clause-value c v r h e =
    let is : v ≡ Unknown = subst (λ k. IsOfField k v) c.in-None.is h in
    subst (λ (x : Value). MatchResult c.unknown_at.result (λ read. (read.0 ≡ x) × (read.1.now ≡ r)) (λ fault. fault ≡ NoMemory)) (sym is)
    (c.unknown_at.ensures.value r (e ∙ ap (λ (x : Value). export_text x ++ 10 ∷ r) is))
