-- Why a source is refused, by what its expansion came to and by what was found in it.
use Rattle.std.proofs.Common.{◌≡◌, ◌⊎◌, ℕ, List, sym, subst, inl, inr}
use Rattle.abl_base.specs.declared.place.Place.{Place}
use Rattle.abl_base.specs.declared.rule.Rule.{Rule}
use Rattle.abl_values.specs.Schema.{SchemaData}
use Rattle.preprocessor.specs.declared.expanded.Origin.{Origin}
use Rattle.preprocessor.specs.declared.texts.NamedText.{NamedText}
use Rattle.preprocessor.specs.declared.texts.Outcome.TheVariants.{Breaks}
use Rattle.preprocessor.specs.Expansion.{expansion}
use Rattle.source_reader.specs.Sources.{BreaksRule}
use Rattle.run_report.specs.declared.refusal.Refusal.{Refusal}
use Rattle.run_report.specs.declared.refusal.Refusal.TheVariants.{NoMemory, Source}
use Rattle.source_files.specs.Compiled.{BreaksFirst, BreaksSource, breaks_rule, in_expanding, in_expansion, source_wants}
use Rattle.source_files.specs.Expansions.{IsExpanded, expanded, file_of, origin_in}

module _ (schema : SchemaData) (number : ℕ) (texts : List NamedText) where
  refused_so : (rule : Rule) (at : Origin) (refusal : Refusal) → BreaksFirst schema texts rule at → (refusal ≡ NoMemory) ⊎ (refusal ≡ Source number (file_of texts at.text) rule at.place) → BreaksSource schema number texts refusal
  refused_so rule at refusal first (inl is) = subst (BreaksSource schema number texts) (sym is) source_wants
  refused_so rule at refusal first (inr is) = subst (BreaksSource schema number texts) (sym is) (breaks_rule at first)

  -- a rule of E1 to E7
  pub refused_in_expanding : (rule : Rule) (at : Origin) (refusal : Refusal) → expansion texts ≡ Breaks rule at.text at.place → (refusal ≡ NoMemory) ⊎ (refusal ≡ Source number (file_of texts at.text) rule at.place) → BreaksSource schema number texts refusal
  refused_in_expanding rule at refusal breaks is = refused_so rule at refusal (in_expanding breaks) is

  -- another, in the expansion
  pub refused_in_expansion : (text : List ℕ) (rule : Rule) (place : Place) (at : Origin) (refusal : Refusal) → IsExpanded texts → text ≡ expanded texts → BreaksRule schema text rule place → at ≡ origin_in texts place → (refusal ≡ NoMemory) ⊎ (refusal ≡ Source number (file_of texts at.text) rule at.place) → BreaksSource schema number texts refusal
  refused_in_expansion text rule place at refusal expands same breaks there is =
      let first : BreaksFirst schema texts rule (origin_in texts place) = in_expansion expands (subst (λ t. BreaksRule schema t rule place) same breaks) in
      refused_so rule at refusal (subst (BreaksFirst schema texts rule) (sym there) first) is
