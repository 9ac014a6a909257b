-- The texts of a source have one tree, or break one rule first.
use Rattle.std.proofs.Common.{◌≡◌, ℕ, List, refl, sym, ap, ◌∙◌, subst}
use Rattle.abl_base.specs.declared.rule.Rule.{Rule}
use Rattle.abl_base.specs.declared.place.Place.{Place}
use Rattle.abl_values.specs.Schema.{SchemaData}
use Rattle.bound_tree.specs.Tree.{Source as Tree}
use Rattle.preprocessor.specs.declared.expanded.Origin.{Origin}
use Rattle.preprocessor.specs.declared.texts.NamedText.{NamedText}
use Rattle.preprocessor.specs.declared.texts.Outcome.{Outcome}
use Rattle.preprocessor.specs.declared.texts.Outcome.TheVariants.{Breaks}
use Rattle.preprocessor.specs.Expansion.{expansion}
use Rattle.source_reader.proofs.Violations.{one_rule, one_tree_of, trees_break_none}
use Rattle.run_report.specs.declared.refusal.Refusal.{Refusal}
use Rattle.run_report.specs.declared.refusal.Refusal.TheVariants.{Source}
use Rattle.source_files.specs.Compiled.{BreaksFirst, IsSourceTree, in_expanding, in_expansion}
use Rattle.source_files.specs.Expansions.{IsExpanded, IsText, file_of, origin_in}

-- the same rule at the same place of the same text
pub record SameBreak (rule other : Rule) (at spot : Origin) : Type 0 where
  pub rules : rule ≡ other
  pub places : at ≡ spot

-- what breaks a rule E is no text
not_expanded : (outcome : Outcome) {rule : Rule} {text : ℕ} {place : Place} → outcome ≡ Breaks rule text place → IsText outcome → ⊥
not_expanded outcome is text = subst IsText is text

module _ (schema : SchemaData) (texts : List NamedText) where
  pub one_break : {rule other : Rule} {at spot : Origin} → BreaksFirst schema texts rule at → BreaksFirst schema texts other spot → SameBreak rule other at spot
  one_break (in_expanding {rule = r} {text = t} {place = p} a) (in_expanding {rule = s} {text = u} {place = q} b) =
      let same : Breaks r t p ≡ Breaks s u q = sym a ∙ b in
      let text : t ≡ u = cc same in
      let place : p ≡ q = cc same in
      record { rules = cc same; places = λ i. record { text = text i; place = place i } }
  one_break (in_expanding a) (in_expansion expands b) = absurd (not_expanded (expansion texts) a expands)
  one_break (in_expansion expands a) (in_expanding b) = absurd (not_expanded (expansion texts) b expands)
  one_break (in_expansion expands a) (in_expansion other b) =
      let one = one_rule schema _ a b in
      record { rules = one.rules; places = ap (origin_in texts) one.places }

  pub no_break : {tree : Tree} {rule : Rule} {at : Origin} → IsSourceTree schema texts tree → BreaksFirst schema texts rule at → ⊥
  no_break is (in_expanding a) = not_expanded (expansion texts) a is.expands
  no_break is (in_expansion expands a) = trees_break_none schema _ is.denotes a

  pub one_tree : {tree other : Tree} → IsSourceTree schema texts tree → IsSourceTree schema texts other → tree ≡ other
  one_tree a b = one_tree_of schema _ a.denotes b.denotes

-- and so one refusal
pub one_refusal : (number : ℕ) (texts : List NamedText) {rule other : Rule} {at spot : Origin} → SameBreak rule other at spot →
    Source number (file_of texts at.text) rule at.place ≡ Source number (file_of texts spot.text) other spot.place
one_refusal number texts {rule} {other} {at} {spot} same =
    ap (λ r. Source number (file_of texts at.text) r at.place) same.rules ∙ ap (λ (o : Origin). Source number (file_of texts o.text) other o.place) same.places
