-- Past the first violation, no other one is the first.
use Rattle.std.proofs.Common.{◌≡◌, ◌∙◌, ℕ, Bool, true, false, List, [], ◌∷◌, Option, None, Some, refl, ap, sym, arith}
use Rattle.std.specs.Prelude.{◌&&◌, ◌||◌, ◌==◌, nat_lt, not, if◌then◌else◌}
use Rattle.std.proofs.lemmas.Bool.Decides.{nat_tests}
use Rattle.abl_base.specs.declared.place.Place.{Place}
use Rattle.abl_base.specs.declared.rule.Rule.{Rule}
use Rattle.bind_names.specs.declared.violation.Violation.{Violation}
use Rattle.bind_names.specs.declared.notes.Notes.{Notes}
use Rattle.bind_names.specs.Judged.{Judged, breaking, comes_first, earlier, first_of, rule_number, unless}
use Rattle.bind_names.specs.Views.{IsJudged}
use Rattle.bind_names.proofs.Joined.{first_of_append}
use Rattle.bind_statements.specs.Definitions.{is_past}

later_loses : (k l c d : ℕ) (x : Bool) → (nat_lt k l || ((k == l) && nat_lt c d)) ≡ true → ((nat_lt l k || ((l == k) && nat_lt d c)) || (((l == k) && (d == c)) && x)) ≡ false
later_loses k l c d x e = grind (arith, nat_tests)

pub stays_first : (first : Option Violation) (place : Place) (holds : Bool) (rule : Rule) → is_past first place ≡ true → first ≡ first_of first (unless holds rule place)
stays_first first place true rule e = refl
stays_first None place false rule e = absurd cc
stays_first (Some w) place false rule e =
    let v : Violation = record { rule = rule; place = place } in
    let loses : comes_first v w ≡ false = later_loses w.place.line place.line w.place.column place.column (nat_lt (rule_number rule) (rule_number w.rule)) e in
    ap Some (sym (ap (λ (c : Bool). if c then v else w) loses))

comes_before : (k l m c d e : ℕ) (x : Bool) → ((nat_lt k l || ((k == l) && nat_lt c d)) || (((k == l) && (c == d)) && x)) ≡ true → (nat_lt l m || ((l == m) && nat_lt d e)) ≡ true → (nat_lt k m || ((k == m) && nat_lt c e)) ≡ true
comes_before k l m c d e x g h = grind (arith, nat_tests)

past_still : (first : Option Violation) (v : Violation) (place : Place) → is_past first place ≡ true → is_past (Some (earlier first v)) place ≡ true
past_still None v place e = absurd cc
past_still (Some w) v place e = go (comes_first v w) refl
  where
    go : (c : Bool) → comes_first v w ≡ c → is_past (Some (if c then v else w)) place ≡ true
    go true f = comes_before v.place.line w.place.line place.line v.place.column w.place.column place.column (nat_lt (rule_number v.rule) (rule_number w.rule)) f e
    go false f = e

past_after : (first : Option Violation) (vs : List Violation) (place : Place) → is_past first place ≡ true → is_past (first_of first vs) place ≡ true
past_after first [] place e = e
past_after first (v ∷ vs) place e = past_after (Some (earlier first v)) vs place (past_still first v place e)

-- a violation that is skipped past the first one
pub skipped : (first : Option Violation) (vs : List Violation) (place : Place) (holds : Bool) (rule : Rule) →
    first_of (first_of first vs) (unless (not (not (is_past first place) && holds)) rule place) ≡ first_of (first_of first vs) (unless (not holds) rule place)
skipped first vs place holds rule = go (is_past first place) refl
  where
    go : (c : Bool) → is_past first place ≡ c → first_of (first_of first vs) (unless (not (not c && holds)) rule place) ≡ first_of (first_of first vs) (unless (not holds) rule place)
    go true e = stays_first (first_of first vs) place (not holds) rule (past_after first vs place e)
    go false e = refl

pub skipped_after : {A : Type 0} (j : Judged A) (is : A) (holds noted : Bool) (rule : Rule) (place : Place) (old between new : Notes) → IsJudged j is old between →
    noted ≡ (not (is_past old.first place) && holds) → new.first ≡ first_of between.first (unless (not noted) rule place) → new.names ≡ between.names →
    IsJudged (breaking j (unless (not holds) rule place)) is old new
skipped_after j is holds noted rule place old between new h e f n = record {
  is = h.is;
  first =
      f ∙ ap (λ (c : Bool). first_of between.first (unless (not c) rule place)) e
      ∙ ap (λ (o : Option Violation). first_of o (unless (not (not (is_past old.first place) && holds)) rule place)) h.first
      ∙ skipped old.first j.breaks place holds rule ∙ sym (first_of_append old.first j.breaks (unless (not holds) rule place));
  names = n ∙ h.names;
}
