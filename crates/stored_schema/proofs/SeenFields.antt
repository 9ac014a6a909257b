-- The stored fields of a table, as a table that agrees sees them, hold its rows.
use Rattle.std.proofs.Common.{◌≡◌, ℕ, zero, suc, ◌+◌, ◌<◌, Bool, true, ◌||◌, List, [], ◌∷◌, length, get_or, Option, Some, None, refl, sym, ap, ◌∙◌, subst, arith}
use Rattle.std.specs.Prelude.{All, IfSome, IsFalse, IsTrue, option_map}
use Rattle.std.proofs.lemmas.List.Elements.{All-head, All-nil, All-tail}
use Rattle.abl_base.specs.declared.value.Value.{Value}
use Rattle.abl_base.specs.declared.value.Value.TheVariants.{Unknown}
use Rattle.abl_base.specs.declared.value.Kind.{Kind}
use Rattle.abl_values.specs.declared.schema.FieldDef.{FieldDef}
use Rattle.abl_values.specs.Fit.{IsOfField}
use Rattle.abl_values.specs.Schema.{field_kinds, no_field}
use Rattle.abl_values.specs.Sound.{IsSoundField}
use Rattle.stored_fields.specs.declared.field.StoredField.{StoredField}
use Rattle.stored_fields.specs.Changes.{KeepsApart, relive, relived}
use Rattle.stored_fields.specs.Rows.{AreApart, AreStoredFor, has_number, is_live}
use Rattle.stored_fields.proofs.Relived.{number_kept}
use Rattle.stored_schema.specs.Agreement.{same_fields}
use Rattle.stored_schema.specs.Seen.{number_in}
use Rattle.stored_schema.specs.Stored.{AreStoredAs, IsStoredAs}
use Rattle.stored_schema.proofs.Agreed.{AreNamed, kind-at, kinds-length, number-all, number-apart, number-same, number-within}
use Rattle.stored_schema.proofs.Live.{AreNumbered, numbered}
use Rattle.stored_schema.proofs.Values.{same_field-kind}

module _ (number : ℕ → ℕ) (apart : KeepsApart number) where
  pub live-renumbered : (fs : List StoredField) (n : ℕ) → is_live (relived (option_map number) fs) (number n) ≡ is_live fs n
  live-renumbered [] n = refl
  live-renumbered (f ∷ fs) n =
      ap (λ (b : Bool). b || is_live (relived (option_map number) fs) (number n)) (number_kept number apart f.live n)
      ∙ ap (λ (b : Bool). has_number f.live n || b) (live-renumbered fs n)

  apart_one : (live : Option ℕ) (fs : List StoredField) → IfSome live (λ n. IsFalse (is_live fs n)) → IfSome (option_map number live) (λ n. IsFalse (is_live (relived (option_map number) fs) n))
  apart_one None fs h = tt
  apart_one (Some n) fs h = live-renumbered fs n ∙ h

  pub apart-renumbered : (fs : List StoredField) → AreApart fs → AreApart (relived (option_map number) fs)
  apart-renumbered [] h = tt
  apart-renumbered (f ∷ fs) h = (apart_one f.live fs h.0, apart-renumbered fs h.1)

-- a fact of each stored field, with other numbers
pub each-relived : (live : Option ℕ → Option ℕ) (P : StoredField → Type 0) (fs : List StoredField) → All (λ (f : StoredField). P (relive live f)) fs → All P (relived live fs)
each-relived live P [] h = All-nil P
each-relived live P (f ∷ fs) h = cons (P (relive live f)) (All-head (λ (f : StoredField). P (relive live f)) f fs h) (each-relived live P fs (All-tail (λ (f : StoredField). P (relive live f)) f fs h))
  where
    cons : (Q : Type 0) → P (relive live f) → All P (relived live fs) → All P (relived live (f ∷ fs))
    cons Q one more zero d lt = one
    cons Q one more (suc k) d lt = more k d (omega (arith, lt))

unknown_fits : (kind : Option Kind) → IsOfField kind Unknown
unknown_fits None = refl
unknown_fits (Some kind) = tt

module _ (given own : List FieldDef) (named_given : AreNamed given) (named_own : AreNamed own) (agreed : same_fields given own ≡ true) (sound : All IsSoundField own) (fs : List StoredField) (stored : AreStoredAs own fs) where
  numbers : AreNumbered 0 (length own) fs
  numbers = numbered 0 (length own) fs stored.numbers

  below_own : (live : Option ℕ) → IfSome live (λ n. n < 0 + length own) → IfSome live (λ n. n < length own)
  below_own None h = tt
  below_own (Some n) h = omega (arith, h)

  covered : (m : ℕ) → m < length (field_kinds given) → IsTrue (is_live (relived (option_map (number_in given own)) fs) m)
  covered m lt =
      let at = number-all given own named_given named_own agreed m (omega (arith, lt, kinds-length given)) in
      subst (λ (i : ℕ). is_live (relived (option_map (number_in given own)) fs) i ≡ true) at.2
      (live-renumbered (number_in given own) (number-apart given own named_given named_own agreed) fs at.0 ∙ numbers.covered at.0 (omega arith) (omega (arith, at.1)))

  abbrev Numbered : StoredField → Type 0
  Numbered f = IfSome f.live (λ m. (m < length (field_kinds given)) × (f.kind ≡ get_or (field_kinds given) m None))

  one_numbered : (f : StoredField) (live : Option ℕ) → IfSome live (λ n. n < length own) → IsStoredAs own live f → IfSome (option_map (number_in given own) live) (λ m. (m < length (field_kinds given)) × (f.kind ≡ get_or (field_kinds given) m None))
  one_numbered f None lt is = tt
  one_numbered f (Some n) lt is =
      let within = number-within given own named_given named_own agreed n lt in (
        omega (arith, within, kinds-length given),
        is.kind ∙ same_field-kind (get_or own n no_field) (get_or given (number_in given own n) no_field) (number-same given own named_given named_own agreed n lt) ∙ sym (kind-at given (number_in given own n)),
      )

  one_initial : (f : StoredField) (live : Option ℕ) → IfSome live (λ n. n < length own) → IsStoredAs own live f → IsOfField f.kind f.initial
  one_initial f None lt is = subst (λ (v : Value). IsOfField f.kind v) (sym is.initial) (unknown_fits f.kind)
  one_initial f (Some n) lt is =
      subst (λ (v : Value). IsOfField f.kind v) (sym is.initial) (subst (λ (kind : Option Kind). IsOfField kind (get_or own n no_field).initial) (sym is.kind) (sound n no_field lt).initial)

  -- the stored fields hold the rows of the given table
  pub seen-holds : AreStoredFor (field_kinds given) (relived (option_map (number_in given own)) fs)
  seen-holds = record {
    apart = apart-renumbered (number_in given own) (number-apart given own named_given named_own agreed) fs numbers.apart;
    covered = covered;
    numbered = each-relived (option_map (number_in given own)) Numbered fs (λ k d lt. one_numbered (get_or fs k d) (get_or fs k d).live (below_own (get_or fs k d).live (numbers.within k d lt)) (stored.each k d lt));
    initials = each-relived (option_map (number_in given own)) (λ (f : StoredField). IsOfField f.kind f.initial) fs (λ k d lt. one_initial (get_or fs k d) (get_or fs k d).live (below_own (get_or fs k d).live (numbers.within k d lt)) (stored.each k d lt));
  }
