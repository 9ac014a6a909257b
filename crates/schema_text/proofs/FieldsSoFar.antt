-- The fields of a table that are read so far.
use Rattle.std.proofs.Common.{◌≡◌, ◌≤◌, ◌<◌, ℕ, true, false, List, [], ◌∷◌, ◌++◌, length, None, refl, sym, ap, ◌∙◌, arith, length-append}
use Rattle.std.specs.List.{flat_map}
use Rattle.std.proofs.lemmas.List.Elements.{All-nil, All-push}
use Rattle.abl_base.specs.declared.limits.TheConstants.{MAX_FIELDS}
use Rattle.abl_values.specs.declared.schema.FieldDef.{FieldDef}
use Rattle.abl_values.specs.Schema.{field_line, field_names, number_of_name}
use Rattle.abl_values.specs.Sound.{IsSoundField}
use Rattle.schema_text.specs.Words.{begins}
use Rattle.schema_text.specs.Written.{AreFields, AreWrittenFields, IsWrittenField}
use Rattle.schema_text.proofs.Names.{apart_push}
use Rattle.schema_text.proofs.ToCome.{Next, ToCome, after_next, at_first, at_last, at_next, lines-flat}

abbrev pub line : ℕ → FieldDef → List ℕ
line n f = field_line f

begins_field : (n : ℕ) (f : FieldDef) (r : List ℕ) → begins 70 (line n f ++ r) ≡ true
begins_field n f r = refl

pub record FieldsSoFar (text : List ℕ) (done : List FieldDef) (rest : List ℕ) : Type 0 where
  pub sound : AreFields done
  pub within : length rest ≤ length text
  pub to_come : (fs : List FieldDef) (r : List ℕ) → AreWrittenFields fs → begins 70 r ≡ false → text ≡ flat_map field_line fs ++ r → ToCome line IsWrittenField fs r done rest

pub no_fields : (text : List ℕ) → FieldsSoFar text [] text
no_fields text = record {
  sound = record { each = All-nil IsSoundField; apart = refl; few = omega arith };
  within = omega arith;
  to_come = λ fs r w b e. at_first line IsWrittenField (begins 70) begins_field fs r b text w.each (e ∙ ap (λ (t : List ℕ). t ++ r) (sym (lines-flat field_line 0 fs)));
}

-- there is one more
pub one_more_field : (text : List ℕ) (done : List FieldDef) (rest : List ℕ) → FieldsSoFar text done rest → begins 70 rest ≡ true → (fs : List FieldDef) (r : List ℕ) → AreWrittenFields fs → begins 70 r ≡ false → text ≡ flat_map field_line fs ++ r → Next line IsWrittenField fs r done rest
one_more_field text done rest so h fs r w b e = at_next line IsWrittenField (begins 70) begins_field fs r b done rest (so.to_come fs r w b e) h

apart_more : (done : List FieldDef) (f : FieldDef) → AreFields done → number_of_name 0 (field_names done) f.name ≡ None → IsSoundField f → length done < MAX_FIELDS → AreFields (done ++ f ∷ [])
apart_more done f h free sound low = record {
  each = All-push IsSoundField done f h.each sound;
  apart = apart_push (λ (g : FieldDef). g.name) done f h.apart free;
  few = omega (arith, length-append done (f ∷ []));
}

pub field_read : (text : List ℕ) (done : List FieldDef) (rest : List ℕ) → FieldsSoFar text done rest → begins 70 rest ≡ true → (f : FieldDef) (after : List ℕ)
    → IsSoundField f → number_of_name 0 (field_names done) f.name ≡ None → length done < MAX_FIELDS → length after < length rest
    → ((g : FieldDef) (r : List ℕ) → IsWrittenField g → rest ≡ field_line g ++ r → (f ≡ g) × (after ≡ r)) → FieldsSoFar text (done ++ f ∷ []) after
field_read text done rest so h f after sound free low shorter is = record {
  sound = apart_more done f so.sound free sound low;
  within = omega (arith, so.within);
  to_come = λ fs r w b e.
      (let n = one_more_field text done rest so h fs r w b e in
      let same = is n.item _ n.is n.text in
      after_next line IsWrittenField (begins 70) begins_field fs r b done rest n f after same.0 same.1);
}

pub all_fields : (text : List ℕ) (done : List FieldDef) (rest : List ℕ) → FieldsSoFar text done rest → begins 70 rest ≡ false → (fs : List FieldDef) (r : List ℕ) → AreWrittenFields fs → begins 70 r ≡ false → text ≡ flat_map field_line fs ++ r → (done ≡ fs) × (rest ≡ r)
all_fields text done rest so h fs r w b e =
    let last = at_last line IsWrittenField (begins 70) begins_field fs r b done rest (so.to_come fs r w b e) h in
    (sym last.0, last.1)
