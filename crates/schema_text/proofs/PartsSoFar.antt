-- The components of an index that are read so far.
use Rattle.std.proofs.Common.{◌≡◌, ◌≤◌, ◌<◌, ℕ, true, false, List, [], ◌∷◌, ◌++◌, length, refl, sym, ap, ◌∙◌, arith}
use Rattle.std.specs.List.{All, flat_map}
use Rattle.std.proofs.lemmas.List.Elements.{All-nil, All-push}
use Rattle.abl_values.specs.declared.schema.FieldDef.{FieldDef}
use Rattle.abl_values.specs.declared.schema.KeyPart.{KeyPart}
use Rattle.abl_values.specs.Schema.{part_text}
use Rattle.schema_text.specs.Words.{begins}
use Rattle.schema_text.proofs.ToCome.{Next, ToCome, after_next, at_first, at_last, at_next, lines-flat}

module _ (fields : List FieldDef) where
  abbrev pub line : ℕ → KeyPart → List ℕ
  line n p = part_text fields p

  abbrev pub Is : KeyPart → Type 0
  Is p = p.field < length fields

  begins_part : (n : ℕ) (p : KeyPart) (r : List ℕ) → begins 32 (line n p ++ r) ≡ true
  begins_part n p r = refl

  pub record PartsSoFar (text : List ℕ) (done : List KeyPart) (rest : List ℕ) : Type 0 where
    pub sound : All Is done
    pub within : length rest ≤ length text
    pub to_come : (ps : List KeyPart) (r : List ℕ) → All Is ps → begins 32 r ≡ false → text ≡ flat_map (part_text fields) ps ++ r → ToCome line Is ps r done rest

  pub no_parts : (text : List ℕ) → PartsSoFar text [] text
  no_parts text = record {
    sound = All-nil Is;
    within = omega arith;
    to_come = λ ps r w b e. at_first line Is (begins 32) begins_part ps r b text w (e ∙ ap (λ (t : List ℕ). t ++ r) (sym (lines-flat (part_text fields) 0 ps)));
  }

  pub one_more_part : (text : List ℕ) (done : List KeyPart) (rest : List ℕ) → PartsSoFar text done rest → begins 32 rest ≡ true → (ps : List KeyPart) (r : List ℕ) → All Is ps → begins 32 r ≡ false → text ≡ flat_map (part_text fields) ps ++ r → Next line Is ps r done rest
  one_more_part text done rest so h ps r w b e = at_next line Is (begins 32) begins_part ps r b done rest (so.to_come ps r w b e) h

  pub part_read : (text : List ℕ) (done : List KeyPart) (rest : List ℕ) → PartsSoFar text done rest → begins 32 rest ≡ true → (p : KeyPart) (after : List ℕ)
      → p.field < length fields → length after < length rest → ((q : KeyPart) (r : List ℕ) → q.field < length fields → rest ≡ part_text fields q ++ r → (p ≡ q) × (after ≡ r)) → PartsSoFar text (done ++ p ∷ []) after
  part_read text done rest so h p after low shorter is = record {
    sound = All-push Is done p so.sound low;
    within = omega (arith, so.within);
    to_come = λ ps r w b e.
        (let n = one_more_part text done rest so h ps r w b e in
        let same = is n.item _ n.is n.text in
        after_next line Is (begins 32) begins_part ps r b done rest n p after same.0 same.1);
  }

  pub all_parts : (text : List ℕ) (done : List KeyPart) (rest : List ℕ) → PartsSoFar text done rest → begins 32 rest ≡ false → (ps : List KeyPart) (r : List ℕ) → All Is ps → begins 32 r ≡ false → text ≡ flat_map (part_text fields) ps ++ r → (done ≡ ps) × (rest ≡ r)
  all_parts text done rest so h ps r w b e =
      let last = at_last line Is (begins 32) begins_part ps r b done rest (so.to_come ps r w b e) h in
      (sym last.0, last.1)
