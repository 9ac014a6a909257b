-- Lists of different lengths are not the same.
use Rattle.std.proofs.Common.{◌≡◌, ◌≢◌, Bool, true, false, ◌&&◌, List, [], ◌∷◌, length, refl, ap, ◌∙◌, arith}
use Rattle.abl_values.specs.declared.schema.FieldDef.{FieldDef}
use Rattle.abl_values.specs.declared.schema.KeyPart.{KeyPart}
use Rattle.abl_values.specs.declared.schema.TableDef.{TableDef}
use Rattle.abl_values.specs.declared.schema.SequenceDef.{SequenceDef}
use Rattle.stored_schema.specs.Agreement.{same_part, same_parts, same_sequence, same_sequences, same_table, same_tables}

false_and : (b : Bool) → (b && false) ≡ false
false_and true = refl
false_and false = refl

pub tables-differ : (as_ bs : List TableDef) → length as_ ≢ length bs → same_tables as_ bs ≡ false
tables-differ [] [] h = absurd (h refl)
tables-differ [] (b ∷ bs) h = refl
tables-differ (a ∷ as_) [] h = refl
tables-differ (a ∷ as_) (b ∷ bs) h = ap (λ (c : Bool). same_table a b && c) (tables-differ as_ bs (λ e. h (omega arith))) ∙ false_and (same_table a b)

pub sequences-differ : (ps qs : List SequenceDef) → length ps ≢ length qs → same_sequences ps qs ≡ false
sequences-differ [] [] h = absurd (h refl)
sequences-differ [] (q ∷ qs) h = refl
sequences-differ (p ∷ ps) [] h = refl
sequences-differ (p ∷ ps) (q ∷ qs) h = ap (λ (c : Bool). same_sequence p q && c) (sequences-differ ps qs (λ e. h (omega arith))) ∙ false_and (same_sequence p q)

pub parts-differ : (as_ bs : List FieldDef) (ps qs : List KeyPart) → length ps ≢ length qs → same_parts as_ bs ps qs ≡ false
parts-differ as_ bs [] [] h = absurd (h refl)
parts-differ as_ bs [] (q ∷ qs) h = refl
parts-differ as_ bs (p ∷ ps) [] h = refl
parts-differ as_ bs (p ∷ ps) (q ∷ qs) h = ap (λ (c : Bool). same_part as_ bs p q && c) (parts-differ as_ bs ps qs (λ e. h (omega arith))) ∙ false_and (same_part as_ bs p q)
