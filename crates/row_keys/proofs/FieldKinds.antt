-- The kinds of fields.
use Rattle.std.proofs.Common.{◌≡◌, ℕ, zero, suc, List, [], ◌∷◌, Some, None, refl, ap, slice_get}
use Rattle.abl_values.specs.declared.schema.FieldDef.{FieldDef}
use Rattle.abl_values.specs.Schema.{field_kinds}
use Rattle.database_meaning.specs.Search.{kind_at}

pub kind_at_some : (fields : List FieldDef) (i : ℕ) (f : FieldDef) → slice_get fields i ≡ Some f → kind_at (field_kinds fields) i ≡ f.kind
kind_at_some [] i f e = cc
kind_at_some (x ∷ fields) zero f e = let same : x ≡ f = cc in ap (λ (g : FieldDef). g.kind) same
kind_at_some (x ∷ fields) (suc i) f e = kind_at_some fields i f e

pub kind_at_none : (fields : List FieldDef) (i : ℕ) → slice_get fields i ≡ None → kind_at (field_kinds fields) i ≡ None
kind_at_none [] i e = refl
kind_at_none (x ∷ fields) zero e = cc
kind_at_none (x ∷ fields) (suc i) e = kind_at_none fields i e
