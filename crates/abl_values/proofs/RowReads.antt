-- A row read field by field.
use Rattle.std.proofs.Common.{◌≡◌, ℕ, suc, ◌+◌, ◌<◌, ◌≤◌, List, [], ◌∷◌, ◌++◌, length, get_or, drop, Option, Some, None, refl, sym, ap, ◌∙◌, arith, append_assoc, add-one, append-nil}
use Rattle.std.proofs.Math.Seq.{drop-cons}
use Rattle.std.proofs.lemmas.List.{drop_all}
use Rattle.abl_base.specs.declared.value.Value.{Value}
use Rattle.abl_base.specs.declared.value.Kind.{Kind}
use Rattle.abl_values.specs.declared.schema.FieldDef.{FieldDef}
use Rattle.abl_values.specs.Rows.{field_in, with_first, row_in}
use Rattle.abl_values.specs.Schema.{field_kinds}

-- these values before those of a row
abbrev pub with_before : List Value → Option (List Value) → Option (List Value)
with_before vs None = None
with_before vs (Some ws) = Some (vs ++ ws)

before-first : (vs : List Value) (v : Value) (o : Option (List Value)) → with_before vs (with_first v o) ≡ with_before (vs ++ v ∷ []) o
before-first vs v None = refl
before-first vs v (Some ws) = ap (λ (xs : List Value). Some xs) (sym (append_assoc vs (v ∷ []) ws))

-- the first field is read, or is not there
pub row_in-read : (kind : Option Kind) (kinds : List (Option Kind)) (bytes : List ℕ) (v : Value) (rest : List ℕ) → field_in kind bytes ≡ Some (v, rest) → row_in (kind ∷ kinds) bytes ≡ with_first v (row_in kinds rest)
unfolding row_in
row_in-read kind kinds bytes v rest e = rw (e, row_in) refl

pub row_in-none : (kind : Option Kind) (kinds : List (Option Kind)) (bytes : List ℕ) → field_in kind bytes ≡ None → row_in (kind ∷ kinds) bytes ≡ None
unfolding row_in
row_in-none kind kinds bytes e = rw (e, row_in) refl

-- what is left to read from the i-th field on
abbrev pub left_in : List FieldDef → ℕ → List ℕ → Option (List Value)
left_in fields i rest = row_in (field_kinds (drop i fields)) rest

pub left_in-read : (fields : List FieldDef) (i : ℕ) (f : FieldDef) (rest after : List ℕ) (v : Value) (vs : List Value) → i < length fields → f ≡ get_or fields i f → field_in f.kind rest ≡ Some (v, after) → with_before vs (left_in fields i rest) ≡ with_before (vs ++ v ∷ []) (left_in fields (i + 1) after)
left_in-read fields i f rest after v vs h is e =
    let here : drop i fields ≡ f ∷ drop (i + 1) fields =
    rw add-one (drop-cons fields i f h ∙ ap (λ g. g ∷ drop (suc i) fields) (sym is)) in
    ap (λ fs. with_before vs (row_in (field_kinds fs) rest)) here
    ∙ ap (with_before vs) (row_in-read f.kind (field_kinds (drop (i + 1) fields)) rest v after e)
    ∙ before-first vs v (left_in fields (i + 1) after)

pub left_in-none : (fields : List FieldDef) (i : ℕ) (f : FieldDef) (rest : List ℕ) (vs : List Value) → i < length fields → f ≡ get_or fields i f → field_in f.kind rest ≡ None → with_before vs (left_in fields i rest) ≡ None
left_in-none fields i f rest vs h is e =
    let here : drop i fields ≡ f ∷ drop (i + 1) fields =
    rw add-one (drop-cons fields i f h ∙ ap (λ g. g ∷ drop (suc i) fields) (sym is)) in
    ap (λ fs. with_before vs (row_in (field_kinds fs) rest)) here
    ∙ ap (with_before vs) (row_in-none f.kind (field_kinds (drop (i + 1) fields)) rest e)

no_field_left : (bytes : List ℕ) (vs : List Value) → length bytes ≡ 0 → with_before vs (row_in [] bytes) ≡ Some vs
unfolding row_in
no_field_left [] vs h = ap (λ (xs : List Value). Some xs) (append-nil vs)
no_field_left (b ∷ bytes) vs h = absurd (omega arith)

bytes_left : (bytes : List ℕ) (vs : List Value) → 0 < length bytes → with_before vs (row_in [] bytes) ≡ None
unfolding row_in
bytes_left [] vs h = absurd (omega arith)
bytes_left (b ∷ bytes) vs h = refl

pub left_in-end : (fields : List FieldDef) (i : ℕ) (rest : List ℕ) (vs : List Value) → length fields ≤ i → length rest ≡ 0 → with_before vs (left_in fields i rest) ≡ Some vs
left_in-end fields i rest vs h e =
    ap (λ fs. with_before vs (row_in (field_kinds fs) rest)) (drop_all i fields h) ∙ no_field_left rest vs e

pub left_in-more : (fields : List FieldDef) (i : ℕ) (rest : List ℕ) (vs : List Value) → length fields ≤ i → 0 < length rest → with_before vs (left_in fields i rest) ≡ None
left_in-more fields i rest vs h e =
    ap (λ fs. with_before vs (row_in (field_kinds fs) rest)) (drop_all i fields h) ∙ bytes_left rest vs e

pub left_in-start : (fields : List FieldDef) (bytes : List ℕ) → with_before [] (left_in fields 0 bytes) ≡ row_in (field_kinds fields) bytes
left_in-start fields bytes = elim (row_in (field_kinds fields) bytes) as (λ o. with_before [] o ≡ o) [ None ↦ refl | Some vs ↦ refl ]
