-- The values at the end of a line are read back.
use Rattle.std.proofs.Common.{◌≡◌, ◌≤◌, ℕ, List, [], ◌∷◌, ◌++◌, length, map, drop, Some, refl, sym, ap, ◌∙◌, subst, arith, append_assoc, append-nil, length-append}
use Rattle.std.proofs.lemmas.List.{drop_at}
use Rattle.abl_base.specs.declared.value.Value.{Value}
use Rattle.abl_base.specs.declared.value.Kind.{Kind}
use Rattle.abl_values.specs.Fit.{IsOfKind}
use Rattle.abl_values.specs.Texts.{export_text}
use Rattle.value_masks.specs.Export.{export}
use Rattle.abl_base.specs.text_forms.TextForms.{Elements}
use Rattle.value_formats.specs.Imports.{line_at}
use Rattle.value_formats.specs.Laws.{AreOfKinds}
use Rattle.value_formats.proofs.Exported.{row_back}

-- what is read of a row that a text begins with
pub record IsReadBack (kinds : List Kind) (row : List Value) (text rest : List ℕ) : Type 0 where
  pub next : ℕ
  pub within : next ≤ length text
  pub line : line_at text 0 (map (λ k. Some k) kinds) ≡ Elements (map (λ v. Some v) row) next
  pub after : drop next text ≡ rest

pub row_is_read : (kinds : List Kind) (row : List Value) (text rest : List ℕ) → AreOfKinds kinds row → text ≡ export row ++ rest → IsReadBack kinds row text rest
row_is_read kinds row text rest h e =
    subst (λ (t : List ℕ). IsReadBack kinds row t rest) (sym e)
    (record {
      next = length (export row);
      within = omega (arith, length-append (export row) rest);
      line = row_back row kinds rest h;
      after = drop_at (export row) rest (length (export row)) refl;
    })

-- one value before the end of a line
pub value_is_read : (kind : Kind) (v : Value) (text rest : List ℕ) → IsOfKind kind v → text ≡ export_text v ++ 10 ∷ rest → IsReadBack (kind ∷ []) (v ∷ []) text rest
value_is_read kind v text rest h e =
    row_is_read (kind ∷ []) (v ∷ []) text rest (h, tt)
    (e ∙ sym (append_assoc (export_text v) (10 ∷ []) rest) ∙ ap (λ (xs : List ℕ). xs ++ 10 ∷ [] ++ rest) (sym (append-nil (export_text v))))
