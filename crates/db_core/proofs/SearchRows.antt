-- The rows of the table of answers that a Next and operations on sequences can come to.
use Rattle.std.proofs.Common.{◌≡◌, ◌⊎◌, ℕ, Bool, List, Option, Some, None, MatchOption, refl, sym, subst, inl, inr}
use Rattle.abl_base.specs.declared.value.Value.{Value}
use Rattle.abl_base.specs.declared.row.RowId.{RowId}
use Rattle.database_protocol.specs.declared.row_order.Cursor.{Cursor}
use Rattle.abl_values.specs.Schema.{SchemaData}
use Rattle.database_protocol.specs.declared.operation.Op.{Op}
use Rattle.database_protocol.specs.declared.operation.Op.TheVariants.{Next, NextValue}
use Rattle.database_protocol.specs.declared.answer.Answer.{Answer}
use Rattle.database_protocol.specs.declared.answer.Answer.TheVariants.{AtEnd, Found}
use Rattle.database_meaning.specs.Setting.{Setting}
use Rattle.database_meaning.specs.State.{State, view}
use Rattle.database_meaning.specs.Search.{FindsNone, IsNextIn}
use Rattle.database_meaning.specs.Answers.{FromGone, Succeeds}
use Rattle.row_store.specs.declared.store.FoundRow.{FoundRow}
use Rattle.row_store.specs.Changes.{RowsById}
use Rattle.row_store.specs.Rows.{RowState, IsObservable, IsConsistent}
use Rattle.row_store.specs.Questions.{FindsNoneIn}
use Rattle.db_core.specs.declared.control.Control.{Control}
use Rattle.db_core.specs.Represents.{Represents, IsSound}
use Rattle.db_core.proofs.GetRows.{no_key}
use Rattle.db_core.proofs.Views.{rows_viewed}

module _ (f : Setting) (rows : RowState) (control : Control) (s : State) (c table : ℕ) (index : Option ℕ) (prefix : List Value) (cursor : Option Cursor) (forward : Bool)
    (represents : Represents f rows control s) (sound : IsSound rows control) (settled : IsConsistent rows) (seen : IsObservable rows) where
  abbrev op : Op
  op = Next table index prefix cursor forward

  rows_are : rows.rows ≡ view f s
  rows_are = λ i k. rows_viewed f rows control s represents sound settled seen k i

  past : (a : Answer) → ((FindsNone f s op × (a ≡ AtEnd)) ⊎ (¬ FindsNone f s op × Succeeds f s c op a)) → FromGone f s c op a
  past a h =
      inr ((λ h. h), inr ((λ h. h.1), inr ((λ h. h.0.1), inr ((λ h. h.0.1), inr ((λ h. h.1), inr ((λ h. no_key f.schema h.2.0.0 h.2.0.2), inr ((λ h. h.0), inr ((λ h. h.0), inr ((λ h. let e : op ≡ NextValue h.0 = h.1 in cc), last h)))))))))
    where
      last : ((FindsNone f s op × (a ≡ AtEnd)) ⊎ (¬ FindsNone f s op × Succeeds f s c op a)) → ((Unit {0} × FindsNone f s op) × (a ≡ AtEnd)) ⊎ (¬ (Unit {0} × FindsNone f s op) × Succeeds f s c op a)
      last (inl n) = inl ((tt, n.0), n.1)
      last (inr n) = inr ((λ m. n.0 m.1), n.1)

  pub next_none : FindsNoneIn rows.schema rows.rows table index prefix cursor forward → FromGone f s c op AtEnd
  next_none none =
      past AtEnd
      (inl (
        subst (λ (r : RowsById). FindsNoneIn f.schema r table index prefix cursor forward) rows_are
            (subst (λ (x : SchemaData). FindsNoneIn x rows.rows table index prefix cursor forward) (sym represents.schema) none),
        refl,
      ))

  pub next_found : (row : RowId) (key : List ℕ) (values : List Value) → IsNextIn rows.schema rows.rows table index prefix cursor forward row key values → FromGone f s c op (Found row key values)
  next_found row key values is =
      let here : IsNextIn f.schema (view f s) table index prefix cursor forward row key values =
      subst (λ (r : RowsById). IsNextIn f.schema r table index prefix cursor forward row key values) rows_are
      (subst (λ (x : SchemaData). IsNextIn x rows.rows table index prefix cursor forward row key values) (sym represents.schema) is) in
      past (Found row key values) (inr ((λ none. none row key values here.0), (row, key, values, refl, here)))

pub found_none : (found : Option FoundRow) (R : Type 0) (P : FoundRow → Type 0) → found ≡ None → MatchOption found R P → R
found_none None R P e h = h
found_none (Some x) R P e h = cc

pub found_some : (found : Option FoundRow) (x : FoundRow) (R : Type 0) (P : FoundRow → Type 0) → found ≡ Some x → MatchOption found R P → P x
found_some None x R P e h = cc
found_some (Some y) x R P e h = let same : y ≡ x = cc in subst P same h
