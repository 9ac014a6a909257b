-- The rows of the table of answers that a Get can come to.
use Rattle.std.proofs.Common.{◌≡◌, ◌≢◌, ℕ, true, false, List, Option, Some, None, MatchOption, refl, sym, ap, ◌∙◌, subst, inl, inr}
use Rattle.std.specs.Prelude.{IsTrue}
use Rattle.abl_base.specs.declared.value.Value.{Value}
use Rattle.abl_base.specs.declared.row.RowId.{RowId}
use Rattle.abl_values.specs.Schema.{SchemaData}
use Rattle.database_meaning.specs.declared.state.Key.{Key}
use Rattle.database_protocol.specs.declared.operation.Op.TheVariants.{Get, NextValue}
use Rattle.database_protocol.specs.declared.answer.Answer.TheVariants.{Gone, Row as RowAnswer}
use Rattle.database_meaning.specs.Setting.{Setting, unique_keys, has_key}
use Rattle.database_meaning.specs.State.{State, view}
use Rattle.database_meaning.specs.Waiting.{row_in}
use Rattle.database_meaning.specs.Answers.{FromGone, IsThere}
use Rattle.row_store.specs.Rows.{RowState, IsObservable, IsConsistent}
use Rattle.row_store.specs.Questions.{table_in, table_at}
use Rattle.db_core.specs.declared.control.Control.{Control}
use Rattle.db_core.specs.Represents.{Represents, IsSound}
use Rattle.db_core.proofs.Views.{rows_viewed}

pub no_key : (schema : SchemaData) (k : Key) → ¬ IsTrue (has_key (unique_keys schema None) k)
unfolding unique_keys
no_key schema k h = let clash : false ≡ true = h in cc

module _ (f : Setting) (rows : RowState) (control : Control) (s : State) (c table : ℕ) (row : RowId) (represents : Represents f rows control s) (sound : IsSound rows control) (settled : IsConsistent rows) (seen : IsObservable rows) where
  there_to : IsThere f s table row.0 → table_at rows.rows row.0 ≡ Some table
  there_to (r, is, e) = ap table_in (rows_viewed f rows control s represents sound settled seen row.0 ∙ is) ∙ ap Some e

  pub get_gone : table_at rows.rows row.0 ≢ Some table → FromGone f s c (Get table row) Gone
  get_gone apart = inl ((λ there. apart (there_to there)), refl)

  pub get_found : (values : List Value) → rows.rows row.0 ≡ row_in table values → FromGone f s c (Get table row) (RowAnswer values)
  get_found values is =
      let viewed : view f s row.0 ≡ row_in table values = sym (rows_viewed f rows control s represents sound settled seen row.0) ∙ is in
      inr (
        (λ gone. gone (record { table = table; values = values }, viewed, refl)),
        inr (
          (λ h. h.1),
          inr (
            (λ h. h.0.1),
            inr (
              (λ h. h.0.1),
              inr (
                (λ h. h.1),
                inr ((λ h. no_key f.schema h.2.0.0 h.2.0.2), inr ((λ h. h.0), inr ((λ h. h.0), inr ((λ h. let e : Get table row ≡ NextValue h.0 = h.1 in cc), inr ((λ h. h.0), (values, refl, viewed)))))),
              ),
            ),
          ),
        ),
      )

pub none_of : (found : Option (List Value)) (R : Type 0) (P : List Value → Type 0) → found ≡ None → MatchOption found R P → R
none_of None R P e h = h
none_of (Some x) R P e h = cc

pub some_of : (found : Option (List Value)) (x : List Value) (R : Type 0) (P : List Value → Type 0) → found ≡ Some x → MatchOption found R P → P x
some_of None x R P e h = cc
some_of (Some y) x R P e h = let same : y ≡ x = cc in subst P same h
