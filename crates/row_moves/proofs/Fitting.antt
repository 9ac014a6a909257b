-- Rows that fit the schema, where changes are added and undone.
use Rattle.std.proofs.Common.{◌≡◌, ◌==◌, ℕ, zero, suc, Bool, true, false, cond, eqb, List, [], ◌∷◌, ◌++◌, take, drop, Option, Some, None, refl, sym, ap, subst}
use Rattle.abl_values.specs.Schema.{SchemaData}
use Rattle.database_meaning.specs.declared.state.StoredRow.{StoredRow}
use Rattle.row_store.specs.declared.store.RowChange.{RowChange}
use Rattle.row_store.specs.Changes.{RowsById, undone, with_row}
use Rattle.row_keys.specs.Entries.{AreFitting}
use Rattle.row_moves.specs.Indexed.{AreFit, FitsSchema}

pub fit_more : (schema : SchemaData) (changes : List RowChange) (c : RowChange) → AreFit schema changes → FitsSchema schema c.old → AreFit schema (changes ++ c ∷ [])
fit_more schema [] c fit own = (own, tt)
fit_more schema (x ∷ changes) c fit own = (fit.0, fit_more schema changes c fit.1 own)

pub fit_first : (n : ℕ) (schema : SchemaData) (changes : List RowChange) → AreFit schema changes → AreFit schema (take n changes)
fit_first zero schema changes fit = tt
fit_first (suc n) schema [] fit = tt
fit_first (suc n) schema (x ∷ changes) fit = (fit.0, fit_first n schema changes fit.1)

pub fit_last : (n : ℕ) (schema : SchemaData) (changes : List RowChange) → AreFit schema changes → AreFit schema (drop n changes)
fit_last zero schema changes fit = fit
fit_last (suc n) schema [] fit = tt
fit_last (suc n) schema (x ∷ changes) fit = fit_last n schema changes fit.1

pub with_fits : (schema : SchemaData) (rows : RowsById) (at : ℕ) (value : Option StoredRow) → ((k : ℕ) → FitsSchema schema (rows k)) → FitsSchema schema value → (k : ℕ) → FitsSchema schema (with_row rows at value k)
with_fits schema rows at value all own k = by_row (eqb k at)
  where
    by_row : (b : Bool) → FitsSchema schema (cond b value (rows k))
    by_row true = own
    by_row false = all k

pub undone_fits : (schema : SchemaData) (changes : List RowChange) (rows : RowsById) → AreFit schema changes → ((k : ℕ) → FitsSchema schema (rows k)) → (k : ℕ) → FitsSchema schema (undone changes rows k)
undone_fits schema [] rows fit all k = all k
undone_fits schema (x ∷ changes) rows fit all k = with_fits schema (undone changes rows) x.row x.old (undone_fits schema changes rows fit.1 all) fit.0 k

pub all_fitting : (schema : SchemaData) (rows : RowsById) → ((k : ℕ) → FitsSchema schema (rows k)) → AreFitting schema rows
all_fitting schema rows all = λ k stored is. subst (FitsSchema schema) is (all k)
