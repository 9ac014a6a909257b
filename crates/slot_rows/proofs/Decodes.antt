-- The row that bytes are.
use Rattle.std.proofs.Common.{◌≡◌, ℕ, suc, ◌<◌, List, [], ◌∷◌, length, get_or, Some, sym, ap}
use Rattle.abl_base.specs.declared.value.Value.{Value}
use Rattle.abl_values.specs.Keys.{AreBytes}
use Rattle.abl_values.specs.Rows.{fragments_of}
use Rattle.abl_values.specs.Rows as bytes
use Rattle.abl_values.specs.Schema.{SchemaData}
use Rattle.abl_values.proofs.RowLaws.{row_in-back}
use Rattle.database_meaning.specs.Setting.{FitsTable, kinds_of, row_size}

bytes_all : (xs : List ℕ) → ((k : ℕ) → get_or xs k 0 < 256) → AreBytes xs
bytes_all [] h = tt
bytes_all (x ∷ xs) h = (h 0, bytes_all xs (λ k. h (suc k)))

module _ (schema : SchemaData) (table : ℕ) (stored : List ℕ) where
  module _ (small : (k : ℕ) → get_or stored k 0 < 256) (values : List Value) (is : bytes.row_in (kinds_of schema table) stored ≡ Some values) where
    pub fits_table : FitsTable schema table values
    fits_table = (row_in-back (kinds_of schema table) stored values (bytes_all stored small) is).1

    pub counts : fragments_of (length stored) ≡ fragments_of (row_size values)
    counts = ap (λ (b : List ℕ). fragments_of (length b)) (sym (row_in-back (kinds_of schema table) stored values (bytes_all stored small) is).0)
