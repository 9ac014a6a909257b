-- How many fields a table has.
use Rattle.std.proofs.Common.{◌≡◌, ◌<◌, ◌≤◌, ℕ, List, length}
use Rattle.std.proofs.lemmas.List.Elements.{All-get_or}
use Rattle.abl_base.specs.declared.limits.TheConstants.{MAX_FIELDS}
use Rattle.abl_values.specs.declared.schema.FieldDef.{FieldDef}
use Rattle.abl_values.specs.declared.schema.TableDef.{TableDef}
use Rattle.abl_values.specs.Schema.{SchemaData, fields_of, no_table}
use Rattle.abl_values.specs.Sound.{IsSound}

pub fields_within : (s : SchemaData) (t : ℕ) (fields : List FieldDef) → IsSound s → t < length s.tables → fields ≡ fields_of s t → length fields ≤ MAX_FIELDS
fields_within s t fields sound lt is = rw is (All-get_or (λ (d : TableDef). length d.fields ≤ MAX_FIELDS) s.tables t no_table lt sound.limits.1)
