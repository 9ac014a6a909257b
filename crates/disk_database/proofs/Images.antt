-- That an image is one of some contents has one proof at most.
use Rattle.std.proofs.Common.{ℕ, List, ℤ}
use Rattle.std.proofs.Props.{props}
use Rattle.std.specs.List.{AllByRecursion-prop}
use Rattle.std.specs.Prelude.{IsTrue}
use Rattle.abl_values.specs.Arithmetic.{fits_bits}
use Rattle.abl_values.specs.Schema.{SchemaData}
use Rattle.database_meaning.specs.declared.contents.Contents.{Contents}
use Rattle.log_meaning.specs.steps.Steps.{Image}
use Rattle.sequence_slots.specs.Values.{Have64Bits}
use Rattle.disk_database.specs.Images.{AreSlotsOf, IsImageOf}

bits_prop : (values : List ℤ) → IsProp (Have64Bits values)
bits_prop values = AllByRecursion-prop (λ (value : ℤ). IsTrue (fits_bits 63 value)) (λ (value : ℤ). hlevel props) values

slots_prop : (schema : SchemaData) (contents : Contents) (slots : ℕ → List ℕ) → IsProp (AreSlotsOf schema contents slots)
slots_prop schema contents slots = hlevel (props, bits_prop)

pub image_prop : (schema : SchemaData) (contents : Contents) (image : Image) → IsProp (IsImageOf schema contents image)
image_prop schema contents image = hlevel (props, slots_prop)
