-- The forms that programs use are those of the contract.
use Rattle.std.specs.Prelude.{refl}
use Rattle.value_formats.specs.Imports.{text_forms}
use Rattle.evaluator.specs.Forms.{AreForms}

pub forms_of_programs : AreForms text_forms
forms_of_programs = record { numbers = refl; masks = refl }
