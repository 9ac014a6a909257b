-- The forms of values in texts over which expressions are computed.
use Rattle.std.specs.Prelude.{◌≡◌}
use Rattle.text_values.specs.TextValues.{number_in}
use Rattle.abl_base.specs.text_forms.TextForms.{TextForms, AtInputEnd}
use Rattle.value_formats.specs.Masked.{masked}

-- the forms take a text for the number that it denotes, and write under a mask what `masked` says. What they read of a line of input counts for
-- nothing here
pub record AreForms (forms : TextForms) : Type 0 where
  pub numbers : forms.number_in ≡ number_in
  pub masks : forms.masked ≡ masked

-- such forms
abbrev pub the_forms : TextForms
the_forms = record { masked = masked; number_in = number_in; line_at = λ input from kinds. AtInputEnd }
