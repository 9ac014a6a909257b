-- What a call answers that reads a line of input.
use Rattle.std.specs.Prelude.{◌≡◌, Option, Some, None, Result, Ok, Err}
use Rattle.abl_base.specs.declared.value.Kind.{Kind}
use Rattle.value_formats.specs.declared.answer.Imported.{Imported as Values}
use Rattle.value_formats.specs.declared.answer.ImportFault.{ImportFault}
use Rattle.value_formats.specs.declared.answer.ImportFault.TheVariants.{AtEnd, BadField, NoMemory}
use Rattle.bound_tree.specs.declared.statement.Target.{Target}
use Rattle.block_meaning.specs.Streams.{kind_of}
use Rattle.abl_base.specs.text_forms.TextForms.{Imported, AtInputEnd, BadElement, Elements}

-- the kind of a target; `^` has none
abbrev pub kind_if : Option Target → Option Kind
kind_if None = None
kind_if (Some t) = Some (kind_of t)

-- the call answers what the line has, or there is no memory
abbrev pub ReadsLine : Result Values ImportFault → Imported → Type 0
ReadsLine (Ok read) wanted = wanted ≡ Elements read.values read.next
ReadsLine (Err AtEnd) wanted = wanted ≡ AtInputEnd
ReadsLine (Err (BadField number next)) wanted = wanted ≡ BadElement number next
ReadsLine (Err NoMemory) wanted = Unit {0}
