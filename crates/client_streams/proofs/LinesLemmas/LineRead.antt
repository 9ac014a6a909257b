-- The kinds of targets, and the answers of a line of input.
use Rattle.std.proofs.Common.{◌≡◌, ◌≤◌, ℕ, List, [], ◌∷◌, length, Option, Some, None, refl, sym, ap, if◌then◌else◌}
use Rattle.std.specs.Prelude.{map, Result, Ok, Err}
use Rattle.std.proofs.lemmas.List.{drop_all}
use Rattle.abl_base.specs.declared.value.Kind.{Kind}
use Rattle.value_formats.specs.declared.answer.Imported.{Imported as Values}
use Rattle.value_formats.specs.declared.answer.ImportFault.{ImportFault}
use Rattle.value_formats.specs.declared.answer.ImportFault.TheVariants.{AtEnd, BadField, NoMemory}
use Rattle.value_formats.specs.Lines.{first_line, is_input_end}
use Rattle.value_formats.specs.Imports.{Answers, line_at, answer_of_line}
use Rattle.bound_tree.specs.declared.statement.Target.{Target}
use Rattle.block_meaning.specs.Streams.{kinds_of}
use Rattle.abl_base.specs.text_forms.TextForms.{Imported, AtInputEnd}
use Rattle.client_streams.specs.lines.Imports.{kind_if, ReadsLine}

pub kinds_are : (ts : List (Option Target)) → kinds_of ts ≡ map kind_if ts
kinds_are [] = refl
kinds_are (None ∷ ts) = ap (λ ks. None ∷ ks) (kinds_are ts)
kinds_are (Some t ∷ ts) = ap (λ ks. kind_if (Some t) ∷ ks) (kinds_are ts)

pub reads_line : (r : Result Values ImportFault) (wanted : Imported) → Answers r wanted → ReadsLine r wanted
reads_line (Ok read) wanted e = sym e
reads_line (Err AtEnd) wanted e = sym e
reads_line (Err (BadField number next)) wanted e = sym e
reads_line (Err NoMemory) wanted e = tt

-- beyond the input
pub beyond : (input : List ℕ) (from : ℕ) (kinds : List (Option Kind)) → length input ≤ from → line_at input from kinds ≡ AtInputEnd
unfolding line_at
beyond input from kinds l = ap (λ rest. if is_input_end rest then AtInputEnd else answer_of_line input kinds (first_line rest)) (drop_all from input l)
