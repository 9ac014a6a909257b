-- Worked examples, each computed from the definitions.
use Rattle.std.specs.Prelude.{◌≡◌, refl, [], ◌∷◌, codes, Some, None, pos}
use Rattle.abl_base.specs.declared.value.Value.TheVariants.{Text, Int, Unknown}
use Rattle.abl_base.specs.declared.value.Kind.TheVariants.{Character, Integer, Decimal, Date as Day}
use Rattle.abl_base.specs.text_forms.TextForms.{AtInputEnd, BadElement, Elements}
use Rattle.value_formats.specs.declared.element.Element.TheVariants.{Bare, Quoted}
use Rattle.text_values.specs.TextValues.{value_in}
use Rattle.value_formats.specs.Lines.{first_line}
use Rattle.value_formats.specs.Imports.{line_at}

-- ---- lines
bare_and_quoted : first_line (codes "ab\"c \"d\"\"e\"f\r\n\"g\"")
    ≡ record { open_bytes = []; elements = Bare (codes "ab\"c") ∷ Quoted (codes "d\"e") ∷ Bare (codes "f") ∷ []; rest = codes "\"g\"" }
unfolding first_line
bare_and_quoted = refl

a_line_feed_in_quotes : first_line (codes "\"a\nb\"\n")
    ≡ record { open_bytes = []; elements = Quoted (codes "a\nb") ∷ []; rest = [] }
unfolding first_line
a_line_feed_in_quotes = refl

quotes_open_at_the_end : first_line (codes "\"a\"\"") ≡ record { open_bytes = []; elements = Quoted (codes "a\"") ∷ []; rest = [] }
unfolding first_line
quotes_open_at_the_end = refl

-- ---- IMPORT
two_targets : line_at (codes "x\n5 \"a\"\n") 2 (Some Integer ∷ Some Character ∷ [])
    ≡ Elements (Some (Int (pos 5)) ∷ Some (Text (codes "a")) ∷ []) 8
unfolding line_at first_line value_in
two_targets = refl

unknown_left_skipped_and_missing : line_at (codes "? - 7\n") 0 (Some Integer ∷ Some Day ∷ None ∷ Some Decimal ∷ [])
    ≡ Elements (Some Unknown ∷ None ∷ None ∷ None ∷ []) 6
unfolding line_at first_line value_in
unknown_left_skipped_and_missing = refl

the_second_is_bad : line_at (codes "5 \"?\" y\n.\n") 0 (Some Integer ∷ Some Integer ∷ Some Integer ∷ []) ≡ BadElement 2 8
unfolding line_at first_line value_in
the_second_is_bad = refl

a_point_alone : line_at (codes "1\n.\r\n2\n") 2 (Some Integer ∷ []) ≡ AtInputEnd
unfolding line_at first_line
a_point_alone = refl
