-- Worked examples, each computed from the definitions.
use Rattle.std.specs.Prelude.{◌≡◌, refl, true, [], ◌∷◌, codes, Some, None, pos, negsuc}
use Rattle.abl_base.specs.declared.value.Value.TheVariants.{Text, Int, Logical}
use Rattle.abl_base.specs.declared.value.Kind.TheVariants.{Character, Integer, Logical as Truth, Date as Day}
use Rattle.text_values.specs.TextValues.{number_in}
use Rattle.schema_lines.specs.declared.item.Head.TheVariants.{Malformed, Table, Field, Sequence}
use Rattle.schema_lines.specs.declared.item.Line.TheVariants.{Begins, Says, Skipped}
use Rattle.schema_lines.specs.declared.item.Attribute.TheVariants.{Format, Increment, IndexField, Order, Primary, Word}
use Rattle.schema_lines.specs.Lines.{lines_of, trimmed}
use Rattle.schema_lines.specs.Numbers.{long_number, small_number}
use Rattle.schema_lines.specs.Forms.{said}
use Rattle.schema_lines.specs.Files.{items_of}
use Rattle.schema_lines.specs.Initials.{initial_given}
use Rattle.schema_lines.specs.Attributes.{order_of}

-- ---- lines

blanks_around : trimmed (codes " \t MANDATORY \r") ≡ codes "MANDATORY"
blanks_around = refl

up_to_the_period : lines_of (codes "a\n b \r\n.\nc") ≡ codes "a" ∷ codes "b" ∷ []
up_to_the_period = refl

-- ---- forms

a_table : said (codes "ADD TABLE \"Item\"") ≡ Begins (Table (codes "Item"))
unfolding said
a_table = refl

no_quotation_marks : said (codes "ADD TABLE customer") ≡ Begins Malformed
unfolding said
no_quotation_marks = refl

a_field : said (codes "ADD FIELD \"f\" OF \"t\" AS Date") ≡ Begins (Field (codes "f") (codes "t") (Some Day))
unfolding said
a_field = refl

words_after_a_table : said (codes "ADD TABLE \"t\" x") ≡ Begins Malformed
unfolding said
words_after_a_table = refl

a_doubled_mark : said (codes "FORMAT \"a\"\"b\" c") ≡ Says (Format (codes "a\"b"))
unfolding said
a_doubled_mark = refl

a_component : said (codes "INDEX-FIELD \"f\" DESCENDING ABBREVIATED")
    ≡ Says (IndexField (Some (record { field = codes "f"; descending = true })))
unfolding said
a_component = refl

an_increment : said (codes "INCREMENT -2 x") ≡ Says (Increment (Some (negsuc 1)))
unfolding said
an_increment = refl

an_increment_in_quotation_marks : said (codes "INCREMENT \"2\"") ≡ Says (Increment (Some (pos 2)))
unfolding said
an_increment_in_quotation_marks = refl

an_increment_with_a_blank : said (codes "INCREMENT \" 2\"") ≡ Says (Increment None)
unfolding said
an_increment_with_a_blank = refl

a_label : said (codes "LABEL \"Items\"") ≡ Skipped
unfolding said
a_label = refl

-- ---- items

an_attribute_before_the_first_item : items_of (codes "UNIQUE\nADD TABLE \"t\"\nWORD\n\nADD SEQUENCE \"s\"\nPRIMARY")
    ≡ record { line = 2; head = Table (codes "t"); attributes = record { line = 3; attribute = Word } ∷ [] }
    ∷ record { line = 5; head = Sequence (codes "s"); attributes = record { line = 6; attribute = Primary } ∷ [] } ∷ []
unfolding items_of said
an_attribute_before_the_first_item = refl

the_last_of_two_orders : order_of (record { line = 2; attribute = Order (Some 5) } ∷ record { line = 3; attribute = Order (Some 7) } ∷ []) ≡ 7
the_last_of_two_orders = refl

-- ---- numbers, dates and initial values

a_leading_zero : small_number (codes "010") ≡ None
a_leading_zero = refl

a_negative_number : long_number (codes "-7") ≡ Some (negsuc 6)
a_negative_number = refl

zeros_after_the_point : initial_given Integer (codes ">>9") (Some (record { quoted = true; text = codes "12.00" })) ≡ Some (Int (pos 12))
unfolding initial_given number_in
zeros_after_the_point = refl

no_whole_number : initial_given Integer (codes ">>9") (Some (record { quoted = true; text = codes "1.5" })) ≡ None
unfolding initial_given number_in
no_whole_number = refl

a_word_of_the_mask : initial_given Truth (codes "F/M") (Some (record { quoted = true; text = codes "f" })) ≡ Some (Logical true)
unfolding initial_given
a_word_of_the_mask = refl

a_quoted_question_mark : initial_given Character (codes "x(8)") (Some (record { quoted = true; text = codes "?" })) ≡ Some (Text (codes "?"))
unfolding initial_given
a_quoted_question_mark = refl
