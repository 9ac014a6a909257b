-- What a line of a schema file says.
use Rattle.std.specs.Prelude.{ℕ, true, false, ◌||◌, ◌==◌, if◌then◌else◌, List, [], ◌∷◌, length, codes, Option, Some, None}
use Rattle.abl_base.specs.declared.value.Kind.{Kind}
use Rattle.abl_base.specs.declared.value.Kind.TheVariants.{Character, Integer, Int64, Decimal, Logical, Date}
use Rattle.abl_values.specs.Order.{folded}
use Rattle.abl_values.specs.Masks.{same_bytes}
use Rattle.schema_lines.specs.declared.item.Given.{Given}
use Rattle.schema_lines.specs.declared.item.Component.{Component}
use Rattle.schema_lines.specs.declared.item.Head.{Head}
use Rattle.schema_lines.specs.declared.item.Head.TheVariants.{Malformed, Table, Field, Index, Sequence}
use Rattle.schema_lines.specs.declared.item.Attribute.TheVariants.{Initial, Format, Mandatory, Order, Extent, Unique, Primary, Word, IndexField, Increment}
use Rattle.schema_lines.specs.declared.item.Line.{Line}
use Rattle.schema_lines.specs.declared.item.Line.TheVariants.{Skipped, Begins, Says}
use Rattle.schema_lines.specs.Lines.{Quote, begins, past_word, quote_of, word_of, after_word}
use Rattle.schema_lines.specs.Numbers.{small_number, long_number}

-- ---- the first line of an item: words and names in quotation marks, and nothing after them

-- the form continues after a word
abbrev pub word_then : Option (List ℕ) → (List ℕ → Head) → Head
word_then None form = Malformed
word_then (Some rest) form = form rest

-- the form continues after a name in quotation marks
abbrev pub name_then : Option Quote → (List ℕ → List ℕ → Head) → Head
name_then None form = Malformed
name_then (Some name) form = form name.text name.rest

-- the form ends here
abbrev pub ending : List ℕ → Head → Head
ending [] head = head
ending (b ∷ bs) head = Malformed

-- the kind with this name, in any case; any other type is unsupported
abbrev pub kind_named : List ℕ → Option Kind
kind_named name =
    if same_bytes (folded name) (codes "character") then Some Character
    else if same_bytes (folded name) (codes "integer") then Some Integer
    else if same_bytes (folded name) (codes "int64") then Some Int64
    else if same_bytes (folded name) (codes "decimal") then Some Decimal
    else if same_bytes (folded name) (codes "logical") then Some Logical
    else if same_bytes (folded name) (codes "date") then Some Date
    else None

-- a type: one word that is not empty
abbrev pub field_typed : List ℕ → List ℕ → List ℕ → Head
field_typed name table rest =
    if length (word_of rest) == 0 then Malformed
    else ending (after_word rest) (Field name table (kind_named (word_of rest)))

-- `"t"`
abbrev pub table_head : List ℕ → Head
table_head rest = name_then (quote_of rest) (λ name end. ending end (Table name))

-- `"f" OF "t" AS type`
abbrev pub field_head : List ℕ → Head
field_head rest =
    name_then (quote_of rest) (λ name then_of.
    word_then (past_word (codes "OF") then_of) (λ of_table.
    name_then (quote_of of_table) (λ table then_as.
    word_then (past_word (codes "AS") then_as) (λ typed.
    field_typed name table typed))))

-- `"i" ON "t"`
abbrev pub index_head : List ℕ → Head
index_head rest =
    name_then (quote_of rest) (λ name then_on.
    word_then (past_word (codes "ON") then_on) (λ on_table.
    name_then (quote_of on_table) (λ table end. ending end (Index name table))))

-- `"s"`
abbrev pub sequence_head : List ℕ → Head
sequence_head rest = name_then (quote_of rest) (λ name end. ending end (Sequence name))

-- the item of the words after ADD
abbrev pub added : List ℕ → Head
added rest =
    if begins (codes "TABLE") rest then table_head (after_word rest)
    else if begins (codes "FIELD") rest then field_head (after_word rest)
    else if begins (codes "INDEX") rest then index_head (after_word rest)
    else if begins (codes "SEQUENCE") rest then sequence_head (after_word rest)
    else Malformed

-- ---- attribute lines: a word, the value of the attribute, and then anything

abbrev pub quoted_given : Option Quote → Option Given
quoted_given None = None
quoted_given (Some q) = Some (record { quoted = true; text = q.text })

abbrev pub word_given : List ℕ → Option Given
word_given word = if length word == 0 then None else Some (record { quoted = false; text = word })

-- a text in quotation marks or a word; none where the line begins with neither
abbrev pub given : List ℕ → Option Given
given [] = None
given (b ∷ bs) = if b == 34 then quoted_given (quote_of (b ∷ bs)) else word_given (word_of (b ∷ bs))

-- the text that is given, empty where none is
abbrev pub text_given : Option Given → List ℕ
text_given None = []
text_given (Some g) = g.text

-- a field named in quotation marks, and the direction after it
abbrev pub directed : Quote → Option Component
directed q =
    if begins (codes "ASCENDING") q.rest then Some (record { field = q.text; descending = false })
    else if begins (codes "DESCENDING") q.rest then Some (record { field = q.text; descending = true })
    else None

abbrev pub component : Option Quote → Option Component
component None = None
component (Some q) = directed q

-- a line with an attribute of an index or a sequence; any other line is skipped
abbrev pub index_or_sequence_line : List ℕ → Line
index_or_sequence_line line =
    if begins (codes "UNIQUE") line then Says Unique
    else if begins (codes "PRIMARY") line then Says Primary
    else if begins (codes "WORD") line then Says Word
    else if begins (codes "INDEX-FIELD") line then Says (IndexField (component (quote_of (after_word line))))
    else if begins (codes "INCREMENT") line then Says (Increment (long_number (text_given (given (after_word line)))))
    else Skipped

-- a line that begins no item
abbrev pub attribute_line : List ℕ → Line
attribute_line line =
    if begins (codes "INITIAL") line then Says (Initial (given (after_word line)))
    else if begins (codes "FORMAT") line then Says (Format (text_given (given (after_word line))))
    else if begins (codes "MANDATORY") line then Says Mandatory
    else if begins (codes "ORDER") line then Says (Order (small_number (word_of (after_word line))))
    else if begins (codes "EXTENT") line then Says (Extent (small_number (word_of (after_word line))))
    else index_or_sequence_line line

-- what a line says
unfoldable pub said : List ℕ → Line
said line =
    if begins (codes "ADD") line then Begins (added (after_word line))
    else if begins (codes "UPDATE") line || (begins (codes "DROP") line || begins (codes "RENAME") line) then Begins Malformed
    else attribute_line line
