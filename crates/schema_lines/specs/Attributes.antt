-- What the attribute lines under an item give. Of several lines of one attribute the last counts.
use Rattle.std.specs.Prelude.{ℕ, ◌^◌, Bool, true, false, nat_lt, if◌then◌else◌, List, [], fold, Option, Some, None, unwrap_or, ℤ, pos}
use Rattle.std.specs.List.{list_any}
use Rattle.abl_base.specs.declared.value.Kind.{Kind}
use Rattle.abl_base.specs.declared.value.Value.{Value}
use Rattle.abl_base.specs.declared.value.Value.TheVariants.{Unknown}
use Rattle.abl_values.specs.declared.schema.FieldDef.{FieldDef}
use Rattle.schema_lines.specs.declared.item.Given.{Given}
use Rattle.schema_lines.specs.declared.item.Attribute.{Attribute}
use Rattle.schema_lines.specs.declared.item.Attribute.TheVariants.{Initial, Format, Mandatory, Order, Extent, Unique, Primary, Word, Increment}
use Rattle.schema_lines.specs.declared.item.Attributed.{Attributed}
use Rattle.schema_lines.specs.Forms.{text_given}
use Rattle.schema_lines.specs.Numbers.{long_number}
use Rattle.abl_values.specs.Fit.{default_initial}
use Rattle.schema_lines.specs.Initials.{initial_given, mask_of}

abbrev pub is_mandatory : Attribute → Bool
is_mandatory Mandatory = true
is_mandatory attribute = false

abbrev pub is_unique : Attribute → Bool
is_unique Unique = true
is_unique attribute = false

abbrev pub is_primary : Attribute → Bool
is_primary Primary = true
is_primary attribute = false

abbrev pub is_word : Attribute → Bool
is_word Word = true
is_word attribute = false

-- one of the attributes passes
abbrev pub has : (Attribute → Bool) → List Attributed → Bool
has passes attributes = list_any (λ a. passes a.attribute) attributes

abbrev pub format_after : List ℕ → Attribute → List ℕ
format_after format (Format text) = text
format_after format attribute = format

-- the text of FORMAT, empty without one
abbrev pub format_of : List Attributed → List ℕ
format_of attributes = fold (λ format a. format_after format a.attribute) [] attributes

abbrev pub extent_after : ℕ → Attribute → ℕ
extent_after extent (Extent n) = unwrap_or n extent
extent_after extent attribute = extent

-- the number of EXTENT, 0 without one
abbrev pub extent_of : List Attributed → ℕ
extent_of attributes = fold (λ extent a. extent_after extent a.attribute) 0 attributes

abbrev pub order_after : ℕ → Attribute → ℕ
order_after order (Order n) = unwrap_or n order
order_after order attribute = order

-- the number of ORDER; without one a number above all that an ORDER has
abbrev pub order_of : List Attributed → ℕ
order_of attributes = fold (λ order a. order_after order a.attribute) (2 ^ 31) attributes

-- ---- fields

-- the kind; none where EXTENT is above 0
abbrev pub kind_of : Option Kind → List Attributed → Option Kind
kind_of kind attributes = if nat_lt 0 (extent_of attributes) then None else kind

abbrev pub initial_after : Kind → List ℕ → Value → Attribute → Value
initial_after kind mask value (Initial g) = unwrap_or (initial_given kind mask g) value
initial_after kind mask value attribute = value

-- the initial value; a field of an unsupported kind has `?` whatever INITIAL says
abbrev pub initial_of : Option Kind → List ℕ → List Attributed → Value
initial_of None mask attributes = Unknown
initial_of (Some kind) mask attributes =
    fold (λ value a. initial_after kind mask value a.attribute) (default_initial kind) attributes

abbrev pub field_def : List ℕ → Option Kind → List Attributed → FieldDef
field_def name kind attributes =
    (let mask : List ℕ = mask_of kind (format_of attributes) in
    record { name = name; kind = kind; initial = initial_of kind mask attributes; mandatory = has is_mandatory attributes; mask = mask })

-- ---- sequences

-- the number that a text gives a sequence
abbrev pub sequence_number : Option Given → Option ℤ
sequence_number g = long_number (text_given g)

abbrev pub start_after : ℤ → Attribute → ℤ
start_after start (Initial g) = unwrap_or (sequence_number g) start
start_after start attribute = start

-- INITIAL of a sequence, 0 without one
abbrev pub start_of : List Attributed → ℤ
start_of attributes = fold (λ start a. start_after start a.attribute) (pos 0) attributes

abbrev pub increment_after : ℤ → Attribute → ℤ
increment_after increment (Increment n) = unwrap_or n increment
increment_after increment attribute = increment

-- INCREMENT of a sequence, 1 without one
abbrev pub increment_of : List Attributed → ℤ
increment_of attributes = fold (λ increment a. increment_after increment a.attribute) (pos 1) attributes
