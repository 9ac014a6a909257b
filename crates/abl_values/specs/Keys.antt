-- The key bytes of a row in an index, and its unique keys.
use Rattle.std.specs.Prelude.{ℕ, ◌-◌, ◌^◌, ◌<◌, Bool, true, false, not, ◌&&◌, ◌||◌, ◌==◌, if◌then◌else◌, List, [], ◌∷◌, ◌++◌, map, slice_index_or, Option, Some, None, ℤ, pos, ◌+ℤ◌, unsigned_abs}
use Rattle.std.specs.List.{flat_map}
use Rattle.std.specs.Ordering.{ordering_then}
use Rattle.std.specs.declared.cmp.Ordering.{Ordering}
use Rattle.std.specs.declared.cmp.Ordering.TheVariants.{Equal}
use Rattle.abl_base.specs.declared.value.Value.{Value}
use Rattle.abl_base.specs.declared.value.Value.TheVariants.{Text, Int, Int64, Dec, Logical, Date, Unknown}
use Rattle.abl_values.specs.declared.schema.KeyPart.{KeyPart}
use Rattle.abl_values.specs.Order.{compared_text, value_order}
use Rattle.abl_values.specs.Rows.{number_bytes}

-- ---- bytes

-- a zero byte of a text as 0 and 255, any other byte as it is
abbrev pub escaped_byte : ℕ → List ℕ
escaped_byte b = if b == 0 then 0 ∷ 255 ∷ [] else b ∷ []

abbrev pub escaped : List ℕ → List ℕ
escaped text = flat_map escaped_byte text

-- a signed number of this number of bits with its highest bit turned over: the number plus half its range
abbrev pub turned_over : ℕ → ℤ → ℕ
turned_over bits n = unsigned_abs (n +ℤ pos (2 ^ (bits - 1)))

-- the bytes of an ascending component
abbrev pub ascending_bytes : Value → List ℕ
ascending_bytes Unknown = 2 ∷ []
ascending_bytes (Text t) = 1 ∷ escaped (compared_text t) ++ 0 ∷ 0 ∷ []
ascending_bytes (Int n) = 1 ∷ number_bytes 8 (turned_over 64 n)
ascending_bytes (Int64 n) = 1 ∷ number_bytes 8 (turned_over 64 n)
ascending_bytes (Dec n) = 1 ∷ number_bytes 16 (turned_over 128 n)
ascending_bytes (Logical b) = 1 ∷ (if b then 1 else 0) ∷ []
ascending_bytes (Date d) = 1 ∷ number_bytes 4 (turned_over 32 d)

-- a byte of a component: in a descending one each byte b becomes 255 - b
abbrev pub turned_byte : Bool → ℕ → ℕ
turned_byte descending b = if descending then 255 - b else b

-- the bytes of a component
abbrev pub component_bytes : Bool → Value → List ℕ
component_bytes descending v = map (turned_byte descending) (ascending_bytes v)

-- the value of a component in a row
abbrev pub component : KeyPart → List Value → Value
component part values = slice_index_or values part.field Unknown

-- the key bytes of a row in an index with these components: their bytes one after the other
unfoldable pub key_bytes : List KeyPart → List Value → List ℕ
key_bytes parts values =
    flat_map (λ part. component_bytes part.descending (component part values)) parts

-- ---- order

-- the order of two values in a component
abbrev pub component_order : Bool → Value → Value → Ordering
component_order false a b = value_order a b
component_order true a b = value_order b a

-- the order of two rows in an index, component by component
unfoldable pub key_order : List KeyPart → List Value → List Value → Ordering
key_order [] a b = Equal
key_order (part ∷ parts) a b =
    ordering_then (component_order part.descending (component part a) (component part b)) (key_order parts a b)

-- ---- bytes

-- each number of the list is a byte
abbrev pub AreBytes : List ℕ → Type 0
AreBytes [] = Unit {0}
AreBytes (b ∷ bs) = (b < 256) × AreBytes bs

-- the text of a value has bytes, as every text of a program
abbrev pub HasBytes : Value → Type 0
HasBytes (Text t) = AreBytes t
HasBytes v = Unit {0}

abbrev pub HaveBytes : List Value → Type 0
HaveBytes [] = Unit {0}
HaveBytes (v ∷ vs) = HasBytes v × HaveBytes vs

-- ---- unique keys

abbrev pub is_unknown : Value → Bool
is_unknown (Text t) = false
is_unknown (Int n) = false
is_unknown (Int64 n) = false
is_unknown (Dec n) = false
is_unknown (Logical b) = false
is_unknown (Date d) = false
is_unknown Unknown = true

-- some component of the row is `?`
abbrev pub has_unknown : List KeyPart → List Value → Bool
has_unknown [] values = false
has_unknown (part ∷ parts) values = is_unknown (component part values) || has_unknown parts values

-- the unique key of a row in an index: its key bytes, where the index is unique and no component is `?`
unfoldable pub unique_key : Bool → List KeyPart → List Value → Option (List ℕ)
unique_key unique parts values =
    if unique && not (has_unknown parts values) then Some (key_bytes parts values) else None
