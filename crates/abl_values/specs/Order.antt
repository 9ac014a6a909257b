-- The order of values in an index, and when two of them are level.
use Rattle.std.specs.Prelude.{◌≡◌, ℕ, ◌+◌, true, false, ◌&&◌, ◌==◌, nat_le, if◌then◌else◌, List, [], ◌∷◌, map, ℤ, pos, ◌*ℤ◌}
use Rattle.abl_base.specs.declared.limits.TheConstants.{DECIMAL_SCALE}
use Rattle.std.specs.Cmp.Lexicographic.{slice_cmp}
use Rattle.std.specs.Ordering.{nat_cmp, int_cmp, ordering_then}
use Rattle.std.specs.declared.cmp.Ordering.{Ordering}
use Rattle.std.specs.declared.cmp.Ordering.TheVariants.{Equal}
use Rattle.abl_base.specs.declared.value.Value.{Value}
use Rattle.abl_base.specs.declared.value.Value.TheVariants.{Text, Int, Int64, Dec, Logical, Date, Unknown}

-- ---- texts

-- an ASCII capital letter in lower case, any other byte unchanged
abbrev pub folded_byte : ℕ → ℕ
folded_byte b = if nat_le 65 b && nat_le b 90 then b + 32 else b

-- puts b before a text without trailing `dropped` bytes. If that text is empty and b is `dropped`, b is removed too
abbrev pub kept_before : ℕ → ℕ → List ℕ → List ℕ
kept_before dropped b [] = if b == dropped then [] else b ∷ []
kept_before dropped b (c ∷ cs) = b ∷ c ∷ cs

-- the bytes without the run of this byte at their end
abbrev pub without_trailing : ℕ → List ℕ → List ℕ
without_trailing dropped [] = []
without_trailing dropped (b ∷ bs) = kept_before dropped b (without_trailing dropped bs)

-- a name or a text with its ASCII letters in lower case
abbrev pub folded : List ℕ → List ℕ
folded = map folded_byte

-- the compared bytes of a text: folded and without trailing blanks
abbrev pub compared_text : List ℕ → List ℕ
compared_text text = folded (without_trailing 32 text)

-- ---- values

-- a whole number as a decimal is stored
abbrev pub scaled : ℤ → ℤ
scaled n = n *ℤ pos DECIMAL_SCALE

-- the class of a value: numbers of all kinds are one, and `?` is above all others
abbrev pub class_of : Value → ℕ
class_of (Text t) = 0
class_of (Int n) = 1
class_of (Int64 n) = 1
class_of (Dec n) = 1
class_of (Logical b) = 2
class_of (Date d) = 3
class_of Unknown = 4

-- the number by which a value compares within its class: a number as a stored decimal, no below yes, dates by day
abbrev pub rank_of : Value → ℤ
rank_of (Text t) = pos 0
rank_of (Int n) = scaled n
rank_of (Int64 n) = scaled n
rank_of (Dec n) = n
rank_of (Logical false) = pos 0
rank_of (Logical true) = pos 1
rank_of (Date d) = d
rank_of Unknown = pos 0

-- the bytes by which a value compares within its class
abbrev pub letters_of : Value → List ℕ
letters_of (Text t) = compared_text t
letters_of (Int n) = []
letters_of (Int64 n) = []
letters_of (Dec n) = []
letters_of (Logical b) = []
letters_of (Date d) = []
letters_of Unknown = []

-- the index order: by class, then by number, then by bytes
unfoldable pub value_order : Value → Value → Ordering
value_order a b =
    ordering_then (nat_cmp (class_of a) (class_of b))
    (ordering_then (int_cmp (rank_of a) (rank_of b)) (slice_cmp nat_cmp (letters_of a) (letters_of b)))

-- neither value is above the other
abbrev pub IsLevel : Value → Value → Type 0
IsLevel a b = value_order a b ≡ Equal
