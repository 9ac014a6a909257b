-- The sorts of expressions: which operands and arguments fit, and the sort of the result.
use Rattle.std.specs.Prelude.{ℕ, Bool, true, false, not, ◌&&◌, ◌||◌, ◌==◌, if◌then◌else◌, List, Option, Some, None}
use Rattle.abl_base.specs.declared.value.Kind.{Kind}
use Rattle.abl_base.specs.declared.value.Kind.TheVariants.{Character, Integer, Int64, Decimal, Logical, Date}
use Rattle.abl_base.specs.declared.value.Value.{Value}
use Rattle.abl_base.specs.declared.value.Value.TheVariants as value
use Rattle.abl_values.specs.Masks.{mask_is_for}
use Rattle.bound_tree.specs.declared.expression.Binary.{Binary}
use Rattle.bound_tree.specs.declared.expression.Binary.TheVariants as two
use Rattle.syntax_tree.specs.declared.word.Function.{Function}
use Rattle.syntax_tree.specs.declared.word.Function.TheVariants as f
use Rattle.bind_names.specs.declared.sort.Sort.{Sort}
use Rattle.bind_names.specs.declared.sort.Sort.TheVariants.{Of, Unknown, Broken}

-- ---- kinds

abbrev pub same_kind : Kind → Kind → Bool
same_kind Character Character = true
same_kind Integer Integer = true
same_kind Int64 Int64 = true
same_kind Decimal Decimal = true
same_kind Logical Logical = true
same_kind Date Date = true
same_kind k l = false

abbrev pub is_whole_kind : Kind → Bool
is_whole_kind Integer = true
is_whole_kind Int64 = true
is_whole_kind k = false

abbrev pub is_number_kind : Kind → Bool
is_number_kind k = is_whole_kind k || same_kind k Decimal

-- a value of the first kind fits a target of the second: of the same kind, or both numbers
abbrev pub kind_fits : Kind → Kind → Bool
kind_fits k target = same_kind k target || (is_number_kind k && is_number_kind target)

-- ---- sorts

abbrev pub is_of : (Kind → Bool) → Sort → Bool
is_of test (Of k) = test k
is_of test Unknown = false
is_of test Broken = false

abbrev pub is_unknown : Sort → Bool
is_unknown (Of k) = false
is_unknown Unknown = true
is_unknown Broken = false

abbrev pub is_broken : Sort → Bool
is_broken (Of k) = false
is_broken Unknown = false
is_broken Broken = true

abbrev pub is_date : Sort → Bool
is_date = is_of (same_kind Date)

abbrev pub is_decimal : Sort → Bool
is_decimal = is_of (same_kind Decimal)

-- whether it may be used where a value of such a kind is expected: `?` and a broken expression may be used anywhere
abbrev pub may : (Kind → Bool) → Sort → Bool
may test (Of k) = test k
may test Unknown = true
may test Broken = true

abbrev pub may_be_text : Sort → Bool
may_be_text = may (same_kind Character)

abbrev pub may_be_whole : Sort → Bool
may_be_whole = may is_whole_kind

abbrev pub may_be_number : Sort → Bool
may_be_number = may is_number_kind

abbrev pub may_be_logical : Sort → Bool
may_be_logical = may (same_kind Logical)

abbrev pub may_be_date : Sort → Bool
may_be_date = may (same_kind Date)

-- it fits a target of the kind
abbrev pub fits : Sort → Kind → Bool
fits s target = may (λ k. kind_fits k target) s

-- the sort of a value
abbrev pub sort_of_value : Value → Sort
sort_of_value (value.Text t) = Of Character
sort_of_value (value.Int n) = Of Integer
sort_of_value (value.Int64 n) = Of Int64
sort_of_value (value.Dec n) = Of Decimal
sort_of_value (value.Logical b) = Of Logical
sort_of_value (value.Date d) = Of Date
sort_of_value value.Unknown = Unknown

-- ---- operators: the sort of the result, and none where the operands do not fit

-- the sort, where the condition holds
abbrev pub where_holds : Bool → Sort → Option Sort
where_holds true s = Some s
where_holds false s = None

-- of two numbers: DECIMAL where one is, else INT64; always `?` where one is and none is DECIMAL
abbrev pub number_sort : Sort → Sort → Sort
number_sort a b = if is_decimal a || is_decimal b then Of Decimal else if is_unknown a || is_unknown b then Unknown else Of Int64

abbrev pub numbers : Sort → Sort → Option Sort
numbers a b = where_holds (may_be_number a && may_be_number b) (number_sort a b)

-- `+`: of two texts, of a date and a whole number, or of numbers
abbrev pub sum : Sort → Sort → Option Sort
sum a b =
    if may_be_text a && may_be_text b then Some (if is_unknown a && is_unknown b then Unknown else Of Character)
    else if is_date a then where_holds (may_be_whole b) (Of Date)
    else numbers a b

-- `-`: of dates, of a date and a whole number, or of numbers
abbrev pub difference : Sort → Sort → Option Sort
difference a b =
    if is_date a then (if is_date b then Some (Of Int64) else where_holds (may_be_whole b) (if is_unknown b then Unknown else Of Date))
    else if is_date b then where_holds (is_unknown a) (Of Int64)
    else numbers a b

-- a comparison takes two texts, numbers, LOGICALs or DATEs
abbrev pub are_comparable : Sort → Sort → Bool
are_comparable (Of k) (Of l) = kind_fits k l
are_comparable a b = true

-- of operands that break nothing
abbrev pub result_of : Binary → Sort → Sort → Option Sort
result_of two.Add a b = sum a b
result_of two.Subtract a b = difference a b
result_of two.Multiply a b = numbers a b
result_of two.Divide a b = where_holds (may_be_number a && may_be_number b) (Of Decimal)
result_of two.Modulo a b = where_holds (may_be_whole a && may_be_whole b) (Of Int64)
result_of two.Equal a b = where_holds (are_comparable a b) (Of Logical)
result_of two.Unequal a b = where_holds (are_comparable a b) (Of Logical)
result_of two.Less a b = where_holds (are_comparable a b) (Of Logical)
result_of two.Greater a b = where_holds (are_comparable a b) (Of Logical)
result_of two.AtMost a b = where_holds (are_comparable a b) (Of Logical)
result_of two.AtLeast a b = where_holds (are_comparable a b) (Of Logical)
result_of two.Begins a b = where_holds (may_be_text a && may_be_text b) (Of Logical)
result_of two.NumEntries a b = where_holds (may_be_text a && may_be_text b) (Of Int64)

-- the result is broken if an operand is
abbrev pub unless_broken : Bool → Option Sort → Option Sort
unless_broken true s = Some Broken
unless_broken false s = s

abbrev pub result_sort : Binary → Sort → Sort → Option Sort
result_sort op a b = unless_broken (is_broken a || is_broken b) (result_of op a b)

-- a sign: `+` keeps the sort, `-` makes an INT64 of whole numbers
abbrev pub negated : Sort → Sort
negated (Of k) = if same_kind k Decimal then Of Decimal else Of Int64
negated s = s

-- AND and OR take LOGICALs
abbrev pub both_logical : Sort → Sort → Option Sort
both_logical a b = unless_broken (is_broken a || is_broken b) (where_holds (may_be_logical a && may_be_logical b) (Of Logical))

-- the branches of IF are of one kind or both numbers, DECIMAL where either is
abbrev pub branches_of : Sort → Sort → Option Sort
branches_of (Of k) (Of l) =
    if same_kind k l then Some (Of k)
    else where_holds (is_number_kind k && is_number_kind l) (if same_kind k Decimal || same_kind l Decimal then Of Decimal else Of Int64)
branches_of Unknown b = Some b
branches_of a b = Some a

abbrev pub branch_sort : Sort → Sort → Option Sort
branch_sort a b = unless_broken (is_broken a || is_broken b) (branches_of a b)

-- the kind, where there is one
abbrev pub kind_in : Sort → Option Kind
kind_in (Of k) = Some k
kind_in s = None

-- the sort, and broken where the operands do not fit
abbrev pub sort_or_broken : Option Sort → Sort
sort_or_broken (Some s) = s
sort_or_broken None = Broken

-- IF, which is broken where its condition is, or is no LOGICAL
abbrev pub if_sort : Sort → Option Sort → Sort
if_sort test branches = if may_be_logical test && not (is_broken test) then sort_or_broken branches else Broken

-- ---- masks

-- a mask for `?` fits if it fits any kind
abbrev pub is_any_mask : List ℕ → Bool
is_any_mask mask = mask_is_for mask Character || (mask_is_for mask Decimal || (mask_is_for mask Logical || mask_is_for mask Date))

abbrev pub mask_fits : List ℕ → Sort → Bool
mask_fits mask (Of k) = mask_is_for mask k
mask_fits mask Unknown = is_any_mask mask
mask_fits mask Broken = true

-- ---- functions

-- the fewest and the most arguments
abbrev pub fewest : Function → ℕ
fewest f.Substring = 2
fewest f.Entry = 2
fewest f.Date = 3
fewest x = 1

abbrev pub most : Function → ℕ
most f.Substring = 3
most f.Entry = 3
most f.NumEntries = 2
most f.Date = 3
most x = 1

-- a text or a number
abbrev pub may_be_converted : Sort → Bool
may_be_converted s = may_be_text s || may_be_number s

-- what the first argument may be, and what each other one
abbrev pub takes_first : Function → Sort → Bool
takes_first f.Integer = may_be_converted
takes_first f.Int64 = may_be_converted
takes_first f.Decimal = may_be_converted
takes_first f.Substring = may_be_text
takes_first f.Length = may_be_text
takes_first f.Entry = may_be_whole
takes_first f.NumEntries = may_be_text
takes_first f.Date = may_be_whole
takes_first f.Year = may_be_date
takes_first f.Month = may_be_date
takes_first f.Day = may_be_date

abbrev pub takes_then : Function → Sort → Bool
takes_then f.Substring = may_be_whole
takes_then f.Date = may_be_whole
takes_then x = may_be_text

abbrev pub takes : Function → ℕ → Sort → Bool
takes x i = if i == 0 then takes_first x else takes_then x

-- the kind of its result
abbrev pub kind_of_function : Function → Kind
kind_of_function f.Integer = Integer
kind_of_function f.Int64 = Int64
kind_of_function f.Decimal = Decimal
kind_of_function f.Substring = Character
kind_of_function f.Length = Int64
kind_of_function f.Entry = Character
kind_of_function f.NumEntries = Int64
kind_of_function f.Date = Date
kind_of_function f.Year = Int64
kind_of_function f.Month = Int64
kind_of_function f.Day = Int64
