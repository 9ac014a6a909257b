-- Worked examples, each computed from the definitions.
use Rattle.std.specs.Prelude.{◌≡◌, refl, true, false, [], ◌∷◌, codes, Some, None, Ok, Err, pos, negsuc}
use Rattle.std.specs.declared.cmp.Ordering.TheVariants.{Less, Equal, Greater}
use Rattle.abl_base.specs.declared.value.Value.TheVariants.{Text, Int, Int64, Dec, Logical, Date, Unknown}
use Rattle.abl_base.specs.declared.value.Kind.TheVariants.{Integer, Character, Logical as Truth}
use Rattle.abl_values.specs.declared.arithmetic.ArithFault.TheVariants.{Overflow}
use Rattle.std.specs.Fmt.{digits}
use Rattle.abl_values.specs.Order.{value_order}
use Rattle.abl_values.specs.Dates.{day_number, date_from, date_of_day, date_in_years, date_after}
use Rattle.abl_values.specs.Arithmetic.{sum_of, difference_of, product_of, quotient_of, remainder_of}
use Rattle.abl_values.specs.Fit.{fitted}
use Rattle.abl_values.specs.Rows.{bytes_of_row, row_in, fragments_of, number_bytes, number_at_head}
use Rattle.abl_values.specs.Keys.{key_bytes}
use Rattle.abl_values.specs.Texts.{plain_text, export_text}
use Rattle.abl_values.specs.Masks.{is_digit, mask_is_for}
use Rattle.abl_values.specs.Digits.{from_first_not, number_of}
use Rattle.abl_values.specs.Schema.{SchemaData, canonical_text, lines_in_order, field_named}

-- ---- order: letters in any case, trailing blanks, numbers of different kinds, no and yes, `?` above all
case_and_blanks : value_order (Text (codes "Ab  ")) (Text (codes "aB")) ≡ Equal
unfolding value_order
case_and_blanks = refl

a_prefix_is_below : value_order (Text (codes "ab")) (Text (codes "abc")) ≡ Less
unfolding value_order
a_prefix_is_below = refl

kinds_of_numbers : value_order (Int64 (pos 2)) (Dec (pos 20000000000)) ≡ Equal
unfolding value_order
kinds_of_numbers = refl

no_is_below_yes : value_order (Logical false) (Logical true) ≡ Less
unfolding value_order
no_is_below_yes = refl

unknown_is_above : value_order Unknown (Date (pos 2932896)) ≡ Greater
unfolding value_order
unknown_is_above = refl

unknown_is_level : value_order Unknown Unknown ≡ Equal
unfolding value_order
unknown_is_level = refl

-- ---- dates
the_first_day : day_number (record { year = 1; month = 1; day = 1 }) ≡ negsuc 719161
unfolding day_number
the_first_day = refl

day_zero : day_number (record { year = 1970; month = 1; day = 1 }) ≡ pos 0
unfolding day_number
day_zero = refl

the_last_day : date_from (pos 12) (pos 31) (pos 9999) ≡ Some (pos 2932896)
unfolding date_from day_number
the_last_day = refl

a_leap_day : date_from (pos 2) (pos 29) (pos 2000) ≡ Some (pos 11016)
unfolding date_from day_number
a_leap_day = refl

no_leap_day : date_from (pos 2) (pos 29) (pos 1900) ≡ None
unfolding date_from day_number
no_leap_day = refl

back_from_a_day : date_of_day (pos 11016) ≡ record { year = 2000; month = 2; day = 29 }
unfolding date_of_day date_in_years date_after
back_from_a_day = refl

before_the_first_day : date_of_day (negsuc 999999) ≡ record { year = 1; month = 1; day = 1 }
unfolding date_of_day date_in_years date_after
before_the_first_day = refl

-- ---- arithmetic: rounding away from zero, zero divisors, the remainder's sign, overflow
two_thirds : quotient_of (Int (pos 2)) (Int (pos 3)) ≡ Ok (Dec (pos 6666666667))
unfolding quotient_of
two_thirds = refl

half_away_from_zero : product_of (Dec (negsuc 0)) (Dec (pos 5000000000)) ≡ Ok (Dec (negsuc 0))
unfolding product_of
half_away_from_zero = refl

by_zero : quotient_of (Int64 (pos 9223372036854775807)) (Int (pos 0)) ≡ Ok Unknown
unfolding quotient_of
by_zero = refl

sign_of_the_dividend : remainder_of (Int (negsuc 6)) (Int (pos 4)) ≡ Ok (Int64 (negsuc 2))
unfolding remainder_of
sign_of_the_dividend = refl

whole_overflow : sum_of (Int64 (pos 9223372036854775807)) (Int (pos 1)) ≡ Err Overflow
unfolding sum_of
whole_overflow = refl

days_between : difference_of (Date (pos 3)) (Date (pos 10)) ≡ Ok (Int64 (negsuc 6))
unfolding difference_of
days_between = refl

stored_whole : fitted (Dec (negsuc 24999999999)) Integer ≡ Ok (Int (negsuc 2))
unfolding fitted
stored_whole = refl

-- ---- rows and keys
a_row : bytes_of_row (Int (pos 258) ∷ Unknown ∷ Text (codes "ab") ∷ Logical true ∷ [])
    ≡ 1 ∷ 0 ∷ 0 ∷ 1 ∷ 2 ∷ 0 ∷ 1 ∷ 0 ∷ 2 ∷ 97 ∷ 98 ∷ 1 ∷ 1 ∷ []
unfolding bytes_of_row number_bytes
a_row = refl

the_row_again : row_in (Some Integer ∷ None ∷ Some Character ∷ Some Truth ∷ [])
    (1 ∷ 0 ∷ 0 ∷ 1 ∷ 2 ∷ 0 ∷ 1 ∷ 0 ∷ 2 ∷ 97 ∷ 98 ∷ 1 ∷ 1 ∷ [])
    ≡ Some (Int (pos 258) ∷ Unknown ∷ Text (codes "ab") ∷ Logical true ∷ [])
unfolding row_in number_at_head
the_row_again = refl

no_row : row_in (Some Truth ∷ []) (1 ∷ 2 ∷ []) ≡ None
unfolding row_in number_at_head
no_row = refl

a_key : key_bytes (record { field = 1; descending = false } ∷ record { field = 0; descending = true } ∷ [])
    (Date (negsuc 0) ∷ Text (65 ∷ 0 ∷ 32 ∷ []) ∷ [])
    ≡ 1 ∷ 97 ∷ 0 ∷ 255 ∷ 0 ∷ 0 ∷ 254 ∷ 128 ∷ 0 ∷ 0 ∷ 0 ∷ []
unfolding key_bytes number_bytes
a_key = refl

two_fragments : fragments_of 241 ≡ 2
two_fragments = refl

-- ---- texts and masks
a_decimal : plain_text (Dec (negsuc 2499999999)) ≡ codes "-0.25"
unfolding plain_text digits
a_decimal = refl

an_old_date : plain_text (Date (negsuc 719161)) ≡ codes "01/01/0001"
unfolding plain_text date_of_day date_in_years date_after
an_old_date = refl

a_quoted_text : export_text (Text (codes "a\"b")) ≡ codes "\"a\"\"b\""
unfolding export_text
a_quoted_text = refl

the_mask_of_whole_numbers : mask_is_for (codes "->,>>>,>>9") Integer ≡ true
unfolding mask_is_for
the_mask_of_whole_numbers = refl

decimals_are_for_decimals : mask_is_for (codes "->>,>>9.99") Integer ≡ false
unfolding mask_is_for
decimals_are_for_decimals = refl

-- ---- a schema with one table of two fields, the second of an unsupported kind
abbrev items : SchemaData
items = record {
  tables = record {
    name = codes "Item";
    fields = record { name = codes "ItemNum"; kind = Some Integer; initial = Int (pos 0); mandatory = true; mask = codes "zzzzzzzzz9" }
        ∷ record { name = codes "Sizes"; kind = None; initial = Unknown; mandatory = false; mask = [] } ∷ [];
    indexes = record { name = codes "ItemNum"; unique = true; parts = record { field = 0; descending = false } ∷ [] } ∷ [];
    primary = Some 0;
  } ∷ [];
  sequences = [];
  order = true ∷ [];
}

its_canonical_text : canonical_text items
    ≡ codes "T item\nF itemnum INTEGER M 0\nF sizes - O ?\nI itemnum U P itemnum A\n"
unfolding canonical_text lines_in_order export_text plain_text digits
its_canonical_text = refl

its_second_field : field_named items 0 (codes "SIZES") ≡ Some 1
unfolding field_named
its_second_field = refl

-- a leading zero counts for nothing
digits_spell : number_of (codes "0150") ≡ 150
digits_spell = refl

-- from the first byte that is no digit
no_digit_in_front : from_first_not is_digit (codes "12x3") ≡ codes "x3"
no_digit_in_front = refl
