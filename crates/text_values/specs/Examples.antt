-- Worked examples, each computed from the definitions.
use Rattle.std.specs.Prelude.{◌≡◌, refl, true, codes, Some, None, pos, negsuc}
use Rattle.abl_base.specs.declared.value.Value.TheVariants.{Int, Logical, Date}
use Rattle.abl_base.specs.declared.value.Kind.TheVariants.{Integer, Logical as Truth, Date as Day}
use Rattle.abl_values.specs.Dates.{date_from, day_number}
use Rattle.text_values.specs.TextValues.{number_in, value_in}

a_point_without_decimals : number_in (codes "-5.") ≡ Some (negsuc 49999999999)
unfolding number_in
a_point_without_decimals = refl

no_digit_before_the_point : number_in (codes ".5") ≡ None
unfolding number_in
no_digit_before_the_point = refl

eleven_decimals : number_in (codes "1.00000000000") ≡ None
unfolding number_in
eleven_decimals = refl

a_sign_alone : value_in Integer (codes "-") ≡ None
unfolding value_in
a_sign_alone = refl

above_the_range : value_in Integer (codes "2147483648") ≡ None
unfolding value_in
above_the_range = refl

below_the_range : value_in Integer (codes "-2147483648") ≡ Some (Int (negsuc 2147483647))
unfolding value_in
below_the_range = refl

a_first_letter : value_in Truth (codes "T") ≡ Some (Logical true)
unfolding value_in
a_first_letter = refl

a_year_of_two_digits : value_in Day (codes "2/3/24") ≡ Some (Date (pos 19756))
unfolding value_in date_from day_number
a_year_of_two_digits = refl

the_year_50 : value_in Day (codes "1/1/50") ≡ Some (Date (negsuc 7304))
unfolding value_in date_from day_number
the_year_50 = refl
