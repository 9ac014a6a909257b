-- A name contains no blank and no line feed, so it is one token of its line.
use Rattle.std.proofs.Common.{◌≡◌, ℕ, ◌+◌, ◌<◌, Bool, true, false, ◌==◌, ◌&&◌, ◌||◌, cond, List, [], ◌∷◌, length, ap, arith}
use Rattle.std.specs.Prelude.{nat_le}
use Rattle.std.specs.List.{list_all}
use Rattle.std.proofs.lemmas.Bool.{and_parts}
use Rattle.std.proofs.lemmas.Bool.Decides.{nat_tests}
use Rattle.abl_base.specs.declared.limits.TheConstants.{MAX_NAME_BYTES}
use Rattle.abl_values.specs.Masks.{is_digit}
use Rattle.abl_values.specs.Order.{folded, folded_byte}
use Rattle.abl_values.specs.Names.{is_letter, is_name, is_name_byte}
use Rattle.schema_reader.proofs.ObservableBytes.{IsPlain}

name_byte-plain : (b : ℕ) → is_name_byte b ≡ true → 32 < b
name_byte-plain b h = grind (arith, nat_tests)

folded-plain : (b : ℕ) → 32 < b → 32 < folded_byte b
folded-plain b h = go (nat_le 65 b && nat_le b 90)
  where
    go : (c : Bool) → 32 < cond c (b + 32) b
    go true = omega arith
    go false = h

name_bytes-plain : (bs : List ℕ) → list_all is_name_byte bs ≡ true → IsPlain (folded bs)
name_bytes-plain [] h = tt
name_bytes-plain (b ∷ bs) h =
    let parts = and_parts (is_name_byte b) (list_all is_name_byte bs) h in
    (folded-plain b (name_byte-plain b parts.0), name_bytes-plain bs parts.1)

pub is_name-plain : (name : List ℕ) → is_name name ≡ true → IsPlain (folded name)
is_name-plain [] h = cc
is_name-plain (b ∷ bs) h =
    let parts = and_parts (is_letter b) (list_all is_name_byte bs && nat_le (length (b ∷ bs)) MAX_NAME_BYTES) h in
    let more = and_parts (list_all is_name_byte bs) (nat_le (length (b ∷ bs)) MAX_NAME_BYTES) parts.1 in
    (folded-plain b (name_byte-plain b (letter parts.0)), name_bytes-plain bs more.0)
  where
    letter : is_letter b ≡ true → is_name_byte b ≡ true
    letter h = ap (λ c. (c || is_digit b) || ((nat_le 35 b && nat_le b 38) || ((b == 45) || (b == 95)))) h
