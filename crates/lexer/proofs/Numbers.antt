-- The longest form at a digit.
use Rattle.std.proofs.Common.{ℕ, zero, suc, ◌+◌, ◌-◌, ◌<◌, ◌≤◌, ◌≡◌, Bool, true, false, ◌&&◌, ◌||◌, List, [], ◌∷◌, length, take, drop, refl, sym, ◌∙◌, ap, subst, arith, inl, inr}
use Rattle.std.specs.Prelude.{◌==◌}
use Rattle.std.specs.List.{prefix_len}
use Rattle.std.proofs.lemmas.Bool.Decides.{nat_tests}
use Rattle.lexer.specs.declared.form.Form.{Form}
use Rattle.lexer.specs.declared.form.Form.TheVariants.{Word, Qualified, Digits, Fractional, Dated, Quoted, Symbol}
use Rattle.lexer.specs.Bytes.{point, slash, is_digit, is_quote, is_symbol_byte, starts, starts_digit}
use Rattle.lexer.specs.Forms.{form, leading, after_separator, parted, is_digits, is_dated, is_day_year, one_or_two, two_or_four, Longest, DatedAt, DayYearAt}
use Rattle.std.proofs.lemmas.Bool.{and_from, both_ways, not-true, not_from_false, cases_Bool}
use Rattle.abl_base.proofs.Bools.{left_of_and, right_of_and}
use Rattle.lexer.proofs.Prefixes.{parts_made, parts_of, prefix_within, prefix_more, prefix_stops, starts_inside, starts_one, after_separator_length, leading_length, length_take, follows}
use Rattle.lexer.proofs.Shapes.{letter_no_digit, digit_no_quote, digit_no_symbol, first_byte, digits_leading, digits_whole, digit_some}

-- the digits end where no digit follows
digits_end : (zs : List ℕ) (i : ℕ) → starts_digit (drop i zs) ≡ false → prefix_len is_digit zs ≤ i
digits_end [] i e = omega arith
digits_end (z ∷ zs) zero e = let q = prefix_stops is_digit z zs e in omega arith
digits_end (z ∷ zs) (suc i) e = elim (cases_Bool (is_digit z)) [
  | inl t ↦ (let q = prefix_more is_digit z zs t in let h = digits_end zs i e in omega arith)
  | inr t ↦ (let q = prefix_stops is_digit z zs t in omega arith)
]

digits_stop : (zs : List ℕ) → starts_digit (drop (prefix_len is_digit zs) zs) ≡ false
digits_stop [] = refl
digits_stop (z ∷ zs) = elim (cases_Bool (is_digit z)) [
  | inl t ↦ (let q = prefix_more is_digit z zs t in let r : suc (prefix_len is_digit zs) ≡ prefix_len is_digit (z ∷ zs) = omega arith in subst (λ n. starts_digit (drop n (z ∷ zs)) ≡ false) r (digits_stop zs))
  | inr t ↦ (let q = prefix_stops is_digit z zs t in subst (λ n. starts_digit (drop n (z ∷ zs)) ≡ false) (sym q) t)
]

few_len : (w v : List ℕ) → length w ≡ length v → one_or_two w ≡ one_or_two v
few_len w v e = ap (λ n. n == 1 || n == 2) e

years_len : (w v : List ℕ) → length w ≡ length v → two_or_four w ≡ two_or_four v
years_len w v e = ap (λ n. n == 2 || n == 4) e

-- A DAY AND A YEAR
pub record DayYear (ys : List ℕ) (j : ℕ) : Type 0 where
  pub there : parted is_digit slash ys ≡ true
  pub few : one_or_two (leading is_digit ys) ≡ true
  pub years : two_or_four (take (prefix_len is_digit (after_separator is_digit ys)) (after_separator is_digit ys)) ≡ true
  pub size : j ≡ suc (prefix_len is_digit ys) + prefix_len is_digit (after_separator is_digit ys)

pub day_year_is : (ys : List ℕ) (j : ℕ) → DayYearAt ys j → DayYear ys j
day_year_is ys j d =
    let w = d.within in
    let l = left_of_and (parted is_digit slash (take j ys) && one_or_two (leading is_digit (take j ys))) _ d.matches in
    let r = right_of_and (parted is_digit slash (take j ys) && one_or_two (leading is_digit (take j ys))) _ d.matches in
    let t = left_of_and (parted is_digit slash (take j ys)) _ l in
    let p = parts_of is_digit slash ys j w t in
    let h = p.short in
    let i : ℕ = j - suc (prefix_len is_digit ys) in
    let q : j ≡ suc (prefix_len is_digit ys) + i = omega arith in
    let b : i ≤ length (after_separator is_digit ys) = omega (arith, after_separator_length is_digit ys) in
    let digits = subst (λ v. is_digits v ≡ true) (p.after_separator_is i q) (left_of_and (is_digits (after_separator is_digit (take j ys))) _ r) in
    let m = (digits_leading (after_separator is_digit ys) i b digits).most in
    let s = digits_end (after_separator is_digit ys) i (ap starts_digit (sym (follows is_digit ys j i q)) ∙ d.apart) in
    let same : prefix_len is_digit (after_separator is_digit ys) ≡ i = omega arith in
    record {
      there = sym p.parted_is ∙ t;
      few = subst (λ v. one_or_two v ≡ true) p.leading_is (right_of_and (parted is_digit slash (take j ys)) _ l);
      years = subst (λ n. two_or_four (take n (after_separator is_digit ys)) ≡ true) (sym same) (subst (λ v. two_or_four v ≡ true) (p.after_separator_is i q) (right_of_and (is_digits (after_separator is_digit (take j ys))) _ r));
      size = omega arith;
    }

some_years : (n : ℕ) → (n == 2 || n == 4) ≡ true → 0 < n
some_years n e = grind (arith, nat_tests)

pub day_year_made : (ys : List ℕ) (j : ℕ) → DayYear ys j → DayYearAt ys j
day_year_made ys j d =
    let z = d.size in
    let i = starts_inside slash (prefix_len is_digit ys) ys d.there in
    let w = prefix_within is_digit (after_separator is_digit ys) in
    let n = length_take (prefix_len is_digit (after_separator is_digit ys)) (after_separator is_digit ys) w in
    let y = some_years (prefix_len is_digit (after_separator is_digit ys)) (ap (λ k. k == 2 || k == 4) (sym n) ∙ d.years) in
    let p = parts_made is_digit slash ys j (omega arith) in
    let b = p.after_separator_is (prefix_len is_digit (after_separator is_digit ys)) z in
    record {
      within = omega (arith, after_separator_length is_digit ys);
      matches = and_from (parted is_digit slash (take j ys) && one_or_two (leading is_digit (take j ys))) _
          (and_from (parted is_digit slash (take j ys)) _ (p.parted_is ∙ d.there) (subst (λ v. one_or_two v ≡ true) (sym p.leading_is) d.few))
          (and_from (is_digits (after_separator is_digit (take j ys))) _ (subst (λ v. is_digits v ≡ true) (sym b) (digits_whole (after_separator is_digit ys) y)) (subst (λ v. two_or_four v ≡ true) (sym b) d.years));
      apart = ap starts_digit (follows is_digit ys j (prefix_len is_digit (after_separator is_digit ys)) z) ∙ digits_stop (after_separator is_digit ys);
    }

-- A DATE
pub record IsDated (xs : List ℕ) (m : ℕ) : Type 0 where
  pub there : parted is_digit slash xs ≡ true
  pub few : one_or_two (leading is_digit xs) ≡ true
  pub j : ℕ
  pub rest : DayYearAt (after_separator is_digit xs) j
  pub size : m ≡ suc (prefix_len is_digit xs) + j

pub dated_is : (xs : List ℕ) (m : ℕ) → DatedAt xs m → IsDated xs m
dated_is xs m d =
    let w = d.within in
    let l = left_of_and (parted is_digit slash (take m xs) && one_or_two (leading is_digit (take m xs))) _ d.matches in
    let r = right_of_and (parted is_digit slash (take m xs) && one_or_two (leading is_digit (take m xs))) _ d.matches in
    let t = left_of_and (parted is_digit slash (take m xs)) _ l in
    let p = parts_of is_digit slash xs m w t in
    let h = p.short in
    let i : ℕ = m - suc (prefix_len is_digit xs) in
    let q : m ≡ suc (prefix_len is_digit xs) + i = omega arith in
    let rest : DayYearAt (after_separator is_digit xs) i = record {
      within = omega (arith, after_separator_length is_digit xs);
      matches = subst (λ v. is_day_year v ≡ true) (p.after_separator_is i q) r;
      apart = ap starts_digit (sym (follows is_digit xs m i q)) ∙ d.apart;
    } in
    record {
      there = sym p.parted_is ∙ t;
      few = subst (λ v. one_or_two v ≡ true) p.leading_is (right_of_and (parted is_digit slash (take m xs)) _ l);
      j = i;
      rest = rest;
      size = q;
    }

pub dated_made : (xs : List ℕ) (m : ℕ) → IsDated xs m → DatedAt xs m
dated_made xs m d =
    let z = d.size in
    let i = starts_inside slash (prefix_len is_digit xs) xs d.there in
    let w = d.rest.within in
    let s = (day_year_is (after_separator is_digit xs) d.j d.rest).size in
    let p = parts_made is_digit slash xs m (omega arith) in
    record {
      within = omega (arith, after_separator_length is_digit xs);
      matches = and_from (parted is_digit slash (take m xs) && one_or_two (leading is_digit (take m xs))) _
          (and_from (parted is_digit slash (take m xs)) _ (p.parted_is ∙ d.there) (subst (λ v. one_or_two v ≡ true) (sym p.leading_is) d.few))
          (subst (λ v. is_day_year v ≡ true) (sym (p.after_separator_is d.j z)) d.rest.matches);
      apart = ap starts_digit (follows is_digit xs m d.j z) ∙ d.rest.apart;
    }

pub dated_one : (xs : List ℕ) (m n : ℕ) → DatedAt xs m → DatedAt xs n → m ≡ n
dated_one xs m n a b =
    let p = dated_is xs m a in
    let q = dated_is xs n b in
    let s = (day_year_is (after_separator is_digit xs) p.j p.rest).size in
    let t = (day_year_is (after_separator is_digit xs) q.j q.rest).size in
    let u = p.size in
    let v = q.size in
    omega arith

-- NUMBERS
pub record IsFractional (xs : List ℕ) (m : ℕ) : Type 0 where
  pub there : parted is_digit point xs ≡ true
  pub some : 0 < prefix_len is_digit (after_separator is_digit xs)
  pub most : m ≤ suc (prefix_len is_digit xs) + prefix_len is_digit (after_separator is_digit xs)

digits_form : (w a : List ℕ) → form Digits w a ≡ true → is_digits w ≡ true
unfolding form
digits_form w a e = e

digits_made : (w a : List ℕ) → is_digits w ≡ true → form Digits w a ≡ true
unfolding form
digits_made w a e = e

record Point (w : List ℕ) : Type 0 where
  there : parted is_digit point w ≡ true
  first : is_digits (leading is_digit w) ≡ true
  second : is_digits (after_separator is_digit w) ≡ true

fractional_form : (w a : List ℕ) → form Fractional w a ≡ true → Point w
unfolding form
fractional_form w a e =
    let l = left_of_and (parted is_digit point w && is_digits (leading is_digit w)) _ e in
    record {
      there = left_of_and (parted is_digit point w) _ l;
      first = right_of_and (parted is_digit point w) _ l;
      second = right_of_and (parted is_digit point w && is_digits (leading is_digit w)) _ e;
    }

fractional_made : (w a : List ℕ) → Point w → form Fractional w a ≡ true
unfolding form
fractional_made w a s = and_from (parted is_digit point w && is_digits (leading is_digit w)) _ (and_from (parted is_digit point w) _ s.there s.first) s.second

dated_form : (xs : List ℕ) (m : ℕ) → m ≤ length xs → form Dated (take m xs) (drop m xs) ≡ true → DatedAt xs m
unfolding form
dated_form xs m h e = record {
  within = h;
  matches = left_of_and (is_dated (take m xs)) _ e;
  apart = not-true _ (right_of_and (is_dated (take m xs)) _ e);
}

dated_matches : (xs : List ℕ) (m : ℕ) → DatedAt xs m → form Dated (take m xs) (drop m xs) ≡ true
unfolding form
dated_matches xs m d = and_from (is_dated (take m xs)) _ d.matches (not_from_false _ d.apart)

is_fractional : (xs a : List ℕ) (m : ℕ) → m ≤ length xs → form Fractional (take m xs) a ≡ true → IsFractional xs m
is_fractional xs a m h e =
    let s = fractional_form (take m xs) a e in
    let p = parts_of is_digit point xs m h s.there in
    let k = p.short in
    let j : ℕ = m - suc (prefix_len is_digit xs) in
    let q : m ≡ suc (prefix_len is_digit xs) + j = omega arith in
    let i : j ≤ length (after_separator is_digit xs) = omega (arith, after_separator_length is_digit xs) in
    let n = digits_leading (after_separator is_digit xs) j i (subst (λ w. is_digits w ≡ true) (p.after_separator_is j q) s.second) in
    let b = n.most in
    let c = n.some in
    record { there = sym p.parted_is ∙ s.there; some = omega arith; most = omega arith }

-- no other form begins with a digit
other : (g : Form) (m : ℕ) (xs : List ℕ) → starts_digit xs ≡ true → m ≤ length xs → form g (take m xs) (drop m xs) ≡ true → (g ≡ Digits → m ≤ prefix_len is_digit xs → ⊥) → (g ≡ Fractional → IsFractional xs m → ⊥) → (g ≡ Dated → DatedAt xs m → ⊥) → ⊥
other g m [] s h e n f d = let z : false ≡ true = s in cc
other Word m (b ∷ bs) s h e n f d = both_ways (is_digit b) (letter_no_digit b (first_byte Word m b bs e)) s
other Qualified m (b ∷ bs) s h e n f d = both_ways (is_digit b) (letter_no_digit b (first_byte Qualified m b bs e)) s
other Digits m (b ∷ bs) s h e n f d = n refl (digits_leading (b ∷ bs) m h (digits_form _ _ e)).most
other Fractional m (b ∷ bs) s h e n f d = f refl (is_fractional (b ∷ bs) (drop m (b ∷ bs)) m h e)
other Dated m (b ∷ bs) s h e n f d = d refl (dated_form (b ∷ bs) m h e)
other Quoted m (b ∷ bs) s h e n f d = both_ways (is_quote b) (digit_no_quote b s) (first_byte Quoted m b bs e)
other Symbol m (b ∷ bs) s h e n f d = both_ways (is_symbol_byte b) (digit_no_symbol b s) (first_byte Symbol m b bs e)

pub digits_longest : (xs : List ℕ) → starts_digit xs ≡ true → ((m : ℕ) → IsFractional xs m → ⊥) → ((m : ℕ) → DatedAt xs m → ⊥) → Longest Digits (prefix_len is_digit xs) xs
digits_longest xs s f d =
    let k = digit_some xs s in
    record {
      some = k;
      within = prefix_within is_digit xs;
      matches = digits_made _ _ (digits_whole xs k);
      longest = λ g m l h e. other g m xs s h e (λ _ i. omega arith) (λ _ i. f m i) (λ _ i. d m i);
    }

two_marks : (xs : List ℕ) → parted is_digit point xs ≡ true → parted is_digit slash xs ≡ true → ⊥
two_marks xs p s = let e = starts_one point slash (drop (prefix_len is_digit xs) xs) p s in omega arith

pub fractional_longest : (xs : List ℕ) (m : ℕ) → starts_digit xs ≡ true → parted is_digit point xs ≡ true → 0 < prefix_len is_digit (after_separator is_digit xs) → m ≡ prefix_len is_digit xs + 1 + prefix_len is_digit (after_separator is_digit xs) → Longest Fractional m xs
fractional_longest xs m s t l e =
    let i = starts_inside point (prefix_len is_digit xs) xs t in
    let w = prefix_within is_digit (after_separator is_digit xs) in
    let p = parts_made is_digit point xs m (omega arith) in
    let q : m ≡ suc (prefix_len is_digit xs) + prefix_len is_digit (after_separator is_digit xs) = omega arith in
    let split : Point (take m xs) = record {
      there = p.parted_is ∙ t;
      first = subst (λ w. is_digits w ≡ true) (sym p.leading_is) (digits_whole xs (digit_some xs s));
      second = subst (λ w. is_digits w ≡ true) (sym (p.after_separator_is (prefix_len is_digit (after_separator is_digit xs)) q)) (digits_whole (after_separator is_digit xs) l);
    } in
    record {
      some = omega arith;
      within = omega (arith, after_separator_length is_digit xs);
      matches = fractional_made (take m xs) (drop m xs) split;
      longest = λ g n h b f. other g n xs s b f (λ _ i. omega arith) (λ _ i. (let r = i.most in omega arith)) (λ _ d. two_marks xs t (dated_is xs n d).there);
    }

pub dated_longest : (xs : List ℕ) (m : ℕ) → starts_digit xs ≡ true → DatedAt xs m → Longest Dated m xs
dated_longest xs m s d =
    let i = dated_is xs m d in
    let z = i.size in
    record {
      some = omega arith;
      within = d.within;
      matches = dated_matches xs m d;
      longest = λ g n h b f. other g n xs s b f (λ _ l. omega arith) (λ _ r. two_marks xs r.there i.there) (λ _ a. (let e = dated_one xs m n d a in omega arith));
    }

-- AS THE CODE FINDS THEM
after_separator_at : (xs second : List ℕ) (n : ℕ) → n ≡ prefix_len is_digit xs → second ≡ drop (n + 1) xs → second ≡ after_separator is_digit xs
after_separator_at xs second n e h = h ∙ (let q : n + 1 ≡ suc (prefix_len is_digit xs) = omega arith in ap (λ k. drop k xs) q)

part_at : (c : ℕ) (xs : List ℕ) (n : ℕ) (v : Bool) → n ≡ prefix_len is_digit xs → starts c (drop n xs) ≡ v → parted is_digit c xs ≡ v
part_at c xs n v e t = subst (λ i. starts c (drop i xs) ≡ v) e t

pub slash_few : (xs : List ℕ) (n : ℕ) → n ≡ prefix_len is_digit xs → starts slash (drop n xs) ≡ true → (n == 1 || n == 2) ≡ (parted is_digit slash xs && one_or_two (leading is_digit xs))
slash_few xs n e t =
    ap (λ k. k == 1 || k == 2) (e ∙ sym (leading_length is_digit xs)) ∙ ap (λ v. v && one_or_two (leading is_digit xs)) (sym (part_at slash xs n true e t))

pub slash_none : (xs : List ℕ) (n : ℕ) → n ≡ prefix_len is_digit xs → starts slash (drop n xs) ≡ false → false ≡ (parted is_digit slash xs && one_or_two (leading is_digit xs))
slash_none xs n e t = ap (λ v. v && one_or_two (leading is_digit xs)) (sym (part_at slash xs n false e t))

pub found_day_year : (ys second : List ℕ) (n k : ℕ) → n ≡ prefix_len is_digit ys → (parted is_digit slash ys && one_or_two (leading is_digit ys)) ≡ true → second ≡ drop (n + 1) ys → k ≡ prefix_len is_digit second → (k == 2 || k == 4) ≡ true → DayYearAt ys (n + 1 + k)
found_day_year ys second n k e t h j y =
    let b = after_separator_at ys second n e h in
    let g : k ≡ prefix_len is_digit (after_separator is_digit ys) = j ∙ ap (prefix_len is_digit) b in
    let l = leading_length is_digit (after_separator is_digit ys) in
    day_year_made ys (n + 1 + k) record {
      there = left_of_and (parted is_digit slash ys) _ t;
      few = right_of_and (parted is_digit slash ys) _ t;
      years = ap (λ i. i == 2 || i == 4) (l ∙ sym g) ∙ y;
      size = omega arith;
    }

pub no_slash_day : (ys : List ℕ) → (parted is_digit slash ys && one_or_two (leading is_digit ys)) ≡ false → (m : ℕ) → DayYearAt ys m → ⊥
no_slash_day ys t m d =
    let i = day_year_is ys m d in
    both_ways _ t (and_from (parted is_digit slash ys) _ i.there i.few)

pub no_years : (ys second : List ℕ) (n k : ℕ) → n ≡ prefix_len is_digit ys → second ≡ drop (n + 1) ys → k ≡ prefix_len is_digit second → (k == 2 || k == 4) ≡ false → (m : ℕ) → DayYearAt ys m → ⊥
no_years ys second n k e h j y m d =
    let i = day_year_is ys m d in
    let b = after_separator_at ys second n e h in
    let g : k ≡ prefix_len is_digit (after_separator is_digit ys) = j ∙ ap (prefix_len is_digit) b in
    let l = leading_length is_digit (after_separator is_digit ys) in
    both_ways (k == 2 || k == 4) y (ap (λ i. i == 2 || i == 4) (g ∙ sym l) ∙ i.years)

pub found_date : (xs second : List ℕ) (n m : ℕ) → n ≡ prefix_len is_digit xs → (parted is_digit slash xs && one_or_two (leading is_digit xs)) ≡ true → second ≡ drop (n + 1) xs → DayYearAt second m → DatedAt xs (n + 1 + m)
found_date xs second n m e t h d =
    dated_made xs (n + 1 + m) record {
      there = left_of_and (parted is_digit slash xs) _ t;
      few = right_of_and (parted is_digit slash xs) _ t;
      j = m;
      rest = subst (λ w. DayYearAt w m) (after_separator_at xs second n e h) d;
      size = omega arith;
    }

pub no_slash_date : (xs : List ℕ) → (parted is_digit slash xs && one_or_two (leading is_digit xs)) ≡ false → (m : ℕ) → DatedAt xs m → ⊥
no_slash_date xs t m d =
    let i = dated_is xs m d in
    both_ways _ t (and_from (parted is_digit slash xs) _ i.there i.few)

pub no_date : (xs second : List ℕ) (n : ℕ) → n ≡ prefix_len is_digit xs → second ≡ drop (n + 1) xs → ((j : ℕ) → DayYearAt second j → ⊥) → (m : ℕ) → DatedAt xs m → ⊥
no_date xs second n e h d m t =
    let i = dated_is xs m t in
    d i.j (subst (λ w. DayYearAt w i.j) (sym (after_separator_at xs second n e h)) i.rest)

pub found_fraction : (xs second : List ℕ) (n k : ℕ) → starts_digit xs ≡ true → n ≡ prefix_len is_digit xs → starts point (drop n xs) ≡ true → second ≡ drop (n + 1) xs → k ≡ prefix_len is_digit second → 0 < k → Longest Fractional (n + 1 + k) xs
found_fraction xs second n k s e t h j p =
    let g : k ≡ prefix_len is_digit (after_separator is_digit xs) = j ∙ ap (prefix_len is_digit) (after_separator_at xs second n e h) in
    fractional_longest xs (n + 1 + k) s (part_at point xs n true e t) (omega arith) (omega arith)

pub digits_point : (xs second : List ℕ) (n k : ℕ) → starts_digit xs ≡ true → n ≡ prefix_len is_digit xs → starts point (drop n xs) ≡ true → second ≡ drop (n + 1) xs → k ≡ prefix_len is_digit second → k ≤ 0 → Longest Digits n xs
digits_point xs second n k s e t h j p =
    let g : k ≡ prefix_len is_digit (after_separator is_digit xs) = j ∙ ap (prefix_len is_digit) (after_separator_at xs second n e h) in
    subst (λ i. Longest Digits i xs) (sym e) (digits_longest xs s (λ m f. (let q = f.some in omega arith)) (λ m d. two_marks xs (part_at point xs n true e t) (dated_is xs m d).there))

pub digits_alone : (xs : List ℕ) (n : ℕ) → starts_digit xs ≡ true → n ≡ prefix_len is_digit xs → starts point (drop n xs) ≡ false → ((m : ℕ) → DatedAt xs m → ⊥) → Longest Digits n xs
digits_alone xs n s e t d =
    subst (λ i. Longest Digits i xs) (sym e) (digits_longest xs s (λ m f. both_ways (parted is_digit point xs) (part_at point xs n false e t) f.there) d)
