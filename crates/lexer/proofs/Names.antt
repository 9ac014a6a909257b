-- The longest form at a letter.
use Rattle.std.proofs.Common.{ℕ, suc, ◌+◌, ◌-◌, ◌≤◌, ◌≡◌, Bool, true, false, not, ◌&&◌, List, [], ◌∷◌, length, take, drop, refl, sym, ◌∙◌, ap, subst, arith}
use Rattle.std.specs.List.{prefix_len}
use Rattle.lexer.specs.declared.form.Form.{Form}
use Rattle.lexer.specs.declared.form.Form.TheVariants.{Word, Qualified, Digits, Fractional, Dated, Quoted, Symbol}
use Rattle.lexer.specs.Bytes.{point, is_digit, is_name_byte, is_quote, is_symbol_byte, starts, starts_letter}
use Rattle.lexer.specs.Forms.{form, leading, after_separator, parted, is_name, is_keyword, Longest}
use Rattle.std.proofs.lemmas.Bool.{and_from, both_ways, not-true, not_from_false}
use Rattle.abl_base.proofs.Bools.{left_of_and, right_of_and}
use Rattle.lexer.proofs.Prefixes.{parts_made, parts_of, prefix_within, starts_inside, after_separator_length}
use Rattle.lexer.proofs.Shapes.{letter_no_digit, letter_no_quote, letter_no_symbol, first_byte, name_leading, name_whole}

pub record IsQualified (xs : List ℕ) (m : ℕ) : Type 0 where
  pub there : parted is_name_byte point xs ≡ true
  pub free : is_keyword (leading is_name_byte xs) ≡ false
  pub letter : starts_letter (after_separator is_name_byte xs) ≡ true
  pub most : m ≤ suc (prefix_len is_name_byte xs) + prefix_len is_name_byte (after_separator is_name_byte xs)

word_form : (w a : List ℕ) → form Word w a ≡ true → is_name w ≡ true
unfolding form
word_form w a e = e

word_made : (w a : List ℕ) → is_name w ≡ true → form Word w a ≡ true
unfolding form
word_made w a e = e

record Split (w : List ℕ) : Type 0 where
  there : parted is_name_byte point w ≡ true
  first : is_name (leading is_name_byte w) ≡ true
  free : is_keyword (leading is_name_byte w) ≡ false
  second : is_name (after_separator is_name_byte w) ≡ true

qualified_form : (w a : List ℕ) → form Qualified w a ≡ true → Split w
unfolding form
qualified_form w a e =
    let l = left_of_and (parted is_name_byte point w && is_name (leading is_name_byte w)) _ e in
    let r = right_of_and (parted is_name_byte point w && is_name (leading is_name_byte w)) _ e in
    record {
      there = left_of_and (parted is_name_byte point w) _ l;
      first = right_of_and (parted is_name_byte point w) _ l;
      free = not-true _ (left_of_and (not (is_keyword (leading is_name_byte w))) _ r);
      second = right_of_and (not (is_keyword (leading is_name_byte w))) _ r;
    }

qualified_made : (w a : List ℕ) → Split w → form Qualified w a ≡ true
unfolding form
qualified_made w a s = and_from (parted is_name_byte point w && is_name (leading is_name_byte w)) _ (and_from (parted is_name_byte point w) _ s.there s.first) (and_from (not (is_keyword (leading is_name_byte w))) _ (not_from_false _ s.free) s.second)

is_qualified : (xs a : List ℕ) (m : ℕ) → m ≤ length xs → form Qualified (take m xs) a ≡ true → IsQualified xs m
is_qualified xs a m h e =
    let s = qualified_form (take m xs) a e in
    let p = parts_of is_name_byte point xs m h s.there in
    let k = p.short in
    let j : ℕ = m - suc (prefix_len is_name_byte xs) in
    let q : m ≡ suc (prefix_len is_name_byte xs) + j = omega arith in
    let i : j ≤ length (after_separator is_name_byte xs) = omega (arith, after_separator_length is_name_byte xs) in
    let n = name_leading (after_separator is_name_byte xs) j i (subst (λ w. is_name w ≡ true) (p.after_separator_is j q) s.second) in
    let b = n.most in
    record {
      there = sym p.parted_is ∙ s.there;
      free = subst (λ w. is_keyword w ≡ false) p.leading_is s.free;
      letter = n.letter;
      most = omega arith;
    }

-- no other form begins with a letter
other : (g : Form) (m : ℕ) (xs : List ℕ) → starts_letter xs ≡ true → m ≤ length xs → form g (take m xs) (drop m xs) ≡ true → (g ≡ Word → m ≤ prefix_len is_name_byte xs → ⊥) → (g ≡ Qualified → IsQualified xs m → ⊥) → ⊥
other g m [] s h e n q = let z : false ≡ true = s in cc
other Word m (b ∷ bs) s h e n q = n refl (name_leading (b ∷ bs) m h (word_form _ _ e)).most
other Qualified m (b ∷ bs) s h e n q = q refl (is_qualified (b ∷ bs) (drop m (b ∷ bs)) m h e)
other Digits m (b ∷ bs) s h e n q = both_ways (is_digit b) (letter_no_digit b s) (first_byte Digits m b bs e)
other Fractional m (b ∷ bs) s h e n q = both_ways (is_digit b) (letter_no_digit b s) (first_byte Fractional m b bs e)
other Dated m (b ∷ bs) s h e n q = both_ways (is_digit b) (letter_no_digit b s) (first_byte Dated m b bs e)
other Quoted m (b ∷ bs) s h e n q = both_ways (is_quote b) (letter_no_quote b s) (first_byte Quoted m b bs e)
other Symbol m (b ∷ bs) s h e n q = both_ways (is_symbol_byte b) (letter_no_symbol b s) (first_byte Symbol m b bs e)

pub word_longest : (xs : List ℕ) → starts_letter xs ≡ true → (parted is_name_byte point xs ≡ true → starts_letter (after_separator is_name_byte xs) ≡ true → is_keyword (leading is_name_byte xs) ≡ false → ⊥) → Longest Word (prefix_len is_name_byte xs) xs
word_longest xs s n =
    let w = name_whole xs s in
    record {
      some = w.1;
      within = prefix_within is_name_byte xs;
      matches = word_made _ _ w.0;
      longest = λ g m l h e. other g m xs s h e (λ _ i. omega arith) (λ _ i. n i.there i.letter i.free);
    }

pub qualified_longest : (xs : List ℕ) (m : ℕ) → starts_letter xs ≡ true → parted is_name_byte point xs ≡ true → starts_letter (after_separator is_name_byte xs) ≡ true → is_keyword (leading is_name_byte xs) ≡ false → m ≡ prefix_len is_name_byte xs + 1 + prefix_len is_name_byte (after_separator is_name_byte xs) → Longest Qualified m xs
qualified_longest xs m s t l k e =
    let i = starts_inside point (prefix_len is_name_byte xs) xs t in
    let w = prefix_within is_name_byte (after_separator is_name_byte xs) in
    let p = parts_made is_name_byte point xs m (omega arith) in
    let q : m ≡ suc (prefix_len is_name_byte xs) + prefix_len is_name_byte (after_separator is_name_byte xs) = omega arith in
    let split : Split (take m xs) = record {
      there = p.parted_is ∙ t;
      first = subst (λ w. is_name w ≡ true) (sym p.leading_is) (name_whole xs s).0;
      free = subst (λ w. is_keyword w ≡ false) (sym p.leading_is) k;
      second = subst (λ w. is_name w ≡ true) (sym (p.after_separator_is (prefix_len is_name_byte (after_separator is_name_byte xs)) q)) (name_whole (after_separator is_name_byte xs) l).0;
    } in
    record {
      some = omega arith;
      within = omega (arith, after_separator_length is_name_byte xs);
      matches = qualified_made (take m xs) (drop m xs) split;
      longest = λ g n h b f. other g n xs s b f (λ _ i. omega arith) (λ _ i. (let r = i.most in omega arith));
    }

-- AS THE CODE FINDS THEM
after_separator_at : (p : ℕ → Bool) (xs second : List ℕ) (n : ℕ) → n ≡ prefix_len p xs → second ≡ drop (n + 1) xs → second ≡ after_separator p xs
after_separator_at p xs second n e h = h ∙ (let q : n + 1 ≡ suc (prefix_len p xs) = omega arith in ap (λ k. drop k xs) q)

leading_at : (p : ℕ → Bool) (xs name : List ℕ) (n : ℕ) → n ≡ prefix_len p xs → name ≡ take (n - 0) xs → name ≡ leading p xs
leading_at p xs name n e h = h ∙ (let q : n - 0 ≡ prefix_len p xs = omega arith in ap (λ k. take k xs) q)

pub found_qualified : (xs second name : List ℕ) (n q : ℕ) → starts_letter xs ≡ true → n ≡ prefix_len is_name_byte xs → starts point (drop n xs) ≡ true → second ≡ drop (n + 1) xs → starts_letter second ≡ true → name ≡ take (n - 0) xs → is_keyword name ≡ false → q ≡ prefix_len is_name_byte second → Longest Qualified (n + 1 + q) xs
found_qualified xs second name n q s e t h l m k j =
    let b = after_separator_at is_name_byte xs second n e h in
    let g : q ≡ prefix_len is_name_byte (after_separator is_name_byte xs) = j ∙ ap (prefix_len is_name_byte) b in
    qualified_longest xs (n + 1 + q) s (subst (λ i. starts point (drop i xs) ≡ true) e t) (subst (λ w. starts_letter w ≡ true) b l)
    (subst (λ w. is_keyword w ≡ false) (leading_at is_name_byte xs name n e m) k) (omega arith)

pub word_no_point : (xs : List ℕ) (n : ℕ) → starts_letter xs ≡ true → n ≡ prefix_len is_name_byte xs → starts point (drop n xs) ≡ false → Longest Word n xs
word_no_point xs n s e t =
    subst (λ k. Longest Word k xs) (sym e) (word_longest xs s (λ p l k. both_ways (starts point (drop n xs)) t (subst (λ i. starts point (drop i xs) ≡ true) (sym e) p)))

pub word_no_letter : (xs second : List ℕ) (n : ℕ) → starts_letter xs ≡ true → n ≡ prefix_len is_name_byte xs → second ≡ drop (n + 1) xs → starts_letter second ≡ false → Longest Word n xs
word_no_letter xs second n s e h l =
    subst (λ k. Longest Word k xs) (sym e) (word_longest xs s (λ p t k. both_ways (starts_letter second) l (subst (λ w. starts_letter w ≡ true) (sym (after_separator_at is_name_byte xs second n e h)) t)))

pub word_reserved : (xs name : List ℕ) (n : ℕ) → starts_letter xs ≡ true → n ≡ prefix_len is_name_byte xs → name ≡ take (n - 0) xs → is_keyword name ≡ true → Longest Word n xs
word_reserved xs name n s e m k =
    subst (λ i. Longest Word i xs) (sym e) (word_longest xs s (λ p l f. both_ways (is_keyword name) (subst (λ w. is_keyword w ≡ false) (sym (leading_at is_name_byte xs name n e m)) f) k))
