-- The longest form at a symbol.
use Rattle.std.proofs.Common.{ℕ, zero, suc, ◌<◌, ◌≤◌, ◌≡◌, true, false, List, [], ◌∷◌, length, take, drop, subst, arith}
use Rattle.std.specs.Prelude.{slice_index}
use Rattle.lexer.specs.declared.form.Form.{Form}
use Rattle.lexer.specs.declared.form.Form.TheVariants.{Word, Qualified, Digits, Fractional, Dated, Quoted, Symbol}
use Rattle.lexer.specs.Bytes.{is_letter, is_digit, is_quote, starts_digit, starts_letter, starts_quote}
use Rattle.lexer.specs.Forms.{form, is_pair, is_single, starts_pair, Longest, NoForm}
use Rattle.std.proofs.lemmas.Bool.{both_ways}
use Rattle.lexer.proofs.Shapes.{first_byte, no_empty}

-- no other form begins with such a byte
pub other : (g : Form) (m b : ℕ) (bs : List ℕ) → is_letter b ≡ false → is_digit b ≡ false → is_quote b ≡ false → form g (take m (b ∷ bs)) (drop m (b ∷ bs)) ≡ true → (form Symbol (take m (b ∷ bs)) (drop m (b ∷ bs)) ≡ true → ⊥) → ⊥
other Word m b bs l d q e n = both_ways (is_letter b) l (first_byte Word m b bs e)
other Qualified m b bs l d q e n = both_ways (is_letter b) l (first_byte Qualified m b bs e)
other Digits m b bs l d q e n = both_ways (is_digit b) d (first_byte Digits m b bs e)
other Fractional m b bs l d q e n = both_ways (is_digit b) d (first_byte Fractional m b bs e)
other Dated m b bs l d q e n = both_ways (is_digit b) d (first_byte Dated m b bs e)
other Quoted m b bs l d q e n = both_ways (is_quote b) q (first_byte Quoted m b bs e)
other Symbol m b bs l d q e n = n e

three : (b c d : ℕ) (bs a : List ℕ) → form Symbol (b ∷ c ∷ d ∷ bs) a ≡ true → ⊥
unfolding form
three b c d bs a e = let z : false ≡ true = e in cc

two : (b c : ℕ) (a : List ℕ) → form Symbol (b ∷ c ∷ []) a ≡ true → is_pair b c ≡ true
unfolding form
two b c a e = e

two_made : (b c : ℕ) (a : List ℕ) → is_pair b c ≡ true → form Symbol (b ∷ c ∷ []) a ≡ true
unfolding form
two_made b c a e = e

one : (b : ℕ) (a : List ℕ) → form Symbol (b ∷ []) a ≡ true → is_single b a ≡ true
unfolding form
one b a e = e

one_made : (b : ℕ) (a : List ℕ) → is_single b a ≡ true → form Symbol (b ∷ []) a ≡ true
unfolding form
one_made b a e = e

-- a symbol of more than two bytes, or of more than one where no pair is
long : (m b c : ℕ) (bs : List ℕ) → 2 < m → m ≤ length (b ∷ c ∷ bs) → form Symbol (take m (b ∷ c ∷ bs)) (drop m (b ∷ c ∷ bs)) ≡ true → ⊥
long zero b c bs h l e = omega arith
long (suc zero) b c bs h l e = omega arith
long (suc (suc zero)) b c bs h l e = omega arith
long (suc (suc (suc m))) b c [] h l e = omega arith
long (suc (suc (suc m))) b c (d ∷ bs) h l e = three b c d (take m bs) (drop m bs) e

more : (m b : ℕ) (bs : List ℕ) → starts_pair (b ∷ bs) ≡ false → 1 < m → m ≤ length (b ∷ bs) → form Symbol (take m (b ∷ bs)) (drop m (b ∷ bs)) ≡ true → ⊥
more zero b bs p h l e = omega arith
more (suc zero) b bs p h l e = omega arith
more (suc (suc m)) b [] p h l e = omega arith
more (suc (suc zero)) b (c ∷ bs) p h l e = both_ways (is_pair b c) p (two b c bs e)
more (suc (suc (suc m))) b (c ∷ bs) p h l e = long (suc (suc (suc m))) b c bs (omega arith) l e

none : (m b : ℕ) (bs : List ℕ) → starts_pair (b ∷ bs) ≡ false → is_single b bs ≡ false → m ≤ length (b ∷ bs) → form Symbol (take m (b ∷ bs)) (drop m (b ∷ bs)) ≡ true → ⊥
none zero b bs p s l e = no_empty Symbol (b ∷ bs) e
none (suc zero) b bs p s l e = both_ways (is_single b bs) s (one b bs e)
none (suc (suc m)) b bs p s l e = more (suc (suc m)) b bs p (omega arith) l e

pub pair_longest : (xs : List ℕ) → starts_letter xs ≡ false → starts_digit xs ≡ false → starts_quote xs ≡ false → starts_pair xs ≡ true → Longest Symbol 2 xs
pair_longest [] l d q p = let z : false ≡ true = p in cc
pair_longest (b ∷ []) l d q p = let z : false ≡ true = p in cc
pair_longest (b ∷ c ∷ bs) l d q p = record {
  some = omega arith;
  within = omega arith;
  matches = two_made b c bs p;
  longest = λ g m h w e. other g m b (c ∷ bs) l d q e (λ s. long m b c bs h w s);
}

pub single_longest : (xs tail : List ℕ) → 0 < length xs → starts_letter xs ≡ false → starts_digit xs ≡ false → starts_quote xs ≡ false → starts_pair xs ≡ false → tail ≡ drop 1 xs → is_single (slice_index xs 0) tail ≡ true → Longest Symbol 1 xs
single_longest [] tail h l d q p t s = absurd (omega arith)
single_longest (b ∷ bs) tail h l d q p t s = record {
  some = omega arith;
  within = omega arith;
  matches = one_made b bs (subst (λ a. is_single b a ≡ true) t s);
  longest = λ g m n w e. other g m b bs l d q e (λ f. more m b bs p n w f);
}

pub no_symbol : (xs tail : List ℕ) → 0 < length xs → starts_letter xs ≡ false → starts_digit xs ≡ false → starts_quote xs ≡ false → starts_pair xs ≡ false → tail ≡ drop 1 xs → is_single (slice_index xs 0) tail ≡ false → NoForm xs
no_symbol [] tail h l d q p t s = absurd (omega arith)
no_symbol (b ∷ bs) tail h l d q p t s = λ g m w e. other g m b bs l d q e (λ f. none m b bs p (subst (λ a. is_single b a ≡ false) t s) w f)
