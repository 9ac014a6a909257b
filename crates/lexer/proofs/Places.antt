-- How lines and columns go from one place to the next.
use Rattle.std.proofs.Common.{ℕ, ◌+◌, ◌<◌, ◌≤◌, ◌≡◌, ◌≢◌, Bool, not, List, [], ◌∷◌, ◌++◌, length, take, get_or, refl, ◌∙◌, ap, arith, add-one}
use Rattle.std.specs.Prelude.{◌==◌, count_by, reverse}
use Rattle.std.specs.List.{prefix_len, suffix_len}
use Rattle.std.proofs.Math.Seq.{take-suc}
use Rattle.std.proofs.lemmas.List.{reverse-append}
use Rattle.std.proofs.lemmas.List.Sums.{count_by_more_yes, count_by_more_no, count_by-le-length, suffix_len-le-length}
use Rattle.abl_base.specs.declared.place.Place.{Place}
use Rattle.lexer.specs.Bytes.{line_feed}
use Rattle.lexer.specs.Texts.{place_of}
use Rattle.std.proofs.lemmas.Bool.{eq-eqb, ne_eqb}
use Rattle.lexer.proofs.Prefixes.{length_take, prefix_more, prefix_stops}

abbrev pub is_feed : ℕ → Bool
is_feed b = b == line_feed

abbrev pub is_column : ℕ → Bool
is_column b = not (b == line_feed)

leading_next : (text : List ℕ) (i : ℕ) → i < length text → take (i + 1) text ≡ take i text ++ (get_or text i 0 ∷ [])
leading_next text i h = rw (add-one, take-suc text i 0)

back_next : (text : List ℕ) (i : ℕ) → i < length text → reverse (take (i + 1) text) ≡ get_or text i 0 ∷ reverse (take i text)
back_next text i h = ap reverse (leading_next text i h) ∙ reverse-append (take i text) (get_or text i 0 ∷ [])

lines_more : (text : List ℕ) (i : ℕ) → i < length text → get_or text i 0 ≡ line_feed → count_by is_feed (take (i + 1) text) ≡ count_by is_feed (take i text) + 1
lines_more text i h e = count_by_more_yes is_feed text i 0 h (eq-eqb _ _ e)

lines_same : (text : List ℕ) (i : ℕ) → i < length text → get_or text i 0 ≢ line_feed → count_by is_feed (take (i + 1) text) ≡ count_by is_feed (take i text)
lines_same text i h n = count_by_more_no is_feed text i 0 h (ne_eqb _ _ n)

abbrev pub place : ℕ → ℕ → Place
place a b = record { line = a; column = b }

abbrev Same : ℕ → ℕ → ℕ → ℕ → Type 0
Same a b c d = place a b ≡ place c d

made : (a b c d : ℕ) → a ≡ c → b ≡ d → Same a b c d
made a b c d e f = ap (λ n. place n b) e ∙ ap (λ n. place c n) f

columns_start : (text : List ℕ) (i : ℕ) → i < length text → get_or text i 0 ≡ line_feed → suffix_len is_column (take (i + 1) text) ≡ 0
columns_start text i h e =
    ap (prefix_len is_column) (back_next text i h) ∙ prefix_stops is_column (get_or text i 0) (reverse (take i text)) (ap not (eq-eqb _ _ e))

columns_more : (text : List ℕ) (i : ℕ) → i < length text → get_or text i 0 ≢ line_feed → suffix_len is_column (take (i + 1) text) ≡ 1 + suffix_len is_column (take i text)
columns_more text i h n =
    ap (prefix_len is_column) (back_next text i h) ∙ prefix_more is_column (get_or text i 0) (reverse (take i text)) (ap not (ne_eqb _ _ n))

-- the line and the column at a place
pub record PlaceSofar (text : List ℕ) (i line column : ℕ) : Type 0 where
  pub line_is : line ≡ 1 + count_by is_feed (take i text)
  pub column_is : column ≡ 1 + suffix_len is_column (take i text)

pub known : (text : List ℕ) (i : ℕ) (place : Place) → place ≡ place_of text i → PlaceSofar text i place.line place.column
unfolding place_of
known text i place e = record { line_is = ap (λ p. p.line) e; column_is = ap (λ p. p.column) e }

pub place_known : (text : List ℕ) (i line column : ℕ) → PlaceSofar text i line column → place line column ≡ place_of text i
unfolding place_of
place_known text i line column s = made line column _ _ s.line_is s.column_is

pub feed : (text : List ℕ) (i line column : ℕ) → PlaceSofar text i line column → i < length text → get_or text i 0 ≡ line_feed → PlaceSofar text (i + 1) (line + 1) 1
feed text i line column s h e =
    let a = s.line_is in
    let b = lines_more text i h e in
    let c = columns_start text i h e in
    record { line_is = omega arith; column_is = omega arith }

pub other : (text : List ℕ) (i line column : ℕ) → PlaceSofar text i line column → i < length text → get_or text i 0 ≢ line_feed → PlaceSofar text (i + 1) line (column + 1)
other text i line column s h n =
    let a = s.line_is in
    let b = lines_same text i h n in
    let d = s.column_is in
    let c = columns_more text i h n in
    record { line_is = omega arith; column_is = omega arith }

pub line_small : (text : List ℕ) (i line column : ℕ) → PlaceSofar text i line column → i ≤ length text → line ≤ i + 1
line_small text i line column s h =
    let a = s.line_is in
    let b = count_by-le-length is_feed (take i text) in
    let c = length_take i text h in
    omega arith

pub column_small : (text : List ℕ) (i line column : ℕ) → PlaceSofar text i line column → i ≤ length text → column ≤ i + 1
column_small text i line column s h =
    let a = s.column_is in
    let b = suffix_len-le-length is_column (take i text) in
    let c = length_take i text h in
    omega arith

-- the source begins at line 1, column 1
pub begin : (text : List ℕ) → place 1 1 ≡ place_of text 0
begin text = place_known text 0 1 1 record { line_is = refl; column_is = refl }

pub as_known : (text : List ℕ) (i line column line' column' : ℕ) → PlaceSofar text i line column → line' ≡ line → column' ≡ column → PlaceSofar text i line' column'
as_known text i line column line' column' s e f = record { line_is = e ∙ s.line_is; column_is = f ∙ s.column_is }
