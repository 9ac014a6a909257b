-- A row of the flat tables is a production.
use Rattle.std.proofs.Common.{ℕ, zero, suc, ◌+◌, ◌<◌, ◌≤◌, ◌≡◌, Bool, true, false, ◌&&◌, leb, ltb, List, [], ◌∷◌, length, slice_index_or, refl, sym, ◌∙◌, ap, subst, arith}
use Rattle.std.specs.Prelude.{slice_index, slice_range}
use Rattle.std.proofs.lemmas.Bool.{leb-true, ltb-true}
use Rattle.parse_tree.specs.declared.token.TokenKind.{TokenKind}
use Rattle.parser.specs.declared.nonterminal.Nonterminal.{Nonterminal}
use Rattle.parser.specs.declared.symbol.Symbol.{Symbol}
use Rattle.parser.specs.declared.nonterminal.Nonterminal.TheVariants.{Program}
use Rattle.parser.specs.Grammar.{Production, row, rows_after, rule, rules, rule_count, nonterminals, symbols, symbols_from, starts, starts_from, empty, blank}
use Rattle.parser.specs.Table.{rows_from}
use Rattle.parser.specs.Same.{nonterminal_number}
use Rattle.abl_base.proofs.Bools.{left_of_and, right_of_and}

row_in : (n i r : ℕ) (d : Production) → r < n → slice_index_or (rows_after n i) r d ≡ row (i + r)
row_in zero i r d h = absurd (omega arith)
row_in (suc n) i zero d h = ap row (omega arith)
row_in (suc n) i (suc r) d h = row_in n (i + 1) r d (omega arith) ∙ ap row (omega arith)

rows_long : (n i : ℕ) → length (rows_after n i) ≡ n
rows_long zero i = refl
rows_long (suc n) i = ap suc (rows_long n (i + 1))

pub count_is : rule_count ≡ length nonterminals
unfolding rules
count_is = rows_long (length nonterminals) 0

pub rule_is : (r : ℕ) → r < rule_count → rule r ≡ row r
unfolding rule rules
rule_is r h = row_in (length nonterminals) 0 r _ (let e = count_is in omega arith) ∙ ap row (omega arith)

-- THE CHECK OF THE BOUNDS
abbrev pub rising : List ℕ → ℕ → Bool
rising [] most = true
rising (x ∷ []) most = leb x most
rising (x ∷ y ∷ ys) most = leb x y && rising (y ∷ ys) most

pub symbols_rise : rising symbols_from (length symbols) ≡ true
unfolding symbols symbols_from
symbols_rise = refl

pub starts_rise : rising starts_from (length starts) ≡ true
unfolding starts starts_from
starts_rise = refl

pub nonterminals_few : length nonterminals < 1000
unfolding nonterminals
nonterminals_few = omega arith

pub symbols_long : length symbols_from ≡ length nonterminals + 1
unfolding nonterminals symbols_from
symbols_long = refl

pub starts_long : length starts_from ≡ length nonterminals + 1
unfolding nonterminals starts_from
starts_long = refl

pub empty_long : length empty ≡ length nonterminals
unfolding nonterminals empty
empty_long = refl

pub record Range (from to most : ℕ) : Type 0 where
  pub rises : from ≤ to
  pub within : to ≤ most

first_within : (x : ℕ) (xs : List ℕ) (most : ℕ) → rising (x ∷ xs) most ≡ true → x ≤ most
first_within x [] most e = leb-true x most e
first_within x (y ∷ ys) most e =
    let a : x ≤ y = leb-true x y (left_of_and (leb x y) (rising (y ∷ ys) most) e) in
    let b = first_within y ys most (right_of_and (leb x y) (rising (y ∷ ys) most) e) in
    omega arith

pub range_at : (xs : List ℕ) (most r : ℕ) → rising xs most ≡ true → r + 1 < length xs → Range (slice_index xs r) (slice_index xs (suc r)) most
range_at [] most r e h = absurd (omega arith)
range_at (x ∷ []) most r e h = absurd (omega arith)
range_at (x ∷ y ∷ ys) most zero e h = record { rises = leb-true x y (left_of_and (leb x y) (rising (y ∷ ys) most) e); within = first_within y ys most (right_of_and (leb x y) (rising (y ∷ ys) most) e) }
range_at (x ∷ y ∷ ys) most (suc r) e h = range_at (y ∷ ys) most r (right_of_and (leb x y) (rising (y ∷ ys) most) e) (omega arith)

pub count_fits : rule_count < 1000
count_fits = let e = count_is in let f : length nonterminals < 1000 = nonterminals_few in omega arith

pub record Cut (from : List ℕ) (long r : ℕ) : Type 0 where
  pub rises : slice_index from r ≤ slice_index from (r + 1)
  pub within : slice_index from (r + 1) ≤ long
  pub inside : r + 1 < length from
  pub few : r < 1000

cut_of : (from : List ℕ) (long r : ℕ) → rising from long ≡ true → length from ≡ length nonterminals + 1 → r < rule_count → Cut from long r
cut_of from long r e n h =
    let i : r + 1 < length from = (let c = count_is in omega arith) in
    let g = range_at from long r e i in
    record {
      rises = subst (λ s. slice_index from r ≤ slice_index from s) (omega arith) g.rises;
      within = subst (λ s. slice_index from s ≤ long) (omega arith) g.within;
      inside = i;
      few = (let f = count_fits in omega arith);
    }

pub symbols_cut : (from : List ℕ) (all : List Symbol) (r : ℕ) → from ≡ symbols_from → all ≡ symbols → r < rule_count → Cut from (length all) r
symbols_cut from all r e1 e2 h =
    subst (λ f. Cut f (length all) r) (sym e1) (subst (λ a. Cut symbols_from (length a) r) (sym e2) (cut_of symbols_from (length symbols) r symbols_rise symbols_long h))

pub starts_cut : (from : List ℕ) (all : List TokenKind) (r : ℕ) → from ≡ starts_from → all ≡ starts → r < rule_count → Cut from (length all) r
starts_cut from all r e1 e2 h =
    subst (λ f. Cut f (length all) r) (sym e1) (subst (λ a. Cut starts_from (length a) r) (sym e2) (cut_of starts_from (length starts) r starts_rise starts_long h))

pub symbols_are : (from : List ℕ) (all : List Symbol) (r : ℕ) → from ≡ symbols_from → all ≡ symbols → r < rule_count → slice_range all (slice_index from r) (slice_index from (r + 1)) ≡ (rule r).symbols
unfolding row
symbols_are from all r e1 e2 h =
    ap (λ a. slice_range a (slice_index from r) (slice_index from (r + 1))) e2 ∙ ap (λ f. slice_range symbols (slice_index f r) (slice_index f (r + 1))) e1 ∙ sym (ap (λ x. x.symbols) (rule_is r h))

pub starts_are : (from : List ℕ) (all : List TokenKind) (r : ℕ) → from ≡ starts_from → all ≡ starts → r < rule_count → slice_range all (slice_index from r) (slice_index from (r + 1)) ≡ (rule r).starts
unfolding row
starts_are from all r e1 e2 h =
    ap (λ a. slice_range a (slice_index from r) (slice_index from (r + 1))) e2 ∙ ap (λ f. slice_range starts (slice_index f r) (slice_index f (r + 1))) e1 ∙ sym (ap (λ x. x.starts) (rule_is r h))

pub nonterminal_is : (all : List Nonterminal) (r : ℕ) (d : Nonterminal) → all ≡ nonterminals → r < rule_count → slice_index_or all r Program ≡ (rule r).nonterminal
unfolding row
nonterminal_is all r d e h = ap (λ a. slice_index_or a r Program) e ∙ sym (ap (λ x. x.nonterminal) (rule_is r h))

pub empty_is : (all : List Bool) (r : ℕ) → all ≡ empty → r < rule_count → slice_index_or all r false ≡ (rule r).empty
unfolding row
empty_is all r e h = ap (λ a. slice_index_or a r false) e ∙ sym (ap (λ x. x.empty) (rule_is r h))

-- THE CHECK OF THE PLACES: the productions of a nonterminal are adjacent, where the table says
abbrev pub placed : ℕ → List Production → Bool
placed i [] = true
placed i (x ∷ xs) = (leb (slice_index rows_from (nonterminal_number x.nonterminal)) i && ltb i (slice_index rows_from (nonterminal_number x.nonterminal + 1))) && placed (suc i) xs

pub placed_hold : placed 0 rules ≡ true
unfolding rules row nonterminals symbols symbols_from starts starts_from empty rows_from nonterminal_number
placed_hold = refl

pub record Placed (x : Production) (q : ℕ) : Type 0 where
  pub begins : slice_index rows_from (nonterminal_number x.nonterminal) ≤ q
  pub ends : q < slice_index rows_from (nonterminal_number x.nonterminal + 1)

placed_at : (i : ℕ) (xs : List Production) (q : ℕ) (d : Production) → placed i xs ≡ true → q < length xs → Placed (slice_index_or xs q d) (i + q)
placed_at i [] q d e h = absurd (omega arith)
placed_at i (x ∷ xs) zero d e h =
    let t = left_of_and (leb (slice_index rows_from (nonterminal_number x.nonterminal)) i && ltb i (slice_index rows_from (nonterminal_number x.nonterminal + 1))) (placed (suc i) xs) e in
    let b : slice_index rows_from (nonterminal_number x.nonterminal) ≤ i = leb-true _ _ (left_of_and (leb (slice_index rows_from (nonterminal_number x.nonterminal)) i) _ t) in
    let l : i < slice_index rows_from (nonterminal_number x.nonterminal + 1) = ltb-true _ _ (right_of_and (leb (slice_index rows_from (nonterminal_number x.nonterminal)) i) _ t) in
    record { begins = omega arith; ends = omega arith }
placed_at i (x ∷ xs) (suc q) d e h =
    let p = placed_at (suc i) xs q d (right_of_and (leb (slice_index rows_from (nonterminal_number x.nonterminal)) i && ltb i (slice_index rows_from (nonterminal_number x.nonterminal + 1))) (placed (suc i) xs) e) (omega arith) in
    subst (λ n. Placed (slice_index_or xs q d) n) (omega arith) p

pub place_of : (q : ℕ) → q < rule_count → Placed (rule q) q
unfolding rule
place_of q h = subst (λ n. Placed (rule q) n) (omega arith) (placed_at 0 rules q blank placed_hold h)

pub begins_by : (from : List ℕ) (a : Nonterminal) (q : ℕ) → from ≡ rows_from → q < rule_count → (rule q).nonterminal ≡ a → slice_index from (nonterminal_number a) ≤ q
begins_by from a q e h p = subst (λ f. slice_index f (nonterminal_number a) ≤ q) (sym e) (subst (λ x. slice_index rows_from (nonterminal_number x) ≤ q) p (place_of q h).begins)

pub ends_by : (from : List ℕ) (a : Nonterminal) (q : ℕ) → from ≡ rows_from → q < rule_count → (rule q).nonterminal ≡ a → q < slice_index from (nonterminal_number a + 1)
ends_by from a q e h p = subst (λ f. q < slice_index f (nonterminal_number a + 1)) (sym e) (subst (λ x. q < slice_index rows_from (nonterminal_number x + 1)) p (place_of q h).ends)
