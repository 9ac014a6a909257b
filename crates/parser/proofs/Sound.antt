-- From the computed tests to rules about one row.
use Rattle.std.proofs.Common.{ℕ, zero, suc, ◌+◌, ◌<◌, ◌≡◌, Bool, true, false, not, ◌&&◌, ◌||◌, cond, ltb, List, [], ◌∷◌, length, slice_index_or, refl, sym, ◌∙◌, ap, subst, arith, ◌⊎◌, inl, inr}
use Rattle.std.proofs.lemmas.Bool.{ltb-true}
use native.Mathlib.Decide.{dec_lt}
use Rattle.parse_tree.specs.declared.token.TokenKind.{TokenKind}
use Rattle.parse_tree.specs.declared.token.TokenKind.TheVariants.{Name}
use Rattle.parser.specs.declared.nonterminal.Nonterminal.{Nonterminal}
use Rattle.parser.specs.declared.nonterminal.Nonterminal.TheVariants.{Statement}
use Rattle.parser.specs.declared.symbol.Symbol.{Symbol}
use Rattle.parser.specs.declared.symbol.Symbol.TheVariants.{Take, Open}
use Rattle.parser.specs.Same.{same_kind, same_nonterminal}
use Rattle.parser.specs.Grammar.{Production, blank, rule, rules as table, rule_count, Vanishes, nothing, both, Begins, here, inside_nonterminal, past}
use Rattle.parser.specs.Completions.{rank}
use Rattle.parser.specs.Table.{has, vanishes_as, some, front, is_nil, ends_free, each, of_nonterminal}
use Rattle.std.proofs.lemmas.Bool.{and_from, or_cases, or_left}
use Rattle.abl_base.proofs.Bools.{left_of_and, right_of_and, implied, not_true}
use Rattle.parser.proofs.Flags.{nil_is, kinds_same, kind_itself, nonterminals_same, nonterminals_equal, each_at, some_at, found, has_append, has_left, has_right, each_has}
use Rattle.parser.proofs.Checks.{leads, all_vanish, within, row_ok, pair_ok, pairs_ok, rows_hold, pairs_hold}

-- the tokens of a nonterminal are those of its rows
chosen : (b : Bool) (xs : List TokenKind) (k : TokenKind) → has (cond b xs []) k ≡ true → (b ≡ true) × (has xs k ≡ true)
chosen true xs k e = (refl, e)
chosen false xs k e = cc

choosing : (b : Bool) (xs : List TokenKind) (k : TokenKind) → b ≡ true → has xs k ≡ true → has (cond b xs []) k ≡ true
choosing true xs k e h = h
choosing false xs k e h = cc

of_nonterminal_at : (xs : List Production) (i : ℕ) (d : Production) (a : Nonterminal) (k : TokenKind) → i < length xs → (slice_index_or xs i d).nonterminal ≡ a → has (slice_index_or xs i d).starts k ≡ true → has (of_nonterminal xs a) k ≡ true
of_nonterminal_at [] i d a k h e s = absurd (omega arith)
of_nonterminal_at (x ∷ xs) zero d a k h e s = has_left (cond (same_nonterminal x.nonterminal a) x.starts []) (of_nonterminal xs a) k (choosing (same_nonterminal x.nonterminal a) x.starts k (nonterminals_equal x.nonterminal a e) s)
of_nonterminal_at (x ∷ xs) (suc i) d a k h e s = has_right (cond (same_nonterminal x.nonterminal a) x.starts []) (of_nonterminal xs a) k (of_nonterminal_at xs i d a k (omega arith) e s)

record Row' (xs : List Production) (d : Production) (a : Nonterminal) (k : TokenKind) : Type 0 where
  at : ℕ
  inside_it : at < length xs
  nonterminal : (slice_index_or xs at d).nonterminal ≡ a
  starts : has (slice_index_or xs at d).starts k ≡ true

of_nonterminal_found : (xs : List Production) (d : Production) (a : Nonterminal) (k : TokenKind) → has (of_nonterminal xs a) k ≡ true → Row' xs d a k
of_nonterminal_found [] d a k e = cc
of_nonterminal_found (x ∷ xs) d a k e = elim (has_append (cond (same_nonterminal x.nonterminal a) x.starts []) (of_nonterminal xs a) k e) [
  | inl h ↦ (let g = chosen (same_nonterminal x.nonterminal a) x.starts k h in record { at = 0; inside_it = omega arith; nonterminal = nonterminals_same x.nonterminal a g.0; starts = g.1 })
  | inr h ↦ (let r = of_nonterminal_found xs d a k h in record { at = suc r.at; inside_it = (let l = r.inside_it in omega arith); nonterminal = r.nonterminal; starts = r.starts })
]

-- THE ROWS
pub record RowHolds (x : Production) : Type 0 where
  pub closed : within (leads table x.symbols) x.starts ≡ true
  pub exact : within x.starts (leads table x.symbols) ≡ true
  pub empties : all_vanish table x.symbols ≡ true → x.empty ≡ true
  pub vanishes : x.empty ≡ true → all_vanish table x.symbols ≡ true
  pub deeper : front table x.symbols < rank x.nonterminal
  pub ends : ends_free x.symbols ≡ true

pub row_holds : (r : ℕ) → r < rule_count → RowHolds (rule r)
unfolding rule
row_holds r h =
    let x = rule r in
    let e : row_ok table x ≡ true = each_at (row_ok table) table r _ rows_hold h in
    let t1 = right_of_and (within (leads table x.symbols) x.starts) _ e in
    let t2 = right_of_and (within x.starts (leads table x.symbols)) _ t1 in
    let t3 = right_of_and (not (all_vanish table x.symbols) || x.empty) _ t2 in
    let t4 = right_of_and (not x.empty || all_vanish table x.symbols) _ t3 in
    record {
      closed = left_of_and (within (leads table x.symbols) x.starts) _ e;
      exact = left_of_and (within x.starts (leads table x.symbols)) _ t1;
      empties = implied (all_vanish table x.symbols) x.empty (left_of_and (not (all_vanish table x.symbols) || x.empty) _ t2);
      vanishes = implied x.empty (all_vanish table x.symbols) (left_of_and (not x.empty || all_vanish table x.symbols) _ t3);
      deeper = ltb-true _ _ (left_of_and (ltb (front table x.symbols) (rank x.nonterminal)) _ t4);
      ends = right_of_and (ltb (front table x.symbols) (rank x.nonterminal)) _ t4;
    }

-- a nonterminal of a row, in the words of the whole list
pub rule_nonterminal : (r : ℕ) (a : Nonterminal) (k : TokenKind) → r < rule_count → (rule r).nonterminal ≡ a → has (rule r).starts k ≡ true → has (of_nonterminal table a) k ≡ true
unfolding rule
rule_nonterminal r a k h e s = of_nonterminal_at table r _ a k h e s

pub rule_empty : (r : ℕ) (a : Nonterminal) → r < rule_count → (rule r).nonterminal ≡ a → (rule r).empty ≡ true → some (vanishes_as a) table ≡ true
unfolding rule
rule_empty r a h e v = some_at (vanishes_as a) table r _ (and_from (same_nonterminal (rule r).nonterminal a) (rule r).empty (nonterminals_equal (rule r).nonterminal a e) v) h

record Source (a : Nonterminal) (k : TokenKind) : Type 0 where
  r : ℕ
  inside_it : r < rule_count
  nonterminal : (rule r).nonterminal ≡ a
  starts : has (rule r).starts k ≡ true

source : (a : Nonterminal) (k : TokenKind) → has (of_nonterminal table a) k ≡ true → Source a k
unfolding rule
source a k e = let f = of_nonterminal_found table (blank) a k e in record { r = f.at; inside_it = f.inside_it; nonterminal = f.nonterminal; starts = f.starts }

record Empty' (a : Nonterminal) : Type 0 where
  r : ℕ
  inside_it : r < rule_count
  nonterminal : (rule r).nonterminal ≡ a
  empty : (rule r).empty ≡ true

emptied : (a : Nonterminal) → some (vanishes_as a) table ≡ true → Empty' a
unfolding rule
emptied a e =
    let f = found (vanishes_as a) table (blank) e in
    let x = slice_index_or table f.at (blank) in
    record { r = f.at; inside_it = f.inside_it; nonterminal = nonterminals_same x.nonterminal a (left_of_and (same_nonterminal x.nonterminal a) x.empty f.passes); empty = right_of_and (same_nonterminal x.nonterminal a) x.empty f.passes }

-- a production that can be empty is marked
pub vanishing_is : {symbols : List Symbol} → Vanishes symbols → all_vanish table symbols ≡ true
vanishing_is nothing = refl
vanishing_is (both {symbols} r h v w {a} e) =
    and_from (some (vanishes_as a) table) (all_vanish table symbols) (rule_empty r a h e ((row_holds r h).empties (vanishing_is v))) (vanishing_is w)

-- what can begin with a token is marked
begins_is : {symbols : List Symbol} {k : TokenKind} → Begins symbols k → has (leads table symbols) k ≡ true
begins_is (here {symbols} {k}) = or_left (same_kind k k) false (kind_itself k)
begins_is (inside_nonterminal {symbols} {k} {a} r h e b) =
    has_left (of_nonterminal table a) (cond (some (vanishes_as a) table) (leads table symbols) []) k
    (rule_nonterminal r a k h e (each_has (has (rule r).starts) (leads table (rule r).symbols) k (row_holds r h).closed (begins_is b)))
begins_is (past {symbols} {k} {a} v b) =
    has_right (of_nonterminal table a) (cond (some (vanishes_as a) table) (leads table symbols) []) k
    (choosing (some (vanishes_as a) table) (leads table symbols) k (left_of_and (some (vanishes_as a) table) true (vanishing_is v)) (begins_is b))

pub starts_are : (r : ℕ) (k : TokenKind) → r < rule_count → Begins (rule r).symbols k → has (rule r).starts k ≡ true
starts_are r k h b = each_has (has (rule r).starts) (leads table (rule r).symbols) k (row_holds r h).closed (begins_is b)

-- what is marked is so
front_past : (b : Bool) (x y : ℕ) → b ≡ true → x + cond b y 0 ≡ x + y
front_past true x y e = refl
front_past false x y e = cc

vanishing : (n : ℕ) (symbols : List Symbol) → front table symbols < n → all_vanish table symbols ≡ true → Vanishes symbols
vanishing zero symbols h e = absurd (omega arith)
vanishing (suc n) [] h e = nothing
vanishing (suc n) (Take k ∷ s) h e = cc
vanishing (suc n) (Open a ∷ s) h e =
    let here' = left_of_and (some (vanishes_as a) table) (all_vanish table s) e in
    let m = emptied a here' in
    let row = row_holds m.r m.inside_it in
    let d = row.deeper in
    let q : rank (rule m.r).nonterminal ≡ rank a = ap rank m.nonterminal in
    let p : rank a + cond (some (vanishes_as a) table) (front table s) 0 ≡ rank a + front table s = front_past _ _ _ here' in
    both m.r m.inside_it (vanishing n (rule m.r).symbols (omega arith) (row.vanishes m.empty)) (vanishing (suc n) s (omega arith) (right_of_and (some (vanishes_as a) table) (all_vanish table s) e)) m.nonterminal

beginning : (n : ℕ) (symbols : List Symbol) (k : TokenKind) → front table symbols < n → has (leads table symbols) k ≡ true → Begins symbols k
beginning zero symbols k h e = absurd (omega arith)
beginning (suc n) [] k h e = cc
beginning (suc n) (Take w ∷ s) k h e = elim (or_cases (same_kind w k) false e) [
  | inl g ↦ subst (λ x. Begins (Take w ∷ s) x) (kinds_same w k g) here
  | inr g ↦ cc
]
beginning (suc n) (Open a ∷ s) k h e = elim (has_append (of_nonterminal table a) (cond (some (vanishes_as a) table) (leads table s) []) k e) [
  | inl g ↦ (
      let m = source a k g in
      let row = row_holds m.r m.inside_it in
      let d = row.deeper in
      let q : rank (rule m.r).nonterminal ≡ rank a = ap rank m.nonterminal in
      inside_nonterminal m.r m.inside_it m.nonterminal (beginning n (rule m.r).symbols k (omega arith) (each_has (has (leads table (rule m.r).symbols)) (rule m.r).starts k row.exact m.starts)))
  | inr g ↦ (
      let c = chosen (some (vanishes_as a) table) (leads table s) k g in
      let p : rank a + cond (some (vanishes_as a) table) (front table s) 0 ≡ rank a + front table s = front_past _ _ _ c.0 in
      let z : rank a + cond (some (vanishes_as a) table) 0 0 ≡ rank a + 0 = front_past _ _ _ c.0 in
      past (vanishing (suc n) (Open a ∷ []) (omega arith) (and_from (some (vanishes_as a) table) true c.0 refl)) (beginning (suc n) s k (omega arith) c.1))
]

pub starts_begin : (r : ℕ) (k : TokenKind) → r < rule_count → has (rule r).starts k ≡ true → Begins (rule r).symbols k
starts_begin r k h e =
    let row = row_holds r h in
    beginning (suc (front table (rule r).symbols)) (rule r).symbols k (omega arith) (each_has (has (leads table (rule r).symbols)) (rule r).starts k row.exact e)

-- THE PAIRS
pairs_at : (xs : List Production) (i j : ℕ) (d : Production) → pairs_ok xs ≡ true → i < j → j < length xs → pair_ok (slice_index_or xs i d) (slice_index_or xs j d) ≡ true
pairs_at [] i j d e h l = absurd (omega arith)
pairs_at (x ∷ xs) i zero d e h l = absurd (omega arith)
pairs_at (x ∷ xs) zero (suc j) d e h l = each_at (pair_ok x) xs j d (left_of_and (each (pair_ok x) xs) (pairs_ok xs) e) (omega arith)
pairs_at (x ∷ xs) (suc i) (suc j) d e h l = pairs_at xs i j d (right_of_and (each (pair_ok x) xs) (pairs_ok xs) e) (omega arith) (omega arith)

-- two rows of one nonterminal
pub record Apart (x y : Production) : Type 0 where
  pub disjoint : (k : TokenKind) → has x.starts k ≡ true → has y.starts k ≡ true → (k ≡ Name) × (x.nonterminal ≡ Statement)
  pub one_empty : x.empty ≡ true → y.empty ≡ true → ⊥
  pub first_nil : x.empty ≡ true → x.symbols ≡ []
  pub second_nil : y.empty ≡ true → y.symbols ≡ []

apart_of : (x y : Production) → pair_ok x y ≡ true → x.nonterminal ≡ y.nonterminal → Apart x y
apart_of x y e p =
    let t0 = implied (same_nonterminal x.nonterminal y.nonterminal) _ e (nonterminals_equal x.nonterminal y.nonterminal p) in
    let t1 = right_of_and (each (λ k. not (has y.starts k) || (same_kind k Name && same_nonterminal x.nonterminal Statement)) x.starts) _ t0 in
    let t2 = right_of_and (not (x.empty && y.empty)) _ t1 in
    record {
      disjoint = λ k h g.
          let v = implied (has y.starts k) _ (each_has (λ k. not (has y.starts k) || (same_kind k Name && same_nonterminal x.nonterminal Statement)) x.starts k (left_of_and (each (λ k. not (has y.starts k) || (same_kind k Name && same_nonterminal x.nonterminal Statement)) x.starts) _ t0) h) g in
          (kinds_same k Name (left_of_and (same_kind k Name) _ v), nonterminals_same x.nonterminal Statement (right_of_and (same_kind k Name) _ v));
      one_empty = λ h g. not_true (x.empty && y.empty) (left_of_and (not (x.empty && y.empty)) _ t1) (and_from x.empty y.empty h g);
      first_nil = λ h. nil_is x.symbols (implied x.empty (is_nil x.symbols) (left_of_and (not x.empty || is_nil x.symbols) _ t2) h);
      second_nil = λ h. nil_is y.symbols (implied y.empty (is_nil y.symbols) (right_of_and (not x.empty || is_nil x.symbols) _ t2) h);
    }

turned : (x y : Production) → x.nonterminal ≡ y.nonterminal → Apart x y → Apart y x
turned x y p a = record {
  disjoint = λ k h g. (let d = a.disjoint k g h in (d.0, sym p ∙ d.1));
  one_empty = λ h g. a.one_empty g h;
  first_nil = a.second_nil;
  second_nil = a.first_nil;
}

below : (q r : ℕ) → q < r → r < rule_count → (rule q).nonterminal ≡ (rule r).nonterminal → Apart (rule q) (rule r)
unfolding rule
below q r h l e = apart_of (rule q) (rule r) (pairs_at table q r _ pairs_hold h l) e

order : (q r : ℕ) → (q < r) ⊎ ((r < q) ⊎ (q ≡ r))
order q r = elim (dec_lt q r) [ yes h ↦ inl h | no h ↦ elim (dec_lt r q) [ yes g ↦ inr (inl g) | no g ↦ inr (inr (omega arith)) ] ]

-- one, or apart
pub alike : (q r : ℕ) → q < rule_count → r < rule_count → (rule q).nonterminal ≡ (rule r).nonterminal → (q ≡ r) ⊎ Apart (rule q) (rule r)
alike q r hq hr e = elim (order q r) [
  | inl h ↦ inr (below q r h hr e)
  | inr s ↦ elim s [
    | inl h ↦ inr (turned (rule r) (rule q) (sym e) (below r q h hq (sym e)))
    | inr h ↦ inl h
  ]
]
