-- Tests of kinds and nonterminals, and of lists of them.
use Rattle.std.proofs.Common.{ℕ, zero, suc, ◌<◌, ◌≡◌, Bool, true, false, List, [], ◌∷◌, ◌++◌, length, slice_index_or, refl, subst, arith, ◌⊎◌, inl, inr}
use Rattle.std.proofs.lemmas.Bool.{or_cases, or_left, or_right}
use Rattle.abl_base.proofs.Bools.{left_of_and, right_of_and}
use Rattle.parse_tree.specs.declared.token.TokenKind.{TokenKind}
use Rattle.parser.specs.declared.nonterminal.Nonterminal.{Nonterminal}
use denote.Enum.Bare.{same_true, true_same, false_same}
use Rattle.parse_tree.specs.contracts.token.TokenKind.{the_type as kind_type}
use Rattle.parser.specs.contracts.nonterminal.Nonterminal.{the_type as nonterminal_type}
use Rattle.parser.specs.Same.{same_kind, same_nonterminal}
use Rattle.parser.specs.Table.{has, some, each, is_nil}

pub nil_is : {A : Type 0} (xs : List A) → is_nil xs ≡ true → xs ≡ []
nil_is [] e = refl
nil_is (x ∷ xs) e = cc

pub kinds_same : (a b : TokenKind) → same_kind a b ≡ true → a ≡ b
unfolding same_kind
kinds_same a b e = same_true kind_type tt a b e

pub kind_itself : (a : TokenKind) → same_kind a a ≡ true
unfolding same_kind
kind_itself a = true_same kind_type a a refl

pub kinds_differ : (a b : TokenKind) → (a ≡ b → ⊥) → same_kind a b ≡ false
unfolding same_kind
kinds_differ a b h = false_same kind_type tt a b h

pub kinds_equal : (a b : TokenKind) → a ≡ b → same_kind a b ≡ true
unfolding same_kind
kinds_equal a b e = true_same kind_type a b e

pub nonterminals_same : (a b : Nonterminal) → same_nonterminal a b ≡ true → a ≡ b
unfolding same_nonterminal
nonterminals_same a b e = same_true nonterminal_type tt a b e

pub nonterminals_equal : (a b : Nonterminal) → a ≡ b → same_nonterminal a b ≡ true
unfolding same_nonterminal
nonterminals_equal a b e = true_same nonterminal_type a b e

pub nonterminals_differ : (a b : Nonterminal) → (a ≡ b → ⊥) → same_nonterminal a b ≡ false
unfolding same_nonterminal
nonterminals_differ a b h = false_same nonterminal_type tt a b h

-- lists of tests
pub each_at : {A : Type 0} (p : A → Bool) (xs : List A) (i : ℕ) (d : A) → each p xs ≡ true → i < length xs → p (slice_index_or xs i d) ≡ true
each_at p [] i d e h = absurd (omega arith)
each_at p (x ∷ xs) zero d e h = left_of_and (p x) (each p xs) e
each_at p (x ∷ xs) (suc i) d e h = each_at p xs i d (right_of_and (p x) (each p xs) e) (omega arith)

pub some_at : {A : Type 0} (p : A → Bool) (xs : List A) (i : ℕ) (d : A) → p (slice_index_or xs i d) ≡ true → i < length xs → some p xs ≡ true
some_at p [] i d e h = absurd (omega arith)
some_at p (x ∷ xs) zero d e h = or_left (p x) (some p xs) e
some_at p (x ∷ xs) (suc i) d e h = or_right (p x) (some p xs) (some_at p xs i d e (omega arith))

pub record Found {A : Type 0} (p : A → Bool) (xs : List A) (d : A) : Type 0 where
  pub at : ℕ
  pub inside_it : at < length xs
  pub passes : p (slice_index_or xs at d) ≡ true

later : {A : Type 0} (p : A → Bool) (x : A) (xs : List A) (d : A) → Found p xs d → Found p (x ∷ xs) d
later p x xs d f = record { at = suc f.at; inside_it = (let h = f.inside_it in omega arith); passes = f.passes }

pub found : {A : Type 0} (p : A → Bool) (xs : List A) (d : A) → some p xs ≡ true → Found p xs d
found p [] d e = cc
found p (x ∷ xs) d e = elim (or_cases (p x) (some p xs) e) [
  | inl h ↦ record { at = 0; inside_it = omega arith; passes = h }
  | inr h ↦ later p x xs d (found p xs d h)
]

-- lists of kinds
pub same_first : {a b : TokenKind} {xs ys : List TokenKind} → a ∷ xs ≡ b ∷ ys → a ≡ b
same_first e = cc

pub same_rest : {a b : TokenKind} {xs ys : List TokenKind} → a ∷ xs ≡ b ∷ ys → xs ≡ ys
same_rest e = cc

pub no_first : {k : TokenKind} {ts : List TokenKind} → [] ≡ k ∷ ts → ⊥
no_first e = cc

pub has_append : (xs ys : List TokenKind) (k : TokenKind) → has (xs ++ ys) k ≡ true → (has xs k ≡ true) ⊎ (has ys k ≡ true)
has_append [] ys k e = inr e
has_append (x ∷ xs) ys k e = elim (or_cases (same_kind x k) (has (xs ++ ys) k) e) [
  | inl h ↦ inl (or_left (same_kind x k) (has xs k) h)
  | inr h ↦ elim (has_append xs ys k h) [
    | inl g ↦ inl (or_right (same_kind x k) (has xs k) g)
    | inr g ↦ inr g
  ]
]

pub has_left : (xs ys : List TokenKind) (k : TokenKind) → has xs k ≡ true → has (xs ++ ys) k ≡ true
has_left [] ys k e = cc
has_left (x ∷ xs) ys k e = elim (or_cases (same_kind x k) (has xs k) e) [
  | inl h ↦ or_left (same_kind x k) (has (xs ++ ys) k) h
  | inr h ↦ or_right (same_kind x k) (has (xs ++ ys) k) (has_left xs ys k h)
]

pub has_right : (xs ys : List TokenKind) (k : TokenKind) → has ys k ≡ true → has (xs ++ ys) k ≡ true
has_right [] ys k e = e
has_right (x ∷ xs) ys k e = or_right (same_kind x k) (has (xs ++ ys) k) (has_right xs ys k e)

pub each_has : (p : TokenKind → Bool) (xs : List TokenKind) (k : TokenKind) → each p xs ≡ true → has xs k ≡ true → p k ≡ true
each_has p [] k e h = cc
each_has p (x ∷ xs) k e h = elim (or_cases (same_kind x k) (has xs k) h) [
  | inl g ↦ subst (λ y. p y ≡ true) (kinds_same x k g) (left_of_and (p x) (each p xs) e)
  | inr g ↦ each_has p xs k (right_of_and (p x) (each p xs) e) g
]
