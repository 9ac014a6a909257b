-- The blocks around a place: those of the binder, and those by which the rules U are judged.
use Rattle.std.proofs.Common.{◌≡◌, ℕ, Bool, true, false, List, [], ◌∷◌, Option, Some, None, map, refl, sym, ap, ap₂, subst, ◌∙◌, arith}
use Rattle.std.specs.Prelude.{◌||◌, ◌==◌, if◌then◌else◌, IfSome}
use Rattle.std.specs.Option.{option_map}
use Rattle.std.proofs.lemmas.Bool.Decides.{nat_tests}
use Rattle.abl_values.specs.Masks.{same_bytes}
use Rattle.abl_values.specs.Order.{folded}
use Rattle.abl_values.specs.Schema.{same_name}
use Rattle.syntax_tree.specs.declared.name.Word.{Word}
use Rattle.syntax_tree.specs.Syntax.{Head}
use Rattle.bind_names.specs.declared.names.Around.{Around}
use Rattle.bind_blocks.specs.Named.{block_named, first_block, is_labelled, is_number, undoing}
use Rattle.block_meaning.specs.Frames.{is_in}
use Rattle.block_rules.specs.Blocks as rules
use Rattle.block_rules.specs.Blocks.{from_label, from_undo, is_called, is_inner}
use Rattle.kind_laws.proofs.BoundKindsLemmas.Parts.{both_left, both_right, equal}
use Rattle.kind_laws.specs.Placed.{outward}
use Rattle.kind_laws.proofs.Parts.{clash, equal_self, in_self}

-- the numbers of blocks
abbrev pub numbers : List Around → List ℕ
numbers = map (λ (x : Around). x.number)

or_left : (c d : Bool) → c ≡ true → (c || d) ≡ true
or_left true d e = refl
or_left false d e = absurd cc

or_right : (c d : Bool) → d ≡ true → (c || d) ≡ true
or_right true d e = refl
or_right false d e = e

-- ---- the first block that passes a test is around

pub first_in : (test : Around → Bool) (x : Around) (xs : List Around) → is_in (first_block test (x ∷ xs)) (numbers (x ∷ xs)) ≡ true
first_in test x [] = in_self x.number []
first_in test x (y ∷ ys) = go (test x) (first_in test y ys)
  where
    go : (c : Bool) → is_in (first_block test (y ∷ ys)) (numbers (y ∷ ys)) ≡ true → is_in (if c then x.number else first_block test (y ∷ ys)) (numbers (x ∷ y ∷ ys)) ≡ true
    go true rest = in_self x.number (numbers (y ∷ ys))
    go false rest = or_right (first_block test (y ∷ ys) == x.number) _ rest

pub named_in : (test : Around → Bool) (x : Around) (xs : List Around) (label : Option Word) → is_in (block_named test (x ∷ xs) label) (numbers (x ∷ xs)) ≡ true
named_in test x xs None = first_in test x xs
named_in test x xs (Some label) = first_in (is_labelled label.spelling) x xs

-- ---- the block that is found, and those around it

abbrev pub rest_of : (Around → Bool) → List Around → List Around
rest_of test [] = []
rest_of test (x ∷ []) = x ∷ []
rest_of test (x ∷ y ∷ ys) = if test x then x ∷ y ∷ ys else rest_of test (y ∷ ys)

-- they are around too
rest_within : (test : Around → Bool) (xs : List Around) (n : ℕ) → is_in n (numbers (rest_of test xs)) ≡ true → is_in n (numbers xs) ≡ true
rest_within test [] n h = h
rest_within test (x ∷ []) n h = h
rest_within test (x ∷ y ∷ ys) n h = go (rest_within test (y ∷ ys) n) (test x) h
  where
    go : (is_in n (numbers (rest_of test (y ∷ ys))) ≡ true → is_in n (numbers (y ∷ ys)) ≡ true) → (c : Bool) → is_in n (numbers (if c then x ∷ y ∷ ys else rest_of test (y ∷ ys))) ≡ true → is_in n (numbers (x ∷ y ∷ ys)) ≡ true
    go f true h = h
    go f false h = or_right (n == x.number) _ (f h)

out_of : (n m : ℕ) (ms : List ℕ) (k : ℕ) → (is_in k ms ≡ true) → (is_in k (outward n ms) ≡ true) → is_in k (outward n (m ∷ ms)) ≡ true
out_of n m ms k within h = go (n == m)
  where
    go : (c : Bool) → is_in k (if c then m ∷ ms else outward n ms) ≡ true
    go true = or_right (k == m) _ within
    go false = h

out_self : (n : ℕ) (ms : List ℕ) (k : ℕ) → is_in k (n ∷ ms) ≡ true → is_in k (outward n (n ∷ ms)) ≡ true
out_self n ms k h = go (n == n) (equal_self n)
  where
    go : (c : Bool) → c ≡ true → is_in k (if c then n ∷ ms else outward n ms) ≡ true
    go true e = h
    go false e = absurd cc

-- what is around the block that is found is outward from it
pub rest_outward : (test : Around → Bool) (xs : List Around) (n : ℕ) → is_in n (numbers (rest_of test xs)) ≡ true → is_in n (outward (first_block test xs) (numbers xs)) ≡ true
rest_outward test [] n h = absurd cc
rest_outward test (x ∷ []) n h = out_self x.number [] n h
rest_outward test (x ∷ y ∷ ys) n h = go (rest_outward test (y ∷ ys) n) (test x) h
  where
    go : (is_in n (numbers (rest_of test (y ∷ ys))) ≡ true → is_in n (outward (first_block test (y ∷ ys)) (numbers (y ∷ ys))) ≡ true) → (c : Bool) → is_in n (numbers (if c then x ∷ y ∷ ys else rest_of test (y ∷ ys))) ≡ true → is_in n (outward (if c then x.number else first_block test (y ∷ ys)) (numbers (x ∷ y ∷ ys))) ≡ true
    go f true h = out_self x.number (numbers (y ∷ ys)) n h
    go f false h = out_of (first_block test (y ∷ ys)) x.number (numbers (y ∷ ys)) n (rest_within test (y ∷ ys) n h) (f h)

-- the block of a number that is around is outward from itself
same_number : (m n : ℕ) → (m == n) ≡ (n == m)
same_number m n = grind (arith, nat_tests)

pub number_outward : (n : ℕ) (x : Around) (xs : List Around) → is_in n (numbers (x ∷ xs)) ≡ true → is_in (first_block (is_number n) (x ∷ xs)) (outward n (numbers (x ∷ xs))) ≡ true
number_outward n x [] h = go (n == x.number) refl h
  where
    go : (c : Bool) → (n == x.number) ≡ c → (c || false) ≡ true → is_in x.number (if c then x.number ∷ [] else []) ≡ true
    go true e h = in_self x.number []
    go false e h = absurd cc
number_outward n x (y ∷ ys) h = go (number_outward n y ys) (n == x.number) (x.number == n) (same_number x.number n) h
  where
    go : (is_in n (numbers (y ∷ ys)) ≡ true → is_in (first_block (is_number n) (y ∷ ys)) (outward n (numbers (y ∷ ys))) ≡ true) → (c k : Bool) → k ≡ c → (c || is_in n (numbers (y ∷ ys))) ≡ true →
        is_in (if k then x.number else first_block (is_number n) (y ∷ ys)) (if c then x.number ∷ numbers (y ∷ ys) else outward n (numbers (y ∷ ys))) ≡ true
    go r true true e h = in_self x.number (numbers (y ∷ ys))
    go r false false e h = r h
    go r true false e h = absurd cc
    go r false true e h = absurd cc

-- ---- the same blocks by their heads, but for the procedure's

abbrev pub label_of : Head → Option (List ℕ)
label_of h = option_map (λ (l : Word). l.spelling) h.label

pub record IsHead (h : Head) (x : Around) : Type 0 where
  pub label : x.label ≡ label_of h
  pub undoes : x.undoes ≡ rules.has_undo h

abbrev pub Match : List Head → List Around → Type 0
Match [] [] = ⊥
Match [] (x ∷ []) = Unit {0}
Match [] (x ∷ y ∷ ys) = ⊥
Match (h ∷ hs) [] = ⊥
Match (h ∷ hs) (x ∷ xs) = IsHead h x × Match hs xs

-- no block has the label of one around it
abbrev pub AreDistinct : List Head → Type 0
AreDistinct [] = Unit {0}
AreDistinct (h ∷ hs) = IfSome h.label (λ l. is_inner (from_label l hs) ≡ false) × AreDistinct hs

-- a test of heads and one of the binder's blocks that agree
abbrev pub Agree : (Head → Bool) → (Around → Bool) → Type 0
Agree p q = (h : Head) (x : Around) → IsHead h x → q x ≡ p h

labels_agree : (l : Word) (h : Head) (o : Option (List ℕ)) (hl : Option Word) → o ≡ option_map (λ (l : Word). l.spelling) hl → (elim o as (λ _. Bool) [ None ↦ false | Some name ↦ same_name name l.spelling ]) ≡ is_called hl l
labels_agree l h o None e = rw e refl
labels_agree l h o (Some name) e = rw e refl

pub label_agrees : (l : Word) → Agree (λ h. is_called h.label l) (is_labelled l.spelling)
label_agrees l h x is = labels_agree l h x.label h.label is.label

pub undo_agrees : Agree rules.has_undo undoing
undo_agrees h x is = is.undoes

-- the heads from the first that passes the test
abbrev pub from_test : (Head → Bool) → List Head → List Head
from_test p [] = []
from_test p (h ∷ hs) = if p h then h ∷ hs else from_test p hs

pub label_is_test : (l : Word) (hs : List Head) → from_label l hs ≡ from_test (λ h. is_called h.label l) hs
label_is_test l [] = refl
label_is_test l (h ∷ hs) = ap (λ r. if is_called h.label l then h ∷ hs else r) (label_is_test l hs)

pub undo_is_test : (hs : List Head) → from_undo hs ≡ from_test rules.has_undo hs
undo_is_test [] = refl
undo_is_test (h ∷ hs) = ap (λ r. if rules.has_undo h then h ∷ hs else r) (undo_is_test hs)

-- ---- a label of a block around the undone one is found there first

-- a label like another one finds the same blocks
same_is : (xs ys : List ℕ) → same_bytes xs ys ≡ true → xs ≡ ys
same_is [] [] h = refl
same_is [] (y ∷ ys) h = absurd cc
same_is (x ∷ xs) [] h = absurd cc
same_is (x ∷ xs) (y ∷ ys) h = ap₂ (λ a as_. a ∷ as_) (equal x y (both_left (x == y) _ h)) (same_is xs ys (both_right (x == y) _ h))

called_alike : (hl : Option Word) (a b : Word) → same_name a.spelling b.spelling ≡ true → is_called hl b ≡ is_called hl a
called_alike None a b h = refl
called_alike (Some name) a b h = ap (same_bytes (folded name.spelling)) (sym (same_is (folded a.spelling) (folded b.spelling) h))

from_alike : (a b : Word) (hs : List Head) → same_name a.spelling b.spelling ≡ true → from_label b hs ≡ from_label a hs
from_alike a b [] h = refl
from_alike a b (k ∷ hs) h = ap₂ (λ c r. if c then k ∷ hs else r) (called_alike k.label a b h) (from_alike a b hs h)

-- a label among the heads from a test on is among all
found_within : (p : Head → Bool) (l : Word) (hs : List Head) → is_inner (from_label l (from_test p hs)) ≡ true → is_inner (from_label l hs) ≡ true
found_within p l [] h = h
found_within p l (k ∷ hs) h = go (found_within p l hs) (p k) h
  where
    deeper : (c : Bool) → is_inner (from_label l hs) ≡ true → is_inner (if c then k ∷ hs else from_label l hs) ≡ true
    deeper true e = refl
    deeper false e = e

    go : (is_inner (from_label l (from_test p hs)) ≡ true → is_inner (from_label l hs) ≡ true) → (c : Bool) → is_inner (from_label l (if c then k ∷ hs else from_test p hs)) ≡ true → is_inner (from_label l (k ∷ hs)) ≡ true
    go f true h = h
    go f false h = deeper (is_called k.label l) (f h)

contradiction : {c : Bool} → c ≡ true → c ≡ false → ⊥
contradiction {c} e f = clash c e f

pub no_match : (hs : List Head) → Match hs [] → ⊥
no_match [] m = m
no_match (h ∷ hs) m = m

not_called : (hl : Option Word) (l : Word) (hs : List Head) → IfSome hl (λ m. is_inner (from_label m hs) ≡ false) → is_inner (from_label l hs) ≡ true → is_called hl l ≡ false
not_called None l hs d h = refl
not_called (Some m) l hs d h = go (same_name m.spelling l.spelling) refl
  where
    go : (c : Bool) → same_name m.spelling l.spelling ≡ c → c ≡ false
    go true e = absurd (contradiction (subst (λ (r : List Head). is_inner r ≡ true) (from_alike m l hs e) h) d)
    go false e = refl

-- THE FIRST BLOCK WITH A LABEL that a block around the undone one has is around the undone one
pub label_around : (p : Head → Bool) (q : Around → Bool) → Agree p q → (l : Word) (hs : List Head) (x : Around) (xs : List Around) → Match hs (x ∷ xs) → AreDistinct hs → is_inner (from_label l (from_test p hs)) ≡ true →
    is_in (first_block (is_labelled l.spelling) (x ∷ xs)) (numbers (rest_of q (x ∷ xs))) ≡ true
label_around p q agree l [] x xs m d h = absurd cc
label_around p q agree l (k ∷ hs) x [] m d h = absurd (no_match hs m.1)
label_around p q agree l (k ∷ hs) x (y ∷ ys) m d h = go (label_around p q agree l hs y ys m.1 d.1) (p k) refl h
  where
    go : (is_inner (from_label l (from_test p hs)) ≡ true → is_in (first_block (is_labelled l.spelling) (y ∷ ys)) (numbers (rest_of q (y ∷ ys))) ≡ true) → (c : Bool) → p k ≡ c → is_inner (from_label l (if c then k ∷ hs else from_test p hs)) ≡ true →
        is_in (first_block (is_labelled l.spelling) (x ∷ y ∷ ys)) (numbers (rest_of q (x ∷ y ∷ ys))) ≡ true
    go f true e h = rw (agree k x m.0 ∙ e) (first_in (is_labelled l.spelling) x (y ∷ ys))
    go f false e h =
        rw (agree k x m.0 ∙ e) (rw (label_agrees l k x m.0 ∙ not_called k.label l hs d.0 (found_within p l hs h)) (f h))
