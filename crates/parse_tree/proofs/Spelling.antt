-- How a word is compared with the capitals of a reserved word, and looked up.
use Rattle.std.proofs.Common.{ℕ, ◌+◌, ◌<◌, ◌≤◌, ◌≡◌, ◌≢◌, true, false, ◌&&◌, List, [], ◌∷◌, length, drop, get_or, Some, None, refl, sym, ◌∙◌, ap, arith, add-one}
use Rattle.std.proofs.Math.Seq.{drop-cons}
use Rattle.std.proofs.Math.ListN.{drop_of_length-le}
use Rattle.std.specs.Prelude.{◌==◌}
use Rattle.std.specs.Char.{to_ascii_uppercase}
use Rattle.std.proofs.lemmas.Bool.{cond-true, cond-false, false_from_ne_true, eq-eqb, ne_eqb}
use Rattle.abl_base.proofs.Bools.{right_of_and}
use Rattle.parse_tree.specs.declared.token.TokenKind.{TokenKind}
use Rattle.parse_tree.specs.Keywords.{abbreviation, capitals, spells, spelled_in_full, spelled_short}

pub spells_length : (cs w : List ℕ) → spells cs w ≡ true → length cs ≡ length w
unfolding spells
spells_length [] [] e = refl
spells_length [] (b ∷ bs) e = cc
spells_length (c ∷ cs) [] e = cc
spells_length (c ∷ cs) (b ∷ bs) e = let h = spells_length cs bs (right_of_and (c == to_ascii_uppercase b) _ e) in omega arith

pub other_length : (cs w : List ℕ) → length cs ≢ length w → false ≡ spells cs w
other_length cs w n = sym (false_from_ne_true (spells cs w) (λ e. n (spells_length cs w e)))

step : (c b : ℕ) (cs bs : List ℕ) → (c == to_ascii_uppercase b) ≡ true → spells (c ∷ cs) (b ∷ bs) ≡ spells cs bs
unfolding spells
step c b cs bs e = ap (λ v. v && spells cs bs) e

stop : (c b : ℕ) (cs bs : List ℕ) → (c == to_ascii_uppercase b) ≡ false → spells (c ∷ cs) (b ∷ bs) ≡ false
unfolding spells
stop c b cs bs e = ap (λ v. v && spells cs bs) e

parts : (cs : List ℕ) (i : ℕ) → i < length cs → drop i cs ≡ get_or cs i 0 ∷ drop (i + 1) cs
parts cs i h = rw (add-one, drop-cons cs i 0)

pub next_same : (cs w : List ℕ) (i : ℕ) → i < length cs → i < length w → get_or cs i 0 ≡ to_ascii_uppercase (get_or w i 0) → spells (drop i cs) (drop i w) ≡ spells (drop (i + 1) cs) (drop (i + 1) w)
next_same cs w i h l e =
    ap (λ x. spells x (drop i w)) (parts cs i h) ∙ ap (λ x. spells (get_or cs i 0 ∷ drop (i + 1) cs) x) (parts w i l)
    ∙ step (get_or cs i 0) (get_or w i 0) (drop (i + 1) cs) (drop (i + 1) w) (eq-eqb _ _ e)

pub next_other : (cs w : List ℕ) (i : ℕ) → i < length cs → i < length w → get_or cs i 0 ≢ to_ascii_uppercase (get_or w i 0) → spells (drop i cs) (drop i w) ≡ false
next_other cs w i h l e =
    ap (λ x. spells x (drop i w)) (parts cs i h) ∙ ap (λ x. spells (get_or cs i 0 ∷ drop (i + 1) cs) x) (parts w i l)
    ∙ stop (get_or cs i 0) (get_or w i 0) (drop (i + 1) cs) (drop (i + 1) w) (ne_eqb _ _ e)

drop_all : (xs : List ℕ) → drop (length xs) xs ≡ []
drop_all [] = refl
drop_all (x ∷ xs) = drop_all xs

nil : spells [] [] ≡ true
unfolding spells
nil = refl

pub all_same : (cs w : List ℕ) → length cs ≡ length w → spells (drop (length w) cs) (drop (length w) w) ≡ true
all_same cs w e =
    ap (λ n. spells (drop n cs) (drop (length w) w)) (sym e) ∙ ap (λ x. spells x (drop (length w) w)) (drop_all cs)
    ∙ ap (spells []) (drop_all w) ∙ nil

-- LOOKING UP
pub full_nil : (w : List ℕ) → spelled_in_full [] w ≡ None
unfolding spelled_in_full
full_nil w = refl

pub full_here : (k : TokenKind) (ks : List TokenKind) (w : List ℕ) → spells (capitals k) w ≡ true → spelled_in_full (k ∷ ks) w ≡ Some k
unfolding spelled_in_full
full_here k ks w e = cond-true (spells (capitals k) w) (Some k) _ e

pub full_later : (k : TokenKind) (ks : List TokenKind) (w : List ℕ) → spells (capitals k) w ≡ false → spelled_in_full (k ∷ ks) w ≡ spelled_in_full ks w
unfolding spelled_in_full
full_later k ks w e = cond-false (spells (capitals k) w) (Some k) _ e

pub short_nil : (w : List ℕ) → spelled_short [] w ≡ None
unfolding spelled_short
short_nil w = refl

pub short_here : (k : TokenKind) (ks : List TokenKind) (w : List ℕ) → spells (abbreviation k) w ≡ true → spelled_short (k ∷ ks) w ≡ Some k
unfolding spelled_short
short_here k ks w e = cond-true (spells (abbreviation k) w) (Some k) _ e

pub short_later : (k : TokenKind) (ks : List TokenKind) (w : List ℕ) → spells (abbreviation k) w ≡ false → spelled_short (k ∷ ks) w ≡ spelled_short ks w
unfolding spelled_short
short_later k ks w e = cond-false (spells (abbreviation k) w) (Some k) _ e

kinds_from : (ks : List TokenKind) (i : ℕ) (k : TokenKind) → i < length ks → drop i ks ≡ get_or ks i k ∷ drop (i + 1) ks
kinds_from ks i k h = rw (add-one, drop-cons ks i k)

pub full_found : (ks : List TokenKind) (i : ℕ) (d : TokenKind) (w : List ℕ) → i < length ks → spells (capitals (get_or ks i d)) w ≡ true → spelled_in_full (drop i ks) w ≡ Some (get_or ks i d)
full_found ks i d w h e = ap (λ x. spelled_in_full x w) (kinds_from ks i d h) ∙ full_here (get_or ks i d) (drop (i + 1) ks) w e

pub full_passed : (ks : List TokenKind) (i : ℕ) (d : TokenKind) (w : List ℕ) → i < length ks → spells (capitals (get_or ks i d)) w ≡ false → spelled_in_full (drop i ks) w ≡ spelled_in_full (drop (i + 1) ks) w
full_passed ks i d w h e = ap (λ x. spelled_in_full x w) (kinds_from ks i d h) ∙ full_later (get_or ks i d) (drop (i + 1) ks) w e

pub full_ends : (ks : List TokenKind) (i : ℕ) (w : List ℕ) → length ks ≤ i → spelled_in_full (drop i ks) w ≡ None
full_ends ks i w h = ap (λ x. spelled_in_full x w) (drop_of_length-le ks h) ∙ full_nil w

pub short_found : (ks : List TokenKind) (i : ℕ) (d : TokenKind) (w : List ℕ) → i < length ks → spells (abbreviation (get_or ks i d)) w ≡ true → spelled_short (drop i ks) w ≡ Some (get_or ks i d)
short_found ks i d w h e = ap (λ x. spelled_short x w) (kinds_from ks i d h) ∙ short_here (get_or ks i d) (drop (i + 1) ks) w e

pub short_passed : (ks : List TokenKind) (i : ℕ) (d : TokenKind) (w : List ℕ) → i < length ks → spells (abbreviation (get_or ks i d)) w ≡ false → spelled_short (drop i ks) w ≡ spelled_short (drop (i + 1) ks) w
short_passed ks i d w h e = ap (λ x. spelled_short x w) (kinds_from ks i d h) ∙ short_later (get_or ks i d) (drop (i + 1) ks) w e

pub short_ends : (ks : List TokenKind) (i : ℕ) (w : List ℕ) → length ks ≤ i → spelled_short (drop i ks) w ≡ None
short_ends ks i w h = ap (λ x. spelled_short x w) (drop_of_length-le ks h) ∙ short_nil w

pub all_so_far : (cs w : List ℕ) (i : ℕ) → length cs ≡ length w → length w ≡ i → spells (drop i cs) (drop i w) ≡ true
all_so_far cs w i e q = ap (λ n. spells (drop n cs) (drop n w)) (sym q) ∙ all_same cs w e
