-- Phrases and options that repeat one before them, over the list as the code goes over it.
use Rattle.std.proofs.Common.{◌≡◌, ℕ, suc, ◌+◌, ◌<◌, List, [], ◌∷◌, ◌++◌, true, false, length, get_or, take, drop, refl, sym, ap, ◌∙◌, add-one}
use Rattle.std.specs.Prelude.{map, if◌then◌else◌}
use Rattle.std.proofs.Math.Seq.{drop-cons, take-suc}
use Rattle.abl_base.specs.declared.place.Place.{Place}
use Rattle.abl_base.specs.declared.rule.Rule.TheVariants.{U6}
use Rattle.bind_names.specs.Judged.{at}
use Rattle.syntax_tree.specs.declared.block.Phrase.{Phrase}
use Rattle.syntax_tree.specs.declared.record.RecordOption.{RecordOption}
use Rattle.syntax_tree.specs.Typed.{phrase_of, record_option_of}
use Rattle.block_rules.specs.Options.{Marked, is_one_of, of_option, of_phrase, repeats, repeats_after}
use Rattle.block_rules.specs.Classes.{classes, mark_of_option, mark_of_phrase}

map_twice : {A B C : Type 0} (f : A → B) (g : B → C) (xs : List A) → map g (map f xs) ≡ map (λ x. g (f x)) xs
map_twice f g [] = refl
map_twice f g (x ∷ xs) = ap (λ ys. g (f x) ∷ ys) (map_twice f g xs)

pub marks_of_phrases : (ps : List Phrase) → repeats (map of_phrase (map phrase_of ps)) ≡ repeats (map mark_of_phrase ps)
marks_of_phrases ps = ap repeats (map_twice phrase_of of_phrase ps)

pub marks_of_options : (os : List RecordOption) → repeats (map of_option (map record_option_of os)) ≡ repeats (map mark_of_option os)
marks_of_options os = ap repeats (map_twice record_option_of of_option os)

classes_snoc : {A : Type 0} (f : A → Marked) (xs : List A) (x : A) → classes (map f (xs ++ x ∷ [])) ≡ classes (map f xs) ++ (f x).class ∷ []
classes_snoc f [] x = refl
classes_snoc f (y ∷ ys) x = ap (λ cs. (f y).class ∷ cs) (classes_snoc f ys x)

classes_more : {A : Type 0} (f : A → Marked) (xs : List A) (i : ℕ) (x : A) → i < length xs → x ≡ get_or xs i x → classes (map f (take (i + 1) xs)) ≡ classes (map f (take i xs)) ++ (f x).class ∷ []
classes_more {A = A} f xs i x below is =
    ap (λ j. classes (map f (take j xs))) (add-one i)
    ∙ ap (λ ys. classes (map f ys)) (take-suc xs i x below)
    ∙ ap (λ (y : A). classes (map f (take i xs ++ y ∷ []))) (sym is)
    ∙ classes_snoc f (take i xs) x

-- what is left to look at begins with the next one
left : {A : Type 0} (f : A → Marked) (xs : List A) (i : ℕ) (x : A) → i < length xs → x ≡ get_or xs i x → map f (drop i xs) ≡ f x ∷ map f (drop (i + 1) xs)
left {A = A} f xs i x below is =
    ap (λ ys. map f ys) (drop-cons xs i x below)
    ∙ ap (λ (y : A). f y ∷ map f (drop (suc i) xs)) (sym is)
    ∙ ap (λ j. f x ∷ map f (drop j xs)) (sym (add-one i))

-- the next one is none of those before it
pub not_repeated :
    {A : Type 0} (f : A → Marked) (xs : List A) (i : ℕ) (x : A) (class : ℕ) → i < length xs → x ≡ get_or xs i x → class ≡ (f x).class →
    is_one_of (classes (map f (take i xs))) class ≡ false →
    repeats_after (classes (map f (take i xs))) (map f (drop i xs)) ≡ repeats_after (classes (map f (take (i + 1) xs))) (map f (drop (i + 1) xs))
not_repeated f xs i x class below is same new =
    ap (λ ms. repeats_after (classes (map f (take i xs))) ms) (left f xs i x below is)
    ∙ ap (λ b. if b then at U6 (f x).place else repeats_after (classes (map f (take i xs)) ++ (f x).class ∷ []) (map f (drop (i + 1) xs)))
    (ap (λ c. is_one_of (classes (map f (take i xs))) c) (sym same) ∙ new)
    ∙ ap (λ cs. repeats_after cs (map f (drop (i + 1) xs))) (sym (classes_more f xs i x below is))

-- the next one is
pub repeated :
    {A : Type 0} (f : A → Marked) (xs : List A) (i : ℕ) (x : A) (class : ℕ) (place : Place) → i < length xs → x ≡ get_or xs i x → class ≡ (f x).class → place ≡ (f x).place →
    is_one_of (classes (map f (take i xs))) class ≡ true →
    repeats_after (classes (map f (take i xs))) (map f (drop i xs)) ≡ at U6 place
repeated f xs i x class place below is same spot old =
    ap (λ ms. repeats_after (classes (map f (take i xs))) ms) (left f xs i x below is)
    ∙ ap (λ b. if b then at U6 (f x).place else repeats_after (classes (map f (take i xs)) ++ (f x).class ∷ []) (map f (drop (i + 1) xs)))
    (ap (λ c. is_one_of (classes (map f (take i xs))) c) (sym same) ∙ old)
    ∙ ap (λ p. at U6 p) (sym spot)

-- none is left
pub none_repeated : {A : Type 0} (f : A → Marked) (xs : List A) (i : ℕ) → repeats_after (classes (map f (take i xs))) (map f []) ≡ []
none_repeated f xs i = refl
