-- Values that targets get, one after another.
use Rattle.std.proofs.Common.{◌≡◌, ℕ, ◌+◌, ◌<◌, ◌≤◌, List, [], ◌∷◌, ◌++◌, length, drop, get_or, ap, sym, refl, ◌∙◌, append_assoc, arith, Option, Some, None, Result, Ok, Err}
use Rattle.std.proofs.lemmas.List.{drop_more, drop_all}
use Rattle.abl_base.specs.declared.value.Value.{Value}
use Rattle.abl_base.specs.declared.value.Kind.{Kind}
use Rattle.value_formats.specs.declared.element.Element.{Element}
use Rattle.value_formats.specs.Imports.{taken, next_value, value_before, values_from}

abbrev pub Found : Type 0
Found = Result (List (Option Value)) ℕ

-- prepends values to those found; an error is unchanged
abbrev pub with_front : List (Option Value) → Found → Found
with_front vs (Ok ws) = Ok (vs ++ ws)
with_front vs (Err number) = Err number

-- one more value prepended
pub front_more : (vs : List (Option Value)) (v : Option Value) (found : Found) → with_front (vs ++ v ∷ []) found ≡ with_front vs (value_before v found)
front_more vs v (Ok ws) = ap (λ (xs : List (Option Value)). Ok xs) (append_assoc vs (v ∷ []) ws)
front_more vs v (Err number) = refl

-- a good element
pub taken_more : (vs : List (Option Value)) (v : Option Value) (number : ℕ) (k : Option Kind) (ks : List (Option Kind)) (e : Element) (es : List Element) → taken k e ≡ Some v
    → with_front (vs ++ v ∷ []) (values_from (number + 1) ks es) ≡ with_front vs (values_from number (k ∷ ks) (e ∷ es))
taken_more vs v number k ks e es h =
    front_more vs v (values_from (number + 1) ks es)
    ∙ ap (λ (got : Option (Option Value)). with_front vs (next_value number got (values_from (number + 1) ks es))) (sym h)

-- the element at this index is a good one
pub good_more : (vs : List (Option Value)) (v : Option Value) (i : ℕ) (ks : List (Option Kind)) (es : List Element) (e : Element)
    → i < length ks → i < length es → e ≡ get_or es i e → taken (get_or ks i None) e ≡ Some v
    → with_front (vs ++ v ∷ []) (values_from (i + 1 + 1) (drop (i + 1) ks) (drop (i + 1) es)) ≡ with_front vs (values_from (i + 1) (drop i ks) (drop i es))
good_more vs v i ks es e hk he is h =
    taken_more vs v (i + 1) (get_or ks i None) (drop (i + 1) ks) e (drop (i + 1) es) h
    ∙ ap (λ (xs : List (Option Kind)). with_front vs (values_from (i + 1) xs (e ∷ drop (i + 1) es))) (sym (drop_more ks i None hk))
    ∙ ap (λ (ys : List Element). with_front vs (values_from (i + 1) (drop i ks) ys)) (ap (λ (x : Element). x ∷ drop (i + 1) es) is ∙ sym (drop_more es i e he))

-- no element has this index
pub missing_more : (vs : List (Option Value)) (i : ℕ) (ks : List (Option Kind)) (es : List Element) → i < length ks → length es ≤ i
    → with_front (vs ++ None ∷ []) (values_from (i + 1 + 1) (drop (i + 1) ks) (drop (i + 1) es)) ≡ with_front vs (values_from (i + 1) (drop i ks) (drop i es))
missing_more vs i ks es hk he =
    front_more vs None (values_from (i + 1 + 1) (drop (i + 1) ks) (drop (i + 1) es))
    ∙ ap (λ (ys : List Element). with_front vs (value_before None (values_from (i + 1 + 1) (drop (i + 1) ks) ys))) (drop_all (i + 1) es (omega arith))
    ∙ ap (λ (xs : List (Option Kind)). with_front vs (values_from (i + 1) xs [])) (sym (drop_more ks i None hk))
    ∙ ap (λ (ys : List Element). with_front vs (values_from (i + 1) (drop i ks) ys)) (sym (drop_all i es he))
