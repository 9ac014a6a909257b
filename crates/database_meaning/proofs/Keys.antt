-- Lists of unique keys.
use Rattle.std.proofs.Common.{◌≡◌, ◌⊎◌, ℕ, Bool, true, false, cond, List, [], ◌∷◌, ◌++◌, refl, sym, ap, ◌∙◌, inl, inr, eqb, eqb-true}
use Rattle.std.proofs.lemmas.Bool.{and_parts, or_left, or_right, or_cases}
use Rattle.database_meaning.specs.declared.state.Key.{Key}
use Rattle.abl_values.specs.Masks.{same_bytes}
use Rattle.database_meaning.specs.Setting.{same_key, has_key, keys_without}

abbrev pub Has : List Key → Key → Type 0
Has ks k = has_key ks k ≡ true

same_bytes_eq : (xs ys : List ℕ) → same_bytes xs ys ≡ true → xs ≡ ys
same_bytes_eq [] [] e = refl
same_bytes_eq [] (y ∷ ys) e = cc
same_bytes_eq (x ∷ xs) [] e = cc
same_bytes_eq (x ∷ xs) (y ∷ ys) e =
    let p = and_parts (eqb x y) (same_bytes xs ys) e in
    let h : x ≡ y = eqb-true x y p.0 in
    let t : xs ≡ ys = same_bytes_eq xs ys p.1 in
    cc

pub same_key_eq : (a b : Key) → same_key a b ≡ true → a ≡ b
same_key_eq a b e =
    let p = and_parts (eqb a.table b.table) _ e in
    let q = and_parts (eqb a.index b.index) (same_bytes a.bytes b.bytes) p.1 in
    let t : a.table ≡ b.table = eqb-true _ _ p.0 in
    let i : a.index ≡ b.index = eqb-true _ _ q.0 in
    let s : a.bytes ≡ b.bytes = same_bytes_eq _ _ q.1 in
    λ z. record { table = t z; index = i z; bytes = s z }

pub has_left : (xs ys : List Key) (k : Key) → Has xs k → Has (xs ++ ys) k
has_left [] ys k h = cc
has_left (x ∷ xs) ys k h =
    elim (or_cases (same_key x k) (has_key xs k) h) [
      | inl e ↦ or_left (same_key x k) (has_key (xs ++ ys) k) e
      | inr e ↦ or_right (same_key x k) (has_key (xs ++ ys) k) (has_left xs ys k e)
    ]

pub has_right : (xs ys : List Key) (k : Key) → Has ys k → Has (xs ++ ys) k
has_right [] ys k h = h
has_right (x ∷ xs) ys k h = or_right (same_key x k) (has_key (xs ++ ys) k) (has_right xs ys k h)

pub has_cases : (xs ys : List Key) (k : Key) → Has (xs ++ ys) k → Has xs k ⊎ Has ys k
has_cases [] ys k h = inr h
has_cases (x ∷ xs) ys k h =
    elim (or_cases (same_key x k) (has_key (xs ++ ys) k) h) [
      | inl e ↦ inl (or_left (same_key x k) (has_key xs k) e)
      | inr e ↦ elim (has_cases xs ys k e) [
        | inl l ↦ inl (or_right (same_key x k) (has_key xs k) l)
        | inr r ↦ inr r
      ]
    ]

-- a key of the one list that the other lacks
without_step : (b : Bool) (x : Key) (rest : List Key) (k : Key) → Has rest k → Has (cond b rest (x ∷ rest)) k
without_step true x rest k h = h
without_step false x rest k h = or_right (same_key x k) (has_key rest k) h

without_here : (b : Bool) (x : Key) (rest : List Key) (k : Key) → b ≡ false → same_key x k ≡ true → Has (cond b rest (x ∷ rest)) k
without_here true x rest k e h = cc
without_here false x rest k e h = or_left (same_key x k) (has_key rest k) h

pub has_without : (xs lacks : List Key) (k : Key) → Has xs k → has_key lacks k ≡ false → Has (keys_without xs lacks) k
has_without [] lacks k h e = cc
has_without (x ∷ xs) lacks k h e =
    elim (or_cases (same_key x k) (has_key xs k) h) [
      | inl same ↦ without_here (has_key lacks x) x (keys_without xs lacks) k (ap (has_key lacks) (same_key_eq x k same) ∙ e) same
      | inr rest ↦ without_step (has_key lacks x) x (keys_without xs lacks) k (has_without xs lacks k rest e)
    ]

without_split : (b : Bool) (x : Key) (rest : List Key) (k : Key) → Has (cond b rest (x ∷ rest)) k → ((b ≡ false) × (same_key x k ≡ true)) ⊎ Has rest k
without_split true x rest k h = inr h
without_split false x rest k h =
    elim (or_cases (same_key x k) (has_key rest k) h) [ inl e ↦ inl (refl, e) | inr r ↦ inr r ]

pub without_cases : (xs lacks : List Key) (k : Key) → Has (keys_without xs lacks) k → Has xs k × (has_key lacks k ≡ false)
without_cases [] lacks k h = cc
without_cases (x ∷ xs) lacks k h =
    elim (without_split (has_key lacks x) x (keys_without xs lacks) k h) [
      | inl p ↦ (or_left (same_key x k) (has_key xs k) p.1, sym (ap (has_key lacks) (same_key_eq x k p.1)) ∙ p.0)
      | inr r ↦ let rest = without_cases xs lacks k r in (or_right (same_key x k) (has_key xs k) rest.0, rest.1)
    ]

pub has_one : (x k : Key) → Has (x ∷ []) k → x ≡ k
has_one x k h = elim (or_cases (same_key x k) false h) [ inl e ↦ same_key_eq x k e | inr e ↦ absurd (let clash : false ≡ true = e in cc) ]
