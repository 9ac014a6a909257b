-- The buffers of a procedure in the order of their first namings: each naming has the number of a buffer of the table that it names.
use Rattle.std.proofs.Common.{◌≡◌, ℕ, Bool, true, false, List, [], ◌∷◌, ◌++◌, Option, Some, None, map, zero, suc, refl, sym, ap, subst, ◌∙◌}
use Rattle.std.specs.Prelude.{◌||◌, if◌then◌else◌, cond, slice_get, unwrap_or}
use Rattle.std.specs.List.{filter, list_any}
use Rattle.std.specs.Option.{option_map}
use Rattle.abl_values.specs.declared.schema.TableDef.{TableDef}
use Rattle.abl_values.specs.Schema.{SchemaData, number_of_name, same_name, table_at, no_table}
use Rattle.bound_tree.specs.declared.procedure.BufferDef.{BufferDef}
use Rattle.bind_names.specs.declared.names.NamedBuffer.{NamedBuffer}
use Rattle.bind_names.specs.declared.names.Naming.{Naming}
use Rattle.bind_names.specs.Names.{distinct, from, has_name}
use Rattle.binder.specs.Sources.{buffer_def}
use Rattle.kind_laws.proofs.BoundKindsLemmas.Parts.{Each, each_join}
use Rattle.kind_laws.proofs.BoundKindsLemmas.Apart.{IsAt, by_index, first_has, first_named, index, indexed, name_self, names_of, resolved_alike}

-- ---- lists

pub each_filter : {A : Type 0} (P : A → Type 0) (test : A → Bool) (xs : List A) → Each P xs → Each P (filter test xs)
each_filter P test [] h = tt
each_filter P test (x ∷ xs) h = go (test x) h.0 (each_filter P test xs h.1)
  where
    go : (c : Bool) → P x → Each P (filter test xs) → Each P (cond c (x ∷ filter test xs) (filter test xs))
    go true a h = (a, h)
    go false a h = h

-- what holds of those that pass
pub each_passing : {A : Type 0} (P : A → Type 0) (test : A → Bool) (xs : List A) → Each (λ x. test x ≡ true → P x) xs → Each P (filter test xs)
each_passing P test [] h = tt
each_passing P test (x ∷ xs) h = go (test x) h.0 (each_passing P test xs h.1)
  where
    go : (c : Bool) → (c ≡ true → P x) → Each P (filter test xs) → Each P (cond c (x ∷ filter test xs) (filter test xs))
    go true a h = (a refl, h)
    go false a h = h

-- each naming as the buffer that it names
abbrev pub AllNamed : (List ℕ → ℕ → Type 0) → List NamedBuffer → Type 0
AllNamed P = Each (λ x. P x.name x.table)

pub each_distinct : (P : List ℕ → ℕ → Type 0) (so_far : List NamedBuffer) (ns : List Naming) → AllNamed P so_far → Each (λ n. P n.name n.table) ns → AllNamed P (distinct so_far ns)
each_distinct P so_far [] g h = g
each_distinct P so_far (n ∷ ns) g h = each_distinct P (if list_any (has_name n.name) so_far then so_far else so_far ++ record { name = n.name; table = n.table } ∷ []) ns (go (list_any (has_name n.name) so_far)) h.1
  where
    go : (c : Bool) → AllNamed P (if c then so_far else so_far ++ record { name = n.name; table = n.table } ∷ [])
    go true = g
    go false = each_join (λ x. P x.name x.table) so_far (record { name = n.name; table = n.table } ∷ []) g (h.0, tt)

any_left : (test : NamedBuffer → Bool) (xs ys : List NamedBuffer) → list_any test xs ≡ true → list_any test (xs ++ ys) ≡ true
any_left test [] ys h = absurd cc
any_left test (x ∷ xs) ys h = go (test x) (any_left test xs ys) h
  where
    go : (c : Bool) → (list_any test xs ≡ true → list_any test (xs ++ ys) ≡ true) → (c || list_any test xs) ≡ true → (c || list_any test (xs ++ ys)) ≡ true
    go true r h = refl
    go false r h = r h

any_last : (test : NamedBuffer → Bool) (xs : List NamedBuffer) (x : NamedBuffer) → test x ≡ true → list_any test (xs ++ x ∷ []) ≡ true
any_last test [] x h = ap (λ c. c || false) h
any_last test (y ∷ ys) x h = go (test y) (any_last test ys x h)
  where
    go : (c : Bool) → list_any test (ys ++ x ∷ []) ≡ true → (c || list_any test (ys ++ x ∷ [])) ≡ true
    go true h = refl
    go false h = h

any_stays : (test : NamedBuffer → Bool) (so_far : List NamedBuffer) (ns : List Naming) → list_any test so_far ≡ true → list_any test (distinct so_far ns) ≡ true
any_stays test so_far [] h = h
any_stays test so_far (n ∷ ns) h = any_stays test (if list_any (has_name n.name) so_far then so_far else so_far ++ record { name = n.name; table = n.table } ∷ []) ns (go (list_any (has_name n.name) so_far))
  where
    go : (c : Bool) → list_any test (if c then so_far else so_far ++ record { name = n.name; table = n.table } ∷ []) ≡ true
    go true = h
    go false = any_left test so_far _ h

-- each naming that passes is the naming of one of the buffers
here : (n : Naming) (so_far : List NamedBuffer) (c : Bool) → list_any (has_name n.name) so_far ≡ c → list_any (has_name n.name) (if c then so_far else so_far ++ record { name = n.name; table = n.table } ∷ []) ≡ true
here n so_far true e = e
here n so_far false e = any_last (has_name n.name) so_far (record { name = n.name; table = n.table }) (name_self n.name)

abbrev AreThere : (Naming → Bool) → List NamedBuffer → List Naming → List Naming → Type 0
AreThere test so_far passing = Each (λ n. test n ≡ true → list_any (has_name n.name) (distinct so_far passing) ≡ true)

pub has_all : (test : Naming → Bool) (so_far : List NamedBuffer) (ns : List Naming) → AreThere test so_far (filter test ns) ns
has_all test so_far [] = tt
has_all test so_far (n ∷ ns) = go (test n) refl (λ others. has_all test others ns)
  where
    go : (c : Bool) → test n ≡ c → ((others : List NamedBuffer) → AreThere test others (filter test ns) ns) → AreThere test so_far (cond c (n ∷ filter test ns) (filter test ns)) (n ∷ ns)
    go true e r = (λ _. any_stays (has_name n.name) (if list_any (has_name n.name) so_far then so_far else so_far ++ record { name = n.name; table = n.table } ∷ []) (filter test ns) (here n so_far (list_any (has_name n.name) so_far) refl), r (if list_any (has_name n.name) so_far then so_far else so_far ++ record { name = n.name; table = n.table } ∷ []))
    go false e r = (λ f. absurd cc, r so_far)

-- ---- numbers

pub record IsFirst (xs : List NamedBuffer) (name : List ℕ) : Type 0 where
  pub buffer : NamedBuffer
  pub is : first_named xs name ≡ Some buffer

pub any_is_first : (xs : List NamedBuffer) (name : List ℕ) → list_any (has_name name) xs ≡ true → IsFirst xs name
any_is_first [] name h = absurd cc
any_is_first (x ∷ xs) name h = go (same_name x.name name) refl (any_is_first xs name) h
  where
    go : (c : Bool) → same_name x.name name ≡ c → (list_any (has_name name) xs ≡ true → IsFirst xs name) → (c || list_any (has_name name) xs) ≡ true → IsFirst (x ∷ xs) name
    go true e r h = record { buffer = x; is = ap (λ c. if c then Some x else first_named xs name) e }
    go false e r h = let it = r h in record { buffer = it.buffer; is = ap (λ c. if c then Some x else first_named xs name) e ∙ it.is }

each_first : (P : NamedBuffer → Type 0) (xs : List NamedBuffer) (name : List ℕ) (x : NamedBuffer) → Each P xs → first_named xs name ≡ Some x → P x
each_first P [] name x h e = absurd cc
each_first P (y ∷ ys) name x h e = go (same_name y.name name) (each_first P ys name x h.1) e
  where
    go : (c : Bool) → (first_named ys name ≡ Some x → P x) → (if c then Some y else first_named ys name) ≡ Some x → P x
    go true r e = let at : y ≡ x = cc in subst P at h.0
    go false r e = r e

get_map : (xs : List NamedBuffer) (i : ℕ) → slice_get (map buffer_def xs) i ≡ option_map buffer_def (slice_get xs i)
get_map [] i = refl
get_map (x ∷ xs) zero = refl
get_map (x ∷ xs) (suc i) = get_map xs i

-- the table of the buffer of this number
abbrev pub table_in : SchemaData → List BufferDef → ℕ → TableDef
table_in s bs i = elim (slice_get bs i) as (λ _. TableDef) [ None ↦ no_table | Some d ↦ table_at s d.table ]

abbrev pub number_in : List NamedBuffer → List ℕ → ℕ
number_in xs name = unwrap_or (number_of_name 0 (names_of xs) name) 0

numbered : (s : SchemaData) (xs : List NamedBuffer) (o : Option ℕ) (x : NamedBuffer) → from o (slice_get xs) ≡ Some x → table_in s (map buffer_def xs) (unwrap_or o 0) ≡ table_at s x.table
numbered s xs None x e = absurd cc
numbered s xs (Some i) x e =
    let there : slice_get (map buffer_def xs) i ≡ Some (buffer_def x) = get_map xs i ∙ ap (option_map buffer_def) e in
    ap (λ (o : Option BufferDef). elim o as (λ _. TableDef) [ None ↦ no_table | Some d ↦ table_at s d.table ]) there

-- the name has the number of a buffer of this table, where these are the buffers
pub number_is : (s : SchemaData) (ds xs : List NamedBuffer) (name : List ℕ) (table : ℕ) → AllNamed (IsAt s ds) xs → IsAt s ds name table → list_any (has_name name) xs ≡ true →
    table_in s (map buffer_def xs) (number_in xs name) ≡ table_at s table
number_is s ds xs name table all at h =
    let it = any_is_first xs name h in
    let its : IsAt s ds it.buffer.name it.buffer.table = each_first (λ x. IsAt s ds x.name x.table) xs name it.buffer all it.is in
    let same : Some it.buffer.table ≡ Some table = sym its.is ∙ ap (option_map (λ (y : NamedBuffer). y.table)) (resolved_alike s ds it.buffer.name name (first_has xs name it.buffer it.is)) ∙ at.is in
    let tables : it.buffer.table ≡ table = cc in
    ap (λ o. table_in s (map buffer_def xs) (unwrap_or o 0)) (indexed (names_of xs) name)
    ∙ numbered s xs (index (names_of xs) name) it.buffer (by_index xs name ∙ it.is) ∙ ap (table_at s) tables
