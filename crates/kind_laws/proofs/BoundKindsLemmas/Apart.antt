-- The buffers that a procedure defines have names of their own: a name means the same buffer from its definition to the end.
use Rattle.std.proofs.Common.{◌≡◌, ℕ, ◌+◌, Bool, true, false, List, [], ◌∷◌, ◌++◌, Option, Some, None, map, suc, refl, sym, ap, subst, ◌∙◌, arith, append_assoc, append-nil}
use Rattle.std.specs.Prelude.{◌||◌, ◌==◌, not, if◌then◌else◌, slice_get, slice_index_or}
use Rattle.std.specs.Option.{is_some, option_map}
use Rattle.std.proofs.lemmas.Bool.Decides.{nat_tests}
use Rattle.abl_values.specs.declared.schema.TableDef.{TableDef}
use Rattle.abl_values.specs.Masks.{same_bytes}
use Rattle.abl_values.specs.Order.{folded}
use Rattle.abl_values.specs.Schema.{SchemaData, name_of, no_table, number_of_name, same_name, table_named, table_names}
use Rattle.syntax_tree.specs.Syntax as s
use Rattle.syntax_tree.specs.Syntax.{Statement, Statements}
use Rattle.syntax_tree.specs.declared.name.Word.{Word}
use Rattle.bind_names.specs.declared.names.NamedBuffer.{NamedBuffer}
use Rattle.bind_names.specs.Names.{Scene, buffer_named, buffer_of_table, from, or_else}
use Rattle.bind_expressions.specs.Expressions.{condition}
use Rattle.bind_expressions.specs.Parts.{scene_after}
use Rattle.bind_statements.specs.Definitions.{buffer_for, define, is_taken}
use Rattle.bind_statements.specs.Runs.{run_numbered}
use Rattle.bind_blocks.specs.Headers.{head, inside}
use Rattle.binder.specs.Statements.{statement, statements}
use Rattle.kind_laws.proofs.BoundKindsLemmas.Parts.{equal, holds, nil_left, nil_right, both_left, both_right}
use Rattle.kind_laws.proofs.BoundKindsLemmas.Grows.{IsMore}

-- ---- names

same_is : (xs ys : List ℕ) → same_bytes xs ys ≡ true → xs ≡ ys
same_is [] [] h = refl
same_is [] (y ∷ ys) h = absurd cc
same_is (x ∷ xs) [] h = absurd cc
same_is (x ∷ xs) (y ∷ ys) h =
    let e : x ≡ y = equal x y (both_left (x == y) _ h) in
    let f : xs ≡ ys = same_is xs ys (both_right (x == y) _ h) in
    cc

equal_self : (n : ℕ) → (n == n) ≡ true
equal_self n = grind (arith, nat_tests)

same_self : (xs : List ℕ) → same_bytes xs xs ≡ true
same_self [] = refl
same_self (x ∷ xs) = rw (equal_self x) (same_self xs)

pub name_self : (a : List ℕ) → same_name a a ≡ true
name_self a = same_self (folded a)

alike : (a b c : List ℕ) → same_name a b ≡ true → same_name c a ≡ same_name c b
alike a b c h = ap (same_bytes (folded c)) (same_is (folded a) (folded b) h)

pub name_sym : (a b : List ℕ) → same_name a b ≡ true → same_name b a ≡ true
name_sym a b h = alike a b b h ∙ name_self b

-- ---- the first of several names

abbrev pub index : List (List ℕ) → List ℕ → Option ℕ
index [] name = None
index (x ∷ xs) name = if same_name x name then Some 0 else option_map suc (index xs name)

counted : (k : ℕ) (xs : List (List ℕ)) (name : List ℕ) → number_of_name k xs name ≡ option_map (λ i. k + i) (index xs name)
counted k [] name = refl
counted k (x ∷ xs) name = go (same_name x name) (counted (k + 1) xs name)
  where
    here : k ≡ k + 0
    here = omega arith

    there : (i : ℕ) → k + 1 + i ≡ k + suc i
    there i = omega arith

    shift : (o : Option ℕ) → option_map (λ i. k + 1 + i) o ≡ option_map (λ i. k + i) (option_map suc o)
    shift None = refl
    shift (Some i) = ap Some (there i)

    go : (c : Bool) → number_of_name (k + 1) xs name ≡ option_map (λ i. k + 1 + i) (index xs name) →
        (if c then Some k else number_of_name (k + 1) xs name) ≡ option_map (λ i. k + i) (if c then Some 0 else option_map suc (index xs name))
    go true h = ap Some here
    go false h = h ∙ shift (index xs name)

pub indexed : (xs : List (List ℕ)) (name : List ℕ) → number_of_name 0 xs name ≡ index xs name
indexed xs name = counted 0 xs name ∙ none (index xs name)
  where
    from_zero : (i : ℕ) → 0 + i ≡ i
    from_zero i = omega arith

    none : (o : Option ℕ) → option_map (λ i. 0 + i) o ≡ o
    none None = refl
    none (Some i) = ap Some (from_zero i)

index_alike : (xs : List (List ℕ)) (a b : List ℕ) → same_name a b ≡ true → index xs a ≡ index xs b
index_alike [] a b h = refl
index_alike (x ∷ xs) a b h =
    ap (λ c. if c then Some 0 else option_map suc (index xs a)) (alike a b x h) ∙ ap (λ o. if same_name x b then Some 0 else option_map suc o) (index_alike xs a b h)

-- ---- tables

table_alike : (s : SchemaData) (a b : List ℕ) → same_name a b ≡ true → table_named s a ≡ table_named s b
unfolding table_named
table_alike s a b h = indexed (table_names s.tables) a ∙ index_alike (table_names s.tables) a b h ∙ sym (indexed (table_names s.tables) b)

has_name_at : (ts : List TableDef) (name : List ℕ) (t : ℕ) → index (table_names ts) name ≡ Some t → same_name (slice_index_or ts t no_table).name name ≡ true
has_name_at [] name t e = absurd cc
has_name_at (d ∷ ds) name t e = go (same_name d.name name) (has_name_at ds name) refl e
  where
    next : (o : Option ℕ) → ((i : ℕ) → o ≡ Some i → same_name (slice_index_or ds i no_table).name name ≡ true) → option_map suc o ≡ Some t → same_name (slice_index_or (d ∷ ds) t no_table).name name ≡ true
    next None h e = absurd cc
    next (Some i) h e = let at : t ≡ suc i = cc in subst (λ j. same_name (slice_index_or (d ∷ ds) j no_table).name name ≡ true) (sym at) (h i refl)

    go : (c : Bool) → ((i : ℕ) → index (table_names ds) name ≡ Some i → same_name (slice_index_or ds i no_table).name name ≡ true) → same_name d.name name ≡ c → (if c then Some 0 else option_map suc (index (table_names ds) name)) ≡ Some t →
        same_name (slice_index_or (d ∷ ds) t no_table).name name ≡ true
    go true r h e = let at : t ≡ 0 = cc in subst (λ j. same_name (slice_index_or (d ∷ ds) j no_table).name name ≡ true) (sym at) h
    go false r h e = next (index (table_names ds) name) r e

table_has_name : (s : SchemaData) (name : List ℕ) (t : ℕ) → table_named s name ≡ Some t → same_name (name_of s t) name ≡ true
unfolding table_named
table_has_name s name t e = has_name_at s.tables name t (sym (indexed (table_names s.tables) name) ∙ e)

-- ---- buffers

abbrev pub names_of : List NamedBuffer → List (List ℕ)
names_of = map (λ x. x.name)

abbrev pub first_named : List NamedBuffer → List ℕ → Option NamedBuffer
first_named [] name = None
first_named (x ∷ xs) name = if same_name x.name name then Some x else first_named xs name

pub by_index : (xs : List NamedBuffer) (name : List ℕ) → from (index (names_of xs) name) (slice_get xs) ≡ first_named xs name
by_index [] name = refl
by_index (x ∷ xs) name = go (same_name x.name name) (by_index xs name)
  where
    next : (o : Option ℕ) → from (option_map suc o) (slice_get (x ∷ xs)) ≡ from o (slice_get xs)
    next None = refl
    next (Some i) = refl

    go : (c : Bool) → from (index (names_of xs) name) (slice_get xs) ≡ first_named xs name → from (if c then Some 0 else option_map suc (index (names_of xs) name)) (slice_get (x ∷ xs)) ≡ (if c then Some x else first_named xs name)
    go true h = refl
    go false h = next (index (names_of xs) name) ∙ h

first_alike : (xs : List NamedBuffer) (a b : List ℕ) → same_name a b ≡ true → first_named xs a ≡ first_named xs b
first_alike [] a b h = refl
first_alike (x ∷ xs) a b h = ap (λ c. if c then Some x else first_named xs a) (alike a b x.name h) ∙ ap (λ o. if same_name x.name b then Some x else o) (first_alike xs a b h)

pub first_has : (xs : List NamedBuffer) (name : List ℕ) (x : NamedBuffer) → first_named xs name ≡ Some x → same_name x.name name ≡ true
first_has [] name x e = absurd cc
first_has (y ∷ ys) name x e = go (same_name y.name name) (first_has ys name x) refl e
  where
    go : (c : Bool) → (first_named ys name ≡ Some x → same_name x.name name ≡ true) → same_name y.name name ≡ c → (if c then Some y else first_named ys name) ≡ Some x → same_name x.name name ≡ true
    go true r h e = let at : y ≡ x = cc in subst (λ (z : NamedBuffer). same_name z.name name ≡ true) at h
    go false r h e = r e

first_more : (xs ys : List NamedBuffer) (name : List ℕ) (x : NamedBuffer) → first_named xs name ≡ Some x → first_named (xs ++ ys) name ≡ Some x
first_more [] ys name x e = absurd cc
first_more (z ∷ xs) ys name x e = go (same_name z.name name) (first_more xs ys name x) e
  where
    go : (c : Bool) → (first_named xs name ≡ Some x → first_named (xs ++ ys) name ≡ Some x) → (if c then Some z else first_named xs name) ≡ Some x → (if c then Some z else first_named (xs ++ ys) name) ≡ Some x
    go true r e = e
    go false r e = r e

first_here : (xs ys : List NamedBuffer) (name : List ℕ) (x : NamedBuffer) → first_named xs name ≡ None → same_name x.name name ≡ true → first_named (xs ++ x ∷ ys) name ≡ Some x
first_here [] ys name x e h = ap (λ c. if c then Some x else first_named ys name) h
first_here (z ∷ xs) ys name x e h = go (same_name z.name name) (λ f. first_here xs ys name x f h) e
  where
    go : (c : Bool) → (first_named xs name ≡ None → first_named (xs ++ x ∷ ys) name ≡ Some x) → (if c then Some z else first_named xs name) ≡ None → (if c then Some z else first_named (xs ++ x ∷ ys) name) ≡ Some x
    go true r e = absurd cc
    go false r e = r e

-- ---- what a name means at the end

-- the buffer of this name, where these are defined
abbrev pub resolved : SchemaData → List NamedBuffer → List ℕ → Option NamedBuffer
resolved s xs name = or_else (first_named xs name) (option_map (buffer_of_table s) (table_named s name))

pub buffer_is : (w : Scene) (name : List ℕ) → buffer_named w name ≡ resolved w.context.schema w.known.own.buffers name
buffer_is w name =
    ap (λ o. or_else o (option_map (buffer_of_table w.context.schema) (table_named w.context.schema name)))
    (ap (λ o. from o (slice_get w.known.own.buffers)) (indexed (names_of w.known.own.buffers) name) ∙ by_index w.known.own.buffers name)

pub resolved_alike : (s : SchemaData) (xs : List NamedBuffer) (a b : List ℕ) → same_name a b ≡ true → resolved s xs a ≡ resolved s xs b
resolved_alike s xs a b h =
    ap (λ o. or_else o (option_map (buffer_of_table s) (table_named s a))) (first_alike xs a b h)
    ∙ ap (λ o. or_else (first_named xs b) (option_map (buffer_of_table s) o)) (table_alike s a b h)

-- the name is that of a buffer of this table
pub record IsAt (s : SchemaData) (xs : List NamedBuffer) (name : List ℕ) (table : ℕ) : Type 0 where
  pub is : option_map (λ (x : NamedBuffer). x.table) (resolved s xs name) ≡ Some table

-- each name is no table's, and none that one before has
abbrev pub Apart : SchemaData → List NamedBuffer → List NamedBuffer → Type 0
Apart s before [] = Unit {0}
Apart s before (x ∷ xs) = (first_named before x.name ≡ None) × (table_named s x.name ≡ None) × Apart s (before ++ x ∷ []) xs

no_table_has : (s : SchemaData) (before xs : List NamedBuffer) (name : List ℕ) (x : NamedBuffer) → Apart s before xs → first_named xs name ≡ Some x → table_named s x.name ≡ None
no_table_has s before [] name x h e = absurd cc
no_table_has s before (y ∷ ys) name x h e = go (same_name y.name name) (no_table_has s (before ++ y ∷ []) ys name x h.2) e
  where
    go : (c : Bool) → (first_named ys name ≡ Some x → table_named s x.name ≡ None) → (if c then Some y else first_named ys name) ≡ Some x → table_named s x.name ≡ None
    go true r e = let at : y ≡ x = cc in subst (λ (z : NamedBuffer). table_named s z.name ≡ None) at h.1
    go false r e = r e

apart_at : (s : SchemaData) (before xs more : List NamedBuffer) (x : NamedBuffer) → Apart s before (xs ++ x ∷ more) → first_named (before ++ xs) x.name ≡ None
apart_at s before [] more x h = subst (λ l. first_named l x.name ≡ None) (sym (append-nil before)) h.0
apart_at s before (y ∷ xs) more x h = subst (λ l. first_named l x.name ≡ None) (append_assoc before (y ∷ []) xs) (apart_at s (before ++ y ∷ []) xs more x h.2)

apart_more : (s : SchemaData) (before xs : List NamedBuffer) (x : NamedBuffer) → Apart s before xs → first_named (before ++ xs) x.name ≡ None → table_named s x.name ≡ None → Apart s before (xs ++ x ∷ [])
apart_more s before [] x h e t = (subst (λ l. first_named l x.name ≡ None) (append-nil before) e, t, tt)
apart_more s before (y ∷ xs) x h e t = (h.0, h.1, apart_more s (before ++ y ∷ []) xs x h.2 (subst (λ l. first_named l x.name ≡ None) (sym (append_assoc before (y ∷ []) xs)) e) t)

-- a buffer that a name means at a place is the one that its own name means at the end
pub at_end : (s : SchemaData) (xs ys : List NamedBuffer) (name : List ℕ) (x : NamedBuffer) → IsMore xs ys → Apart s [] ys → resolved s xs name ≡ Some x → IsAt s ys x.name x.table
at_end s xs ys name x m h e = go (first_named xs name) refl e
  where
    defined : (z : NamedBuffer) → first_named xs name ≡ Some z → z ≡ x → IsAt s ys x.name x.table
    defined z f at =
        let there : first_named ys name ≡ Some z = ap (λ l. first_named l name) m.is ∙ first_more xs m.added name z f in
        let same : same_name x.name name ≡ true = subst (λ (y : NamedBuffer). same_name y.name name ≡ true) at (first_has xs name z f) in
        let found : resolved s ys name ≡ Some x = ap (λ o. or_else o (option_map (buffer_of_table s) (table_named s name))) there ∙ ap Some at in
        record { is = ap (option_map (λ (y : NamedBuffer). y.table)) (resolved_alike s ys x.name name same ∙ found) }

    table : (o : Option ℕ) → table_named s name ≡ o → option_map (buffer_of_table s) o ≡ Some x → IsAt s ys x.name x.table
    table None t e = absurd cc
    table (Some t) is e =
        let at : buffer_of_table s t ≡ x = cc in
        let named : same_name x.name name ≡ true = subst (λ (y : NamedBuffer). same_name y.name name ≡ true) at (table_has_name s name t is) in
        let none : first_named ys name ≡ None = undefined (first_named ys name) refl in
        let found : resolved s ys name ≡ Some x = ap (λ o. or_else o (option_map (buffer_of_table s) (table_named s name))) none ∙ ap (option_map (buffer_of_table s)) is ∙ ap Some at in
        record { is = ap (option_map (λ (y : NamedBuffer). y.table)) (resolved_alike s ys x.name name named ∙ found) }
      where
        undefined : (o : Option NamedBuffer) → first_named ys name ≡ o → first_named ys name ≡ None
        undefined None f = f
        undefined (Some z) f =
            let free : table_named s z.name ≡ None = no_table_has s [] ys name z h f in
            let taken : table_named s z.name ≡ Some t = table_alike s z.name name (first_has ys name z f) ∙ is in
            absurd cc

    go : (o : Option NamedBuffer) → first_named xs name ≡ o → or_else o (option_map (buffer_of_table s) (table_named s name)) ≡ Some x → IsAt s ys x.name x.table
    go (Some z) f e = let at : z ≡ x = cc in defined z f at
    go None f e = table (table_named s name) refl e

-- a buffer that is defined is the one that its name means at the end
pub defined_at_end : (s : SchemaData) (xs ys : List NamedBuffer) (x : NamedBuffer) → IsMore (xs ++ x ∷ []) ys → Apart s [] ys → IsAt s ys x.name x.table
defined_at_end s xs ys x m h =
    let whole : ys ≡ xs ++ x ∷ m.added = m.is ∙ append_assoc xs (x ∷ []) m.added in
    let free : first_named xs x.name ≡ None = apart_at s [] xs m.added x (subst (Apart s []) whole h) in
    let there : first_named ys x.name ≡ Some x = ap (λ l. first_named l x.name) whole ∙ first_here xs m.added x.name x free (name_self x.name) in
    record { is = ap (λ o. option_map (λ (y : NamedBuffer). y.table) (or_else o (option_map (buffer_of_table s) (table_named s x.name)))) there }

-- ---- statements

not_some : {A : Type 0} (o : Option A) → is_some o ≡ false → o ≡ None
not_some None e = refl
not_some (Some a) e = absurd cc

not_either_left : (p q : Bool) → not (p || q) ≡ true → p ≡ false
not_either_left true q e = absurd cc
not_either_left false q e = refl

not_either_right : (p q : Bool) → not (p || q) ≡ true → q ≡ false
not_either_right true q e = absurd cc
not_either_right false true e = absurd cc
not_either_right false false e = refl

or_right : (p q : Bool) → (p || q) ≡ false → q ≡ false
or_right true q e = absurd cc
or_right false q e = e

or_left : (p q : Bool) → (p || q) ≡ false → p ≡ false
or_left true q e = absurd cc
or_left false q e = refl

buffer_for_apart : (w : Scene) (name table : Word) (o : Option ℕ) → Apart w.context.schema [] w.known.own.buffers → not (is_some (table_named w.context.schema name.spelling) || is_taken w.known.own name.spelling) ≡ true →
    Apart w.context.schema [] (buffer_for w name table o).is.after.own.buffers
buffer_for_apart w name table None h e = h
buffer_for_apart w name table (Some t) h e =
    let free = not_either_right (is_some (table_named w.context.schema name.spelling)) (is_taken w.known.own name.spelling) e in
    let others = or_right (is_some (number_of_name 0 (map (λ v. v.name) w.known.own.variables) name.spelling)) _ free in
    let no_index : number_of_name 0 (names_of w.known.own.buffers) name.spelling ≡ None = not_some _ (or_left (is_some (number_of_name 0 (names_of w.known.own.buffers) name.spelling)) _ others) in
    let unnamed : first_named w.known.own.buffers name.spelling ≡ None =
    sym (by_index w.known.own.buffers name.spelling) ∙ ap (λ i. from i (slice_get w.known.own.buffers)) (sym (indexed (names_of w.known.own.buffers) name.spelling) ∙ no_index) in
    apart_more w.context.schema [] w.known.own.buffers (record { name = name.spelling; table = t }) h unnamed
    (not_some (table_named w.context.schema name.spelling) (not_either_left (is_some (table_named w.context.schema name.spelling)) (is_taken w.known.own name.spelling) e))

define_apart : (w : Scene) (d : s.Definition) → (define w d).breaks ≡ [] → Apart w.context.schema [] w.known.own.buffers → Apart w.context.schema [] (define w d).is.after.own.buffers
define_apart w (s.Variable name k os) e h = h
define_apart w (s.Parameter direction place name k os) e h = h
define_apart w (s.Buffer name table) e h =
    buffer_for_apart w name table (table_named w.context.schema table.spelling) h (holds _ _ _ (nil_right (buffer_for w name table (table_named w.context.schema table.spelling)).breaks _ e))
define_apart w (s.Stream name) e h = h

run_apart : (w : Scene) (name : Word) (as_ : List s.Argument) (quiet : Bool) (o : Option ℕ) → Apart w.context.schema [] w.known.own.buffers → Apart w.context.schema [] (run_numbered w name as_ quiet o).is.after.own.buffers
run_apart w name as_ quiet None h = h
run_apart w name as_ quiet (Some p) h = h

mutual
  pub apart : (w : Scene) (t : Statement) → (statement w t).breaks ≡ [] → Apart w.context.schema [] w.known.own.buffers → Apart w.context.schema [] (statement w t).is.after.own.buffers
  apart w (s.Block h body) e g = all_apart (inside h w) body (nil_right (head (inside h w) h).breaks _ e) g
  apart w (s.Choose test then_it else_it) e g =
      let rest = nil_right (condition w test).breaks _ e in
      all_apart (scene_after w (statement w then_it).is.after) else_it (nil_right (statement w then_it).breaks _ rest) (apart w then_it (nil_left (statement w then_it).breaks _ rest) g)
  apart w (s.Define d) e g = define_apart w d e g
  apart w (s.Assign ps quiet) e g = g
  apart w (s.Find word x os) e g = g
  apart w (s.Create x quiet) e g = g
  apart w (s.Delete x quiet) e g = g
  apart w (s.Release x quiet) e g = g
  apart w (s.Undo place label act) e g = g
  apart w (s.LeaveBlock place label) e g = g
  apart w (s.NextBlock place label) e g = g
  apart w (s.ReturnIt place error value) e g = g
  apart w s.Stop e g = g
  apart w (s.Run name as_ quiet) e g = run_apart w name as_ quiet (number_of_name 0 (map (λ p. p.name) w.context.procedures) name.spelling) g
  apart w (s.Import name targets quiet) e g = g
  apart w (s.Export name es) e g = g
  apart w (s.Put name plain items) e g = g
  apart w (s.Message es) e g = g
  apart w (s.InputFrom name None) e g = g
  apart w (s.InputFrom name (Some file)) e g = g
  apart w (s.OutputTo name None append_it) e g = g
  apart w (s.OutputTo name (Some file) append_it) e g = g

  pub all_apart : (w : Scene) (ts : Statements) → (statements w ts).breaks ≡ [] → Apart w.context.schema [] w.known.own.buffers → Apart w.context.schema [] (statements w ts).is.after.own.buffers
  all_apart w s.Nothing e g = g
  all_apart w (s.Then t ts) e g = all_apart (scene_after w (statement w t).is.after) ts (nil_right (statement w t).breaks _ e) (apart w t (nil_left (statement w t).breaks _ e) g)
