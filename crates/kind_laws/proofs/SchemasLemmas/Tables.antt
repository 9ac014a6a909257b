-- Tables, buffers and indexes by their names: what a name of a source is the number of.
use Rattle.std.proofs.Common.{◌≡◌, ◌<◌, ℕ, zero, suc, Bool, true, false, List, [], ◌∷◌, Option, Some, None, length, map, refl, sym, subst, ◌∙◌, arith}
use Rattle.std.specs.Prelude.{All, IfSome, if◌then◌else◌, nat_lt, slice_get, slice_index_or}
use Rattle.std.specs.Option.{option_map}
use Rattle.std.proofs.lemmas.Bool.Decides.{nat_tests}
use Rattle.std.proofs.lemmas.List.Elements.{All-head, All-tail}
use Rattle.abl_values.specs.declared.schema.TableDef.{TableDef}
use Rattle.abl_values.specs.Schema.{SchemaData, no_table, number_of_name, same_name, table_at, table_named}
use Rattle.abl_values.specs.Sound.{IsSound, IsSoundTable}
use Rattle.bound_tree.specs.declared.procedure.BufferDef.{BufferDef}
use Rattle.bind_names.specs.declared.names.NamedBuffer.{NamedBuffer}
use Rattle.bind_names.specs.Names.{Scene, buffer_named, buffer_of_table}
use Rattle.kind_laws.proofs.BoundKindsLemmas.Apart.{index, indexed}
use Rattle.kind_laws.proofs.BoundKindsLemmas.Numbered.{table_in}
use Rattle.kind_laws.proofs.BoundKindsLemmas.Parts.{Each, Maybe, both, both_left, each_get, maybe_from, maybe_map, maybe_or_else}
use Rattle.kind_laws.specs.schemas.Named.{can_read, has_buffer, has_index, has_table}

-- ---- numbers of names

index_there : {A : Type 0} (f : A → List ℕ) (xs : List A) (name : List ℕ) → Maybe (λ i. i < length xs) (index (map f xs) name)
index_there f [] name = tt
index_there {A} f (x ∷ xs) name = go (same_name (f x) name) (index (map f xs) name) (index_there f xs name)
  where
    go : (c : Bool) (o : Option ℕ) → Maybe (λ i. i < length xs) o → Maybe (λ i. i < length (x ∷ xs)) (if c then Some 0 else option_map suc o)
    go true o h = omega arith
    go false None h = tt
    go false (Some i) h = omega (arith, h)

pub less_test : (m n : ℕ) → m < n → nat_lt m n ≡ true
less_test m n h = grind (arith, nat_tests)

pub test_less : (m n : ℕ) → nat_lt m n ≡ true → m < n
test_less m n h = grind (arith, nat_tests)

pub weaker : {A : Type 0} (P Q : A → Type 0) (o : Option A) → ((a : A) → P a → Q a) → Maybe P o → Maybe Q o
weaker P Q None f h = tt
weaker P Q (Some a) f h = f a h

-- the number of a name is that of one of the named things
pub number_there : {A : Type 0} (f : A → List ℕ) (xs : List A) (name : List ℕ) → Maybe (λ i. nat_lt i (length xs) ≡ true) (number_of_name 0 (map f xs) name)
number_there f xs name =
    subst (Maybe (λ i. nat_lt i (length xs) ≡ true)) (sym (indexed (map f xs) name))
    (weaker (λ i. i < length xs) (λ i. nat_lt i (length xs) ≡ true) (index (map f xs) name) (λ i h. less_test i (length xs) h) (index_there f xs name))

-- ---- tables

named_table : (s : SchemaData) (name : List ℕ) → Maybe (λ t. has_table s t ≡ true) (table_named s name)
unfolding table_named
named_table s name = number_there (λ (t : TableDef). t.name) s.tables name

pub table_named_there : (s : SchemaData) (name : List ℕ) → Maybe (λ t. has_table s t ≡ true) (table_named s name)
table_named_there s name = named_table s name

abbrev pub HasTableOf : SchemaData → NamedBuffer → Type 0
HasTableOf s x = has_table s x.table ≡ true

-- each buffer that the procedure has defined is of a table of the schema
abbrev pub AreTables : Scene → Type 0
AreTables w = Each (HasTableOf w.context.schema) w.known.own.buffers

-- and so is each buffer that is known
pub buffer_table : (w : Scene) (name : List ℕ) → AreTables w → Maybe (HasTableOf w.context.schema) (buffer_named w name)
buffer_table w name h =
    maybe_or_else (HasTableOf w.context.schema) _ _
    (maybe_from (HasTableOf w.context.schema) (number_of_name 0 (map (λ (b : NamedBuffer). b.name) w.known.own.buffers) name) (slice_get w.known.own.buffers) (λ i. each_get (HasTableOf w.context.schema) w.known.own.buffers i h))
    (maybe_map (HasTableOf w.context.schema) (buffer_of_table w.context.schema) (table_named w.context.schema name) (named_table w.context.schema name))

sound_in : (ts : List TableDef) (t : ℕ) → All IsSoundTable ts → t < length ts → IsSoundTable (slice_index_or ts t no_table)
sound_in [] t all h = absurd (omega (arith, h))
sound_in (x ∷ xs) zero all h = All-head IsSoundTable x xs all
sound_in (x ∷ xs) (suc t) all h = sound_in xs t (All-tail IsSoundTable x xs all) (omega (arith, h))

pub sound_table : (s : SchemaData) (t : ℕ) → IsSound s → has_table s t ≡ true → IsSoundTable (table_at s t)
sound_table s t ok h = sound_in s.tables t ok.tables (test_less t (length s.tables) h)

-- a table of the schema has a name
named : (t : TableDef) → IsSoundTable t → t ≡ no_table → ⊥
named t h e = unnamed (subst IsSoundTable e h)
  where
    unnamed : IsSoundTable no_table → ⊥
    unnamed h = cc h.name

outside : (ts : List TableDef) (t : ℕ) → nat_lt t (length ts) ≡ false → slice_index_or ts t no_table ≡ no_table
outside [] t h = refl
outside (x ∷ xs) zero h = absurd (grind (arith, nat_tests))
outside (x ∷ xs) (suc t) h = outside xs t (let less : nat_lt (suc t) (suc (length xs)) ≡ false = h in grind (arith, nat_tests))

-- ---- buffers

-- a buffer of this number is of a table of the schema, which has the index
pub read_there : (s : SchemaData) → IsSound s → (bs : List BufferDef) (i t : ℕ) (o : Option ℕ) → has_table s t ≡ true → table_in s bs i ≡ table_at s t → has_index (table_at s t) o ≡ true → can_read s o (slice_get bs i) ≡ true
read_there s ok bs i t o h e x = go (slice_get bs i) e
  where
    within : (d : BufferDef) → table_at s d.table ≡ table_at s t → (c : Bool) → nat_lt d.table (length s.tables) ≡ c → has_table s d.table ≡ true
    within d e true c = c
    within d e false c = absurd (named (table_at s t) (sound_table s t ok h) (sym e ∙ outside s.tables d.table c))

    go : (b : Option BufferDef) → elim b as (λ _. TableDef) [ None ↦ no_table | Some d ↦ table_at s d.table ] ≡ table_at s t → can_read s o b ≡ true
    go None e = absurd (named (table_at s t) (sound_table s t ok h) (sym e))
    go (Some d) e = both (has_table s d.table) _ (within d e (nat_lt d.table (length s.tables)) refl) (subst (λ u. has_index u o ≡ true) (sym e) x)

pub created_there : (s : SchemaData) (b : Option BufferDef) → can_read s None b ≡ true → has_buffer s b ≡ true
created_there s None h = h
created_there s (Some d) h = both_left (has_table s d.table) _ h

-- ---- indexes

pub primary_there : (t : TableDef) → IsSoundTable t → has_index t t.primary ≡ true
primary_there t h = go t.primary h.primary
  where
    go : (o : Option ℕ) → IfSome o (λ n. n < length t.indexes) → has_index t o ≡ true
    go None h = refl
    go (Some n) h = less_test n (length t.indexes) h
