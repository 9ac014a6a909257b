-- Surroundings that suit a place of a source, and what names mean there.
use Rattle.std.proofs.Common.{◌≡◌, ℕ, Bool, true, false, List, [], ◌∷◌, map, Option, Some, None, refl, ap, ◌∙◌}
use Rattle.std.specs.Prelude.{slice_get, slice_index_or}
use Rattle.std.specs.List.{list_all}
use Rattle.std.specs.Option.{option_map}
use Rattle.abl_base.specs.declared.place.Place.{Place}
use Rattle.abl_base.specs.declared.value.Kind.{Kind}
use Rattle.abl_base.specs.declared.value.Kind.TheVariants as kind
use Rattle.abl_values.specs.declared.schema.TableDef.{TableDef}
use Rattle.abl_values.specs.Masks.{mask_is_for}
use Rattle.abl_values.specs.Schema.{SchemaData, number_of_name, field_named, no_field, no_table, table_at}
use Rattle.bound_tree.specs.declared.expression.Variable.{Variable}
use Rattle.syntax_tree.specs.declared.name.Named.{Named}
use Rattle.syntax_tree.specs.declared.name.Named.TheVariants.{Plain, Qualified}
use Rattle.syntax_tree.specs.declared.name.Word.{Word}
use Rattle.bind_names.specs.declared.names.Defined.{Defined}
use Rattle.bind_names.specs.declared.names.Formal.{Formal}
use Rattle.bind_names.specs.declared.names.Known.{Known}
use Rattle.bind_names.specs.declared.names.NamedBuffer.{NamedBuffer}
use Rattle.bind_names.specs.declared.names.NamedVariable.{NamedVariable}
use Rattle.bind_names.specs.declared.names.Naming.{Naming}
use Rattle.bind_names.specs.declared.names.Signature.{Signature}
use Rattle.bind_names.specs.Judged.{Judged, unless}
use Rattle.abl_base.specs.declared.rule.Rule.TheVariants as rule
use Rattle.bind_names.specs.Sorts.{same_kind}
use Rattle.bind_names.specs.Names.{Scene, Meaning, TheVariable, TheField, TheBuffer, Nothing, buffer_named, buffer_number, buffer_or_field, field_among, field_as, field_of, from, from_outside, meaning, plain, qualified, the_field, variable_in, variable_named, with_field}
use Rattle.kind_laws.specs.bound_kinds.WellKinded.{Surroundings, is_field, is_kind, is_masked, is_masked_field, is_variable, if_there, kind_of_field, table_of}
use Rattle.kind_laws.proofs.BoundKindsLemmas.Parts.{Each, Maybe, all_get, each_get, maybe_from, maybe_map, maybe_or_else}

-- ---- kinds

pub kind_is : (k : Kind) → same_kind k k ≡ true
kind_is kind.Character = refl
kind_is kind.Integer = refl
kind_is kind.Int64 = refl
kind_is kind.Decimal = refl
kind_is kind.Logical = refl
kind_is kind.Date = refl

-- ---- surroundings

-- the variable is there, and its mask is one for its kind
pub record IsGood (x : Surroundings) (v : NamedVariable) : Type 0 where
  pub there : is_variable x v.variable ≡ true
  pub masked : mask_is_for v.mask v.variable.kind ≡ true

-- all variables that are known
pub record AreGood (x : Surroundings) (k : Known) : Type 0 where
  pub own : Each (IsGood x) k.own.variables
  pub outer : Maybe (λ (d : Defined). Each (λ v. IsGood x (from_outside v)) d.variables) k.outer

-- the naming has the number of a buffer of the table that it names
abbrev pub IsNumbered : Surroundings → Scene → Naming → Type 0
IsNumbered x w n = table_of x (buffer_number w n.name) ≡ table_at w.context.schema n.table

abbrev pub formal_kinds : List Formal → List Kind
formal_kinds = map (λ f. f.kind)

abbrev pub kinds_of : List Variable → List Kind
kinds_of = map (λ v. v.kind)

-- the parameters of the internal procedures
abbrev pub Match : List Signature → List (List Variable) → Type 0
Match [] [] = Unit {0}
Match [] (ps ∷ pss) = ⊥
Match (g ∷ gs) [] = ⊥
Match (g ∷ gs) (ps ∷ pss) = (formal_kinds g.formals ≡ kinds_of ps) × Match gs pss

pub record IsOf (x : Surroundings) (w : Scene) : Type 0 where
  pub schema : x.schema ≡ w.context.schema
  pub masked : is_masked w.context.schema ≡ true
  pub main : List Variable
  pub others : List (List Variable)
  pub parameters : x.parameters ≡ main ∷ others
  pub match : Match w.context.procedures others

pub record Suits (x : Surroundings) (w : Scene) : Type 0 where
  pub source : IsOf x w
  pub known : AreGood x w.known

abbrev pub AreNumbered : Surroundings → Scene → List Naming → Type 0
AreNumbered x w = Each (IsNumbered x w)

-- ---- variables

pub known_good : (x : Surroundings) (k : Known) (name : List ℕ) → AreGood x k → Maybe (IsGood x) (variable_named k name)
known_good x k name h =
    maybe_or_else (IsGood x) (variable_in k.own name) _
    (maybe_from (IsGood x) (number_of_name 0 (map (λ v. v.name) k.own.variables) name) (slice_get k.own.variables) (λ i. each_get (IsGood x) k.own.variables i h.own))
    (outer k.outer h.outer)
  where
    outer : (o : Option Defined) → Maybe (λ (d : Defined). Each (λ v. IsGood x (from_outside v)) d.variables) o → Maybe (IsGood x) (from o (λ d. option_map from_outside (variable_in d name)))
    outer None h = tt
    outer (Some d) h =
        maybe_map (IsGood x) from_outside (variable_in d name)
        (maybe_from (λ v. IsGood x (from_outside v)) (number_of_name 0 (map (λ v. v.name) d.variables) name) (slice_get d.variables) (λ i. each_get (λ v. IsGood x (from_outside v)) d.variables i h))

-- ---- what a name means

pub record IsGoodField (x : Surroundings) (buffer field : ℕ) (kind : Kind) (mask : List ℕ) : Type 0 where
  pub there : is_field x buffer field kind ≡ true
  pub masked : mask_is_for mask kind ≡ true

abbrev pub Means : Surroundings → Meaning → Type 0
Means x (TheVariable v mask) = (is_variable x v ≡ true) × (mask_is_for mask v.kind ≡ true)
Means x (TheField buffer field kind mask) = IsGoodField x buffer field kind mask
Means x (TheBuffer buffer) = Unit {0}
Means x Nothing = Unit {0}

masked_table : (s : SchemaData) (t : ℕ) → is_masked s ≡ true → list_all is_masked_field (table_at s t).fields ≡ true
masked_table s t h = all_get (λ (d : TableDef). list_all is_masked_field d.fields) s.tables t no_table h refl

field_means : (x : Surroundings) (t : TableDef) (buffer field : ℕ) (place : Place) → table_of x buffer ≡ t → list_all is_masked_field t.fields ≡ true →
    Means x (field_as buffer field (slice_index_or t.fields field no_field).mask (slice_index_or t.fields field no_field).kind place).is
field_means x t buffer field place e h =
    go (slice_index_or t.fields field no_field).kind (ap (λ (u : TableDef). (slice_index_or u.fields field no_field).kind) e) (all_get is_masked_field t.fields field no_field h refl)
  where
    go : (k : Option Kind) → kind_of_field (table_of x buffer) field ≡ k → if_there (mask_is_for (slice_index_or t.fields field no_field).mask) k ≡ true →
        Means x (field_as buffer field (slice_index_or t.fields field no_field).mask k place).is
    go None e h = tt
    go (Some k) e h = record { there = ap (is_kind k) e ∙ kind_is k; masked = h }

the_field_means : (x : Surroundings) (w : Scene) (b : NamedBuffer) (field : ℕ) (explicit : Bool) (place : Place) → IsOf x w → AreNumbered x w (the_field w b field explicit place).names → Means x (the_field w b field explicit place).is
the_field_means x w b field explicit place s h = field_means x (table_at w.context.schema b.table) (buffer_number w b.name) field place h.0 (masked_table w.context.schema b.table s.masked)

abbrev found_field : Scene → NamedBuffer → Bool → Place → Option ℕ → Judged Meaning
found_field w b explicit place found = elim found as (λ _. Judged Meaning) [
  | None ↦ record { is = Nothing; breaks = unless false rule.Y1 place; names = [] }
  | Some field ↦ the_field w b field explicit place
]

field_of_means : (x : Surroundings) (w : Scene) (b : NamedBuffer) (name : List ℕ) (explicit : Bool) (place : Place) → IsOf x w → AreNumbered x w (field_of w b name explicit place).names → Means x (field_of w b name explicit place).is
field_of_means x w b name explicit place s =
    elim (field_named w.context.schema b.table name) as (λ found. AreNumbered x w (found_field w b explicit place found).names → Means x (found_field w b explicit place found).is) [
      | None ↦ λ h. tt
      | Some field ↦ λ h. the_field_means x w b field explicit place s h
    ]

field_among_means : (x : Surroundings) (w : Scene) (word : Word) (bs : List NamedBuffer) → IsOf x w → AreNumbered x w (field_among w word bs).names → Means x (field_among w word bs).is
field_among_means x w word [] s h = tt
field_among_means x w word (b ∷ []) s h = field_of_means x w b word.spelling false word.at s h
field_among_means x w word (b ∷ c ∷ bs) s h = tt

buffer_or_field_means : (x : Surroundings) (w : Scene) (word : Word) (o : Option NamedBuffer) → IsOf x w → AreNumbered x w (buffer_or_field w word o).names → Means x (buffer_or_field w word o).is
buffer_or_field_means x w word (Some b) s h = tt
buffer_or_field_means x w word None s h = field_among_means x w word (with_field w word.spelling) s h

plain_means : (x : Surroundings) (w : Scene) (word : Word) (o : Option NamedVariable) → Maybe (IsGood x) o → IsOf x w → AreNumbered x w (plain w word o).names → Means x (plain w word o).is
plain_means x w word (Some v) g s h = (g.there, g.masked)
plain_means x w word None g s h = buffer_or_field_means x w word (buffer_named w word.spelling) s h

qualified_means : (x : Surroundings) (w : Scene) (o : Option NamedBuffer) (field : List ℕ) (place : Place) → IsOf x w → AreNumbered x w (qualified w o field place).names → Means x (qualified w o field place).is
qualified_means x w None field place s h = tt
qualified_means x w (Some b) field place s h = field_of_means x w b field true place s h

-- WHAT A NAME MEANS IS GOOD, where the namings that it makes have their numbers
pub means : (x : Surroundings) (w : Scene) (n : Named) → Suits x w → AreNumbered x w (meaning w n).names → Means x (meaning w n).is
means x w (Plain word) s h = plain_means x w word (variable_named w.known word.spelling) (known_good x w.known word.spelling s.known) s.source h
means x w (Qualified buffer field place) s h = qualified_means x w (buffer_named w buffer) field place s.source h
