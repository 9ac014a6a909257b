-- Two scenes that differ only in the namings and buffers of their source. The namings that names and expressions make in each are compared
-- by a relation. It holds for the namings of single names, and appending lists preserves it.
use Rattle.std.proofs.Common.{◌≡◌, ℕ, ◌+◌, Bool, true, false, List, [], ◌∷◌, ◌++◌, Option, Some, None, refl, sym, ap, subst}
use Rattle.std.specs.Prelude.{slice_index_or}
use Rattle.abl_base.specs.declared.place.Place.{Place}
use Rattle.abl_base.specs.declared.rule.Rule.TheVariants as rule
use Rattle.abl_base.specs.declared.value.Kind.{Kind}
use Rattle.abl_values.specs.Schema.{field_named, fields_of, no_field}
use Rattle.syntax_tree.specs.Syntax as s
use Rattle.syntax_tree.specs.Syntax.{Expression, Arguments, Statement, Statements, named_at, starts_at}
use Rattle.syntax_tree.specs.declared.name.Named.{Named}
use Rattle.syntax_tree.specs.declared.name.Named.TheVariants.{Plain, Qualified}
use Rattle.syntax_tree.specs.declared.name.Word.{Word}
use Rattle.syntax_tree.specs.declared.word.Function.{Function}
use Rattle.bind_names.specs.declared.names.NamedBuffer.{NamedBuffer}
use Rattle.bind_names.specs.declared.names.NamedVariable.{NamedVariable}
use Rattle.bind_names.specs.declared.names.Naming.{Naming}
use Rattle.bind_names.specs.declared.names.NamingKind.{NamingKind}
use Rattle.bind_names.specs.declared.names.NamingKind.TheVariants as naming_kind
use Rattle.bind_names.specs.Judged.{Judged, unless}
use Rattle.bind_names.specs.Names.{Scene, Meaning, TheVariable, TheField, TheBuffer, buffer, buffer_named, buffer_number, buffer_or_field, field_among, field_as, field_of, from, meaning, names_it, plain, qualified, stream_named, the_field, variable_named, wanted_buffer, with_field}
use Rattle.bind_names.specs.Names as n
use Rattle.bind_expressions.specs.Expressions.{arguments, expression, of_meaning, value_of}
use Rattle.bind_statements.specs.Assignments.{target_of}
use Rattle.bind_blocks.specs.Headers.{counter_of}

-- ---- the two places

-- other namings and buffers of a source
pub record Others : Type 0 where
  pub said : List Naming
  pub buffers : List NamedBuffer
  pub named : List NamedBuffer

-- the scene with these other namings and buffers, and otherwise the same
abbrev pub varied : Scene → Others → Scene
varied w d = record {
  context = record { schema = w.context.schema; namings = d.said; procedures = w.context.procedures };
  known = w.known;
  procedure = w.procedure;
  buffers = d.buffers;
  named = d.named;
  around = w.around;
  block = w.block;
}

-- the relation holds for empty lists, and appending preserves it
pub record IsKept (R : List Naming → List Naming → Type 0) : Type 0 where
  pub nil : R [] []
  pub join : (ps qs rs ss : List Naming) → R ps qs → R rs ss → R (ps ++ rs) (qs ++ ss)

-- appending preserves the relation, and it holds for the namings of single names
pub record IsLeaf (R : List Naming → List Naming → Type 0) (w : Scene) (d : Others) : Type 0 where
  pub kept : IsKept R
  pub buffers : (name : List ℕ) (x : NamedBuffer) → buffer_named w name ≡ Some x → (kind : NamingKind) (explicit : Bool) (place : Place) → R (names_it w x kind explicit place ∷ []) (names_it w x kind explicit place ∷ [])
  pub fields : (word : Word) → R (field_among w word (with_field w word.spelling)).names (field_among (varied w d) word (with_field (varied w d) word.spelling)).names

pub nothing : (R : List Naming → List Naming → Type 0) (xs ys : List Naming) → R [] [] → xs ≡ [] → ys ≡ [] → R xs ys
nothing R xs ys h e f = rw (e, f) h

-- ---- names

-- the naming made by using a name as a value or a target: one if it means a buffer, else none
abbrev pub used : Scene → Place → Meaning → List Naming
used w place (TheVariable v mask) = []
used w place (TheField buffer field kind mask) = []
used w place (TheBuffer x) = names_it w x naming_kind.Free false place ∷ []
used w place n.Nothing = []

pub value_uses : (w : Scene) (place : Place) (m : Meaning) → (value_of w place m).names ≡ used w place m
value_uses w place (TheVariable v mask) = refl
value_uses w place (TheField buffer field kind mask) = refl
value_uses w place (TheBuffer x) = refl
value_uses w place n.Nothing = refl

pub target_uses : (w : Scene) (place : Place) (m : Meaning) → (target_of w place m).names ≡ used w place m
target_uses w place (TheVariable v mask) = refl
target_uses w place (TheField buffer field kind mask) = refl
target_uses w place (TheBuffer x) = refl
target_uses w place n.Nothing = refl

pub counter_uses : (w : Scene) (place : Place) (m : Meaning) → (counter_of w place m).names ≡ used w place m
counter_uses w place (TheVariable v mask) = refl
counter_uses w place (TheField buffer field kind mask) = refl
counter_uses w place (TheBuffer x) = refl
counter_uses w place n.Nothing = refl

pub field_as_uses : (w : Scene) (place at : Place) (buffer field : ℕ) (mask : List ℕ) (k : Option Kind) → used w place (field_as buffer field mask k at).is ≡ []
field_as_uses w place at buffer field mask None = refl
field_as_uses w place at buffer field mask (Some k) = refl

abbrev pub by_number : Scene → NamedBuffer → Bool → Place → Option ℕ → Judged Meaning
by_number w x explicit place found = elim found as (λ _. Judged Meaning) [
  | None ↦ record { is = n.Nothing; breaks = unless false rule.Y1 place; names = [] }
  | Some field ↦ the_field w x field explicit place
]

pub field_uses : (w : Scene) (place at : Place) (x : NamedBuffer) (explicit : Bool) (found : Option ℕ) → used w place (by_number w x explicit at found).is ≡ []
field_uses w place at x explicit None = refl
field_uses w place at x explicit (Some field) =
    field_as_uses w place at (buffer_number w x.name) field (slice_index_or (fields_of w.context.schema x.table) field no_field).mask (slice_index_or (fields_of w.context.schema x.table) field no_field).kind

pub among_uses : (w : Scene) (place : Place) (word : Word) (bs : List NamedBuffer) → used w place (field_among w word bs).is ≡ []
among_uses w place word [] = refl
among_uses w place word (x ∷ []) = field_uses w place word.at x false (field_named w.context.schema x.table word.spelling)
among_uses w place word (x ∷ y ∷ bs) = refl

-- a field of a buffer makes no naming
pub field_as_names : (buffer field : ℕ) (mask : List ℕ) (k : Option Kind) (place : Place) → (field_as buffer field mask k place).names ≡ []
field_as_names buffer field mask None place = refl
field_as_names buffer field mask (Some k) place = refl

abbrev pub naming_or_none : {A : Type 0} → Option A → Naming → List Naming
naming_or_none None x = []
naming_or_none (Some a) x = x ∷ []

pub found_names : (w : Scene) (x : NamedBuffer) (explicit : Bool) (place : Place) (found : Option ℕ) → (by_number w x explicit place found).names ≡ naming_or_none found (names_it w x naming_kind.Free explicit place)
found_names w x explicit place None = refl
found_names w x explicit place (Some field) =
    ap (λ ns. names_it w x naming_kind.Free explicit place ∷ ns)
    (field_as_names (buffer_number w x.name) field (slice_index_or (fields_of w.context.schema x.table) field no_field).mask (slice_index_or (fields_of w.context.schema x.table) field no_field).kind place)

pub field_names_it : (w : Scene) (x : NamedBuffer) (name : List ℕ) (explicit : Bool) (place : Place) →
    (field_of w x name explicit place).names ≡ naming_or_none (field_named w.context.schema x.table name) (names_it w x naming_kind.Free explicit place)
field_names_it w x name explicit place = found_names w x explicit place (field_named w.context.schema x.table name)

pub none_or : {A : Type 0} (R : List Naming → List Naming → Type 0) (o : Option A) (x : Naming) → R [] [] → R (x ∷ []) (x ∷ []) → R (naming_or_none o x) (naming_or_none o x)
none_or R None x h g = h
none_or R (Some a) x h g = g

pub both_names : (R : List Naming → List Naming → Type 0) (xs ys zs : List Naming) → xs ≡ zs → ys ≡ zs → R zs zs → R xs ys
both_names R xs ys zs e f h = rw (e, f) h

-- the relation holds for the namings of a name used as a value, judged as i and as j
abbrev pub NameRelates : (List Naming → List Naming → Type 0) → Scene → Others → Place → Judged Meaning → Judged Meaning → Type 0
NameRelates R w d place i j = R (i.names ++ used w place i.is) (j.names ++ used (varied w d) place j.is)

pub buffer_or_field_relates : (R : List Naming → List Naming → Type 0) (w : Scene) (d : Others) → IsLeaf R w d → (place : Place) (word : Word) (o : Option NamedBuffer) → buffer_named w word.spelling ≡ o →
    NameRelates R w d place (buffer_or_field w word o) (buffer_or_field (varied w d) word o)
buffer_or_field_relates R w d l place word (Some x) e = l.buffers word.spelling x e naming_kind.Free false place
buffer_or_field_relates R w d l place word None e =
    l.kept.join (field_among w word (with_field w word.spelling)).names (field_among (varied w d) word (with_field (varied w d) word.spelling)).names _ _ (l.fields word)
    (nothing R _ _ l.kept.nil (among_uses w place word (with_field w word.spelling)) (among_uses (varied w d) place word (with_field (varied w d) word.spelling)))

pub plain_relates : (R : List Naming → List Naming → Type 0) (w : Scene) (d : Others) → IsLeaf R w d → (place : Place) (word : Word) (v : Option NamedVariable) → NameRelates R w d place (plain w word v) (plain (varied w d) word v)
plain_relates R w d l place word (Some v) = l.kept.nil
plain_relates R w d l place word None = buffer_or_field_relates R w d l place word (buffer_named w word.spelling) refl

pub qualified_relates : (R : List Naming → List Naming → Type 0) (w : Scene) (d : Others) → IsLeaf R w d → (place : Place) (name field : List ℕ) (at : Place) (o : Option NamedBuffer) → buffer_named w name ≡ o →
    NameRelates R w d place (qualified w o field at) (qualified (varied w d) o field at)
qualified_relates R w d l place name field at None e = l.kept.nil
qualified_relates R w d l place name field at (Some x) e =
    l.kept.join (field_of w x field true at).names (field_of (varied w d) x field true at).names _ _
    (both_names R _ _ _ (field_names_it w x field true at) (field_names_it (varied w d) x field true at)
    (none_or R (field_named w.context.schema x.table field) (names_it w x naming_kind.Free true at) l.kept.nil (l.buffers name x e naming_kind.Free true at)))
    (nothing R _ _ l.kept.nil (field_uses w place at x true (field_named w.context.schema x.table field)) (field_uses (varied w d) place at x true (field_named w.context.schema x.table field)))

pub name_relates : (R : List Naming → List Naming → Type 0) (w : Scene) (d : Others) → IsLeaf R w d → (place : Place) (name : Named) → NameRelates R w d place (meaning w name) (meaning (varied w d) name)
name_relates R w d l place (Plain word) = plain_relates R w d l place word (variable_named w.known word.spelling)
name_relates R w d l place (Qualified x field at) = qualified_relates R w d l place x field at (buffer_named w x) refl

pub of_meaning_relates : {A : Type 0} (R : List Naming → List Naming → Type 0) (w : Scene) (d : Others) → IsLeaf R w d → (place : Place) (name : Named) (f g : Meaning → Judged A) → ((m : Meaning) → (f m).names ≡ used w place m) →
    ((m : Meaning) → (g m).names ≡ used (varied w d) place m) → R (of_meaning (meaning w name) f).names (of_meaning (meaning (varied w d) name) g).names
of_meaning_relates R w d l place name f g e h =
    subst (λ xs. R ((meaning w name).names ++ xs) ((meaning (varied w d) name).names ++ (g (meaning (varied w d) name).is).names)) (sym (e (meaning w name).is))
    (subst (λ ys. R ((meaning w name).names ++ used w place (meaning w name).is) ((meaning (varied w d) name).names ++ ys)) (sym (h (meaning (varied w d) name).is)) (name_relates R w d l place name))

-- the namings of a name, without those of its use as a value
pub alone_relates : (R : List Naming → List Naming → Type 0) (w : Scene) (d : Others) → IsLeaf R w d → (name : Named) → R (meaning w name).names (meaning (varied w d) name).names
alone_relates R w d l (Plain word) = go (variable_named w.known word.spelling)
  where
    field : (o : Option NamedBuffer) → R (buffer_or_field w word o).names (buffer_or_field (varied w d) word o).names
    field (Some x) = l.kept.nil
    field None = l.fields word

    go : (v : Option NamedVariable) → R (plain w word v).names (plain (varied w d) word v).names
    go (Some v) = l.kept.nil
    go None = field (buffer_named w word.spelling)
alone_relates R w d l (Qualified z field at) = go (buffer_named w z) refl
  where
    go : (o : Option NamedBuffer) → buffer_named w z ≡ o → R (qualified w o field at).names (qualified (varied w d) o field at).names
    go None e = l.kept.nil
    go (Some x) e =
        both_names R _ _ _ (field_names_it w x field true at) (field_names_it (varied w d) x field true at)
        (none_or R (field_named w.context.schema x.table field) (names_it w x naming_kind.Free true at) l.kept.nil (l.buffers z x e naming_kind.Free true at))

-- a name in a position that requires a buffer
pub buffer_relates : (R : List Naming → List Naming → Type 0) (w : Scene) (d : Others) → IsLeaf R w d → (kind : NamingKind) (explicit : Bool) (word : Word) → R (buffer w kind explicit word).names (buffer (varied w d) kind explicit word).names
buffer_relates R w d l kind explicit word = go (buffer_named w word.spelling) refl
  where
    go : (o : Option NamedBuffer) → buffer_named w word.spelling ≡ o → R (wanted_buffer w kind explicit word o).names (wanted_buffer (varied w d) kind explicit word o).names
    go None e = l.kept.nil
    go (Some x) e = l.buffers word.spelling x e kind explicit word.at

-- ---- expressions

mutual
  pub relates : (R : List Naming → List Naming → Type 0) (w : Scene) (d : Others) → IsLeaf R w d → (e : Expression) → R (expression w e).names (expression (varied w d) e).names
  relates R w d l (s.Literal v place) = l.kept.nil
  relates R w d l (s.Name name) = of_meaning_relates R w d l (named_at name) name (value_of w (named_at name)) (value_of (varied w d) (named_at name)) (value_uses w (named_at name)) (value_uses (varied w d) (named_at name))
  relates R w d l (s.Grouped place a) = relates R w d l a
  relates R w d l (s.Plus place a) = relates R w d l a
  relates R w d l (s.Minus place a) = relates R w d l a
  relates R w d l (s.Not place a) = relates R w d l a
  relates R w d l (s.Two op place a c) = l.kept.join (expression w a).names (expression (varied w d) a).names _ _ (relates R w d l a) (relates R w d l c)
  relates R w d l (s.And place a c) = l.kept.join (expression w a).names (expression (varied w d) a).names _ _ (relates R w d l a) (relates R w d l c)
  relates R w d l (s.Or place a c) = l.kept.join (expression w a).names (expression (varied w d) a).names _ _ (relates R w d l a) (relates R w d l c)
  relates R w d l (s.If place t a c) =
      l.kept.join (expression w t).names (expression (varied w d) t).names _ _ (relates R w d l t)
      (l.kept.join (expression w a).names (expression (varied w d) a).names _ _ (relates R w d l a) (relates R w d l c))
  relates R w d l (s.Available place word) = buffer_relates R w d l naming_kind.Free false word
  relates R w d l (s.Locked place word) = buffer_relates R w d l naming_kind.Free false word
  relates R w d l (s.Retry place) = l.kept.nil
  relates R w d l (s.ReturnValue place) = l.kept.nil
  relates R w d l (s.ErrorStatus place) = l.kept.nil
  relates R w d l (s.Text place a None) = relates R w d l a
  relates R w d l (s.Text place a (Some mask)) = relates R w d l a
  relates R w d l (s.Call f place as_) = all_relate R w d l f 0 as_

  all_relate : (R : List Naming → List Naming → Type 0) (w : Scene) (d : Others) → IsLeaf R w d → (f : Function) (i : ℕ) (as_ : Arguments) → R (arguments w f i as_).names (arguments (varied w d) f i as_).names
  all_relate R w d l f i s.NoMore = l.kept.nil
  all_relate R w d l f i (s.More e rest) = l.kept.join (expression w e).names (expression (varied w d) e).names _ _ (relates R w d l e) (all_relate R w d l f (i + 1) rest)
