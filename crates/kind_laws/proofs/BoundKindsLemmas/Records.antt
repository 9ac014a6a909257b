-- Record phrases that break no rule are well-kinded: WHERE, and the values of the bracket.
use Rattle.std.proofs.Common.{◌≡◌, ℕ, Bool, true, false, List, [], ◌∷◌, ◌++◌, Option, Some, None, refl, ap, sym, ◌∙◌}
use Rattle.std.specs.Prelude.{◌&&◌, ◌==◌, not, if◌then◌else◌, slice_index_or, unwrap_or}
use Rattle.std.specs.List.{list_any}
use Rattle.std.specs.Option.{is_some}
use Rattle.abl_base.specs.declared.place.Place.{Place}
use Rattle.abl_base.specs.declared.value.Kind.{Kind}
use Rattle.abl_base.specs.declared.value.Kind.TheVariants as kind
use Rattle.abl_values.specs.declared.schema.KeyPart.{KeyPart}
use Rattle.abl_values.specs.declared.schema.TableDef.{TableDef}
use Rattle.abl_values.specs.Schema.{indexes_of, no_field, no_index, same_name, table_at}
use Rattle.bound_tree.specs.declared.expression.Binary.{Binary}
use Rattle.bound_tree.specs.declared.expression.Binary.TheVariants as two
use Rattle.bound_tree.specs.declared.statement.FindWord.{FindWord}
use Rattle.bound_tree.specs.Tree as b
use Rattle.bound_tree.specs.Tree.{Expr}
use Rattle.syntax_tree.specs.Syntax as s
use Rattle.syntax_tree.specs.Syntax.{Expression, named_at, starts_at}
use Rattle.syntax_tree.specs.declared.name.Named.{Named}
use Rattle.syntax_tree.specs.declared.name.Word.{Word}
use Rattle.syntax_tree.specs.declared.word.FindWhich.{FindWhich}
use Rattle.bind_names.specs.declared.names.NamedBuffer.{NamedBuffer}
use Rattle.bind_names.specs.declared.names.NamingKind.{NamingKind}
use Rattle.bind_names.specs.declared.names.NamingKind.TheVariants as naming_kind
use Rattle.bind_names.specs.declared.sort.Sort.{Sort}
use Rattle.bind_names.specs.declared.sort.Sort.TheVariants.{Of, Unknown, Broken}
use Rattle.bind_names.specs.Sorts.{fits, is_broken, kind_fits, result_sort, same_kind, where_holds}
use Rattle.bind_names.specs.Names.{Scene, Meaning, TheVariable, TheField, TheBuffer, buffer, buffer_named, buffer_number, meaning, number_of, wanted_buffer}
use Rattle.bind_names.specs.Names as n
use Rattle.bind_expressions.specs.Expressions.{expression, value_of}
use Rattle.bind_expressions.proofs.Unbroken.{is_unbroken}
use Rattle.bind_blocks.specs.Records.{Asked, and_parts, bracket, bracket_of, find, find_word_of, first_said, found, is_equal_sign, looked_for, nothing_asked, reading, record_option, record_options, said_of}
use Rattle.bind_blocks.specs.Records as r
use Rattle.kind_laws.specs.bound_kinds.WellKinded.{Surroundings, if_there, is_body, is_bracket, is_condition, is_for, is_kind, is_reading, is_statement, kind_of_field, parts_of, table_of}
use Rattle.kind_laws.proofs.BoundKindsLemmas.Parts.{Each, Maybe, both, both_left, both_right, each_join, each_left, each_right, equal, holds, maybe_or_else, nil_left, nil_right}
use Rattle.kind_laws.proofs.BoundKindsLemmas.Suits.{AreNumbered, IsNumbered, Means, Suits, kind_is, means}
use Rattle.kind_laws.proofs.BoundKindsLemmas.Marked.{condition_good, good}
use Rattle.kind_laws.proofs.BoundKindsLemmas.Assigned.{alone}

-- ---- kinds

pub kind_same : (k l : Kind) → same_kind k l ≡ true → l ≡ k
kind_same kind.Character kind.Character e = refl
kind_same kind.Integer kind.Integer e = refl
kind_same kind.Int64 kind.Int64 e = refl
kind_same kind.Decimal kind.Decimal e = refl
kind_same kind.Logical kind.Logical e = refl
kind_same kind.Date kind.Date e = refl
kind_same k l e = absurd cc

kind_there : (k : Kind) (o : Option Kind) → is_kind k o ≡ true → o ≡ Some k
kind_there k None e = absurd cc
kind_there k (Some l) e = ap Some (kind_same k l e)

fits_both : (k l : Kind) → kind_fits k l ≡ kind_fits l k
fits_both kind.Character kind.Character = refl
fits_both kind.Character kind.Integer = refl
fits_both kind.Character kind.Int64 = refl
fits_both kind.Character kind.Decimal = refl
fits_both kind.Character kind.Logical = refl
fits_both kind.Character kind.Date = refl
fits_both kind.Integer kind.Character = refl
fits_both kind.Integer kind.Integer = refl
fits_both kind.Integer kind.Int64 = refl
fits_both kind.Integer kind.Decimal = refl
fits_both kind.Integer kind.Logical = refl
fits_both kind.Integer kind.Date = refl
fits_both kind.Int64 kind.Character = refl
fits_both kind.Int64 kind.Integer = refl
fits_both kind.Int64 kind.Int64 = refl
fits_both kind.Int64 kind.Decimal = refl
fits_both kind.Int64 kind.Logical = refl
fits_both kind.Int64 kind.Date = refl
fits_both kind.Decimal kind.Character = refl
fits_both kind.Decimal kind.Integer = refl
fits_both kind.Decimal kind.Int64 = refl
fits_both kind.Decimal kind.Decimal = refl
fits_both kind.Decimal kind.Logical = refl
fits_both kind.Decimal kind.Date = refl
fits_both kind.Logical kind.Character = refl
fits_both kind.Logical kind.Integer = refl
fits_both kind.Logical kind.Int64 = refl
fits_both kind.Logical kind.Decimal = refl
fits_both kind.Logical kind.Logical = refl
fits_both kind.Logical kind.Date = refl
fits_both kind.Date kind.Character = refl
fits_both kind.Date kind.Integer = refl
fits_both kind.Date kind.Int64 = refl
fits_both kind.Date kind.Decimal = refl
fits_both kind.Date kind.Logical = refl
fits_both kind.Date kind.Date = refl

-- ---- the parts of WHERE

-- an expression that breaks no rule, and whose namings have their numbers
pub record IsSound (x : Surroundings) (w : Scene) (e : Expression) : Type 0 where
  pub breaks : (expression w e).breaks ≡ []
  pub names : AreNumbered x w (expression w e).names

parts_sound : (x : Surroundings) (w : Scene) (e : Expression) → IsSound x w e → Each (IsSound x w) (and_parts e)
parts_sound x w (s.And place a c) h =
    let parts = nil_left ((expression w a).breaks ++ (expression w c).breaks) _ h.breaks in
    each_join (IsSound x w) (and_parts a) (and_parts c)
    (parts_sound x w a (record { breaks = nil_left (expression w a).breaks _ parts; names = each_left (IsNumbered x w) (expression w a).names _ h.names }))
    (parts_sound x w c (record { breaks = nil_right (expression w a).breaks _ parts; names = each_right (IsNumbered x w) (expression w a).names _ h.names }))
parts_sound x w (s.Literal v place) h = (h, tt)
parts_sound x w (s.Name name) h = (h, tt)
parts_sound x w (s.Grouped place a) h = (h, tt)
parts_sound x w (s.Plus place a) h = (h, tt)
parts_sound x w (s.Minus place a) h = (h, tt)
parts_sound x w (s.Not place a) h = (h, tt)
parts_sound x w (s.Two op place a c) h = (h, tt)
parts_sound x w (s.Or place a c) h = (h, tt)
parts_sound x w (s.If place t a c) h = (h, tt)
parts_sound x w (s.Available place word) h = (h, tt)
parts_sound x w (s.Locked place word) h = (h, tt)
parts_sound x w (s.Retry place) h = (h, tt)
parts_sound x w (s.ReturnValue place) h = (h, tt)
parts_sound x w (s.ErrorStatus place) h = (h, tt)
parts_sound x w (s.Text place a mask) h = (h, tt)
parts_sound x w (s.Call f place as_) h = (h, tt)

-- ---- a value for a component

-- the field is of this kind, and the sort fits it
pub record IsComparable (t : TableDef) (field : ℕ) (value : Sort) : Type 0 where
  pub kind : Kind
  pub is : kind_of_field t field ≡ Some kind
  pub fit : fits value kind ≡ true

held : (c : Bool) (t : Sort) → is_some (where_holds c t) ≡ true → c ≡ true
held true t e = refl
held false t e = absurd cc

comparable : (k : Kind) (t : Sort) → is_broken t ≡ false → is_some (result_sort two.Equal (Of k) t) ≡ true → fits t k ≡ true
comparable k (Of l) h e = fits_both l k ∙ held (kind_fits k l) (Of kind.Logical) e
comparable k Unknown h e = refl
comparable k Broken h e = absurd cc

field_said : (x : Surroundings) (w : Scene) (place : Place) (m : Meaning) → Means x m → (number field : ℕ) (t : TableDef) → table_of x number ≡ t → r.is_field number field m ≡ true → (value : Sort) → is_broken value ≡ false →
    is_some (result_sort two.Equal (value_of w place m).is.sort value) ≡ true → IsComparable t field value
field_said x w place (TheVariable v mask) g number field t e h value sound some = absurd cc
field_said x w place (TheBuffer buffer) g number field t e h value sound some = absurd cc
field_said x w place n.Nothing g number field t e h value sound some = absurd cc
field_said x w place (TheField buffer f k mask) g number field t e h value sound some =
    let same_buffer : buffer ≡ number = equal buffer number (both_left (buffer == number) _ h) in
    let same_field : f ≡ field = equal f field (both_right (buffer == number) _ h) in
    let there : kind_of_field (table_of x buffer) f ≡ Some k = kind_there k _ g.there in
    record {
      kind = k;
      is = ap (λ u. kind_of_field u field) (sym e) ∙ ap (λ i. kind_of_field (table_of x i) field) (sym same_buffer) ∙ ap (kind_of_field (table_of x buffer)) (sym same_field) ∙ there;
      fit = comparable k value sound some;
    }

-- the value is good for a component of this field
pub record IsSaid (x : Surroundings) (t : TableDef) (field : ℕ) (e : Expr) : Type 0 where
  pub kind : Kind
  pub is : kind_of_field t field ≡ Some kind
  pub good : is_for x kind e ≡ true

maybe_cond : {A : Type 0} (P : A → Type 0) (c : Bool) (a : A) → (c ≡ true → P a) → Maybe P (if c then Some a else None)
maybe_cond P true a h = h refl
maybe_cond P false a h = tt

equal_sign : (op : Binary) → is_equal_sign op ≡ true → op ≡ two.Equal
equal_sign two.Equal e = refl
equal_sign op e = absurd cc

two_said : (x : Surroundings) (w : Scene) → Suits x w → (buffer : NamedBuffer) (t : TableDef) → table_of x (buffer_number w buffer.name) ≡ t → (field : ℕ) (op : Binary) (place : Place) (name : Named) (e : Expression) →
    IsSound x w (s.Two op place (s.Name name) e) → Maybe (IsSaid x t field) (said_of w buffer field (s.Two op place (s.Name name) e))
two_said x w u buffer t at field op place name e h =
    let both_fine = nil_left ((expression w (s.Name name)).breaks ++ (expression w e).breaks) _ h.breaks in
    let fine : (expression w e).breaks ≡ [] = nil_right (expression w (s.Name name)).breaks _ both_fine in
    let other = each_right (IsNumbered x w) (expression w (s.Name name)).names _ h.names in
    let own = each_left (IsNumbered x w) (expression w (s.Name name)).names _ h.names in
    let named = each_left (IsNumbered x w) (meaning w name).names (value_of w (named_at name) (meaning w name).is).names own in
    let some : is_some (result_sort op (value_of w (named_at name) (meaning w name).is).is.sort (expression w e).is.sort) ≡ true = holds _ _ _ (nil_right ((expression w (s.Name name)).breaks ++ (expression w e).breaks) _ h.breaks) in
    maybe_cond (IsSaid x t field)
    (is_equal_sign op && (r.is_field (buffer_number w buffer.name) field (meaning w name).is && not (list_any (λ m. same_name m.name buffer.name) (expression w e).names))) (expression w e).is.expr
    (λ c.
    let sign : op ≡ two.Equal = equal_sign op (both_left (is_equal_sign op) _ c) in
    let about : r.is_field (buffer_number w buffer.name) field (meaning w name).is ≡ true = both_left (r.is_field (buffer_number w buffer.name) field (meaning w name).is) _ (both_right (is_equal_sign op) _ c) in
    let some_equal : is_some (result_sort two.Equal (value_of w (named_at name) (meaning w name).is).is.sort (expression w e).is.sort) ≡ true =
    ap (λ o. is_some (result_sort o (value_of w (named_at name) (meaning w name).is).is.sort (expression w e).is.sort)) (sym sign) ∙ some in
    let compared = field_said x w (named_at name) (meaning w name).is (means x w name u named) (buffer_number w buffer.name) field t at about (expression w e).is.sort (is_unbroken w e fine) some_equal in
    record { kind = compared.kind; is = compared.is; good = good x w (λ k. fits k compared.kind) e u fine other compared.fit })

said_good : (x : Surroundings) (w : Scene) → Suits x w → (buffer : NamedBuffer) (t : TableDef) → table_of x (buffer_number w buffer.name) ≡ t → (field : ℕ) (e : Expression) → IsSound x w e → Maybe (IsSaid x t field) (said_of w buffer field e)
said_good x w u buffer t at field (s.Two op place (s.Name name) e) h = two_said x w u buffer t at field op place name e h
said_good x w u buffer t at field (s.Two op place (s.Literal v place1) e) h = tt
said_good x w u buffer t at field (s.Two op place (s.Grouped place1 a) e) h = tt
said_good x w u buffer t at field (s.Two op place (s.Plus place1 a) e) h = tt
said_good x w u buffer t at field (s.Two op place (s.Minus place1 a) e) h = tt
said_good x w u buffer t at field (s.Two op place (s.Not place1 a) e) h = tt
said_good x w u buffer t at field (s.Two op place (s.Two op2 place2 a c) e) h = tt
said_good x w u buffer t at field (s.Two op place (s.And place1 a c) e) h = tt
said_good x w u buffer t at field (s.Two op place (s.Or place1 a c) e) h = tt
said_good x w u buffer t at field (s.Two op place (s.If place1 t1 a c) e) h = tt
said_good x w u buffer t at field (s.Two op place (s.Available place1 word) e) h = tt
said_good x w u buffer t at field (s.Two op place (s.Locked place1 word) e) h = tt
said_good x w u buffer t at field (s.Two op place (s.Retry place1) e) h = tt
said_good x w u buffer t at field (s.Two op place (s.ReturnValue place1) e) h = tt
said_good x w u buffer t at field (s.Two op place (s.ErrorStatus place1) e) h = tt
said_good x w u buffer t at field (s.Two op place (s.Text place1 a mask) e) h = tt
said_good x w u buffer t at field (s.Two op place (s.Call f place1 as_) e) h = tt
said_good x w u buffer t at field (s.Literal v place) h = tt
said_good x w u buffer t at field (s.Name name) h = tt
said_good x w u buffer t at field (s.Grouped place a) h = tt
said_good x w u buffer t at field (s.Plus place a) h = tt
said_good x w u buffer t at field (s.Minus place a) h = tt
said_good x w u buffer t at field (s.Not place a) h = tt
said_good x w u buffer t at field (s.And place a c) h = tt
said_good x w u buffer t at field (s.Or place a c) h = tt
said_good x w u buffer t at field (s.If place t1 a c) h = tt
said_good x w u buffer t at field (s.Available place word) h = tt
said_good x w u buffer t at field (s.Locked place word) h = tt
said_good x w u buffer t at field (s.Retry place) h = tt
said_good x w u buffer t at field (s.ReturnValue place) h = tt
said_good x w u buffer t at field (s.ErrorStatus place) h = tt
said_good x w u buffer t at field (s.Text place a mask) h = tt
said_good x w u buffer t at field (s.Call f place as_) h = tt

first_good : (x : Surroundings) (w : Scene) → Suits x w → (buffer : NamedBuffer) (t : TableDef) → table_of x (buffer_number w buffer.name) ≡ t → (field : ℕ) (es : List Expression) → Each (IsSound x w) es → Maybe (IsSaid x t field) (first_said w buffer field es)
first_good x w u buffer t at field [] h = tt
first_good x w u buffer t at field (e ∷ es) h =
    maybe_or_else (IsSaid x t field) (said_of w buffer field e) (first_said w buffer field es) (said_good x w u buffer t at field e h.0) (first_good x w u buffer t at field es h.1)

-- ---- the bracket

kind_value : (x : Surroundings) (o : Option Kind) (k : Kind) (e : Expr) → o ≡ Some k → is_for x k e ≡ true → (is_kind (unwrap_or o kind.Character) o && is_for x (unwrap_or o kind.Character) e) ≡ true
kind_value x None k e is h = absurd cc
kind_value x (Some l) k e is h = let same : l ≡ k = cc in both _ _ (kind_is l) (ap (λ j. is_for x j e) same ∙ h)

abbrev with_value : TableDef → KeyPart → List b.BracketValue → Option Expr → List b.BracketValue
with_value t p rest o = elim o as (λ _. List b.BracketValue) [
  | None ↦ []
  | Some e ↦ record { kind = unwrap_or (slice_index_or t.fields p.field no_field).kind kind.Character; value = e } ∷ rest
]

one_more_value : (x : Surroundings) (t : TableDef) (p : KeyPart) (ps : List KeyPart) (rest : List b.BracketValue) (o : Option Expr) → Maybe (IsSaid x t p.field) o → is_bracket x t ps rest ≡ true → is_bracket x t (p ∷ ps) (with_value t p rest o) ≡ true
one_more_value x t p ps rest None h g = refl
one_more_value x t p ps rest (Some e) h g = both _ _ (kind_value x (kind_of_field t p.field) h.kind e h.is h.good) g

bracket_good : (x : Surroundings) (w : Scene) → Suits x w → (buffer : NamedBuffer) (t : TableDef) → table_of x (buffer_number w buffer.name) ≡ t → (es : List Expression) → Each (IsSound x w) es → (ps : List KeyPart) → is_bracket x t ps (bracket_of w buffer t.fields es ps) ≡ true
bracket_good x w u buffer t at es h [] = refl
bracket_good x w u buffer t at es h (p ∷ ps) =
    one_more_value x t p ps (bracket_of w buffer t.fields es ps) (first_said w buffer p.field es) (first_good x w u buffer t at p.field es h) (bracket_good x w u buffer t at es h ps)

-- ---- the options of a record phrase

pub record IsAsked (x : Surroundings) (w : Scene) (a : Asked) : Type 0 where
  pub test : if_there (is_condition x) a.test ≡ true
  pub where_it : Maybe (IsSound x w) a.where_it

option_asked : (x : Surroundings) (w : Scene) → Suits x w → (o : Option NamedBuffer) (option : s.RecordOption) (a : Asked) → IsAsked x w a → (record_option w o option a).breaks ≡ [] → AreNumbered x w (record_option w o option a).names → IsAsked x w (record_option w o option a).is
option_asked x w u o (s.Where place e) a g h n = record { test = condition_good x w e u h n; where_it = record { breaks = nil_left (expression w e).breaks _ h; names = n } }
option_asked x w u o (s.UseIndex place index) a g h n = record { test = g.test; where_it = g.where_it }
option_asked x w u o (s.Lock place lock) a g h n = record { test = g.test; where_it = g.where_it }
option_asked x w u o (s.NoWait place) a g h n = record { test = g.test; where_it = g.where_it }
option_asked x w u o (s.NoError place) a g h n = record { test = g.test; where_it = g.where_it }

options_asked : (x : Surroundings) (w : Scene) → Suits x w → (o : Option NamedBuffer) (options : List s.RecordOption) (a : Asked) → IsAsked x w a → (record_options w o a options).breaks ≡ [] → AreNumbered x w (record_options w o a options).names →
    IsAsked x w (record_options w o a options).is
options_asked x w u o [] a g h n = g
options_asked x w u o (option ∷ options) a g h n =
    options_asked x w u o options (record_option w o option a).is
    (option_asked x w u o option a g (nil_left (record_option w o option a).breaks _ h) (each_left (IsNumbered x w) (record_option w o option a).names _ n))
    (nil_right (record_option w o option a).breaks _ h) (each_right (IsNumbered x w) (record_option w o option a).names _ n)

-- ---- what is read

abbrev pub HasTable : Surroundings → Scene → NamedBuffer → Type 0
HasTable x w buffer = table_of x (buffer_number w buffer.name) ≡ table_at w.context.schema buffer.table

buffer_there : (x : Surroundings) (w : Scene) (naming : NamingKind) (explicit : Bool) (word : Word) (o : Option NamedBuffer) → AreNumbered x w (wanted_buffer w naming explicit word o).names → Maybe (HasTable x w) (wanted_buffer w naming explicit word o).is
buffer_there x w naming explicit word None h = tt
buffer_there x w naming explicit word (Some buffer) h = h.0

bracket_is : (x : Surroundings) (w : Scene) → Suits x w → (o : Option NamedBuffer) → Maybe (HasTable x w) o → (i : Option ℕ) (e : Option Expression) → Maybe (IsSound x w) e →
    is_bracket x (table_of x (number_of w o)) (parts_of (table_of x (number_of w o)) i) (bracket w o i e) ≡ true
bracket_is x w u None g i e h = refl
bracket_is x w u (Some buffer) g None e h = refl
bracket_is x w u (Some buffer) g (Some i) None h = refl
bracket_is x w u (Some buffer) g (Some i) (Some e) h =
    ap (λ t. is_bracket x t (parts_of t (Some i)) (bracket w (Some buffer) (Some i) (Some e))) g
    ∙ bracket_good x w u buffer (table_at w.context.schema buffer.table) g (and_parts e) (parts_sound x w e h) (slice_index_or (indexes_of w.context.schema buffer.table) i no_index).parts

reading_good : (x : Surroundings) (w : Scene) → Suits x w → (o : Option NamedBuffer) → Maybe (HasTable x w) o → (a : Asked) → IsAsked x w a → is_reading x (reading w o a) ≡ true
reading_good x w u o g a h = both _ _ h.test (bracket_is x w u o g a.index a.where_it h.where_it)

pub looked_for_good : (x : Surroundings) (w : Scene) → Suits x w → (naming : NamingKind) (word : Word) (os : List s.RecordOption) → (looked_for w (buffer w naming true word) os).breaks ≡ [] → AreNumbered x w (looked_for w (buffer w naming true word) os).names →
    is_reading x (looked_for w (buffer w naming true word) os).is.0 ≡ true
looked_for_good x w u naming word os h n =
    let it = buffer w naming true word in
    reading_good x w u it.is (buffer_there x w naming true word (buffer_named w word.spelling) (each_left (IsNumbered x w) it.names _ n)) (record_options w it.is (nothing_asked w it.is) os).is
    (options_asked x w u it.is os (nothing_asked w it.is) (record { test = refl; where_it = tt }) (nil_right it.breaks _ h) (each_right (IsNumbered x w) it.names _ n))

found_good : (x : Surroundings) (o : Option FindWord) (it : b.Reading) (a : Asked) → is_reading x it ≡ true → is_statement x (found o it a) ≡ true
found_good x None it a h = h
found_good x (Some word) it a h = h

pub find_good : (x : Surroundings) (w : Scene) → Suits x w → (which : FindWhich) (word : Word) (os : List s.RecordOption) → (find w which word os).breaks ≡ [] → AreNumbered x w (find w which word os).names → is_body x (find w which word os).is.body ≡ true
find_good x w u which word os h n =
    let it = looked_for w (buffer w naming_kind.Free true word) os in
    alone _ (found_good x (find_word_of which) it.is.0 it.is.1 (looked_for_good x w u naming_kind.Free word os h n))
