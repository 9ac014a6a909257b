-- PUT, MESSAGE, IMPORT and EXPORT that break no rule are well-kinded.
use Rattle.std.proofs.Common.{◌≡◌, ℕ, ◌+◌, Bool, true, false, List, [], ◌∷◌, Option, Some, None, suc, refl, ap, ◌∙◌, arith}
use Rattle.std.specs.Prelude.{◌||◌, slice_index_or, unwrap_or}
use Rattle.std.specs.List.{list_all}
use Rattle.std.specs.Option.{option_map}
use Rattle.abl_base.specs.declared.place.Place.{Place}
use Rattle.abl_base.specs.declared.value.Kind.{Kind}
use Rattle.abl_base.specs.declared.value.Kind.TheVariants as kind
use Rattle.abl_values.specs.declared.schema.FieldDef.{FieldDef}
use Rattle.abl_values.specs.declared.schema.TableDef.{TableDef}
use Rattle.abl_values.specs.Masks.{mask_is_for}
use Rattle.abl_values.specs.Schema.{fields_of, no_field, table_at}
use Rattle.bound_tree.specs.declared.statement.Target.{Target}
use Rattle.bound_tree.specs.declared.statement.Target.TheVariants as target
use Rattle.syntax_tree.specs.Syntax as s
use Rattle.syntax_tree.specs.Syntax.{Expression, named_at, starts_at}
use Rattle.syntax_tree.specs.declared.name.Named.{Named}
use Rattle.syntax_tree.specs.declared.name.Word.{Word}
use Rattle.bind_names.specs.declared.names.NamedBuffer.{NamedBuffer}
use Rattle.bind_names.specs.declared.sort.Sort.{Sort}
use Rattle.bind_names.specs.declared.sort.Sort.TheVariants.{Of, Unknown, Broken}
use Rattle.bind_names.specs.Judged.{Judged}
use Rattle.bind_names.specs.Sorts.{kind_in, mask_fits}
use Rattle.bind_names.specs.Names.{Scene, Meaning, TheVariable, TheField, TheBuffer, buffer_number, from, meaning, stream_named}
use Rattle.bind_names.specs.Names as n
use Rattle.bind_expressions.specs.Expressions.{expression, value_of}
use Rattle.bind_expressions.specs.Parts.{listed, the_expr}
use Rattle.bind_statements.specs.Definitions.{default_mask}
use Rattle.bind_statements.specs.Shown.{mask_of, mask_of_meaning, message, put, put_item, put_mask}
use Rattle.bind_statements.specs.Streams.{export, export_names, export_record, field_targets, import, import_alone, import_target, import_targets, lone_buffer, named_alone, stream}
use Rattle.bind_statements.specs.Assignments.{the_target}
use Rattle.kind_laws.specs.bound_kinds.WellKinded.{Surroundings, if_there, is_body, is_item, is_kind, is_shown, is_statement, is_target, is_value, kind_of_field, table_of}
use Rattle.kind_laws.proofs.BoundKindsLemmas.Parts.{Maybe, both, each_left, each_right, holds, nil_left, nil_right}
use Rattle.kind_laws.proofs.BoundKindsLemmas.Suits.{AreNumbered, IsNumbered, Means, Suits, kind_is, means}
use Rattle.kind_laws.proofs.BoundKindsLemmas.Marked.{good}
use Rattle.kind_laws.proofs.BoundKindsLemmas.Assigned.{IsTarget, alone, the_target_good}

-- ---- lists of parts

-- each part is good where it breaks no rule
pub listed_good : {A B : Type 0} (x : Surroundings) (w : Scene) (f : A → Judged B) (p : B → Bool) → ((a : A) → (f a).breaks ≡ [] → AreNumbered x w (f a).names → p (f a).is ≡ true) → (xs : List A) →
    (listed f xs).breaks ≡ [] → AreNumbered x w (listed f xs).names → list_all p (listed f xs).is ≡ true
listed_good x w f p g [] h n = refl
listed_good x w f p g (a ∷ xs) h n =
    both (p (f a).is) _ (g a (nil_left (f a).breaks _ h) (each_left (IsNumbered x w) (f a).names _ n))
    (listed_good x w f p g xs (nil_right (f a).breaks _ h) (each_right (IsNumbered x w) (f a).names _ n))

-- ---- masks

pub default_fits : (k : Kind) → mask_is_for (default_mask k) k ≡ true
unfolding mask_is_for
default_fits kind.Character = refl
default_fits kind.Integer = refl
default_fits kind.Int64 = refl
default_fits kind.Decimal = refl
default_fits kind.Logical = refl
default_fits kind.Date = refl

any_kind : (a c : Bool) → a ≡ true → (a || c) ≡ true
any_kind true c h = refl
any_kind false c h = absurd cc

default_mask_fits : (t : Sort) → mask_fits (default_mask (unwrap_or (kind_in t) kind.Character)) t ≡ true
default_mask_fits (Of k) = default_fits k
default_mask_fits Unknown = any_kind _ _ (default_fits kind.Character)
default_mask_fits Broken = refl

-- the mask of a name fits what the name is as a value
name_mask_fits : (x : Surroundings) (w : Scene) (place : Place) (m : Meaning) → Means x m → mask_fits (unwrap_or (mask_of_meaning m) (default_mask (unwrap_or (kind_in (value_of w place m).is.sort) kind.Character))) (value_of w place m).is.sort ≡ true
name_mask_fits x w place (TheVariable v mask) h = h.1
name_mask_fits x w place (TheField buffer field k mask) h = h.masked
name_mask_fits x w place (TheBuffer buffer) h = refl
name_mask_fits x w place n.Nothing h = refl

mask_of_fits : (x : Surroundings) (w : Scene) → Suits x w → (e : Expression) → AreNumbered x w (expression w e).names → mask_fits (mask_of w e (expression w e).is.sort) (expression w e).is.sort ≡ true
mask_of_fits x w u (s.Name name) n = name_mask_fits x w (named_at name) (meaning w name).is (means x w name u (each_left (IsNumbered x w) (meaning w name).names _ n))
mask_of_fits x w u (s.Literal v place) n = default_mask_fits (expression w (s.Literal v place)).is.sort
mask_of_fits x w u (s.Grouped place a) n = default_mask_fits (expression w (s.Grouped place a)).is.sort
mask_of_fits x w u (s.Plus place a) n = default_mask_fits (expression w (s.Plus place a)).is.sort
mask_of_fits x w u (s.Minus place a) n = default_mask_fits (expression w (s.Minus place a)).is.sort
mask_of_fits x w u (s.Not place a) n = default_mask_fits (expression w (s.Not place a)).is.sort
mask_of_fits x w u (s.Two op place a c) n = default_mask_fits (expression w (s.Two op place a c)).is.sort
mask_of_fits x w u (s.And place a c) n = default_mask_fits (expression w (s.And place a c)).is.sort
mask_of_fits x w u (s.Or place a c) n = default_mask_fits (expression w (s.Or place a c)).is.sort
mask_of_fits x w u (s.If place t a c) n = default_mask_fits (expression w (s.If place t a c)).is.sort
mask_of_fits x w u (s.Available place word) n = default_mask_fits (expression w (s.Available place word)).is.sort
mask_of_fits x w u (s.Locked place word) n = default_mask_fits (expression w (s.Locked place word)).is.sort
mask_of_fits x w u (s.Retry place) n = default_mask_fits (expression w (s.Retry place)).is.sort
mask_of_fits x w u (s.ReturnValue place) n = default_mask_fits (expression w (s.ReturnValue place)).is.sort
mask_of_fits x w u (s.ErrorStatus place) n = default_mask_fits (expression w (s.ErrorStatus place)).is.sort
mask_of_fits x w u (s.Text place a mask) n = default_mask_fits (expression w (s.Text place a mask)).is.sort
mask_of_fits x w u (s.Call f place as_) n = default_mask_fits (expression w (s.Call f place as_)).is.sort

-- ---- PUT and MESSAGE

value_good : (x : Surroundings) (w : Scene) → Suits x w → (e : Expression) → (expression w e).breaks ≡ [] → AreNumbered x w (expression w e).names → is_value x (expression w e).is.expr ≡ true
value_good x w u e h n = good x w (λ t. true) e u h n refl

shown_good : (x : Surroundings) (w : Scene) → Suits x w → (plain : Bool) (mask : List ℕ) (e : Expression) → (expression w e).breaks ≡ [] → AreNumbered x w (expression w e).names → mask_fits mask (expression w e).is.sort ≡ true →
    is_shown x (put_mask plain mask) (expression w e).is.expr ≡ true
shown_good x w u true mask e h n m = value_good x w u e h n
shown_good x w u false mask e h n m = good x w (mask_fits mask) e u h n m

item_good : (x : Surroundings) (w : Scene) → Suits x w → (plain : Bool) (i : s.PutItem) → (put_item w plain i).breaks ≡ [] → AreNumbered x w (put_item w plain i).names → is_item x (put_item w plain i).is ≡ true
item_good x w u plain (s.Shows e None) h n = shown_good x w u plain (mask_of w e (expression w e).is.sort) e h n (mask_of_fits x w u e n)
item_good x w u plain (s.Shows e (Some mask)) h n = shown_good x w u plain mask.spelling e (nil_left (expression w e).breaks _ h) n (holds _ _ _ (nil_right (expression w e).breaks _ h))
item_good x w u plain (s.Skip c) h n = refl
item_good x w u plain (s.Space c) h n = refl

pub put_good : (x : Surroundings) (w : Scene) → Suits x w → (name : Option Word) (plain : Bool) (items : List s.PutItem) → (put w name plain items).breaks ≡ [] → AreNumbered x w (put w name plain items).names → is_body x (put w name plain items).is.body ≡ true
put_good x w u name plain items h n =
    alone _ (listed_good x w (put_item w plain) (is_item x) (item_good x w u plain) items (nil_right (stream w name).breaks _ h) (each_right (IsNumbered x w) (stream w name).names _ n))

values_good : (x : Surroundings) (w : Scene) → Suits x w → (es : List Expression) → (listed (λ e. the_expr (expression w e)) es).breaks ≡ [] → AreNumbered x w (listed (λ e. the_expr (expression w e)) es).names →
    list_all (is_value x) (listed (λ e. the_expr (expression w e)) es).is ≡ true
values_good x w u es h n = listed_good x w (λ e. the_expr (expression w e)) (is_value x) (λ e. value_good x w u e) es h n

pub message_good : (x : Surroundings) (w : Scene) → Suits x w → (es : List Expression) → (message w es).breaks ≡ [] → AreNumbered x w (message w es).names → is_body x (message w es).is.body ≡ true
message_good x w u es h n = alone _ (values_good x w u es h n)

-- ---- EXPORT

export_record_good : (x : Surroundings) (w : Scene) → Suits x w → (number : ℕ) (es : List Expression) (o : Option NamedBuffer) → (export_record w number es o).breaks ≡ [] → AreNumbered x w (export_record w number es o).names →
    is_statement x (export_record w number es o).is ≡ true
export_record_good x w u number es (Some buffer) h n = refl
export_record_good x w u number es None h n = values_good x w u es h n

pub export_good : (x : Surroundings) (w : Scene) → Suits x w → (name : Option Word) (es : List Expression) → (export w name es).breaks ≡ [] → AreNumbered x w (export w name es).names → is_body x (export w name es).is.body ≡ true
export_good x w u name es h n =
    let alone_it : Option NamedBuffer = from (named_alone es) (lone_buffer w) in
    alone _
    (export_record_good x w u (stream w name).is es alone_it (nil_right (stream w name).breaks _ h)
    (each_right (IsNumbered x w) (export_names w es alone_it) _ (each_right (IsNumbered x w) (stream w name).names _ n)))

-- ---- IMPORT

maybe_target : (x : Surroundings) (o : Option Target) → Maybe (IsTarget x) o → if_there (is_target x) o ≡ true
maybe_target x None h = refl
maybe_target x (Some t) h = h

-- the fields from i on are those of the buffer's table
fields_good : (x : Surroundings) (buffer i : ℕ) (ds : List FieldDef) → ((j : ℕ) → kind_of_field (table_of x buffer) (i + j) ≡ (slice_index_or ds j no_field).kind) → list_all (if_there (is_target x)) (field_targets buffer i ds) ≡ true
fields_good x buffer i [] h = refl
fields_good x buffer i (d ∷ ds) h =
    both _ _ (first d.kind (ap (kind_of_field (table_of x buffer)) (plus_zero i) ∙ h 0))
    (fields_good x buffer (i + 1) ds (λ j. ap (kind_of_field (table_of x buffer)) (plus_one i j) ∙ h (suc j)))
  where
    plus_zero : (i : ℕ) → i ≡ i + 0
    plus_zero i = omega arith

    plus_one : (i j : ℕ) → i + 1 + j ≡ i + suc j
    plus_one i j = omega arith

    first : (k : Option Kind) → kind_of_field (table_of x buffer) i ≡ k → if_there (is_target x) (option_map (target.Field buffer i) k) ≡ true
    first None e = refl
    first (Some k) e = ap (is_kind k) e ∙ kind_is k

import_alone_good : (x : Surroundings) (w : Scene) → Suits x w → (name : Named) (o : Option NamedBuffer) → (import_alone w name o).breaks ≡ [] → AreNumbered x w (import_alone w name o).names → list_all (if_there (is_target x)) (import_alone w name o).is ≡ true
import_alone_good x w u name (Some buffer) h n =
    fields_good x (buffer_number w buffer.name) 0 (fields_of w.context.schema buffer.table) (λ j. ap (λ (t : TableDef). kind_of_field t (0 + j)) n.0 ∙ ap (kind_of_field (table_at w.context.schema buffer.table)) (from_zero j))
  where
    from_zero : (j : ℕ) → 0 + j ≡ j
    from_zero j = omega arith
import_alone_good x w u name None h n = alone _ (maybe_target x (the_target w name).is (the_target_good x w name u n))

one_target : (x : Surroundings) (w : Scene) → Suits x w → (o : Option Named) → (import_target w o).breaks ≡ [] → AreNumbered x w (import_target w o).names → if_there (is_target x) (import_target w o).is ≡ true
one_target x w u None h n = refl
one_target x w u (Some name) h n = maybe_target x (the_target w name).is (the_target_good x w name u n)

targets_good : (x : Surroundings) (w : Scene) → Suits x w → (names : List (Option Named)) → (import_targets w names).breaks ≡ [] → AreNumbered x w (import_targets w names).names → list_all (if_there (is_target x)) (import_targets w names).is ≡ true
targets_good x w u (Some name ∷ []) h n = import_alone_good x w u name (lone_buffer w name) h n
targets_good x w u [] h n = refl
targets_good x w u (None ∷ names) h n = listed_good x w (import_target w) (if_there (is_target x)) (one_target x w u) (None ∷ names) h n
targets_good x w u (Some name ∷ other ∷ names) h n = listed_good x w (import_target w) (if_there (is_target x)) (one_target x w u) (Some name ∷ other ∷ names) h n

pub import_good : (x : Surroundings) (w : Scene) → Suits x w → (name : Option Word) (targets : List (Option Named)) (quiet : Bool) → (import w name targets quiet).breaks ≡ [] → AreNumbered x w (import w name targets quiet).names → is_body x (import w name targets quiet).is.body ≡ true
import_good x w u name targets quiet h n = alone _ (targets_good x w u targets (nil_right (stream w name).breaks _ h) (each_right (IsNumbered x w) (stream w name).names _ n))
