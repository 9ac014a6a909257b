-- The items of a source, one after the other.
use Rattle.std.proofs.Common.{◌≡◌, ◌<◌, ◌+◌, ℕ, suc, List, [], ◌∷◌, ◌++◌, length, drop, get_or, map, Bool, true, false, refl, ap, sym, ◌∙◌, append_assoc, append-nil, subst}
use Rattle.std.specs.List.{list_any}
use Rattle.std.specs.Prelude.{not, ◌||◌, Result, Ok, Err, IfOk}
use Rattle.abl_base.specs.declared.place.Place.{Place}
use Rattle.abl_base.specs.declared.rule.Rule.TheVariants.{Y3}
use Rattle.abl_values.specs.Schema.{SchemaData, same_name}
use Rattle.bound_tree.specs.declared.procedure.Procedure.{Procedure as SourceProcedure}
use Rattle.bound_tree.specs.declared.statement.Stmt.{Stmt as SourceStmt}
use Rattle.bound_tree.specs.Bound.{body_of, procedure_of}
use Rattle.bound_tree.specs.Tree as b
use Rattle.bound_tree.specs.Tree.{Body, Nothing, Source, Then, start_of_source}
use Rattle.syntax_tree.specs.Syntax as s
use Rattle.syntax_tree.specs.Syntax.{Item, Program, Statement, Statements}
use Rattle.syntax_tree.specs.Typed.{item_of}
use Rattle.syntax_tree.specs.declared.name.Word.{Word}
use Rattle.syntax_tree.specs.declared.program.Item.{Item as TypedItem}
use Rattle.bind_names.specs.declared.names.Known.{Known}
use Rattle.bind_names.specs.declared.notes.Notes.{Notes}
use Rattle.bind_names.specs.Judged.{Judged, first_of, unless}
use Rattle.bind_names.specs.Names.{Context, Scene}
use Rattle.bind_names.specs.declared.names.Naming.{Naming}
use Rattle.bind_names.specs.declared.names.Signature.{Signature}
use Rattle.bind_names.specs.Views.{IsJudged}
use Rattle.bind_names.proofs.Joined.{first_of_append}
use Rattle.binder.proofs.Choices.{append_nothing}
use Rattle.binder.proofs.Onward.{append_again, body_of_append, drop_all, next_item}
use Rattle.bind_expressions.specs.Parts.{Done, append, scene_after}
use Rattle.binder.specs.Statements.{statement}
use Rattle.bind_expressions.specs.Parts.{done_with}
use Rattle.binder.specs.declared.sources.Parts.{Parts as BoundParts}
use Rattle.binder.specs.Items.{IsNaming, IsOneMore, bound_parts, named_after}
use Rattle.binder.specs.Sources.{Parts, beginning, has_word, items, judged, procedure_with, signatures, source_with}
use Rattle.binder.specs.Views.{Procedured, internal, judged_from, procedured}

length_append_one : {A : Type 0} (xs : List A) (x : A) → length (xs ++ x ∷ []) ≡ suc (length xs)
length_append_one [] x = refl
length_append_one (y ∷ ys) x = ap suc (length_append_one ys x)

map_append : {A B : Type 0} (f : A → B) (xs ys : List A) → map f (xs ++ ys) ≡ map f xs ++ map f ys
map_append f [] ys = refl
map_append f (x ∷ xs) ys = ap (λ zs. f x ∷ zs) (map_append f xs ys)

pub or_swaps : (a c : Bool) → (a || c) ≡ (c || a)
or_swaps true true = refl
or_swaps true false = refl
or_swaps false true = refl
or_swaps false false = refl

or_again : (a c d : Bool) → ((a || c) || d) ≡ (a || (c || d))
or_again true c d = refl
or_again false c d = refl

pub any_append : {A : Type 0} (p : A → Bool) (xs ys : List A) → list_any p (xs ++ ys) ≡ (list_any p xs || list_any p ys)
any_append p [] ys = refl
any_append p (x ∷ xs) ys = ap (λ c. p x || c) (any_append p xs ys) ∙ sym (or_again (p x) (list_any p xs) (list_any p ys))

pub or_no : (a : Bool) → (a || false) ≡ a
or_no true = refl
or_no false = refl

one_more_name : (names : List (List ℕ)) (named : List Word) (name : Word) → IsNaming names named → IsNaming (names ++ name.spelling ∷ []) (name ∷ named)
one_more_name names named name h = record {
  count = length_append_one names name.spelling ∙ ap suc h.count;
  any = λ (x : List ℕ). any_append (λ n. same_name n x) names (name.spelling ∷ []) ∙ or_swaps (list_any (λ n. same_name n x) names) (same_name name.spelling x || false) ∙ ap (λ c. c || list_any (λ n. same_name n x) names) (or_no (same_name name.spelling x)) ∙ ap (λ c. same_name name.spelling x || c) (h.any x);
}

-- a statement of the external procedure
pub alone_adds : (w v : Scene) (it : Item) (t : Statement) → it ≡ s.Alone t → (old new : BoundParts) (more : List SourceStmt) (n m : Notes) →
    new.body.items ≡ old.body.items ++ more → new.procedures ≡ old.procedures → new.names ≡ old.names → IsJudged (statement w t) (done_with (body_of more) v) n m → IsOneMore w it old new v.known n m
alone_adds w v it t is old new more n m body procedures same j = rw is (λ named naming count. record {
  body =
      let e : body_of more ≡ (statement w t).is.body = ap (λ (d : Done). d.body) j.is in
      ap body_of body ∙ body_of_append old.body.items more ∙ ap (append (body_of old.body.items)) (e ∙ sym (append_nothing (statement w t).is.body));
  procedures = ap (λ ps. map procedure_of ps.items) procedures ∙ sym (append-nil (map procedure_of old.procedures.items));
  known = ap (λ (d : Done). d.after) j.is;
  first = j.first ∙ ap (first_of n.first) (sym (append-nil (statement w t).breaks));
  names = j.names ∙ ap (λ ns. n.names ++ ns) (sym (append-nil (statement w t).names));
  naming = rw same naming;
  count = ap (λ (ps : _). length ps.items) procedures ∙ count;
})

-- an internal procedure
pub procedure_adds : (w v : Scene) (it : Item) (place : Place) (name : Word) (inside : Statements) → it ≡ s.Procedure place name inside →
    (old new : BoundParts) (made : SourceProcedure) (number : ℕ) (taken : Bool) (n k m : Notes) →
    new.body ≡ old.body → new.names ≡ old.names ++ name.spelling ∷ [] → new.procedures.items ≡ old.procedures.items ++ made ∷ [] → number ≡ length old.procedures.items + 1 →
    taken ≡ list_any (λ x. same_name x name.spelling) old.names → k.first ≡ first_of n.first (unless (not taken) Y3 name.at) → k.names ≡ n.names →
    IsJudged (internal w number place name.spelling inside) (procedured (procedure_of made) v.known) k m → IsOneMore w it old new v.known n m
procedure_adds w v it place name inside is old new made number taken n k m body new_names procedures is_number is_taken first names j = rw is (λ named naming count.
    let same : number ≡ length named + 1 = is_number ∙ ap (λ x. x + 1) count in
    let any : taken ≡ list_any (has_word name.spelling) named = is_taken ∙ naming.any name.spelling in
    let i : IsJudged (internal w (length named + 1) place name.spelling inside) (procedured (procedure_of made) v.known) k m = rw same at j in
    record {
      body = ap (λ (b : _). body_of b.items) body ∙ sym (append_nothing (body_of old.body.items));
      procedures = ap (map procedure_of) procedures ∙ map_append procedure_of old.procedures.items (made ∷ []) ∙ ap (λ (p : _). map procedure_of old.procedures.items ++ p ∷ []) (ap (λ (d : Procedured). d.procedure) i.is);
      known = ap (λ (d : Procedured). d.after) i.is;
      first = let a = first in let b = i.first in let c = any in rw (append-nil, first_of_append) cc;
      names = let a = names in let b = i.names in rw append-nil cc;
      naming = rw new_names (one_more_name old.names named name naming);
      count = ap length procedures ∙ length_append_one old.procedures.items made ∙ ap suc count;
    })

-- ---- all items

pub record ItemsContinue (w : Scene) (all : List TypedItem) (i : ℕ) (v : Scene) (parts : BoundParts) (so_far begun : Notes) : Type 0 where
  pub named : List Word
  pub naming : IsNaming parts.names named
  pub count : length parts.procedures.items ≡ length named
  pub body : append (body_of parts.body.items) (items v named (map item_of (drop i all))).is.body ≡ (items w [] (map item_of all)).is.body
  pub procedures : map procedure_of parts.procedures.items ++ (items v named (map item_of (drop i all))).is.procedures ≡ (items w [] (map item_of all)).is.procedures
  pub after : (items v named (map item_of (drop i all))).is.after ≡ (items w [] (map item_of all)).is.after
  pub first : first_of so_far.first (items v named (map item_of (drop i all))).breaks ≡ first_of begun.first (items w [] (map item_of all)).breaks
  pub names : so_far.names ++ (items v named (map item_of (drop i all))).names ≡ begun.names ++ (items w [] (map item_of all)).names

-- one item before others
abbrev pub followed : Judged Parts → Judged Parts → Judged Parts
followed j more = record {
  is = record { body = append j.is.body more.is.body; procedures = j.is.procedures ++ more.is.procedures; after = more.is.after };
  breaks = j.breaks ++ more.breaks;
  names = j.names ++ more.names;
}

then_items : (w : Scene) (named : List Word) (it : Item) (rest : List Item) →
    items w named (it ∷ rest) ≡ followed (items w named (it ∷ [])) (items (scene_after w (items w named (it ∷ [])).is.after) (named_after it named) rest)
then_items w named (s.Alone t) rest = simp (append_nothing, append-nil) refl
then_items w named (s.Procedure place name body) rest = simp (append_nothing, append-nil, append_assoc) refl

pub one_more_item : (w : Scene) (all : List TypedItem) (i : ℕ) (it : TypedItem) (v u : Scene) (old new : BoundParts) (begun n m : Notes) →
    i < length all → it ≡ get_or all i it → IsOneMore v (item_of it) old new u.known n m → u ≡ scene_after v u.known → ItemsContinue w all i v old n begun → ItemsContinue w all (i + 1) u new m begun
one_more_item w all i it v u old new begun n m lt e add is_u h =
    let d : drop i all ≡ it ∷ drop (i + 1) all = next_item all i it lt e in
    let a = add h.named h.naming h.count in
    let t = then_items v h.named (item_of it) (map item_of (drop (i + 1) all)) in
    let place : u ≡ scene_after v (items v h.named (item_of it ∷ [])).is.after = is_u ∙ ap (scene_after v) a.known in
    let body1 = rw t at (rw d at h.body) in
    let procedures1 = rw t at (rw d at h.procedures) in
    let after1 = rw t at (rw d at h.after) in
    let first1 = rw t at (rw d at h.first) in
    let names1 = rw t at (rw d at h.names) in
    record {
      named = named_after (item_of it) h.named;
      naming = a.naming;
      count = a.count;
      body = rw (place, a.body, append_again) body1;
      procedures = rw (place, a.procedures, append_assoc) procedures1;
      after = rw place after1;
      first = rw (place, a.first) (rw first_of_append at first1);
      names = rw (place, a.names) (rw append_assoc names1);
    }

pub items_judged : (w : Scene) (all : List TypedItem) (i : ℕ) (v : Scene) (parts : BoundParts) (begun n : Notes) → i ≡ length all → ItemsContinue w all i v parts n begun →
    IsJudged (items w [] (map item_of all)) (bound_parts parts v.known) begun n
items_judged w all i v parts begun n e h =
    let d : drop i all ≡ [] = ap (λ j. drop j all) e ∙ drop_all all in
    let body1 : body_of parts.body.items ≡ (items w [] (map item_of all)).is.body = sym (append_nothing (body_of parts.body.items)) ∙ (rw d at h.body) in
    let procedures1 : map procedure_of parts.procedures.items ≡ (items w [] (map item_of all)).is.procedures = sym (append-nil (map procedure_of parts.procedures.items)) ∙ (rw d at h.procedures) in
    let after1 : v.known ≡ (items w [] (map item_of all)).is.after = rw d at h.after in
    record {
      is = rw (body1, procedures1, after1) refl;
      first = rw d at h.first;
      names = sym (append-nil n.names) ∙ (rw d at h.names);
    }

-- ---- the source

abbrev pub context_of : SchemaData → List Naming → List Signature → Context
context_of schema said procedures = record { schema = schema; namings = said; procedures = procedures }

pub items_begin : (w v : Scene) (all : List TypedItem) (parts : BoundParts) (n : Notes) → v ≡ w → parts.body.items ≡ [] → parts.procedures.items ≡ [] → parts.names ≡ [] → ItemsContinue w all 0 v parts n n
items_begin w v all parts n e body procedures names = record {
  named = [];
  naming = record { count = ap length names; any = λ (x : List ℕ). ap (list_any (λ m. same_name m x)) names };
  count = ap length procedures;
  body = rw (e, body) refl;
  procedures = rw (e, procedures) refl;
  after = rw e refl;
  first = rw e refl;
  names = rw e refl;
}

pub items_done : (w v : Scene) (program : Program) → v ≡ scene_after w v.known → (p : Parts) (o n : Notes) → IsJudged (items w [] program) p o n →
    (made : Source) → made ≡ source_with v p → IsJudged (judged_from w program) made o n
items_done w v program place p o n j made is_made =
    let e : made ≡ source_with w p = is_made ∙ ap (λ (x : Scene). source_with x p) place in
    record {
      is = e ∙ ap (source_with w) j.is;
      first = j.first;
      names = j.names;
    }

pub source_judged : {T E : Type 0} (f : T → Source) (schema : SchemaData) (program : Program) (said : List Naming) (procedures : List Signature) → procedures ≡ signatures program →
    (w : Scene) → w ≡ beginning (context_of schema said procedures) → (o n : Notes) (r : Result T E) → IfOk r (λ t. IsJudged (judged_from w program) (f t) o n) → IfOk r (λ t. IsJudged (judged schema program said) (f t) o n)
source_judged f schema program said procedures is w place o n (Ok t) j =
    let k : IsJudged (judged_from (beginning (context_of schema said procedures)) program) (f t) o n = subst (λ (x : Scene). IsJudged (judged_from x program) (f t) o n) place j in
    subst (λ (q : List Signature). IsJudged (judged_from (beginning (context_of schema said q)) program) (f t) o n) is k
source_judged f schema program said procedures is w place o n (Err e) j = tt

-- a source of these parts
abbrev the_source : List b.Procedure → ℕ → List (List ℕ) → List (List ℕ) → Source
the_source procedures streams outputs inputs = record { procedures = procedures; streams = streams; outputs = outputs; inputs = inputs }

pub source_is : (w : Scene) (p : Parts) (main : SourceProcedure) (ps all : List SourceProcedure) (outputs inputs : List (List ℕ)) → all ≡ main ∷ ps → p.procedures ≡ map procedure_of ps →
    procedure_of main ≡ procedure_with w start_of_source [] p.after.own p.body → outputs ≡ p.after.outputs → inputs ≡ p.after.inputs → the_source (map procedure_of all) p.after.streams outputs inputs ≡ source_with w p
source_is w p main ps all outputs inputs is_all is_ps is_main is_outputs is_inputs =
    ap (λ (xs : List SourceProcedure). the_source (map procedure_of xs) p.after.streams outputs inputs) is_all
    ∙ ap (λ (q : b.Procedure). the_source (q ∷ map procedure_of ps) p.after.streams outputs inputs) is_main
    ∙ ap (λ (qs : List b.Procedure). the_source (procedure_with w start_of_source [] p.after.own p.body ∷ qs) p.after.streams outputs inputs) (sym is_ps)
    ∙ ap (λ (x : List (List ℕ)). the_source (procedure_with w start_of_source [] p.after.own p.body ∷ p.procedures) p.after.streams x inputs) is_outputs
    ∙ ap (λ (x : List (List ℕ)). the_source (procedure_with w start_of_source [] p.after.own p.body ∷ p.procedures) p.after.streams p.after.outputs x) is_inputs
