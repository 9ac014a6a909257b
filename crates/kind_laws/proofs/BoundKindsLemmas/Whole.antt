-- A SOURCE THAT BREAKS NO RULE Y IS BOUND TO A WELL-KINDED ONE
use Rattle.std.proofs.Common.{◌≡◌, ℕ, ◌+◌, Bool, true, false, List, [], ◌∷◌, ◌++◌, Option, Some, None, length, map, refl, sym, ap, subst, ◌∙◌, arith}
use Rattle.std.specs.Prelude.{◌&&◌, ◌==◌, if◌then◌else◌, slice_get, Ok}
use Rattle.std.specs.List.{filter, list_all, list_any}
use Rattle.std.proofs.lemmas.Bool.Decides.{nat_tests}
use Rattle.abl_base.specs.declared.value.Kind.{Kind}
use Rattle.abl_values.specs.Schema.{SchemaData, field_named, table_at}
use Rattle.bind_names.specs.declared.names.NamingKind.TheVariants as naming_kind
use Rattle.abl_base.specs.declared.place.Place.{Place}
use Rattle.bound_tree.specs.declared.expression.Variable.{Variable}
use Rattle.bound_tree.specs.Tree.{Body, Procedure, Source}
use Rattle.syntax_tree.specs.Syntax as s
use Rattle.syntax_tree.specs.Syntax.{Program, Statement, Statements}
use Rattle.syntax_tree.specs.declared.name.Word.{Word}
use Rattle.bind_names.specs.declared.names.Defined.{Defined}
use Rattle.bind_names.specs.declared.names.NamedBuffer.{NamedBuffer}
use Rattle.bind_names.specs.declared.names.NamedVariable.{NamedVariable}
use Rattle.bind_names.specs.declared.names.Naming.{Naming}
use Rattle.bind_names.specs.declared.violation.Violation.{Violation}
use Rattle.bind_names.specs.Judged.{earlier, first, first_of}
use Rattle.bind_names.specs.Names.{Context, Scene, buffers_in, field_among, from_outside, has_name, named_in, names_it, with_field}
use Rattle.bind_expressions.specs.Parts.{scene_after}
use Rattle.binder.specs.Sources.{bound, buffer_def, inside_procedure, items, judged, namings, or_first, outside_again, procedure_with, signatures, violations}
use Rattle.binder.specs.Statements.{statement, statements}
use Rattle.kind_laws.specs.bound_kinds.Kinds.{inner_kinds, kinds_of_source, kinds_within}
use Rattle.kind_laws.specs.bound_kinds.WellKinded.{Surroundings, VariableKinds, are_procedures, is_body, is_kind, is_masked, is_procedure, is_variable, is_well_kinded, parameters_of}
use Rattle.kind_laws.proofs.BoundKindsLemmas.Parts.{Each, Maybe, both, each_join, each_left, each_map, each_right, equal, nil_left, nil_right}
use Rattle.kind_laws.proofs.BoundKindsLemmas.Suits.{IsGood, IsNumbered, IsOf, Match}
use Rattle.kind_laws.proofs.BoundKindsLemmas.Grows.{DefinesMore, all_grow, grows}
use Rattle.kind_laws.proofs.BoundKindsLemmas.Stated.{appended, body_good, statement_good}
use Rattle.kind_laws.proofs.BoundKindsLemmas.KindsKnown.{kinds_inside, kinds_known, kinds_outside}
use Rattle.kind_laws.proofs.BoundKindsLemmas.Sane.{AreSane, HasKind, IsSane, all_sane, none_sane}
use Rattle.kind_laws.proofs.BoundKindsLemmas.Related.{AreLeaves, body_relates, moved, statement_relates}
use Rattle.kind_laws.proofs.BoundKindsLemmas.RelatedNames.{field_names_it, naming_or_none}
use Rattle.kind_laws.proofs.BoundKindsLemmas.Apart.{IsAt}
use Rattle.kind_laws.proofs.BoundKindsLemmas.Numbered.{AllNamed, each_distinct, each_passing, has_all, number_in, number_is, table_in}
use Rattle.kind_laws.proofs.BoundKindsLemmas.Formals.{all_add}
use Rattle.kind_laws.proofs.BoundKindsLemmas.Namings.{namings_same}
use Rattle.kind_laws.proofs.BoundKindsLemmas.Ended.{AreFinal, IsFine, IsMain, after_body, ends, ends_final, final_after, final_main, final_next, in_body, main_more, main_sane, names_fine, own, start}

-- ---- the namings have the number of the procedure that they are in

abbrev IsIn : ℕ → Naming → Type 0
IsIn p n = n.procedure ≡ p

one_in : {A : Type 0} (p : ℕ) (o : Option A) (n : Naming) → n.procedure ≡ p → Each (IsIn p) (naming_or_none o n)
one_in p None n h = tt
one_in p (Some a) n h = (h, tt)

among_in : (w : Scene) (word : Word) (xs : List NamedBuffer) → Each (IsIn w.procedure) (field_among w word xs).names
among_in w word [] = tt
among_in w word (x ∷ []) =
    subst (Each (IsIn w.procedure)) (sym (field_names_it w x word.spelling false word.at))
    (one_in w.procedure (field_named w.context.schema x.table word.spelling) (names_it w x naming_kind.Free false word.at) refl)
among_in w word (x ∷ y ∷ xs) = tt

in_leaves : (w : Scene) → AreLeaves (λ xs ys. Each (IsIn w.procedure) xs) (λ k. Unit {0}) w (own w)
in_leaves w = record {
  before = λ k l g m. tt;
  leaf = λ k around block m. record {
    kept = record { nil = tt; join = λ ps qs rs ss. each_join (IsIn w.procedure) ps rs };
    buffers = λ name x e kind explicit place. (refl, tt);
    fields = λ word. among_in (moved w k around block) word (with_field (moved w k around block) word.spelling);
  };
  definition = λ k around block x place m. (refl, tt);
}

statement_in : (w : Scene) (t : Statement) → Each (IsIn w.procedure) (statement w t).names
statement_in w t = statement_relates (λ xs ys. Each (IsIn w.procedure) xs) (λ k. Unit {0}) w (own w) (in_leaves w) w.known w.around w.block t tt

body_in : (w : Scene) (ts : Statements) → Each (IsIn w.procedure) (statements w ts).names
body_in w ts = body_relates (λ xs ys. Each (IsIn w.procedure) xs) (λ k. Unit {0}) w (own w) (in_leaves w) w.known w.around w.block ts tt

-- ---- numbers

-- the naming has, in its procedure, the number of a buffer of the table that it names
abbrev pub IsPlaced : SchemaData → List Naming → Naming → Type 0
IsPlaced schema said n = table_in schema (map buffer_def (buffers_in n.procedure said)) (number_in (buffers_in n.procedure said) n.name) ≡ table_at schema n.table

abbrev Says : SchemaData → (ℕ → Defined) → Naming → Type 0
Says schema F n = IsAt schema (F n.procedure).buffers n.name n.table

both_each : {A : Type 0} (P Q R : A → Type 0) (xs : List A) → ((x : A) → P x → Q x → R x) → Each P xs → Each Q xs → Each R xs
both_each P Q R [] f g h = tt
both_each P Q R (x ∷ xs) f g h = (f x g.0 h.0, both_each P Q R xs f g.1 h.1)

and_left : (p q : Bool) → (p && q) ≡ true → p ≡ true
and_left true q e = refl
and_left false q e = absurd cc

and_right : (p q : Bool) → (p && q) ≡ true → q ≡ true
and_right true q e = e
and_right false q e = absurd cc

at_in : (schema : SchemaData) (F : ℕ → Defined) (p : ℕ) (n : Naming) → n.procedure ≡ p → Says schema F n → IsAt schema (F p).buffers n.name n.table
at_in schema F p n e h = subst (λ q. IsAt schema (F q).buffers n.name n.table) e h

-- the buffers that a procedure names explicitly
named_at_end : (schema : SchemaData) (F : ℕ → Defined) (said : List Naming) (p : ℕ) → Each (IsFine (λ e. e) schema F) said → AllNamed (IsAt schema (F p).buffers) (named_in p said)
named_at_end schema F said p h =
    each_distinct (IsAt schema (F p).buffers) [] (filter (λ n. n.explicit && (n.procedure == p)) said) tt
    (each_passing (λ n. IsAt schema (F p).buffers n.name n.table) (λ n. n.explicit && (n.procedure == p)) said
    (each_map (IsFine (λ e. e) schema F) (λ n. (n.explicit && (n.procedure == p)) ≡ true → IsAt schema (F p).buffers n.name n.table) said
    (λ n g e. at_in schema F p n (equal n.procedure p (and_right n.explicit (n.procedure == p) e)) (g (and_left n.explicit (n.procedure == p) e))) h))

-- all buffers that it names
buffers_at_end : (schema : SchemaData) (F : ℕ → Defined) (said : List Naming) (p : ℕ) → Each (Says schema F) said → AllNamed (IsAt schema (F p).buffers) (buffers_in p said)
buffers_at_end schema F said p h =
    each_distinct (IsAt schema (F p).buffers) [] (filter (λ n. n.procedure == p) said) tt
    (each_passing (λ n. IsAt schema (F p).buffers n.name n.table) (λ n. n.procedure == p) said
    (each_map (Says schema F) (λ n. (n.procedure == p) ≡ true → IsAt schema (F p).buffers n.name n.table) said (λ n g e. at_in schema F p n (equal n.procedure p e) g) h))

equal_itself : (n : ℕ) → (n == n) ≡ true
equal_itself n = grind (arith, nat_tests)

each_one : {A : Type 0} (P : A → Type 0) (xs : List A) → ((ys zs : List A) (x : A) → xs ≡ ys ++ x ∷ zs → P x) → Each P xs
each_one P [] f = tt
each_one P (x ∷ xs) f = (f [] xs x refl, each_one P xs (λ ys zs y e. f (x ∷ ys) zs y (ap (λ l. x ∷ l) e)))

each_at : {A : Type 0} (P : A → Type 0) (xs ys : List A) (x : A) → Each P (xs ++ x ∷ ys) → P x
each_at P xs ys x h = (each_right P xs (x ∷ ys) h).0

all_placed : (schema : SchemaData) (F : ℕ → Defined) (said : List Naming) → Each (Says schema F) said → Each (IsPlaced schema said) said
all_placed schema F said h =
    each_one (IsPlaced schema said) said (λ ys zs n e.
    let there = each_at (λ m. (m.procedure == n.procedure) ≡ true → list_any (has_name m.name) (buffers_in n.procedure said) ≡ true) ys zs n
    (subst (Each (λ m. (m.procedure == n.procedure) ≡ true → list_any (has_name m.name) (buffers_in n.procedure said) ≡ true)) e (has_all (λ m. m.procedure == n.procedure) [] said)) in
    number_is schema (F n.procedure).buffers (buffers_in n.procedure said) n.name n.table (buffers_at_end schema F said n.procedure h)
    (each_at (Says schema F) ys zs n (subst (Each (Says schema F)) e h)) (there (equal_itself n.procedure)))

-- ---- variables

kind_good : (x : Surroundings) (d : Defined) (v : Variable) → x.own ≡ kinds_known d → HasKind d v → is_variable x v ≡ true
kind_good x d v e h =
    ap (λ c. is_kind v.kind (chosen x v c)) h.own ∙ (ap (λ (i : VariableKinds). is_kind v.kind (slice_get (if v.undoable then i.undoable else i.no_undo) v.number)) e ∙ h.kind)
  where
    chosen : Surroundings → Variable → Bool → Option Kind
    chosen x v c = let all = if c then x.outer else x.own in slice_get (if v.undoable then all.undoable else all.no_undo) v.number

outer_good : (x : Surroundings) (d : Defined) (v : NamedVariable) → x.outer ≡ kinds_known d → IsSane d v → IsGood x (from_outside v)
outer_good x d v e h = record {
  there = ap (λ (i : VariableKinds). is_kind v.variable.kind (slice_get (if v.variable.undoable then i.undoable else i.no_undo) v.variable.number)) e ∙ h.has.kind;
  masked = h.masked;
}

all_kinds : (x : Surroundings) (d : Defined) (vs : List Variable) → x.own ≡ kinds_known d → Each (HasKind d) vs → list_all (is_variable x) vs ≡ true
all_kinds x d [] e h = refl
all_kinds x d (v ∷ vs) e h = both _ _ (kind_good x d v e h.0) (all_kinds x d vs e h.1)

-- ---- procedures

-- the surroundings of the statements of a procedure
abbrev around : SchemaData → List (List Variable) → Defined → List NamedBuffer → Defined → Surroundings
around schema parameters outer buffers d = record {
  schema = schema;
  buffers = map buffer_def buffers;
  own = kinds_known d;
  outer = kinds_known outer;
  parameters = parameters;
}

-- what is the same for all procedures of a source
pub record IsSource (c : Context) (ps : List (List Variable)) : Type 0 where
  pub masked : is_masked c.schema ≡ true
  pub main : List Variable
  pub others : List (List Variable)
  pub parameters : ps ≡ main ∷ others
  pub match : Match c.procedures others

numbered_in : (x : Surroundings) (w : Scene) (n : Naming) → x.schema ≡ w.context.schema → x.buffers ≡ map buffer_def w.buffers → w.buffers ≡ buffers_in w.procedure w.context.namings → n.procedure ≡ w.procedure →
    IsPlaced w.context.schema w.context.namings n → IsNumbered x w n
numbered_in x w n e f g i h =
    let at : w.buffers ≡ buffers_in n.procedure w.context.namings = g ∙ ap (λ p. buffers_in p w.context.namings) (sym i) in
    ap (λ sc. table_in sc x.buffers (number_in w.buffers n.name)) e
    ∙ ap (λ bs. table_in w.context.schema bs (number_in w.buffers n.name)) f
    ∙ ap (λ bs. table_in w.context.schema (map buffer_def bs) (number_in bs n.name)) at ∙ h

sane_fewer : (d e : Defined) → DefinesMore d e → AreSane e → Each (IsSane e) d.variables
sane_fewer d e m h = each_left (IsSane e) d.variables m.variables.added (subst (Each (IsSane e)) m.variables.is h.variables)

-- the variables of a procedure are good in its surroundings
own_good : (schema : SchemaData) (ps : List (List Variable)) (o : Defined) (bs : List NamedBuffer) (d : Defined) (vs : List NamedVariable) → Each (IsSane d) vs → Each (IsGood (around schema ps o bs d)) vs
own_good schema ps o bs d vs h =
    each_map (IsSane d) (IsGood (around schema ps o bs d)) vs (λ v g. record { there = kind_good (around schema ps o bs d) d v.variable refl g.has; masked = g.masked }) h

outside_good : (schema : SchemaData) (ps : List (List Variable)) (o : Defined) (bs : List NamedBuffer) (d : Defined) (vs : List NamedVariable) → Each (IsSane o) vs → Each (λ v. IsGood (around schema ps o bs d) (from_outside v)) vs
outside_good schema ps o bs d vs h = each_map (IsSane o) (λ v. IsGood (around schema ps o bs d) (from_outside v)) vs (λ v g. outer_good (around schema ps o bs d) o v refl g) h

-- what the items of a source are bound to is well-kinded, where these are the definitions of the external procedure
pub record AreGoodItems (schema : SchemaData) (ps : List (List Variable)) (bs : List NamedBuffer) (statements : Body) (others : List Procedure) (kinds : List VariableKinds) (o : Defined) : Type 0 where
  pub body : is_body (around schema ps o bs o) statements ≡ true
  pub procedures : are_procedures schema (kinds_known o) ps kinds others ≡ true

is_of : (x : Surroundings) (w : Scene) → x.schema ≡ w.context.schema → IsSource w.context x.parameters → IsOf x w
is_of x w e h = record { schema = e; masked = h.masked; main = h.main; others = h.others; parameters = h.parameters; match = h.match }

-- one statement of the external procedure
alone_good : (F : ℕ → Defined) (ps : List (List Variable)) (w : Scene) (t : Statement) → IsMain w → w.buffers ≡ buffers_in 0 w.context.namings → w.known.outer ≡ None → IsSource w.context ps →
    DefinesMore (statement w t).is.after.own (F 0) → AreSane (F 0) → (statement w t).breaks ≡ [] → Each (IsPlaced w.context.schema w.context.namings) (statement w t).names →
    is_body (around w.context.schema ps (F 0) w.buffers (F 0)) (statement w t).is.body ≡ true
alone_good F ps w t m bs out src more sanity e n =
    let x = around w.context.schema ps (F 0) w.buffers (F 0) in
    let k = (statement w t).is.after in
    let none : k.outer ≡ None = (grows w t).outer ∙ out in
    statement_good x w (is_of x w refl src) t
    (record {
      own = own_good w.context.schema ps (F 0) w.buffers (F 0) k.own.variables (sane_fewer k.own (F 0) more sanity);
      outer = subst (Maybe (λ (d : Defined). Each (λ v. IsGood x (from_outside v)) d.variables)) (sym none) tt;
    })
    e
    (both_each (IsIn w.procedure) (IsPlaced w.context.schema w.context.namings) (IsNumbered x w) (statement w t).names
    (λ y g h. numbered_in x w y refl refl (bs ∙ ap (λ p. buffers_in p w.context.namings) (sym m.procedure)) g h) (statement_in w t) n)

-- an internal procedure
procedure_good : (F : ℕ → Defined) (ps : List (List Variable)) (w : Scene) (p : ℕ) (place : Place) (name : Word) (body : Statements) → IsSource w.context ps → DefinesMore w.known.own (F 0) → AreSane (F 0) →
    (statements (inside_procedure p w) body).breaks ≡ [] → Each (IsPlaced w.context.schema w.context.namings) (statements (inside_procedure p w) body).names →
    is_procedure w.context.schema (kinds_known (F 0)) ps (kinds_within body)
    (procedure_with (inside_procedure p w) place name.spelling (statements (inside_procedure p w) body).is.after.own (statements (inside_procedure p w) body).is.body) ≡ true
procedure_good F ps w p place name body src more sanity e n =
    let v = inside_procedure p w in
    let k = (statements v body).is.after in
    let x = around w.context.schema ps (F 0) v.buffers k.own in
    let sound : AreSane k.own = all_sane v body e none_sane in
    subst (λ own. is_procedure w.context.schema (kinds_known (F 0)) ps own (procedure_with v place name.spelling k.own (statements v body).is.body) ≡ true) (kinds_inside w p body)
    (both _ _ (both _ _ sound.undoable sound.no_undo)
    (both _ _ (all_kinds x k.own k.own.parameters refl sound.parameters)
    (both _ _ refl
    (body_good x v (is_of x v refl (record { masked = src.masked; main = src.main; others = src.others; parameters = src.parameters; match = src.match })) body
    (record {
      own = own_good w.context.schema ps (F 0) v.buffers k.own k.own.variables sound.variables;
      outer = subst (Maybe (λ (d : Defined). Each (λ v. IsGood x (from_outside v)) d.variables)) (sym (all_grow v body).outer) (outside_good w.context.schema ps (F 0) v.buffers k.own w.known.own.variables (sane_fewer w.known.own (F 0) more sanity));
    })
    e
    (both_each (IsIn p) (IsPlaced w.context.schema w.context.namings) (IsNumbered x v) (statements v body).names (λ y g h. numbered_in x v y refl refl refl g h) (body_in v body) n)))))

items_good : (F : ℕ → Defined) (ps : List (List Variable)) (w : Scene) (names : List Word) (program : Program) → IsMain w → w.buffers ≡ buffers_in 0 w.context.namings → w.known.outer ≡ None → IsSource w.context ps →
    AreFinal F w names program → AreSane (F 0) → (items w names program).breaks ≡ [] → Each (IsPlaced w.context.schema w.context.namings) (items w names program).names →
    AreGoodItems w.context.schema ps w.buffers (items w names program).is.body (items w names program).is.procedures (inner_kinds program) (F 0)
items_good F ps w names [] m bs out src f sanity e n = record { body = refl; procedures = refl }
items_good F ps w names (s.Alone t ∷ rest) m bs out src f sanity e n =
    let k = (statement w t).is.after in
    let next = final_next F w names t rest f in
    let source : IsSource (scene_after w k).context ps = record { masked = src.masked; main = src.main; others = src.others; parameters = src.parameters; match = src.match } in
    let later = items_good F ps (scene_after w k) names rest (record { procedure = m.procedure; named = m.named }) bs ((grows w t).outer ∙ out) source next sanity
    (nil_right (statement w t).breaks _ e) (each_right (IsPlaced w.context.schema w.context.namings) (statement w t).names _ n) in
    record {
      body = appended (around w.context.schema ps (F 0) w.buffers (F 0)) (statement w t).is.body (items (scene_after w k) names rest).is.body
          (alone_good F ps w t m bs out src (main_more F (scene_after w k) names rest next) sanity (nil_left (statement w t).breaks _ e) (each_left (IsPlaced w.context.schema w.context.namings) (statement w t).names _ n))
          later.body;
      procedures = later.procedures;
    }
items_good F ps w names (s.Procedure place name body ∷ rest) m bs out src f sanity e n =
    let p = length names + 1 in
    let v = inside_procedure p w in
    let k = (statements v body).is.after in
    let u = scene_after w (outside_again w.known.own k) in
    let source : IsSource u.context ps = record { masked = src.masked; main = src.main; others = src.others; parameters = src.parameters; match = src.match } in
    let later = items_good F ps u (name ∷ names) rest (record { procedure = m.procedure; named = m.named }) bs refl source (final_after F w names place name body rest f) sanity
    (after_body w names place name body rest e) (each_right (IsPlaced w.context.schema w.context.namings) (statements v body).names _ n) in
    record {
      body = later.body;
      procedures = both _ _
          (procedure_good F ps w p place name body src (main_more F w names (s.Procedure place name body ∷ rest) f) sanity (in_body w names place name body rest e)
          (each_left (IsPlaced w.context.schema w.context.namings) (statements v body).names _ n))
          later.procedures;
    }

-- the parameters of the procedures are those of their signatures
items_match : (w : Scene) (names : List Word) (program : Program) → Match (signatures program) (parameters_of (items w names program).is.procedures)
items_match w names [] = tt
items_match w names (s.Alone t ∷ rest) = items_match (scene_after w (statement w t).is.after) names rest
items_match w names (s.Procedure place name body ∷ rest) =
    let v = inside_procedure (length names + 1) w in
    (sym (all_add v body), items_match (scene_after w (outside_again w.known.own (statements v body).is.after)) (name ∷ names) rest)

-- ---- the whole source

-- a source whose parts are good is well-kinded
source_good : (schema : SchemaData) (program : Program) (said : List Naming) → let w = start schema program said in let it = (items w [] program).is in
    AreSane it.after.own → AreGoodItems schema (it.after.own.parameters ∷ parameters_of it.procedures) w.buffers it.body it.procedures (inner_kinds program) it.after.own → is_well_kinded schema (kinds_of_source program) (judged schema program said).is ≡ true
source_good schema program said sanity h =
    let w = start schema program said in
    let it = (items w [] program).is in
    let d = it.after.own in
    subst (λ main. is_well_kinded schema (main ∷ inner_kinds program) (judged schema program said).is ≡ true) (kinds_outside w program refl)
    (both _ _
    (both _ _ (both _ _ sanity.undoable sanity.no_undo)
    (both _ _ (all_kinds (around schema (d.parameters ∷ parameters_of it.procedures) d w.buffers d) d d.parameters refl sanity.parameters) (both _ _ refl h.body)))
    h.procedures)

-- the namings of a source that breaks no rule
pub names_placed : (schema : SchemaData) (program : Program) → (judged schema program (namings schema program)).breaks ≡ [] → Each (IsPlaced schema (namings schema program)) (judged schema program (namings schema program)).names
names_placed schema program e =
    let said = namings schema program in
    let F = ends schema program said in
    let same : (judged schema program said).names ≡ said = namings_same schema program in
    let explicit : Each (IsFine (λ e. e) schema F) said = subst (Each (IsFine (λ e. e) schema F)) same (names_fine (λ e. e) schema program said e (λ c. absurd cc)) in
    let fine : Each (IsFine (λ e. true) schema F) said = subst (Each (IsFine (λ e. true) schema F)) same (names_fine (λ e. true) schema program said e (λ c p. named_at_end schema F said p explicit)) in
    let says : Each (Says schema F) said = each_map (IsFine (λ e. true) schema F) (Says schema F) said (λ n g. g refl) fine in
    subst (Each (IsPlaced schema said)) (sym same) (all_placed schema F said says)

judged_good : (schema : SchemaData) (program : Program) → is_masked schema ≡ true → (judged schema program (namings schema program)).breaks ≡ [] → is_well_kinded schema (kinds_of_source program) (judged schema program (namings schema program)).is ≡ true
judged_good schema program masked e =
    let said = namings schema program in
    let w = start schema program said in
    let it = (items w [] program).is in
    let F = ends schema program said in
    let placed : Each (IsPlaced schema said) (judged schema program said).names = names_placed schema program e in
    let sound : AreSane it.after.own = main_sane w [] program e none_sane in
    let at : F 0 ≡ it.after.own = final_main w [] program in
    let source : IsSource w.context (it.after.own.parameters ∷ parameters_of it.procedures) = record { masked = masked; main = it.after.own.parameters; others = parameters_of it.procedures; parameters = refl; match = items_match w [] program } in
    source_good schema program said sound
    (subst (AreGoodItems schema (it.after.own.parameters ∷ parameters_of it.procedures) w.buffers it.body it.procedures (inner_kinds program)) at
    (items_good F (it.after.own.parameters ∷ parameters_of it.procedures) w [] program (record { procedure = refl; named = refl }) refl refl source (ends_final schema program said) (subst AreSane (sym at) sound) e placed))

stays : (v : Violation) (vs : List Violation) → first_of (Some v) vs ≡ None → ⊥
stays v [] e = absurd cc
stays v (u ∷ vs) e = stays (earlier (Some v) u) vs e

pub no_first : (vs : List Violation) → first vs ≡ None → vs ≡ []
no_first [] e = refl
no_first (v ∷ vs) e = absurd (stays v vs e)

-- what is bound breaks no rule, and is the tree
pub record IsBound (o : Option Violation) (t u : Source) : Type 0 where
  pub none : o ≡ None
  pub tree : t ≡ u

pub is_bound : (o : Option Violation) (t tree : Source) → or_first o t ≡ Ok tree → IsBound o t tree
is_bound None t tree e = record { none = refl; tree = cc }
is_bound (Some v) t tree e = absurd cc

pub well_kinded : (schema : SchemaData) (program : Program) (tree : Source) → is_masked schema ≡ true → bound schema program ≡ Ok tree → is_well_kinded schema (kinds_of_source program) tree ≡ true
well_kinded schema program tree masked e =
    let it = is_bound (first (violations schema program)) (judged schema program (namings schema program)).is tree e in
    let fine = no_first (violations schema program) it.none in
    subst (λ t. is_well_kinded schema (kinds_of_source program) t ≡ true) it.tree (judged_good schema program masked (nil_left (judged schema program (namings schema program)).breaks _ fine))
