-- The namings of a source: what they are found among does not change them again, and each names a buffer that its name means at the end.
use Rattle.std.proofs.Common.{◌≡◌, ℕ, ◌+◌, Bool, true, false, List, [], ◌∷◌, ◌++◌, Option, Some, None, length, refl, sym, ap, subst, ◌∙◌}
use Rattle.std.specs.Prelude.{◌&&◌, ◌==◌, cond}
use Rattle.std.specs.List.{filter}
use Rattle.abl_base.specs.declared.place.Place.{Place}
use Rattle.abl_values.specs.Schema.{SchemaData, field_named}
use Rattle.syntax_tree.specs.Syntax as s
use Rattle.syntax_tree.specs.Syntax.{Program, Statement, Statements}
use Rattle.syntax_tree.specs.declared.name.Word.{Word}
use Rattle.bind_names.specs.declared.names.Around.{Around}
use Rattle.bind_names.specs.declared.names.Known.{Known}
use Rattle.bind_names.specs.declared.names.NamedBuffer.{NamedBuffer}
use Rattle.bind_names.specs.declared.names.Naming.{Naming}
use Rattle.bind_names.specs.declared.names.NamingKind.TheVariants as naming_kind
use Rattle.bind_names.specs.Names.{Scene, buffers_in, distinct, field_among, has_field, named_in, names_it, with_field}
use Rattle.bind_expressions.specs.Parts.{scene_after}
use Rattle.binder.specs.Sources.{beginning, explicit_namings, inside_procedure, items, judged, namings, outside_again, signatures}
use Rattle.binder.specs.Statements.{statement, statements}
use Rattle.kind_laws.proofs.BoundKindsLemmas.Related.{AreLeaves, all_same_after, body_relates, moved, same_after, statement_relates}
use Rattle.kind_laws.proofs.BoundKindsLemmas.RelatedNames.{IsKept, Others, field_names_it, naming_or_none, varied}

-- ---- the same namings but for those that do not pass

abbrev Alike : (Naming → Bool) → List Naming → List Naming → Type 0
Alike q xs ys = filter q xs ≡ filter q ys

filter_join : (q : Naming → Bool) (xs ys : List Naming) → filter q (xs ++ ys) ≡ filter q xs ++ filter q ys
filter_join q [] ys = refl
filter_join q (x ∷ xs) ys = go (q x) (filter_join q xs ys)
  where
    go : (c : Bool) → filter q (xs ++ ys) ≡ filter q xs ++ filter q ys → cond c (x ∷ filter q (xs ++ ys)) (filter q (xs ++ ys)) ≡ cond c (x ∷ filter q xs) (filter q xs) ++ filter q ys
    go true h = ap (λ l. x ∷ l) h
    go false h = h

alike_join : (q : Naming → Bool) (ps qs rs ss : List Naming) → Alike q ps qs → Alike q rs ss → Alike q (ps ++ rs) (qs ++ ss)
alike_join q ps qs rs ss g h = filter_join q ps rs ∙ ap (λ l. l ++ filter q rs) g ∙ ap (λ l. filter q qs ++ l) h ∙ sym (filter_join q qs ss)

alike_kept : (q : Naming → Bool) → IsKept (Alike q)
alike_kept q = record { nil = refl; join = alike_join q }

-- other namings, as they are seen in the procedure of this number
abbrev others : List Naming → ℕ → Others
others said p = record { said = said; buffers = buffers_in p said; named = named_in p said }

-- ---- one procedure

-- what a field alone names, in the two sources, where it is found among these buffers
abbrev FieldsAlike : (Naming → Bool) → Scene → Others → Type 0
FieldsAlike q w d = (k : Known) (around : List Around) (block : ℕ) (word : Word) →
    Alike q (field_among (moved w k around block) word (with_field (moved w k around block) word.spelling)).names
    (field_among (varied (moved w k around block) d) word (with_field (varied (moved w k around block) d) word.spelling)).names

alike_leaves : (q : Naming → Bool) (w : Scene) (d : Others) → FieldsAlike q w d → AreLeaves (Alike q) (λ k. Unit {0}) w d
alike_leaves q w d h = record {
  before = λ k l g ok. tt;
  leaf = λ k around block ok. record { kept = alike_kept q; buffers = λ name x e kind explicit place. refl; fields = h k around block };
  definition = λ k around block x place ok. refl;
}

-- no field alone is named explicitly
abbrev is_explicit : Naming → Bool
is_explicit n = n.explicit

none_explicit : {A : Type 0} (o : Option A) (w : Scene) (x : NamedBuffer) (place : Place) → filter is_explicit (naming_or_none o (names_it w x naming_kind.Free false place)) ≡ []
none_explicit None w x place = refl
none_explicit (Some a) w x place = refl

among_explicit : (w : Scene) (word : Word) (xs : List NamedBuffer) → filter is_explicit (field_among w word xs).names ≡ []
among_explicit w word [] = refl
among_explicit w word (x ∷ []) = ap (filter is_explicit) (field_names_it w x word.spelling false word.at) ∙ none_explicit (field_named w.context.schema x.table word.spelling) w x word.at
among_explicit w word (x ∷ y ∷ xs) = refl

explicit_alike : (w : Scene) (d : Others) → FieldsAlike is_explicit w d
explicit_alike w d k around block word =
    let u = moved w k around block in
    among_explicit u word (with_field u word.spelling) ∙ sym (among_explicit (varied u d) word (with_field (varied u d) word.spelling))

-- among the same buffers a field is named alike
abbrev is_any : Naming → Bool
is_any n = true

among_alike : (w : Scene) (d : Others) (word : Word) (xs : List NamedBuffer) → (field_among w word xs).names ≡ (field_among (varied w d) word xs).names
among_alike w d word [] = refl
among_alike w d word (x ∷ []) = field_names_it w x word.spelling false word.at ∙ sym (field_names_it (varied w d) x word.spelling false word.at)
among_alike w d word (x ∷ y ∷ xs) = refl

all_alike : (w : Scene) (d : Others) → w.named ≡ d.named → FieldsAlike is_any w d
all_alike w d e k around block word =
    let u = moved w k around block in
    ap (filter is_any)
    (ap (λ xs. (field_among u word (filter (has_field u word.spelling) xs)).names) e ∙ among_alike u d word (with_field (varied u d) word.spelling))

-- ---- the items of a source

abbrev ItemsAlike : (Naming → Bool) → Scene → List Naming → Type 0
ItemsAlike q w said = (u : Scene) (p : ℕ) → u.context ≡ w.context → u.named ≡ named_in p w.context.namings → FieldsAlike q u (others said p)

items_alike : (q : Naming → Bool) (w : Scene) (said : List Naming) → ItemsAlike q w said → w.named ≡ named_in 0 w.context.namings → (names : List Word) (program : Program) →
    Alike q (items w names program).names (items (varied w (others said 0)) names program).names
items_alike q w said h e names [] = refl
items_alike q w said h e names (s.Alone t ∷ rest) =
    let d = others said 0 in
    let k = (statement w t).is.after in
    alike_join q (statement w t).names (statement (varied w d) t).names _ _
    (statement_relates (Alike q) (λ k. Unit {0}) w d (alike_leaves q w d (h w 0 refl e)) w.known w.around w.block t tt)
    (subst (λ m. Alike q (items (scene_after w k) names rest).names (items (scene_after (varied w d) m) names rest).names) (sym (same_after w d t)) (items_alike q (scene_after w k) said h e names rest))
items_alike q w said h e names (s.Procedure place name body ∷ rest) =
    let p = length names + 1 in
    let v = inside_procedure p w in
    let d = others said p in
    let k = (statements v body).is.after in
    alike_join q (statements v body).names (statements (varied v d) body).names _ _
    (body_relates (Alike q) (λ k. Unit {0}) v d (alike_leaves q v d (h v p refl refl)) v.known v.around v.block body tt)
    (subst (λ m. Alike q (items (scene_after w (outside_again w.known.own k)) (name ∷ names) rest).names (items (scene_after (varied w (others said 0)) (outside_again w.known.own m)) (name ∷ names) rest).names) (sym (all_same_after v d body))
    (items_alike q (scene_after w (outside_again w.known.own k)) said h e (name ∷ names) rest))

-- ---- the walks over a source

filter_any : (xs : List Naming) → filter is_any xs ≡ xs
filter_any [] = refl
filter_any (x ∷ xs) = ap (λ l. x ∷ l) (filter_any xs)

filter_and : (p : ℕ) (xs : List Naming) → filter (λ n. n.explicit && (n.procedure == p)) xs ≡ filter (λ n. n.procedure == p) (filter is_explicit xs)
filter_and p [] = refl
filter_and p (x ∷ xs) = go x.explicit (filter_and p xs)
  where
    go : (c : Bool) → filter (λ n. n.explicit && (n.procedure == p)) xs ≡ filter (λ n. n.procedure == p) (filter is_explicit xs) →
        cond (c && (x.procedure == p)) (x ∷ filter (λ n. n.explicit && (n.procedure == p)) xs) (filter (λ n. n.explicit && (n.procedure == p)) xs) ≡ filter (λ n. n.procedure == p) (cond c (x ∷ filter is_explicit xs) (filter is_explicit xs))
    go true h = ap (λ l. cond (x.procedure == p) (x ∷ l) l) h
    go false h = h

named_alike : (p : ℕ) (xs ys : List Naming) → Alike is_explicit xs ys → named_in p xs ≡ named_in p ys
named_alike p xs ys h = ap (distinct []) (filter_and p xs ∙ ap (filter (λ n. n.procedure == p)) h ∙ sym (filter_and p ys))

-- the explicit namings do not depend on the namings that are known before
explicit_same : (schema : SchemaData) (program : Program) (xs ys : List Naming) → Alike is_explicit (judged schema program xs).names (judged schema program ys).names
explicit_same schema program xs ys =
    items_alike is_explicit (beginning (record { schema = schema; namings = xs; procedures = signatures program })) ys (λ u p e f. explicit_alike u (others ys p)) refl [] program

all_same : (schema : SchemaData) (program : Program) (xs ys : List Naming) → Alike is_explicit xs ys → (judged schema program xs).names ≡ (judged schema program ys).names
all_same schema program xs ys h =
    sym (filter_any (judged schema program xs).names)
    ∙ items_alike is_any (beginning (record { schema = schema; namings = xs; procedures = signatures program })) ys (λ u p e f. all_alike u (others ys p) (f ∙ named_alike p xs ys h)) refl [] program
    ∙ filter_any (judged schema program ys).names

-- THE NAMINGS ARE THOSE OF THE THIRD WALK TOO
pub namings_same : (schema : SchemaData) (program : Program) → (judged schema program (namings schema program)).names ≡ namings schema program
namings_same schema program =
    sym (all_same schema program (explicit_namings schema program) (namings schema program) (explicit_same schema program [] (explicit_namings schema program)))
