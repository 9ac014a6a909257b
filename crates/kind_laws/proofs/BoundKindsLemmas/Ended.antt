-- What each procedure of a source has defined at its end, and that each naming is one of a buffer that its name means there.
use Rattle.std.proofs.Common.{◌≡◌, ℕ, ◌+◌, ◌<◌, Bool, true, false, List, [], ◌∷◌, Option, Some, None, length, suc, refl, sym, ap, subst, ◌∙◌, arith}
use Rattle.std.specs.Prelude.{◌==◌, not, if◌then◌else◌}
use Rattle.std.specs.List.{list_any}
use Rattle.std.proofs.lemmas.Bool.Decides.{nat_tests}
use Rattle.abl_base.specs.declared.place.Place.{Place}
use Rattle.abl_base.specs.declared.rule.Rule.TheVariants as rule
use Rattle.abl_values.specs.Schema.{SchemaData, field_named}
use Rattle.syntax_tree.specs.Syntax as s
use Rattle.syntax_tree.specs.Syntax.{Program, Statement, Statements}
use Rattle.syntax_tree.specs.declared.name.Word.{Word}
use Rattle.bind_names.specs.declared.names.Defined.{Defined}
use Rattle.bind_names.specs.declared.names.NamedBuffer.{NamedBuffer}
use Rattle.bind_names.specs.declared.names.Naming.{Naming}
use Rattle.bind_names.specs.declared.names.NamingKind.TheVariants as naming_kind
use Rattle.bind_names.specs.Judged.{unless}
use Rattle.bind_names.specs.Names.{Scene, field_among, has_field, named_in, names_it, with_field}
use Rattle.bind_expressions.specs.Parts.{scene_after}
use Rattle.binder.specs.Sources.{beginning, has_word, inside_procedure, items, judged, outside_again, signatures}
use Rattle.binder.specs.Statements.{statement, statements}
use Rattle.kind_laws.proofs.BoundKindsLemmas.Parts.{Each, each_join, nil_left, nil_right}
use Rattle.kind_laws.proofs.BoundKindsLemmas.Grows.{DefinesMore, IsMore, defines_same, defines_then, grows, more_then, no_more}
use Rattle.kind_laws.proofs.BoundKindsLemmas.Related.{AreLeaves, body_relates, moved, statement_relates}
use Rattle.kind_laws.proofs.BoundKindsLemmas.RelatedNames.{Others, field_names_it, naming_or_none}
use Rattle.kind_laws.proofs.BoundKindsLemmas.Sane.{AreSane, sane}
use Rattle.kind_laws.proofs.BoundKindsLemmas.Apart.{Apart, IsAt, all_apart, apart, at_end, buffer_is, defined_at_end}
use Rattle.kind_laws.proofs.BoundKindsLemmas.Numbered.{each_filter}

-- ---- what each procedure has defined at its end: the external one has number 0

abbrev pub final : Scene → List Word → Program → ℕ → Defined
final w names [] p = w.known.own
final w names (s.Alone t ∷ rest) p = final (scene_after w (statement w t).is.after) names rest p
final w names (s.Procedure place name body ∷ rest) p =
    let k = (statements (inside_procedure (length names + 1) w) body).is.after in
    if p == length names + 1 then k.own else final (scene_after w (outside_again w.known.own k)) (name ∷ names) rest p

-- these are the definitions of the procedures from here on
pub record AreFinal (F : ℕ → Defined) (w : Scene) (names : List Word) (program : Program) : Type 0 where
  pub main : F 0 ≡ final w names program 0
  pub internal : (p : ℕ) → length names < p → F p ≡ final w names program p

not_zero : (n : ℕ) → (0 == n + 1) ≡ false
not_zero n = grind (arith, nat_tests)

itself : (n : ℕ) → (n + 1 == n + 1) ≡ true
itself n = grind (arith, nat_tests)

above : (n p : ℕ) → n + 1 < p → (p == n + 1) ≡ false
above n p h = grind (arith, nat_tests)

pub final_here : (F : ℕ → Defined) (w : Scene) (names : List Word) (place : Place) (name : Word) (body : Statements) (rest : Program) → AreFinal F w names (s.Procedure place name body ∷ rest) →
    F (length names + 1) ≡ (statements (inside_procedure (length names + 1) w) body).is.after.own
final_here F w names place name body rest h =
    let k = (statements (inside_procedure (length names + 1) w) body).is.after in
    h.internal (length names + 1) (omega arith) ∙ ap (λ c. if c then k.own else final (scene_after w (outside_again w.known.own k)) (name ∷ names) rest (length names + 1)) (itself (length names))

pub final_after : (F : ℕ → Defined) (w : Scene) (names : List Word) (place : Place) (name : Word) (body : Statements) (rest : Program) → AreFinal F w names (s.Procedure place name body ∷ rest) →
    AreFinal F (scene_after w (outside_again w.known.own (statements (inside_procedure (length names + 1) w) body).is.after)) (name ∷ names) rest
final_after F w names place name body rest h =
    let k = (statements (inside_procedure (length names + 1) w) body).is.after in
    record {
      main = h.main ∙ ap (λ c. if c then k.own else final (scene_after w (outside_again w.known.own k)) (name ∷ names) rest 0) (not_zero (length names));
      internal = λ p lt. h.internal p (less (length names) p lt) ∙ ap (λ c. if c then k.own else final (scene_after w (outside_again w.known.own k)) (name ∷ names) rest p) (above (length names) p (more (length names) p lt));
    }
  where
    less : (n p : ℕ) → suc n < p → n < p
    less n p h = omega arith

    more : (n p : ℕ) → suc n < p → n + 1 < p
    more n p h = omega arith

pub final_next : (F : ℕ → Defined) (w : Scene) (names : List Word) (t : Statement) (rest : Program) → AreFinal F w names (s.Alone t ∷ rest) → AreFinal F (scene_after w (statement w t).is.after) names rest
final_next F w names t rest h = record { main = h.main; internal = h.internal }

-- the external procedure's are those that are known in the end
pub final_main : (w : Scene) (names : List Word) (program : Program) → final w names program 0 ≡ (items w names program).is.after.own
final_main w names [] = refl
final_main w names (s.Alone t ∷ rest) = final_main (scene_after w (statement w t).is.after) names rest
final_main w names (s.Procedure place name body ∷ rest) =
    let k = (statements (inside_procedure (length names + 1) w) body).is.after in
    ap (λ c. if c then k.own else final (scene_after w (outside_again w.known.own k)) (name ∷ names) rest 0) (not_zero (length names)) ∙ final_main (scene_after w (outside_again w.known.own k)) (name ∷ names) rest

-- ---- the external procedure

pub main_grows : (w : Scene) (names : List Word) (program : Program) → DefinesMore w.known.own (items w names program).is.after.own
main_grows w names [] = defines_same w.known.own
main_grows w names (s.Alone t ∷ rest) =
    let k = (statement w t).is.after in
    defines_then w.known.own k.own (items (scene_after w k) names rest).is.after.own (grows w t).own (main_grows (scene_after w k) names rest)
main_grows w names (s.Procedure place name body ∷ rest) =
    let k = (statements (inside_procedure (length names + 1) w) body).is.after in
    main_grows (scene_after w (outside_again w.known.own k)) (name ∷ names) rest

-- the definitions at a place are among those at the end
pub main_more : (F : ℕ → Defined) (w : Scene) (names : List Word) (program : Program) → AreFinal F w names program → DefinesMore w.known.own (F 0)
main_more F w names program h = subst (DefinesMore w.known.own) (sym (h.main ∙ final_main w names program)) (main_grows w names program)

-- the rules that are broken in an internal procedure, and after it
pub in_body : (w : Scene) (names : List Word) (place : Place) (name : Word) (body : Statements) (rest : Program) → (items w names (s.Procedure place name body ∷ rest)).breaks ≡ [] →
    (statements (inside_procedure (length names + 1) w) body).breaks ≡ []
in_body w names place name body rest e =
    nil_left (statements (inside_procedure (length names + 1) w) body).breaks _ (nil_right (unless (not (list_any (has_word name.spelling) names)) rule.Y3 name.at) _ e)

pub after_body : (w : Scene) (names : List Word) (place : Place) (name : Word) (body : Statements) (rest : Program) → (items w names (s.Procedure place name body ∷ rest)).breaks ≡ [] →
    (items (scene_after w (outside_again w.known.own (statements (inside_procedure (length names + 1) w) body).is.after)) (name ∷ names) rest).breaks ≡ []
after_body w names place name body rest e =
    nil_right (statements (inside_procedure (length names + 1) w) body).breaks _ (nil_right (unless (not (list_any (has_word name.spelling) names)) rule.Y3 name.at) _ e)

pub main_sane : (w : Scene) (names : List Word) (program : Program) → (items w names program).breaks ≡ [] → AreSane w.known.own → AreSane (items w names program).is.after.own
main_sane w names [] e h = h
main_sane w names (s.Alone t ∷ rest) e h =
    main_sane (scene_after w (statement w t).is.after) names rest (nil_right (statement w t).breaks _ e) (sane w t (nil_left (statement w t).breaks _ e) h)
main_sane w names (s.Procedure place name body ∷ rest) e h =
    main_sane (scene_after w (outside_again w.known.own (statements (inside_procedure (length names + 1) w) body).is.after)) (name ∷ names) rest (after_body w names place name body rest e) h

main_apart : (w : Scene) (names : List Word) (program : Program) → (items w names program).breaks ≡ [] → Apart w.context.schema [] w.known.own.buffers → Apart w.context.schema [] (items w names program).is.after.own.buffers
main_apart w names [] e h = h
main_apart w names (s.Alone t ∷ rest) e h =
    main_apart (scene_after w (statement w t).is.after) names rest (nil_right (statement w t).breaks _ e) (apart w t (nil_left (statement w t).breaks _ e) h)
main_apart w names (s.Procedure place name body ∷ rest) e h =
    main_apart (scene_after w (outside_again w.known.own (statements (inside_procedure (length names + 1) w) body).is.after)) (name ∷ names) rest (after_body w names place name body rest e) h

-- ---- each naming is one of a buffer that its name means at the end of its procedure

-- where the naming is one of those that are asked about, by whether they are explicit
abbrev pub IsFine : (Bool → Bool) → SchemaData → (ℕ → Defined) → Naming → Type 0
IsFine asked schema F n = asked n.explicit ≡ true → IsAt schema (F n.procedure).buffers n.name n.table

abbrev AreAt : SchemaData → List NamedBuffer → List NamedBuffer → Type 0
AreAt schema ds = Each (λ x. IsAt schema ds x.name x.table)

one_fine : {A : Type 0} (asked : Bool → Bool) (schema : SchemaData) (F : ℕ → Defined) (o : Option A) (n : Naming) → IsFine asked schema F n → Each (IsFine asked schema F) (naming_or_none o n)
one_fine asked schema F None n h = tt
one_fine asked schema F (Some a) n h = (h, tt)

among_fine : (asked : Bool → Bool) (F : ℕ → Defined) (w : Scene) (word : Word) (xs : List NamedBuffer) → (asked false ≡ true → AreAt w.context.schema (F w.procedure).buffers xs) → Each (IsFine asked w.context.schema F) (field_among w word xs).names
among_fine asked F w word [] h = tt
among_fine asked F w word (x ∷ []) h =
    subst (Each (IsFine asked w.context.schema F)) (sym (field_names_it w x word.spelling false word.at))
    (one_fine asked w.context.schema F (field_named w.context.schema x.table word.spelling) (names_it w x naming_kind.Free false word.at) (λ e. (h e).0))
among_fine asked F w word (x ∷ y ∷ xs) h = tt

abbrev pub own : Scene → Others
own w = record { said = w.context.namings; buffers = w.buffers; named = w.named }

fine_leaves : (asked : Bool → Bool) (F : ℕ → Defined) (w : Scene) → Apart w.context.schema [] (F w.procedure).buffers → (asked false ≡ true → AreAt w.context.schema (F w.procedure).buffers w.named) →
    AreLeaves (λ xs ys. Each (IsFine asked w.context.schema F) xs) (λ k. IsMore k.own.buffers (F w.procedure).buffers) w (own w)
fine_leaves asked F w a h = record {
  before = λ k l g m. more_then k.own.buffers l.own.buffers (F w.procedure).buffers g.own.buffers m;
  leaf = λ k around block m. record {
    kept = record { nil = tt; join = λ ps qs rs ss. each_join (IsFine asked w.context.schema F) ps rs };
    buffers = λ name x e kind explicit place. (λ _. at_end w.context.schema k.own.buffers (F w.procedure).buffers name x m a (sym (buffer_is (moved w k around block) name) ∙ e), tt);
    fields = λ word. among_fine asked F (moved w k around block) word (with_field (moved w k around block) word.spelling)
        (λ e. each_filter (λ x. IsAt w.context.schema (F w.procedure).buffers x.name x.table) (has_field (moved w k around block) word.spelling) w.named (h e));
  };
  definition = λ k around block x place m. (λ _. defined_at_end w.context.schema k.own.buffers (F w.procedure).buffers x m a, tt);
}

statement_fine : (asked : Bool → Bool) (F : ℕ → Defined) (w : Scene) (t : Statement) → Apart w.context.schema [] (F w.procedure).buffers → (asked false ≡ true → AreAt w.context.schema (F w.procedure).buffers w.named) →
    IsMore (statement w t).is.after.own.buffers (F w.procedure).buffers → Each (IsFine asked w.context.schema F) (statement w t).names
statement_fine asked F w t a h m = statement_relates (λ xs ys. Each (IsFine asked w.context.schema F) xs) (λ k. IsMore k.own.buffers (F w.procedure).buffers) w (own w) (fine_leaves asked F w a h) w.known w.around w.block t m

body_fine : (asked : Bool → Bool) (F : ℕ → Defined) (w : Scene) (ts : Statements) → Apart w.context.schema [] (F w.procedure).buffers → (asked false ≡ true → AreAt w.context.schema (F w.procedure).buffers w.named) →
    IsMore (statements w ts).is.after.own.buffers (F w.procedure).buffers → Each (IsFine asked w.context.schema F) (statements w ts).names
body_fine asked F w ts a h m = body_relates (λ xs ys. Each (IsFine asked w.context.schema F) xs) (λ k. IsMore k.own.buffers (F w.procedure).buffers) w (own w) (fine_leaves asked F w a h) w.known w.around w.block ts m

-- the external procedure's place
pub record IsMain (w : Scene) : Type 0 where
  pub procedure : w.procedure ≡ 0
  pub named : w.named ≡ named_in 0 w.context.namings

items_fine : (asked : Bool → Bool) (F : ℕ → Defined) (w : Scene) (names : List Word) (program : Program) → IsMain w → AreFinal F w names program → (items w names program).breaks ≡ [] → Apart w.context.schema [] (F 0).buffers →
    (asked false ≡ true → (p : ℕ) → AreAt w.context.schema (F p).buffers (named_in p w.context.namings)) → Each (IsFine asked w.context.schema F) (items w names program).names
items_fine asked F w names [] m f e a h = tt
items_fine asked F w names (s.Alone t ∷ rest) m f e a h =
    let k = (statement w t).is.after in
    let next = final_next F w names t rest f in
    each_join (IsFine asked w.context.schema F) (statement w t).names _
    (statement_fine asked F w t (subst (λ p. Apart w.context.schema [] (F p).buffers) (sym m.procedure) a)
    (λ c. subst (AreAt w.context.schema (F w.procedure).buffers) (sym m.named) (subst (λ p. AreAt w.context.schema (F p).buffers (named_in 0 w.context.namings)) (sym m.procedure) (h c 0)))
    (subst (λ p. IsMore k.own.buffers (F p).buffers) (sym m.procedure) (main_more F (scene_after w k) names rest next).buffers))
    (items_fine asked F (scene_after w k) names rest (record { procedure = m.procedure; named = m.named }) next (nil_right (statement w t).breaks _ e) a h)
items_fine asked F w names (s.Procedure place name body ∷ rest) m f e a h =
    let v = inside_procedure (length names + 1) w in
    let k = (statements v body).is.after in
    let here : F (length names + 1) ≡ k.own = final_here F w names place name body rest f in
    each_join (IsFine asked w.context.schema F) (statements v body).names _
    (body_fine asked F v body (subst (λ (d : Defined). Apart w.context.schema [] d.buffers) (sym here) (all_apart v body (in_body w names place name body rest e) tt)) (λ c. h c (length names + 1))
    (subst (λ (d : Defined). IsMore k.own.buffers d.buffers) (sym here) (no_more k.own.buffers)))
    (items_fine asked F (scene_after w (outside_again w.known.own k)) (name ∷ names) rest (record { procedure = m.procedure; named = m.named }) (final_after F w names place name body rest f) (after_body w names place name body rest e) a h)

-- ---- the whole source

abbrev pub start : SchemaData → Program → List Naming → Scene
start schema program said = beginning (record { schema = schema; namings = said; procedures = signatures program })

abbrev pub ends : SchemaData → Program → List Naming → ℕ → Defined
ends schema program said = final (start schema program said) [] program

pub ends_final : (schema : SchemaData) (program : Program) (said : List Naming) → AreFinal (ends schema program said) (start schema program said) [] program
ends_final schema program said = record { main = refl; internal = λ p h. refl }

pub names_fine : (asked : Bool → Bool) (schema : SchemaData) (program : Program) (said : List Naming) → (judged schema program said).breaks ≡ [] →
    (asked false ≡ true → (p : ℕ) → AreAt schema (ends schema program said p).buffers (named_in p said)) → Each (IsFine asked schema (ends schema program said)) (judged schema program said).names
names_fine asked schema program said e h =
    items_fine asked (ends schema program said) (start schema program said) [] program (record { procedure = refl; named = refl }) (ends_final schema program said) e
    (subst (λ (d : Defined). Apart schema [] d.buffers) (sym (final_main (start schema program said) [] program)) (main_apart (start schema program said) [] program e tt)) h
