-- Assignments, RETURN and UNDO that break no rule are well-kinded.
use Rattle.std.proofs.Common.{◌≡◌, ℕ, Bool, true, false, List, [], ◌∷◌, Option, Some, None, refl}
use Rattle.std.specs.Prelude.{◌&&◌}
use Rattle.std.specs.List.{list_all}
use Rattle.std.specs.Option.{is_some}
use Rattle.abl_base.specs.declared.place.Place.{Place}
use Rattle.abl_base.specs.declared.rule.Rule.TheVariants as rule
use Rattle.abl_base.specs.declared.value.Kind.{Kind}
use Rattle.abl_base.specs.declared.value.Kind.TheVariants.{Character}
use Rattle.abl_values.specs.Schema.{number_of_name}
use Rattle.bound_tree.specs.declared.statement.Target.{Target}
use Rattle.bound_tree.specs.declared.statement.Target.TheVariants as target
use Rattle.syntax_tree.specs.Syntax as s
use Rattle.syntax_tree.specs.Syntax.{Expression, named_at, starts_at}
use Rattle.syntax_tree.specs.declared.name.Named.{Named}
use Rattle.syntax_tree.specs.declared.name.Word.{Word}
use Rattle.bind_names.specs.Judged.{unless}
use Rattle.bind_names.specs.Sorts.{fits}
use Rattle.bind_names.specs.Names.{Scene, Meaning, TheVariable, TheField, TheBuffer, Nothing, meaning}
use Rattle.bind_statements.specs.Assignments.{assign, assignment, pair, pairs, right_side, sequence_names, target_kind, target_of, the_target}
use Rattle.bind_blocks.specs.Flow.{action, return_it, returned, undo_block}
use Rattle.bind_blocks.specs.Named.{block_named, undoing}
use Rattle.kind_laws.specs.bound_kinds.WellKinded.{Surroundings, is_action, is_assignment, is_body, is_returned, is_right_side, is_target}
use Rattle.kind_laws.proofs.BoundKindsLemmas.Parts.{Maybe, all_join, both, each_left, each_right, holds, nil_left, nil_right}
use Rattle.kind_laws.proofs.BoundKindsLemmas.Suits.{AreNumbered, IsNumbered, Means, Suits, means}
use Rattle.kind_laws.proofs.BoundKindsLemmas.Marked.{placed}

pub alone : (p : Bool) → p ≡ true → (p && true) ≡ true
alone p h = both p true h refl

-- ---- targets

abbrev pub IsTarget : Surroundings → Target → Type 0
IsTarget x t = is_target x t ≡ true

target_good : (x : Surroundings) (w : Scene) (place : Place) (m : Meaning) → Means x m → Maybe (IsTarget x) (target_of w place m).is
target_good x w place (TheVariable v mask) h = h.0
target_good x w place (TheField buffer field kind mask) h = h.there
target_good x w place (TheBuffer buffer) h = tt
target_good x w place Nothing h = tt

pub the_target_good : (x : Surroundings) (w : Scene) (name : Named) → Suits x w → AreNumbered x w (the_target w name).names → Maybe (IsTarget x) (the_target w name).is
the_target_good x w name u n = target_good x w (named_at name) (meaning w name).is (means x w name u (each_left (IsNumbered x w) (meaning w name).names _ n))

-- ---- right sides

right_good : (x : Surroundings) (w : Scene) → Suits x w → (k : Kind) (r : s.RightSide) → (right_side w (Some k) r).breaks ≡ [] → AreNumbered x w (right_side w (Some k) r).names → is_right_side x k (right_side w (Some k) r).is ≡ true
right_good x w u k (s.ValueOf e) h n = placed x w (λ t. fits t k) rule.Y5 (starts_at e) e u h n
right_good x w u k (s.NextValue place name) h n = holds _ _ _ (nil_right (unless (is_some (number_of_name 0 (sequence_names w.context.schema.sequences) name.spelling)) rule.Y1 name.at) _ h)
right_good x w u k (s.CurrentValue place name) h n = holds _ _ _ (nil_right (unless (is_some (number_of_name 0 (sequence_names w.context.schema.sequences) name.spelling)) rule.Y1 name.at) _ h)

assignment_good : (x : Surroundings) (w : Scene) → Suits x w → (o : Option Target) → Maybe (IsTarget x) o → (r : s.RightSide) → (right_side w (target_kind o) r).breaks ≡ [] → AreNumbered x w (right_side w (target_kind o) r).names →
    list_all (is_assignment x) (assignment o (right_side w (target_kind o) r).is) ≡ true
assignment_good x w u None t r h n = refl
assignment_good x w u (Some (target.Variable v)) t r h n = alone _ (both _ _ t (right_good x w u v.kind r h n))
assignment_good x w u (Some (target.Field buffer field kind)) t r h n = alone _ (both _ _ t (right_good x w u kind r h n))

pairs_good : (x : Surroundings) (w : Scene) → Suits x w → (ps : List s.Pair) → (pairs w ps).breaks ≡ [] → AreNumbered x w (pairs w ps).names → list_all (is_assignment x) (pairs w ps).is ≡ true
pairs_good x w u [] h n = refl
pairs_good x w u (p ∷ ps) h n =
    let one : (pair w p).breaks ≡ [] = nil_left (pair w p).breaks _ h in
    let named = each_left (IsNumbered x w) (pair w p).names _ n in
    all_join (is_assignment x) (pair w p).is (pairs w ps).is
    (assignment_good x w u (the_target w p.target).is (the_target_good x w p.target u (each_left (IsNumbered x w) (the_target w p.target).names _ named)) p.right
    (nil_right (the_target w p.target).breaks _ one) (each_right (IsNumbered x w) (the_target w p.target).names _ named))
    (pairs_good x w u ps (nil_right (pair w p).breaks _ h) (each_right (IsNumbered x w) (pair w p).names _ n))

pub assign_good : (x : Surroundings) (w : Scene) → Suits x w → (ps : List s.Pair) (quiet : Bool) → (assign w ps quiet).breaks ≡ [] → AreNumbered x w (assign w ps quiet).names → is_body x (assign w ps quiet).is.body ≡ true
assign_good x w u ps quiet h n = alone _ (pairs_good x w u ps h n)

-- ---- RETURN and UNDO

returned_good : (x : Surroundings) (w : Scene) → Suits x w → (o : Option Expression) → (returned w o).breaks ≡ [] → AreNumbered x w (returned w o).names → is_returned x (returned w o).is ≡ true
returned_good x w u None h n = refl
returned_good x w u (Some e) h n = placed x w (λ t. fits t Character) rule.Y5 (starts_at e) e u h n

pub action_good : (x : Surroundings) (w : Scene) → Suits x w → (block : ℕ) (act : Option s.Action) → (action w block act).breaks ≡ [] → AreNumbered x w (action w block act).names → is_action x (action w block act).is ≡ true
action_good x w u block None h n = refl
action_good x w u block (Some (s.RetryIt place label)) h n = refl
action_good x w u block (Some (s.Leave place label)) h n = refl
action_good x w u block (Some (s.Next place label)) h n = refl
action_good x w u block (Some (s.Return place error e)) h n = returned_good x w u e h n

pub undo_good : (x : Surroundings) (w : Scene) → Suits x w → (label : Option Word) (act : Option s.Action) → (undo_block w label act).breaks ≡ [] → AreNumbered x w (undo_block w label act).names → is_body x (undo_block w label act).is.body ≡ true
undo_good x w u label act h n = alone _ (action_good x w u (block_named undoing w.around label) act h n)

pub return_good : (x : Surroundings) (w : Scene) → Suits x w → (error : Bool) (e : Option Expression) → (return_it w error e).breaks ≡ [] → AreNumbered x w (return_it w error e).names → is_body x (return_it w error e).is.body ≡ true
return_good x w u true e h n = alone _ (returned_good x w u e h n)
return_good x w u false e h n = alone _ (returned_good x w u e h n)
