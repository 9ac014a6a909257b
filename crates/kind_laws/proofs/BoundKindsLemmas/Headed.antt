-- Headers of blocks that break no rule are well-kinded.
use Rattle.std.proofs.Common.{◌≡◌, true, List, [], ◌∷◌, Option, Some, None, refl}
use Rattle.abl_base.specs.declared.place.Place.{Place}
use Rattle.abl_base.specs.declared.rule.Rule.TheVariants as rule
use Rattle.bound_tree.specs.declared.expression.Variable.{Variable}
use Rattle.bound_tree.specs.Tree as b
use Rattle.bound_tree.specs.Tree.{Expr}
use Rattle.syntax_tree.specs.Syntax as s
use Rattle.syntax_tree.specs.Syntax.{Expression, named_at, starts_at}
use Rattle.syntax_tree.specs.declared.name.Word.{Word}
use Rattle.bind_names.specs.declared.names.NamingKind.TheVariants as naming_kind
use Rattle.bind_names.specs.Sorts.{is_whole_kind, may_be_number}
use Rattle.bind_names.specs.Names.{Scene, Meaning, TheVariable, TheField, TheBuffer, meaning}
use Rattle.bind_names.specs.Names as n
use Rattle.bind_expressions.specs.Expressions.{Typed, condition, number, of_meaning}
use Rattle.bind_expressions.specs.Parts.{maybe, the_expr}
use Rattle.bind_blocks.specs.Headers.{Phrases, counter_of, counting, counts, head, on_phrase, opening, phrases, to_phrase}
use Rattle.bind_blocks.specs.Named.{block_named, undoing}
use Rattle.kind_laws.specs.bound_kinds.WellKinded.{Surroundings, if_there, is_action, is_condition, is_counting, is_header, is_number, is_reading, is_variable}
use Rattle.kind_laws.proofs.BoundKindsLemmas.Parts.{Maybe, both, each_left, each_right, holds, nil_left, nil_right}
use Rattle.kind_laws.proofs.BoundKindsLemmas.Suits.{AreNumbered, IsNumbered, Means, Suits, means}
use Rattle.kind_laws.proofs.BoundKindsLemmas.Marked.{condition_good, placed}
use Rattle.kind_laws.proofs.BoundKindsLemmas.Assigned.{action_good}
use Rattle.kind_laws.proofs.BoundKindsLemmas.Records.{looked_for_good}

-- ---- FOR

opening_good : (x : Surroundings) (w : Scene) → Suits x w → (o : s.Opening) → (opening w o).breaks ≡ [] → AreNumbered x w (opening w o).names → if_there (λ (f : b.Fetch). is_reading x f.reading) (opening w o).is ≡ true
opening_good x w u (s.Plainly word buffers) h n = refl
opening_good x w u (s.ForRecords fetch word os) h n = looked_for_good x w u naming_kind.Weak word os h n

-- ---- TO

-- the loop variable is there, and of a whole kind
pub record IsCounter (x : Surroundings) (v : Variable) : Type 0 where
  pub there : is_variable x v ≡ true
  pub whole : is_whole_kind v.kind ≡ true

counter_good : (x : Surroundings) (w : Scene) (place : Place) (m : Meaning) → Means x m → (counter_of w place m).breaks ≡ [] → Maybe (IsCounter x) (counter_of w place m).is
counter_good x w place (TheVariable v mask) g h = record { there = g.0; whole = holds _ _ _ h }
counter_good x w place (TheField buffer field kind mask) g h = tt
counter_good x w place (TheBuffer buffer) g h = tt
counter_good x w place n.Nothing g h = tt

number_good : (x : Surroundings) (w : Scene) → Suits x w → (e : Expression) → (number w e).breaks ≡ [] → AreNumbered x w (number w e).names → is_number x (number w e).is.expr ≡ true
number_good x w u e h n = placed x w may_be_number rule.Y5 (starts_at e) e u h n

by_good : (x : Surroundings) (w : Scene) → Suits x w → (o : Option Expression) → (maybe (λ e. the_expr (number w e)) o).breaks ≡ [] → AreNumbered x w (maybe (λ e. the_expr (number w e)) o).names →
    if_there (is_number x) (maybe (λ e. the_expr (number w e)) o).is ≡ true
by_good x w u None h n = refl
by_good x w u (Some e) h n = number_good x w u e h n

to_good : (x : Surroundings) (o : Option Variable) (start end : Typed) (by : Option Expr) → Maybe (IsCounter x) o → is_number x start.expr ≡ true → is_number x end.expr ≡ true → if_there (is_number x) by ≡ true →
    if_there (is_counting x) (to_phrase o start end by) ≡ true
to_good x None start end by g p q r = refl
to_good x (Some v) start end by g p q r = both _ _ (both _ _ g.there g.whole) (both _ _ p (both _ _ q r))

counting_good : (x : Surroundings) (w : Scene) → Suits x w → (c : s.Counting) → (counting w c).breaks ≡ [] → AreNumbered x w (counting w c).names → if_there (is_counting x) (counting w c).is ≡ true
counting_good x w u c h n =
    let counter = of_meaning (meaning w c.variable) (counter_of w (named_at c.variable)) in
    let more = nil_right counter.breaks _ h in
    let others = each_right (IsNumbered x w) counter.names _ n in
    let last = nil_right (number w c.start).breaks _ more in
    let ends = each_right (IsNumbered x w) (number w c.start).names _ others in
    to_good x counter.is (number w c.start).is (number w c.end).is (maybe (λ e. the_expr (number w e)) c.by).is
    (counter_good x w (named_at c.variable) (meaning w c.variable).is
    (means x w c.variable u (each_left (IsNumbered x w) (meaning w c.variable).names _ (each_left (IsNumbered x w) counter.names _ n)))
    (nil_right (meaning w c.variable).breaks _ (nil_left counter.breaks _ h)))
    (number_good x w u c.start (nil_left (number w c.start).breaks _ more) (each_left (IsNumbered x w) (number w c.start).names _ others))
    (number_good x w u c.end (nil_left (number w c.end).breaks _ last) (each_left (IsNumbered x w) (number w c.end).names _ ends))
    (by_good x w u c.by (nil_right (number w c.end).breaks _ last) (each_right (IsNumbered x w) (number w c.end).names _ ends))

counts_good : (x : Surroundings) (w : Scene) → Suits x w → (o : Option s.Counting) → (counts w o).breaks ≡ [] → AreNumbered x w (counts w o).names → if_there (is_counting x) (counts w o).is ≡ true
counts_good x w u None h n = refl
counts_good x w u (Some c) h n = counting_good x w u c h n

-- ---- phrases

pub record AreGoodPhrases (x : Surroundings) (p : Phrases) : Type 0 where
  pub while_test : if_there (is_condition x) p.while_test ≡ true
  pub on_error : if_there (λ (on : b.OnPhrase). is_action x on.action) p.on_error ≡ true
  pub on_endkey : if_there (λ (on : b.OnPhrase). is_action x on.action) p.on_endkey ≡ true

on_good : (x : Surroundings) (w : Scene) → Suits x w → (label : Option Word) (act : Option s.Action) → (on_phrase w label act).breaks ≡ [] → AreNumbered x w (on_phrase w label act).names → is_action x (on_phrase w label act).is.action ≡ true
on_good x w u label act h n = action_good x w u (block_named undoing w.around label) act h n

phrases_good : (x : Surroundings) (w : Scene) → Suits x w → (ps : List s.Phrase) → (phrases w ps).breaks ≡ [] → AreNumbered x w (phrases w ps).names → AreGoodPhrases x (phrases w ps).is
phrases_good x w u [] h n = record { while_test = refl; on_error = refl; on_endkey = refl }
phrases_good x w u (s.While place e ∷ ps) h n =
    let more = phrases_good x w u ps (nil_right (condition w e).breaks _ h) (each_right (IsNumbered x w) (condition w e).names _ n) in
    record { while_test = condition_good x w e u (nil_left (condition w e).breaks _ h) (each_left (IsNumbered x w) (condition w e).names _ n); on_error = more.on_error; on_endkey = more.on_endkey }
phrases_good x w u (s.Transaction place ∷ ps) h n = phrases_good x w u ps h n
phrases_good x w u (s.OnError place label act ∷ ps) h n =
    let more = phrases_good x w u ps (nil_right (on_phrase w label act).breaks _ h) (each_right (IsNumbered x w) (on_phrase w label act).names _ n) in
    record { while_test = more.while_test; on_error = on_good x w u label act (nil_left (on_phrase w label act).breaks _ h) (each_left (IsNumbered x w) (on_phrase w label act).names _ n); on_endkey = more.on_endkey }
phrases_good x w u (s.OnEndkey place label act ∷ ps) h n =
    let more = phrases_good x w u ps (nil_right (on_phrase w label act).breaks _ h) (each_right (IsNumbered x w) (on_phrase w label act).names _ n) in
    record { while_test = more.while_test; on_error = more.on_error; on_endkey = on_good x w u label act (nil_left (on_phrase w label act).breaks _ h) (each_left (IsNumbered x w) (on_phrase w label act).names _ n) }

-- ---- the header

pub head_good : (x : Surroundings) (w : Scene) → Suits x w → (h : s.Head) → (head w h).breaks ≡ [] → AreNumbered x w (head w h).names → is_header x (head w h).is ≡ true
head_good x w u hd h n =
    let rest = nil_right (opening w hd.opening).breaks _ h in
    let others = each_right (IsNumbered x w) (opening w hd.opening).names _ n in
    let ps = phrases_good x w u hd.phrases (nil_right (counts w hd.counting).breaks _ rest) (each_right (IsNumbered x w) (counts w hd.counting).names _ others) in
    both _ _ (counts_good x w u hd.counting (nil_left (counts w hd.counting).breaks _ rest) (each_left (IsNumbered x w) (counts w hd.counting).names _ others))
    (both _ _ ps.while_test
    (both _ _ (opening_good x w u hd.opening (nil_left (opening w hd.opening).breaks _ h) (each_left (IsNumbered x w) (opening w hd.opening).names _ n))
    (both _ _ ps.on_error ps.on_endkey)))
