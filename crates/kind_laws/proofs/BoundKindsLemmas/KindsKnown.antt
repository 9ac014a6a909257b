-- The kinds of the variables that are known after a part of a source are those that it defines.
use Rattle.std.proofs.Common.{◌≡◌, ◌+◌, ℕ, Bool, true, false, List, [], ◌∷◌, ◌++◌, Option, Some, None, length, map, refl, sym, ap, ◌∙◌, append_assoc, append-nil}
use Rattle.std.specs.Prelude.{◌&&◌, ◌||◌, not, if◌then◌else◌}
use Rattle.std.specs.List.{list_any}
use Rattle.std.specs.Option.{is_some}
use Rattle.abl_base.specs.declared.value.Kind.{Kind}
use Rattle.abl_values.specs.Schema.{number_of_name, table_named}
use Rattle.syntax_tree.specs.Syntax as s
use Rattle.syntax_tree.specs.Syntax.{Program, Statement, Statements}
use Rattle.syntax_tree.specs.declared.name.Word.{Word}
use Rattle.syntax_tree.specs.declared.definition.VariableOption.{VariableOption}
use Rattle.syntax_tree.specs.declared.definition.VariableOption.TheVariants as opt
use Rattle.bind_names.specs.declared.names.Defined.{Defined}
use Rattle.bind_names.specs.declared.names.NamedVariable.{NamedVariable}
use Rattle.bind_names.specs.Judged.{Judged}
use Rattle.bind_names.specs.Names.{Scene}
use Rattle.bind_expressions.specs.Parts.{scene_after}
use Rattle.bind_statements.specs.declared.definitions.Options.{Options}
use Rattle.bind_statements.specs.Definitions.{buffer_for, no_options, option, options, variable}
use Rattle.bind_statements.specs.Runs.{run_numbered}
use Rattle.bind_blocks.specs.Headers.{inside}
use Rattle.binder.specs.Sources.{inside_procedure, items, outside_again}
use Rattle.binder.specs.Statements.{statement, statements}
use Rattle.kind_laws.specs.bound_kinds.Kinds.{is_no_undo, kind_defined, kinds_in, kinds_within, outer_kinds}
use Rattle.kind_laws.specs.bound_kinds.WellKinded.{VariableKinds}

-- ---- the kinds of the variables that are defined

abbrev pub undoable_kinds : List NamedVariable → List Kind
undoable_kinds [] = []
undoable_kinds (v ∷ vs) = if v.variable.undoable then v.variable.kind ∷ undoable_kinds vs else undoable_kinds vs

abbrev pub no_undo_kinds : List NamedVariable → List Kind
no_undo_kinds [] = []
no_undo_kinds (v ∷ vs) = if v.variable.undoable then no_undo_kinds vs else v.variable.kind ∷ no_undo_kinds vs

abbrev pub kinds_known : Defined → VariableKinds
kinds_known d = record { undoable = undoable_kinds d.variables; no_undo = no_undo_kinds d.variables }

put_first : {A : Type 0} (c : Bool) (x : A) (xs ys : List A) → (if c then x ∷ (xs ++ ys) else (xs ++ ys)) ≡ (if c then x ∷ xs else xs) ++ ys
put_first true x xs ys = refl
put_first false x xs ys = refl

put_else : {A : Type 0} (c : Bool) (x : A) (xs ys : List A) → (if c then (xs ++ ys) else x ∷ (xs ++ ys)) ≡ (if c then xs else x ∷ xs) ++ ys
put_else true x xs ys = refl
put_else false x xs ys = refl

pub undoable_join : (xs ys : List NamedVariable) → undoable_kinds (xs ++ ys) ≡ undoable_kinds xs ++ undoable_kinds ys
undoable_join [] ys = refl
undoable_join (x ∷ xs) ys = ap (λ l. if x.variable.undoable then x.variable.kind ∷ l else l) (undoable_join xs ys) ∙ put_first x.variable.undoable x.variable.kind (undoable_kinds xs) (undoable_kinds ys)

pub no_undo_join : (xs ys : List NamedVariable) → no_undo_kinds (xs ++ ys) ≡ no_undo_kinds xs ++ no_undo_kinds ys
no_undo_join [] ys = refl
no_undo_join (x ∷ xs) ys = ap (λ l. if x.variable.undoable then l else x.variable.kind ∷ l) (no_undo_join xs ys) ∙ put_else x.variable.undoable x.variable.kind (no_undo_kinds xs) (no_undo_kinds ys)

-- ---- what is added

-- the kinds known later are those known before and these
pub record AddsKinds (d e : Defined) (ks : VariableKinds) : Type 0 where
  pub undoable : undoable_kinds e.variables ≡ undoable_kinds d.variables ++ ks.undoable
  pub no_undo : no_undo_kinds e.variables ≡ no_undo_kinds d.variables ++ ks.no_undo

no_kind : (d e : Defined) → e.variables ≡ d.variables → AddsKinds d e (record { undoable = []; no_undo = [] })
no_kind d e same = record {
  undoable = ap undoable_kinds same ∙ sym (append-nil (undoable_kinds d.variables));
  no_undo = ap no_undo_kinds same ∙ sym (append-nil (no_undo_kinds d.variables));
}

kinds_then : (d e f : Defined) (x y : VariableKinds) → AddsKinds d e x → AddsKinds e f y → AddsKinds d f (record { undoable = x.undoable ++ y.undoable; no_undo = x.no_undo ++ y.no_undo })
kinds_then d e f x y g h = record {
  undoable = h.undoable ∙ (ap (λ l. l ++ y.undoable) g.undoable ∙ append_assoc (undoable_kinds d.variables) x.undoable y.undoable);
  no_undo = h.no_undo ∙ (ap (λ l. l ++ y.no_undo) g.no_undo ∙ append_assoc (no_undo_kinds d.variables) x.no_undo y.no_undo);
}

-- ---- NO-UNDO

undoable_if : (c : Bool) (i j : Judged Options) (b : Bool) → i.is.undoable ≡ b → j.is.undoable ≡ b → (if c then i else j).is.undoable ≡ b
undoable_if true i j b e f = e
undoable_if false i j b e f = f

and_false : (c : Bool) → false ≡ c && false
and_false true = refl
and_false false = refl

and_true : (c : Bool) → c ≡ c && true
and_true true = refl
and_true false = refl

option_undoable : (k : Kind) (x : VariableOption) (o : Options) → (option k x o).is.undoable ≡ o.undoable && not (is_no_undo x)
option_undoable k (opt.NoUndo place) o = and_false o.undoable
option_undoable k (opt.Label place) o = and_true o.undoable
option_undoable k (opt.Format place mask) o = undoable_if (is_some o.mask) _ _ (o.undoable && true) (and_true o.undoable) (and_true o.undoable)
option_undoable k (opt.Initial place v at) o = undoable_if (is_some o.initial) _ _ (o.undoable && true) (and_true o.undoable) (and_true o.undoable)

options_undoable : (k : Kind) (o : Options) (xs : List VariableOption) → (options k o xs).is.undoable ≡ o.undoable && not (list_any is_no_undo xs)
options_undoable k o [] = and_true o.undoable
options_undoable k o (x ∷ xs) =
    options_undoable k (option k x o).is xs
    ∙ (ap (λ c. c && not (list_any is_no_undo xs)) (option_undoable k x o)
    ∙ step o.undoable (is_no_undo x) (list_any is_no_undo xs))
  where
    step : (a b c : Bool) → (a && not b) && not c ≡ a && not (b || c)
    step true true c = refl
    step true false c = refl
    step false b c = refl

-- ---- definitions

-- one more variable
one_kind : (d : Defined) (name : List ℕ) (k : Kind) (c b : Bool) (n : ℕ) (mask : List ℕ) (e : Defined) → c ≡ not b →
    e.variables ≡ d.variables ++ record { name = name; variable = record { external = false; undoable = c; number = n; kind = k }; mask = mask } ∷ [] →
    AddsKinds d e (if b then record { undoable = []; no_undo = k ∷ [] } else record { undoable = k ∷ []; no_undo = [] })
one_kind d name k true true n mask e is same = absurd cc
one_kind d name k false false n mask e is same = absurd cc
one_kind d name k true false n mask e is same = record { undoable = ap undoable_kinds same ∙ undoable_join d.variables _; no_undo = ap no_undo_kinds same ∙ no_undo_join d.variables _ }
one_kind d name k false true n mask e is same = record { undoable = ap undoable_kinds same ∙ undoable_join d.variables _; no_undo = ap no_undo_kinds same ∙ no_undo_join d.variables _ }

variable_adds : (w : Scene) (k : Kind) (name : Word) (os : List VariableOption) (is_parameter : Bool) → AddsKinds w.known.own (variable w k name os is_parameter).is.after.own (kind_defined k os)
variable_adds w k name os is_parameter =
    one_kind w.known.own name.spelling k (options k no_options os).is.undoable (list_any is_no_undo os) _ _ (variable w k name os is_parameter).is.after.own (options_undoable k no_options os) refl

buffer_adds : (w : Scene) (name table : Word) (o : Option ℕ) → AddsKinds w.known.own (buffer_for w name table o).is.after.own (record { undoable = []; no_undo = [] })
buffer_adds w name table None = no_kind _ _ refl
buffer_adds w name table (Some t) = no_kind _ _ refl

run_adds : (w : Scene) (name : Word) (as_ : List s.Argument) (quiet : Bool) (o : Option ℕ) → AddsKinds w.known.own (run_numbered w name as_ quiet o).is.after.own (record { undoable = []; no_undo = [] })
run_adds w name as_ quiet None = no_kind _ _ refl
run_adds w name as_ quiet (Some p) = no_kind _ _ refl

mutual
  pub kinds_added : (w : Scene) (t : Statement) → AddsKinds w.known.own (statement w t).is.after.own (kinds_in t)
  kinds_added w (s.Block h body) = all_kinds_added (inside h w) body
  kinds_added w (s.Choose test then_it else_it) =
      let k = (statement w then_it).is.after in
      kinds_then w.known.own k.own (statements (scene_after w k) else_it).is.after.own (kinds_in then_it) (kinds_within else_it) (kinds_added w then_it) (all_kinds_added (scene_after w k) else_it)
  kinds_added w (s.Define (s.Variable name k os)) = variable_adds w k name os false
  kinds_added w (s.Define (s.Parameter direction place name k os)) = variable_adds w k name os true
  kinds_added w (s.Define (s.Buffer name table)) = buffer_adds w name table (table_named w.context.schema table.spelling)
  kinds_added w (s.Define (s.Stream name)) = no_kind _ _ refl
  kinds_added w (s.Assign ps quiet) = no_kind _ _ refl
  kinds_added w (s.Find which x os) = no_kind _ _ refl
  kinds_added w (s.Create x quiet) = no_kind _ _ refl
  kinds_added w (s.Delete x quiet) = no_kind _ _ refl
  kinds_added w (s.Release x quiet) = no_kind _ _ refl
  kinds_added w (s.Undo place label act) = no_kind _ _ refl
  kinds_added w (s.LeaveBlock place label) = no_kind _ _ refl
  kinds_added w (s.NextBlock place label) = no_kind _ _ refl
  kinds_added w (s.ReturnIt place error e) = no_kind _ _ refl
  kinds_added w s.Stop = no_kind _ _ refl
  kinds_added w (s.Run name as_ quiet) = run_adds w name as_ quiet (number_of_name 0 (map (λ p. p.name) w.context.procedures) name.spelling)
  kinds_added w (s.Import name targets quiet) = no_kind _ _ refl
  kinds_added w (s.Export name es) = no_kind _ _ refl
  kinds_added w (s.Put name is_plain xs) = no_kind _ _ refl
  kinds_added w (s.Message es) = no_kind _ _ refl
  kinds_added w (s.InputFrom name None) = no_kind _ _ refl
  kinds_added w (s.InputFrom name (Some file)) = no_kind _ _ refl
  kinds_added w (s.OutputTo name None append_it) = no_kind _ _ refl
  kinds_added w (s.OutputTo name (Some file) append_it) = no_kind _ _ refl

  pub all_kinds_added : (w : Scene) (ts : Statements) → AddsKinds w.known.own (statements w ts).is.after.own (kinds_within ts)
  all_kinds_added w s.Nothing = no_kind _ _ refl
  all_kinds_added w (s.Then t ts) =
      let k = (statement w t).is.after in
      kinds_then w.known.own k.own (statements (scene_after w k) ts).is.after.own (kinds_in t) (kinds_within ts) (kinds_added w t) (all_kinds_added (scene_after w k) ts)

-- ---- procedures

-- an internal procedure
pub kinds_inside : (w : Scene) (p : ℕ) (body : Statements) → kinds_known (statements (inside_procedure p w) body).is.after.own ≡ kinds_within body
kinds_inside w p body =
    let it = all_kinds_added (inside_procedure p w) body in
    ap (λ u. record { undoable = u; no_undo = no_undo_kinds (statements (inside_procedure p w) body).is.after.own.variables }) it.undoable
    ∙ ap (λ n. record { undoable = (kinds_within body).undoable; no_undo = n }) it.no_undo

-- the external one
outer_added : (w : Scene) (names : List Word) (program : Program) → AddsKinds w.known.own (items w names program).is.after.own (outer_kinds program)
outer_added w names [] = no_kind _ _ refl
outer_added w names (s.Alone t ∷ rest) =
    let k = (statement w t).is.after in
    kinds_then w.known.own k.own (items (scene_after w k) names rest).is.after.own (kinds_in t) (outer_kinds rest) (kinds_added w t) (outer_added (scene_after w k) names rest)
outer_added w names (s.Procedure place name body ∷ rest) =
    let v = inside_procedure (length names + 1) w in
    let k = (statements v body).is.after in
    outer_added (scene_after w (outside_again w.known.own k)) (name ∷ names) rest

-- where nothing was defined before
pub kinds_outside : (w : Scene) (program : Program) → w.known.own.variables ≡ [] → kinds_known (items w [] program).is.after.own ≡ outer_kinds program
kinds_outside w program none =
    let it = outer_added w [] program in
    let d = (items w [] program).is.after.own in
    ap (λ u. record { undoable = u; no_undo = no_undo_kinds d.variables }) (it.undoable ∙ ap (λ vs. undoable_kinds vs ++ (outer_kinds program).undoable) none)
    ∙ ap (λ n. record { undoable = (outer_kinds program).undoable; no_undo = n }) (it.no_undo ∙ ap (λ vs. no_undo_kinds vs ++ (outer_kinds program).no_undo) none)
