-- The definitions of a procedure that breaks no rule: each variable has an initial value of its kind, and a mask for its kind.
use Rattle.std.proofs.Common.{◌≡◌, ℕ, Bool, true, false, List, [], ◌∷◌, ◌++◌, Option, Some, None, length, map, zero, suc, refl, sym, ap, subst, ◌∙◌, append-nil}
use Rattle.std.specs.Prelude.{if◌then◌else◌, slice_get, unwrap_or}
use Rattle.std.specs.Option.{is_some}
use Rattle.abl_base.specs.declared.value.Kind.{Kind}
use Rattle.abl_base.specs.declared.value.Kind.TheVariants as kind
use Rattle.abl_base.specs.declared.value.Value.{Value}
use Rattle.abl_base.specs.declared.value.Value.TheVariants as value
use Rattle.abl_base.specs.declared.place.Place.{Place}
use Rattle.abl_base.specs.declared.rule.Rule.TheVariants as rule
use Rattle.abl_values.specs.Arithmetic.{in_range}
use Rattle.abl_values.specs.Fit.{default_initial, fitted}
use Rattle.abl_values.specs.Masks.{mask_is_for}
use Rattle.abl_values.specs.Schema.{number_of_name, table_named}
use Rattle.bound_tree.specs.declared.expression.Variable.{Variable}
use Rattle.syntax_tree.specs.Syntax as s
use Rattle.syntax_tree.specs.Syntax.{Statement, Statements}
use Rattle.syntax_tree.specs.declared.name.Word.{Word}
use Rattle.syntax_tree.specs.declared.definition.VariableOption.{VariableOption}
use Rattle.syntax_tree.specs.declared.definition.VariableOption.TheVariants as opt
use Rattle.bind_names.specs.declared.names.Defined.{Defined}
use Rattle.bind_names.specs.declared.names.NamedVariable.{NamedVariable}
use Rattle.bind_names.specs.Judged.{Judged, unless, fine, breaking}
use Rattle.bind_names.specs.Sorts.{fits, sort_of_value}
use Rattle.bind_names.specs.Names.{Scene}
use Rattle.bind_expressions.specs.Expressions.{condition}
use Rattle.bind_expressions.specs.Parts.{scene_after}
use Rattle.bind_statements.specs.declared.definitions.Options.{Options}
use Rattle.bind_statements.specs.Definitions.{buffer_for, default_mask, define, initial_value, no_options, option, options, value_in, variable, with_initial, with_mask, with_variable}
use Rattle.bind_statements.specs.Runs.{run_numbered}
use Rattle.bind_blocks.specs.Headers.{head, inside}
use Rattle.binder.specs.Statements.{statement, statements}
use Rattle.binder.specs.Sources.{nothing_defined}
use Rattle.kind_laws.specs.bound_kinds.WellKinded.{are_of_kinds, is_kind, is_of_kind}
use Rattle.kind_laws.proofs.BoundKindsLemmas.Suits.{kind_is}
use Rattle.kind_laws.proofs.BoundKindsLemmas.KindsKnown.{no_undo_join, no_undo_kinds, undoable_join, undoable_kinds}
use Rattle.kind_laws.proofs.BoundKindsLemmas.Parts.{Each, Maybe, both, both_left, both_right, each_join, each_map, holds, nil_left, nil_right}
use Rattle.kind_laws.proofs.BoundKindsLemmas.Shown.{default_fits}
use Rattle.kind_laws.proofs.BoundKindsLemmas.Grows.{DefinesMore, grows}

-- ---- values of a kind

abbrev pub IsOne : Kind → Value → Type 0
IsOne k v = is_of_kind k v ≡ true

in_range_is : (k : Kind) (c : Bool) (v : Value) → IsOne k v → Maybe (IsOne k) (value_in (in_range c v))
in_range_is k true v h = h
in_range_is k false v h = tt

pub fitted_is : (v : Value) (k : Kind) → Maybe (IsOne k) (value_in (fitted v k))
unfolding fitted
fitted_is (value.Text t) kind.Character = in_range_is kind.Character _ _ refl
fitted_is (value.Int n) kind.Integer = in_range_is kind.Integer _ _ refl
fitted_is (value.Int64 n) kind.Integer = in_range_is kind.Integer _ _ refl
fitted_is (value.Dec n) kind.Integer = in_range_is kind.Integer _ _ refl
fitted_is (value.Int n) kind.Int64 = in_range_is kind.Int64 _ _ refl
fitted_is (value.Int64 n) kind.Int64 = in_range_is kind.Int64 _ _ refl
fitted_is (value.Dec n) kind.Int64 = in_range_is kind.Int64 _ _ refl
fitted_is (value.Int n) kind.Decimal = in_range_is kind.Decimal _ _ refl
fitted_is (value.Int64 n) kind.Decimal = in_range_is kind.Decimal _ _ refl
fitted_is (value.Dec n) kind.Decimal = in_range_is kind.Decimal _ _ refl
fitted_is (value.Logical c) kind.Logical = refl
fitted_is (value.Date d) kind.Date = in_range_is kind.Date _ _ refl
fitted_is v k = refl

default_is : (k : Kind) → IsOne k (default_initial k)
default_is kind.Character = refl
default_is kind.Integer = refl
default_is kind.Int64 = refl
default_is kind.Decimal = refl
default_is kind.Logical = refl
default_is kind.Date = refl

maybe_when : {A : Type 0} (P : A → Type 0) (c : Bool) (o : Option A) → Maybe P o → Maybe P (if c then o else None)
maybe_when P true o h = h
maybe_when P false o h = tt

initial_is : (k : Kind) (v : Value) → Maybe (IsOne k) (initial_value k v)
initial_is k v = maybe_when (IsOne k) (fits (sort_of_value v) k) (value_in (fitted v k)) (fitted_is v k)

unwrapped : {A : Type 0} (P : A → Type 0) (o : Option A) (d : A) → Maybe P o → P d → P (unwrap_or o d)
unwrapped P None d h g = g
unwrapped P (Some a) d h g = h

-- ---- the options of a variable

pub record AreOptions (k : Kind) (o : Options) : Type 0 where
  pub initial : Maybe (IsOne k) o.initial
  pub mask : Maybe (λ m. mask_is_for m k ≡ true) o.mask

abbrev Makes : Kind → Judged Options → Type 0
Makes k j = j.breaks ≡ [] → AreOptions k j.is

makes_if : (k : Kind) (c : Bool) (i j : Judged Options) → Makes k i → Makes k j → Makes k (if c then i else j)
makes_if k true i j g h = g
makes_if k false i j g h = h

mask_makes : (k : Kind) (mask : Word) (o : Options) → AreOptions k o → Makes k (with_mask k mask o)
mask_makes k mask o h =
    makes_if k (is_some o.mask) (fine o) (breaking (fine (record o { mask = Some mask.spelling })) (unless (mask_is_for mask.spelling k) rule.Y12 mask.at))
    (λ e. h) (λ e. record { initial = h.initial; mask = holds _ _ _ e })

initial_makes : (k : Kind) (v : Value) (place : Place) (o : Options) → AreOptions k o → Makes k (with_initial k v place o)
initial_makes k v place o h =
    makes_if k (is_some o.initial) (fine o)
    (breaking (fine (record o { initial = Some (unwrap_or (initial_value k v) (default_initial k)) })) (unless (is_some (initial_value k v)) rule.Y13 place))
    (λ e. h) (λ e. record { initial = unwrapped (IsOne k) (initial_value k v) (default_initial k) (initial_is k v) (default_is k); mask = h.mask })

option_makes : (k : Kind) (x : VariableOption) (o : Options) → AreOptions k o → Makes k (option k x o)
option_makes k (opt.NoUndo place) o h e = record { initial = h.initial; mask = h.mask }
option_makes k (opt.Label place) o h e = h
option_makes k (opt.Format place mask) o h e = mask_makes k mask o h e
option_makes k (opt.Initial place v at) o h e = initial_makes k v at o h e

options_make : (k : Kind) (o : Options) (xs : List VariableOption) → AreOptions k o → Makes k (options k o xs)
options_make k o [] h e = h
options_make k o (x ∷ xs) h e = options_make k (option k x o).is xs (option_makes k x o h (nil_left (option k x o).breaks _ e)) (nil_right (option k x o).breaks _ e)

-- ---- variables

-- the variable is not external, and the definitions list its kind at its number
pub record HasKind (d : Defined) (v : Variable) : Type 0 where
  pub own : v.external ≡ false
  pub kind : is_kind v.kind (slice_get (if v.undoable then undoable_kinds d.variables else no_undo_kinds d.variables) v.number) ≡ true

pub record IsSane (d : Defined) (v : NamedVariable) : Type 0 where
  pub has : HasKind d v.variable
  pub masked : mask_is_for v.mask v.variable.kind ≡ true

-- the variables and parameters have the listed kinds, each mask is for its variable's kind, and the initial values have these kinds
pub record AreSane (d : Defined) : Type 0 where
  pub variables : Each (IsSane d) d.variables
  pub parameters : Each (HasKind d) d.parameters
  pub undoable : are_of_kinds (undoable_kinds d.variables) d.undoable ≡ true
  pub no_undo : are_of_kinds (no_undo_kinds d.variables) d.no_undo ≡ true

-- nothing is defined yet
pub none_sane : AreSane nothing_defined
none_sane = record { variables = tt; parameters = tt; undoable = refl; no_undo = refl }

still : (k : Kind) (vs us : List Kind) (i : ℕ) → is_kind k (slice_get vs i) ≡ true → is_kind k (slice_get (vs ++ us) i) ≡ true
still k [] us i h = absurd cc
still k (v ∷ vs) us zero h = h
still k (v ∷ vs) us (suc i) h = still k vs us i h

still_either : (k : Kind) (c : Bool) (vs us ws zs : List Kind) (i : ℕ) → is_kind k (slice_get (if c then vs else ws) i) ≡ true → is_kind k (slice_get (if c then (vs ++ us) else (ws ++ zs)) i) ≡ true
still_either k true vs us ws zs i h = still k vs us i h
still_either k false vs us ws zs i h = still k ws zs i h

kind_still : (d e : Defined) (v : Variable) (more : List NamedVariable) → e.variables ≡ d.variables ++ more → HasKind d v → HasKind e v
kind_still d e v more m h = record {
  own = h.own;
  kind =
      ap (λ l. is_kind v.kind (slice_get (if v.undoable then l else no_undo_kinds e.variables) v.number)) (ap undoable_kinds m ∙ undoable_join d.variables more)
      ∙ (ap (λ l. is_kind v.kind (slice_get (if v.undoable then (undoable_kinds d.variables ++ undoable_kinds more) else l) v.number)) (ap no_undo_kinds m ∙ no_undo_join d.variables more)
      ∙ still_either v.kind v.undoable (undoable_kinds d.variables) (undoable_kinds more) (no_undo_kinds d.variables) (no_undo_kinds more) v.number h.kind);
}

pub kind_later : (d e : Defined) (v : Variable) → DefinesMore d e → HasKind d v → HasKind e v
kind_later d e v m h = kind_still d e v m.variables.added m.variables.is h

pub sane_later : (d e : Defined) (v : NamedVariable) → DefinesMore d e → IsSane d v → IsSane e v
sane_later d e v m h = record { has = kind_later d e v.variable m h.has; masked = h.masked }

-- ---- one more variable

last_kind : (k : Kind) (ks : List Kind) (vs : List Value) → are_of_kinds ks vs ≡ true → is_kind k (slice_get (ks ++ k ∷ []) (length vs)) ≡ true
last_kind k [] [] h = kind_is k
last_kind k [] (v ∷ vs) h = absurd cc
last_kind k (l ∷ ks) [] h = absurd cc
last_kind k (l ∷ ks) (v ∷ vs) h = last_kind k ks vs (both_right (is_of_kind l v) _ h)

one_value : (k : Kind) (v : Value) (ks : List Kind) (vs : List Value) → IsOne k v → are_of_kinds ks vs ≡ true → are_of_kinds (ks ++ k ∷ []) (vs ++ v ∷ []) ≡ true
one_value k v [] [] g h = both _ _ g refl
one_value k v [] (u ∷ vs) g h = absurd cc
one_value k v (l ∷ ks) [] g h = absurd cc
one_value k v (l ∷ ks) (u ∷ vs) g h = both _ _ (both_left (is_of_kind l u) _ h) (one_value k v ks vs g (both_right (is_of_kind l u) _ h))

-- its number is the length of the list before it, and its kind is listed there
new_kind : (k : Kind) (c : Bool) (name mask : List ℕ) (external : Bool) (n : ℕ) (xs : List NamedVariable) (vs us : List Value) → n ≡ length (if c then vs else us) →
    are_of_kinds (undoable_kinds xs) vs ≡ true → are_of_kinds (no_undo_kinds xs) us ≡ true →
    let one : NamedVariable = record { name = name; variable = record { external = external; undoable = c; number = n; kind = k }; mask = mask } in
    is_kind k (slice_get (if c then undoable_kinds (xs ++ one ∷ []) else no_undo_kinds (xs ++ one ∷ [])) n) ≡ true
new_kind k true name mask external n xs vs us e g h =
    ap (λ l. is_kind k (slice_get l n)) (undoable_join xs _) ∙ (ap (λ m. is_kind k (slice_get (undoable_kinds xs ++ k ∷ []) m)) e ∙ last_kind k (undoable_kinds xs) vs g)
new_kind k false name mask external n xs vs us e g h =
    ap (λ l. is_kind k (slice_get l n)) (no_undo_join xs _) ∙ (ap (λ m. is_kind k (slice_get (no_undo_kinds xs ++ k ∷ []) m)) e ∙ last_kind k (no_undo_kinds xs) us h)

-- its value is of its kind
new_undoable : (k : Kind) (v : Value) (c : Bool) (name mask : List ℕ) (external : Bool) (n : ℕ) (xs : List NamedVariable) (vs : List Value) → IsOne k v → are_of_kinds (undoable_kinds xs) vs ≡ true →
    let one : NamedVariable = record { name = name; variable = record { external = external; undoable = c; number = n; kind = k }; mask = mask } in
    are_of_kinds (undoable_kinds (xs ++ one ∷ [])) (if c then vs ++ v ∷ [] else vs) ≡ true
new_undoable k v true name mask external n xs vs g h = ap (λ l. are_of_kinds l (vs ++ v ∷ [])) (undoable_join xs _) ∙ one_value k v (undoable_kinds xs) vs g h
new_undoable k v false name mask external n xs vs g h = ap (λ l. are_of_kinds l vs) (undoable_join xs _ ∙ append-nil (undoable_kinds xs)) ∙ h

new_no_undo : (k : Kind) (v : Value) (c : Bool) (name mask : List ℕ) (external : Bool) (n : ℕ) (xs : List NamedVariable) (vs : List Value) → IsOne k v → are_of_kinds (no_undo_kinds xs) vs ≡ true →
    let one : NamedVariable = record { name = name; variable = record { external = external; undoable = c; number = n; kind = k }; mask = mask } in
    are_of_kinds (no_undo_kinds (xs ++ one ∷ [])) (if c then vs else vs ++ v ∷ []) ≡ true
new_no_undo k v true name mask external n xs vs g h = ap (λ l. are_of_kinds l vs) (no_undo_join xs _ ∙ append-nil (no_undo_kinds xs)) ∙ h
new_no_undo k v false name mask external n xs vs g h = ap (λ l. are_of_kinds l (vs ++ v ∷ [])) (no_undo_join xs _) ∙ one_value k v (no_undo_kinds xs) vs g h

new_parameter : (d : Defined) (c : Bool) (ps : List Variable) (v : Variable) → Each (HasKind d) ps → HasKind d v → Each (HasKind d) (if c then ps ++ v ∷ [] else ps)
new_parameter d true ps v h g = each_join (HasKind d) ps (v ∷ []) h (g, tt)
new_parameter d false ps v h g = h

with_variable_sane : (k : Kind) (name : Word) (o : Options) (is_parameter : Bool) (d : Defined) → DefinesMore d (with_variable k name o is_parameter d) → AreOptions k o → AreSane d → AreSane (with_variable k name o is_parameter d)
with_variable_sane k name o is_parameter d m g h =
    let e : Defined = with_variable k name o is_parameter d in
    let n : ℕ = length (if o.undoable then d.undoable else d.no_undo) in
    let mask : List ℕ = unwrap_or o.mask (default_mask k) in
    let first : Value = unwrap_or o.initial (default_initial k) in
    let is_first : IsOne k first = unwrapped (IsOne k) o.initial (default_initial k) g.initial (default_is k) in
    let v : Variable = record { external = false; undoable = o.undoable; number = n; kind = k } in
    let there : HasKind e v = record { own = refl; kind = new_kind k o.undoable name.spelling mask false n d.variables d.undoable d.no_undo refl h.undoable h.no_undo } in
    record {
      variables = each_join (IsSane e) d.variables _ (each_map (IsSane d) (IsSane e) d.variables (λ u. sane_later d e u m) h.variables)
          (record { has = there; masked = unwrapped (λ m. mask_is_for m k ≡ true) o.mask (default_mask k) g.mask (default_fits k) }, tt);
      parameters = new_parameter e is_parameter d.parameters v (each_map (HasKind d) (HasKind e) d.parameters (λ u. kind_later d e u m) h.parameters) there;
      undoable = new_undoable k first o.undoable name.spelling mask false n d.variables d.undoable is_first h.undoable;
      no_undo = new_no_undo k first o.undoable name.spelling mask false n d.variables d.no_undo is_first h.no_undo;
    }

-- definitions with the same variables, parameters and initial values are sane too
same_sane : (d e : Defined) → e.variables ≡ d.variables → e.parameters ≡ d.parameters → e.undoable ≡ d.undoable → e.no_undo ≡ d.no_undo → AreSane d → AreSane e
same_sane d e vs ps us ns h = record {
  variables = subst (Each (IsSane e)) (sym vs) (each_map (IsSane d) (IsSane e) d.variables (λ v g. record { has = again v.variable g.has; masked = g.masked }) h.variables);
  parameters = subst (Each (HasKind e)) (sym ps) (each_map (HasKind d) (HasKind e) d.parameters again h.parameters);
  undoable = ap (λ l. are_of_kinds (undoable_kinds l) e.undoable) vs ∙ (ap (are_of_kinds (undoable_kinds d.variables)) us ∙ h.undoable);
  no_undo = ap (λ l. are_of_kinds (no_undo_kinds l) e.no_undo) vs ∙ (ap (are_of_kinds (no_undo_kinds d.variables)) ns ∙ h.no_undo);
}
  where
    again : (v : Variable) → HasKind d v → HasKind e v
    again v g = kind_still d e v [] (vs ∙ sym (append-nil d.variables)) g

variable_sane : (w : Scene) (k : Kind) (name : Word) (os : List VariableOption) (is_parameter : Bool) → DefinesMore w.known.own (variable w k name os is_parameter).is.after.own → (variable w k name os is_parameter).breaks ≡ [] → AreSane w.known.own →
    AreSane (variable w k name os is_parameter).is.after.own
variable_sane w k name os is_parameter m e h =
    with_variable_sane k name (options k no_options os).is is_parameter w.known.own m
    (options_make k no_options os (record { initial = tt; mask = tt }) (nil_left (options k no_options os).breaks _ e)) h

buffer_sane : (w : Scene) (name table : Word) (o : Option ℕ) → AreSane w.known.own → AreSane (buffer_for w name table o).is.after.own
buffer_sane w name table None h = h
buffer_sane w name table (Some t) h = same_sane w.known.own _ refl refl refl refl h

define_sane : (w : Scene) (d : s.Definition) → DefinesMore w.known.own (define w d).is.after.own → (define w d).breaks ≡ [] → AreSane w.known.own → AreSane (define w d).is.after.own
define_sane w (s.Variable name k os) m e h = variable_sane w k name os false m e h
define_sane w (s.Parameter direction place name k os) m e h = variable_sane w k name os true m (nil_left (variable w k name os true).breaks _ e) h
define_sane w (s.Buffer name table) m e h = buffer_sane w name table (table_named w.context.schema table.spelling) h
define_sane w (s.Stream name) m e h = same_sane w.known.own _ refl refl refl refl h

-- ---- statements

run_sane : (w : Scene) (name : Word) (as_ : List s.Argument) (quiet : Bool) (o : Option ℕ) → AreSane w.known.own → AreSane (run_numbered w name as_ quiet o).is.after.own
run_sane w name as_ quiet None h = h
run_sane w name as_ quiet (Some p) h = h

mutual
  pub sane : (w : Scene) (t : Statement) → (statement w t).breaks ≡ [] → AreSane w.known.own → AreSane (statement w t).is.after.own
  sane w (s.Block h body) e g = all_sane (inside h w) body (nil_right (head (inside h w) h).breaks _ e) g
  sane w (s.Choose test then_it else_it) e g =
      let rest = nil_right (condition w test).breaks _ e in
      all_sane (scene_after w (statement w then_it).is.after) else_it (nil_right (statement w then_it).breaks _ rest) (sane w then_it (nil_left (statement w then_it).breaks _ rest) g)
  sane w (s.Define d) e g = define_sane w d (grows w (s.Define d)).own e g
  sane w (s.Assign ps quiet) e g = g
  sane w (s.Find word x os) e g = g
  sane w (s.Create x quiet) e g = g
  sane w (s.Delete x quiet) e g = g
  sane w (s.Release x quiet) e g = g
  sane w (s.Undo place label act) e g = g
  sane w (s.LeaveBlock place label) e g = g
  sane w (s.NextBlock place label) e g = g
  sane w (s.ReturnIt place error value) e g = g
  sane w s.Stop e g = g
  sane w (s.Run name as_ quiet) e g = run_sane w name as_ quiet (number_of_name 0 (map (λ p. p.name) w.context.procedures) name.spelling) g
  sane w (s.Import name targets quiet) e g = g
  sane w (s.Export name es) e g = g
  sane w (s.Put name plain items) e g = g
  sane w (s.Message es) e g = g
  sane w (s.InputFrom name None) e g = g
  sane w (s.InputFrom name (Some file)) e g = g
  sane w (s.OutputTo name None append_it) e g = g
  sane w (s.OutputTo name (Some file) append_it) e g = g

  pub all_sane : (w : Scene) (ts : Statements) → (statements w ts).breaks ≡ [] → AreSane w.known.own → AreSane (statements w ts).is.after.own
  all_sane w s.Nothing e g = g
  all_sane w (s.Then t ts) e g = all_sane (scene_after w (statement w t).is.after) ts (nil_right (statement w t).breaks _ e) (sane w t (nil_left (statement w t).breaks _ e) g)
