-- The flags of blocks and the scopes of buffers change neither kinds nor the blocks that are named.
use Rattle.std.proofs.Common.{◌≡◌, ℕ, List, [], ◌∷◌, map, refl, ap, ap₂, ◌∙◌}
use Rattle.std.specs.Prelude.{◌&&◌}
use Rattle.std.specs.List.{list_all}
use Rattle.abl_values.specs.Schema.{SchemaData}
use Rattle.bound_tree.specs.declared.expression.Variable.{Variable}
use Rattle.bound_tree.specs.Tree.{Body, Choose, Inner, Nothing, Procedure, Source, Stmt, Then}
use Rattle.buffer_scope.specs.Scoped.{scoped_body, scoped_by, scoped_stmt}
use Rattle.txn_infer.specs.Flags.{flagged_body, flagged_procedure, flagged_stmt}
use Rattle.kind_laws.specs.bound_kinds.WellKinded.{Surroundings, VariableKinds, are_procedures, begins_well, inside, is_body, is_condition, is_header, is_procedure, is_statement, is_variable, is_well_kinded, parameters_of}
use Rattle.kind_laws.specs.Placed.{is_placed_body, is_placed_header, is_placed_statement}

-- ---- kinds

mutual
  flagged_statement : (x : Surroundings) (t : Stmt) → is_statement x (flagged_stmt t) ≡ is_statement x t
  flagged_statement x (Inner h body) = ap (λ c. is_header x h && c) (flagged_inside x body)
  flagged_statement x (Choose test one other) = ap₂ (λ c d. is_condition x test && (c && d)) (flagged_inside x one) (flagged_inside x other)
  flagged_statement x t = refl

  flagged_inside : (x : Surroundings) (b : Body) → is_body x (flagged_body b) ≡ is_body x b
  flagged_inside x Nothing = refl
  flagged_inside x (Then t ts) = ap₂ (λ c d. c && d) (flagged_statement x t) (flagged_inside x ts)

mutual
  scoped_statement : (to : ℕ → List ℕ) (x : Surroundings) (t : Stmt) → is_statement x (scoped_stmt to t) ≡ is_statement x t
  scoped_statement to x (Inner h body) = ap (λ c. is_header x h && c) (scoped_inside to x body)
  scoped_statement to x (Choose test one other) = ap₂ (λ c d. is_condition x test && (c && d)) (scoped_inside to x one) (scoped_inside to x other)
  scoped_statement to x t = refl

  scoped_inside : (to : ℕ → List ℕ) (x : Surroundings) (b : Body) → is_body x (scoped_body to b) ≡ is_body x b
  scoped_inside to x Nothing = refl
  scoped_inside to x (Then t ts) = ap₂ (λ c d. c && d) (scoped_statement to x t) (scoped_inside to x ts)

-- a change of procedures that keeps their kinds
pub record KeepsKinds (f : Procedure → Procedure) : Type 0 where
  pub parameters : (q : Procedure) → (f q).parameters ≡ q.parameters
  pub kinded : (schema : SchemaData) (outer : VariableKinds) (ps : List (List Variable)) (own : VariableKinds) (q : Procedure) → is_procedure schema outer ps own (f q) ≡ is_procedure schema outer ps own q

pub flags_keep : KeepsKinds flagged_procedure
flags_keep = record {
  parameters = λ q. refl;
  kinded = λ schema outer ps own q. ap (λ c. begins_well own q && (list_all (is_variable (inside schema outer ps own q)) q.parameters && (is_header (inside schema outer ps own q) q.header && c))) (flagged_inside (inside schema outer ps own q) q.body);
}

pub scopes_keep : (to : Procedure → ℕ → List ℕ) → KeepsKinds (λ q. scoped_by (to q) q)
scopes_keep to = record {
  parameters = λ q. refl;
  kinded = λ schema outer ps own q. ap (λ c. begins_well own q && (list_all (is_variable (inside schema outer ps own q)) q.parameters && (is_header (inside schema outer ps own q) q.header && c))) (scoped_inside (to q) (inside schema outer ps own q) q.body);
}

procedures_keep : (f : Procedure → Procedure) → KeepsKinds f → (schema : SchemaData) (outer : VariableKinds) (ps : List (List Variable)) (kinds : List VariableKinds) (qs : List Procedure) → are_procedures schema outer ps kinds (map f qs) ≡ are_procedures schema outer ps kinds qs
procedures_keep f h schema outer ps [] [] = refl
procedures_keep f h schema outer ps [] (q ∷ qs) = refl
procedures_keep f h schema outer ps (own ∷ kinds) [] = refl
procedures_keep f h schema outer ps (own ∷ kinds) (q ∷ qs) = ap₂ (λ c d. c && d) (h.kinded schema outer ps own q) (procedures_keep f h schema outer ps kinds qs)

parameters_keep : (f : Procedure → Procedure) → KeepsKinds f → (qs : List Procedure) → parameters_of (map f qs) ≡ parameters_of qs
parameters_keep f h [] = refl
parameters_keep f h (q ∷ qs) = ap₂ (λ a as_. a ∷ as_) (h.parameters q) (parameters_keep f h qs)

pub source_keeps : (f : Procedure → Procedure) → KeepsKinds f → (schema : SchemaData) (kinds : List VariableKinds) (s : Source) → is_well_kinded schema kinds (record s { procedures = map f s.procedures }) ≡ is_well_kinded schema kinds s
source_keeps f h schema [] s = refl
source_keeps f h schema (main ∷ others) s =
    ap (λ ps. are_procedures schema main ps (main ∷ others) (map f s.procedures)) (parameters_keep f h s.procedures) ∙ procedures_keep f h schema main (parameters_of s.procedures) (main ∷ others) s.procedures

-- ---- blocks that are named

mutual
  flags_place : (around : List ℕ) (t : Stmt) → is_placed_statement around (flagged_stmt t) ≡ is_placed_statement around t
  flags_place around (Inner h body) = ap (λ c. is_placed_header around h && c) (flags_place_in (h.number ∷ around) body)
  flags_place around (Choose test one other) = ap₂ (λ c d. c && d) (flags_place_in around one) (flags_place_in around other)
  flags_place around t = refl

  pub flags_place_in : (around : List ℕ) (b : Body) → is_placed_body around (flagged_body b) ≡ is_placed_body around b
  flags_place_in around Nothing = refl
  flags_place_in around (Then t ts) = ap₂ (λ c d. c && d) (flags_place around t) (flags_place_in around ts)

mutual
  scopes_place : (to : ℕ → List ℕ) (around : List ℕ) (t : Stmt) → is_placed_statement around (scoped_stmt to t) ≡ is_placed_statement around t
  scopes_place to around (Inner h body) = ap (λ c. is_placed_header around h && c) (scopes_place_in to (h.number ∷ around) body)
  scopes_place to around (Choose test one other) = ap₂ (λ c d. c && d) (scopes_place_in to around one) (scopes_place_in to around other)
  scopes_place to around t = refl

  pub scopes_place_in : (to : ℕ → List ℕ) (around : List ℕ) (b : Body) → is_placed_body around (scoped_body to b) ≡ is_placed_body around b
  scopes_place_in to around Nothing = refl
  scopes_place_in to around (Then t ts) = ap₂ (λ c d. c && d) (scopes_place to around t) (scopes_place_in to around ts)
