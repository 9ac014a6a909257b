-- The flags that are inferred say of each block whether it starts a transaction.
use Rattle.std.proofs.Common.{◌≡◌, refl, sym, ap, ◌∙◌, subst, ℕ, zero, suc, Bool, true, false, List, [], ◌∷◌, map}
use Rattle.std.specs.Prelude.{◌&&◌, ◌||◌, slice_index_or}
use Rattle.std.specs.List.{list_all}
use Rattle.bound_tree.specs.Tree.{Body, Choose, Header, Inner, Nothing, Procedure, Source, Stmt, Then}
use Rattle.block_meaning.specs.Program.{Program, no_procedure}
use Rattle.txn_infer.specs.Flags.{flagged, flagged_body, flagged_procedure, flagged_stmt, with_flags}
use Rattle.txn_infer.specs.Undo.{has_undo}
use Rattle.txn_infer.specs.Updates.{block_updates, starts, updates, updates_in}
use Rattle.machine_laws.specs.levels.Flagged.{HasFlags, HaveFlags, IsFlagged, IsFlaggedProcedure, IsFlaggedProgram}

mutual
  -- flags make no difference to what updates
  updates_same : (t : Stmt) → updates (flagged_stmt t) ≡ updates t
  updates_same (Inner h body) = ap (block_updates h) (updates_all_same body)
  updates_same (Choose test x y) = ap (λ b. b || updates_in (flagged_body y)) (updates_all_same x) ∙ ap (λ b. updates_in x || b) (updates_all_same y)
  updates_same t = refl

  updates_all_same : (body : Body) → updates_in (flagged_body body) ≡ updates_in body
  updates_all_same Nothing = refl
  updates_all_same (Then t ts) = ap (λ b. b || updates_in (flagged_body ts)) (updates_same t) ∙ ap (λ b. updates t || b) (updates_all_same ts)

flagged_is : (h : Header) (body : Body) → IsFlagged (flagged h body) (flagged_body body)
flagged_is h body = ap (starts h) (sym (updates_all_same body))

mutual
  has_flags : (t : Stmt) → HasFlags (flagged_stmt t)
  has_flags (Inner h body) = (flagged_is h body, have_flags body)
  has_flags (Choose test x y) = (have_flags x, have_flags y)
  has_flags t = tt

  have_flags : (body : Body) → HaveFlags (flagged_body body)
  have_flags Nothing = tt
  have_flags (Then t ts) = (has_flags t, have_flags ts)

both_left : (a b : Bool) → (a && b) ≡ true → a ≡ true
both_left true b e = refl
both_left false b e = cc

both_right : (a b : Bool) → (a && b) ≡ true → b ≡ true
both_right true b e = e
both_right false b e = cc

procedure_flagged : (q : Procedure) → has_undo q.header ≡ true → IsFlaggedProcedure (flagged_procedure q)
procedure_flagged q e = record { block = flagged_is q.header q.body; undo = e; body = have_flags q.body }

none_flagged : IsFlaggedProcedure no_procedure
none_flagged = record { block = refl; undo = refl; body = tt }

procedures_flagged : (qs : List Procedure) (n : ℕ) → list_all (λ (q : Procedure). has_undo q.header) qs ≡ true → IsFlaggedProcedure (slice_index_or (map flagged_procedure qs) n no_procedure)
procedures_flagged [] n e = none_flagged
procedures_flagged (q ∷ qs) zero e = procedure_flagged q (both_left (has_undo q.header) (list_all (λ (q : Procedure). has_undo q.header) qs) e)
procedures_flagged (q ∷ qs) (suc n) e = procedures_flagged qs n (both_right (has_undo q.header) (list_all (λ (q : Procedure). has_undo q.header) qs) e)

pub inferred_flagged : (p : Program) (plain : Source) → p.source ≡ with_flags plain → list_all (λ (q : Procedure). has_undo q.header) plain.procedures ≡ true → IsFlaggedProgram p
inferred_flagged p plain is undo n = subst (λ (s : Source). IsFlaggedProcedure (slice_index_or s.procedures n no_procedure)) (sym is) (procedures_flagged plain.procedures n undo)
