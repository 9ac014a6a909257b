-- What an answer that is no success leaves as it was.
use Rattle.std.proofs.Common.{◌≡◌, ℕ, ◌+◌, Bool, false, cond, ◌&&◌, ap}
use Rattle.std.specs.FinMap.{get}
use Rattle.database_meaning.specs.Setting.{Setting}
use Rattle.database_meaning.specs.State.{State, Client}
use Rattle.database_meaning.specs.Steps.{after, own_after, blocked_after, row_of_answer, is_success, committed_after, sequences_after, frees_some}
use Rattle.database_meaning.specs.Laws.{IsUnchanged}
use Rattle.database_protocol.specs.declared.operation.Op.{Op}
use Rattle.database_protocol.specs.declared.answer.Answer.{Answer}
use Rattle.database_meaning.proofs.Good.{part_same, laid_same}

module _ (f : Setting) (s : State) (c : ℕ) (op : Op) (a : Answer) (fails : is_success a ≡ false) where
  stays_as : {A : Type 0} (part : Client → A) → ((b : Bool) → b ≡ false → part (record (cond b (own_after f s c op (row_of_answer a)) (s.client c)) { blocked = blocked_after s c op a }) ≡ part (s.client c)) → (d : ℕ) → part ((after f s c op a).client d) ≡ part (s.client d)
  stays_as part same d = part_same f s c op a part (same (is_success a) fails) d

  held_as : (b : Bool) → b ≡ false → (cond b (own_after f s c op (row_of_answer a)) (s.client c)) ≡ s.client c
  held_as b e = ap (λ x. cond x (own_after f s c op (row_of_answer a)) (s.client c)) e

  pub unchanged_by : IsUnchanged f s (after f s c op a)
  unchanged_by =
      record {
        committed = ap (λ b. cond b (committed_after s c op) s.committed) fails;
        rows = λ row. laid_same f.clients (after f s c op a).client s.client (after f s c op a).committed s.committed row
            (λ d. ap (λ o. get o row) (stays_as (λ cl. cl.overlay) (λ b e. ap (λ (cl : Client). cl.overlay) (held_as b e)) d))
            (ap (λ b. get (cond b (committed_after s c op) s.committed) row) fails);
        overlays = stays_as (λ cl. cl.overlay) (λ b e. ap (λ (cl : Client). cl.overlay) (held_as b e));
        levels = stays_as (λ cl. cl.levels) (λ b e. ap (λ (cl : Client). cl.levels) (held_as b e));
        locks = stays_as (λ cl. cl.held) (λ b e. ap (λ (cl : Client). cl.held) (held_as b e));
        reserved_keys = stays_as (λ cl. cl.reserved_keys) (λ b e. ap (λ (cl : Client). cl.reserved_keys) (held_as b e));
        sequences = ap (λ b. cond b (sequences_after f s op) s.sequences) fails;
        frees = ap (λ b. cond (b && frees_some s c op) (s.frees + 1) s.frees) fails;
      }
