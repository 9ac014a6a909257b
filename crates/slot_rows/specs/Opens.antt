-- The data that is stored for each client's transaction.
use Rattle.std.specs.Prelude.{ℕ, zero, suc, ◌+◌, ◌-◌, max, List, [], ◌∷◌, ◌++◌}
use Rattle.slot_rows.specs.declared.log.Undone.{Undone}
use Rattle.slot_rows.specs.declared.open.Open.{Open}

-- its changes that can be undone, the rows that it changed, and the fragments that it drew and wrote
pub record OpenView : Type 0 where
  pub log : List Undone
  pub touched : List ℕ
  pub drawn : ℕ
  pub written : ℕ

abbrev pub view_of : Open → OpenView
view_of o = record { log = o.log.items; touched = o.touched.items; drawn = o.drawn; written = o.written }

abbrev pub no_open : OpenView
no_open = record { log = []; touched = []; drawn = 0; written = 0 }

-- the transaction of the client with that number
abbrev pub open_in : List Open → ℕ → OpenView
open_in [] c = no_open
open_in (o ∷ os) zero = view_of o
open_in (o ∷ os) (suc c) = open_in os c

abbrev pub log_in : List Open → ℕ → List Undone
log_in opens c = (open_in opens c).log

abbrev pub touched_in : List Open → ℕ → List ℕ
touched_in opens c = (open_in opens c).touched

-- with one more change of a row
abbrev pub with_change : OpenView → Undone → OpenView
with_change v u = record {
  log = v.log ++ u ∷ [];
  touched = v.touched ++ u.row ∷ [];
  drawn = v.drawn + (u.after - u.before);
  written = v.written + max u.after u.before;
}
