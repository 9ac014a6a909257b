-- What is noted of each client.
use Rattle.std.specs.Prelude.{ℕ, zero, suc, Bool, false, List, [], ◌∷◌}
use Rattle.byte_rows.specs.declared.client.Client.{Client}

-- the counts of a client's transaction, and the slots that it changed
pub record ClientView : Type 0 where
  pub begun : Bool
  pub drawn : ℕ
  pub written : ℕ
  pub touched : List ℕ

abbrev pub view_of : Client → ClientView
view_of c = record { begun = c.begun; drawn = c.drawn; written = c.written; touched = c.touched.items }

-- a client that did nothing
abbrev pub no_client : ClientView
no_client = record { begun = false; drawn = 0; written = 0; touched = [] }

-- the client of that number
abbrev pub client_in : List Client → ℕ → ClientView
client_in [] k = no_client
client_in (c ∷ cs) zero = view_of c
client_in (c ∷ cs) (suc k) = client_in cs k
