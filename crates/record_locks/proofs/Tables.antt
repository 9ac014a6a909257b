-- The clients of a table after one of them changed.
use Rattle.std.proofs.Common.{◌≡◌, ℕ, zero, suc, ◌<◌, ◌≤◌, Bool, true, false, cond, List, [], ◌∷◌, ◌++◌, length, set, Option, None, IsSome, refl, sym, ap, subst, ◌∙◌, nat_cmp, get_or-set_same, get_or-set_other}
use Rattle.std.specs.Ordering.{eq_by_cmp}
use Rattle.std.specs.Cmp.{nat_cmp_total}
use Rattle.std.specs.FinMap as map
use Rattle.std.proofs.lemmas.List.{get_or_past}
use Rattle.abl_base.specs.declared.row.RowId.{RowId}
use Rattle.record_locks.specs.declared.locks.Client.{Client}
use Rattle.record_locks.specs.Settled.{has_row, settled, IsFreed}
use Rattle.record_locks.specs.Table.{client_of, lock_of, no_client, OnlyChanges, Settles}
use Rattle.record_locks.proofs.Settling.{settled_none, no_some}

-- a write at a client's place changes that client alone
pub set_only : (old : List Client) (c : ℕ) (client : Client) → c < length old → OnlyChanges old c client (set old c client)
set_only old c client within = record {
  changed = get_or-set_same old c client no_client within;
  others = λ d apart. get_or-set_other old c d client no_client apart;
}

-- beyond the table a client holds nothing
pub past_table : (table : List Client) (c : ℕ) → length table ≤ c → client_of table c ≡ no_client
past_table table c past = get_or_past table c no_client past

pub lock_past : (table : List Client) (c row : ℕ) → length table ≤ c → lock_of table c row ≡ None
lock_past table c row past = ap (λ client. map.get client.held row) (past_table table c past) ∙ map.get-empty nat_cmp row

-- nothing changes where a client beyond the table is given what it is
pub same_only : (table : List Client) (c : ℕ) (client : Client) → client_of table c ≡ client → OnlyChanges table c client table
same_only table c client is = record { changed = is; others = λ d apart. refl }

pub both : {X : Type 0} (b : Bool) (o : Option X) → o ≡ None → cond b None o ≡ None
both true o is = refl
both false o is = is

remove_none : (row : ℕ) → map.remove (map.empty {X = Bool} {R = nat_cmp}) row ≡ map.empty
remove_none row = map.same_map nat_cmp_total map.nat_cmp-IsAntisymmetric _ _
    (λ q. map.get-remove nat_cmp_total map.empty row q ∙ both (eq_by_cmp nat_cmp q row) (map.get map.empty q) (map.get-empty nat_cmp q) ∙ sym (map.get-empty nat_cmp q))

-- a client beyond the table has no lock to lose
pub released_past : (table : List Client) (c row : ℕ) → length table ≤ c
    → OnlyChanges table c (record { held = map.remove (client_of table c).held row; blocked = (client_of table c).blocked }) table
released_past table c row past =
    let none = past_table table c past in
    same_only table c _ (none ∙ sym (ap (λ client. record { held = map.remove client.held row; blocked = client.blocked }) none ∙ ap (λ held. record { held = held; blocked = None }) (remove_none row)))

pub end_wait_past : (table : List Client) (c : ℕ) → length table ≤ c → OnlyChanges table c (record { held = (client_of table c).held; blocked = None }) table
end_wait_past table c past =
    let none = past_table table c past in
    same_only table c _ (none ∙ sym (ap (λ client. record { held = client.held; blocked = None }) none))

pub settled_past : (table : List Client) (c : ℕ) (keep : List RowId) → length table ≤ c → Settles table c keep table
settled_past table c keep past = record {
  locks = λ row. lock_past table c row past ∙ sym (ap (settled (has_row keep row)) (lock_past table c row past) ∙ settled_none (has_row keep row));
  blocked = refl;
  others = λ d apart. refl;
}

-- a write at a client's place settles that client
pub set_settles : (old : List Client) (c : ℕ) (keep : List RowId) (client : Client) → c < length old
    → ((row : ℕ) → map.get client.held row ≡ settled (has_row keep row) (lock_of old c row)) → client.blocked ≡ (client_of old c).blocked → Settles old c keep (set old c client)
set_settles old c keep client within locks blocked =
    let only = set_only old c client within in
    record {
      locks = λ row. ap (λ here. map.get here.held row) only.changed ∙ locks row;
      blocked = ap (λ here. here.blocked) only.changed ∙ blocked;
      others = only.others;
    }

-- beyond the table there is no lock to free
pub nothing_freed : (table : List Client) (c : ℕ) (keep : List RowId) → length table ≤ c → ¬ ((row : ℕ) × IsFreed (has_row keep row) (lock_of table c row))
nothing_freed table c keep past r = subst (λ lock. IsFreed (has_row keep r.0) lock) (lock_past table c r.0 past) r.1

pub nothing_held : (table : List Client) (c : ℕ) → length table ≤ c → ¬ ((row : ℕ) × IsSome (lock_of table c row))
nothing_held table c past r = no_some (lock_of table c r.0) r.1 (lock_past table c r.0 past)

-- one more client at the end that holds nothing
pub pushed_same : (table : List Client) (d : ℕ) → client_of (table ++ no_client ∷ []) d ≡ client_of table d
pushed_same [] zero = refl
pushed_same [] (suc d) = refl
pushed_same (client ∷ table) zero = refl
pushed_same (client ∷ table) (suc d) = pushed_same table d
