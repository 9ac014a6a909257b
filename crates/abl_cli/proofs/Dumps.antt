-- The table that a dump names, and what came of its rows.
use Rattle.std.proofs.Common.{◌≡◌, ◌<◌, ◌+◌, ℕ, Bool, true, false, List, [], ◌∷◌, Some, Ok, Err, Result, arith, cond, length}
use Rattle.std.specs.Prelude.{IfErr, IsTrue, OnOk, not}
use Rattle.std.specs.Result.{result_err}
use Rattle.std.proofs.lemmas.List.{length-map}
use Rattle.storage.specs.faults.Faults.{Rose}
use Rattle.host_io.specs.Out.{OutState}
use Rattle.abl_values.specs.Schema.{SchemaData, number_of_name, same_name, table_named, table_names}
use Rattle.disk_database.specs.declared.refusals.DumpRefusal.{DumpRefusal}
use Rattle.disk_database.specs.Answers.{HasText, IsDumped, IsNotDumped, is_disk, is_judged, is_output}
use Rattle.run_works.specs.Disks.{DiskState, IsUntouched, ReadsAsDatabase}
use Rattle.abl_cli.specs.Stored.{IsDumpCause, has_all_rows, has_whole_lines}

-- ---- the number of a table

below : (k : ℕ) (names : List (List ℕ)) (name : List ℕ) (n : ℕ) → number_of_name k names name ≡ Some n → n < k + length names
below k [] name n e = cc
below k (x ∷ xs) name n e = go (same_name x name) e (below (k + 1) xs name n)
  where
    go : (b : Bool) → cond b (Some k) (number_of_name (k + 1) xs name) ≡ Some n → (number_of_name (k + 1) xs name ≡ Some n → n < k + 1 + length xs) → n < k + length (x ∷ xs)
    go true e h = let same : k ≡ n = cc in omega arith
    go false e h = let below_it : n < k + 1 + length xs = h e in omega arith

-- the number of a name is that of a table
pub table_is_within : (schema : SchemaData) (name : List ℕ) (n : ℕ) → table_named schema name ≡ Some n → n < length schema.tables
unfolding table_named
table_is_within schema name n e =
    let within : n < 0 + length (table_names schema.tables) = below 0 (table_names schema.tables) name n e in
    let many : length (table_names schema.tables) ≡ length schema.tables = simp length-map in
    omega (arith, within, many)

-- ---- what came of the rows

module _ (schema : SchemaData) (was now : DiskState) where
  pub dump_cause : (written : Result (Unit {0}) DumpRefusal) → OnOk written (IsTrue was.observable → HasText was.seen schema) → OnOk written (ReadsAsDatabase was schema) → IfErr written (IsNotDumped schema was.observable was.seen) →
      IfErr written (λ (e : DumpRefusal). is_disk e ≡ true → Rose was.failures now.failures) → IfErr written (λ (e : DumpRefusal). is_judged e ≡ true → IsUntouched was now) → IsDumpCause schema was now (result_err written)
  dump_cause (Ok done) text born refused rose untouched = (text, born)
  dump_cause (Err why) text born refused rose untouched = (refused, rose, untouched)

  pub dumped_by : (table : ℕ) (old between : OutState) (written : Result (Unit {0}) DumpRefusal) → OnOk written (IsDumped schema was.observable was.seen table true true old between) →
      IfErr written (λ (e : DumpRefusal). IsDumped schema was.observable was.seen table false (not (is_output e)) old between) →
      IsDumped schema was.observable was.seen table (has_all_rows (result_err written)) (has_whole_lines (result_err written)) old between
  dumped_by table old between (Ok done) whole part = whole
  dumped_by table old between (Err why) whole part = part
