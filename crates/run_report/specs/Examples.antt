-- Worked rows, each computed from the definitions.
use Rattle.std.specs.Prelude.{◌≡◌, refl, true, false, None, Some, [], ◌∷◌, ℕ, codes, pos}
use Rattle.std.specs.Fmt.{digits}
use Rattle.abl_values.specs.Schema.{SchemaData}
use Rattle.database_protocol.specs.declared.operation.Op.{Op}
use Rattle.database_protocol.specs.declared.operation.Op.TheVariants.{Enter, Leave, Back, Next, Lock, NextValue, End}
use Rattle.database_protocol.specs.declared.answer.Answer.{Answer}
use Rattle.database_protocol.specs.declared.answer.Answer.TheVariants.{Done, Committed, Blocked, Deadlock, Found, Value}
use Rattle.database_protocol.specs.declared.event.Event.{Event}
use Rattle.abl_base.specs.declared.rule.Rule.TheVariants.{F1, Y1}
use Rattle.run_report.specs.declared.refusal.Refusal.TheVariants.{Schema, Source}
use Rattle.run_report.specs.Report.{status_lines}
use Rattle.run_report.specs.Trace.{trace_line, trace_part}

abbrev pub event_by : ℕ → Op → Answer → Event
event_by client op answer = record { client = client; op = op; answer = answer }

abbrev pub no_schema : SchemaData
no_schema = record { tables = []; sequences = []; order = [] }

-- an undo of a transaction, which then commits
an_undo :
    trace_part no_schema (codes "a" ∷ []) (event_by 0 Enter Done ∷ event_by 0 (Back 1) Done ∷ event_by 0 (Leave []) (Committed 0) ∷ event_by 0 End Done ∷ [])
    ≡ codes "== trace ==\n1 a Enter Done\n2 a Back 1 Done\n3 a Leave 0 Committed\n4 a End Done\n"
unfolding digits
an_undo = refl

-- a client that waits for another
a_wait :
    trace_line no_schema (codes "a" ∷ codes "b" ∷ []) 12 (event_by 1 (Lock 0 (record { 0 = 8192 }) true true) (Blocked (0 ∷ [])))
    ≡ codes "12 b Lock 8192 X W Blocked a\n"
unfolding digits
a_wait = refl

-- a table and a sequence
abbrev pub shop : SchemaData
shop =
    record {
      tables = record { name = codes "Customer"; fields = []; indexes = []; primary = None } ∷ [];
      sequences = record { name = codes "orders"; initial = pos 0; increment = pos 1 } ∷ [];
      order = true ∷ false ∷ [];
    }

-- a search that finds a row
a_search : trace_line shop (codes "a" ∷ []) 3 (event_by 0 (Next 0 None [] None true) (Found (record { 0 = 8192 }) [] [])) ≡ codes "3 a Next Customer Found 8192\n"
unfolding digits
a_search = refl

-- two clients that wait for each other
a_cycle : trace_line shop (codes "a" ∷ codes "b" ∷ []) 9 (event_by 1 (Lock 0 (record { 0 = 8193 }) false true) (Deadlock (1 ∷ 0 ∷ []))) ≡ codes "9 b Lock 8193 S W Deadlock b a\n"
unfolding digits
a_cycle = refl

-- the next value of a sequence
a_value : trace_line shop (codes "a" ∷ []) 4 (event_by 0 (NextValue 0) (Value (pos 12))) ≡ codes "4 a NextValue orders Value 12\n"
unfolding digits
a_value = refl

-- the line about a schema file that breaks a rule
a_broken_schema : status_lines (codes "a" ∷ []) [] (Schema F1 1) ≡ codes "abl: schema F1 at line 1\n"
unfolding digits
a_broken_schema = refl

-- the lines about a source that breaks a rule in its own file, and in one that it needs
a_broken_source : status_lines (codes "a" ∷ []) [] (Source 0 None Y1 (record { line = 2; column = 1 })) ≡ codes "abl: a: Y1 at 2:1\n"
unfolding digits
a_broken_source = refl

a_broken_file : status_lines (codes "a" ∷ []) [] (Source 0 (Some (codes "bad.i")) Y1 (record { line = 2; column = 1 })) ≡ codes "abl: a: Y1 at bad.i:2:1\n"
unfolding digits
a_broken_file = refl
