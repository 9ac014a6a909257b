-- The text that a run writes to standard output, and the lines on how a command ended.
use Rattle.std.specs.Prelude.{ℕ, ◌==◌, if◌then◌else◌, List, [], ◌∷◌, ◌++◌, Option, Some, None, codes, decimal, slice_get}
use Rattle.std.specs.List.{flat_map}
use Rattle.abl_base.specs.Rules.{rule_name}
use Rattle.database_protocol.specs.Ends.{stop_name}
use Rattle.database_protocol.specs.declared.ends.ClientEnd.{ClientEnd}
use Rattle.database_protocol.specs.declared.ends.ClientEnd.TheVariants as end
use Rattle.abl_values.specs.Schema.{SchemaData}
use Rattle.database_protocol.specs.declared.event.Event.{Event}
use Rattle.client_output.specs.declared.section.Section.{Section}
use Rattle.command_arguments.specs.declared.parts.Mode.{Mode}
use Rattle.command_arguments.specs.declared.parts.Mode.TheVariants.{Trace, Quiet}
use Rattle.run_report.specs.Trace.{trace_part}
use Rattle.run_report.specs.declared.refusal.Refusal.{Refusal}
use Rattle.run_report.specs.declared.refusal.Refusal.TheVariants.{Usage, File, TooLong, Schema, NoTable, Source, NotCreated, AlreadyCreated, SchemaDiffers, Disk, Client, Output, NoMemory}

-- a line feed, but where the byte is one
abbrev pub line_end_after : ℕ → List ℕ
line_end_after b = if b == 10 then [] else 10 ∷ []

-- a line feed if the bytes do not end with one; nothing for empty bytes
abbrev pub line_end_of : List ℕ → List ℕ
line_end_of [] = []
line_end_of (b ∷ []) = line_end_after b
line_end_of (b ∷ c ∷ bs) = line_end_of (c ∷ bs)

-- a part of the report: its heading and its bytes
abbrev pub part_of : List ℕ → List ℕ → List ℕ
part_of title bytes = codes "== " ++ title ++ codes " ==" ++ 10 ∷ bytes ++ line_end_of bytes

-- a client's part: the default section, then each named output
abbrev pub report_of : List ℕ → List Section → List ℕ
report_of name [] = part_of name []
report_of name (section ∷ named) =
    part_of name section.bytes ++ flat_map (λ s. part_of (name ++ 58 ∷ s.name) s.bytes) named

-- the parts of clients of these names that wrote these sections
abbrev pub reports : List (List ℕ) → List (List Section) → List ℕ
reports [] parts = []
reports (name ∷ names) [] = []
reports (name ∷ names) (sections ∷ parts) = report_of name sections ++ reports names parts

-- the text of a run: the part of each client, and in mode trace the trace
abbrev pub run_text : Mode → SchemaData → List (List ℕ) → List (List Section) → List Event → List ℕ
run_text Quiet schema names parts trace = reports names parts
run_text Trace schema names parts trace = reports names parts ++ trace_part schema names trace

-- the line about a client that ended in Error or Stop
abbrev pub end_line : List ℕ → ClientEnd → List ℕ
end_line name end.Normal = []
end_line name end.Returned = []
end_line name (end.Error text) = codes "abl: client " ++ name ++ codes ": error " ++ text ++ 10 ∷ []
end_line name (end.Stop why) = codes "abl: client " ++ name ++ codes ": stop " ++ stop_name why ++ 10 ∷ []
end_line name end.NoMemory = []

-- a line for each client that ended in Error or Stop
abbrev pub end_lines : List (List ℕ) → List ClientEnd → List ℕ
end_lines [] ends = []
end_lines (name ∷ names) [] = []
end_lines (name ∷ names) (how ∷ ends) = end_line name how ++ end_lines names ends

-- the name of this number
abbrev pub name_or_none : Option (List ℕ) → List ℕ
name_or_none None = []
name_or_none (Some name) = name

-- the name of a file that a source needs, and a colon; nothing for the source's own file
abbrev pub file_part : Option (List ℕ) → List ℕ
file_part None = []
file_part (Some file) = file ++ 58 ∷ []

-- the lines of a status: of the clients or sources of these names, and of the clients' ends where a run began
abbrev pub status_lines : List (List ℕ) → List ClientEnd → Refusal → List ℕ
status_lines names ends (Usage arg) = codes "abl: usage at word " ++ decimal arg ++ 10 ∷ []
status_lines names ends (File file) = codes "abl: cannot read " ++ file ++ 10 ∷ []
status_lines names ends (TooLong file most) =
    codes "abl: " ++ file ++ codes " is longer than " ++ decimal most ++ codes " bytes" ++ 10 ∷ []
status_lines names ends (Schema rule line) =
    codes "abl: schema " ++ rule_name rule ++ codes " at line " ++ decimal line ++ 10 ∷ []
status_lines names ends (Source client file rule place) =
    codes "abl: " ++ name_or_none (slice_get names client) ++ codes ": " ++ rule_name rule ++ codes " at " ++ file_part file ++ decimal place.line ++ 58 ∷ decimal place.column ++ 10 ∷ []
status_lines names ends (NoTable table) = codes "abl: no table " ++ table ++ 10 ∷ []
status_lines names ends NotCreated = codes "abl: not created" ++ 10 ∷ []
status_lines names ends AlreadyCreated = codes "abl: already created" ++ 10 ∷ []
status_lines names ends (SchemaDiffers stored given) = codes "abl: schema differs" ++ 10 ∷ []
status_lines names ends Disk = codes "abl: disk" ++ 10 ∷ []
status_lines names ends (Client first) = end_lines names ends
status_lines names ends Output = codes "abl: output" ++ 10 ∷ []
status_lines names ends NoMemory = codes "abl: no memory" ++ 10 ∷ []

-- the status that a refusal ends with
abbrev pub status_of : Refusal → ℕ
status_of (Usage arg) = 1
status_of (File file) = 2
status_of (TooLong file most) = 10
status_of (Schema rule line) = 3
status_of (NoTable table) = 3
status_of (Source client file rule place) = 4
status_of Disk = 5
status_of (Client first) = 8
status_of NotCreated = 9
status_of AlreadyCreated = 9
status_of (SchemaDiffers stored given) = 9
status_of Output = 6
status_of NoMemory = 7
