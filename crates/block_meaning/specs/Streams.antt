-- Streams: where texts are written, and where IMPORT reads.
use Rattle.std.specs.Prelude.{ℕ, List, [], ◌∷◌, Bool, Option, Some, None, slice_index_or, slice_set}
use Rattle.abl_base.specs.declared.value.Value.{Value}
use Rattle.abl_base.specs.declared.value.Kind.{Kind}
use Rattle.bound_tree.specs.declared.statement.Target.{Target}
use Rattle.bound_tree.specs.declared.statement.Target.TheVariants as target
use Rattle.bound_tree.specs.Tree.{Given, Assignment}
use Rattle.abl_base.specs.text_forms.TextForms.{Imported, AtInputEnd, BadElement, Elements}
use Rattle.block_meaning.specs.declared.wants.Piece.TheVariants.{Wrote, Opened}
use Rattle.block_meaning.specs.Program.{Program}
use Rattle.block_meaning.specs.Lines.{BadField, NoRecordIn}
use Rattle.block_meaning.specs.State.{State, Stream, Content, Empty, Record, Pending, EndKeys, Continuation, completes, update_then, has_fault, nothing_passed, writes}
use Rattle.block_meaning.specs.Values.{export_line}
use Rattle.block_meaning.specs.Changes.{assigns}

-- ---- streams

-- a stream as a client begins
abbrev pub no_stream : Stream
no_stream = record { output = None; input = None; at = 0 }

-- a stream by its number; 0 is the unnamed one
abbrev pub stream_at : ℕ → State → Stream
stream_at n s = slice_index_or s.streams n no_stream

-- replaces it
abbrev pub with_stream : ℕ → Stream → State → State
with_stream n x s = record s { streams = slice_set s.streams n x }

-- writes a text to the current section of a stream
abbrev pub writes_to : ℕ → List ℕ → Continuation
writes_to n bytes s ans = writes (Wrote (stream_at n s).output bytes) s ans

-- OUTPUT TO
abbrev pub opens_output : ℕ → ℕ → Bool → Continuation
opens_output n output append s ans = writes (Opened output append) (with_stream n (record (stream_at n s) { output = Some output }) s) ans

-- OUTPUT CLOSE: back to the default section
abbrev pub closes_output : ℕ → State → State
closes_output n s = with_stream n (record (stream_at n s) { output = None }) s

-- INPUT FROM a named input, from its start; and INPUT CLOSE, back to the client's own input at its last place
abbrev pub opens_input : ℕ → Option ℕ → State → State
opens_input n input s = with_stream n (record (stream_at n s) { input = input; at = 0 }) s

-- EXPORT of a buffer: the fields of its record in order
abbrev pub exports_record : ℕ → ℕ → Content → Continuation
exports_record n b Empty = has_fault (NoRecordIn b)
exports_record n b (Record row values held made) = writes_to n (export_line values)
exports_record n b (Pending values since made) = writes_to n (export_line values)

-- ---- IMPORT

-- the bytes of an input: a named one, or the client's own
abbrev pub input_of : Program → Option ℕ → List ℕ
input_of p None = p.input
input_of p (Some n) = slice_index_or p.inputs n []

-- the place of the next byte in it
abbrev pub place_of : Option ℕ → Stream → State → ℕ
place_of None x s = s.at
place_of (Some n) x s = x.at

-- moves that place to `next`
abbrev pub read_up_to : Option ℕ → ℕ → Stream → ℕ → State → State
read_up_to None n x next s = record s { at = next }
read_up_to (Some i) n x next s = with_stream n (record x { at = next }) s

-- marks the input of a stream as read up to `next`
abbrev pub read_to : ℕ → ℕ → State → State
read_to n next s = read_up_to (stream_at n s).input n (stream_at n s) next s

-- the kind of a target
abbrev pub kind_of : Target → Kind
kind_of (target.Variable x) = x.kind
kind_of (target.Field b f kind) = kind

-- the kinds of all targets; `^` has none
abbrev pub kinds_of : List (Option Target) → List (Option Kind)
kinds_of [] = []
kinds_of (None ∷ ts) = None ∷ kinds_of ts
kinds_of (Some t ∷ ts) = Some (kind_of t) ∷ kinds_of ts

-- the assignments of an IMPORT: the targets that got a value
abbrev pub pairs_of : List (Option Target) → List (Option Value) → List Assignment
pairs_of [] vs = []
pairs_of (t ∷ ts) [] = []
pairs_of (None ∷ ts) (v ∷ vs) = pairs_of ts vs
pairs_of (Some t ∷ ts) (None ∷ vs) = pairs_of ts vs
pairs_of (Some t ∷ ts) (Some v ∷ vs) = (record { target = t; right = Given v }) ∷ pairs_of ts vs

-- ENDKEY at the end of the input. A line with a bad element is consumed too
abbrev pub imports_line : Program → ℕ → List (Option Target) → Bool → Imported → Continuation
imports_line p n ts retry AtInputEnd = completes (EndKeys nothing_passed)
imports_line p n ts retry (BadElement number next) = update_then (read_to n next) (has_fault (BadField number))
imports_line p n ts retry (Elements vs next) = update_then (read_to n next) (assigns p (pairs_of ts vs) retry)

-- the next line of the stream's input, read for the targets
abbrev pub line_now : Program → ℕ → List (Option Target) → State → Imported
line_now p n ts s =
    p.forms.line_at (input_of p (stream_at n s).input) (place_of (stream_at n s).input (stream_at n s) s) (kinds_of ts)

-- IMPORT: reads one line, and assigns its elements to the targets
abbrev pub imports : Program → ℕ → List (Option Target) → Bool → Continuation
imports p n ts retry s ans = imports_line p n ts retry (line_now p n ts s) s ans
