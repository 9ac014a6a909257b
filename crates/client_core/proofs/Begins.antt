-- The beginning.
use Rattle.std.proofs.Common.{◌≡◌, ℕ, List, [], ◌∷◌, refl, sym, ap, ◌∙◌, subst, false}
use Rattle.std.specs.Prelude.{map, reverse, replicate, slice_index_or, zero, suc, ◌+◌}
use Rattle.abl_base.specs.declared.value.Value.{Value}
use Rattle.bound_tree.specs.Tree.{Body, Header, Procedure}
use Rattle.bound_tree.specs.Bound.{source_of, procedure_of}
use Rattle.bound_tree.specs.declared.procedure.Bound.{Bound}
use Rattle.bound_tree.specs.declared.procedure.Procedure.{Procedure as SourceProcedure}
use Rattle.evaluator.specs.Forms.{AreForms}
use Rattle.value_formats.specs.Imports.{line_at}
use Rattle.block_meaning.specs.State.{Buffer}
use Rattle.block_meaning.specs.Streams as meaning
use Rattle.block_meaning.specs.Program.{Program, procedure_at, no_procedure}
use Rattle.block_meaning.specs.Meaning.{run, start, finished, new_buffer}
use Rattle.flat_machine.specs.Flat as flat
use Rattle.flat_machine.specs.Flat.{IsCodeOf, DenotesAt, means}
use Rattle.flat_machine.specs.Written as written
use Rattle.flat_machine.specs.Written.{tree_at}
use Rattle.flat_machine.proofs.Machine.{first_config_means}
use Rattle.block_code.specs.declared.code.Instr.{Instr}
use Rattle.block_code.specs.declared.code.ProcedureCode.{ProcedureCode}
use Rattle.block_code.specs.declared.code.Code.{Code}
use Rattle.block_code.specs.Code.{instrs_of, header_in, body_in, place_of, flat_of, AreProcedures, IsCompiled}
use Rattle.client_memory.specs.Memory.{Remembered}
use Rattle.client_machine.specs.declared.machine.Machine.{Machine}
use Rattle.client_machine.specs.declared.mode.Mode.{Mode}
use Rattle.client_machine.specs.declared.mode.Mode.TheVariants as mode
use Rattle.client_machine.specs.declared.mode.Task.TheVariants as task
use Rattle.client_machine.specs.declared.mode.StackEntry.{StackEntry}
use Rattle.client_machine.specs.declared.inputs.Inputs.{Inputs}
use Rattle.client_machine.specs.Order.{nesting_of, HaveDepths, ModeInOrder}
use Rattle.client_machine.specs.Config.{instr_at, header_at, body_at, mode_of, stack_of, state_of, AreEven}
use Rattle.client_machine.specs.Inputs.{AreProceduresOf, IsProgramOf, stream_of}
use Rattle.client_machine.specs.Step.{code_in}
use Rattle.client_core.specs.Refines.{Follows}
use Rattle.client_core.specs.Begins.{HasFirst, IsFirst, Begins, no_stream}

-- ---- the code

instr_same : (code : List Instr) (k : ℕ) → instr_at code k ≡ written.instr_at (instrs_of code) k
instr_same [] k = refl
instr_same (i ∷ code) zero = refl
instr_same (i ∷ code) (suc k) = instr_same code k

-- the code of a machine
abbrev code_as : Code → flat.Code
code_as k = record { instr = instr_at k.instrs.items; entry = λ n. body_at k.instrs.items (place_of k.procedures.items n) }

denotes_as : (k : Code) (p : Program) (tree : ℕ → Body) → IsCodeOf (flat_of k) p tree → IsCodeOf (code_as k) p tree
denotes_as k p tree is = record {
  denotes = λ n. subst (DenotesAt tree n) (sym (instr_same k.instrs.items n)) (is.denotes n);
  begins = λ n. ap (λ i. tree (body_in i)) (instr_same k.instrs.items (place_of k.procedures.items n)) ∙ is.begins n;
}

procedures_are : (code : List Instr) (ts : List Body) (qs : List SourceProcedure) (cs : List ProcedureCode) → AreProcedures (instrs_of code) ts qs cs → AreProceduresOf code cs (map procedure_of qs)
procedures_are code ts [] [] x = tt
procedures_are code ts [] (c ∷ cs) x = absurd x
procedures_are code ts (q ∷ qs) [] x = absurd x
procedures_are code ts (q ∷ qs) (c ∷ cs) x = (
  record { header = ap header_in (instr_same code c.place) ∙ x.0.header; undoable = x.0.undoable; no_undo = x.0.no_undo; parameters = x.0.parameters; buffers = x.0.buffers },
  procedures_are code ts qs cs x.1,
)

-- ---- the external procedure

-- its block is at the place, and the memory has its variables and buffers
record FirstFacts (code : List Instr) (cs : List ProcedureCode) (q : Procedure) (place : ℕ) (m : Remembered) : Type 0 where
  place_is : place ≡ place_of cs 0
  header : header_at code place ≡ q.header
  memory : m ≡ record { undoable = q.undoable ∷ []; no_undo = q.no_undo ∷ []; buffers = map new_buffer q.buffers ∷ []; copies = [] }

first_facts : (code : List Instr) (cs : List ProcedureCode) (qs : List Procedure) (place : ℕ) (m : Remembered) → AreProceduresOf code cs qs → HasFirst m cs → IsFirst place cs → FirstFacts code cs (slice_index_or qs 0 no_procedure) place m
first_facts code [] qs place m x has is = absurd has
first_facts code (c ∷ cs) [] place m x has is = absurd x
first_facts code (c ∷ cs) (q ∷ qs) place m x has is = record {
  place_is = is;
  header = ap (header_at code) is ∙ x.0.header;
  memory = has ∙ ap (λ us. let r : Remembered = record { undoable = us ∷ []; no_undo = c.no_undo ∷ []; buffers = map new_buffer c.buffers.items ∷ []; copies = [] } in r) x.0.undoable ∙ ap (λ us. let r : Remembered = record { undoable = q.undoable ∷ []; no_undo = us ∷ []; buffers = map new_buffer c.buffers.items ∷ []; copies = [] } in r) x.0.no_undo ∙ ap (λ bs. let r : Remembered = record { undoable = q.undoable ∷ []; no_undo = q.no_undo ∷ []; buffers = map new_buffer bs ∷ []; copies = [] } in r) x.0.buffers;
}

-- ---- the streams

streams_map : (n : ℕ) → map stream_of (replicate n no_stream) ≡ replicate n meaning.no_stream
streams_map zero = refl
streams_map (suc n) = ap (λ xs. meaning.no_stream ∷ xs) (streams_map n)

-- ---- the machine that begins

abbrev begins_at : Program → Header → ℕ → List Value → List Value → List Buffer → ℕ → flat.Config
begins_at p h body us ks bs units = flat.config (flat.Execute (flat.Blocks h false body 32)) [] (record (start p units) { frames = record { procedure = 0; undoable = us; no_undo = ks; buffers = bs } ∷ [] })

abbrev config_by : Program → List Instr → ℕ → Mode → List StackEntry → List ℕ → Remembered → ℕ → flat.Config
config_by p code units m os ns mem u = flat.config (mode_of code mem.copies m) (stack_of code mem.copies (reverse os)) (state_of (start p units) ns mem u)

pub begin_follows : (p : Program) (bound : Bound) (c : Machine) (code : Code) (inputs : Inputs) (units : ℕ) → Begins c code inputs units → IsCompiled code bound → p.source ≡ source_of bound →
    p.tables ≡ inputs.schema.tables → p.input ≡ inputs.own → p.inputs ≡ inputs.named.items → AreForms p.forms → p.forms.line_at ≡ line_at → Follows (run p units) bound.outputs.items [] c
begin_follows p bound c code inputs units b compiled source tables own named forms lines =
    let rest = start p units in
    let tree = tree_at compiled.bodies in
    let qs = p.source.procedures in
    let program : IsProgramOf p code inputs = record {
      forms = forms;
      tables = tables;
      lines = lines;
      procedures = subst (λ ps. AreProceduresOf code.instrs.items code.procedures.items ps) (sym (ap (λ s. s.procedures) source)) (procedures_are code.instrs.items compiled.bodies bound.procedures.items code.procedures.items compiled.procedures);
      input = own;
      inputs_are = named;
    } in
    let program' : IsProgramOf p c.code c.inputs = subst (λ i. IsProgramOf p c.code i) (sym b.inputs_are) (subst (λ k. IsProgramOf p k inputs) (sym b.code_is) program) in
    let is : IsCodeOf (code_in c) p tree = subst (λ k. IsCodeOf (code_as k) p tree) (sym b.code_is) (denotes_as code p tree (compiled.denotes p source)) in
    let has_first : HasFirst c.memory c.code.procedures.items = subst (λ k. HasFirst c.memory k.procedures.items) (sym b.code_is) b.memory_is in
    let is_first : IsFirst b.place c.code.procedures.items = subst (λ k. IsFirst b.place k.procedures.items) (sym b.code_is) b.first in
    let facts = first_facts c.code.instrs.items c.code.procedures.items qs b.place c.memory program'.procedures has_first is_first in
    let q = procedure_at p 0 in
    let is_code = c.code.instrs.items in
    let m0 : Remembered = record { undoable = q.undoable ∷ []; no_undo = q.no_undo ∷ []; buffers = map new_buffer q.buffers ∷ []; copies = [] } in
    let entry = body_at is_code (place_of c.code.procedures.items 0) in
    record {
      tree = tree;
      program = p;
      rest = rest;
      code = is;
      names_are = sym compiled.outputs ∙ ap (λ k. k.outputs.items) (sym b.code_is);
      fits = record {
        program = program';
        state = record {
          made_is = sym b.made_is;
          status_is = sym b.status_is;
          returned_is = sym b.returned_is;
          size_is = sym b.size_is;
          streams_are = ap (λ n. replicate (n + 1) meaning.no_stream) (ap (λ s. s.streams) source ∙ sym compiled.streams) ∙ sym (streams_map (code.streams + 1)) ∙ ap (map stream_of) (sym b.streams_are);
          at_is = sym b.at_is;
        };
        even = subst (λ (ns : List ℕ). AreEven ns c.memory) (sym b.procedures_are) (subst (λ (m : Remembered). AreEven (0 ∷ []) m) (sym facts.memory) (refl, refl, refl));
        whole = subst (λ (m : Remembered). HaveDepths 0 m.copies) (sym facts.memory) tt;
        order = subst (λ (m : Remembered). ModeInOrder (nesting_of m) c.mode (reverse c.stack.items)) (sym facts.memory) (subst (λ (m : Mode). ModeInOrder (nesting_of m0) m (reverse c.stack.items)) (sym b.mode_is) (subst (λ (os : List StackEntry). ModeInOrder (nesting_of m0) (mode.Execute (task.Blocks b.place false 32)) (reverse os)) (sym b.stack_is) (tt, refl)));
      };
      is = refl;
      has = b.has bound.outputs.items;
      same = λ ans.
          first_config_means (code_in c) tree p is units ans
          ∙ sym (ap (λ k. finished (means tree p k ans))
          (ap (λ m. config_by p is_code units m c.stack.items c.procedures.items c.memory c.units) b.mode_is
          ∙ ap (λ os. config_by p is_code units (mode.Execute (task.Blocks b.place false 32)) os c.procedures.items c.memory c.units) b.stack_is
          ∙ ap (λ ns. config_by p is_code units (mode.Execute (task.Blocks b.place false 32)) [] ns c.memory c.units) b.procedures_are
          ∙ ap (λ m. config_by p is_code units (mode.Execute (task.Blocks b.place false 32)) [] (0 ∷ []) m c.units) facts.memory
          ∙ ap (λ u. config_by p is_code units (mode.Execute (task.Blocks b.place false 32)) [] (0 ∷ []) m0 u) b.units_are
          ∙ ap (λ h. begins_at p h (body_at is_code b.place) q.undoable q.no_undo (map new_buffer q.buffers) units) facts.header
          ∙ ap (λ k. begins_at p q.header (body_at is_code k) q.undoable q.no_undo (map new_buffer q.buffers) units) facts.place_is));
    }
