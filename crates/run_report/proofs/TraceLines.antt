-- The lines of a trace, parted.
use Rattle.std.proofs.Common.{◌≡◌, ◌<◌, ◌+◌, ℕ, suc, zero, Bool, true, false, List, [], ◌∷◌, ◌++◌, sym, ap, ◌∙◌, subst, arith, length, take, drop, append_assoc, append-nil, get_or}
use Rattle.std.specs.Prelude.{codes, decimal, slice_index_or}
use Rattle.abl_values.specs.Schema.{SchemaData}
use Rattle.host_io.specs.declared.out.Stream.TheVariants.{Output}
use Rattle.database_protocol.specs.declared.event.Event.{Event}
use Rattle.run_report.specs.Trace.{added, answer_name, op_name, operands, trace_line, trace_lines, trace_part}
use Rattle.host_io.specs.Out.{OutState, Writes}
use Rattle.run_report.proofs.Writing.{writes_part, writes_then}

-- the lines, parted at one of them
lines-parted :
    (schema : SchemaData) (names : List (List ℕ)) (n : ℕ) (trace : List Event) (i : ℕ) (d : Event) → i < length trace →
    trace_lines schema names n trace
    ≡ (trace_lines schema names n (take i trace) ++ trace_line schema names (n + i) (get_or trace i d)) ++ trace_lines schema names (n + i + 1) (drop (suc i) trace)
lines-parted schema names n [] i d below = absurd (omega (arith, below))
lines-parted schema names n (e ∷ es) zero d below =
    let here : n + 0 ≡ n = omega arith in
    sym (ap (λ k. trace_line schema names k e ++ trace_lines schema names (k + 1) es) here)
lines-parted schema names n (e ∷ es) (suc i) d below =
    let first : List ℕ = trace_line schema names n e in
    let before : List ℕ = trace_lines schema names (n + 1) (take i es) in
    let line : List ℕ = trace_line schema names (n + suc i) (get_or es i d) in
    let rest : List ℕ = trace_lines schema names (n + suc i + 1) (drop (suc i) es) in
    let number : n + 1 + i ≡ n + suc i = omega arith in
    let parted : trace_lines schema names (n + 1) es ≡ (before ++ line) ++ rest =
    lines-parted schema names (n + 1) es i d (omega (arith, below))
    ∙ ap (λ k. (before ++ trace_line schema names k (get_or es i d)) ++ trace_lines schema names (k + 1) (drop (suc i) es)) number in
    ap (λ text. first ++ text) parted ∙ sym (append_assoc first (before ++ line) rest) ∙ ap (λ text. text ++ rest) (sym (append_assoc first before line))

-- one line more
lines-more :
    (schema : SchemaData) (names : List (List ℕ)) (n : ℕ) (trace : List Event) (i : ℕ) (d : Event) → i < length trace →
    trace_lines schema names n (take (suc i) trace) ≡ trace_lines schema names n (take i trace) ++ trace_line schema names (n + i) (get_or trace i d)
lines-more schema names n [] i d below = absurd (omega (arith, below))
lines-more schema names n (e ∷ es) zero d below =
    let here : n + 0 ≡ n = omega arith in
    append-nil (trace_line schema names n e) ∙ ap (λ k. trace_line schema names k e) (sym here)
lines-more schema names n (e ∷ es) (suc i) d below =
    let number : n + 1 + i ≡ n + suc i = omega arith in
    ap (λ text. trace_line schema names n e ++ text) (lines-more schema names (n + 1) es i d (omega (arith, below)))
    ∙ sym (append_assoc (trace_line schema names n e) (trace_lines schema names (n + 1) (take i es)) (trace_line schema names (n + 1 + i) (get_or es i d)))
    ∙ ap (λ k. (trace_line schema names n e ++ trace_lines schema names (n + 1) (take i es)) ++ trace_line schema names k (get_or es i d)) number

abbrev heading : List ℕ
heading = codes "== trace ==" ++ 10 ∷ []

module _ (schema : SchemaData) (names : List (List ℕ)) (trace : List Event) (i : ℕ) (d : Event) (below : i < length trace) where
  -- the part of the trace up to a line, and that line
  part-more : trace_part schema names (take (i + 1) trace) ≡ trace_part schema names (take i trace) ++ trace_line schema names (i + 1) (get_or trace i d)
  part-more =
      let next : i + 1 ≡ suc i = omega arith in
      let number : 1 + i ≡ i + 1 = omega arith in
      ap (λ k. trace_part schema names (take k trace)) next ∙
      ap (λ text. codes "== trace ==" ++ 10 ∷ text) (lines-more schema names 1 trace i d below)
      ∙ sym (append_assoc (codes "== trace ==" ++ 10 ∷ []) (trace_lines schema names 1 (take i trace)) (trace_line schema names (1 + i) (get_or trace i d)))
      ∙ ap (λ k. trace_part schema names (take i trace) ++ trace_line schema names k (get_or trace i d)) number

  -- a further line was written
  pub writes_more :
      (ok : Bool) (old mid new : OutState) → Writes true Output (trace_part schema names (take i trace)) old mid →
      Writes ok Output (trace_line schema names (i + 1) (get_or trace i d)) mid new → Writes ok Output (trace_part schema names (take (i + 1) trace)) old new
  writes_more ok old mid new before line =
      subst (λ text. Writes ok Output text old new) (sym part-more)
      (writes_then ok Output (trace_part schema names (take i trace)) (trace_line schema names (i + 1) (get_or trace i d)) old mid new before line)

  -- a prefix of a further line was written
  pub writes_some :
      (old mid new : OutState) → Writes true Output (trace_part schema names (take i trace)) old mid →
      Writes false Output (trace_line schema names (i + 1) (get_or trace i d)) mid new → Writes false Output (trace_part schema names trace) old new
  writes_some old mid new before line =
      subst (λ text. Writes false Output text old new) (sym whole)
      (writes_part Output (trace_part schema names (take i trace) ++ trace_line schema names (i + 1) (get_or trace i d)) (trace_lines schema names (i + 1 + 1) (drop (suc i) trace)) old new
      (writes_then false Output (trace_part schema names (take i trace)) (trace_line schema names (i + 1) (get_or trace i d)) old mid new before line))
    where
      whole : trace_part schema names trace ≡ (trace_part schema names (take i trace) ++ trace_line schema names (i + 1) (get_or trace i d)) ++ trace_lines schema names (i + 1 + 1) (drop (suc i) trace)
      whole =
          let number : 1 + i ≡ i + 1 = omega arith in
          ap (λ text. heading ++ text) (lines-parted schema names 1 trace i d below ∙ ap (λ k. (trace_lines schema names 1 (take i trace) ++ trace_line schema names k (get_or trace i d)) ++ trace_lines schema names (k + 1) (drop (suc i) trace)) number)
          ∙ sym (append_assoc heading (trace_lines schema names 1 (take i trace) ++ trace_line schema names (i + 1) (get_or trace i d)) (trace_lines schema names (i + 1 + 1) (drop (suc i) trace)))
          ∙ ap (λ text. text ++ trace_lines schema names (i + 1 + 1) (drop (suc i) trace)) (sym (append_assoc heading (trace_lines schema names 1 (take i trace)) (trace_line schema names (i + 1) (get_or trace i d))))

-- ---- a line, in three parts

line_joined : (a b c d e f : List ℕ) → (a ++ (b ++ c)) ++ ((d ++ e) ++ f) ≡ ((((a ++ b) ++ c) ++ d) ++ e) ++ f
line_joined a b c d e f =
    let x = a ++ (b ++ c) in
    sym (append_assoc x (d ++ e) f) ∙ ap (λ text. text ++ f) (sym (append_assoc x d e)) ∙ ap (λ text. ((text ++ d) ++ e) ++ f) (sym (append_assoc a b c))

module _ (schema : SchemaData) (names : List (List ℕ)) (n : ℕ) (event : Event) where
  -- the number of the event and the name of its client
  abbrev caller_part : List ℕ
  caller_part = decimal n ++ 32 ∷ slice_index_or names event.client []

  -- the operation
  abbrev op_part : List ℕ
  op_part = 32 ∷ op_name event.op ++ operands schema event.op

  -- the answer, and the end of the line
  abbrev answer_part : List ℕ
  answer_part = 32 ∷ answer_name event.answer ++ added names event.answer ++ 10 ∷ []

  is_line : (caller_part ++ op_part) ++ answer_part ≡ trace_line schema names n event
  is_line = line_joined caller_part (32 ∷ op_name event.op) (operands schema event.op) (32 ∷ answer_name event.answer) (added names event.answer) (10 ∷ [])

  pub part_of_caller : (old new : OutState) → Writes false Output caller_part old new → Writes false Output (trace_line schema names n event) old new
  part_of_caller old new caller =
      subst (λ text. Writes false Output text old new) is_line (writes_part Output (caller_part ++ op_part) answer_part old new (writes_part Output caller_part op_part old new caller))

  pub part_of_op : (old mid new : OutState) → Writes true Output caller_part old mid → Writes false Output op_part mid new → Writes false Output (trace_line schema names n event) old new
  part_of_op old mid new caller op =
      subst (λ text. Writes false Output text old new) is_line
      (writes_part Output (caller_part ++ op_part) answer_part old new (writes_then false Output caller_part op_part old mid new caller op))

  pub whole_line :
      (ok : Bool) (old mid late new : OutState) → Writes true Output caller_part old mid → Writes true Output op_part mid late → Writes ok Output answer_part late new →
      Writes ok Output (trace_line schema names n event) old new
  whole_line ok old mid late new caller op answer =
      subst (λ text. Writes ok Output text old new) is_line
      (writes_then ok Output (caller_part ++ op_part) answer_part old late new (writes_then true Output caller_part op_part old mid late caller op) answer)
