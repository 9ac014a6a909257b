-- The code of procedures.
use Rattle.std.proofs.Common.{◌≡◌, ℕ, ◌<◌, List, [], ◌∷◌, ◌++◌, length, refl, sym, ap, ◌∙◌, subst, arith, map, append_assoc}
use Rattle.std.specs.Prelude.{zero, suc, slice_index_or}
use Rattle.std.proofs.lemmas.List.{get_or_append_left, get_or_at, map-append, length-map, length-append}
use Rattle.bound_tree.specs.declared.procedure.Bound.{Bound}
use Rattle.bound_tree.specs.declared.procedure.Procedure.{Procedure}
use Rattle.bound_tree.specs.Tree.{Body, Nothing, Then, Inner}
use Rattle.bound_tree.specs.Bound.{header_of, body_of, procedure_of}
use Rattle.block_meaning.specs.Program.{no_procedure}
use Rattle.flat_machine.specs.Code as flat
use Rattle.flat_machine.specs.Written.{instr_at, tree_at, NamesBelow, Encodes, DenotesNext}
use Rattle.flat_machine.proofs.Written.{one_more, ends_next, opens_next, all_stand}
use Rattle.block_code.specs.declared.code.Instr.{Instr}
use Rattle.block_code.specs.declared.code.Instr.TheVariants as instr
use Rattle.block_code.specs.declared.code.ProcedureCode.{ProcedureCode}
use Rattle.block_code.specs.declared.code.Code.{Code}
use Rattle.block_code.specs.Code.{instr_of, instrs_of, header_in, body_in, place_of, IsProcedure, AreProcedures, IsCompiled}
use Rattle.block_code.specs.Emitted.{HasEnd, Grown, EmittedBody, EmittedProcedure, EmittedProcedures}
use Rattle.block_code.proofs.Grows.{before_nothing, stays, below_later, end_stays, grown_none, grown_twice, grown_one}

-- ---- one procedure

-- the instructions that were there stay
instr_stays : (old new more : List Instr) (k : ℕ) → new ≡ old ++ more → k < length old → instr_at (instrs_of new) k ≡ instr_at (instrs_of old) k
instr_stays old new more k is lt =
    ap (λ c. instr_at (instrs_of c) k) is ∙ ap (λ c. instr_at c k) (map-append instr_of old more)
    ∙ get_or_append_left (instrs_of old) (instrs_of more) flat.Ends k (let e = length-map old instr_of in omega (arith, e, lt))

pub procedure_emitted : (old mid new : List Instr) (i : Instr) (q : Procedure) (c : ProcedureCode) (body : ℕ) → EmittedBody old mid q.body.items 0 body → new ≡ mid ++ i ∷ [] → instr_of i ≡ flat.Opens (header_of q.header.value) body 0 → c.place ≡ length mid → c.undoable ≡ q.undoable → c.no_undo ≡ q.no_undo → c.buffers.items ≡ q.buffers.items → c.parameters.items ≡ q.parameters.items → EmittedProcedure old new q c
procedure_emitted old mid new i q c body p is kind place us ks bs ps = λ ts enc e.
    let x = p ts enc e e.some in
    let ts1 = ts ++ x.grown.later in
    let h = header_of q.header.value in
    let all = Then (Inner h (tree_at ts1 body)) (tree_at ts1 0) in
    let low : 0 < length ts1 = below_later ts x.grown.later 0 e.some in
    let y = grown_one mid new i ts1 all is x.grown.encodes (subst (λ z. NamesBelow (length ts1) z) (sym kind) (x.below, low)) (subst (λ z. DenotesNext ts1 all z) (sym kind) (opens_next ts1 h body 0 x.below low)) in
    let here : instr_at (instrs_of new) c.place ≡ flat.Opens h body 0 =
    ap (λ k. instr_at (instrs_of new) k) place ∙ ap (λ z. instr_at (instrs_of z) (length mid)) is ∙ ap (λ z. instr_at z (length mid)) (map-append instr_of mid (i ∷ []))
    ∙ get_or_at (instrs_of mid) (instr_of i) [] flat.Ends (length mid) (length-map mid instr_of) ∙ kind in
    let all_grown = grown_twice old mid new ts x.grown y.grown in
    let body_is : tree_at ts1 body ≡ body_of q.body.items = x.body_is ∙ ap (flat.before (body_of q.body.items)) e.end ∙ before_nothing (body_of q.body.items) in
    let same : ts ++ all_grown.later ≡ ts1 ++ y.grown.later = sym (append_assoc ts x.grown.later y.grown.later) in
    record {
      grown = all_grown;
      is = record {
        below = let l = length-append mid (i ∷ []) in let n = ap length is in let m = length-map new instr_of in omega (arith, l, n, m, place);
        header = ap header_in here;
        body = ap (λ k. tree_at (ts ++ all_grown.later) (body_in k)) here ∙ ap (λ u. tree_at u body) same ∙ stays ts1 y.grown.later body x.below ∙ body_is;
        undoable = us;
        no_undo = ks;
        buffers = bs;
        parameters = ps;
      };
    }

-- ---- several procedures

-- the body of a block in the code
body_below : (k n : ℕ) (i : flat.Instr) → NamesBelow k i → k < n → 0 < n → body_in i < n
body_below k n flat.Ends names lt some = some
body_below k n (flat.Opens b body next) names lt some = omega (arith, names.0, lt)
body_below k n (flat.Tests test one other) names lt some = some
body_below k n (flat.Plain t next) names lt some = some

procedure_stays : (old new : List Instr) (ts : List Body) (x : Grown old new ts) (q : Procedure) (c : ProcedureCode) → Encodes (instrs_of old) ts → HasEnd ts → IsProcedure (instrs_of old) ts q c → IsProcedure (instrs_of new) (ts ++ x.later) q c
procedure_stays old new ts x q c enc e is =
    let m = length-map old instr_of in
    let here : instr_at (instrs_of new) c.place ≡ instr_at (instrs_of old) c.place = instr_stays old new x.more c.place x.is (let lt = is.below in omega (arith, m, lt)) in
    let low : body_in (instr_at (instrs_of old) c.place) < length ts = body_below c.place (length ts) (instr_at (instrs_of old) c.place) (enc.below c.place is.below) (let l = enc.same_length in let lt = is.below in omega (arith, l, lt)) e.some in
    record {
      below = let l = length-append old x.more in let n = ap length x.is in let o = length-map new instr_of in let lt = is.below in omega (arith, l, n, m, o, lt);
      header = ap header_in here ∙ is.header;
      body = ap (λ i. tree_at (ts ++ x.later) (body_in i)) here ∙ stays ts x.later (body_in (instr_at (instrs_of old) c.place)) low ∙ is.body;
      undoable = is.undoable;
      no_undo = is.no_undo;
      buffers = is.buffers;
      parameters = is.parameters;
    }

procedures_stay : (old new : List Instr) (ts : List Body) (x : Grown old new ts) (qs : List Procedure) (cs : List ProcedureCode) → Encodes (instrs_of old) ts → HasEnd ts → AreProcedures (instrs_of old) ts qs cs → AreProcedures (instrs_of new) (ts ++ x.later) qs cs
procedures_stay old new ts x [] [] enc e are = tt
procedures_stay old new ts x [] (c ∷ cs) enc e are = are
procedures_stay old new ts x (q ∷ qs) [] enc e are = are
procedures_stay old new ts x (q ∷ qs) (c ∷ cs) enc e are = (procedure_stays old new ts x q c enc e are.0, procedures_stay old new ts x qs cs enc e are.1)

and_one : (code : List flat.Instr) (ts : List Body) (qs : List Procedure) (cs : List ProcedureCode) (q : Procedure) (c : ProcedureCode) → AreProcedures code ts qs cs → IsProcedure code ts q c → AreProcedures code ts (qs ++ q ∷ []) (cs ++ c ∷ [])
and_one code ts [] [] q c are is = (is, tt)
and_one code ts [] (d ∷ cs) q c are is = absurd are
and_one code ts (r ∷ qs) [] q c are is = absurd are
and_one code ts (r ∷ qs) (d ∷ cs) q c are is = (are.0, and_one code ts qs cs q c are.1 is)

pub no_procedures : (code : List Instr) → EmittedProcedures code code [] []
no_procedures code = λ ts enc e. record { grown = grown_none code ts enc; are = tt }

pub one_more_procedure : (a b c : List Instr) (qs : List Procedure) (cs : List ProcedureCode) (q : Procedure) (one : ProcedureCode) → EmittedProcedures a b qs cs → EmittedProcedure b c q one → EmittedProcedures a c (qs ++ q ∷ []) (cs ++ one ∷ [])
one_more_procedure a b c qs cs q one p r = λ ts enc e.
    let x = p ts enc e in
    let ts1 = ts ++ x.grown.later in
    let e1 = end_stays ts x.grown.later e in
    let y = r ts1 x.grown.encodes e1 in
    let same : ts1 ++ y.grown.later ≡ ts ++ (x.grown.later ++ y.grown.later) = append_assoc ts x.grown.later y.grown.later in
    record {
      grown = grown_twice a b c ts x.grown y.grown;
      are = subst (λ u. AreProcedures (instrs_of c) u (qs ++ q ∷ []) (cs ++ one ∷ [])) same (and_one (instrs_of c) (ts1 ++ y.grown.later) qs cs q one (procedures_stay b c ts1 y.grown qs cs x.grown.encodes e1 x.are) y.is);
    }

-- ---- the source

nothing_encoded : Encodes [] []
nothing_encoded = record { same_length = refl; below = λ k lt. absurd (omega (arith, lt)); denotes = λ k lt. absurd (omega (arith, lt)) }

pub end_encoded : Encodes (instrs_of (instr.End ∷ [])) (Nothing ∷ [])
end_encoded = one_more [] [] flat.Ends Nothing nothing_encoded tt (ends_next [])

entry_is : (code : List flat.Instr) (ts : List Body) (qs : List Procedure) (cs : List ProcedureCode) (n : ℕ) → tree_at ts (body_in (instr_at code 0)) ≡ Nothing → AreProcedures code ts qs cs → tree_at ts (body_in (instr_at code (place_of cs n))) ≡ (slice_index_or (map procedure_of qs) n no_procedure).body
entry_is code ts [] [] n none are = none
entry_is code ts [] (c ∷ cs) n none are = absurd are
entry_is code ts (q ∷ qs) [] n none are = absurd are
entry_is code ts (q ∷ qs) (c ∷ cs) zero none are = are.0.body
entry_is code ts (q ∷ qs) (c ∷ cs) (suc n) none are = entry_is code ts qs cs n none are.1

pub compiled : (code : Code) (bound : Bound) → EmittedProcedures (instr.End ∷ []) code.instrs.items bound.procedures.items code.procedures.items → code.streams ≡ bound.streams → code.outputs.items ≡ bound.outputs.items → code.inputs.items ≡ bound.inputs.items → IsCompiled code bound
compiled code bound emitted streams outputs inputs =
    let e0 : HasEnd (Nothing ∷ []) = record { some = omega arith; end = refl } in
    let x = emitted (Nothing ∷ []) end_encoded e0 in
    let ts = Nothing ∷ x.grown.later in
    let is = instrs_of code.instrs.items in
    let e1 = end_stays (Nothing ∷ []) x.grown.later e0 in
    let first : instr_at is 0 ≡ flat.Ends = instr_stays (instr.End ∷ []) code.instrs.items x.grown.more 0 x.grown.is (omega arith) in
    let none : tree_at ts (body_in (instr_at is 0)) ≡ Nothing = ap (λ i. tree_at ts (body_in i)) first ∙ e1.end in
    record {
      bodies = ts;
      denotes = λ p source. record {
        denotes = all_stand is ts x.grown.encodes;
        begins = λ n. entry_is is ts bound.procedures.items code.procedures.items n none x.are ∙ ap (λ s. (slice_index_or s.procedures n no_procedure).body) (sym source);
      };
      procedures = x.are;
      streams = streams;
      outputs = outputs;
      inputs = inputs;
    }
