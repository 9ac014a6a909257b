-- The running procedure of a machine.
use Rattle.std.proofs.Common.{◌≡◌, ℕ, zero, suc, ◌-◌, List, [], ◌∷◌, ◌++◌, length, Some, refl, sym, ap, ◌∙◌, subst, arith}
use Rattle.std.specs.Prelude.{reverse, slice_get, slice_index_or}
use Rattle.std.proofs.lemmas.List.{length-reverse, reverse-append}
use Rattle.bound_tree.specs.Tree.{Procedure}
use Rattle.block_meaning.specs.Program.{no_procedure}
use Rattle.block_meaning.specs.State.{Buffer}
use Rattle.block_meaning.specs.Frames.{own_frame}
use Rattle.block_code.specs.declared.code.Instr.{Instr}
use Rattle.block_code.specs.declared.code.ProcedureCode.{ProcedureCode}
use Rattle.client_memory.specs.Undo.{Values}
use Rattle.client_memory.specs.Memory.{Remembered}
use Rattle.client_memory.proofs.FramesOut.{AreAlike, frames_reverse}
use Rattle.client_machine.specs.Config.{AreEven, frames_out}
use Rattle.client_machine.specs.Inputs.{IsProcedureOf, AreProceduresOf}

-- the code of a procedure by its number
pub procedure_found : (code : List Instr) (cs : List ProcedureCode) (qs : List Procedure) (n : ℕ) (c : ProcedureCode) → AreProceduresOf code cs qs → slice_get cs n ≡ Some c → IsProcedureOf code c (slice_index_or qs n no_procedure)
procedure_found code [] qs zero c are e = cc
procedure_found code [] qs (suc n) c are e = cc
procedure_found code (d ∷ cs) [] n c are e = absurd are
procedure_found code (d ∷ cs) (q ∷ qs) zero c are e = let is : d ≡ c = cc in subst (λ x. IsProcedureOf code x q) is are.0
procedure_found code (d ∷ cs) (q ∷ qs) (suc n) c are e = procedure_found code cs qs n c are.1 e

-- the last one of a list
split_last : (ns : List ℕ) (n : ℕ) → slice_get ns (length ns - 1) ≡ Some n → (before : List ℕ) × (ns ≡ before ++ n ∷ [])
split_last [] n e = cc
split_last (m ∷ []) n e = let is : m ≡ n = cc in ([], ap (λ k. k ∷ []) is)
split_last (m ∷ k ∷ ns) n e =
    let at : length (m ∷ k ∷ ns) - 1 ≡ suc (length (k ∷ ns) - 1) = omega arith in
    let r = split_last (k ∷ ns) n (sym (ap (slice_get (m ∷ k ∷ ns)) at) ∙ e) in
    (m ∷ r.0, ap (λ xs. m ∷ xs) r.1)

own_out : (n : ℕ) (ns : List ℕ) (uss kss : Values) (bss : List (List Buffer)) → AreAlike (n ∷ ns) uss kss bss → (own_frame (frames_out (n ∷ ns) uss kss bss)).procedure ≡ n
own_out n ns [] kss bss e = absurd (omega (arith, e.0))
own_out n ns (us ∷ uss) [] bss e = absurd (omega (arith, e.1))
own_out n ns (us ∷ uss) (ks ∷ kss) [] e = absurd (omega (arith, e.2))
own_out n ns (us ∷ uss) (ks ∷ kss) (bs ∷ bss) e = refl

-- it is the last one
pub running_is : (ns : List ℕ) (m : Remembered) (n : ℕ) → AreEven ns m → slice_get ns (length ns - 1) ≡ Some n → (own_frame (reverse (frames_out ns m.undoable m.no_undo m.buffers))).procedure ≡ n
running_is ns m n even e =
    let r = split_last ns n e in
    let back : reverse ns ≡ n ∷ reverse r.0 = ap reverse r.1 ∙ reverse-append r.0 (n ∷ []) in
    let a = length-reverse ns in
    let b = length-reverse m.undoable in
    let c = length-reverse m.no_undo in
    let d = length-reverse m.buffers in
    let alike : AreAlike (reverse ns) (reverse m.undoable) (reverse m.no_undo) (reverse m.buffers) =
    (omega (arith, a, b, even.0), omega (arith, a, c, even.1), omega (arith, a, d, even.2)) in
    ap (λ fs. (own_frame fs).procedure) (frames_reverse ns m.undoable m.no_undo m.buffers even)
    ∙ ap (λ xs. (own_frame (frames_out xs (reverse m.undoable) (reverse m.no_undo) (reverse m.buffers))).procedure) back
    ∙ own_out n (reverse r.0) (reverse m.undoable) (reverse m.no_undo) (reverse m.buffers) (subst (λ xs. AreAlike xs (reverse m.undoable) (reverse m.no_undo) (reverse m.buffers)) back alike)
