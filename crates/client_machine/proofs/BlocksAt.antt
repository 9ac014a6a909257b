-- The block at a place.
use Rattle.std.proofs.Common.{◌≡◌, ℕ, zero, suc, ◌<◌, List, [], ◌∷◌, length, get_or, Some, sym, ap, ◌∙◌, arith}
use Rattle.std.specs.Prelude.{slice_get, Box}
use Rattle.std.specs.declared.alloc.Global.{Global}
use Rattle.bound_tree.specs.declared.block.Header.{Header as SourceHeader}
use Rattle.bound_tree.specs.Bound.{header_of}
use Rattle.block_code.specs.declared.code.Instr.{Instr}
use Rattle.block_code.specs.declared.code.Instr.TheVariants as instr
use Rattle.block_code.specs.Code.{header_in}
use Rattle.client_machine.specs.Config.{instr_or, header_at}

slice_get_at : {A : Type 0} (xs : List A) (k : ℕ) (x : A) → k < length xs → x ≡ get_or xs k x → slice_get xs k ≡ Some x
slice_get_at [] k x lt is = absurd (omega (arith, lt))
slice_get_at (y ∷ xs) zero x lt is = ap Some (sym is)
slice_get_at (y ∷ xs) (suc k) x lt is = slice_get_at xs k x (omega (arith, lt)) is

pub block_at : (code xs : List Instr) (k : ℕ) (x : Instr) (h : Box SourceHeader Global) (body next : ℕ) → xs ≡ code → k < length xs → x ≡ get_or xs k x → x ≡ instr.Block h body next → header_of h.value ≡ header_at code k
block_at code xs k x h body next e lt is block =
    sym (ap (λ ys. header_at ys k) (sym e) ∙ ap (λ o. header_in (instr_or o)) (slice_get_at xs k x lt is ∙ ap Some block))
