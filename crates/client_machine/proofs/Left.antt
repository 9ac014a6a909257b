-- After the answer to Leave the innermost level is closed, and the open ones keep their copies.
use Rattle.std.proofs.Common.{◌≡◌, ℕ, ◌-◌, ◌<◌, List, [], ◌∷◌, ◌++◌, length, refl, sym, ap, ◌∙◌, subst, arith}
use Rattle.std.proofs.lemmas.List.{length-append}
use Rattle.block_meaning.specs.State as state
use Rattle.block_meaning.specs.State.{State, Copy}
use Rattle.block_meaning.specs.Buffers as buffers
use Rattle.block_meaning.specs.Buffers.{keep_of}
use Rattle.flat_machine.specs.Flat as flat
use Rattle.client_memory.specs.Memory.{Remembered, without_last, left, HasNoBuffers}
use Rattle.client_memory.proofs.LevelFrames.{left_is}
use Rattle.client_memory.proofs.NoBuffers.{no_rows}
use Rattle.block_code.specs.declared.code.Instr.{Instr}
use Rattle.client_machine.specs.declared.mode.StackEntry.{StackEntry}
use Rattle.client_machine.specs.Config.{stack_of, state_of, AllBelow, AreEven}
use Rattle.client_machine.proofs.Levels.{opens_same}

split_last : (c : Copy) (cs : List Copy) → (last : Copy) × (c ∷ cs ≡ without_last (c ∷ cs) ++ last ∷ [])
split_last c [] = (c, refl)
split_last c (d ∷ cs) = let r = split_last d cs in (r.0, ap (λ xs. c ∷ xs) r.1)

splits : (cs : List Copy) → 0 < length cs → (last : Copy) × (cs ≡ without_last cs ++ last ∷ [])
splits [] lt = absurd (omega (arith, lt))
splits (c ∷ cs) lt = split_last c cs

pub one_less : (cs : List Copy) → 0 < length cs → length (without_last cs) ≡ length cs - 1
one_less cs lt = let r = splits cs lt in let a = ap length r.1 in let b = length-append (without_last cs) (r.0 ∷ []) in omega (arith, a, b)

pub level_is_left : (rest : State) (code : List Instr) (ks : List StackEntry) (ns : List ℕ) (m m' : Remembered) (units : ℕ) → m' ≡ left m → 0 < length m.copies → AllBelow (length m.copies - 1) ks →
    flat.config (flat.Unwind state.Normal) (stack_of code m'.copies ks) (state_of rest ns m' units) ≡ flat.config (flat.Unwind state.Normal) (stack_of code m.copies ks) (buffers.left (state_of rest ns m units))
level_is_left rest code ks ns m m' units is lt below =
    let r = splits m.copies lt in
    let low : AllBelow (length (without_last m.copies)) ks = subst (λ n. AllBelow n ks) (sym (one_less m.copies lt)) below in
    ap (λ (x : Remembered). flat.config (flat.Unwind state.Normal) (stack_of code x.copies ks) (state_of rest ns x units)) is
    ∙ ap (λ xs. flat.config (flat.Unwind state.Normal) xs (state_of rest ns (left m) units)) (sym (opens_same code (without_last m.copies) r.0 ks low) ∙ ap (λ cs. stack_of code cs ks) (sym r.1))
    ∙ ap (λ s. flat.config (flat.Unwind state.Normal) (stack_of code m.copies ks) s) (left_is (record rest { units = units }) ns m lt)

-- ---- there is no row to keep

pub nothing_kept : (rest : State) (ns : List ℕ) (m : Remembered) (units : ℕ) → AreEven ns m → HasNoBuffers m → keep_of [] (state_of rest ns m units) ≡ []
nothing_kept rest ns m units even none = no_rows rest ns m [] even none
