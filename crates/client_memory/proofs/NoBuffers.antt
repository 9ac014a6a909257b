-- Where there are no buffers.
use Rattle.std.proofs.Common.{◌≡◌, ℕ, zero, suc, ◌+◌, ◌<◌, List, [], ◌∷◌, ◌++◌, length, take, true, false, refl, sym, ap, ◌∙◌, subst, arith}
use Rattle.std.specs.Prelude.{◌==◌, reverse, slice_index_or}
use Rattle.std.proofs.lemmas.Bool.{eqb-true, eqb-false}
use Rattle.client_memory.proofs.BufferLists.{taken_more}
use Rattle.std.proofs.lemmas.List.{reverse-append}
use Rattle.block_meaning.specs.State.{State, Buffer, Content}
use Rattle.block_meaning.specs.Frames.{contents_restored}
use Rattle.block_meaning.specs.Buffers.{all_places, keep_of, places_from, rows_from, all_rows}
use Rattle.client_memory.specs.Buffers.{HasNoBuffers, places_in, rows_inward}
use Rattle.client_memory.specs.Memory.{Remembered, buffers_restored}
use Rattle.client_memory.specs.Frames.{state_with, AreEven}
use Rattle.client_memory.proofs.FramesOut.{places_are, rows_are}

no_places_in : (bss : List (List Buffer)) → HasNoBuffers bss → places_in bss ≡ []
no_places_in [] none = refl
no_places_in (bs ∷ bss) none = ap (λ xs. places_from (length bss) 0 xs ++ places_in bss) none.0 ∙ no_places_in bss none.1

pub no_places : (rest : State) (ns : List ℕ) (m : Remembered) → AreEven ns m → HasNoBuffers m.buffers → all_places (state_with rest ns m) ≡ []
no_places rest ns m even none = places_are rest ns m even ∙ no_places_in m.buffers none

none_more : (bss css : List (List Buffer)) → HasNoBuffers bss → HasNoBuffers css → HasNoBuffers (bss ++ css)
none_more [] css x y = y
none_more (bs ∷ bss) css x y = (x.0, none_more bss css x.1 y)

none_reverse : (bss : List (List Buffer)) → HasNoBuffers bss → HasNoBuffers (reverse bss)
none_reverse [] x = tt
none_reverse (bs ∷ bss) x = subst HasNoBuffers (sym (reverse-append (bs ∷ []) bss)) (none_more (reverse bss) (bs ∷ []) (none_reverse bss x.1) (x.0, tt))

no_rows_inward : (but : List ℕ) (bss : List (List Buffer)) → HasNoBuffers bss → rows_inward but bss ≡ []
no_rows_inward but [] none = refl
no_rows_inward but (bs ∷ bss) none = ap (λ xs. all_rows (rows_from 0 but xs) (rows_inward [] bss)) none.0 ∙ no_rows_inward [] bss none.1

pub no_rows : (rest : State) (ns : List ℕ) (m : Remembered) (but : List ℕ) → AreEven ns m → HasNoBuffers m.buffers → keep_of but (state_with rest ns m) ≡ []
no_rows rest ns m but even none = rows_are rest ns m but even ∙ no_rows_inward but (reverse m.buffers) (none_reverse m.buffers none)

none_in : (cs : List Content) (bs : List Buffer) → bs ≡ [] → contents_restored cs bs ≡ []
none_in [] bs e = e
none_in (c ∷ cs) bs e = ap (contents_restored (c ∷ cs)) e

pub none_restored : (css : List (List Content)) (bss : List (List Buffer)) → HasNoBuffers bss → HasNoBuffers (buffers_restored css bss)
none_restored [] bss none = none
none_restored (cs ∷ css) [] none = tt
none_restored (cs ∷ css) (bs ∷ bss) none = (none_in cs bs none.0, none_restored css bss none.1)

-- ---- a look at each procedure

no_items : (bs : List Buffer) → length bs ≡ 0 → bs ≡ []
no_items [] e = refl
no_items (b ∷ bs) e = absurd (omega (arith, e))

pub none_step : (bss : List (List Buffer)) (i : ℕ) (bs : List Buffer) → i < length bss → bs ≡ slice_index_or bss i bs → true ≡ (length bs == 0) → HasNoBuffers (take i bss) → HasNoBuffers (take (i + 1) bss)
none_step bss i bs lt is e inv = subst HasNoBuffers (taken_more bss i bs lt is) (none_more (take i bss) (bs ∷ []) inv (no_items bs (eqb-true (length bs) 0 (sym e)), tt))

pub some_here : (bss : List (List Buffer)) (i : ℕ) (bs : List Buffer) → i < length bss → bs ≡ slice_index_or bss i bs → false ≡ (length bs == 0) → HasNoBuffers bss → ⊥
some_here [] i bs lt is e none = absurd (omega (arith, lt))
some_here (xs ∷ bss) zero bs lt is e none = eqb-false (length bs) 0 (sym e) (ap length (is ∙ none.0))
some_here (xs ∷ bss) (suc i) bs lt is e none = some_here bss i bs (omega (arith, lt)) is e none.1
