-- What a memory denotes after a change of its buffers.
use Rattle.std.proofs.Common.{◌≡◌, ℕ, List, length, sym, ap, ◌∙◌}
use Rattle.std.specs.Prelude.{map, reverse}
use Rattle.block_meaning.specs.State.{Buffer}
use Rattle.block_meaning.specs.Buffers.{Place}
use Rattle.client_memory.specs.Undo.{Values, copy_at}
use Rattle.client_memory.specs.declared.memory.OldValue.{OldValue as OldValueRs}
use Rattle.client_memory.specs.declared.memory.Savepoint.{Savepoint as SavepointRs}
use Rattle.client_memory.specs.OldValues.{old_values_of}
use Rattle.client_memory.specs.Buffers.{changed_in}
use Rattle.client_memory.specs.Savepoints.{counts_of, savepoints_from, remembered}
use Rattle.client_memory.specs.Memory.{Remembered}
use Rattle.client_memory.proofs.BufferLists.{counts_changed}
use Rattle.client_memory.proofs.Remembers.{length_counts}

pub view_changed : (at : Place) (change : Buffer → Buffer) (olds : List OldValueRs) (vss no_undo : Values) (bss bss' : List (List Buffer)) (ms : List SavepointRs) (now : Remembered) → remembered vss no_undo bss olds ms ≡ now → bss' ≡ changed_in at change bss →
    remembered vss no_undo bss' olds ms ≡ record now { buffers = changed_in at change now.buffers }
view_changed at change olds vss no_undo bss bss' ms now is_now is =
    ap (λ x. remembered vss no_undo x olds ms) is
    ∙ ap (λ ns. let m : Remembered = record { undoable = vss; no_undo = no_undo; buffers = changed_in at change bss; copies = map (copy_at (reverse (old_values_of olds)) vss) (savepoints_from ns 0 ms) } in m) (counts_changed at change bss)
    ∙ ap (λ (m : Remembered). record m { buffers = changed_in at change m.buffers }) is_now

pub even_changed : (at : Place) (change : Buffer → Buffer) (bss bss' : List (List Buffer)) (n : ℕ) → bss' ≡ changed_in at change bss → length bss ≡ n → length bss' ≡ n
even_changed at change bss bss' n is e = sym (length_counts bss') ∙ ap (λ x. length (counts_of x)) is ∙ ap length (counts_changed at change bss) ∙ length_counts bss ∙ e
