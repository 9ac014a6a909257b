use Rattle.std.proofs.Common.{◌≡◌, ℕ, take}
use Rattle.std.specs.BTreeSet.{contains}
use Rattle.std.specs.Ordering.{nat_cmp}
use Rattle.log_meaning.specs.Recovered.{is_committed}
use Rattle.bi_recovery.proofs.recovered_slots.committed_numbers.Given as goal

abbrev pub invariant-loop-note : goal.invariant-loop-note
invariant-loop-note l = (tx : ℕ) → contains nat_cmp l.numbers tx ≡ is_committed (take l.note-index l.notes) tx
