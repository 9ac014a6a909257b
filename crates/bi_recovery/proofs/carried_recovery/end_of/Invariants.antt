use Rattle.std.proofs.Common.{◌≡◌, ◌<◌, ◌≤◌, ◌^◌, ℕ, true, take}
use Rattle.storage.specs.Slots.{wrote}
use Rattle.bi_recovery.proofs.carried_recovery.end_of.Given as goal

abbrev pub invariant-loop-u : goal.invariant-loop-u
invariant-loop-u l = record { above : (s : ℕ) → wrote (take l.u-index l.slots) s ≡ true → s < l.last; few : l.last ≤ 2 ^ 20 }
