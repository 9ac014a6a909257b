-- Output in memory, and the calls that fail.
use Rattle.std.specs.Prelude.{◌<◌, ◌+◌, ◌⊎◌, ℕ, true, List, Contains}
use Rattle.storage.specs.faults.Faults.{counted}
use Rattle.host_io.specs.Out.{Texts, OutState, bytes_on_both}

-- the bytes written, the most that may be, the numbers of the calls that fail, and the number of writes and of faults so far
pub record Pages : Type 0 where
  pub texts : Texts
  pub most : ℕ
  pub fails : List ℕ
  pub calls : ℕ
  pub faults : ℕ

-- the next write, of n bytes, fails
abbrev pub FailsNext : Pages → ℕ → Type 0
FailsNext pages n = Contains pages.fails (counted pages.calls) ⊎ (pages.most < bytes_on_both pages.texts + n)

-- output in memory is observable
abbrev pub out_state : Pages → OutState
out_state pages = record { observable = true; texts = pages.texts; faults = pages.faults }
