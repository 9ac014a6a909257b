use Rattle.std.proofs.Common.{◌≡◌, ◌++◌}
use Rattle.std.specs.Prelude.{replicate}
use Rattle.client_core.specs.Begins.{no_stream}
use Rattle.client_core.proofs.begin.push_streams.Given as goal

abbrev pub invariant-loop : goal.invariant-loop
invariant-loop l = l.streams.items ≡ l.fn.streams.items ++ replicate l.counter no_stream
