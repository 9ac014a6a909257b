use Rattle.std.proofs.Common.{◌≡◌, ℕ, List}
use Rattle.database_protocol.specs.declared.answer.Answer.{Answer}
use Rattle.block_meaning.specs.declared.wants.Piece.{Piece}
use Rattle.block_meaning.specs.State.{Progress}
use Rattle.client_core.specs.declared.client.Phase.TheVariants as phase
use Rattle.client_core.specs.Refines.{Follows, RunsFrom}
use Rattle.client_core.proofs.client.Client.run_on.Given as goal

abbrev pub invariant-loop : goal.invariant-loop
invariant-loop l =
    record {
      same : l.self.phase ≡ l.initial.self.phase;
      going : (names : List (List ℕ)) (m : List Answer → Progress) (from : List Piece) → l.initial.self.phase ≡ phase.Running → Follows m names from l.initial.self.machine → RunsFrom m names from l.self.machine;
    }
