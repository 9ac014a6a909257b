-- When a client refines its run.
use Rattle.std.specs.Prelude.{◌≡◌, ◌⊎◌, ℕ, List, [], ◌∷◌, ◌++◌, Option, Some, None}
use Rattle.database_protocol.specs.declared.answer.Answer.{Answer}
use Rattle.database_protocol.specs.declared.operation.Op.TheVariants.{End}
use Rattle.bound_tree.specs.Tree.{Body}
use Rattle.database_protocol.specs.declared.ends.ClientEnd.{ClientEnd}
use Rattle.block_meaning.specs.declared.wants.Piece.{Piece}
use Rattle.database_protocol.specs.declared.next_step.NextStep.{NextStep}
use Rattle.database_protocol.specs.declared.next_step.NextStep.TheVariants.{Ask, Ended}
use Rattle.block_meaning.specs.State.{State, Progress}
use Rattle.block_meaning.specs.Program.{Program}
use Rattle.block_meaning.specs.Meaning.{finished}
use Rattle.block_meaning.specs.GivesUp.{Begins, IsAsked, GaveUp}
use Rattle.flat_machine.specs.Flat.{IsCodeOf, means}
use Rattle.flat_machine.specs.Works.{IsRunning}
use Rattle.client_output.specs.Written.{HasWritten as Wrote}
use Rattle.client_machine.specs.declared.machine.Machine.{Machine}
use Rattle.client_machine.specs.Config.{mode_of}
use Rattle.client_machine.specs.Inputs.{names_of}
use Rattle.client_machine.specs.Machine.{config_of}
use Rattle.client_machine.specs.Step.{code_in, Fits}
use Rattle.client_core.specs.ClientView.{HasWritten}
use Rattle.client_core.specs.Work.{IsWaiting}
use Rattle.client_core.specs.declared.client.Client.{Client}
use Rattle.client_core.specs.declared.client.Phase.{Phase}
use Rattle.client_core.specs.declared.client.Phase.TheVariants as phase

-- what a run does after these answers
abbrev pub after : List Answer → (List Answer → Progress) → List Answer → Progress
after answers m more = m (answers ++ more)

-- a machine that has written these pieces continues as m
pub record Follows (m : List Answer → Progress) (names : List (List ℕ)) (written : List Piece) (c : Machine) : Type 0 where
  pub tree : ℕ → Body
  pub program : Program
  pub rest : State
  pub code : IsCodeOf (code_in c) program tree
  pub names_are : names ≡ names_of c.code
  pub fits : Fits program rest c
  pub is : rest.written ≡ written
  pub has : Wrote c.output names written
  pub same : (ans : List Answer) → m ans ≡ finished (means tree program (config_of rest c) ans)

-- the client has ended, and so has the run
pub record HasEnded (m : List Answer → Progress) (names : List (List ℕ)) (written : List Piece) (c : Machine) : Type 0 where
  pub has : Wrote c.output names written
  pub end : ClientEnd
  pub same : (ans : List Answer) → m ans ≡ record { written = written; wants = Ended end }

abbrev pub FollowsIn : Phase → (List Answer → Progress) → List (List ℕ) → List Piece → Machine → Type 0
FollowsIn phase.Running m names written c = Follows m names written c
FollowsIn phase.GivingUp m names written c = ⊥
FollowsIn phase.Ended m names written c = HasEnded m names written c

-- a client that has received these answers has written the same pieces as m, and continues as m
pub record Refines (client : Client) (names : List (List ℕ)) (m : List Answer → Progress) (answers : List Answer) : Type 0 where
  pub written : List Piece
  pub follows : FollowsIn client.phase (after answers m) names written client.machine

-- out of memory after these answers: the client has written these pieces, and requests End
pub record HasGivenUp (client : Client) (names : List (List ℕ)) (m : List Answer → Progress) (answers : List Answer) (pieces : List Piece) : Type 0 where
  pub ends : client.phase ≡ phase.GivingUp
  pub has : HasWritten client names pieces
  pub gave : GaveUp m answers pieces

-- agrees with m: after these answers, it has written the same pieces and has the same next step
pub record Agrees (client : Client) (names : List (List ℕ)) (m : List Answer → Progress) (answers : List Answer) (wants : NextStep) : Type 0 where
  pub refines : Refines client names m answers
  pub pieces : List Piece
  pub has : HasWritten client names pieces
  pub meant : m answers ≡ record { written = pieces; wants = wants }

-- it gives up, and requests End
pub record GivesUpAt (client : Client) (names : List (List ℕ)) (m : List Answer → Progress) (answers : List Answer) (wants : NextStep) : Type 0 where
  pub pieces : List Piece
  pub given_up : HasGivenUp client names m answers pieces
  pub asks : wants ≡ Ask End

-- the result of a call after these answers: the client agrees with m, or gives up
abbrev pub AfterResume : Client → List (List ℕ) → (List Answer → Progress) → List Answer → NextStep → Type 0
AfterResume client names m answers wants = Agrees client names m answers wants ⊎ GivesUpAt client names m answers wants

-- no call has begun it
abbrev pub HasNotBegun : Client → Type 0
HasNotBegun c = (c.phase ≡ phase.Running) × IsRunning (mode_of c.machine.code.instrs.items c.machine.memory.copies c.machine.mode)

-- a call passes an answer if the client waits for one, and none if it is the first call
abbrev pub IsExpected : Option Answer → Client → List Answer → Type 0
IsExpected None c answers = HasNotBegun c × (answers ≡ [])
IsExpected (Some a) c answers = IsWaiting c

-- the answers with one more, if there is one
abbrev pub answers_with : List Answer → Option Answer → List Answer
answers_with answers None = answers
answers_with answers (Some a) = answers ++ a ∷ []

-- ---- inside of a call

-- a machine that has run on from these pieces
pub record RunsFrom (m : List Answer → Progress) (names : List (List ℕ)) (from : List Piece) (c : Machine) : Type 0 where
  pub pieces : List Piece
  pub more : Begins from pieces
  pub follows : Follows m names pieces c

-- the client and the run are at the same point, and have the same next step
pub record IsAt (m : List Answer → Progress) (names : List (List ℕ)) (pieces : List Piece) (c : Client) (wants : NextStep) : Type 0 where
  pub run_from : c.phase ≡ phase.Running
  pub follows : Follows m names pieces c.machine
  pub refines : m [] ≡ record { written = pieces; wants = wants }

-- out of memory
pub record GaveIn (m : List Answer → Progress) (pieces : List Piece) (c : Client) (wants : NextStep) : Type 0 where
  pub gives_up : c.phase ≡ phase.GivingUp
  pub asks : wants ≡ Ask End
  pub op_asked : IsAsked (m []).wants
  pub to : Begins pieces (m []).written

-- the result of running on: the client is where the run is, or out of memory
pub record RunsOn (m : List Answer → Progress) (names : List (List ℕ)) (from : List Piece) (c : Client) (wants : NextStep) : Type 0 where
  pub pieces : List Piece
  pub more : Begins from pieces
  pub has : HasWritten c names pieces
  pub at : IsAt m names pieces c wants ⊎ GaveIn m pieces c wants
