use Rattle.std.proofs.Common.{true, take}
use Rattle.std.specs.List.{flat_map}
use Rattle.host_io.specs.Out.{Writes}
use Rattle.run_report.proofs.report.write_all.Given as goal

-- the pieces so far were written whole
abbrev pub invariant-loop-piece : goal.invariant-loop-piece
invariant-loop-piece g l =
    Writes true l.stream (flat_map (λ piece. piece.now) (take l.piece-index l.pieces))
    (g.O.Out.state l.fn.out)
    (g.O.Out.state l.out)
