use Rattle.std.proofs.Common.{◌≡◌, ◌^◌}
use Rattle.lexer.proofs.number.ten_to.Given as goal

abbrev pub invariant-loop : goal.invariant-loop
invariant-loop l = l.n ≡ 10 ^ l.counter
