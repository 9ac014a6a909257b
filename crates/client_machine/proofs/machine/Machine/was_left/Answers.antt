use Rattle.std.proofs.Common.{ap, ◌∙◌, reverse}
use Rattle.client_machine.specs.Machine.{config_of}
use Rattle.client_machine.proofs.Left.{level_is_left}
use Rattle.client_machine.proofs.machine.Machine.was_left.Goals as goal

pub returns-clause-answered : goal.returns-clause-answered
returns-clause-answered c =
    λ within below rest p a.
    ap (config_of rest) c.set_mode.ensures
    ∙ level_is_left rest c.args.self.now.code.instrs.items (reverse c.args.self.now.stack.items) c.args.self.now.procedures.items c.args.self.now.memory c.leave.new.self c.args.self.now.units c.leave.ensures within below
