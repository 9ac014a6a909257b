use Rattle.std.proofs.Common.{rules, ap, sym, ◌∙◌, reverse}
use Rattle.client_machine.specs.Config.{header_at, body_at, turn_of}
use Rattle.client_memory.specs.Memory.{entered}
use Rattle.client_machine.specs.Machine.{config_of}
use Rattle.client_machine.proofs.Levels.{level_begins}
use Rattle.client_machine.proofs.machine.Machine.entered.Goals as goal

pub returns-clause-ok : goal.returns-clause-ok
returns-clause-ok c =
    λ below even rest p o a made.
    ap (config_of rest) c.set_mode.ensures
    ∙ level_begins rest c.args.self.now.code.instrs.items (reverse c.args.self.now.stack.items) c.args.self.now.procedures.items c.args.self.now.memory c.enter.new.self c.args.self.now.units c.in-Some.depth (header_at c.args.self.now.code.instrs.items c.args.place) (body_at c.args.self.now.code.instrs.items c.args.place) c.args.left (turn_of c.args.turn) c.args.retry
    (c.in_ok-enter.ensures.ok ∙ ap (λ n. entered n c.args.self.now.memory) (sym made)) below even (search (rules, c.in-Some.is, c.checked_add.ensures, c.depth.ensures))
