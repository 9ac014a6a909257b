use Rattle.std.proofs.Common.{◌∙◌, ap}
use Rattle.syntax_tree.specs.Typed.{program_of}
use Rattle.bound_tree.specs.Bound.{source_of}
use Rattle.txn_infer.specs.Flags.{with_flags}
use Rattle.source_reader.proofs.verdicts.read_scopes.Goals as goal

pub returns-clause-tree : goal.returns-clause-tree
returns-clause-tree c =
    record {
      syntax_of = program_of c.in_ok-program.program;
      has = c.in_ok-program.ensures.syntax_of;
      plain = source_of c.in_ok-plain.plain;
      is_bound = c.in_ok-plain.ensures.tree;
      scopes = c.in_ok-scoped.ensures.clean;
      flags = c.flagged.ensures ∙ ap with_flags c.in_ok-scoped.ensures.tree;
    }
