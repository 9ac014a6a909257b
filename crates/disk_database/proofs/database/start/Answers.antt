-- The machine over rows that were just opened.
use Rattle.std.proofs.Common.{sym, ◌∙◌}
use Rattle.disk_database.proofs.Starts.{opened_with, own_contents, sound_with}
use Rattle.disk_database.proofs.database.start.Goals as goal

pub new-requires-clause-opened : goal.new-requires-clause-opened
new-requires-clause-opened g c =
    let own = own_contents _ c.args.schema _ c.requires.opened in
    (own.0, own.1, c.in-Ok.ensures ∙ c.sequences.ensures ∙ own.2)

pub returns-in-Ok-new-clause-opened : goal.returns-in-Ok-new-clause-opened
returns-in-Ok-new-clause-opened g c = λ contents known ascending starts.
    c.in-Ok-new.ensures.opened contents (opened_with _ c.args.schema _ c.requires.opened contents starts.committed) (c.in-Ok.ensures ∙ c.sequences.ensures ∙ sym starts.committed.sequences) known
    (sound_with _ c.args.schema _ c.requires.opened c.args.clients contents known ascending starts.committed) (λ first left. starts)
