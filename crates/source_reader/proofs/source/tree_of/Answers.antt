use Rattle.std.proofs.Common.{Err, sym, ap, ◌∙◌}
use Rattle.std.specs.Prelude.{slice_get}
use Rattle.source_reader.proofs.Tokens.{first_within, broken_at}
use Rattle.source_reader.proofs.source.tree_of.Goals as goal

pub place_at-requires : goal.place_at-requires
place_at-requires c = rw c.as_slice.ensures.items (first_within _ _ _ (c.in-Err-Broken.ensures.refused c.in-Err-Broken.rule c.in-Err-Broken.at (ap Err c.in-Err-Broken.field-0-is)))

pub returns-in-Err-Broken-clause-broken : goal.returns-in-Err-Broken-clause-broken
returns-in-Err-Broken-clause-broken c = λ schema rule place e.
    let p = c.place_at.ensures in
    broken_at _ _ _ _ rule _ p.0 place c.requires (c.in-Err-Broken.ensures.refused c.in-Err-Broken.rule c.in-Err-Broken.at (ap Err c.in-Err-Broken.field-0-is)) (ap (λ ts. slice_get ts c.in-Err-Broken.at) (sym c.as_slice.ensures.items) ∙ p.1) (cc) (cc)
