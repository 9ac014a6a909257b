use Rattle.database_meaning.proofs.Good.{good_legal, not_held, unnamed}
use Rattle.database_meaning.proofs.laws.locks_are_apart.Goals as goal

pub returns-clause-exclusive : goal.returns-clause-exclusive
returns-clause-exclusive c = λ f contents trace legal x y row ne has. not_held _ ((good_legal f contents trace legal).clash x y row _ ne has)

pub returns-clause-overlays : goal.returns-clause-overlays
returns-clause-overlays c = λ f contents trace legal x y row change ne has.
    let g = good_legal f contents trace legal in
    unnamed _ g.own g.clash x y row ne ((g.own x).covers row change has)
