use Rattle.std.proofs.Common.{◌<◌, ◌≤◌, ⊎_elim, sym, arith}
use Rattle.std.proofs.lemmas.Bool.{cases_lt}
use Rattle.std.proofs.lemmas.Option.{slice_get_within}
use Rattle.slot_area.proofs.FrameLists.{free_at, found_by, none_then}
use Rattle.slot_area.proofs.frames.Frames.free_place.Goals as goal

pub returns-in-Some-clause-found : goal.returns-in-Some-clause-found
returns-in-Some-clause-found c =
    let is = c.in-Some.ensures.some in
    sym (free_at c.args.settled c.args.self.now.frames.items c.in-Some.index is.0 is.1 is.2)

pub returns-in-None-clause-found : goal.returns-in-None-clause-found
returns-in-None-clause-found c =
    let s = c.args.self.now in
    let high = c.in-None.ensures.none in
    found_by c.args.settled s.frames.items c.free_between-in-None.result c.free_between-in-None.ensures.some
    (none_then c.free_between-in-None.result _ _ c.free_between-in-None.ensures.none (λ low i f at. ⊎_elim
    (λ (lt : i < s.hand). low i f (omega arith) lt at)
    (λ (le : s.hand ≤ i). high i f le (let within = slice_get_within s.frames.items i f at in omega (arith, within, c.len.ensures)) at)
    (cases_lt i s.hand)))
