use Rattle.std.proofs.Common.{[], ◌∷◌, ◌++◌, Some, sym, ap, ◌∙◌, subst, arith}
use Rattle.atomic_table.specs.Table.{opening}
use Rattle.turn_lock.specs.declared.view.Key.{Key}
use Rattle.turn_lock.specs.declared.view.Stage.TheVariants.{Idle}
use Rattle.turn_lock.specs.View.{view, first_view}
use Rattle.turn_lock.specs.Rule.{IsKept}
use Rattle.turn_lock.proofs.Calls.{begins}
use Rattle.turn_lock.proofs.shared.Shared.new.Goals as goal

pub new-requires : goal.new-requires
new-requires g c =
    let j = g.T.Journal in
    let first = c.from.ensures in
    let seats = c.from-2.ensures in
    let again = c.from-3.ensures in
    let room = c.requires.room in
    let key : Key g.row.T.Denot = record { start = c.of.result; first = c.from.result; seats = c.from-2.result } in
    subst (λ l. IsKept j.entries j.client j.origin key (opening (c.entries-count.result ∷ 0 ∷ 0 ∷ c.from-3.result ∷ 0 ∷ 0 ∷ 0 ∷ 0 ∷ 0 ∷ 0 ∷ 0 ∷ 0 ∷ 0 ∷ 0 ∷ 0 ∷ 0 ∷ 0 ∷ 0 ∷ 0 ∷ 0 ∷ []) l (first_view key)))
    (sym (c.push_reserved.ensures.items ∙ ap (λ l. l ++ Some c.args.value ∷ []) c.in-Ok-with_capacity.ensures.items))
    (begins j.entries j.client j.origin key c.entries-count.result c.from-3.result c.args.value c.of.ensures c.entries-count.ensures (omega arith) (omega arith) (λ n above. c.requires.fresh n (omega arith)))

pub make_passes-passes-requires-clause-maker : goal.make_passes-passes-requires-clause-maker
make_passes-passes-requires-clause-maker g c =
    let e = c.in-Ok-new.ensures.ok in
    let key : Key g.row.T.Denot = record { start = c.of.result; first = c.from.result; seats = c.from-2.result } in
    ((key, e.4 ∙ ap (λ n. (view (Some key) n [] Idle, [])) c.from-2.ensures), λ k. record { table = e.2 k; key = (ap (λ m. m.0.key) e.4 ∙ ap Some (sym e.5)) k })
