use Rattle.std.proofs.Common.{◌≡◌, ◌<◌, List, length, ⊎_elim, sym, ap, ◌∙◌, subst, arith}
use Rattle.std.specs.List.{Contains}
use Rattle.row_fragments.proofs.Keeping.{among}
use Rattle.byte_rows.specs.declared.places.Place.{Place}
use Rattle.byte_rows.specs.Places.{owner_in}
use Rattle.byte_rows.proofs.ClientLists.{whole}
use Rattle.byte_rows.proofs.Rewrites.{laid_place}
use Rattle.byte_rows.proofs.scan.note_chain.Goals as goal

pub lay-requires-clause-within : goal.lay-requires-clause-within
lay-requires-clause-within c = λ k there.
    subst (λ (ps : List Place). k < length ps) (sym c.deref_mut.ensures.value) (let le = c.highest.ensures k there in let lt = c.in_ok-reach.ensures.reached in omega (arith, le, lt))

pub returns-clause-unowned : goal.returns-clause-unowned
returns-clause-unowned c = λ none k.
    subst (λ (ps : List Place). owner_in ps k ≡ 0) (sym (whole c.lay.new.places c.reach.new.places.items c.reach.new.places.len (c.lay.ensures.long ∙ c.deref_mut.ensures.len)))
    (⊎_elim
    (λ (there : Contains c.args.chain.now k). (laid_place c.lay.new.places c.args.chain.now c.args.row 0 0 c.lay.ensures.laid k there).1)
    (λ (out : ¬ Contains c.args.chain.now k).
    ap (λ (p : Place). p.owner) (c.lay.ensures.rest k out) ∙ (ap (λ (ps : List Place). owner_in ps k) c.deref_mut.ensures.value ∙ (ap (λ (p : Place). p.owner) (c.reach.ensures.places k) ∙ none k)))
    (among c.args.chain.now k))
