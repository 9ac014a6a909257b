use Rattle.std.proofs.Common.{length, subst}
use Rattle.row_fragments.specs.Calls.{CanTouch}
use Rattle.row_fragments.proofs.Composes.{on_ok, both_ok, readable_on}
use Rattle.row_fragments.proofs.Parts.{chain_can, freed_can}
use Rattle.byte_rows.proofs.Kept.{laying_keeps}
use Rattle.byte_rows.proofs.Rewrites.{can_touch, fragments_kept, others_stay, rewriting_keeps, rewrote, row_gone, row_rewritten}
use Rattle.byte_rows.proofs.change.rewrite.Goals as goal

pub write_chain-requires-clause-ready : goal.write_chain-requires-clause-ready
write_chain-requires-clause-ready g c =
    let s = g.S.Slots.state c.args.slots.now in
    chain_can c.args.client c.args.kept.now c.args.freed.now s (subst (CanTouch s c.args.client) c.requires.parts
    (can_touch s c.args.places.now c.args.chain.now c.args.row 0 c.args.client c.requires.known c.requires.ready c.requires.distinct c.requires.begun c.requires.space c.requires.few))

pub clear-requires-clause-ready : goal.clear-requires-clause-ready
clear-requires-clause-ready g c =
    let s = g.S.Slots.state c.args.slots.now in
    freed_can c.args.client c.args.kept.now c.args.freed.now s (subst (CanTouch s c.args.client) c.requires.parts
    (can_touch s c.args.places.now c.args.chain.now c.args.row 0 c.args.client c.requires.known c.requires.ready c.requires.distinct c.requires.begun c.requires.space c.requires.few))
    (g.S.Slots.state c.write_chain.new.slots)
    c.in_ok-write_chain.ensures.wrote c.in_ok-write_chain.ensures.room c.write_chain.ensures.touched.others c.write_chain.ensures.touched.begun

pub returns-clause-wrote : goal.returns-clause-wrote
returns-clause-wrote g c = on_ok c.clear.result c.clear.ensures.wrote (λ v.
    let s = g.S.Slots.state c.args.slots.now in
    let known = laying_keeps s c.args.places.now c.lay.new.places c.args.chain.now c.args.row 0 c.args.client c.requires.row c.requires.ready c.lay.ensures.laid c.lay.ensures.rest c.requires.known in
    let can = can_touch s c.args.places.now c.args.chain.now c.args.row 0 c.args.client c.requires.known c.requires.ready c.requires.distinct c.requires.begun c.requires.space c.requires.few in
    rewrote s (g.S.Slots.state c.write_chain.new.slots) (g.S.Slots.state c.clear.new.slots) c.lay.new.places c.args.client c.args.row c.args.table c.args.chain.now c.args.kept.now c.args.freed.now c.args.bytes.now c.requires.parts known can c.lay.ensures.laid
    c.requires.first c.requires.row c.write_chain.ensures.touched.keeps.observable c.clear.ensures.touched.keeps.observable c.write_chain.ensures.touched.others c.clear.ensures.touched.others c.write_chain.ensures.touched.begun c.clear.ensures.touched.begun
    c.in_ok-write_chain.ensures.wrote v)

pub returns-clause-known : goal.returns-clause-known
returns-clause-known g c = both_ok c.clear.result c.clear.ensures.wrote c.clear.ensures.zeros (λ v zeros.
    let s = g.S.Slots.state c.args.slots.now in
    let known = laying_keeps s c.args.places.now c.lay.new.places c.args.chain.now c.args.row 0 c.args.client c.requires.row c.requires.ready c.lay.ensures.laid c.lay.ensures.rest c.requires.known in
    let can = can_touch s c.args.places.now c.args.chain.now c.args.row 0 c.args.client c.requires.known c.requires.ready c.requires.distinct c.requires.begun c.requires.space c.requires.few in
    rewriting_keeps s (g.S.Slots.state c.write_chain.new.slots) (g.S.Slots.state c.clear.new.slots) c.lay.new.places c.args.client c.args.row c.args.table c.args.chain.now c.args.kept.now c.args.freed.now c.args.bytes.now c.requires.parts known can c.lay.ensures.laid
    c.requires.first c.requires.row c.write_chain.ensures.touched.keeps.observable c.clear.ensures.touched.keeps.observable c.write_chain.ensures.touched.others c.clear.ensures.touched.others c.write_chain.ensures.touched.begun c.clear.ensures.touched.begun
    c.in_ok-write_chain.ensures.wrote v c.in_ok-write_chain.ensures.holds c.in_ok-write_chain.ensures.kinds zeros)

pub returns-clause-others : goal.returns-clause-others
returns-clause-others g c = both_ok c.clear.result c.clear.ensures.wrote c.clear.ensures.zeros (λ v zeros.
    let s = g.S.Slots.state c.args.slots.now in
    let known = laying_keeps s c.args.places.now c.lay.new.places c.args.chain.now c.args.row 0 c.args.client c.requires.row c.requires.ready c.lay.ensures.laid c.lay.ensures.rest c.requires.known in
    let can = can_touch s c.args.places.now c.args.chain.now c.args.row 0 c.args.client c.requires.known c.requires.ready c.requires.distinct c.requires.begun c.requires.space c.requires.few in
    others_stay s (g.S.Slots.state c.write_chain.new.slots) (g.S.Slots.state c.clear.new.slots) c.lay.new.places c.args.client c.args.row c.args.table c.args.chain.now c.args.kept.now c.args.freed.now c.args.bytes.now c.requires.parts known can c.lay.ensures.laid
    c.requires.first c.requires.row c.write_chain.ensures.touched.keeps.observable c.clear.ensures.touched.keeps.observable c.write_chain.ensures.touched.others c.clear.ensures.touched.others c.write_chain.ensures.touched.begun c.clear.ensures.touched.begun
    c.in_ok-write_chain.ensures.wrote v c.in_ok-write_chain.ensures.holds c.in_ok-write_chain.ensures.kinds zeros)

pub returns-clause-row : goal.returns-clause-row
returns-clause-row g c = on_ok c.clear.result c.clear.ensures.wrote (λ v readable some.
    let s = g.S.Slots.state c.args.slots.now in
    let known = laying_keeps s c.args.places.now c.lay.new.places c.args.chain.now c.args.row 0 c.args.client c.requires.row c.requires.ready c.lay.ensures.laid c.lay.ensures.rest c.requires.known in
    let can = can_touch s c.args.places.now c.args.chain.now c.args.row 0 c.args.client c.requires.known c.requires.ready c.requires.distinct c.requires.begun c.requires.space c.requires.few in
    row_rewritten s (g.S.Slots.state c.write_chain.new.slots) (g.S.Slots.state c.clear.new.slots) c.lay.new.places c.args.client c.args.row c.args.table c.args.chain.now c.args.kept.now c.args.freed.now c.args.bytes.now c.requires.parts known can c.lay.ensures.laid
    c.requires.first c.requires.row c.write_chain.ensures.touched.keeps.observable c.clear.ensures.touched.keeps.observable c.write_chain.ensures.touched.others c.clear.ensures.touched.others c.write_chain.ensures.touched.begun c.clear.ensures.touched.begun
    c.in_ok-write_chain.ensures.wrote v some c.requires.short readable c.in_ok-write_chain.ensures.holds c.in_ok-write_chain.ensures.first)

pub returns-clause-gone : goal.returns-clause-gone
returns-clause-gone g c = both_ok c.clear.result c.clear.ensures.wrote c.clear.ensures.zeros (λ v zeros readable none.
    let s = g.S.Slots.state c.args.slots.now in
    let known = laying_keeps s c.args.places.now c.lay.new.places c.args.chain.now c.args.row 0 c.args.client c.requires.row c.requires.ready c.lay.ensures.laid c.lay.ensures.rest c.requires.known in
    let can = can_touch s c.args.places.now c.args.chain.now c.args.row 0 c.args.client c.requires.known c.requires.ready c.requires.distinct c.requires.begun c.requires.space c.requires.few in
    row_gone s (g.S.Slots.state c.write_chain.new.slots) (g.S.Slots.state c.clear.new.slots) c.lay.new.places c.args.client c.args.row c.args.table c.args.chain.now c.args.kept.now c.args.freed.now c.args.bytes.now c.requires.parts known can c.lay.ensures.laid
    c.requires.first c.requires.row c.write_chain.ensures.touched.keeps.observable c.clear.ensures.touched.keeps.observable c.write_chain.ensures.touched.others c.clear.ensures.touched.others c.write_chain.ensures.touched.begun c.clear.ensures.touched.begun
    c.in_ok-write_chain.ensures.wrote v c.requires.some none (zeros (readable_on s (g.S.Slots.state c.write_chain.new.slots) c.write_chain.ensures.touched.keeps.observable c.in_ok-write_chain.ensures.wrote.failed readable)))

pub returns-clause-bytes : goal.returns-clause-bytes
returns-clause-bytes g c = on_ok c.clear.result c.clear.ensures.wrote (λ v readable.
    let s = g.S.Slots.state c.args.slots.now in
    let known = laying_keeps s c.args.places.now c.lay.new.places c.args.chain.now c.args.row 0 c.args.client c.requires.row c.requires.ready c.lay.ensures.laid c.lay.ensures.rest c.requires.known in
    let can = can_touch s c.args.places.now c.args.chain.now c.args.row 0 c.args.client c.requires.known c.requires.ready c.requires.distinct c.requires.begun c.requires.space c.requires.few in
    fragments_kept s (g.S.Slots.state c.write_chain.new.slots) (g.S.Slots.state c.clear.new.slots) c.lay.new.places c.args.client c.args.row c.args.table c.args.chain.now c.args.kept.now c.args.freed.now c.args.bytes.now c.requires.parts known can c.lay.ensures.laid
    c.requires.first c.requires.row c.write_chain.ensures.touched.keeps.observable c.clear.ensures.touched.keeps.observable c.write_chain.ensures.touched.others c.clear.ensures.touched.others c.write_chain.ensures.touched.begun c.clear.ensures.touched.begun
    c.in_ok-write_chain.ensures.wrote v (length c.args.bytes.now) readable c.in_ok-write_chain.ensures.bytes)

pub returns-clause-zeros : goal.returns-clause-zeros
returns-clause-zeros g c = on_ok c.clear.result c.clear.ensures.zeros (λ zeros readable.
    zeros (readable_on (g.S.Slots.state c.args.slots.now) (g.S.Slots.state c.write_chain.new.slots) c.write_chain.ensures.touched.keeps.observable c.in_ok-write_chain.ensures.wrote.failed readable))
