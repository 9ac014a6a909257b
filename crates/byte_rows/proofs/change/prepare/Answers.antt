use Rattle.std.proofs.Common.{◌+◌, List, length, Result, Ok, Err, OnOk, subst}
use Rattle.byte_rows.specs.declared.places.Place.{Place}
use Rattle.byte_rows.specs.Places.{AreReady}
use Rattle.byte_rows.proofs.Prepares.{all_reached, ready_same}
use Rattle.byte_rows.proofs.change.prepare.Goals as goal

always_ok : {T E : Type 0} {P : Type 0} (r : Result T E) → P → OnOk r P
always_ok (Ok v) p = p
always_ok (Err e) p = tt

pub returns-clause-ready : goal.returns-clause-ready
returns-clause-ready g c = always_ok c.room.result
    (ready_same c.args.places.now.items c.reach.new.places.items c.args.chain.now c.args.row 0 (c.args.client + 1) c.reach.ensures.places
    (subst (λ (ps : List Place). AreReady ps c.args.chain.now c.args.row 0 (c.args.client + 1)) c.deref.ensures.value (c.are_ready.ensures c.if-not-are_ready.false)))

pub returns-clause-within : goal.returns-clause-within
returns-clause-within g c = always_ok c.room.result (all_reached c.args.chain.now c.highest.result (length c.reach.new.places.items) c.highest.ensures c.in-Ok.ensures.reached)
