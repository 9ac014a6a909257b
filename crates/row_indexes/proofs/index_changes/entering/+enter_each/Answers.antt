use Rattle.std.proofs.Common.{◌≡◌, ◌∙◌, false, sym}
use Rattle.std.specs.Prelude.{OnErr, Result, Ok, Err}
use Rattle.std.specs.Result.{is_ok}
use Rattle.row_indexes.specs.Places.{keepers_of, places_of}
use Rattle.row_indexes.proofs.index_changes.entering.+enter_each.Goals as goal

at_err : {T E P : Type 0} (r : Result T E) → is_ok r ≡ false → OnErr r P → P
at_err (Ok x) e h = cc
at_err (Err d) e h = h

pub returns-clause-same_places : goal.returns-clause-same_places
returns-clause-same_places t c =
    let failed : is_ok c.enter_each.result ≡ false = sym c.is_ok.ensures.value ∙ c.if-is_ok.false in
    let places = at_err c.enter_each.result failed c.enter_each.ensures.same_places ∙ c.in_ok-was.ensures.places in
    let keepers = at_err c.enter_each.result failed c.enter_each.ensures.same_keepers ∙ c.in_ok-was.ensures.keepers in
    (c.forget_one.ensures.forgotten (places_of c.args.indexes.now.items) (keepers_of c.args.indexes.now.items) c.in_ok-was.ensures.before places keepers).0

pub returns-clause-same_keepers : goal.returns-clause-same_keepers
returns-clause-same_keepers t c =
    let failed : is_ok c.enter_each.result ≡ false = sym c.is_ok.ensures.value ∙ c.if-is_ok.false in
    let places = at_err c.enter_each.result failed c.enter_each.ensures.same_places ∙ c.in_ok-was.ensures.places in
    let keepers = at_err c.enter_each.result failed c.enter_each.ensures.same_keepers ∙ c.in_ok-was.ensures.keepers in
    (c.forget_one.ensures.forgotten (places_of c.args.indexes.now.items) (keepers_of c.args.indexes.now.items) c.in_ok-was.ensures.before places keepers).1
