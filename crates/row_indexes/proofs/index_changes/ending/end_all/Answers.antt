use Rattle.std.proofs.Common.{◌≡◌, ◌≤◌, List, length, ap, ◌∙◌, arith}
use Rattle.key_index.specs.Index.{Keys}
use Rattle.row_indexes.specs.Places.{keepers_of, places_of}
use Rattle.row_indexes.specs.index_changes.Ending.{ended, freed}
use Rattle.row_indexes.proofs.IndexChangesLemmas.Ended.{all_of, places_ended, keepers_freed}
use Rattle.row_indexes.proofs.index_changes.ending.end_all.Goals as goal

pub returns-clause-places : goal.returns-clause-places
returns-clause-places c =
    let start = c.deref_mut-index-items.result.now in
    let is : start ≡ c.args.indexes.now.items = c.deref_mut-index-items.ensures.value in
    let same : length c.loop-index.index-items ≡ length start = c.loop-index.auto.index-items in
    let whole : length start ≤ c.loop-index.index-index = let end = c.loop-index-test.false in omega (arith, end, same) in
    let len : c.args.indexes.now.len ≡ length c.args.indexes.now.items = c.args.indexes.now.ok.0 in
    ap places_of (all_of c.args.indexes.now.len c.loop-index.index-items c.args.indexes.now.items (same ∙ ap length is) len)
    ∙ (places_ended c.args.client c.loop-index.index-index start c.loop-index.index-items whole c.loop-index.invariant ∙ ap (λ (ks : List Keys). ended c.args.client (places_of ks)) is)

pub returns-clause-keepers : goal.returns-clause-keepers
returns-clause-keepers c =
    let start = c.deref_mut-index-items.result.now in
    let is : start ≡ c.args.indexes.now.items = c.deref_mut-index-items.ensures.value in
    let same : length c.loop-index.index-items ≡ length start = c.loop-index.auto.index-items in
    let whole : length start ≤ c.loop-index.index-index = let end = c.loop-index-test.false in omega (arith, end, same) in
    let len : c.args.indexes.now.len ≡ length c.args.indexes.now.items = c.args.indexes.now.ok.0 in
    ap keepers_of (all_of c.args.indexes.now.len c.loop-index.index-items c.args.indexes.now.items (same ∙ ap length is) len)
    ∙ (keepers_freed c.args.client c.loop-index.index-index start c.loop-index.index-items whole c.loop-index.invariant ∙ ap (λ (ks : List Keys). freed c.args.client (keepers_of ks)) is)
