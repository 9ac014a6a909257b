use Rattle.std.proofs.Common.{◌≡◌, ℕ, List, ap, ◌∙◌, subst, arith}
use Rattle.std.specs.Prelude.{MatchOption}
use Rattle.std.specs.Option.{option_copied}
use Rattle.key_index.specs.Index.{Keys}
use Rattle.key_index.specs.Search.{FindsNone, IsNext}
use Rattle.row_indexes.specs.Places.{index_at}
use Rattle.row_keys.specs.Numbers.{number_of}
use Rattle.row_keys.specs.Prefixes.{prefix_bytes}
use Rattle.row_keys.proofs.Counted.{number_within}
use Rattle.row_keys.proofs.Found.{found_is, none_fits}
use Rattle.row_keys.proofs.searches.next.Goals as goal

pub index_at-requires : goal.index_at-requires
index_at-requires c =
    let within = number_within c.args.schema.now c.args.table c.args.index c.requires.table c.requires.order in
    let number = c.number_of-number.ensures in
    let count = c.requires.count in
    omega (arith, within, number, count)

pub returns-in-None : goal.returns-in-None
returns-in-None c =
    let never = rw c.in-None.is at c.in_ok-prefix_bytes.ensures in
    λ rows entries fitting. none_fits c.args.schema.now rows c.args.table c.args.index c.args.prefix.now (option_copied c.args.cursor) c.args.forward never

pub returns-in_ok-found-in-Some : goal.returns-in_ok-found-in-Some
returns-in_ok-found-in-Some c =
    let schema = c.args.schema.now in
    let table = c.args.table in
    let o = c.args.index in
    let prefix = c.args.prefix.now in
    let cursor = option_copied c.args.cursor in
    let number = number_of schema table o in
    let bytes = prefix_bytes schema table o prefix in
    let found = c.in_ok-found-in-Some.found in
    let asked = rw c.in-Some.is at c.in_ok-prefix_bytes.ensures in
    let at : c.index_at.result.now ≡ index_at c.args.indexes.now number = c.index_at.ensures ∙ ap (index_at c.args.indexes.now) c.number_of-number.ensures in
    let here = subst (λ (b : List ℕ). MatchOption found (FindsNone c.index_at.result.now cursor b c.args.forward) (λ f. IsNext c.index_at.result.now cursor b c.args.forward f)) asked.1 c.in_ok-found-in-Some.ensures in
    let there = subst (λ (i : Keys). MatchOption found (FindsNone i cursor bytes c.args.forward) (λ f. IsNext i cursor bytes c.args.forward f)) at here in
    λ rows entries fitting.
    found_is schema rows c.args.indexes.now table o prefix cursor c.args.forward entries fitting c.requires.table c.requires.order asked.0 found there
