use Rattle.std.proofs.Common.{◌≡◌, ℕ, ◌+◌, ◌++◌, ◌<◌, List, length, slice_index_or, refl, sym, ap, ◌∙◌, subst, arith}
use Rattle.std.specs.List.{Contains}
use Rattle.std.specs.BinaryHeap.{heap_items}
use Rattle.free_slots.specs.Free.{free_in}
use Rattle.row_fragments.specs.Fragments.{first_or_zero}
use Rattle.row_fragments.proofs.Composes.{readable_on}
use Rattle.row_fragments.proofs.Within.{right_in}
use Rattle.byte_rows.specs.declared.client.Client.{Client}
use Rattle.byte_rows.specs.Clients.{ClientView}
use Rattle.byte_rows.specs.Freed.{IsLowest}
use Rattle.byte_rows.proofs.ClientLists.{client_at, client_set_other, client_set_same, part_set, same_set}
use Rattle.byte_rows.proofs.Joins.{first_in, first_of_none}
use Rattle.byte_rows.proofs.NotedSteps.{noted_places, noted_rests, noted_turned, noted_written}
use Rattle.byte_rows.proofs.Rewrites.{laid_apart}
use Rattle.byte_rows.proofs.Sounds.{memory_left}
use Rattle.byte_rows.proofs.Vacancies.{free_vacant, takes_distinct, takes_free, takes_lowest}
use Rattle.byte_rows.proofs.noted.write_noted.Goals as goal

pub returns-then-not-may_write-clause-full : goal.returns-then-not-may_write-clause-full
returns-then-not-may_write-clause-full g c = λ e.
    let cs = c.args.clients.now in
    let was = slice_index_or cs c.args.client c.index-clients-client.result in
    let many = c.requires.sixteen in
    let lt = c.requires.client in
    let within : c.args.client < length cs = omega (arith, many, lt) in
    let was_is : was ≡ slice_index_or cs c.args.client was = ap (λ (d : Client). slice_index_or cs c.args.client d) c.index-clients-client.is in
    let at = client_at cs c.args.client was within was_is in
    let counted = c.requires.noted.counted c.args.client lt c.requires.begun in
    let written = ap (λ (v : ClientView). v.written) at in
    let past = c.may_write.ensures.no c.if-not-may_write.true in
    let long = c.len.ensures in
    let same = c.args.chain.now.ok.0 in
    omega (arith, counted, written, past, long, same)

pub write_row-requires-clause-few : goal.write_row-requires-clause-few
write_row-requires-clause-few g c =
    let cs = c.args.clients.now in
    let was = slice_index_or cs c.args.client c.index-clients-client.result in
    let many = c.requires.sixteen in
    let lt = c.requires.client in
    let within : c.args.client < length cs = omega (arith, many, lt) in
    let was_is : was ≡ slice_index_or cs c.args.client was = ap (λ (d : Client). slice_index_or cs c.args.client d) c.index-clients-client.is in
    let at = client_at cs c.args.client was within was_is in
    let counted = c.requires.noted.counted c.args.client lt c.requires.begun in
    let written = ap (λ (v : ClientView). v.written) at in
    let most = c.may_write.ensures.yes c.if-not-may_write.false in
    let long = c.len.ensures in
    let same = c.args.chain.now.ok.0 in
    omega (arith, counted, written, most, long, same)

pub returns-in-Ok-write_row-clause-fine : goal.returns-in-Ok-write_row-clause-fine
returns-in-Ok-write_row-clause-fine g c =
    let cs = c.args.clients.now in
    let was = slice_index_or cs c.args.client c.index-clients-client.result in
    let many = c.requires.sixteen in
    let lt = c.requires.client in
    let within : c.args.client < length cs = omega (arith, many, lt) in
    let was_is : was ≡ slice_index_or cs c.args.client was = ap (λ (d : Client). slice_index_or cs c.args.client d) c.index-clients-client.is in
    let at = client_at cs c.args.client was within was_is in
    let counted = c.requires.noted.counted c.args.client lt c.requires.begun in
    let written = ap (λ (v : ClientView). v.written) at in
    let most = c.may_write.ensures.yes c.if-not-may_write.false in
    let long = c.len.ensures in
    let same = c.args.chain.now.ok.0 in
    omega (arith, counted, written, most, long, same)

pub returns-in-Err-clause-noted : goal.returns-in-Err-clause-noted
returns-in-Err-clause-noted g c = λ fine.
    let cs = c.args.clients.now in
    let was = slice_index_or cs c.args.client c.index-clients-client.result in
    let many = c.requires.sixteen in
    let lt = c.requires.client in
    let within : c.args.client < length cs = omega (arith, many, lt) in
    let was_is : was ≡ slice_index_or cs c.args.client was = ap (λ (d : Client). slice_index_or cs c.args.client d) c.index-clients-client.is in
    let at = client_at cs c.args.client was within was_is in
    let s = g.S.Slots.state c.args.slots.now in
    let n = c.requires.noted in
    noted_turned cs c.args.client was _ within was_is s s c.args.places.now.items (free_in (heap_items c.args.free.now.back) c.args.free.now.end) (λ d ne. refl)
    (λ is. n.counted c.args.client lt is ∙ ap (λ (v : ClientView). v.written) at) n.kept n.exact c.reserve.ensures.items n

pub returns-in-Err-clause-begun : goal.returns-in-Err-clause-begun
returns-in-Err-clause-begun g c = λ d.
    let cs = c.args.clients.now in
    let was = slice_index_or cs c.args.client c.index-clients-client.result in
    let many = c.requires.sixteen in
    let lt = c.requires.client in
    let within : c.args.client < length cs = omega (arith, many, lt) in
    let was_is : was ≡ slice_index_or cs c.args.client was = ap (λ (d : Client). slice_index_or cs c.args.client d) c.index-clients-client.is in
    (same_set cs c.args.client was _ within was_is refl refl refl).begun d

pub returns-in-Err-clause-apart : goal.returns-in-Err-clause-apart
returns-in-Err-clause-apart g c = λ d ne.
    let cs = c.args.clients.now in
    let was = slice_index_or cs c.args.client c.index-clients-client.result in
    let many = c.requires.sixteen in
    let lt = c.requires.client in
    let within : c.args.client < length cs = omega (arith, many, lt) in
    let was_is : was ≡ slice_index_or cs c.args.client was = ap (λ (d : Client). slice_index_or cs c.args.client d) c.index-clients-client.is in
    client_set_other cs c.args.client d _ ne

pub returns-in-Err-clause-same : goal.returns-in-Err-clause-same
returns-in-Err-clause-same g c =
    let cs = c.args.clients.now in
    let was = slice_index_or cs c.args.client c.index-clients-client.result in
    let many = c.requires.sixteen in
    let lt = c.requires.client in
    let within : c.args.client < length cs = omega (arith, many, lt) in
    let was_is : was ≡ slice_index_or cs c.args.client was = ap (λ (d : Client). slice_index_or cs c.args.client d) c.index-clients-client.is in
    same_set cs c.args.client was _ within was_is refl refl refl

pub returns-in-Err-write_row-clause-begun : goal.returns-in-Err-write_row-clause-begun
returns-in-Err-write_row-clause-begun g c = λ d.
    let cs = c.args.clients.now in
    let was = slice_index_or cs c.args.client c.index-clients-client.result in
    let many = c.requires.sixteen in
    let lt = c.requires.client in
    let within : c.args.client < length cs = omega (arith, many, lt) in
    let was_is : was ≡ slice_index_or cs c.args.client was = ap (λ (d : Client). slice_index_or cs c.args.client d) c.index-clients-client.is in
    (same_set cs c.args.client was _ within was_is refl refl refl).begun d

pub returns-in-Err-write_row-clause-apart : goal.returns-in-Err-write_row-clause-apart
returns-in-Err-write_row-clause-apart g c = λ d ne.
    let cs = c.args.clients.now in
    let was = slice_index_or cs c.args.client c.index-clients-client.result in
    let many = c.requires.sixteen in
    let lt = c.requires.client in
    let within : c.args.client < length cs = omega (arith, many, lt) in
    let was_is : was ≡ slice_index_or cs c.args.client was = ap (λ (d : Client). slice_index_or cs c.args.client d) c.index-clients-client.is in
    client_set_other cs c.args.client d _ ne

pub returns-in-Err-write_row-clause-same : goal.returns-in-Err-write_row-clause-same
returns-in-Err-write_row-clause-same g c =
    let cs = c.args.clients.now in
    let was = slice_index_or cs c.args.client c.index-clients-client.result in
    let many = c.requires.sixteen in
    let lt = c.requires.client in
    let within : c.args.client < length cs = omega (arith, many, lt) in
    let was_is : was ≡ slice_index_or cs c.args.client was = ap (λ (d : Client). slice_index_or cs c.args.client d) c.index-clients-client.is in
    same_set cs c.args.client was _ within was_is refl refl refl

pub returns-in-Err-write_row-clause-noted : goal.returns-in-Err-write_row-clause-noted
returns-in-Err-write_row-clause-noted g c = λ fine.
    let cs = c.args.clients.now in
    let was = slice_index_or cs c.args.client c.index-clients-client.result in
    let many = c.requires.sixteen in
    let lt = c.requires.client in
    let within : c.args.client < length cs = omega (arith, many, lt) in
    let was_is : was ≡ slice_index_or cs c.args.client was = ap (λ (d : Client). slice_index_or cs c.args.client d) c.index-clients-client.is in
    let at = client_at cs c.args.client was within was_is in
    let s = g.S.Slots.state c.args.slots.now in
    let t = g.S.Slots.state c.write_row.new.slots in
    let e = c.in-Err-write_row.ensures in
    let is = memory_left c.in-Err-write_row.fault e.only fine in
    let free = free_in (heap_items c.args.free.now.back) c.args.free.now.end in
    let left = free_in (heap_items c.write_row.new.free.back) c.write_row.new.free.end in
    let rested = noted_rests s t c.args.places.now.items free cs (e.refused is) (e.touched.cause.stays fine) c.requires.noted in
    let n = noted_places t c.args.places.now.items c.write_row.new.places.items free left cs (e.same is) (e.same_free is) c.write_row.ensures.long rested in
    noted_turned cs c.args.client was _ within was_is t t c.write_row.new.places.items left (λ d ne. refl)
    (λ begun. n.counted c.args.client lt begun ∙ ap (λ (v : ClientView). v.written) at) n.kept n.exact c.reserve.ensures.items n

pub returns-in-Ok-write_row-clause-noted : goal.returns-in-Ok-write_row-clause-noted
returns-in-Ok-write_row-clause-noted g c = λ fine.
    let cs = c.args.clients.now in
    let was = slice_index_or cs c.args.client c.index-clients-client.result in
    let many = c.requires.sixteen in
    let lt = c.requires.client in
    let within : c.args.client < length cs = omega (arith, many, lt) in
    let was_is : was ≡ slice_index_or cs c.args.client was = ap (λ (d : Client). slice_index_or cs c.args.client d) c.index-clients-client.is in
    let s = g.S.Slots.state c.args.slots.now in
    let t = g.S.Slots.state c.write_row.new.slots in
    let e = c.in-Ok-write_row.ensures in
    let chain = c.write_row.new.chain.items in
    noted_written cs c.args.client was c.note.new.self within was_is s t c.args.places.now.items c.write_row.new.places.items
    (free_in (heap_items c.args.free.now.back) c.args.free.now.end) (free_in (heap_items c.write_row.new.free.back) c.write_row.new.free.end) chain (first_or_zero chain) lt e.first
    c.write_row.ensures.touched.keeps.observable e.wrote c.write_row.ensures.touched.others c.requires.begun e.laid e.rest e.inside e.within c.write_row.ensures.long e.known e.freed
    (ap (λ (v : ClientView). v.written) c.note.ensures ∙ ap (λ (xs : List ℕ). was.written + length xs) c.deref.ensures.value)
    (ap (λ (v : ClientView). v.touched) c.note.ensures ∙ (ap (λ (xs : List ℕ). c.reserve.new.self.items ++ xs) c.deref.ensures.value ∙ ap (λ (xs : List ℕ). xs ++ chain) c.reserve.ensures.items))
    c.requires.noted

pub returns-in-Ok-write_row-clause-drawn : goal.returns-in-Ok-write_row-clause-drawn
returns-in-Ok-write_row-clause-drawn g c =
    let e = c.in-Ok-write_row.ensures in
    let d = e.drawn in
    let n = c.requires.noted in
    let free = free_in (heap_items c.args.free.now.back) c.args.free.now.end in
    let left = free_in (heap_items c.write_row.new.free.back) c.write_row.new.free.end in (
      d.0,
      d.1,
      d.2,
      λ readable. record {
        different = takes_distinct free d.0 left d.4;
        each = λ k there. free_vacant (g.S.Slots.state c.args.slots.now) c.args.places.now.items free n.kept n.freed n.exact readable k
            (e.inside k (subst (λ (xs : List ℕ). Contains xs k) (sym d.1) (right_in c.args.chain.now.items d.0 k there))) (takes_free free d.0 left d.4 k there);
      },
    )

pub returns-in-Ok-write_row-clause-counts : goal.returns-in-Ok-write_row-clause-counts
returns-in-Ok-write_row-clause-counts g c =
    let cs = c.args.clients.now in
    let was = slice_index_or cs c.args.client c.index-clients-client.result in
    let many = c.requires.sixteen in
    let lt = c.requires.client in
    let within : c.args.client < length cs = omega (arith, many, lt) in
    let was_is : was ≡ slice_index_or cs c.args.client was = ap (λ (d : Client). slice_index_or cs c.args.client d) c.index-clients-client.is in
    let at = client_at cs c.args.client was within was_is in
    ap (λ (v : ClientView). v.drawn) (client_set_same cs c.args.client c.note.new.self within)
    ∙ (ap (λ (v : ClientView). v.drawn) c.note.ensures ∙ ap (λ (v : ClientView). v.drawn + c.args.more) (sym at))

pub returns-in-Ok-write_row-clause-begun : goal.returns-in-Ok-write_row-clause-begun
returns-in-Ok-write_row-clause-begun g c = λ d.
    let cs = c.args.clients.now in
    let was = slice_index_or cs c.args.client c.index-clients-client.result in
    let many = c.requires.sixteen in
    let lt = c.requires.client in
    let within : c.args.client < length cs = omega (arith, many, lt) in
    let was_is : was ≡ slice_index_or cs c.args.client was = ap (λ (d : Client). slice_index_or cs c.args.client d) c.index-clients-client.is in
    part_set (λ v. v.begun) cs c.args.client was c.note.new.self within was_is (ap (λ (v : ClientView). v.begun) c.note.ensures) d

pub returns-in-Ok-write_row-clause-apart : goal.returns-in-Ok-write_row-clause-apart
returns-in-Ok-write_row-clause-apart g c = λ d ne.
    let cs = c.args.clients.now in
    let was = slice_index_or cs c.args.client c.index-clients-client.result in
    let many = c.requires.sixteen in
    let lt = c.requires.client in
    let within : c.args.client < length cs = omega (arith, many, lt) in
    let was_is : was ≡ slice_index_or cs c.args.client was = ap (λ (d : Client). slice_index_or cs c.args.client d) c.index-clients-client.is in
    client_set_other cs c.args.client d c.note.new.self ne

pub returns-in-Ok-write_row-clause-lowest : goal.returns-in-Ok-write_row-clause-lowest
returns-in-Ok-write_row-clause-lowest g c = λ none.
    let d = c.in-Ok-write_row.ensures.drawn in
    let some = c.requires.some in
    let long = d.2 in
    subst (IsLowest (free_in (heap_items c.args.free.now.back) c.args.free.now.end)) (sym (first_of_none c.args.chain.now.items d.0 c.write_row.new.chain.items d.1 none))
    (takes_lowest (free_in (heap_items c.args.free.now.back) c.args.free.now.end) d.0 (free_in (heap_items c.write_row.new.free.back) c.write_row.new.free.end) d.4 (omega (arith, some, long, none)))

pub returns-in-Ok-write_row-clause-own : goal.returns-in-Ok-write_row-clause-own
returns-in-Ok-write_row-clause-own g c = λ readable.
    let e = c.in-Ok-write_row.ensures in
    let s = g.S.Slots.state c.args.slots.now in
    let t = g.S.Slots.state c.write_row.new.slots in
    let chain = c.write_row.new.chain.items in
    laid_apart t c.write_row.new.places.items chain (first_or_zero chain) 0 (c.args.client + 1) e.known (readable_on s t e.touched.keeps.observable e.wrote.failed readable) e.laid

pub returns-in-Ok-write_row-clause-begins : goal.returns-in-Ok-write_row-clause-begins
returns-in-Ok-write_row-clause-begins g c = first_in c.write_row.new.chain.items c.in-Ok-write_row.ensures.first
