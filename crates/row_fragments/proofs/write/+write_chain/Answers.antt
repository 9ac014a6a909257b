use Rattle.std.proofs.Common.{◌≡◌, ◌+◌, length, ap, ◌∙◌, subst, arith}
use Rattle.std.specs.List.{Contains}
use Rattle.storage.specs.Slots.{IsReadable}
use Rattle.std.proofs.lemmas.List.{length-drop, length-take}
use Rattle.row_fragments.proofs.Chained.{rest_can, first_can, both_wrote, both_hold, both_begin, both_fragments}
use Rattle.row_fragments.proofs.Composes.{readable_on}
use Rattle.row_fragments.proofs.FurtherKinds.{kinds_more}
use Rattle.row_fragments.proofs.Within.{not_only}
use Rattle.row_fragments.proofs.Chained.{apart}
use Rattle.row_fragments.proofs.write.+write_chain.Goals as goal

pub write_chain-requires : goal.write_chain-requires
write_chain-requires g t c = λ κs below. (
  let long : length c.in-Some.rest.now + 1 ≡ length c.args.drawn.now = c.in-Some.ensures.cases.1 in let d = c.decreases in omega arith,
  (
    below,
    (
      c.requires.client,
      (
        omega arith,
        (
          rest_can c.args.client c.in-Some.at.now c.in-Some.rest.now c.args.drawn.now c.in-Some.ensures.cases.0 (g.S.Slots.state c.args.slots.now) c.requires.ready,
          let long : length c.in-Some.rest.now + 1 ≡ length c.args.drawn.now = c.in-Some.ensures.cases.1 in let room = c.requires.room in omega (arith, ap length c.back.ensures, length-drop 240 c.args.bytes.now),
        ),
      ),
    ),
  ),
)

pub fragment-slot-requires : goal.fragment-slot-requires
fragment-slot-requires g t c = omega (arith, ap length c.front.ensures, length-take 240 c.args.bytes.now)

pub write_one-requires-clause-ready : goal.write_one-requires-clause-ready
write_one-requires-clause-ready g t c =
    first_can c.args.client c.in-Some.at.now c.in-Some.rest.now c.args.drawn.now c.in-Some.ensures.cases.0 (g.S.Slots.state c.args.slots.now) c.requires.ready (g.S.Slots.state c.write_chain.new.slots)
    c.in_ok-write_chain-in-Some.ensures.wrote c.in_ok-write_chain-in-Some.ensures.room c.write_chain.ensures.touched.others c.write_chain.ensures.touched.begun

pub returns-in_ok-write_one-in-Some-clause-wrote : goal.returns-in_ok-write_one-in-Some-clause-wrote
returns-in_ok-write_one-in-Some-clause-wrote g t c =
    both_wrote c.args.client c.in-Some.at.now c.in-Some.rest.now c.args.drawn.now c.in-Some.ensures.cases.0 (g.S.Slots.state c.args.slots.now) c.requires.ready (g.S.Slots.state c.write_chain.new.slots) (g.S.Slots.state c.write_one.new.slots)
    c.write_chain.ensures.touched.keeps.observable c.in_ok-write_chain-in-Some.ensures.wrote c.in_ok-write_one-in-Some.ensures.wrote

pub returns-in_ok-write_one-in-Some-clause-holds : goal.returns-in_ok-write_one-in-Some-clause-holds
returns-in_ok-write_one-in-Some-clause-holds g t c = λ readable.
    both_hold c.args.client c.in-Some.at.now c.in-Some.rest.now c.args.drawn.now c.in-Some.ensures.cases.0 (g.S.Slots.state c.args.slots.now) c.requires.ready
    c.args.bytes.now c.back.result.now c.front.result.now c.args.kind c.first_or_zero-next.result c.args.total c.args.table (g.S.Slots.state c.write_chain.new.slots) (g.S.Slots.state c.write_one.new.slots)
    c.back.ensures c.front.ensures c.first_or_zero-next.ensures c.write_chain.ensures.touched.keeps.observable c.in_ok-write_chain-in-Some.ensures.wrote c.in_ok-write_one-in-Some.ensures.wrote
    (λ h. c.in_ok-write_one-in-Some.ensures.bytes h ∙ c.fragment-slot.ensures) c.requires.kind c.first_or_zero-next.type_inv c.ranges.table.fits readable c.in_ok-write_chain-in-Some.ensures.holds

pub returns-in_ok-write_one-in-Some-clause-first : goal.returns-in_ok-write_one-in-Some-clause-first
returns-in_ok-write_one-in-Some-clause-first g t c = λ readable.
    both_begin c.args.client c.in-Some.at.now c.in-Some.rest.now c.args.drawn.now c.in-Some.ensures.cases.0 (g.S.Slots.state c.args.slots.now) c.requires.ready
    c.args.bytes.now c.back.result.now c.front.result.now c.args.kind c.first_or_zero-next.result c.args.total c.args.table (g.S.Slots.state c.write_chain.new.slots) (g.S.Slots.state c.write_one.new.slots)
    c.back.ensures c.front.ensures c.first_or_zero-next.ensures c.write_chain.ensures.touched.keeps.observable c.in_ok-write_chain-in-Some.ensures.wrote c.in_ok-write_one-in-Some.ensures.wrote
    (λ h. c.in_ok-write_one-in-Some.ensures.bytes h ∙ c.fragment-slot.ensures) c.requires.kind c.first_or_zero-next.type_inv c.ranges.table.fits readable

pub returns-in_ok-write_one-in-Some-clause-kinds : goal.returns-in_ok-write_one-in-Some-clause-kinds
returns-in_ok-write_one-in-Some-clause-kinds g t c = λ readable.
    let then_readable : IsReadable (g.S.Slots.state c.write_chain.new.slots) = readable_on (g.S.Slots.state c.args.slots.now) (g.S.Slots.state c.write_chain.new.slots) c.write_chain.ensures.touched.keeps.observable c.in_ok-write_chain-in-Some.ensures.wrote.failed readable in
    kinds_more (g.S.Slots.state c.write_chain.new.slots).reads (g.S.Slots.state c.write_one.new.slots).reads c.in-Some.at.now c.args.kind c.first_or_zero-next.result c.args.total c.args.table c.in-Some.rest.now c.args.drawn.now c.front.result.now
    c.in-Some.ensures.cases.0
    (λ k there. c.in_ok-write_one-in-Some.ensures.wrote.rest then_readable k (not_only c.in-Some.at.now k (λ is. apart c.args.client c.in-Some.at.now c.in-Some.rest.now c.args.drawn.now c.in-Some.ensures.cases.0 (g.S.Slots.state c.args.slots.now) c.requires.ready (subst (Contains c.in-Some.rest.now) is there))))
    (c.in_ok-write_one-in-Some.ensures.bytes then_readable ∙ c.fragment-slot.ensures)
    (c.in_ok-write_chain-in-Some.ensures.kinds readable)

pub returns-in_ok-write_one-in-Some-clause-bytes : goal.returns-in_ok-write_one-in-Some-clause-bytes
returns-in_ok-write_one-in-Some-clause-bytes g t c = λ readable.
    both_fragments c.args.client c.in-Some.at.now c.in-Some.rest.now c.args.drawn.now c.in-Some.ensures.cases.0 (g.S.Slots.state c.args.slots.now) c.requires.ready
    c.args.bytes.now c.back.result.now c.front.result.now c.args.kind c.first_or_zero-next.result c.args.total c.args.table (g.S.Slots.state c.write_chain.new.slots) (g.S.Slots.state c.write_one.new.slots)
    c.back.ensures c.front.ensures c.first_or_zero-next.ensures c.write_chain.ensures.touched.keeps.observable c.in_ok-write_chain-in-Some.ensures.wrote c.in_ok-write_one-in-Some.ensures.wrote
    (λ h. c.in_ok-write_one-in-Some.ensures.bytes h ∙ c.fragment-slot.ensures) c.requires.kind c.first_or_zero-next.type_inv c.ranges.table.fits readable c.in_ok-write_chain-in-Some.ensures.bytes
