use Rattle.std.proofs.Common.{◌≡◌, ◌∙◌, ◌-◌, [], ap, arith, drop, get_or, length, refl, sym, take}
use Rattle.preprocessor.specs.declared.mode.Mode.{Mode}
use Rattle.preprocessor.specs.Braces.{closing}
use Rattle.preprocessor.specs.Modes.{after, beside, inner, next_byte, plain}
use Rattle.preprocessor.specs.Parts.{depth_after, ends_part, part_length, span, up_to_closing, word_in}
use Rattle.preprocessor.proofs.Cuts.{copies_more, held_after, refers_more, skips_more, words_more}
use Rattle.preprocessor.proofs.Machines.{split_front}
use Rattle.preprocessor.proofs.parts.part_length.Goals as goal
use Rattle.preprocessor.proofs.parts.part_length.Goals.{then-skip-gt0, else-skip-gt0+then-opens+in_ok-skip, else-skip-gt0+else-opens+then-begins_word+else-ends_part, else-skip-gt0+else-opens+else-begins_word}

pub loop-rest-preserved : goal.loop-rest-preserved
loop-rest-preserved c =
    let l = c.loop-rest in
    let k = c.if-skip-gt0 in
    let last = c.args.last in
    let all = part_length c.args.last c.args.bytes.now in
    let total = length c.args.bytes.now in
    let rest = c.loop-rest.rest.now in
    let b = get_or rest 0 0 in
    let tail = take (length rest - 1) (drop 1 rest) in
    let e = split_front rest c.in-len1-up.len_at_least in
    let h = c.loop-rest.invariant.0 in
    let comments = c.loop-rest.invariant.1 in
    let depth = c.loop-rest.invariant.2 in
    let bytes = c.loop-rest.invariant.3 in
    elim c.if-skip-gt0.branch [
      | then-skip-gt0 w ↦
          held_after all l.n total last l.depth k.depth (l.skip - 1) k.skip l.mode k.mode rest b tail
          (skips_more all l.n last l.depth l.skip l.mode rest b tail h e w.if-skip-gt0.true) bytes e w.depth-is w.skip-is w.mode-is
          (omega (arith, ap (λ (x : Mode). x.comments) w.mode-is, comments)) (omega (arith, w.depth-is, depth))
      | else-skip-gt0+then-opens+in_ok-skip w ↦
          let same : (beside l.mode).comments ≡ l.mode.comments = refl in
          let mode : k.mode ≡ beside l.mode = w.mode-is ∙ w.beside-mode.ensures in
          held_after all l.n total last l.depth k.depth (up_to_closing tail (closing [] inner tail)) k.skip (beside l.mode) k.mode rest b tail
          (refers_more all l.n last l.depth l.skip l.mode rest b tail h e w.if-skip-gt0.false (sym w.opens.ensures ∙ w.if-opens.true)) bytes e w.depth-is (w.skip-is ∙ w.in_ok-skip.ensures.is) mode
          (omega (arith, ap (λ (x : Mode). x.comments) mode, same, comments)) (omega (arith, w.depth-is, depth))
      | else-skip-gt0+else-opens+then-begins_word+else-ends_part w ↦
          let word = w.word_in-word.ensures in
          let mode : k.mode ≡ plain = w.mode-is ∙ w.plain-mode-then-begins_word.ensures in
          let none : k.mode.comments ≡ 0 = ap (λ (x : Mode). x.comments) mode in
          held_after all l.n total last (depth_after l.depth (word_in l.mode tail)) k.depth (span (word_in l.mode tail) tail) k.skip plain k.mode rest b tail
          (words_more all l.n last l.depth l.skip l.mode rest b tail h e w.if-skip-gt0.false (sym w.opens.ensures ∙ w.if-opens.false) (sym w.begins_word.ensures ∙ w.if-begins_word.true) (ap (λ x. ends_part last l.depth x) (sym word) ∙ sym w.ends_part.ensures ∙ w.if-ends_part.false)) bytes e
          (w.depth-is ∙ w.depth_after-depth.ensures.is ∙ ap (λ x. depth_after l.depth x) word) (w.skip-is ∙ w.span-skip.ensures.is ∙ ap (λ x. span x tail) word) mode
          (omega (arith, none)) (omega (arith, w.depth-is, w.depth_after-depth.ensures.grown, depth))
      | else-skip-gt0+else-opens+else-begins_word w ↦
          held_after all l.n total last l.depth k.depth l.skip k.skip (after l.mode b (next_byte tail)) k.mode rest b tail
          (copies_more all l.n last l.depth l.skip l.mode rest b tail h e w.if-skip-gt0.false (sym w.opens.ensures ∙ w.if-opens.false) (sym w.begins_word.ensures ∙ w.if-begins_word.false)) bytes e w.depth-is w.skip-is
          (w.mode-is ∙ w.after-mode.ensures.is ∙ ap (λ x. after l.mode b x) w.next_byte.ensures)
          (omega (arith, ap (λ (x : Mode). x.comments) w.mode-is, w.after-mode.ensures.grown, comments)) (omega (arith, w.depth-is, depth))
    ]
