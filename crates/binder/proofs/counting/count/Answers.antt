use Rattle.std.proofs.Common.{◌≡◌, ◌++◌, ◌∷◌, [], Some, true, false, ap, refl, arith}
use Rattle.std.specs.List.{list_any}
use Rattle.binder.specs.Counted.{is_past}
use Rattle.binder.specs.Sources.{is_same_buffer}
use Rattle.binder.proofs.Limits.{naming_past, one_buffer_too_many, one_more_buffer}
use Rattle.binder.proofs.counting.count.Goals as goal

pub returns-then-is_past : goal.returns-then-is_past
returns-then-is_past c = λ first all left h.
    let full : c.args.counted.now.count ≡ 64 = omega arith in
    let past : is_past c.args.counted.now.first c.args.naming.now.place ≡ true = cc in
    let added : c.push.new.self ≡ c.args.counted.now.before ++ c.args.naming.now ∷ [] = cc (c.in_ok-push.ensures.ok, c.in_ok-copy_of.ensures) in
    naming_past first all left c.args.naming.now c.args.counted.now _ h full past refl refl added

pub returns-then-counted-lt-MAX_BUFFERS : goal.returns-then-counted-lt-MAX_BUFFERS
returns-then-counted-lt-MAX_BUFFERS c = λ first all left h.
    let is_new : list_any (is_same_buffer c.args.naming.now) c.args.counted.now.before ≡ false = cc in
    let added : c.push-2.new.self ≡ c.args.counted.now.before ++ c.args.naming.now ∷ [] = cc (c.in_ok-push-2.ensures.ok, c.in_ok-copy_of-2.ensures) in
    one_more_buffer first all left c.args.naming.now c.args.counted.now _ h is_new c.if-counted-lt-MAX_BUFFERS.true refl refl added

pub returns : goal.returns
returns c = λ first all left h.
    let is_new : list_any (is_same_buffer c.args.naming.now) c.args.counted.now.before ≡ false = cc in
    let added : c.push-2.new.self ≡ c.args.counted.now.before ++ c.args.naming.now ∷ [] = cc (c.in_ok-push-2.ensures.ok, c.in_ok-copy_of-2.ensures) in
    one_buffer_too_many first all left c.args.naming.now c.args.counted.now _ h is_new c.if-counted-lt-MAX_BUFFERS.false (ap Some c.earlier.ensures) refl added
