use Rattle.std.proofs.Common.{◌≡◌, ◌<◌, ◌+◌, ◌-◌, ◌++◌, ◌∷◌, [], length, get_or, take, sym, subst, arith}
use Rattle.std.proofs.lemmas.Grind.{common_steps}
use Rattle.key_index.specs.Search.{IsKeyBefore}
use Rattle.key_index.proofs.Prefixes.{before_next}
use Rattle.key_index.proofs.prefix.after_prefix.Goals as goal

pub returns-then-prefix-end-lt255 : goal.returns-then-prefix-end-lt255
returns-then-prefix-end-lt255 c key begins =
    let inside : c.loop-end.end - 1 < length c.args.prefix.now = omega arith in
    let bytes : c.push.new.self.items ≡ take (c.loop-end.end - 1) c.args.prefix.now ++ (get_or c.args.prefix.now (c.loop-end.end - 1) 0 + 1) ∷ [] =
    grind (arith, common_steps, c.in_ok-push.ensures.items, c.in_ok-bytes.ensures.items) in
    subst (IsKeyBefore key) (sym bytes) (before_next c.args.prefix.now (c.loop-end.end - 1) inside key begins)
