use Rattle.std.proofs.Common.{ℕ, zero, suc, ◌+◌, ◌-◌, ◌<◌, ◌≡◌, true, false, List, length, drop, Some, sym, ◌∙◌, ap, arith}
use Rattle.lexer.specs.Bytes.{pair_at, slash, star}
use Rattle.lexer.specs.Forms.{plus}
use Rattle.lexer.specs.Gaps.{comment}
use Rattle.lexer.proofs.Comments.{opens, closes, goes, ends, plus_plus, plus_none, closed}
use Rattle.lexer.proofs.gap.comment_len.Invariants.{Sofar}
use Rattle.lexer.proofs.gap.comment_len.Goals as goal

opened : (text : List ℕ) (d i : ℕ) → Sofar text d i → i + 1 < length text → pair_at text i slash star ≡ true → Sofar text (d + 1) (i + 2)
opened text zero i s h e = absurd (let p = s.some in omega arith)
opened text (suc d) i s h e = record {
  is = s.is ∙ ap (plus i) (opens text i d h e) ∙ plus_plus i 2 _ ∙ (let q : suc (suc d) ≡ suc d + 1 = omega arith in ap (λ n. plus (i + 2) (comment n (drop (i + 2) text))) q);
  some = omega arith;
  few = (let f = s.few in omega arith);
  within = omega arith;
}

passed : (text : List ℕ) (d i : ℕ) → Sofar text d i → i + 1 < length text → pair_at text i slash star ≡ false → pair_at text i star slash ≡ false → Sofar text d (i + 1)
passed text zero i s h e f = absurd (let p = s.some in omega arith)
passed text (suc d) i s h e f = record {
  is = s.is ∙ ap (plus i) (goes text i d h e f) ∙ plus_plus i 1 _;
  some = omega arith;
  few = (let f = s.few in omega arith);
  within = omega arith;
}

less : (text : List ℕ) (d i : ℕ) → Sofar text d i → i + 1 < length text → pair_at text i slash star ≡ false → pair_at text i star slash ≡ true → (d - 1 ≡ 0 → ⊥) → Sofar text (d - 1) (i + 2)
less text zero i s h e f n = absurd (let p = s.some in omega arith)
less text (suc d) i s h e f n = record {
  is = s.is ∙ ap (plus i) (closes text i d h e f) ∙ plus_plus i 2 _ ∙ (let q : d ≡ suc d - 1 = omega arith in ap (λ n. plus (i + 2) (comment n (drop (i + 2) text))) q);
  some = omega arith;
  few = (let f = s.few in omega arith);
  within = omega arith;
}

last : (text : List ℕ) (d i : ℕ) → Sofar text d i → i + 1 < length text → pair_at text i slash star ≡ false → pair_at text i star slash ≡ true → d - 1 ≡ 0 → Some (i + 2) ≡ comment 1 text
last text zero i s h e f n = absurd (let p = s.some in omega arith)
last text (suc d) i s h e f n =
    let z : d ≡ 0 = omega arith in
    sym (s.is ∙ ap (plus i) (closes text i d h e f) ∙ plus_plus i 2 _ ∙ ap (λ m. plus (i + 2) (comment m (drop (i + 2) text))) z ∙ ap (plus (i + 2)) (closed (drop (i + 2) text)) ∙ (let q : i + 2 + 0 ≡ i + 2 = omega arith in ap (λ m. Some m) q))

pub loop-i-preserved-then-pair_at : goal.loop-i-preserved-then-pair_at
loop-i-preserved-then-pair_at c = opened _ _ _ c.loop-i.invariant c.loop-i-test.true (sym c.pair_at.ensures ∙ c.if-pair_at.true)

pub returns-then-depth-eq0-clause-is : goal.returns-then-depth-eq0-clause-is
returns-then-depth-eq0-clause-is c = last _ _ _ c.loop-i.invariant c.loop-i-test.true (sym c.pair_at.ensures ∙ c.if-pair_at.false) (sym c.pair_at-else-pair_at.ensures ∙ c.if-pair_at-2.true) (omega arith)

pub loop-i-preserved-else-depth-eq0 : goal.loop-i-preserved-else-depth-eq0
loop-i-preserved-else-depth-eq0 c = less _ _ _ c.loop-i.invariant c.loop-i-test.true (sym c.pair_at.ensures ∙ c.if-pair_at.false) (sym c.pair_at-else-pair_at.ensures ∙ c.if-pair_at-2.true) (λ e. omega arith)

pub loop-i-preserved : goal.loop-i-preserved
loop-i-preserved c = passed _ _ _ c.loop-i.invariant c.loop-i-test.true (sym c.pair_at.ensures ∙ c.if-pair_at.false) (sym c.pair_at-else-pair_at.ensures ∙ c.if-pair_at-2.false)

pub returns-clause-is : goal.returns-clause-is
returns-clause-is c =
    let s = c.loop-i.invariant in
    let e = ends c.args.rest.now c.loop-i.i c.loop-i.depth s.some (omega arith) s.within in
    sym (s.is ∙ plus_none _ _ e)
