use Rattle.std.proofs.Common.{ℕ, ◌-◌, ◌≤◌, ◌≡◌, List, [], ◌∷◌, ◌++◌, length, take, drop, reverse, sym, ◌∙◌, ap, arith}
use Rattle.std.proofs.lemmas.List.{reverse-append, length-reverse, length-drop, take-append-drop, drop_at}
use Rattle.std.proofs.Math.ListN.{drop_of_length-le}
use Rattle.std.proofs.Math.Decide.{dec_lt}
use Rattle.parser.proofs.nodes.Ends.close.Goals as goal

-- what is left of a list from its end, when the first of its end are taken away
front : (xs : List ℕ) (n p : ℕ) → n ≡ length xs - p → reverse (take n xs) ≡ drop p (reverse xs)
front xs n p e =
    let m = take n xs in
    let r = drop n xs in
    let joins : reverse xs ≡ reverse r ++ reverse m = ap reverse (sym (take-append-drop n xs)) ∙ reverse-append m r in
    let long : length (reverse r) ≡ length xs - n = length-reverse r ∙ length-drop n xs in
    elim (dec_lt (length xs) p) [
      | yes h ↦ (
          let z : n ≡ 0 = omega arith in
          let l : length (reverse xs) ≤ p = (let q = length-reverse xs in omega arith) in
          ap (λ i. reverse (take i xs)) z ∙ sym (drop_of_length-le (reverse xs) l))
      | no h ↦ (
          let l : length (reverse r) ≡ p = omega arith in
          sym (drop_at (reverse r) (reverse m) p l) ∙ ap (drop p) (sym joins))
    ]

closed_list : (xs ys zs : List ℕ) (n p e : ℕ) → n ≡ length xs - p → ys ≡ take n xs → zs ≡ ys ++ e ∷ [] → reverse zs ≡ e ∷ drop p (reverse xs)
closed_list xs ys zs n p e a b c =
    ap reverse (c ∙ ap (λ t. t ++ e ∷ []) b) ∙ reverse-append (take n xs) (e ∷ []) ∙ ap (λ t. e ∷ t) (front xs n p a)

pub returns : goal.returns
returns c = closed_list c.self.inside.ends.items c.truncate.new.self.items c.push.new.self.items c.saturating_sub-keep.result c.args.nonterminals c.args.end (c.saturating_sub-keep.ensures ∙ ap (λ n. n - c.args.nonterminals) (ap length c.as_slice.ensures.value)) c.truncate.ensures.items c.in_ok-push.ensures.items ∙ ap (λ t. c.args.end ∷ drop c.args.nonterminals t) c.self.view_is
