use Rattle.std.proofs.Common.{ℕ, zero, suc, ◌+◌, ◌-◌, ◌<◌, ◌≡◌, List, [], ◌∷◌, ◌++◌, length, drop, reverse, slice_index_or, refl, sym, ◌∙◌, ap, subst, arith}
use Rattle.std.proofs.lemmas.List.{reverse-append}
use Rattle.parse_tree.specs.declared.tree.Node.{Node}
use Rattle.parser.specs.declared.symbol.Opening.{Opening}
use Rattle.parser.specs.Closing.{closing, closed, end_after, children_of, laid}
use Rattle.parser.proofs.nodes.nodes_of.Invariants.{Laid}
use Rattle.parser.proofs.nodes.nodes_of.Goals as goal

drop_all : (os : List Opening) → drop (length os) os ≡ []
drop_all [] = refl
drop_all (o ∷ os) = drop_all os

laid_first : (os : List Opening) (n : ℕ) (nodes : List Node) (ends : List ℕ) → n ≡ length os → nodes ≡ [] → ends ≡ [] → Laid os n nodes ends
laid_first os n nodes ends e f g =
    let d : drop n os ≡ [] = ap (λ i. drop i os) e ∙ drop_all os in
    record {
      nodes_are = ap reverse f ∙ sym (ap (λ x. (closing n x).laid_out) d);
      ends_are = g ∙ sym (ap (λ x. (closing n x).ends) d);
    }

drop_one : (os : List Opening) (i : ℕ) (d : Opening) → i < length os → drop i os ≡ slice_index_or os i d ∷ drop (suc i) os
drop_one [] i d h = absurd (omega arith)
drop_one (o ∷ os) zero d h = refl
drop_one (o ∷ os) (suc i) d h = drop_one os i d (omega arith)

abbrev node_of : Opening → ℕ → Node
node_of o e = record { production = o.production; first = o.first; end = e }

laid_next : (os : List Opening) (p n m : ℕ) (d : Opening) (nodes nodes' : List Node) (ends ends' : List ℕ) (nonterminals e : ℕ) → p ≡ n → n < length os → m ≡ n + 1 → Laid os m nodes ends
    → nonterminals ≡ children_of (slice_index_or os n d).production → e ≡ end_after n nonterminals ends → ends' ≡ e ∷ drop nonterminals ends → nodes' ≡ nodes ++ node_of (slice_index_or os n d) e ∷ [] → Laid os p nodes' ends'
laid_next os p n m d nodes nodes' ends ends' nonterminals e j h i l a b f g =
    let o = slice_index_or os n d in
    let s : suc n ≡ n + 1 = omega arith in
    let c = closing (n + 1) (drop (n + 1) os) in
    let split : drop n os ≡ o ∷ drop (n + 1) os = drop_one os n d h ∙ ap (λ x. o ∷ drop x os) s in
    let whole : closing n (drop n os) ≡ closed n o c = ap (closing n) split in
    let es : ends ≡ c.ends = l.ends_are ∙ ap (λ x. (closing x (drop x os)).ends) i in
    let ns : reverse nodes ≡ c.laid_out = l.nodes_are ∙ ap (λ x. (closing x (drop x os)).laid_out) i in
    let q : e ≡ end_after n (children_of o.production) c.ends = b ∙ ap (λ x. end_after n x ends) a ∙ ap (end_after n (children_of o.production)) es in
    subst (λ x. Laid os x nodes' ends') (sym j) (record {
      nodes_are = ap reverse g ∙ reverse-append nodes (node_of o e ∷ []) ∙ ap (λ x. node_of o e ∷ x) ns ∙ ap (λ x. node_of o x ∷ c.laid_out) q ∙ sym (ap (λ x. x.laid_out) whole);
      ends_are = f ∙ ap (λ x. e ∷ drop x ends) a ∙ ap (λ x. e ∷ drop (children_of o.production) x) es ∙ ap (λ x. x ∷ drop (children_of o.production) c.ends) q ∙ sym (ap (λ x. x.ends) whole);
    })

laid_last : (os : List Opening) (n : ℕ) (nodes done : List Node) (ends : List ℕ) → n ≡ 0 → Laid os n nodes ends → done ≡ reverse nodes → done ≡ laid os
laid_last os n nodes done ends e l f = f ∙ l.nodes_are ∙ ap (λ x. (closing x (drop x os)).laid_out) e

pub loop-k-init : goal.loop-k-init
loop-k-init c = laid_first _ _ _ _ (omega arith) c.in_ok-nodes.ensures.items (ap reverse c.new.ensures.items)

pub loop-k-preserved : goal.loop-k-preserved
loop-k-preserved c =
    laid_next _ _ (length c.args.openings.now - 1 - c.loop-k.k) (length c.args.openings.now - c.loop-k.k) _ c.loop-k.nodes.items _ c.loop-k.ends _ c.children_of-nonterminals.result c.end_after-end.result
    (omega arith) (omega arith) (omega arith) c.loop-k.invariant c.children_of-nonterminals.ensures c.end_after-end.ensures c.in_ok-close.ensures c.in_ok-push.ensures.items

pub returns : goal.returns
returns c = laid_last c.args.openings.now _ c.loop-k.nodes.items _ c.loop-k.ends (omega arith) c.loop-k.invariant c.reverse.ensures.items
