-- The nodes of a tree are laid out from its openings.
use Rattle.std.proofs.Common.{false, ℕ, zero, suc, ◌+◌, ◌≡◌, List, [], ◌∷◌, ◌++◌, length, drop, refl, sym, ◌∙◌, ap, subst, append_assoc, append-nil, arith}
use Rattle.std.specs.Prelude.{slice_index}
use Rattle.std.proofs.lemmas.List.{drop_at}
use Rattle.parse_tree.specs.declared.token.TokenKind.{TokenKind}
use Rattle.parse_tree.specs.declared.tree.Node.{Node}
use Rattle.parser.specs.declared.symbol.Symbol.{Symbol}
use Rattle.parser.specs.declared.symbol.Symbol.TheVariants.{Take, Open}
use Rattle.parser.specs.declared.symbol.Room.{Room}
use Rattle.parser.specs.declared.symbol.Opening.{Opening}
use Rattle.parser.specs.Grammar.{Forest, none, leaf, node, spelt, Derives, rule, whole, nodes, node_count, openings, opening, inside, full, IsTree, Spells, IsShallow, DeepAt, any_deep, kinds}
use Rattle.parser.specs.Engine.{IsRead}
use Rattle.parse_tree.specs.declared.token.Token.{Token}
use Rattle.parser.specs.Closing.{opens_in, end_after, Closed, closed, closing, laid}
use Rattle.parser.proofs.Runs.{steps_of_forest}
use Rattle.parser.proofs.Nesting.{shallow_none}
use Rattle.parser.proofs.Unique.{unique}

-- the ends of the outermost nodes of a forest
roots : ℕ → Forest → List ℕ
roots n none = []
roots n (leaf k f) = roots n f
roots n (node r f g) = (n + 1 + node_count f) ∷ roots (n + 1 + node_count f) g

roots_long : (f : Forest) (n : ℕ) (symbols : List Symbol) (after : List TokenKind) → Derives f symbols after → length (roots n f) ≡ opens_in symbols
unfolding roots
roots_long none n [] after d = refl
roots_long (leaf k f) n (Take w ∷ symbols) after d = roots_long f n symbols after d.1
roots_long (node r f g) n (Open a ∷ symbols) after d = ap suc (roots_long g (n + 1 + node_count f) symbols after d.4)
roots_long none n (x ∷ symbols) after d = absurd d
roots_long (leaf k f) n [] after d = absurd d
roots_long (leaf k f) n (Open a ∷ symbols) after d = absurd d
roots_long (node r f g) n [] after d = absurd d
roots_long (node r f g) n (Take w ∷ symbols) after d = absurd d

-- the last end, or where there is none this number
end_from : ℕ → ℕ → List ℕ → ℕ
end_from m zero ends = m
end_from m (suc k) ends = slice_index ends k

one_more : (m k e : ℕ) (xs : List ℕ) → end_from m (suc k) (e ∷ xs) ≡ end_from e k xs
unfolding end_from
one_more m zero e xs = refl
one_more m (suc k) e xs = refl

end_is : (n k : ℕ) (xs : List ℕ) → end_after n k xs ≡ end_from (n + 1) k xs
unfolding end_from
end_is n zero xs = refl
end_is n (suc k) xs = refl

last_root : (f : Forest) (m : ℕ) (symbols : List Symbol) (after : List TokenKind) (beyond : List ℕ) → Derives f symbols after → end_from m (opens_in symbols) (roots m f ++ beyond) ≡ m + node_count f
unfolding roots end_from
last_root none m [] after beyond d = omega arith
last_root (leaf k f) m (Take w ∷ symbols) after beyond d = last_root f m symbols after beyond d.1
last_root (node r f g) m (Open a ∷ symbols) after beyond d =
    let e = m + 1 + node_count f in
    one_more m (opens_in symbols) e (roots e g ++ beyond) ∙ last_root g e symbols after beyond d.4 ∙ omega arith
last_root none m (x ∷ symbols) after beyond d = absurd d
last_root (leaf k f) m [] after beyond d = absurd d
last_root (leaf k f) m (Open a ∷ symbols) after beyond d = absurd d
last_root (node r f g) m [] after beyond d = absurd d
last_root (node r f g) m (Take w ∷ symbols) after beyond d = absurd d

abbrev joined : List Node → List ℕ → Closed → Closed
joined ns es c = record { laid_out = ns ++ c.laid_out; ends = es ++ c.ends }

closed_node : (n at r : ℕ) (room : Room) (f : Forest) (symbols : List Symbol) (after : List TokenKind) (beyond : Closed) → Derives f (rule r).symbols after
    → closed n (opening r at room) (joined (nodes (n + 1) at f) (roots (n + 1) f) beyond)
    ≡ joined (record { production = r; first = at; end = n + 1 + node_count f } ∷ nodes (n + 1) at f) ((n + 1 + node_count f) ∷ []) beyond
closed_node n at r room f symbols after beyond d =
    let s = (rule r).symbols in
    let e : end_after n (opens_in s) (roots (n + 1) f ++ beyond.ends) ≡ n + 1 + node_count f = end_is n (opens_in s) (roots (n + 1) f ++ beyond.ends) ∙ last_root f (n + 1) s after beyond.ends d in
    let g : drop (opens_in s) (roots (n + 1) f ++ beyond.ends) ≡ beyond.ends = drop_at (roots (n + 1) f) beyond.ends (opens_in s) (roots_long f (n + 1) s after d) in
    ap (λ x. record { laid_out = record { production = r; first = at; end = x } ∷ (nodes (n + 1) at f ++ beyond.laid_out); ends = x ∷ drop (opens_in s) (roots (n + 1) f ++ beyond.ends) }) e
    ∙ ap (λ x. record { laid_out = record { production = r; first = at; end = n + 1 + node_count f } ∷ (nodes (n + 1) at f ++ beyond.laid_out); ends = (n + 1 + node_count f) ∷ x }) g

joined_twice : (ns ms : List Node) (es fs : List ℕ) (c : Closed) → joined ns es (joined ms fs c) ≡ joined (ns ++ ms) (es ++ fs) c
joined_twice ns ms es fs c =
    ap (λ x. record { laid_out = x; ends = es ++ (fs ++ c.ends) }) (sym (append_assoc ns ms c.laid_out)) ∙ ap (λ x. record { laid_out = (ns ++ ms) ++ c.laid_out; ends = x }) (sym (append_assoc es fs c.ends))

closing_is : (f : Forest) (n at : ℕ) (room : Room) (symbols : List Symbol) (after : List TokenKind) (os : List Opening) → Derives f symbols after
    → closing n (openings at room f ++ os) ≡ joined (nodes n at f) (roots n f) (closing (n + node_count f) os)
unfolding roots
closing_is none n at room [] after os d = ap (λ m. closing m os) (omega arith)
closing_is (leaf k f) n at room (Take w ∷ symbols) after os d = closing_is f n (at + 1) room symbols after os d.1
closing_is (node r f g) n at room (Open a ∷ symbols) after os d =
    let next = at + length (spelt f) in
    let m = n + 1 + node_count f in
    let fs = openings at (inside r room) f in
    let gs = openings next room g in
    let o = opening r at room in
    let beyond = closing (m + node_count g) os in
    let one : closing (n + 1) ((fs ++ gs) ++ os) ≡ joined (nodes (n + 1) at f) (roots (n + 1) f) (joined (nodes m next g) (roots m g) beyond) =
    ap (closing (n + 1)) (append_assoc fs gs os)
    ∙ closing_is f (n + 1) at (inside r room) (rule r).symbols _ (gs ++ os) d.3
    ∙ ap (joined (nodes (n + 1) at f) (roots (n + 1) f)) (closing_is g m next room symbols after os d.4) in
    ap (closed n o) one
    ∙ closed_node n at r room f symbols _ (joined (nodes m next g) (roots m g) beyond) d.3
    ∙ joined_twice (record { production = r; first = at; end = m } ∷ nodes (n + 1) at f) (nodes m next g) (m ∷ []) (roots m g) beyond
    ∙ ap (λ x. joined (nodes n at (node r f g)) (roots n (node r f g)) (closing x os)) (omega arith)
closing_is none n at room (x ∷ symbols) after os d = absurd d
closing_is (leaf k f) n at room [] after os d = absurd d
closing_is (leaf k f) n at room (Open a ∷ symbols) after os d = absurd d
closing_is (node r f g) n at room [] after os d = absurd d
closing_is (node r f g) n at room (Take w ∷ symbols) after os d = absurd d

pub laid_is : (f : Forest) → Derives f whole [] → laid (openings 0 full f) ≡ nodes 0 0 f
laid_is f d =
    let e : closing 0 (openings 0 full f ++ []) ≡ joined (nodes 0 0 f) (roots 0 f) (closing (0 + node_count f) []) = closing_is f 0 0 full whole [] [] d in
    ap (λ x. laid x) (sym (append-nil (openings 0 full f))) ∙ ap (λ c. c.laid_out) e ∙ append-nil (nodes 0 0 f)

-- THE LAW
pub one_tree : (one other : List Node) (tokens : List TokenKind) → Spells one tokens → Spells other tokens → one ≡ other
one_tree one other tokens s t =
    let a = steps_of_forest s.0 (openings 0 full s.0) tokens s.1.derives refl s.1.spells in
    let b = steps_of_forest t.0 (openings 0 full t.0) tokens t.1.derives refl t.1.spells in
    let e = unique a (openings 0 full t.0) b in
    sym s.1.laid ∙ sym (laid_is s.0 s.1.derives) ∙ ap laid e ∙ laid_is t.0 t.1.derives ∙ t.1.laid

-- WHAT IS READ IS A TREE
pub tree_of : (ts us : List Token) (used : List Opening) (tree : List Node) → us ≡ ts → (forest : Forest) × IsRead forest used (kinds us) → tree ≡ laid used → Spells tree (kinds ts)
tree_of ts us used tree e r f =
    let d = r.1.derives in (
      r.0,
      record {
        derives = d;
        spells = r.1.spells ∙ ap kinds e;
        laid = sym (laid_is r.0 d) ∙ ap laid r.1.opens ∙ sym f;
      },
    )

pub shallow_of : (ts us : List Token) (used : List Opening) (tree : List Node) → us ≡ ts → (forest : Forest) × IsRead forest used (kinds us) → any_deep used ≡ false → (forest : Forest) → IsTree forest tree (kinds ts) → IsShallow forest
shallow_of ts us used tree e r f forest t place d =
    let a = steps_of_forest r.0 used (kinds ts) r.1.derives r.1.opens (r.1.spells ∙ ap kinds e) in
    let b = steps_of_forest forest (openings 0 full forest) (kinds ts) t.derives refl t.spells in
    shallow_none place used f (subst (λ x. DeepAt place x) (sym (unique a (openings 0 full forest) b)) d)
