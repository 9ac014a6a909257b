-- One byte more on the way to the } that closes a reference.
use Rattle.std.proofs.Common.{◌≡◌, ℕ, ◌+◌, ◌≤◌, true, false, if◌then◌else◌, List, [], ◌∷◌, ◌++◌, length, reverse, Option, Some, None, refl, ap, sym, ◌∙◌, arith}
use Rattle.std.proofs.lemmas.List.{reverse-append}
use Rattle.preprocessor.specs.declared.mode.Mode.{Mode}
use Rattle.preprocessor.specs.Modes.{after, closes, inner, next_byte, opens, within}
use Rattle.preprocessor.specs.Braces.{closing, one_more}
use Rattle.preprocessor.proofs.Counts.{more, more_one}

-- ---- the equations of the definition

closing_opens : (qs : List ℕ) (m : Mode) (b : ℕ) (bs : List ℕ) → opens m b ≡ true → closing qs m (b ∷ bs) ≡ one_more (closing (m.quote ∷ qs) inner bs)
closing_opens [] m b bs e = ap (λ t. if t then one_more (closing (m.quote ∷ []) inner bs) else if closes m b then Some 0 else one_more (closing [] (after m b (next_byte bs)) bs)) e
closing_opens (q ∷ qs) m b bs e = ap (λ t. if t then one_more (closing (m.quote ∷ q ∷ qs) inner bs) else if closes m b then one_more (closing qs (within q) bs) else one_more (closing (q ∷ qs) (after m b (next_byte bs)) bs)) e

closing_copies : (qs : List ℕ) (m : Mode) (b : ℕ) (bs : List ℕ) → opens m b ≡ false → closes m b ≡ false → closing qs m (b ∷ bs) ≡ one_more (closing qs (after m b (next_byte bs)) bs)
closing_copies [] m b bs e f =
    ap (λ t. if t then one_more (closing (m.quote ∷ []) inner bs) else if closes m b then Some 0 else one_more (closing [] (after m b (next_byte bs)) bs)) e
    ∙ ap (λ t. if t then Some 0 else one_more (closing [] (after m b (next_byte bs)) bs)) f
closing_copies (q ∷ qs) m b bs e f =
    ap (λ t. if t then one_more (closing (m.quote ∷ q ∷ qs) inner bs) else if closes m b then one_more (closing qs (within q) bs) else one_more (closing (q ∷ qs) (after m b (next_byte bs)) bs)) e
    ∙ ap (λ t. if t then one_more (closing qs (within q) bs) else one_more (closing (q ∷ qs) (after m b (next_byte bs)) bs)) f

closing_ends : (m : Mode) (b : ℕ) (bs : List ℕ) → opens m b ≡ false → closes m b ≡ true → closing [] m (b ∷ bs) ≡ Some 0
closing_ends m b bs e f =
    ap (λ t. if t then one_more (closing (m.quote ∷ []) inner bs) else if closes m b then Some 0 else one_more (closing [] (after m b (next_byte bs)) bs)) e
    ∙ ap (λ t. if t then Some 0 else one_more (closing [] (after m b (next_byte bs)) bs)) f

closing_leaves : (q : ℕ) (qs : List ℕ) (m : Mode) (b : ℕ) (bs : List ℕ) → opens m b ≡ false → closes m b ≡ true → closing (q ∷ qs) m (b ∷ bs) ≡ one_more (closing qs (within q) bs)
closing_leaves q qs m b bs e f =
    ap (λ t. if t then one_more (closing (m.quote ∷ q ∷ qs) inner bs) else if closes m b then one_more (closing qs (within q) bs) else one_more (closing (q ∷ qs) (after m b (next_byte bs)) bs)) e
    ∙ ap (λ t. if t then one_more (closing qs (within q) bs) else one_more (closing (q ∷ qs) (after m b (next_byte bs)) bs)) f

closing_none : (qs : List ℕ) (m : Mode) → closing qs m [] ≡ None
closing_none [] m = refl
closing_none (q ∷ qs) m = refl

-- ---- a turn of the loop, whose stack has the innermost last

pub opened_more : (all : Option ℕ) (n : ℕ) (outer new : List ℕ) (m : Mode) (rest : List ℕ) (b : ℕ) (tail : List ℕ) → all ≡ more n (closing (reverse outer) m rest) → rest ≡ b ∷ tail → opens m b ≡ true → new ≡ outer ++ m.quote ∷ [] → all ≡ more (n + 1) (closing (reverse new) inner tail)
opened_more all n outer new m rest b tail h e o p =
    h ∙ ap (λ r. more n (closing (reverse outer) m r)) e
    ∙ ap (more n) (closing_opens (reverse outer) m b tail o)
    ∙ more_one n (closing (m.quote ∷ reverse outer) inner tail)
    ∙ ap (λ s. more (n + 1) (closing s inner tail)) (sym (ap reverse p ∙ reverse-append outer (m.quote ∷ [])))

pub closed_more : (all : Option ℕ) (n : ℕ) (outer new : List ℕ) (q : ℕ) (m : Mode) (rest : List ℕ) (b : ℕ) (tail : List ℕ) → all ≡ more n (closing (reverse outer) m rest) → rest ≡ b ∷ tail → opens m b ≡ false → closes m b ≡ true → outer ≡ new ++ q ∷ [] → all ≡ more (n + 1) (closing (reverse new) (within q) tail)
closed_more all n outer new q m rest b tail h e o c p =
    h ∙ ap (λ r. more n (closing (reverse outer) m r)) e
    ∙ ap (λ s. more n (closing s m (b ∷ tail))) (ap reverse p ∙ reverse-append new (q ∷ []))
    ∙ ap (more n) (closing_leaves q (reverse new) m b tail o c)
    ∙ more_one n (closing (reverse new) (within q) tail)

pub copied_more : (all : Option ℕ) (n : ℕ) (outer : List ℕ) (m : Mode) (rest : List ℕ) (b : ℕ) (tail : List ℕ) → all ≡ more n (closing (reverse outer) m rest) → rest ≡ b ∷ tail → opens m b ≡ false → closes m b ≡ false → all ≡ more (n + 1) (closing (reverse outer) (after m b (next_byte tail)) tail)
copied_more all n outer m rest b tail h e o c =
    h ∙ ap (λ r. more n (closing (reverse outer) m r)) e
    ∙ ap (more n) (closing_copies (reverse outer) m b tail o c)
    ∙ more_one n (closing (reverse outer) (after m b (next_byte tail)) tail)

pub ended_here : (all : Option ℕ) (n : ℕ) (outer : List ℕ) (m : Mode) (rest : List ℕ) (b : ℕ) (tail : List ℕ) → all ≡ more n (closing (reverse outer) m rest) → rest ≡ b ∷ tail → opens m b ≡ false → closes m b ≡ true → outer ≡ [] → Some n ≡ all
ended_here all n outer m rest b tail h e o c p =
    let z : 0 + n ≡ n = omega arith in
    sym (h ∙ ap (λ r. more n (closing (reverse outer) m r)) e
    ∙ ap (λ s. more n (closing (reverse s) m (b ∷ tail))) p
    ∙ ap (more n) (closing_ends m b tail o c)
    ∙ ap (λ (k : ℕ). Some k) z)

pub never_ends : (all : Option ℕ) (n : ℕ) (outer : List ℕ) (m : Mode) (rest : List ℕ) → all ≡ more n (closing (reverse outer) m rest) → rest ≡ [] → None ≡ all
never_ends all n outer m rest h e = sym (h ∙ ap (λ r. more n (closing (reverse outer) m r)) e ∙ ap (more n) (closing_none (reverse outer) m))

-- ---- what holds before each byte

-- the way so far: n bytes of those up to which `all` counts, the comments that are open, and the bytes in all
abbrev pub Held : Option ℕ → ℕ → List ℕ → Mode → List ℕ → ℕ → Type 0
Held all n outer m rest total = (all ≡ more n (closing (reverse outer) m rest)) × (m.comments ≤ n) × (n + length rest ≡ total)

pub opened_holds : (all : Option ℕ) (n total : ℕ) (outer new : List ℕ) (m m2 : Mode) (rest : List ℕ) (b : ℕ) (tail : List ℕ) → Held all n outer m rest total → rest ≡ b ∷ tail → opens m b ≡ true → new ≡ outer ++ m.quote ∷ [] → m2 ≡ inner → Held all (n + 1) new m2 tail total
opened_holds all n total outer new m m2 rest b tail h e o p q =
    let z : m2.comments ≡ 0 = ap (λ (x : Mode). x.comments) q in
    let l : length rest ≡ length (b ∷ tail) = ap length e in
    let t : n + length rest ≡ total = h.2 in
    (opened_more all n outer new m rest b tail h.0 e o p ∙ ap (λ x. more (n + 1) (closing (reverse new) x tail)) (sym q), omega (arith, z), omega (arith, l, t))

pub closed_holds : (all : Option ℕ) (n total : ℕ) (outer new : List ℕ) (quote : ℕ) (m m2 : Mode) (rest : List ℕ) (b : ℕ) (tail : List ℕ) → Held all n outer m rest total → rest ≡ b ∷ tail → opens m b ≡ false → closes m b ≡ true → outer ≡ new ++ quote ∷ [] → m2 ≡ within quote → Held all (n + 1) new m2 tail total
closed_holds all n total outer new quote m m2 rest b tail h e o c p q =
    let z : m2.comments ≡ 0 = ap (λ (x : Mode). x.comments) q in
    let l : length rest ≡ length (b ∷ tail) = ap length e in
    let t : n + length rest ≡ total = h.2 in
    (closed_more all n outer new quote m rest b tail h.0 e o c p ∙ ap (λ x. more (n + 1) (closing (reverse new) x tail)) (sym q), omega (arith, z), omega (arith, l, t))

pub copied_holds : (all : Option ℕ) (n total : ℕ) (outer new : List ℕ) (m m2 : Mode) (rest : List ℕ) (b next : ℕ) (tail : List ℕ) → Held all n outer m rest total → rest ≡ b ∷ tail → opens m b ≡ false → closes m b ≡ false → new ≡ outer → next ≡ next_byte tail → m2 ≡ after m b next → m2.comments ≤ m.comments + 1 → Held all (n + 1) new m2 tail total
copied_holds all n total outer new m m2 rest b next tail h e o c p x q g =
    let k : m.comments ≤ n = h.1 in
    let l : length rest ≡ length (b ∷ tail) = ap length e in
    let t : n + length rest ≡ total = h.2 in (
      copied_more all n outer m rest b tail h.0 e o c
          ∙ ap (λ y. more (n + 1) (closing (reverse outer) (after m b y) tail)) (sym x)
          ∙ ap (λ y. more (n + 1) (closing (reverse outer) y tail)) (sym q)
          ∙ ap (λ y. more (n + 1) (closing (reverse y) m2 tail)) (sym p),
      omega (arith, k, g),
      omega (arith, l, t),
    )
