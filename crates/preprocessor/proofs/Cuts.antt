-- One byte more on the way to the word that ends a part.
use Rattle.std.proofs.Common.{◌≡◌, ℕ, ◌+◌, ◌-◌, ◌<◌, ◌≤◌, Bool, true, false, if◌then◌else◌, List, [], ◌∷◌, length, Option, Some, None, ap, sym, ◌∙◌, arith}
use Rattle.std.proofs.lemmas.Bool.{lt-ltb}
use Rattle.preprocessor.specs.declared.mode.Mode.{Mode}
use Rattle.preprocessor.specs.Modes.{after, begins_word, beside, inner, next_byte, opens, plain}
use Rattle.preprocessor.specs.Braces.{closing, one_more}
use Rattle.preprocessor.specs.Parts.{cut, depth_after, ends_part, span, up_to_closing, word_in}
use Rattle.preprocessor.proofs.Counts.{more, more_one}

-- what a byte comes to that is not passed over: it opens a reference, begins a word, or neither
abbrev read : Bool → ℕ → Mode → ℕ → List ℕ → Bool → Bool → Bool → Option ℕ
read last d m b bs o w e =
    if o then one_more (cut last d (up_to_closing bs (closing [] inner bs)) (beside m) bs)
    else if w then (if e then Some 0 else one_more (cut last (depth_after d (word_in m bs)) (span (word_in m bs) bs) plain bs))
    else one_more (cut last d 0 (after m b (next_byte bs)) bs)

cut_is : (last : Bool) (d skip : ℕ) (m : Mode) (b : ℕ) (bs : List ℕ) → skip ≤ 0 → cut last d skip m (b ∷ bs) ≡ read last d m b bs (opens m b) (begins_word m b) (ends_part last d (word_in m bs))
cut_is last d skip m b bs h =
    let z : skip ≡ 0 = omega arith in
    ap (λ k. cut last d k m (b ∷ bs)) z

pub skips_more : (all : Option ℕ) (n : ℕ) (last : Bool) (d skip : ℕ) (m : Mode) (rest : List ℕ) (b : ℕ) (tail : List ℕ) → all ≡ more n (cut last d skip m rest) → rest ≡ b ∷ tail → 0 < skip → all ≡ more (n + 1) (cut last d (skip - 1) m tail)
skips_more all n last d skip m rest b tail h e k =
    h ∙ ap (λ r. more n (cut last d skip m r)) e
    ∙ ap (λ t. more n (if t then one_more (cut last d (skip - 1) m tail) else read last d m b tail (opens m b) (begins_word m b) (ends_part last d (word_in m tail)))) (lt-ltb 0 skip k)
    ∙ more_one n (cut last d (skip - 1) m tail)

pub refers_more : (all : Option ℕ) (n : ℕ) (last : Bool) (d skip : ℕ) (m : Mode) (rest : List ℕ) (b : ℕ) (tail : List ℕ) → all ≡ more n (cut last d skip m rest) → rest ≡ b ∷ tail → skip ≤ 0 → opens m b ≡ true → all ≡ more (n + 1) (cut last d (up_to_closing tail (closing [] inner tail)) (beside m) tail)
refers_more all n last d skip m rest b tail h e k o =
    h ∙ ap (λ r. more n (cut last d skip m r)) e
    ∙ ap (more n) (cut_is last d skip m b tail k)
    ∙ ap (λ t. more n (read last d m b tail t (begins_word m b) (ends_part last d (word_in m tail)))) o
    ∙ more_one n (cut last d (up_to_closing tail (closing [] inner tail)) (beside m) tail)

pub words_more : (all : Option ℕ) (n : ℕ) (last : Bool) (d skip : ℕ) (m : Mode) (rest : List ℕ) (b : ℕ) (tail : List ℕ) → all ≡ more n (cut last d skip m rest) → rest ≡ b ∷ tail → skip ≤ 0 → opens m b ≡ false → begins_word m b ≡ true → ends_part last d (word_in m tail) ≡ false → all ≡ more (n + 1) (cut last (depth_after d (word_in m tail)) (span (word_in m tail) tail) plain tail)
words_more all n last d skip m rest b tail h e k o w p =
    h ∙ ap (λ r. more n (cut last d skip m r)) e
    ∙ ap (more n) (cut_is last d skip m b tail k)
    ∙ ap (λ t. more n (read last d m b tail t (begins_word m b) (ends_part last d (word_in m tail)))) o
    ∙ ap (λ t. more n (read last d m b tail false t (ends_part last d (word_in m tail)))) w
    ∙ ap (λ t. more n (read last d m b tail false true t)) p
    ∙ more_one n (cut last (depth_after d (word_in m tail)) (span (word_in m tail) tail) plain tail)

pub copies_more : (all : Option ℕ) (n : ℕ) (last : Bool) (d skip : ℕ) (m : Mode) (rest : List ℕ) (b : ℕ) (tail : List ℕ) → all ≡ more n (cut last d skip m rest) → rest ≡ b ∷ tail → skip ≤ 0 → opens m b ≡ false → begins_word m b ≡ false → all ≡ more (n + 1) (cut last d skip (after m b (next_byte tail)) tail)
copies_more all n last d skip m rest b tail h e k o w =
    let z : 0 ≡ skip = omega arith in
    h ∙ ap (λ r. more n (cut last d skip m r)) e
    ∙ ap (more n) (cut_is last d skip m b tail k)
    ∙ ap (λ t. more n (read last d m b tail t (begins_word m b) (ends_part last d (word_in m tail)))) o
    ∙ ap (λ t. more n (read last d m b tail false t (ends_part last d (word_in m tail)))) w
    ∙ more_one n (cut last d 0 (after m b (next_byte tail)) tail)
    ∙ ap (λ k2. more (n + 1) (cut last d k2 (after m b (next_byte tail)) tail)) z

pub part_here : (all : Option ℕ) (n : ℕ) (last : Bool) (d skip : ℕ) (m : Mode) (rest : List ℕ) (b : ℕ) (tail : List ℕ) → all ≡ more n (cut last d skip m rest) → rest ≡ b ∷ tail → skip ≤ 0 → opens m b ≡ false → begins_word m b ≡ true → ends_part last d (word_in m tail) ≡ true → Some n ≡ all
part_here all n last d skip m rest b tail h e k o w p =
    let z : 0 + n ≡ n = omega arith in
    sym (h ∙ ap (λ r. more n (cut last d skip m r)) e
    ∙ ap (more n) (cut_is last d skip m b tail k)
    ∙ ap (λ t. more n (read last d m b tail t (begins_word m b) (ends_part last d (word_in m tail)))) o
    ∙ ap (λ t. more n (read last d m b tail false t (ends_part last d (word_in m tail)))) w
    ∙ ap (λ t. more n (read last d m b tail false true t)) p
    ∙ ap (λ (i : ℕ). Some i) z)

pub part_nowhere : (all : Option ℕ) (n : ℕ) (last : Bool) (d skip : ℕ) (m : Mode) (rest : List ℕ) → all ≡ more n (cut last d skip m rest) → rest ≡ [] → None ≡ all
part_nowhere all n last d skip m rest h e = sym (h ∙ ap (λ r. more n (cut last d skip m r)) e)

-- ---- what holds before each byte

-- the way so far: n bytes of those up to which `all` counts, the comments and the &IFs that are open, and the bytes in all
abbrev pub Held : Option ℕ → ℕ → Bool → ℕ → ℕ → Mode → List ℕ → ℕ → Type 0
Held all n last d skip m rest total = (all ≡ more n (cut last d skip m rest)) × (m.comments ≤ n) × (d ≤ n) × (n + length rest ≡ total)

-- the same after a byte, where what is known is named anew
pub held_after : (all : Option ℕ) (n total : ℕ) (last : Bool) (d d2 skip skip2 : ℕ) (m m2 : Mode) (rest : List ℕ) (b : ℕ) (tail : List ℕ) → all ≡ more (n + 1) (cut last d skip m tail) → n + length rest ≡ total → rest ≡ b ∷ tail → d2 ≡ d → skip2 ≡ skip → m2 ≡ m → m2.comments ≤ n + 1 → d2 ≤ n + 1 → Held all (n + 1) last d2 skip2 m2 tail total
held_after all n total last d d2 skip skip2 m m2 rest b tail h t e p q r c g =
    let l : length rest ≡ length (b ∷ tail) = ap length e in (
      h
          ∙ ap (λ x. more (n + 1) (cut last x skip m tail)) (sym p)
          ∙ ap (λ x. more (n + 1) (cut last d2 x m tail)) (sym q)
          ∙ ap (λ x. more (n + 1) (cut last d2 skip2 x tail)) (sym r),
      c,
      g,
      omega (arith, l, t),
    )
