use Rattle.std.proofs.Common.{true, not, ℕ, ◌≡◌, List, ◌∷◌, [], ◌++◌, length, take, drop, get_or, replicate, refl, sym, ◌∙◌, ap, arith}
use Rattle.std.specs.Int.{w64, from_be_bytes}
use Rattle.std.proofs.lemmas.Bool.{eq-eqb, true≢false}
use lib.Pointwise.{pointwise}
use lib.Dec.{eqb}
use Rattle.std.proofs.lemmas.List.{take_at}
use Rattle.std.proofs.lemmas.Nat.{from_be_bytes-to_be_bytes_8}
use Rattle.log_meaning.specs.Bytes.{eight, header_bytes}
use Rattle.log_meaning.specs.Images.{IsOpened}
use Rattle.log_meaning.proofs.OneLog.{reads_two, length-head, length-eight}
use Rattle.bi_log.proofs.NoteBytes.{row_of_eight}
use Rattle.bi_log.proofs.header.header_of.Goals as goal

opened_bytes : (bytes : List ℕ) (g : ℕ) → length bytes ≡ 32 → IsOpened bytes g → bytes ≡ 1 ∷ header_bytes g
opened_bytes bytes g long o = sym (reads_two bytes 0 (1 ∷ header_bytes g) bytes (omega (arith, length-head g, long)) o.head (λ i lt. ap (λ (k : ℕ). get_or bytes k 0) (omega arith)))

head_split : (g : ℕ) → 1 ∷ header_bytes g ≡ (1 ∷ 65 ∷ 66 ∷ 76 ∷ 66 ∷ 73 ∷ 48 ∷ 48 ∷ 49 ∷ []) ++ (eight g ++ replicate 15 0)
unfolding header_bytes
head_split g = refl

its_generation : (bytes : List ℕ) (g : ℕ) → length bytes ≡ 32 → IsOpened bytes g → from_be_bytes w64 (take 8 (drop 9 bytes)) ≡ g
unfolding eight
its_generation bytes g long o =
    ap (λ (l : List ℕ). from_be_bytes w64 (take 8 (drop 9 l))) (opened_bytes bytes g long o ∙ head_split g)
    ∙ ap (from_be_bytes w64) (take_at (eight g) (replicate 15 0) 8 (length-eight g))
    ∙ from_be_bytes-to_be_bytes_8 g (let small = o.old_enough in omega (arith, small))

pointwise_same : (xs : List ℕ) → pointwise eqb xs xs ≡ true
pointwise_same [] = refl
pointwise_same (x ∷ xs) = grind (arith, eq-eqb x x refl, pointwise_same xs)

unequal_to_itself : (xs : List ℕ) → true ≡ not (pointwise eqb xs xs) → ⊥
unequal_to_itself xs e = true≢false (e ∙ ap not (pointwise_same xs))

pub returns-then-generation-clause-none : goal.returns-then-generation-clause-none
returns-then-generation-clause-none c = λ g o.
    let is = c.from_be_bytes-generation.ensures ∙ ap (from_be_bytes w64) (sym (row_of_eight c.args.bytes.now 9 (omega (arith, c.type_inv.bytes)))) ∙ its_generation c.args.bytes.now g (omega (arith, c.type_inv.bytes)) o in
    let small = o.old_enough in
    omega (arith, is, small)

pub returns-then-ne-clause-none : goal.returns-then-ne-clause-none
returns-then-ne-clause-none c = λ g o.
    let ig : c.from_be_bytes-generation.result ≡ g = c.from_be_bytes-generation.ensures ∙ ap (from_be_bytes w64) (sym (row_of_eight c.args.bytes.now 9 (omega (arith, c.type_inv.bytes)))) ∙ its_generation c.args.bytes.now g (omega (arith, c.type_inv.bytes)) o in
    let same : c.open_header.result ≡ c.args.bytes.now = c.open_header.ensures ∙ ap (λ (k : ℕ). 1 ∷ header_bytes k) ig ∙ sym (opened_bytes c.args.bytes.now g (omega (arith, c.type_inv.bytes)) o) in
    unequal_to_itself c.args.bytes.now (c.if-ne.ensures ∙ ap (λ (l : List ℕ). not (pointwise eqb l c.args.bytes.now)) same)
