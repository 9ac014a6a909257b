-- Slots hold one text.
use Rattle.std.proofs.Common.{◌≡◌, ℕ, zero, suc, ◌+◌, ◌-◌, ◌*◌, ◌<◌, ◌^◌, ◌==◌, if◌then◌else◌, List, [], ◌∷◌, ◌++◌, length, get_or, take, drop, map, refl, sym, ap, ◌∙◌, arith, replicate, length-take, take_all, take-add, drop-drop, append_assoc}
use Rattle.std.specs.List.{flat_map}
use Rattle.std.proofs.lemmas.List.{length-map}
use Rattle.abl_values.specs.Rows.{fragments_of, number_at_head, number_bytes}
use Rattle.std.proofs.Math.Seq.{drop-append-add}
use Rattle.abl_values.proofs.Numbers.{number_at_head-bytes, length-number_bytes}
use Rattle.row_fragments.specs.Fragments.{content_in, fragment_bytes}
use Rattle.row_fragments.proofs.Encoded.{content_read}
use Rattle.database_layout.specs.contents.Chains.{chain_slot, counted, part}
use Rattle.database_layout.proofs.FreshLemmas.Counted.{length_counted, get_counted}
use Rattle.database_layout.specs.stored_text.Held.{HoldText, AreOf}

-- the content of a slot of a text
part_read : (chain text : List ℕ) (i : ℕ) → content_in (chain_slot 3 3 0 chain text i) ≡ part i text
part_read chain text i =
    content_read (if i == 0 then 3 else 3) (get_or chain (i + 1) 0) (if i == 0 then length text else 0) (if i == 0 then 0 else 0) (part i text) (omega (arith, length-take 240 (drop (240 * i) text)))

-- contents that are the parts from one on
parts_joined : (slots : List (List ℕ)) (j : ℕ) (text : List ℕ) → ((i : ℕ) → i < length slots → content_in (get_or slots i []) ≡ part (j + i) text) → flat_map content_in slots ≡ take (240 * length slots) (drop (240 * j) text)
parts_joined [] j text each = refl
parts_joined (slot ∷ slots) j text each =
    let here : content_in slot ≡ take 240 (drop (240 * j) text) = each 0 (omega arith) ∙ ap (λ (n : ℕ). part n text) (omega arith) in
    let later : flat_map content_in slots ≡ take (240 * length slots) (drop (240 * (j + 1)) text) =
    parts_joined slots (j + 1) text (λ i lt. each (suc i) (omega (arith, lt)) ∙ ap (λ (n : ℕ). part n text) (omega arith)) in
    ap (λ (l : List ℕ). l ++ flat_map content_in slots) here
    ∙ ap (λ (l : List ℕ). take 240 (drop (240 * j) text) ++ l) (later ∙ ap (λ (l : List ℕ). take (240 * length slots) l) (ap (λ (n : ℕ). drop n text) (omega arith) ∙ sym (drop-drop 240 (240 * j) text)))
    ∙ sym (take-add 240 (240 * length slots) (drop (240 * j) text))
    ∙ ap (λ (n : ℕ). take n (drop (240 * j) text)) (omega arith)

-- the contents of the slots of a text, one after the other, are the text
contents_are : (slots : List (List ℕ)) (text : List ℕ) → length slots ≡ fragments_of (length text) → AreOf slots text → flat_map content_in slots ≡ text
contents_are slots text long are =
    parts_joined slots 0 text (λ i lt. ap content_in (are i lt) ∙ part_read (counted 1 (length slots)) text i ∙ ap (λ (n : ℕ). part n text) (omega arith))
    ∙ take_all (240 * length slots) text (omega (arith, long))

past : (n x m : ℕ) (rest : List ℕ) → drop (n + m) (number_bytes n x ++ rest) ≡ drop m rest
past n x m rest = ap (λ (k : ℕ). drop (k + m) (number_bytes n x ++ rest)) (sym (length-number_bytes n x)) ∙ drop-append-add (number_bytes n x) rest m

module _ (kind next total table : ℕ) (content : List ℕ) where
  abbrev pad : List ℕ
  pad = replicate (240 - length content) 0

  abbrev after_next : List ℕ
  after_next = number_bytes 4 total ++ (number_bytes 2 table ++ (0 ∷ 0 ∷ (content ++ pad)))

  spread : ((number_bytes 2 (length content) ++ number_bytes 4 next) ++ ((number_bytes 4 total ++ number_bytes 2 table) ++ 0 ∷ 0 ∷ [])) ++ (content ++ pad) ≡ number_bytes 2 (length content) ++ (number_bytes 4 next ++ after_next)
  spread = simp append_assoc

  -- the length that the first slot has
  length_read : total < 2 ^ 32 → number_at_head 4 (drop 8 (fragment_bytes kind next total table content)) ≡ total
  length_read lt =
      ap (λ (xs : List ℕ). number_at_head 4 (drop 6 xs)) spread
      ∙ (ap (number_at_head 4) (past 2 (length content) 4 (number_bytes 4 next ++ after_next) ∙ past 4 next 0 after_next)
      ∙ number_at_head-bytes 4 total (number_bytes 2 table ++ (0 ∷ 0 ∷ (content ++ pad))) lt)

-- and where slots hold a text, the first ones are those of the text
held_are : (reads : ℕ → List ℕ) (taken : List (List ℕ)) (text : List ℕ) → length taken ≡ fragments_of (length text) → ((i : ℕ) → i < length taken → get_or taken i [] ≡ reads (i + 1)) → HoldText reads text → AreOf taken text
held_are reads taken text long same h i lt =
    let within : i < fragments_of (length text) = omega (arith, lt, long) in
    same i lt ∙ ap reads (sym (get_counted 1 (fragments_of (length text)) i within ∙ omega arith))
    ∙ h.chain.each i (omega (arith, within, length_counted 1 (fragments_of (length text))))
    ∙ ap (λ (n : ℕ). chain_slot 3 3 0 (counted 1 n) text i) (sym long)

-- the first slot has the length of the text
held_length : (reads : ℕ → List ℕ) (text : List ℕ) → HoldText reads text → number_at_head 4 (drop 8 (reads 1)) ≡ length text
held_length reads text h =
    let some : 0 < length (counted 1 (fragments_of (length text))) = omega (arith, length_counted 1 (fragments_of (length text))) in
    let at : get_or (counted 1 (fragments_of (length text))) 0 0 ≡ 1 = get_counted 1 (fragments_of (length text)) 0 (omega arith) ∙ omega arith in
    ap (λ (l : List ℕ). number_at_head 4 (drop 8 l)) (ap reads (sym at) ∙ h.chain.each 0 some)
    ∙ length_read 3 (get_or (counted 1 (fragments_of (length text))) 1 0) (length text) 0 (part 0 text) (let short = h.short in omega (arith, short))

-- slots in memory
get_mapped : (slots : ℕ → List ℕ) (at : List ℕ) (i : ℕ) → i < length at → get_or (map slots at) i [] ≡ slots (get_or at i 0)
get_mapped slots [] i lt = absurd (omega (arith, lt))
get_mapped slots (x ∷ xs) zero lt = refl
get_mapped slots (x ∷ xs) (suc i) lt = get_mapped slots xs i (omega (arith, lt))

-- slots hold one text
pub one_text : (slots : ℕ → List ℕ) (a b : List ℕ) → HoldText slots a → HoldText slots b → a ≡ b
one_text slots a b one other = sym (contents_are taken a long (held_are slots taken a long same one)) ∙ contents_are taken b (long ∙ ap fragments_of as_long) (held_are slots taken b (long ∙ ap fragments_of as_long) same other)
  where
    as_long : length a ≡ length b
    as_long = sym (held_length slots a one) ∙ held_length slots b other

    taken : List (List ℕ)
    taken = map slots (counted 1 (fragments_of (length a)))

    long : length taken ≡ fragments_of (length a)
    long = length-map (counted 1 (fragments_of (length a))) slots ∙ length_counted 1 (fragments_of (length a))

    same : (i : ℕ) → i < length taken → get_or taken i [] ≡ slots (i + 1)
    same i lt =
        let within : i < fragments_of (length a) = omega (arith, lt, long) in
        get_mapped slots (counted 1 (fragments_of (length a))) i (omega (arith, within, length_counted 1 (fragments_of (length a))))
        ∙ ap slots (get_counted 1 (fragments_of (length a)) i within ∙ omega arith)
