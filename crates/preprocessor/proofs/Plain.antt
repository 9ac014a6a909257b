-- A text without { and & expands to itself.
use Rattle.std.proofs.Common.{◌≡◌, ℕ, suc, ◌+◌, ◌-◌, ◌≤◌, Bool, true, false, not, ◌&&◌, ◌||◌, ◌==◌, nat_le, nat_lt, if◌then◌else◌, List, [], ◌∷◌, ◌++◌, length, refl, ap, sym, ◌∙◌, arith, append_assoc, length-append}
use Rattle.std.proofs.lemmas.List.{append-nil}
use Rattle.std.proofs.lemmas.Bool.{le-leb}
use Rattle.abl_base.specs.declared.limits.TheConstants.{MAX_FILE_BYTES}
use Rattle.abl_base.specs.declared.place.Place.{Place}
use Rattle.preprocessor.specs.declared.mode.Mode.{Mode}
use Rattle.preprocessor.specs.declared.texts.NamedText.{NamedText}
use Rattle.preprocessor.specs.declared.texts.Mark.{Mark}
use Rattle.preprocessor.specs.declared.texts.State.{State}
use Rattle.preprocessor.specs.declared.texts.Here.{Here}
use Rattle.preprocessor.specs.declared.texts.Outcome.TheVariants.{Gives}
use Rattle.preprocessor.specs.declared.limits.TheConstants.{MAX_EXPANSION_BYTES}
use Rattle.preprocessor.specs.Modes.{after, begins_word, next_byte, opens, plain}
use Rattle.preprocessor.specs.Places.{moved, start}
use Rattle.preprocessor.specs.Texts.{bytes_at}
use Rattle.preprocessor.specs.Expansion.{at_first, expansion, fits, layer, spent}
use Rattle.preprocessor.specs.Laws.{IsItself, is_plain, taken}
use Rattle.preprocessor.proofs.Layers.{layer_copied, layer_end, text_is, within_limit}

one_of : (x t : Bool) → t ≡ false → (if x then false else t) ≡ false
one_of true t h = refl
one_of false t h = h

one_of_two : (x y z t : Bool) → t ≡ false → (if x then false else if y then false else if z then t else false) ≡ false
one_of_two true y z t h = refl
one_of_two false true z t h = refl
one_of_two false false true t h = h
one_of_two false false false t h = refl

opens_not : (m : Mode) (b : ℕ) → (b == 123) ≡ false → opens m b ≡ false
opens_not m b h = one_of (m.passed || nat_lt 0 m.comments) (b == 123) h

begins_not : (m : Mode) (b : ℕ) → (b == 38) ≡ false → begins_word m b ≡ false
begins_not m b h = one_of_two (m.passed || nat_lt 0 m.comments) (m.name || nat_lt 0 m.quote) m.directives (b == 38) h

parts : (x y z : Bool) → (not (x || y) && z) ≡ true → (x ≡ false) × (y ≡ false) × (z ≡ true)
parts true y z h = cc
parts false true z h = cc
parts false false z h = (refl, refl, h)

fits_is : (state : State) (given : List Mark) (n : ℕ) → length given + n ≤ MAX_EXPANSION_BYTES → n ≤ state.budget → fits state given n ≡ true
fits_is state given n h k = ap (λ t. t && nat_le n state.budget) (le-leb (length given + n) MAX_EXPANSION_BYTES h) ∙ le-leb n state.budget k

spent_none : (s : State) → spent s 0 ≡ s
spent_none s =
    let e : s.budget - 0 ≡ s.budget = omega arith in
    ap (λ (k : ℕ). let r : State = record { locals = s.locals; globals = s.globals; branches = s.branches; budget = k } in r) e

spent_more : (s : State) (n : ℕ) → spent (spent s 1) n ≡ spent s (suc n)
spent_more s n =
    let e : s.budget - 1 - n ≡ s.budget - suc n = omega arith in
    ap (λ (k : ℕ). let r : State = record { locals = s.locals; globals = s.globals; branches = s.branches; budget = k } in r) e

plain_layer : (texts : List NamedText) (here : Here) (at : Place) (mode : Mode) (state : State) (given : List Mark) (bs : List ℕ) → is_plain bs ≡ true → length given + length bs ≤ MAX_EXPANSION_BYTES → length bs ≤ state.budget → layer texts here at mode state given bs ≡ Gives (given ++ taken here.text at bs) (spent state (length bs))
plain_layer texts here at mode state given [] p h k =
    layer_end texts here at mode state given
    ∙ ap (λ x. Gives x state) (sym (append-nil given))
    ∙ ap (Gives (given ++ [])) (sym (spent_none state))
plain_layer texts here at mode state given (b ∷ bs) p h k =
    let q = parts (b == 123) (b == 38) (is_plain bs) p in
    let m : Mark = record { byte = b; text = here.text; place = at } in
    let one : length (b ∷ bs) ≡ 1 + length bs = omega arith in
    let f : fits state given 1 ≡ true = fits_is state given 1 (omega (arith, h, one)) (omega (arith, k, one)) in
    let g : length (given ++ m ∷ []) ≡ length given + 1 = length-append given (m ∷ []) in
    layer_copied texts here at mode state given b bs (opens_not mode b q.0) (begins_not mode b q.1)
    ∙ within_limit (layer texts) here at (moved at b) (after mode b (next_byte bs)) state given (m ∷ []) bs f
    ∙ plain_layer texts here (moved at b) (after mode b (next_byte bs)) (spent state 1) (given ++ m ∷ []) bs q.2 (omega (arith, g, h, one)) (omega (arith, k, one))
    ∙ ap (λ (x : List Mark). Gives x (spent (spent state 1) (length bs))) (append_assoc given (m ∷ []) (taken here.text (moved at b) bs))
    ∙ ap (Gives (given ++ taken here.text at (b ∷ bs))) (spent_more state (length bs))

pub plain_source : (texts : List NamedText) → is_plain (bytes_at texts 0) ≡ true → length (bytes_at texts 0) ≤ MAX_FILE_BYTES → IsItself texts
unfolding expansion
plain_source texts p h =
    let here : Here = record { text = 0; arguments = []; left = 15 } in
    let first : State = at_first (length (bytes_at texts 0)) in (
      spent first (length (bytes_at texts 0)),
      text_is texts 0 15 [] first (bytes_at texts 0)
          ∙ plain_layer texts here start plain first [] (bytes_at texts 0) p (omega (arith, h)) (omega (arith, h)),
    )
