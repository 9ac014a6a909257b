-- A run of bytes that are given as they are.
use Rattle.std.proofs.Common.{◌≡◌, ℕ, ◌+◌, ◌≤◌, true, false, ◌&&◌, nat_le, List, [], ◌∷◌, ◌++◌, length, ap, sym, ◌∙◌}
use Rattle.std.proofs.lemmas.Bool.{le-leb}
use Rattle.abl_base.specs.declared.place.Place.{Place}
use Rattle.preprocessor.specs.declared.limits.TheConstants.{MAX_EXPANSION_BYTES}
use Rattle.preprocessor.specs.declared.mode.Mode.{Mode}
use Rattle.preprocessor.specs.declared.texts.NamedText.{NamedText}
use Rattle.preprocessor.specs.declared.texts.Mark.{Mark}
use Rattle.preprocessor.specs.declared.texts.State.{State}
use Rattle.preprocessor.specs.declared.texts.Here.{Here}
use Rattle.preprocessor.specs.declared.texts.Outcome.{Outcome}
use Rattle.preprocessor.specs.Modes.{after, begins_word, next_byte, opens}
use Rattle.preprocessor.specs.Places.{moved}
use Rattle.preprocessor.specs.Expansion.{fits, layer, spent}
use Rattle.preprocessor.proofs.Layers.{layer_copied, within_limit}

one_fits : (state : State) (given : List Mark) → length given + 1 ≤ MAX_EXPANSION_BYTES → 1 ≤ state.budget → fits state given 1 ≡ true
one_fits state given h k = ap (λ t. t && nat_le 1 state.budget) (le-leb (length given + 1) MAX_EXPANSION_BYTES h) ∙ le-leb 1 state.budget k

pub one_more : (texts : List NamedText) (here : Here) (all : Outcome) (at at2 : Place) (mode mode2 : Mode) (state state2 : State) (given given2 : List Mark) (b next : ℕ) (rest tail : List ℕ) → layer texts here at mode state given rest ≡ all → rest ≡ b ∷ tail → opens mode b ≡ false → begins_word mode b ≡ false → length given + 1 ≤ MAX_EXPANSION_BYTES → 1 ≤ state.budget → next ≡ next_byte tail → mode2 ≡ after mode b next → at2 ≡ moved at b → state2 ≡ spent state 1 → given2 ≡ given ++ record { byte = b; text = here.text; place = at } ∷ [] → layer texts here at2 mode2 state2 given2 tail ≡ all
one_more texts here all at at2 mode mode2 state state2 given given2 b next rest tail p e o w f k x m a s g =
    let more : List Mark = record { byte = b; text = here.text; place = at } ∷ [] in
    ap (λ y. layer texts here y mode2 state2 given2 tail) a
    ∙ ap (λ y. layer texts here (moved at b) y state2 given2 tail) (m ∙ ap (after mode b) x)
    ∙ ap (λ y. layer texts here (moved at b) (after mode b (next_byte tail)) y given2 tail) s
    ∙ ap (λ y. layer texts here (moved at b) (after mode b (next_byte tail)) (spent state 1) y tail) g
    ∙ sym (within_limit (layer texts) here at (moved at b) (after mode b (next_byte tail)) state given more tail (one_fits state given f k))
    ∙ sym (layer_copied texts here at mode state given b tail o w)
    ∙ ap (layer texts here at mode state given) (sym e)
    ∙ p
