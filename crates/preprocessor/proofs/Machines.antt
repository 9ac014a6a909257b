-- Each move of the machine keeps what it comes to.
use Rattle.std.proofs.Common.{Bool, ◌≡◌, ℕ, ◌+◌, ◌-◌, ◌<◌, ◌≤◌, true, false, List, [], ◌∷◌, ◌++◌, length, take, drop, nat_le, Some, None, refl, ap, sym, ◌∙◌, arith, get_or}
use Rattle.std.proofs.Math.Seq.{take-length}
use Rattle.abl_base.specs.declared.place.Place.{Place}
use Rattle.abl_base.specs.declared.rule.Rule.{Rule}
use Rattle.abl_base.specs.declared.rule.Rule.TheVariants.{E1, E5, E6, E7}
use Rattle.preprocessor.specs.declared.mode.Mode.{Mode}
use Rattle.preprocessor.specs.declared.names.Definition.{Definition}
use Rattle.preprocessor.specs.declared.layer.Layer.{Layer}
use Rattle.preprocessor.specs.declared.machine.Waiting.{Waiting}
use Rattle.preprocessor.specs.declared.machine.Waiting.TheVariants.{Inside, Included, Line, Condition}
use Rattle.preprocessor.specs.declared.reference.FileReference.{FileReference}
use Rattle.preprocessor.specs.declared.texts.NamedText.{NamedText}
use Rattle.preprocessor.specs.declared.texts.Mark.{Mark}
use Rattle.preprocessor.specs.declared.texts.State.{State}
use Rattle.preprocessor.specs.declared.texts.Here.{Here}
use Rattle.preprocessor.specs.declared.texts.Outcome.{Outcome}
use Rattle.preprocessor.specs.declared.texts.Outcome.TheVariants.{Gives, Breaks, Needs}
use Rattle.preprocessor.specs.declared.limits.TheConstants.{MAX_WORK_BYTES}
use Rattle.preprocessor.specs.Modes.{after, begins_word, beside, in_condition, inner, next_byte, opens, plain}
use Rattle.preprocessor.specs.Braces.{closing}
use Rattle.preprocessor.specs.Directives.{definition_of, line_length, maker_of}
use Rattle.preprocessor.specs.Parts.{part_length}
use Rattle.preprocessor.specs.Texts.{bytes_at, bytes_of, found}
use Rattle.preprocessor.specs.Places.{moved, past, start}
use Rattle.preprocessor.specs.Expansion.{condition, decided, defined, expansion, fits, in_file, layer, lined, made, one_more_text, opened, resolved, spent, text_of, with_one}
use Rattle.preprocessor.specs.Machine.{byte_copied, condition_ended, file_ended, file_read, inside_ended, layer_continued, line_ended, reference_given, reference_opened, under, word_read}
use Rattle.preprocessor.proofs.Layers.{layer_copied, layer_end, layer_opened, layer_worded, over, text_is, within_limit}
use Rattle.preprocessor.proofs.Resumed.{breaks, condition_waits, file_entered, file_missing, file_too_long, file_waits, inside_waits, line_waits, needs, nothing_waits}

-- ---- equal layers

pub same_layer : (texts : List NamedText) (here : Here) (stack : List Waiting) (at at2 : Place) (mode mode2 : Mode) (state state2 : State) (given given2 : List Mark) (bytes bytes2 : List ℕ) → at ≡ at2 → mode ≡ mode2 → state ≡ state2 → given ≡ given2 → bytes ≡ bytes2 → under texts here stack (layer texts here at mode state given bytes) ≡ under texts here stack (layer texts here at2 mode2 state2 given2 bytes2)
same_layer texts here stack at at2 mode mode2 state state2 given given2 bytes bytes2 a m s g b =
    ap (λ x. under texts here stack (layer texts here x mode state given bytes)) a
    ∙ ap (λ x. under texts here stack (layer texts here at2 x state given bytes)) m
    ∙ ap (λ x. under texts here stack (layer texts here at2 mode2 x given bytes)) s
    ∙ ap (λ x. under texts here stack (layer texts here at2 mode2 state2 x bytes)) g
    ∙ ap (λ x. under texts here stack (layer texts here at2 mode2 state2 given2 x)) b

-- a violation ends everything
pub breaks_at : (texts : List NamedText) (here : Here) (stack : List Waiting) (r : Rule) (t : ℕ) (p : Place) (o : Outcome) → o ≡ Breaks r t p → Breaks r t p ≡ under texts here stack o
breaks_at texts here stack r t p o e = sym (ap (under texts here stack) e ∙ breaks texts here stack r t p)

-- ---- giving

pub copied_goes : (texts : List NamedText) (here : Here) (stack : List Waiting) (l : Layer) (state state2 : State) (b : ℕ) (tail : List ℕ) (at : Place) (mode : Mode) (given : List Mark) → fits state l.given 1 ≡ true → at ≡ moved l.at b → mode ≡ after l.mode b (next_byte tail) → state2 ≡ spent state 1 → given ≡ l.given ++ record { byte = b; text = here.text; place = l.at } ∷ [] → under texts here stack (layer texts here at mode state2 given tail) ≡ under texts here stack (byte_copied texts here l state b tail)
copied_goes texts here stack l state state2 b tail at mode given h a m s g =
    same_layer texts here stack at (moved l.at b) mode (after l.mode b (next_byte tail)) state2 (spent state 1) given (l.given ++ record { byte = b; text = here.text; place = l.at } ∷ []) tail tail a m s g refl
    ∙ ap (under texts here stack) (sym (within_limit (layer texts) here l.at (moved l.at b) (after l.mode b (next_byte tail)) state l.given (record { byte = b; text = here.text; place = l.at } ∷ []) tail h))

pub copied_over : (texts : List NamedText) (here : Here) (stack : List Waiting) (l : Layer) (state : State) (b : ℕ) (tail : List ℕ) → fits state l.given 1 ≡ false → Breaks E6 here.text l.at ≡ under texts here stack (byte_copied texts here l state b tail)
copied_over texts here stack l state b tail h =
    breaks_at texts here stack E6 here.text l.at (byte_copied texts here l state b tail) (over (layer texts) here l.at (moved l.at b) (after l.mode b (next_byte tail)) state l.given (record { byte = b; text = here.text; place = l.at } ∷ []) tail h)

pub continued_goes : (texts : List NamedText) (here : Here) (stack : List Waiting) (l : Layer) (state state2 : State) (extra given : List Mark) (n : ℕ) → n ≡ length extra → fits state l.given n ≡ true → state2 ≡ spent state n → given ≡ l.given ++ extra → under texts here stack (layer texts here l.at l.mode state2 given l.rest.now) ≡ under texts here stack (layer_continued texts here l state extra)
continued_goes texts here stack l state state2 extra given n q h s g =
    let t : fits state l.given (length extra) ≡ true = sym (ap (fits state l.given) q) ∙ h in
    same_layer texts here stack l.at l.at l.mode l.mode state2 (spent state (length extra)) given (l.given ++ extra) l.rest.now l.rest.now refl refl (s ∙ ap (spent state) q) g refl
    ∙ ap (under texts here stack) (sym (within_limit (layer texts) here l.start l.at l.mode state l.given extra l.rest.now t))

pub continued_over : (texts : List NamedText) (here : Here) (stack : List Waiting) (l : Layer) (state : State) (extra : List Mark) (n : ℕ) → n ≡ length extra → fits state l.given n ≡ false → Breaks E6 here.text l.start ≡ under texts here stack (layer_continued texts here l state extra)
continued_over texts here stack l state extra n q h =
    let t : fits state l.given (length extra) ≡ false = sym (ap (fits state l.given) q) ∙ h in
    breaks_at texts here stack E6 here.text l.start (layer_continued texts here l state extra) (over (layer texts) here l.start l.at l.mode state l.given extra l.rest.now t)

-- ---- a reference opens

pub never_closed : (texts : List NamedText) (here : Here) (stack : List Waiting) (l : Layer) (state : State) (bs : List ℕ) → closing [] inner bs ≡ None → Breaks E1 here.text l.at ≡ under texts here stack (reference_opened texts here l state bs)
never_closed texts here stack l state bs e =
    breaks_at texts here stack E1 here.text l.at (reference_opened texts here l state bs) (ap (opened texts (text_of texts here.left) (layer texts) here l.at l.mode state l.given bs) e)

pub inside_opens : (texts : List NamedText) (here : Here) (stack new : List Waiting) (l outer : Layer) (state : State) (bs rest : List ℕ) (n : ℕ) (at : Place) (mode : Mode) (given : List Mark) → closing [] inner bs ≡ Some n → at ≡ moved l.at 123 → mode ≡ inner → given ≡ [] → rest ≡ take n bs → outer.start ≡ l.at → outer.at ≡ past (moved l.at 123) (take (n + 1) bs) → outer.mode ≡ beside l.mode → outer.given ≡ l.given → outer.rest.now ≡ drop (n + 1) bs → new ≡ stack ++ Inside outer ∷ [] → under texts here new (layer texts here at mode state given rest) ≡ under texts here stack (reference_opened texts here l state bs)
inside_opens texts here stack new l outer state bs rest n at mode given e a m g i s t u v w p =
    let r = resolved texts (text_of texts here.left) (layer texts) here in
    let o : Outcome = layer texts here (moved l.at 123) inner state [] (take n bs) in
    same_layer texts here new at (moved l.at 123) mode inner state state given [] rest (take n bs) a m refl g i
    ∙ ap (λ x. under texts here x o) p
    ∙ inside_waits texts here stack outer o
    ∙ ap (λ x. under texts here stack (r x outer.at outer.mode outer.given outer.rest.now o)) s
    ∙ ap (λ x. under texts here stack (r l.at x outer.mode outer.given outer.rest.now o)) t
    ∙ ap (λ x. under texts here stack (r l.at (past (moved l.at 123) (take (n + 1) bs)) x outer.given outer.rest.now o)) u
    ∙ ap (λ x. under texts here stack (r l.at (past (moved l.at 123) (take (n + 1) bs)) (beside l.mode) x outer.rest.now o)) v
    ∙ ap (λ x. under texts here stack (r l.at (past (moved l.at 123) (take (n + 1) bs)) (beside l.mode) l.given x o)) w
    ∙ sym (ap (λ x. under texts here stack (opened texts (text_of texts here.left) (layer texts) here l.at l.mode state l.given bs x)) e)

-- ---- a file

pub too_deep : (texts : List NamedText) (here : Here) (stack : List Waiting) (l : Layer) (state : State) (file : FileReference) → here.left ≡ 0 → Breaks E5 here.text l.start ≡ under texts here stack (file_read texts here l state file)
too_deep texts here stack l state file e =
    breaks_at texts here stack E5 here.text l.start (file_read texts here l state file) (ap (λ n. reference_given texts here l (one_more_text texts (text_of texts here.left) here l.start state file n)) e)

pub not_there : (texts : List NamedText) (here : Here) (stack : List Waiting) (l : Layer) (state : State) (file : FileReference) (name : List ℕ) → 0 < here.left → name ≡ file.name → found 0 name texts ≡ None → Needs file.name ≡ under texts here stack (file_read texts here l state file)
not_there texts here stack l state file name h q e =
    let d = sym (ap (λ n. found 0 n texts) q) ∙ e in
    sym (ap (under texts here stack) (file_missing texts here l state file h d) ∙ needs texts here stack file.name)

pub too_long : (texts : List NamedText) (here : Here) (stack : List Waiting) (l : Layer) (state : State) (file : FileReference) (name : List ℕ) (i : ℕ) → 0 < here.left → name ≡ file.name → found 0 name texts ≡ Some i → nat_le (length (bytes_at texts i)) state.budget ≡ false → Breaks E6 here.text l.start ≡ under texts here stack (file_read texts here l state file)
too_long texts here stack l state file name i h q e f =
    let d = sym (ap (λ n. found 0 n texts) q) ∙ e in
    breaks_at texts here stack E6 here.text l.start (file_read texts here l state file) (file_too_long texts here l state file i h d f)

pub file_enters : (texts : List NamedText) (here : Here) (stack new : List Waiting) (l : Layer) (state inside : State) (file : FileReference) (name bytes : List ℕ) (i n : ℕ) (branches : List Bool) (at : Place) (mode : Mode) (given : List Mark) → 0 < here.left → name ≡ file.name → found 0 name texts ≡ Some i → nat_le (length (bytes_at texts i)) state.budget ≡ true → n ≡ length state.locals → branches ≡ state.branches → inside ≡ in_file state file (length (bytes_at texts i)) → at ≡ start → mode ≡ plain → given ≡ [] → bytes ≡ bytes_at texts i → new ≡ stack ++ Included l here n branches ∷ [] → under texts (record { text = i; arguments = file.arguments; left = here.left - 1 }) new (layer texts (record { text = i; arguments = file.arguments; left = here.left - 1 }) at mode inside given bytes) ≡ under texts here stack (file_read texts here l state file)
file_enters texts here stack new l state inside file name bytes i n branches at mode given h q e f c d s a m g b p =
    let within : Here = record { text = i; arguments = file.arguments; left = here.left - 1 } in
    let there = sym (ap (λ x. found 0 x texts) q) ∙ e in
    let o : Outcome = layer texts within start plain (in_file state file (length (bytes_at texts i))) [] (bytes_at texts i) in
    same_layer texts within new at start mode plain inside (in_file state file (length (bytes_at texts i))) given [] bytes (bytes_at texts i) a m s g b
    ∙ ap (λ x. under texts within x o) p
    ∙ file_waits texts within here stack l n branches o
    ∙ ap (λ x. under texts here stack (file_ended texts here l x branches o)) c
    ∙ ap (λ x. under texts here stack (file_ended texts here l (length state.locals) x o)) d
    ∙ sym (ap (under texts here stack) (file_entered texts here l state file i h there f))

-- ---- a turn

emptied : (bytes : List ℕ) → length bytes < 1 → bytes ≡ []
emptied [] h = refl
emptied (b ∷ bs) h = absurd (omega (arith, h))

ended : (texts : List NamedText) (here : Here) (at : Place) (mode : Mode) (state : State) (given : List Mark) (bytes : List ℕ) → length bytes < 1 → layer texts here at mode state given bytes ≡ Gives given state
ended texts here at mode state given bytes h = ap (layer texts here at mode state given) (emptied bytes h) ∙ layer_end texts here at mode state given

pub whole_ends : (texts : List NamedText) (here : Here) (stack : List Waiting) (at : Place) (mode : Mode) (state : State) (given : List Mark) (bytes : List ℕ) → length bytes < 1 → stack ≡ [] → Gives given state ≡ under texts here stack (layer texts here at mode state given bytes)
whole_ends texts here stack at mode state given bytes h e =
    sym (ap (λ s. under texts here s (layer texts here at mode state given bytes)) e ∙ nothing_waits texts here (layer texts here at mode state given bytes) ∙ ended texts here at mode state given bytes h)

pub inside_ends : (texts : List NamedText) (here : Here) (stack new : List Waiting) (l : Layer) (at : Place) (mode : Mode) (state : State) (given : List Mark) (bytes : List ℕ) → length bytes < 1 → stack ≡ new ++ Inside l ∷ [] → under texts here new (inside_ended texts here l (Gives given state)) ≡ under texts here stack (layer texts here at mode state given bytes)
inside_ends texts here stack new l at mode state given bytes h e =
    sym (ap (λ s. under texts here s (layer texts here at mode state given bytes)) e ∙ inside_waits texts here new l (layer texts here at mode state given bytes) ∙ ap (λ o. under texts here new (inside_ended texts here l o)) (ended texts here at mode state given bytes h))

pub line_ends : (texts : List NamedText) (here : Here) (stack new : List Waiting) (l : Layer) (global : Bool) (at : Place) (mode : Mode) (state : State) (given : List Mark) (bytes : List ℕ) → length bytes < 1 → stack ≡ new ++ Line l global ∷ [] → under texts here new (line_ended texts here l global (Gives given state)) ≡ under texts here stack (layer texts here at mode state given bytes)
line_ends texts here stack new l global at mode state given bytes h e =
    sym (ap (λ s. under texts here s (layer texts here at mode state given bytes)) e ∙ line_waits texts here new l global (layer texts here at mode state given bytes) ∙ ap (λ o. under texts here new (line_ended texts here l global o)) (ended texts here at mode state given bytes h))

pub condition_ends : (texts : List NamedText) (here : Here) (stack new : List Waiting) (l : Layer) (at : Place) (mode : Mode) (state : State) (given : List Mark) (bytes : List ℕ) → length bytes < 1 → stack ≡ new ++ Condition l ∷ [] → under texts here new (condition_ended texts here l (Gives given state)) ≡ under texts here stack (layer texts here at mode state given bytes)
condition_ends texts here stack new l at mode state given bytes h e =
    sym (ap (λ s. under texts here s (layer texts here at mode state given bytes)) e ∙ condition_waits texts here new l (layer texts here at mode state given bytes) ∙ ap (λ o. under texts here new (condition_ended texts here l o)) (ended texts here at mode state given bytes h))

pub file_ends : (texts : List NamedText) (here below : Here) (stack new : List Waiting) (l : Layer) (n : ℕ) (branches : List Bool) (at : Place) (mode : Mode) (state : State) (given : List Mark) (bytes : List ℕ) → length bytes < 1 → stack ≡ new ++ Included l below n branches ∷ [] → under texts below new (file_ended texts below l n branches (Gives given state)) ≡ under texts here stack (layer texts here at mode state given bytes)
file_ends texts here below stack new l n branches at mode state given bytes h e =
    sym (ap (λ s. under texts here s (layer texts here at mode state given bytes)) e ∙ file_waits texts here below new l n branches (layer texts here at mode state given bytes) ∙ ap (λ o. under texts below new (file_ended texts below l n branches o)) (ended texts here at mode state given bytes h))

pub byte_goes : (texts : List NamedText) (here : Here) (stack : List Waiting) (l : Layer) (state : State) (b : ℕ) (tail : List ℕ) → l.rest.now ≡ b ∷ tail → opens l.mode b ≡ false → begins_word l.mode b ≡ false → under texts here stack (byte_copied texts here l state b tail) ≡ under texts here stack (layer texts here l.at l.mode state l.given l.rest.now)
byte_goes texts here stack l state b tail e f w =
    sym (ap (λ r. under texts here stack (layer texts here l.at l.mode state l.given r)) e ∙ ap (under texts here stack) (layer_copied texts here l.at l.mode state l.given b tail f w))

pub word_goes : (texts : List NamedText) (here : Here) (stack : List Waiting) (l : Layer) (state : State) (b : ℕ) (tail : List ℕ) → l.rest.now ≡ b ∷ tail → opens l.mode b ≡ false → begins_word l.mode b ≡ true → under texts here stack (word_read texts here l state tail) ≡ under texts here stack (layer texts here l.at l.mode state l.given l.rest.now)
word_goes texts here stack l state b tail e f w =
    sym (ap (λ r. under texts here stack (layer texts here l.at l.mode state l.given r)) e ∙ ap (under texts here stack) (layer_worded texts here l.at l.mode state l.given b tail f w))

pub reference_goes : (texts : List NamedText) (here : Here) (stack : List Waiting) (l : Layer) (state : State) (b : ℕ) (tail : List ℕ) → l.rest.now ≡ b ∷ tail → opens l.mode b ≡ true → under texts here stack (reference_opened texts here l state tail) ≡ under texts here stack (layer texts here l.at l.mode state l.given l.rest.now)
reference_goes texts here stack l state b tail e f =
    sym (ap (λ r. under texts here stack (layer texts here l.at l.mode state l.given r)) e ∙ ap (under texts here stack) (layer_opened texts here l.at l.mode state l.given b tail f))

-- a slice by its first byte and the others
pub split_front : (bytes : List ℕ) → 1 ≤ length bytes → bytes ≡ get_or bytes 0 0 ∷ take (length bytes - 1) (drop 1 bytes)
split_front [] h = absurd (omega (arith, h))
split_front (b ∷ bs) h =
    let n : length (b ∷ bs) - 1 ≡ length bs = omega arith in
    ap (λ (xs : List ℕ). b ∷ xs) (sym (ap (λ (k : ℕ). take k bs) n ∙ take-length bs))

-- ---- the start

pub starts : (texts : List NamedText) (stack : List Waiting) (arguments : List (List ℕ)) (at : Place) (mode : Mode) (given : List Mark) (locals globals : List Definition) (branches : List Bool) (budget : ℕ) (bytes : List ℕ) → stack ≡ [] → arguments ≡ [] → at ≡ start → mode ≡ plain → given ≡ [] → locals ≡ [] → globals ≡ [] → branches ≡ [] → budget ≡ MAX_WORK_BYTES - length (bytes_at texts 0) → bytes ≡ bytes_at texts 0 → under texts (record { text = 0; arguments = arguments; left = 15 }) stack (layer texts (record { text = 0; arguments = arguments; left = 15 }) at mode (record { locals = locals; globals = globals; branches = branches; budget = budget }) given bytes) ≡ expansion texts
unfolding expansion
starts texts stack arguments at mode given locals globals branches budget bytes s a p m g l o r u b =
    let first : State = record { locals = []; globals = []; branches = []; budget = MAX_WORK_BYTES - length (bytes_at texts 0) } in
    let here : List (List ℕ) → Here = λ x. record { text = 0; arguments = x; left = 15 } in
    let e1 : record { locals = locals; globals = globals; branches = branches; budget = budget } ≡ first = cc in
    same_layer texts (here arguments) stack at start mode plain (record { locals = locals; globals = globals; branches = branches; budget = budget }) first given [] bytes (bytes_at texts 0) p m e1 g b
    ∙ ap (λ x. under texts (here arguments) x (layer texts (here arguments) start plain first [] (bytes_at texts 0))) s
    ∙ nothing_waits texts (here arguments) (layer texts (here arguments) start plain first [] (bytes_at texts 0))
    ∙ ap (λ x. layer texts (here x) start plain first [] (bytes_at texts 0)) a
    ∙ sym (text_is texts 0 15 [] first (bytes_at texts 0))

-- ---- definitions

pub line_opens : (texts : List NamedText) (here : Here) (stack new : List Waiting) (at next inside : Place) (outer : Layer) (state : State) (global : Bool) (k : ℕ) (bytes rest : List ℕ) (mode : Mode) (given before : List Mark) → k ≡ line_length bytes → inside ≡ next → mode ≡ inner → given ≡ [] → rest ≡ take k bytes → outer.start ≡ at → outer.at ≡ past next (take k bytes) → outer.given ≡ before → outer.rest.now ≡ drop k bytes → new ≡ stack ++ Line outer global ∷ [] → under texts here new (layer texts here inside mode state given rest) ≡ under texts here stack (lined (layer texts) here at next state before global (line_length bytes) bytes)
line_opens texts here stack new at next inside outer state global k bytes rest mode given before q n m g i s t v w p =
    let r = defined (layer texts) here in
    let o : Outcome = layer texts here next inner state [] (take k bytes) in
    same_layer texts here new inside next mode inner state state given [] rest (take k bytes) n m refl g i
    ∙ ap (λ x. under texts here x o) p
    ∙ line_waits texts here stack outer global o
    ∙ ap (λ x. under texts here stack (r x outer.at outer.given outer.rest.now global o)) s
    ∙ ap (λ x. under texts here stack (r at x outer.given outer.rest.now global o)) t
    ∙ ap (λ x. under texts here stack (r at (past next (take k bytes)) x outer.rest.now global o)) v
    ∙ ap (λ x. under texts here stack (r at (past next (take k bytes)) before x global o)) w
    ∙ ap (λ x. under texts here stack (lined (layer texts) here at next state before global x bytes)) q

pub line_unnamed : (texts : List NamedText) (here : Here) (stack : List Waiting) (l : Layer) (global : Bool) (state : State) (marks : List Mark) → None ≡ definition_of (maker_of global) (bytes_of marks) → Breaks E7 here.text l.start ≡ under texts here stack (line_ended texts here l global (Gives marks state))
line_unnamed texts here stack l global state marks e =
    breaks_at texts here stack E7 here.text l.start (line_ended texts here l global (Gives marks state)) (ap (made (layer texts) here l.start l.at state l.given l.rest.now global) (sym e))

pub line_named : (texts : List NamedText) (here : Here) (stack : List Waiting) (l : Layer) (global : Bool) (state more : State) (marks : List Mark) (d : Definition) (mode : Mode) → Some d ≡ definition_of (maker_of global) (bytes_of marks) → mode ≡ plain → more ≡ with_one global state d → under texts here stack (layer texts here l.at mode more l.given l.rest.now) ≡ under texts here stack (line_ended texts here l global (Gives marks state))
line_named texts here stack l global state more marks d mode g p q =
    let m = made (layer texts) here l.start l.at state l.given l.rest.now global in
    same_layer texts here stack l.at l.at mode plain more (with_one global state d) l.given l.given l.rest.now l.rest.now refl p q refl refl
    ∙ ap (λ x. under texts here stack (m x)) g

-- ---- conditions

pub condition_opens : (texts : List NamedText) (here : Here) (stack new : List Waiting) (at next inside : Place) (outer : Layer) (state : State) (k : ℕ) (bytes rest : List ℕ) (mode : Mode) (given before : List Mark) → Some k ≡ part_length false bytes → inside ≡ next → mode ≡ in_condition → given ≡ [] → rest ≡ take k bytes → outer.start ≡ at → outer.at ≡ past next (take k bytes) → outer.given ≡ before → outer.rest.now ≡ drop k bytes → new ≡ stack ++ Condition outer ∷ [] → under texts here new (layer texts here inside mode state given rest) ≡ under texts here stack (condition (layer texts) here at next state before bytes (part_length false bytes))
condition_opens texts here stack new at next inside outer state k bytes rest mode given before q n m g i s t v w p =
    let r = decided (layer texts) here in
    let o : Outcome = layer texts here next in_condition state [] (take k bytes) in
    same_layer texts here new inside next mode in_condition state state given [] rest (take k bytes) n m refl g i
    ∙ ap (λ x. under texts here x o) p
    ∙ condition_waits texts here stack outer o
    ∙ ap (λ x. under texts here stack (r x outer.at outer.given outer.rest.now o)) s
    ∙ ap (λ x. under texts here stack (r at x outer.given outer.rest.now o)) t
    ∙ ap (λ x. under texts here stack (r at (past next (take k bytes)) x outer.rest.now o)) v
    ∙ ap (λ x. under texts here stack (r at (past next (take k bytes)) before x o)) w
    ∙ ap (λ x. under texts here stack (condition (layer texts) here at next state before bytes x)) q

-- what is known at the start of a file
pub file_state : (state : State) (file : FileReference) (locals : List Definition) (branches : List Bool) (bytes all : List ℕ) → locals ≡ state.locals ++ file.definitions → branches ≡ [] → bytes ≡ all → record { locals = locals; globals = state.globals; branches = branches; budget = state.budget - length bytes } ≡ in_file state file (length all)
file_state state file locals branches bytes all p q r =
    let known : List Definition → List Bool → List ℕ → State = λ l b x. record { locals = l; globals = state.globals; branches = b; budget = state.budget - length x } in
    ap (λ x. known x branches bytes) p ∙ ap (λ x. known (state.locals ++ file.definitions) x bytes) q ∙ ap (λ x. known (state.locals ++ file.definitions) [] x) r
