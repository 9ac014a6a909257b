-- What is left of a stack with one layer more, and what a turn comes to.
use Rattle.std.proofs.Common.{◌≡◌, Bool, ℕ, ◌+◌, ◌-◌, ◌*◌, ◌<◌, ◌≤◌, List, [], ◌∷◌, ◌++◌, length, take, drop, Result, Ok, Err, ap, subst, ◌∙◌, arith, length-drop}
use Rattle.std.proofs.lemmas.List.{length-take-le}
use Rattle.std.specs.Prelude.{IfOk, IfSome, Option, Some}
use Rattle.preprocessor.specs.declared.machine.Turn.{Turn}
use Rattle.preprocessor.specs.declared.machine.Turn.TheVariants.{Next, Ends}
use Rattle.preprocessor.specs.declared.layer.Layer.{Layer}
use Rattle.preprocessor.specs.declared.machine.Waiting.{Waiting}
use Rattle.preprocessor.specs.declared.machine.Waiting.TheVariants.{Condition, Inside, Line}
use Rattle.preprocessor.specs.declared.texts.NamedText.{NamedText}
use Rattle.preprocessor.specs.declared.texts.Outcome.{Outcome}
use Rattle.preprocessor.specs.Machine.{IsBelow, comes_to, height, weight}

pub height_push : (stack : List Waiting) (w : Waiting) → height (stack ++ w ∷ []) ≡ height stack + weight w
unfolding height
height_push [] w = omega arith
height_push (v ∷ vs) w =
    let q : height (vs ++ w ∷ []) ≡ height vs + weight w = height_push vs w in
    omega (arith, q)

-- the same where the stack is given by an equation
pub height_is : (new stack : List Waiting) (w : Waiting) → new ≡ stack ++ w ∷ [] → height new ≡ height stack + weight w
height_is new stack w e = ap height e ∙ height_push stack w

-- ---- what a turn comes to, and what it leaves

pub ok_same : {E : Type 0} (texts : List NamedText) (o p : Outcome) (r : Result Turn E) → IfOk r (λ t. comes_to texts t ≡ o) → o ≡ p → IfOk r (λ t. comes_to texts t ≡ p)
ok_same texts o p (Ok t) h e = h ∙ e
ok_same texts o p (Err x) h e = h

pub below_more : (a b : ℕ) (t : Turn) → IsBelow a t → a ≤ b → IsBelow b t
below_more a b (Next m) h k = omega (arith, h, k)
below_more a b (Ends o) h k = h

pub ok_below : {E : Type 0} (a b : ℕ) (r : Result Turn E) → IfOk r (λ t. IsBelow a t) → a ≤ b → IfOk r (λ t. IsBelow b t)
ok_below a b (Ok t) h k = below_more a b t h k
ok_below a b (Err x) h k = h

-- The inside of a reference is read before the rest: two bytes are behind, and one layer more waits.
pub inside_below : (stack new : List Waiting) (outer : Layer) (tail inner : List ℕ) (n total budget : ℕ) → new ≡ stack ++ Inside outer ∷ [] → inner ≡ take n tail → outer.rest.now ≡ drop (n + 1) tail → total ≡ length tail + 1 → n < length tail → height new + 4 * length inner + 4 * budget < height stack + 4 * total + 4 * budget
inside_below stack new outer tail inner n total budget p i r t h =
    let a : height new ≡ height stack + (4 * length outer.rest.now + 2) = height_is new stack (Inside outer) p in
    let b : length inner ≡ length (take n tail) = ap length i in
    let c : length outer.rest.now ≡ length (drop (n + 1) tail) = ap length r in
    let d : length (take n tail) ≡ n = length-take-le n tail (omega (arith, h)) in
    let e : length (drop (n + 1) tail) ≡ length tail - (n + 1) = length-drop (n + 1) tail in
    omega (arith, a, b, c, d, e, t, h)

-- a bound of a number that is there
pub some_below : (o : Option ℕ) (n k : ℕ) → IfSome o (λ x. x < k) → o ≡ Some n → n < k
some_below o n k h e = let P : Option ℕ → Type 0 = λ x. IfSome x (λ y. y < k) in subst P e h

-- A condition, or the line of a definition, is read before the rest; its word is behind, and one layer more waits.
pub condition_below : (stack new : List Waiting) (outer : Layer) (bytes inner : List ℕ) (k budget : ℕ) → new ≡ stack ++ Condition outer ∷ [] → inner ≡ take k bytes → outer.rest.now ≡ drop k bytes → k ≤ length bytes → height new + 4 * length inner + 4 * budget < height stack + 4 * length bytes + 4 * budget + 2
condition_below stack new outer bytes inner k budget p i r t =
    let a : height new ≡ height stack + (4 * length outer.rest.now + 1) = height_is new stack (Condition outer) p in
    let b : length inner ≡ length (take k bytes) = ap length i in
    let c : length outer.rest.now ≡ length (drop k bytes) = ap length r in
    let d : length (take k bytes) ≡ k = length-take-le k bytes t in
    let e : length (drop k bytes) ≡ length bytes - k = length-drop k bytes in
    omega (arith, a, b, c, d, e, t)

pub line_below : (stack new : List Waiting) (outer : Layer) (global : Bool) (bytes inner : List ℕ) (k budget : ℕ) → new ≡ stack ++ Line outer global ∷ [] → inner ≡ take k bytes → outer.rest.now ≡ drop k bytes → k ≤ length bytes → height new + 4 * length inner + 4 * budget < height stack + 4 * length bytes + 4 * budget + 2
line_below stack new outer global bytes inner k budget p i r t =
    let a : height new ≡ height stack + (4 * length outer.rest.now + 1) = height_is new stack (Line outer global) p in
    let b : length inner ≡ length (take k bytes) = ap length i in
    let c : length outer.rest.now ≡ length (drop k bytes) = ap length r in
    let d : length (take k bytes) ≡ k = length-take-le k bytes t in
    let e : length (drop k bytes) ≡ length bytes - k = length-drop k bytes in
    omega (arith, a, b, c, d, e, t)
