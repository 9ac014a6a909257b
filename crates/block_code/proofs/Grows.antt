-- Code that grows keeps the bodies that it encodes.
use Rattle.std.proofs.Common.{◌≡◌, ℕ, ◌<◌, List, [], ◌∷◌, ◌++◌, length, refl, sym, ap, ◌∙◌, subst, arith, append_assoc, append-nil, length-append}
use Rattle.std.proofs.lemmas.List.{get_or_append_left, get_or_at, map-append, length-map}
use Rattle.bound_tree.specs.Tree.{Body, Nothing, Then}
use Rattle.flat_machine.specs.Code.{before}
use Rattle.flat_machine.specs.Written.{tree_at, NamesBelow, Encodes, DenotesNext}
use Rattle.flat_machine.proofs.Written.{one_more}
use Rattle.block_code.specs.declared.code.Instr.{Instr}
use Rattle.block_code.specs.Code.{instr_of, instrs_of}
use Rattle.block_code.specs.Emitted.{HasEnd, Grown, GrownTo, Emitted}

-- a body followed by nothing
pub before_nothing : (b : Body) → before b Nothing ≡ b
before_nothing Nothing = refl
before_nothing (Then t rest) = ap (λ x. Then t x) (before_nothing rest)

-- the bodies that were there stay
pub stays : (ts later : List Body) (k : ℕ) → k < length ts → tree_at (ts ++ later) k ≡ tree_at ts k
stays ts later k lt = get_or_append_left ts later Nothing k lt

pub below_later : (ts later : List Body) (k : ℕ) → k < length ts → k < length (ts ++ later)
below_later ts later k lt = let e = length-append ts later in omega (arith, e, lt)

pub end_stays : (ts later : List Body) → HasEnd ts → HasEnd (ts ++ later)
end_stays ts later h = record { some = below_later ts later 0 h.some; end = stays ts later 0 h.some ∙ h.end }

-- code that did not grow
abbrev pub grown_none : (code : List Instr) (ts : List Body) → Encodes (instrs_of code) ts → Grown code code ts
grown_none code ts enc = record { more = []; is = sym (append-nil code); later = []; encodes = subst (λ u. Encodes (instrs_of code) u) (sym (append-nil ts)) enc }

pub emitted_none : (code : List Instr) (next : ℕ) → Emitted code code (λ b. b) next next
emitted_none code next = λ ts enc h lt. record {
  grown = grown_none code ts enc;
  below = below_later ts [] next lt;
  body_is = stays ts [] next lt;
}

-- code that grew twice
abbrev pub grown_twice : (a b c : List Instr) (ts : List Body) (x : Grown a b ts) → Grown b c (ts ++ x.later) → Grown a c ts
grown_twice a b c ts x y = record {
  more = x.more ++ y.more;
  is = y.is ∙ ap (λ z. z ++ y.more) x.is ∙ append_assoc a x.more y.more;
  later = x.later ++ y.later;
  encodes = subst (λ u. Encodes (instrs_of c) u) (append_assoc ts x.later y.later) y.encodes;
}

pub grown_further : (a b c : List Instr) (ts : List Body) (place : ℕ) (t t' : Body) (x : Grown a b ts) → GrownTo b c (ts ++ x.later) place t → t ≡ t' → GrownTo a c ts place t'
grown_further a b c ts place t t' x y same = record {
  grown = grown_twice a b c ts x y.grown;
  below = subst (λ u. place < length u) (append_assoc ts x.later y.grown.later) y.below;
  body_is = ap (λ u. tree_at u place) (sym (append_assoc ts x.later y.grown.later)) ∙ y.body_is ∙ same;
}

pub emitted_then : (a b c : List Instr) (f g : Body → Body) (next mid place : ℕ) → Emitted a b f next mid → Emitted b c g mid place → Emitted a c (λ r. g (f r)) next place
emitted_then a b c f g next mid place p q = λ ts enc h lt.
    let x = p ts enc h lt in
    let y = q (ts ++ x.grown.later) x.grown.encodes (end_stays ts x.grown.later h) x.below in
    grown_further a b c ts place (g (tree_at (ts ++ x.grown.later) mid)) (g (f (tree_at ts next))) x.grown y (ap g x.body_is)

-- one instruction was written
pub grown_one : (old new : List Instr) (i : Instr) (ts : List Body) (t : Body) → new ≡ old ++ i ∷ [] → Encodes (instrs_of old) ts → NamesBelow (length ts) (instr_of i) → DenotesNext ts t (instr_of i) → GrownTo old new ts (length old) t
grown_one old new i ts t is enc below next =
    let lengths : length (instrs_of old) ≡ length ts = enc.same_length in
    let old_length : length (instrs_of old) ≡ length old = length-map old instr_of in
    let at_end : length ts ≡ length old = sym lengths ∙ old_length in
    let grows : Encodes (instrs_of old ++ instr_of i ∷ []) (ts ++ t ∷ []) = one_more (instrs_of old) ts (instr_of i) t enc (subst (λ n. NamesBelow n (instr_of i)) (sym lengths) below) next in
    record {
      grown = record { more = i ∷ []; is = is; later = t ∷ []; encodes = subst (λ c. Encodes c (ts ++ t ∷ [])) (sym (ap instrs_of is ∙ map-append instr_of old (i ∷ []))) grows };
      below = let e = length-append ts (t ∷ []) in omega (arith, e, at_end);
      body_is = get_or_at ts t [] Nothing (length old) at_end;
    }
