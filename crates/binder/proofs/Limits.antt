-- Counting the buffers of a source, one naming after the other.
use Rattle.std.proofs.Common.{◌≡◌, ◌≤◌, ◌<◌, ◌-◌, ◌+◌, ◌∷◌, ◌++◌, ℕ, suc, List, [], drop, Bool, true, false, Option, None, Some, refl, ap, sym, ◌∙◌, arith}
use Rattle.std.specs.Prelude.{◌&&◌, ◌||◌, ◌==◌, nat_lt, if◌then◌else◌}
use Rattle.std.specs.List.{list_any}
use Rattle.std.proofs.lemmas.Bool.Decides.{nat_tests}
use Rattle.abl_values.specs.Schema.{same_name}
use Rattle.bind_names.specs.declared.names.Naming.{Naming}
use Rattle.bind_names.specs.declared.violation.Violation.{Violation}
use Rattle.bind_names.specs.Judged.{comes_first, earlier, is_before, rule_number}
use Rattle.binder.specs.declared.counting.Counted.{Counted}
use Rattle.binder.specs.Counted.{Stands, is_past, one_too_many}
use Rattle.binder.specs.Sources.{first_namings, is_same_buffer}
use Rattle.binder.proofs.Finding.{alike, both_left, both_right, equal}
use Rattle.binder.proofs.Walk.{any_append, or_no, or_swaps}

first_where : (before left : List Naming) (n : Naming) (b : Bool) → list_any (is_same_buffer n) before ≡ b →
    first_namings before (n ∷ left) ≡ (if b then first_namings before left else n ∷ first_namings (n ∷ before) left)
first_where before left n b e = ap (λ c. if c then first_namings before left else n ∷ first_namings (n ∷ before) left) e

pub named_already : (first : Option Violation) (all left : List Naming) (n : Naming) (c : Counted) → Stands first all (n ∷ left) c → list_any (is_same_buffer n) c.before ≡ true → Stands first all left c
named_already first all left n c h e = record {
  earlier = h.earlier;
  same = h.same;
  below = h.below;
  rest = rw (first_where h.earlier left n true (sym (h.same n) ∙ e)) at h.rest;
}

same_after : (before earlier : List Naming) (n m : Naming) → list_any (is_same_buffer m) before ≡ list_any (is_same_buffer m) earlier →
    list_any (is_same_buffer m) (before ++ n ∷ []) ≡ list_any (is_same_buffer m) (n ∷ earlier)
same_after before earlier n m e =
    any_append (is_same_buffer m) before (n ∷ []) ∙ or_swaps (list_any (is_same_buffer m) before) (is_same_buffer m n || false) ∙ ap (λ c. c || list_any (is_same_buffer m) before) (or_no (is_same_buffer m n)) ∙ ap (λ c. is_same_buffer m n || c) e

drop_one : (k l : ℕ) (n : Naming) (ns : List Naming) → k ≡ suc l → drop k (n ∷ ns) ≡ drop l ns
drop_one k l n ns e = ap (λ j. drop j (n ∷ ns)) e

pub one_more_buffer : (first : Option Violation) (all left : List Naming) (n : Naming) (c d : Counted) → Stands first all (n ∷ left) c → list_any (is_same_buffer n) c.before ≡ false → c.count < 64 →
    d.first ≡ c.first → d.count ≡ c.count + 1 → d.before ≡ c.before ++ n ∷ [] → Stands first all left d
one_more_buffer first all left n c d h e lt is_first is_count is_before =
    let begun = rw (first_where h.earlier left n false (sym (h.same n) ∙ e)) at h.rest in
    let one : drop (64 - c.count) (n ∷ first_namings (n ∷ h.earlier) left) ≡ drop (64 - d.count) (first_namings (n ∷ h.earlier) left) = drop_one (64 - c.count) (64 - d.count) n (first_namings (n ∷ h.earlier) left) (omega arith) in
    record {
      earlier = n ∷ h.earlier;
      same = λ (m : Naming). ap (list_any (is_same_buffer m)) is_before ∙ same_after c.before h.earlier n m (h.same m);
      below = omega arith;
      rest = rw (is_first, ← one) begun;
    }

pub one_buffer_too_many : (first : Option Violation) (all left : List Naming) (n : Naming) (c d : Counted) → Stands first all (n ∷ left) c → list_any (is_same_buffer n) c.before ≡ false → 64 ≤ c.count →
    d.first ≡ Some (earlier c.first (one_too_many n)) → d.count ≡ c.count → d.before ≡ c.before ++ n ∷ [] → Stands first all left d
one_buffer_too_many first all left n c d h e le is_first is_count is_before =
    let begun = rw (first_where h.earlier left n false (sym (h.same n) ∙ e)) at h.rest in
    let none : 64 - c.count ≡ 0 = (let b = h.below in omega arith) in
    let none_after : 64 - d.count ≡ 0 = (let b = h.below in omega arith) in
    let begun2 = rw none at begun in
    record {
      earlier = n ∷ h.earlier;
      same = λ (m : Naming). ap (list_any (is_same_buffer m)) is_before ∙ same_after c.before h.earlier n m (h.same m);
      below = (let b = h.below in omega arith);
      rest = rw (is_first, none_after) begun2;
    }

-- ---- past the first violation

later_loses : (k l c d : ℕ) (x : Bool) → (nat_lt k l || ((k == l) && nat_lt c d)) ≡ true → ((nat_lt l k || ((l == k) && nat_lt d c)) || (((l == k) && (d == c)) && x)) ≡ false
later_loses k l c d x e = grind (arith, nat_tests)

pub stays_first : (first : Option Violation) (v : Violation) → is_past first v.place ≡ true → first ≡ Some (earlier first v)
stays_first None v e = absurd cc
stays_first (Some w) v e =
    let loses : comes_first v w ≡ false = later_loses w.place.line v.place.line w.place.column v.place.column (nat_lt (rule_number v.rule) (rule_number w.rule)) e in
    ap Some (sym (ap (λ (c : Bool). if c then v else w) loses))

or_true : (c : Bool) → (c || true) ≡ true
or_true true = refl
or_true false = refl

same_both : (p q : Bool) → p ≡ true → q ≡ true → (p && q) ≡ true
same_both p q e f = ap (λ (c : Bool). c && q) e ∙ f

same_through : (m n o : Naming) → is_same_buffer m n ≡ true → is_same_buffer n o ≡ true → is_same_buffer m o ≡ true
same_through m n o e f =
    let procedures : m.procedure ≡ n.procedure = equal m.procedure n.procedure (both_left (m.procedure == n.procedure) (same_name m.name n.name) e) in
    let names : same_name m.name n.name ≡ true = both_right (m.procedure == n.procedure) (same_name m.name n.name) e in
    let again : same_name n.name o.name ≡ true = both_right (n.procedure == o.procedure) (same_name n.name o.name) f in
    same_both (m.procedure == o.procedure) (same_name m.name o.name)
    (ap (λ (p : ℕ). p == o.procedure) procedures ∙ both_left (n.procedure == o.procedure) (same_name n.name o.name) f)
    (sym (alike n.name o.name m.name again) ∙ names)

any_same : (m n : Naming) (os : List Naming) → is_same_buffer m n ≡ true → list_any (is_same_buffer n) os ≡ true → list_any (is_same_buffer m) os ≡ true
any_same m n [] e h = absurd cc
any_same m n (o ∷ os) e h = go (is_same_buffer n o) refl h (any_same m n os e)
  where
    go : (c : Bool) → is_same_buffer n o ≡ c → (c || list_any (is_same_buffer n) os) ≡ true → (list_any (is_same_buffer n) os ≡ true → list_any (is_same_buffer m) os ≡ true) →
        (is_same_buffer m o || list_any (is_same_buffer m) os) ≡ true
    go true f k later = ap (λ (c : Bool). c || list_any (is_same_buffer m) os) (same_through m n o e f)
    go false f k later = ap (λ (c : Bool). is_same_buffer m o || c) (later k) ∙ or_true (is_same_buffer m o)

named_twice : (m n : Naming) (os : List Naming) → list_any (is_same_buffer n) os ≡ true → list_any (is_same_buffer m) (n ∷ os) ≡ list_any (is_same_buffer m) os
named_twice m n os h = go (is_same_buffer m n) refl
  where
    go : (c : Bool) → is_same_buffer m n ≡ c → (c || list_any (is_same_buffer m) os) ≡ list_any (is_same_buffer m) os
    go true e = sym (any_same m n os e h)
    go false e = refl

named_again : (first : Option Violation) (all left : List Naming) (n : Naming) (c d : Counted) → Stands first all left c → list_any (is_same_buffer n) c.before ≡ true →
    d.first ≡ c.first → d.count ≡ c.count → d.before ≡ c.before ++ n ∷ [] → Stands first all left d
named_again first all left n c d h e is_first is_count is_before = record {
  earlier = h.earlier;
  same = λ (m : Naming). ap (list_any (is_same_buffer m)) is_before ∙ same_after c.before c.before n m refl ∙ named_twice m n c.before e ∙ h.same m;
  below = (let b = h.below in omega arith);
  rest = rw (is_first, is_count) h.rest;
}

-- a naming past the first violation, whether its buffer was named before or not
pub naming_past : (first : Option Violation) (all left : List Naming) (n : Naming) (c d : Counted) → Stands first all (n ∷ left) c → c.count ≡ 64 → is_past c.first n.place ≡ true →
    d.first ≡ c.first → d.count ≡ c.count → d.before ≡ c.before ++ n ∷ [] → Stands first all left d
naming_past first all left n c d h full past is_first is_count is_before = go (list_any (is_same_buffer n) c.before) refl
  where
    go : (b : Bool) → list_any (is_same_buffer n) c.before ≡ b → Stands first all left d
    go true e = named_again first all left n c d (named_already first all left n c h e) e is_first is_count is_before
    go false e = one_buffer_too_many first all left n c d h e (omega (arith, full)) (is_first ∙ stays_first c.first (one_too_many n) past) is_count is_before
