-- The indexes of a table that are read so far, and which of them is the primary one.
use Rattle.std.proofs.Common.{◌≡◌, ◌≤◌, ◌<◌, ℕ, ◌+◌, ◌^◌, Bool, true, false, ◌==◌, cond, List, [], ◌∷◌, ◌++◌, length, Option, Some, None, inl, inr, refl, sym, ap, subst, ◌∙◌, arith, length-append}
use Rattle.std.specs.Prelude.{IfSome, nat_lt}
use Rattle.std.specs.List.{All}
use Rattle.std.proofs.lemmas.Bool.{cases_Bool, eqb-true, lt-ltb}
use Rattle.std.proofs.lemmas.Bool.Decides.{nat_tests}
use Rattle.std.proofs.lemmas.List.Elements.{All-nil, All-push}
use Rattle.abl_values.specs.declared.schema.FieldDef.{FieldDef}
use Rattle.abl_values.specs.declared.schema.IndexDef.{IndexDef}
use Rattle.abl_values.specs.Schema.{index_line, index_lines, is_number, number_of_name}
use Rattle.abl_values.specs.Sound.{has_twice, IsSoundIndex}
use Rattle.schema_text.specs.Words.{begins}
use Rattle.schema_text.specs.Written.{AreWrittenIndexes, IsWrittenIndex, index_names}
use Rattle.schema_text.proofs.Names.{apart_push}
use Rattle.schema_text.proofs.ToCome.{Next, ToCome, after_next, at_first, at_last, at_next, lines}

-- the number, if it is below this one
abbrev pub below : Option ℕ → ℕ → Option ℕ
below None n = None
below (Some k) n = cond (nat_lt k n) (Some k) None

below_none : (p : Option ℕ) → None ≡ below p 0
below_none None = refl
below_none (Some k) = ap (λ (c : Bool). cond c (Some k) None) (sym (not_less k))
  where
    not_less : (k : ℕ) → nat_lt k 0 ≡ false
    not_less k = grind (arith, nat_tests)

below_all : (p : Option ℕ) (n : ℕ) → IfSome p (λ k. k < n) → below p n ≡ p
below_all None n h = refl
below_all (Some k) n h = ap (λ (c : Bool). cond c (Some k) None) (lt-ltb k n h)

below_more : (p : Option ℕ) (n m : ℕ) → n + 1 ≡ m → cond (is_number p n) (Some n) (below p n) ≡ below p m
below_more None n m e = refl
below_more (Some k) n m e = elim (cases_Bool (k == n)) [
  | inl same ↦
      (let is : k ≡ n = eqb-true k n same in
      ap (λ (c : Bool). cond c (Some n) (below (Some k) n)) same ∙ ap (λ (j : ℕ). Some j) (sym is) ∙ ap (λ (c : Bool). cond c (Some k) None) (sym (lt-ltb k m (omega arith))))
  | inr other ↦ ap (λ (c : Bool). cond c (Some n) (below (Some k) n)) other ∙ ap (λ (c : Bool). cond c (Some k) None) (as_low k n m e other)
]
  where
    as_low : (k n m : ℕ) → n + 1 ≡ m → (k == n) ≡ false → nat_lt k n ≡ nat_lt k m
    as_low k n m e h = grind (arith, nat_tests)

-- the number of the primary index is no more than 16 bits long
pub is_small : (p : Option ℕ) (n m : ℕ) → is_number p n ≡ true → IfSome p (λ k. k < m) → n < m
is_small None n m h k = absurd (none_is h)
  where
    none_is : false ≡ true → ⊥
    none_is e = cc
is_small (Some k) n m h low = subst (λ (j : ℕ). j < m) (eqb-true k n h) low

module _ (fields : List FieldDef) where
  abbrev pub line : Option ℕ → ℕ → IndexDef → List ℕ
  line p n i = index_line fields (is_number p n) i

  abbrev pub Is : IndexDef → Type 0
  Is i = IsWrittenIndex (length fields) i

  lines-index : (p : Option ℕ) (n : ℕ) (is : List IndexDef) → lines (line p) n is ≡ index_lines fields p n is
  lines-index p n [] = refl
  lines-index p n (i ∷ is) = ap (λ (t : List ℕ). index_line fields (is_number p n) i ++ t) (lines-index p (n + 1) is)

  begins_index : (p : Option ℕ) (n : ℕ) (i : IndexDef) (r : List ℕ) → begins 73 (line p n i ++ r) ≡ true
  begins_index p n i r = refl

  pub record IndexesSoFar (text : List ℕ) (done : List IndexDef) (primary : Option ℕ) (rest : List ℕ) : Type 0 where
    pub sound : All (IsSoundIndex (length fields)) done
    pub apart : has_twice (index_names done) ≡ false
    pub low : IfSome primary (λ n. n < length done)
    pub small : IfSome primary (λ n. n < 2 ^ 16)
    pub within : length rest ≤ length text
    pub to_come : (is : List IndexDef) (p : Option ℕ) (r : List ℕ) → AreWrittenIndexes (length fields) is p → begins 73 r ≡ false → text ≡ index_lines fields p 0 is ++ r → ToCome (line p) Is is r done rest
    pub number : (is : List IndexDef) (p : Option ℕ) (r : List ℕ) → AreWrittenIndexes (length fields) is p → begins 73 r ≡ false → text ≡ index_lines fields p 0 is ++ r → primary ≡ below p (length done)

  pub no_indexes : (text : List ℕ) → IndexesSoFar text [] None text
  no_indexes text = record {
    sound = All-nil (IsSoundIndex (length fields));
    apart = refl;
    low = tt;
    small = tt;
    within = omega arith;
    to_come = λ is p r w b e. at_first (line p) Is (begins 73) (begins_index p) is r b text w.each (e ∙ ap (λ (t : List ℕ). t ++ r) (sym (lines-index p 0 is)));
    number = λ is p r w b e. below_none p;
  }

  pub one_more_index : (text : List ℕ) (done : List IndexDef) (primary : Option ℕ) (rest : List ℕ) → IndexesSoFar text done primary rest → begins 73 rest ≡ true → (is : List IndexDef) (p : Option ℕ) (r : List ℕ)
      → AreWrittenIndexes (length fields) is p → begins 73 r ≡ false → text ≡ index_lines fields p 0 is ++ r → Next (line p) Is is r done rest
  one_more_index text done primary rest so h is p r w b e = at_next (line p) Is (begins 73) (begins_index p) is r b done rest (so.to_come is p r w b e) h

  low_more : (primary after : Option ℕ) (b : Bool) (n m : ℕ) → n < m → IfSome primary (λ k. k < n) → after ≡ cond b (Some n) primary → IfSome after (λ k. k < m)
  low_more primary after true n m h low e = subst (λ (o : Option ℕ). IfSome o (λ k. k < m)) (sym e) h
  low_more None after false n m h low e = subst (λ (o : Option ℕ). IfSome o (λ k. k < m)) (sym e) tt
  low_more (Some k) after false n m h low e = subst (λ (o : Option ℕ). IfSome o (λ k. k < m)) (sym e) (omega arith)

  pub index_read : (text : List ℕ) (done : List IndexDef) (primary : Option ℕ) (rest : List ℕ) → IndexesSoFar text done primary rest → begins 73 rest ≡ true → (i : IndexDef) (b : Bool) (after : Option ℕ) (tail : List ℕ)
      → IsSoundIndex (length fields) i → number_of_name 0 (index_names done) i.name ≡ None → length tail < length rest → after ≡ cond b (Some (length done)) primary → IfSome after (λ n. n < 2 ^ 16)
      → ((j : IndexDef) (c : Bool) (r : List ℕ) → IsWrittenIndex (length fields) j → rest ≡ index_line fields c j ++ r → (i ≡ j) × (b ≡ c) × (tail ≡ r)) → IndexesSoFar text (done ++ i ∷ []) after tail
  index_read text done primary rest so h i b after tail sound free shorter new small same =
      let longer : length done + 1 ≡ length (done ++ i ∷ []) = omega (arith, length-append done (i ∷ [])) in
      record {
        sound = All-push (IsSoundIndex (length fields)) done i so.sound sound;
        apart = apart_push (λ (j : IndexDef). j.name) done i so.apart free;
        low = low_more primary after b (length done) (length (done ++ i ∷ [])) (omega arith) so.low new;
        small = small;
        within = omega (arith, so.within);
        to_come = λ is p r w end e.
            (let n = one_more_index text done primary rest so h is p r w end e in
            let is_it = same n.item (is_number p (length done)) _ n.is n.text in
            after_next (line p) Is (begins 73) (begins_index p) is r end done rest n i tail is_it.0 is_it.2);
        number = λ is p r w end e.
            (let n = one_more_index text done primary rest so h is p r w end e in
            let is_it = same n.item (is_number p (length done)) _ n.is n.text in
            new ∙ ap (λ (c : Bool). cond c (Some (length done)) primary) is_it.1 ∙ ap (λ (o : Option ℕ). cond (is_number p (length done)) (Some (length done)) o) (so.number is p r w end e) ∙ below_more p (length done) (length (done ++ i ∷ [])) longer);
      }

  pub all_indexes : (text : List ℕ) (done : List IndexDef) (primary : Option ℕ) (rest : List ℕ) → IndexesSoFar text done primary rest → begins 73 rest ≡ false → (is : List IndexDef) (p : Option ℕ) (r : List ℕ)
      → AreWrittenIndexes (length fields) is p → begins 73 r ≡ false → text ≡ index_lines fields p 0 is ++ r → (done ≡ is) × (primary ≡ p) × (rest ≡ r)
  all_indexes text done primary rest so h is p r w b e =
      let last = at_last (line p) Is (begins 73) (begins_index p) is r b done rest (so.to_come is p r w b e) h in
      (sym last.0, so.number is p r w b e ∙ ap (below p) (ap length (sym last.0)) ∙ below_all p (length is) w.within, last.1)
