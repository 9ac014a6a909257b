-- A table with one field more, and rows of before.
use Rattle.std.proofs.Common.{◌≡◌, ℕ, zero, suc, ◌+◌, ◌<◌, Bool, false, ◌==◌, List, [], ◌∷◌, ◌++◌, length, get_or, Option, Some, None, refl, sym, ap, ◌∙◌, subst, arith, append_assoc, length-append}
use Rattle.std.specs.Prelude.{All, IfSome, if◌then◌else◌, option_map, option_to_list}
use Rattle.std.specs.List.{range_with_len}
use Rattle.std.proofs.lemmas.Bool.{eq-eqb}
use Rattle.std.proofs.lemmas.Bool.Decides.{nat_tests}
use Rattle.std.proofs.lemmas.List.{get_or_append_left, get_or_at}
use Rattle.std.proofs.lemmas.List.Elements.{All-head, All-push, All-tail}
use Rattle.abl_base.specs.declared.limits.TheConstants.{MAX_FIELDS}
use Rattle.abl_base.specs.declared.value.Value.{Value}
use Rattle.abl_base.specs.declared.value.Value.TheVariants.{Unknown}
use Rattle.abl_values.specs.declared.schema.FieldDef.{FieldDef}
use Rattle.abl_values.specs.Schema.{no_field}
use Rattle.stored_fields.specs.declared.field.StoredField.{StoredField}
use Rattle.stored_fields.specs.Rows.{has_number, live_row, live_value, row_in, stored_in, values_below}
use Rattle.stored_fields.proofs.Left.{stored-length}
use Rattle.stored_fields.proofs.Relived.{stored-added}
use Rattle.stored_schema.specs.Laid.{stored_as}
use Rattle.stored_schema.specs.Stored.{AreStoredAs, IsLiveAs, IsStoredAs, live_numbers}
use Rattle.stored_schema.proofs.Live.{numbered}
use Rattle.table_changes.specs.Changes.{StoredTable, with_field}

-- ---- the stored fields

range-push : (a n : ℕ) → range_with_len a (suc n) ≡ range_with_len a n ++ (a + n) ∷ []
range-push a zero = ap (λ (m : ℕ). m ∷ []) (let same : a ≡ a + 0 = omega arith in same)
range-push a (suc n) = ap (λ (ms : List ℕ). a ∷ ms) (range-push (a + 1) n ∙ ap (λ (m : ℕ). range_with_len (a + 1) n ++ m ∷ []) (let same : a + 1 + n ≡ a + suc n = omega arith in same))

live-push : (fs : List StoredField) (g : StoredField) (m : ℕ) → g.live ≡ Some m → live_numbers (fs ++ g ∷ []) ≡ live_numbers fs ++ m ∷ []
live-push [] g m is = ap (λ (live : Option ℕ). option_to_list live ++ []) is
live-push (f ∷ fs) g m is = ap (λ (ms : List ℕ). option_to_list f.live ++ ms) (live-push fs g m is) ∙ sym (append_assoc (option_to_list f.live) (live_numbers fs) (m ∷ []))

longer : {X : Type 0} (xs : List X) (x : X) → length (xs ++ x ∷ []) ≡ suc (length xs)
longer xs x = omega (arith, length-append xs (x ∷ []))

module _ (fields : List FieldDef) (f : FieldDef) where
  grown : (x : StoredField) (live : Option ℕ) → IfSome live (λ n. n < 0 + length fields) → IsStoredAs fields live x → IsStoredAs (fields ++ f ∷ []) live x
  grown x None lt is = is
  grown x (Some n) lt is = subst (λ (g : FieldDef). IsLiveAs g x) (sym (get_or_append_left fields (f ∷ []) no_field n (omega (arith, lt)))) is

  last : IsLiveAs (get_or (fields ++ f ∷ []) (length fields) no_field) (stored_as (length fields) f)
  last = subst (λ (g : FieldDef). IsLiveAs g (stored_as (length fields) f)) (sym (get_or_at fields f [] no_field (length fields) refl)) (record { name = refl; kind = refl; initial = refl })

  abbrev IsPlace : StoredField → Type 0
  IsPlace x = IsStoredAs (fields ++ f ∷ []) x.live x

  -- the law: it is stored last
  pub stored-added-field : (stored : List StoredField) → AreStoredAs fields stored → length stored < MAX_FIELDS → AreStoredAs (fields ++ f ∷ []) (stored ++ stored_as (length fields) f ∷ [])
  stored-added-field stored is low =
      let numbers = numbered 0 (length fields) stored is.numbers in
      record {
        few = omega (arith, low, longer stored (stored_as (length fields) f));
        numbers =
            live-push stored (stored_as (length fields) f) (length fields) refl ∙ ap (λ (ms : List ℕ). ms ++ length fields ∷ []) is.numbers
            ∙ ap (λ (m : ℕ). range_with_len 0 (length fields) ++ m ∷ []) (let same : length fields ≡ 0 + length fields = omega arith in same)
            ∙ sym (range-push 0 (length fields)) ∙ ap (range_with_len 0) (sym (longer fields f));
        each = All-push IsPlace stored (stored_as (length fields) f) (λ k d lt. grown (get_or stored k d) (get_or stored k d).live (numbers.within k d lt) (is.each k d lt)) last;
      }

-- ---- rows

abbrev Within : ℕ → StoredField → Type 0
Within m f = IfSome f.live (λ n. n < m)

other_number : (live : Option ℕ) (m : ℕ) → IfSome live (λ n. n < m) → has_number live m ≡ false
other_number None m h = refl
other_number (Some n) m h = grind (arith, nat_tests)

values-same : (n : ℕ) (g h : ℕ → Value) → ((k : ℕ) → k < n → g k ≡ h k) → values_below n g ≡ values_below n h
values-same zero g h same = refl
values-same (suc n) g h same = ap (λ (vs : List Value). vs ++ g n ∷ []) (values-same n g h (λ k lt. same k (omega (arith, lt)))) ∙ ap (λ (v : Value). values_below n h ++ v ∷ []) (same n (omega arith))

module _ (m : ℕ) (g : StoredField) (is : g.live ≡ Some m) (i : Value) where
  value-before : (fs : List StoredField) (vs : List Value) (k : ℕ) → length vs ≡ length fs → (m == k) ≡ false → live_value (fs ++ g ∷ []) (vs ++ i ∷ []) k ≡ live_value fs vs k
  value-before [] [] k same other = ap (λ (live : Option ℕ). if has_number live k then i else Unknown) is ∙ ap (λ (b : Bool). if b then i else Unknown) other
  value-before [] (v ∷ vs) k same other = absurd (omega (arith, same))
  value-before (f ∷ fs) [] k same other = absurd (omega (arith, same))
  value-before (f ∷ fs) (v ∷ vs) k same other = ap (λ (x : Value). if has_number f.live k then v else x) (value-before fs vs k (omega (arith, same)) other)

  value-last : (fs : List StoredField) (vs : List Value) → length vs ≡ length fs → All (Within m) fs → live_value (fs ++ g ∷ []) (vs ++ i ∷ []) m ≡ i
  value-last [] [] same low = ap (λ (live : Option ℕ). if has_number live m then i else Unknown) is ∙ ap (λ (b : Bool). if b then i else Unknown) (eq-eqb m m refl)
  value-last [] (v ∷ vs) same low = absurd (omega (arith, same))
  value-last (f ∷ fs) [] same low = absurd (omega (arith, same))
  value-last (f ∷ fs) (v ∷ vs) same low =
      ap (λ (b : Bool). if b then v else live_value (fs ++ g ∷ []) (vs ++ i ∷ []) m) (other_number f.live m (All-head (Within m) f fs low))
      ∙ value-last fs vs (omega (arith, same)) (All-tail (Within m) f fs low)

differs : (m k : ℕ) → k < m → (m == k) ≡ false
differs m k lt = grind (arith, nat_tests)

none_some : (x : List Value) → None ≡ Some x → ⊥
none_some x h = cc

below_own : (live : Option ℕ) (m : ℕ) → IfSome live (λ n. n < 0 + m) → IfSome live (λ n. n < m)
below_own None m h = tt
below_own (Some n) m h = omega (arith, h)

-- the law: a row of before has the initial value of the field
pub row-added : (f : FieldDef) (t : StoredTable) (bytes : List ℕ) (row : List Value) → AreStoredAs t.fields t.stored → row_in (length t.fields) t.stored bytes ≡ Some row → row_in (suc (length t.fields)) (with_field f t).stored bytes ≡ Some (row ++ f.initial ∷ [])
row-added f t bytes row stored e = by_values (stored_in t.stored bytes) refl e
  where
    by_values : (o : Option (List Value)) → stored_in t.stored bytes ≡ o → option_map (live_row (length t.fields) t.stored) o ≡ Some row → row_in (suc (length t.fields)) (with_field f t).stored bytes ≡ Some (row ++ f.initial ∷ [])
    by_values None is e = absurd (none_some row e)
    by_values (Some vs) is e =
        let same : live_row (length t.fields) t.stored vs ≡ row = cc in
        let long = stored-length t.stored bytes vs is in
        let low : All (Within (length t.fields)) t.stored = λ k d lt. below_own (get_or t.stored k d).live (length t.fields) ((numbered 0 (length t.fields) t.stored stored.numbers).within k d lt) in
        let g = stored_as (length t.fields) f in
        ap (option_map (live_row (suc (length t.fields)) (t.stored ++ g ∷ []))) (stored-added t.stored (g ∷ []) bytes vs is)
        ∙ ap (λ (us : List Value). Some (us ++ live_value (t.stored ++ g ∷ []) (vs ++ f.initial ∷ []) (length t.fields) ∷ []))
        (values-same (length t.fields) (live_value (t.stored ++ g ∷ []) (vs ++ f.initial ∷ [])) (live_value t.stored vs) (λ k lt. value-before (length t.fields) g refl f.initial t.stored vs k long (differs (length t.fields) k lt)))
        ∙ ap (λ (v : Value). Some (live_row (length t.fields) t.stored vs ++ v ∷ [])) (value-last (length t.fields) g refl f.initial t.stored vs long low)
        ∙ ap (λ (us : List Value). Some (us ++ f.initial ∷ [])) same
