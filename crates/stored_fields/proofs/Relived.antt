-- Stored rows read with other live numbers, and with more stored fields.
use Rattle.std.proofs.Common.{◌≡◌, ℕ, Bool, true, false, List, [], ◌∷◌, ◌++◌, Option, Some, None, refl, sym, ap, ◌∙◌, arith}
use Rattle.std.specs.Prelude.{◌==◌, if◌then◌else◌, option_map}
use Rattle.std.proofs.lemmas.Bool.Decides.{nat_tests}
use Rattle.abl_base.specs.declared.value.Value.{Value}
use Rattle.abl_values.specs.Rows.{field_in, with_first}
use Rattle.stored_fields.specs.declared.field.StoredField.{StoredField}
use Rattle.stored_fields.specs.Changes.{KeepsApart, relived}
use Rattle.stored_fields.specs.Rows.{has_number, initials_of, live_value, stored_in}
use Rattle.stored_fields.proofs.Left.{stored-end, stored-none, stored-read}

same-initials : (live : Option ℕ → Option ℕ) (fs : List StoredField) → initials_of (relived live fs) ≡ initials_of fs
same-initials live [] = refl
same-initials live (f ∷ fs) = ap (λ vs. f.initial ∷ vs) (same-initials live fs)

-- the law: what is stored does not depend on which fields are live
pub stored-relived : (live : Option ℕ → Option ℕ) (fs : List StoredField) (bytes : List ℕ) → stored_in (relived live fs) bytes ≡ stored_in fs bytes
unfolding stored_in
stored-relived live [] [] = refl
stored-relived live [] (b ∷ bytes) = refl
stored-relived live (f ∷ fs) [] = ap Some (same-initials live (f ∷ fs))
stored-relived live (f ∷ fs) (b ∷ bytes) = by_found (λ rest. stored-relived live fs rest) (field_in f.kind (b ∷ bytes)) refl
  where
    by_found : ((rest : List ℕ) → stored_in (relived live fs) rest ≡ stored_in fs rest) → (found : Option (Value × List ℕ)) → field_in f.kind (b ∷ bytes) ≡ found → stored_in (relived live (f ∷ fs)) (b ∷ bytes) ≡ stored_in (f ∷ fs) (b ∷ bytes)
    by_found again None is = stored-none (record f { live = live f.live }) (relived live fs) (b ∷ bytes) (omega arith) is ∙ sym (stored-none f fs (b ∷ bytes) (omega arith) is)
    by_found again (Some (v, rest)) is =
        stored-read (record f { live = live f.live }) (relived live fs) (b ∷ bytes) v rest is ∙ ap (with_first v) (again rest) ∙ sym (stored-read f fs (b ∷ bytes) v rest is)

pub number_kept : (number : ℕ → ℕ) → KeepsApart number → (live : Option ℕ) (n : ℕ) → has_number (option_map number live) (number n) ≡ has_number live n
number_kept number apart None n = refl
number_kept number apart (Some k) n = same_test (number k == number n) (k == n) refl refl
  where
    same_test : (a b : Bool) → (number k == number n) ≡ a → (k == n) ≡ b → (number k == number n) ≡ (k == n)
    same_test true true ea eb = ea ∙ sym eb
    same_test false false ea eb = ea ∙ sym eb
    same_test true false ea eb =
        let same : number k ≡ number n = grind (arith, nat_tests) in
        let is : k ≡ n = apart k n same in
        absurd (grind (arith, nat_tests))
    same_test false true ea eb =
        let is : k ≡ n = grind (arith, nat_tests) in
        let same : number k ≡ number n = ap number is in
        absurd (grind (arith, nat_tests))

-- the law: in another order each live field has the same value
pub value-renumbered : (number : ℕ → ℕ) → KeepsApart number → (fs : List StoredField) (vs : List Value) (n : ℕ) → live_value (relived (option_map number) fs) vs (number n) ≡ live_value fs vs n
value-renumbered number apart [] vs n = refl
value-renumbered number apart (f ∷ fs) [] n = refl
value-renumbered number apart (f ∷ fs) (v ∷ vs) n =
    ap (λ (b : Bool). if b then v else live_value (relived (option_map number) fs) vs (number n)) (number_kept number apart f.live n)
    ∙ ap (λ (x : Value). if has_number f.live n then v else x) (value-renumbered number apart fs vs n)

-- ---- more stored fields

none_some : (x : List Value) → None ≡ Some x → ⊥
none_some x h = cc

initials-append : (fs more : List StoredField) → initials_of (fs ++ more) ≡ initials_of fs ++ initials_of more
initials-append [] more = refl
initials-append (f ∷ fs) more = ap (λ vs. f.initial ∷ vs) (initials-append fs more)

-- the law: a row that was stored before fields were added has their initial values
pub stored-added : (fs more : List StoredField) (bytes : List ℕ) (vs : List Value) → stored_in fs bytes ≡ Some vs → stored_in (fs ++ more) bytes ≡ Some (vs ++ initials_of more)
unfolding stored_in
stored-added [] more [] vs e = let same : [] ≡ vs = cc in stored-end more ∙ ap (λ ws. Some (ws ++ initials_of more)) same
stored-added [] more (b ∷ bytes) vs e = cc
stored-added (f ∷ fs) more [] vs e =
    let same : initials_of (f ∷ fs) ≡ vs = cc in
    stored-end (f ∷ fs ++ more) ∙ ap Some (initials-append (f ∷ fs) more) ∙ ap (λ ws. Some (ws ++ initials_of more)) same
stored-added (f ∷ fs) more (b ∷ bytes) vs e = by_found (λ rest ws now. stored-added fs more rest ws now) (field_in f.kind (b ∷ bytes)) refl
  where
    by_rest : ((rest : List ℕ) (ws : List Value) → stored_in fs rest ≡ Some ws → stored_in (fs ++ more) rest ≡ Some (ws ++ initials_of more)) → (v : Value) (rest : List ℕ) → field_in f.kind (b ∷ bytes) ≡ Some (v, rest) → (o : Option (List Value)) → stored_in fs rest ≡ o → with_first v o ≡ Some vs → stored_in (f ∷ fs ++ more) (b ∷ bytes) ≡ Some (vs ++ initials_of more)
    by_rest again v rest is None now e = absurd (none_some vs e)
    by_rest again v rest is (Some ws) now e =
        let same : v ∷ ws ≡ vs = cc in
        stored-read f (fs ++ more) (b ∷ bytes) v rest is ∙ ap (with_first v) (again rest ws now) ∙ ap (λ xs. Some (xs ++ initials_of more)) same

    by_found : ((rest : List ℕ) (ws : List Value) → stored_in fs rest ≡ Some ws → stored_in (fs ++ more) rest ≡ Some (ws ++ initials_of more)) → (found : Option (Value × List ℕ)) → field_in f.kind (b ∷ bytes) ≡ found → stored_in (f ∷ fs ++ more) (b ∷ bytes) ≡ Some (vs ++ initials_of more)
    by_found again None is = absurd (none_some vs (sym (stored-none f fs (b ∷ bytes) (omega arith) is) ∙ e))
    by_found again (Some (v, rest)) is = by_rest again v rest is (stored_in fs rest) refl (sym (stored-read f fs (b ∷ bytes) v rest is) ∙ e)
