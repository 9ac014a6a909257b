-- The copies that savepoints denote stay the same between an Enter and the Back or Leave of its level.
use Rattle.std.proofs.Common.{◌≡◌, ℕ, zero, suc, ◌+◌, ◌<◌, ◌≤◌, List, [], ◌∷◌, ◌++◌, length, Bool, true, false, refl, sym, ap, ◌∙◌, arith}
use Rattle.std.specs.Prelude.{nat_lt, map, reverse, slice_index_or, slice_set}
use Rattle.std.proofs.lemmas.Bool.{le-ltb, lt-ltb, ltb-true, ltb-false}
use Rattle.std.proofs.lemmas.List.{set-set, set-get_or, map-append, length-reverse, reverse-append}
use Rattle.abl_base.specs.declared.value.Value.{Value}
use Rattle.abl_base.specs.declared.value.Value.TheVariants.{Unknown}
use Rattle.block_meaning.specs.State.{CallFrame, Content, Saved, Copy}
use Rattle.block_meaning.specs.Frames.{pending_of, saved_of, contents_restored, frames_restored}
use Rattle.client_memory.specs.Undo.{OldValue, Savepoint, one_or, Values, with_value, value_at, restored_to, old_values_before, saved_of_all, copy_at, savepoint_now, undoables, all_restored}

-- ---- one variable

-- the old value undoes an assignment
pub value_back : (k n : ℕ) (v : Value) (vss : Values) → with_value k n (value_at k n vss) (with_value k n v vss) ≡ vss
value_back k n v [] = refl
value_back zero n v (vs ∷ vss) = ap (λ x. x ∷ vss) (set-set vs n v (slice_index_or vs n Unknown) ∙ set-get_or vs n Unknown)
value_back (suc k) n v (vs ∷ vss) = ap (λ xs. vs ∷ xs) (value_back k n v vss)

-- ---- restoring

-- nothing is restored after a savepoint that has all old values
pub values_stay : (at : ℕ) (old_values : List OldValue) (vss : Values) → length old_values ≤ at → restored_to at old_values vss ≡ vss
values_stay at [] vss le = refl
values_stay at (o ∷ old_values) vss le =
    let e : nat_lt (length old_values) at ≡ true = lt-ltb (length old_values) at (omega arith) in
    ap (λ b. one_or b vss (restored_to at old_values (with_value o.frame o.number o.value vss))) e

pub old_values_stay : (at : ℕ) (old_values : List OldValue) → length old_values ≤ at → old_values_before at old_values ≡ old_values
old_values_stay at [] le = refl
old_values_stay at (o ∷ old_values) le =
    let e : nat_lt (length old_values) at ≡ true = lt-ltb (length old_values) at (omega arith) in
    ap (λ b. one_or b (o ∷ old_values) (old_values_before at old_values)) e

-- the last old value is restored
pub last_back : (at : ℕ) (o : OldValue) (old_values : List OldValue) (vss : Values) → at ≤ length old_values → restored_to at (o ∷ old_values) vss ≡ restored_to at old_values (with_value o.frame o.number o.value vss)
last_back at o old_values vss le =
    let e : nat_lt (length old_values) at ≡ false = le-ltb (length old_values) at le in
    ap (λ b. one_or b vss (restored_to at old_values (with_value o.frame o.number o.value vss))) e

pub last_left : (at : ℕ) (o : OldValue) (old_values : List OldValue) → at ≤ length old_values → old_values_before at (o ∷ old_values) ≡ old_values_before at old_values
last_left at o old_values le =
    let e : nat_lt (length old_values) at ≡ false = le-ltb (length old_values) at le in
    ap (λ b. one_or b (o ∷ old_values) (old_values_before at old_values)) e

-- the old values after the savepoint are removed
gone_by : (b : Bool) (at : ℕ) (o : OldValue) (old_values : List OldValue) → nat_lt (length old_values) at ≡ b → at ≤ length (o ∷ old_values) → (at ≤ length old_values → length (old_values_before at old_values) ≡ at) → length (one_or b (o ∷ old_values) (old_values_before at old_values)) ≡ at
gone_by true at o old_values e le next = let lt : length old_values < at = ltb-true (length old_values) at e in omega arith
gone_by false at o old_values e le next = next (ltb-false (length old_values) at e)

pub gone : (at : ℕ) (old_values : List OldValue) → at ≤ length old_values → length (old_values_before at old_values) ≡ at
gone at [] le = omega arith
gone at (o ∷ old_values) le = gone_by (nat_lt (length old_values) at) at o old_values refl le (gone at old_values)

-- an older savepoint denotes the same after a newer one was restored
older_by : (b : Bool) (n at : ℕ) (o : OldValue) (old_values : List OldValue) (vss : Values) → nat_lt (length old_values) at ≡ b → n ≤ at → restored_to n old_values (with_value o.frame o.number o.value vss) ≡ restored_to n (old_values_before at old_values) (restored_to at old_values (with_value o.frame o.number o.value vss)) → restored_to n (o ∷ old_values) vss ≡ restored_to n (one_or b (o ∷ old_values) (old_values_before at old_values)) (one_or b vss (restored_to at old_values (with_value o.frame o.number o.value vss)))
older_by true n at o old_values vss e le next = refl
older_by false n at o old_values vss e le next =
    let ge = ltb-false (length old_values) at e in
    last_back n o old_values vss (omega arith) ∙ next

pub older : (n at : ℕ) (old_values : List OldValue) (vss : Values) → n ≤ at → restored_to n old_values vss ≡ restored_to n (old_values_before at old_values) (restored_to at old_values vss)
older n at [] vss le = refl
older n at (o ∷ old_values) vss le = older_by (nat_lt (length old_values) at) n at o old_values vss refl le (older n at old_values (with_value o.frame o.number o.value vss) le)

-- ---- copies

abbrev copy_with : Savepoint → Values → Copy
copy_with m vss = record { depth = m.depth; made = m.made; frames = reverse (saved_of_all vss m.pending) }

-- an assignment whose old value is stored changes none
pub copy_after_value : (m : Savepoint) (old_values : List OldValue) (vss : Values) (k n : ℕ) (v : Value) → m.old_values ≤ length old_values → copy_at (record { frame = k; number = n; value = value_at k n vss } ∷ old_values) (with_value k n v vss) m ≡ copy_at old_values vss m
copy_after_value m old_values vss k n v le =
    ap (copy_with m) (last_back m.old_values (record { frame = k; number = n; value = value_at k n vss }) old_values (with_value k n v vss) le ∙ ap (restored_to m.old_values old_values) (value_back k n v vss))

-- restoring a newer savepoint changes none
pub copy_after_back : (m : Savepoint) (at : ℕ) (old_values : List OldValue) (vss : Values) → m.old_values ≤ at → copy_at (old_values_before at old_values) (restored_to at old_values vss) m ≡ copy_at old_values vss m
copy_after_back m at old_values vss le = ap (copy_with m) (sym (older m.old_values at old_values vss le))

-- a procedure that begins is in no copy
with_value_longer : (k n : ℕ) (v : Value) (vss : Values) (vs : List Value) (css : List (List Content)) → length css ≤ length vss → (ws : List Value) × (with_value k n v (vss ++ vs ∷ []) ≡ with_value k n v vss ++ ws ∷ [])
with_value_longer zero n v [] vs css le = (slice_set vs n v, refl)
with_value_longer (suc k) n v [] vs css le = (vs, refl)
with_value_longer zero n v (us ∷ vss) vs css le = (vs, refl)
with_value_longer (suc k) n v (us ∷ vss) vs css le =
    let r = with_value_longer k n v vss vs [] (omega arith) in
    (r.0, ap (λ xs. us ∷ xs) r.1)

pub length_with : (k n : ℕ) (v : Value) (vss : Values) → length (with_value k n v vss) ≡ length vss
length_with k n v [] = refl
length_with zero n v (us ∷ vss) = refl
length_with (suc k) n v (us ∷ vss) = ap suc (length_with k n v vss)

back_longer_by : (b : Bool) (at : ℕ) (o : OldValue) (old_values : List OldValue) (vss : Values) (vs : List Value) → ((us : List Value) → (ws : List Value) × (restored_to at old_values (with_value o.frame o.number o.value vss ++ us ∷ []) ≡ restored_to at old_values (with_value o.frame o.number o.value vss) ++ ws ∷ [])) → (ws : List Value) × (one_or b (vss ++ vs ∷ []) (restored_to at old_values (with_value o.frame o.number o.value (vss ++ vs ∷ []))) ≡ one_or b vss (restored_to at old_values (with_value o.frame o.number o.value vss)) ++ ws ∷ [])
back_longer_by true at o old_values vss vs next = (vs, refl)
back_longer_by false at o old_values vss vs next =
    let r = with_value_longer o.frame o.number o.value vss vs [] (omega arith) in
    let q = next r.0 in
    (q.0, ap (restored_to at old_values) r.1 ∙ q.1)

pub back_longer : (at : ℕ) (old_values : List OldValue) (vss : Values) (vs : List Value) → (ws : List Value) × (restored_to at old_values (vss ++ vs ∷ []) ≡ restored_to at old_values vss ++ ws ∷ [])
back_longer at [] vss vs = (vs, refl)
back_longer at (o ∷ old_values) vss vs = back_longer_by (nat_lt (length old_values) at) at o old_values vss vs (λ us. back_longer at old_values (with_value o.frame o.number o.value vss) us)

saved_longer : (vss : Values) (ws : List Value) (css : List (List Content)) → length css ≤ length vss → saved_of_all (vss ++ ws ∷ []) css ≡ saved_of_all vss css
saved_longer [] ws [] le = refl
saved_longer [] ws (cs ∷ css) le = absurd (omega (arith, le))
saved_longer (vs ∷ vss) ws [] le = refl
saved_longer (vs ∷ vss) ws (cs ∷ css) le = ap (λ xs. record { undoable = vs; contents = cs } ∷ xs) (saved_longer vss ws css (omega (arith, le)))

length_back_by : (b : Bool) (at : ℕ) (o : OldValue) (old_values : List OldValue) (vss : Values) → length (restored_to at old_values (with_value o.frame o.number o.value vss)) ≡ length vss → length (one_or b vss (restored_to at old_values (with_value o.frame o.number o.value vss))) ≡ length vss
length_back_by true at o old_values vss e = refl
length_back_by false at o old_values vss e = e

pub length_back : (at : ℕ) (old_values : List OldValue) (vss : Values) → length (restored_to at old_values vss) ≡ length vss
length_back at [] vss = refl
length_back at (o ∷ old_values) vss = length_back_by (nat_lt (length old_values) at) at o old_values vss (length_back at old_values (with_value o.frame o.number o.value vss) ∙ length_with o.frame o.number o.value vss)

pub copy_after_run : (m : Savepoint) (old_values : List OldValue) (vss : Values) (vs : List Value) → length m.pending ≤ length vss → copy_at old_values (vss ++ vs ∷ []) m ≡ copy_at old_values vss m
copy_after_run m old_values vss vs le =
    let r = back_longer m.old_values old_values vss vs in
    ap (copy_with m) r.1 ∙ ap (λ xs. record { depth = m.depth; made = m.made; frames = reverse xs }) (saved_longer (restored_to m.old_values old_values vss) r.0 m.pending (let e = length_back m.old_values old_values vss in omega arith))

-- ---- the copy that is made with an Enter

pub rev_cons : {A : Type 0} (x : A) (xs : List A) → reverse (x ∷ xs) ≡ reverse xs ++ x ∷ []
rev_cons x xs = reverse-append (x ∷ []) xs

pub map_reverse : {A B : Type 0} (f : A → B) (xs : List A) → map f (reverse xs) ≡ reverse (map f xs)
map_reverse f [] = refl
map_reverse f (x ∷ xs) = ap (map f) (rev_cons x xs) ∙ map-append f (reverse xs) (x ∷ []) ∙ ap (λ ys. ys ++ f x ∷ []) (map_reverse f xs) ∙ sym (rev_cons (f x) (map f xs))

saved_now : (fs : List CallFrame) → saved_of_all (undoables fs) (map (λ f. map (λ b. pending_of b.content) f.buffers) fs) ≡ map saved_of fs
saved_now [] = refl
saved_now (f ∷ fs) = ap (λ xs. saved_of f ∷ xs) (saved_now fs)

pub copy_now : (old_values : List OldValue) (fs : List CallFrame) (level made : ℕ) → record { depth = level + 1; made = made; frames = map saved_of (reverse fs) } ≡ copy_at old_values (undoables fs) (savepoint_now old_values fs level made)
copy_now old_values fs level made =
    let stay = values_stay (length old_values) old_values (undoables fs) (let le : length old_values ≤ length old_values = omega arith in le) in
    let is : map saved_of (reverse fs) ≡ reverse (saved_of_all (restored_to (length old_values) old_values (undoables fs)) (map (λ f. map (λ b. pending_of b.content) f.buffers) fs)) =
    map_reverse saved_of fs ∙ ap reverse (sym (saved_now fs)) ∙ ap (λ vss. reverse (saved_of_all vss (map (λ f. map (λ b. pending_of b.content) f.buffers) fs))) (sym stay) in
    ap (λ (xs : List Saved). let c : Copy = record { depth = level + 1; made = made; frames = xs } in c) is

-- ---- what is restored is the copy

frames_last : (xs : List Saved) (fs : List CallFrame) (x : Saved) (f : CallFrame) → length xs ≡ length fs → frames_restored (xs ++ x ∷ []) (fs ++ f ∷ []) ≡ frames_restored xs fs ++ record f { undoable = x.undoable; buffers = contents_restored x.contents f.buffers } ∷ []
frames_last [] [] x f e = refl
frames_last [] (g ∷ fs) x f e = absurd (omega (arith, e))
frames_last (y ∷ xs) [] x f e = absurd (omega (arith, e))
frames_last (y ∷ xs) (g ∷ fs) x f e = ap (λ rest. record g { undoable = y.undoable; buffers = contents_restored y.contents g.buffers } ∷ rest) (frames_last xs fs x f (omega (arith, e)))

length_saved : (vss : Values) (css : List (List Content)) → length vss ≡ length css → length (saved_of_all vss css) ≡ length css
length_saved [] [] e = refl
length_saved [] (cs ∷ css) e = absurd (omega (arith, e))
length_saved (vs ∷ vss) [] e = absurd (omega (arith, e))
length_saved (vs ∷ vss) (cs ∷ css) e = ap suc (length_saved vss css (omega (arith, e)))

pub puts_the_copy_back : (vss : Values) (css : List (List Content)) (fs : List CallFrame) → length vss ≡ length fs → length css ≡ length fs → reverse (all_restored vss css fs) ≡ frames_restored (reverse (saved_of_all vss css)) (reverse fs)
puts_the_copy_back [] [] [] e1 e2 = refl
puts_the_copy_back [] css (f ∷ fs) e1 e2 = absurd (omega (arith, e1))
puts_the_copy_back (vs ∷ vss) css [] e1 e2 = absurd (omega (arith, e1))
puts_the_copy_back [] (cs ∷ css) [] e1 e2 = absurd (omega (arith, e2))
puts_the_copy_back (vs ∷ vss) [] (f ∷ fs) e1 e2 = absurd (omega (arith, e2))
puts_the_copy_back (vs ∷ vss) (cs ∷ css) (f ∷ fs) e1 e2 =
    let len : length (reverse (saved_of_all vss css)) ≡ length (reverse fs) =
    let a = length-reverse (saved_of_all vss css) in let b = length-reverse fs in let c = length_saved vss css (omega (arith, e1, e2)) in omega (arith, a, b, c, e2) in
    rev_cons (record f { undoable = vs; buffers = contents_restored cs f.buffers }) (all_restored vss css fs)
    ∙ ap (λ rest. rest ++ record f { undoable = vs; buffers = contents_restored cs f.buffers } ∷ []) (puts_the_copy_back vss css fs (omega (arith, e1)) (omega (arith, e2)))
    ∙ sym (frames_last (reverse (saved_of_all vss css)) (reverse fs) (record { undoable = vs; contents = cs }) f len)
    ∙ ap (λ xs. frames_restored xs (reverse fs ++ f ∷ [])) (sym (rev_cons (record { undoable = vs; contents = cs }) (saved_of_all vss css)))
    ∙ ap (frames_restored (reverse (saved_of_all (vs ∷ vss) (cs ∷ css)))) (sym (rev_cons f fs))
