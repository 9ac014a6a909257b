-- The carried notes are those of the live transactions.
use Rattle.std.proofs.Common.{◌≡◌, ◌≢◌, inl, inr, ℕ, zero, suc, ◌%◌, ◌<◌, ◌==◌, ◌||◌, Bool, true, false, List, [], ◌∷◌, ◌++◌, Option, Some, None, refl, sym, ◌∙◌, ap, arith, append_assoc}
use Rattle.std.proofs.lemmas.List.{append-nil}
use Rattle.std.proofs.lemmas.Bool.{cases_eq, cases_Bool, cond-true, cond-false, eq-eqb, ne_eqb, true≢false}
use Rattle.storage.specs.declared.slots.Undo.{Undo}
use Rattle.storage.specs.Slots.{wrote}
use Rattle.log_meaning.specs.declared.note.Change.{Change}
use Rattle.log_meaning.specs.declared.note.Note.{Note}
use Rattle.log_meaning.specs.Recovered.{changes_of}
use Rattle.log_meaning.specs.Logged.{carried_of, carried}
use Rattle.log_meaning.proofs.Notes.{changes_of-append}
use Rattle.log_meaning.proofs.LoggedStarts.{Each, is_in}
use Rattle.checkpoint.specs.kept.Numbers.{is_live, undo_of, AreBelow}
use Rattle.checkpoint.proofs.KeptLemmas.Numbered.{number_live, live_number, undo_number, below_more}
use Rattle.checkpoint.specs.next.Carrying.{notes_of, notes_below, number_list, numbers_below}

carried-append : (xs ys : List ℕ) (reads : ℕ → List ℕ) (undo : ℕ → List Undo) → carried (xs ++ ys) reads undo ≡ carried xs reads undo ++ carried ys reads undo
carried-append [] ys reads undo = refl
carried-append (x ∷ xs) ys reads undo = ap (λ (l : List Note). carried_of x reads (undo x) ++ l) (carried-append xs ys reads undo) ∙ sym (append_assoc (carried_of x reads (undo x)) (carried xs reads undo) (carried ys reads undo))

module _ (number : ℕ → Option ℕ) (reads : ℕ → List ℕ) (list : ℕ → List Undo) (numbered : (c n : ℕ) → number c ≡ Some n → n % 16 ≡ c) where
  of_one : (c : ℕ) (o : Option ℕ) → number c ≡ o → notes_of o reads (list c) ≡ carried (number_list o) reads (undo_of number list)
  of_one c None is = refl
  of_one c (Some tx) is = ap (carried_of tx reads) (sym (undo_number number list c tx is (numbered c tx is))) ∙ sym (append-nil (carried_of tx reads (undo_of number list tx)))

  -- the notes by clients are those by numbers
  pub by_numbers : (c : ℕ) → notes_below number reads list c ≡ carried (numbers_below number c) reads (undo_of number list)
  by_numbers zero = refl
  by_numbers (suc c) =
      ap (λ (l : List Note). l ++ notes_of (number c) reads (list c)) (by_numbers c)
      ∙ ap (λ (l : List Note). carried (numbers_below number c) reads (undo_of number list) ++ l) (of_one c (number c) refl)
      ∙ sym (carried-append (numbers_below number c) (number_list (number c)) reads (undo_of number list))

  Each-append : (P : ℕ → Type 0) (xs ys : List ℕ) → Each P xs → Each P ys → Each P (xs ++ ys)
  Each-append P [] ys x y = y
  Each-append P (t ∷ xs) ys x y = (x.0, Each-append P xs ys (x.1) y)

  live_one : (c : ℕ) (o : Option ℕ) → number c ≡ o → Each (λ t. is_live number t ≡ true) (number_list o)
  live_one c None is = tt
  live_one c (Some tx) is = (number_live number c tx is (numbered c tx is), tt)

  -- each of them is live
  pub each_live : (c : ℕ) → Each (λ t. is_live number t ≡ true) (numbers_below number c)
  each_live zero = tt
  each_live (suc c) = Each-append (λ t. is_live number t ≡ true) (numbers_below number c) (number_list (number c)) (each_live c) (live_one c (number c) refl)

  in_first : (t : ℕ) (xs ys : List ℕ) → is_in t xs ≡ true → is_in t (xs ++ ys) ≡ true
  in_first t [] ys i = absurd (true≢false (sym i))
  in_first t (x ∷ xs) ys i = elim (cases_Bool (x == t)) [
    | inl here ↦ ap (λ (b : Bool). b || is_in t (xs ++ ys)) here
    | inr far ↦ ap (λ (b : Bool). b || is_in t (xs ++ ys)) far ∙ in_first t xs ys (sym (ap (λ (b : Bool). b || is_in t xs) far) ∙ i)
  ]

  in_second : (t : ℕ) (xs ys : List ℕ) → is_in t ys ≡ true → is_in t (xs ++ ys) ≡ true
  in_second t [] ys i = i
  in_second t (x ∷ xs) ys i = elim (cases_Bool (x == t)) [
    | inl here ↦ ap (λ (b : Bool). b || is_in t (xs ++ ys)) here
    | inr far ↦ ap (λ (b : Bool). b || is_in t (xs ++ ys)) far ∙ in_second t xs ys i
  ]

  here_in : (t : ℕ) (o : Option ℕ) → o ≡ Some t → is_in t (number_list o) ≡ true
  here_in t o is = ap (λ (x : Option ℕ). is_in t (number_list x)) is ∙ ap (λ (b : Bool). b || false) (eq-eqb t t refl)

  listed_below : (t c d : ℕ) → number d ≡ Some t → d < c → is_in t (numbers_below number c) ≡ true
  listed_below t zero d is lt = absurd (omega (arith, lt))
  listed_below t (suc c) d is lt = elim (cases_eq d c) [
    | inl here ↦ in_second t (numbers_below number c) (number_list (number c)) (here_in t (number c) (ap number (sym here) ∙ is))
    | inr far ↦ in_first t (numbers_below number c) (number_list (number c)) (listed_below t c d is (omega (arith, lt, far)))
  ]

  -- each live one is listed
  pub all_listed : (t : ℕ) → is_live number t ≡ true → is_in t (numbers_below number 16) ≡ true
  all_listed t live = listed_below t 16 (t % 16) (live_number number t live) (omega arith)

  -- ---- the slots of the notes

  of_list : (tx s : ℕ) (us : List Undo) → wrote us s ≡ false → changes_of s (carried_of tx reads us) ≡ []
  of_list tx s [] none = refl
  of_list tx s (u ∷ us) none = elim (cases_eq s u.slot) [
    | inl here ↦ absurd (true≢false (sym (ap (λ (b : Bool). b || wrote us s) (eq-eqb s u.slot here)) ∙ none))
    | inr far ↦ cond-false (u.slot == s) (record { tx = tx; slot = u.slot; old = u.old; new = reads u.slot } ∷ changes_of s (carried_of tx reads us)) (changes_of s (carried_of tx reads us)) (ne_eqb u.slot s (λ e. far (sym e)))
        ∙ of_list tx s us (sym (ap (λ (b : Bool). b || wrote us s) (ne_eqb s u.slot far)) ∙ none)
  ]

  of_none : (s : ℕ) (o : Option ℕ) (us : List Undo) → wrote us s ≡ false → changes_of s (notes_of o reads us) ≡ []
  of_none s None us none = refl
  of_none s (Some tx) us none = of_list tx s us none

  -- a slot that no client wrote has no note
  pub none_below : (s c : ℕ) → ((d : ℕ) → wrote (list d) s ≡ false) → changes_of s (notes_below number reads list c) ≡ []
  none_below s zero none = refl
  none_below s (suc c) none = changes_of-append s (notes_below number reads list c) (notes_of (number c) reads (list c)) ∙ ap (λ (l : List Change). l ++ changes_of s (notes_of (number c) reads (list c))) (none_below s c none) ∙ of_none s (number c) (list c) (none c)

  first_of : {A : Type 0} (xs ys : List A) → xs ++ ys ≡ [] → xs ≡ []
  first_of [] ys is = refl
  first_of (x ∷ xs) ys is = cc

  second_of : {A : Type 0} (xs ys : List A) → xs ++ ys ≡ [] → ys ≡ []
  second_of [] ys is = is
  second_of (x ∷ xs) ys is = cc

  some_list : (tx s : ℕ) (us : List Undo) → wrote us s ≡ true → changes_of s (carried_of tx reads us) ≢ []
  some_list tx s [] w = absurd (true≢false (sym w))
  some_list tx s (u ∷ us) w = elim (cases_eq s u.slot) [
    | inl here ↦ λ none. head_some (record { tx = tx; slot = u.slot; old = u.old; new = reads u.slot }) (changes_of s (carried_of tx reads us)) (sym (cond-true (u.slot == s) (record { tx = tx; slot = u.slot; old = u.old; new = reads u.slot } ∷ changes_of s (carried_of tx reads us)) (changes_of s (carried_of tx reads us)) (eq-eqb u.slot s (sym here))) ∙ none)
    | inr far ↦ λ none. some_list tx s us (sym (ap (λ (b : Bool). b || wrote us s) (ne_eqb s u.slot far)) ∙ w) (sym (cond-false (u.slot == s) (record { tx = tx; slot = u.slot; old = u.old; new = reads u.slot } ∷ changes_of s (carried_of tx reads us)) (changes_of s (carried_of tx reads us)) (ne_eqb u.slot s (λ e. far (sym e)))) ∙ none)
  ]
    where
      head_some : (c : Change) (cs : List Change) → c ∷ cs ≡ [] → ⊥
      head_some c cs is = cc

  -- and one that a client with a number wrote has one
  pub some_below : (s c d tx : ℕ) → number d ≡ Some tx → d < c → wrote (list d) s ≡ true → changes_of s (notes_below number reads list c) ≢ []
  some_below s zero d tx is lt w = absurd (omega (arith, lt))
  some_below s (suc c) d tx is lt w = elim (cases_eq d c) [
    | inl here ↦ λ none. some_list tx s (list c) (ap (λ (x : ℕ). wrote (list x) s) (sym here) ∙ w) (ap (λ (o : Option ℕ). changes_of s (notes_of o reads (list c))) (sym (ap number (sym here) ∙ is)) ∙ second_of (changes_of s (notes_below number reads list c)) (changes_of s (notes_of (number c) reads (list c))) (sym (changes_of-append s (notes_below number reads list c) (notes_of (number c) reads (list c))) ∙ none))
    | inr far ↦ λ none. some_below s c d tx is (omega (arith, lt, far)) w (first_of (changes_of s (notes_below number reads list c)) (changes_of s (notes_of (number c) reads (list c))) (sym (changes_of-append s (notes_below number reads list c) (notes_of (number c) reads (list c))) ∙ none))
  ]

  -- ---- their numbers

  list_below : (b tx : ℕ) (us : List Undo) → tx < b → AreBelow b (carried_of tx reads us)
  list_below b tx [] lt = tt
  list_below b tx (u ∷ us) lt = (lt, list_below b tx us lt)

  one_below : (b c : ℕ) (o : Option ℕ) → number c ≡ o → ((d n : ℕ) → number d ≡ Some n → n < b) → AreBelow b (notes_of o reads (list c))
  one_below b c None is lt = tt
  one_below b c (Some tx) is lt = list_below b tx (list c) (lt c tx is)

  pub notes_under : (b c : ℕ) → ((d n : ℕ) → number d ≡ Some n → n < b) → AreBelow b (notes_below number reads list c)
  notes_under b zero lt = tt
  notes_under b (suc c) lt = below_more b (notes_below number reads list c) (notes_of (number c) reads (list c)) (notes_under b c lt) (one_below b c (number c) refl lt)
