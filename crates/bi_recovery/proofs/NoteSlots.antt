-- The slots of a map that has the recovered bytes.
use Rattle.std.proofs.Common.{◌≡◌, ◌≢◌, inl, inr, ℕ, ◌<◌, ◌^◌, ◌==◌, Bool, true, false, if◌then◌else◌, Option, None, Some, List, [], ◌∷◌, ◌++◌, map, refl, sym, ◌∙◌, ap, subst, arith}
use Rattle.std.specs.Prelude.{All, unwrap_or}
use Rattle.std.specs.Map.{lookup, keys_of}
use Rattle.std.specs.BTreeMap.{BTreeMap, get, keys, is_at}
use Rattle.std.specs.Ordering.{nat_cmp}
use Rattle.std.specs.List.Sorted.{IsStrictlyIncreasing, IsStrictlySortedBy}
use Rattle.std.proofs.lemmas.List.Elements.{All-head, All-tail}
use Rattle.std.proofs.lemmas.Map.Keys.{IsStrictlyIncreasing-from_sorted}
use Rattle.std.proofs.lemmas.Bool.{cases_eq, cond-true, cond-false, eq-eqb, ne_eqb, true≢false}
use Rattle.std.proofs.lemmas.Bool.Decides.{nat_tests}
use Rattle.storage.specs.declared.slots.Undo.{Undo}
use Rattle.storage.specs.Slots.{wrote, undone}
use Rattle.log_meaning.specs.declared.note.Change.{Change}
use Rattle.log_meaning.specs.declared.note.Note.{Note}
use Rattle.log_meaning.specs.declared.note.Note.TheVariants.{Change as Changed, Commit}
use Rattle.log_meaning.specs.Bytes.{IsNote}
use Rattle.log_meaning.specs.Recovered.{changes_of, is_committed, first_old, given}
use Rattle.log_meaning.proofs.Notes.{changes_of-here, changes_of-other, changes_of-commit, last_new-append, last_new-same}
use Rattle.bi_recovery.specs.NoteSlots.{AreRecovered, bytes_of, HasBytes, undo_of}

-- ---- one note more

bytes_more : (p : ℕ → Bool) (cs : List Change) (c : Change) → bytes_of p (cs ++ c ∷ []) ≡ Some (if p c.tx then c.new else unwrap_or (bytes_of p cs) c.old)
bytes_more p [] c = refl
bytes_more p (x ∷ xs) c = ap (λ (b : List ℕ). Some b) (last_new-append p x.old (x ∷ xs) c)

-- what a slot has after one change more
pub change_more : (p : ℕ → Bool) (before : List Note) (c : Change) (old : BTreeMap ℕ (List ℕ)) (s : ℕ) (now : Option (List ℕ)) → HasBytes p before old → (s ≡ c.slot → now ≡ Some (if p c.tx then c.new else unwrap_or (get nat_cmp old s) c.old)) → (s ≢ c.slot → now ≡ get nat_cmp old s) → now ≡ bytes_of p (changes_of s (before ++ Changed c ∷ []))
change_more p before c old s now has here other = elim (cases_eq c.slot s) [
  | inl is ↦ here (sym is)
      ∙ ap (λ (o : Option (List ℕ)). Some (if p c.tx then c.new else unwrap_or o c.old)) (has s)
      ∙ sym (bytes_more p (changes_of s before) c)
      ∙ ap (bytes_of p) (sym (changes_of-here s before c is))
  | inr not ↦ other (λ e. not (sym e)) ∙ has s ∙ ap (bytes_of p) (sym (changes_of-other s before c not))
]

pub has_commit : (p : ℕ → Bool) (before : List Note) (tx : ℕ) (slots : BTreeMap ℕ (List ℕ)) → HasBytes p before slots → HasBytes p (before ++ Commit tx ∷ []) slots
has_commit p before tx slots has s = has s ∙ ap (bytes_of p) (sym (changes_of-commit s before tx))

-- ---- the list of a map

at_slot : (s k : ℕ) → is_at (nat_cmp s) k ≡ (s == k)
at_slot s k = grind (arith, nat_tests)

undone_map : (es : List (ℕ × List ℕ)) (below : ℕ → List ℕ) (s : ℕ) → undone (map undo_of es) below s ≡ unwrap_or (lookup (is_at (nat_cmp s)) es) (below s)
undone_map [] below s = refl
undone_map (e ∷ es) below s = elim (cases_eq s e.0) [
  | inl here ↦ cond-true (s == e.0) _ _ (eq-eqb s e.0 here) ∙ sym (ap (λ (o : Option (List ℕ)). unwrap_or o (below s)) (cond-true (is_at (nat_cmp s) e.0) (Some e.1) (lookup (is_at (nat_cmp s)) es) (at_slot s e.0 ∙ eq-eqb s e.0 here)))
  | inr other ↦ cond-false (s == e.0) _ _ (ne_eqb s e.0 other) ∙ undone_map es below s
      ∙ sym (ap (λ (o : Option (List ℕ)). unwrap_or o (below s)) (cond-false (is_at (nat_cmp s) e.0) (Some e.1) (lookup (is_at (nat_cmp s)) es) (at_slot s e.0 ∙ ne_eqb s e.0 other)))
]

wrote_map : (es : List (ℕ × List ℕ)) (s : ℕ) → lookup (is_at (nat_cmp s)) es ≡ None → wrote (map undo_of es) s ≡ false
wrote_map [] s none = refl
wrote_map (e ∷ es) s none = elim (cases_eq s e.0) [
  | inl here ↦ absurd (filled (sym (cond-true (is_at (nat_cmp s) e.0) (Some e.1) (lookup (is_at (nat_cmp s)) es) (at_slot s e.0 ∙ eq-eqb s e.0 here)) ∙ none))
  | inr other ↦ grind (arith, ne_eqb s e.0 other, wrote_map es s (sym (cond-false (is_at (nat_cmp s) e.0) (Some e.1) (lookup (is_at (nat_cmp s)) es) (at_slot s e.0 ∙ ne_eqb s e.0 other)) ∙ none))
]
  where
    filled : Some e.1 ≡ None → ⊥
    filled is = cc

slots_map : (es : List (ℕ × List ℕ)) → map (λ (u : Undo). u.slot) (map undo_of es) ≡ keys_of es
slots_map [] = refl
slots_map (e ∷ es) = ap (λ (l : List ℕ). e.0 ∷ l) (slots_map es)

bytes_give : (p : ℕ → Bool) (below : List ℕ) (cs : List Change) → unwrap_or (bytes_of p cs) below ≡ given p below cs
bytes_give p below [] = refl
bytes_give p below (c ∷ cs) = refl

-- the list of a map that has the recovered bytes
pub map_recovers : (p : ℕ → Bool) (notes : List Note) (slots : BTreeMap ℕ (List ℕ)) (list : List Undo) → ((t : ℕ) → p t ≡ is_committed notes t) → HasBytes p notes slots → IsStrictlySortedBy nat_cmp (keys slots) → list ≡ map undo_of slots.entries → AreRecovered notes list
map_recovers p notes slots list same has sorted is = record {
  are = λ below s. ap (λ (l : List Undo). undone l below s) is ∙ undone_map slots.entries below s ∙ ap (λ (o : Option (List ℕ)). unwrap_or o (below s)) (has s) ∙ bytes_give p (below s) (changes_of s notes)
      ∙ last_new-same p (is_committed notes) (first_old (below s) (changes_of s notes)) (changes_of s notes) same;
  noted = λ s wrote_s none. true≢false (sym wrote_s ∙ ap (λ (l : List Undo). wrote l s) is ∙ wrote_map slots.entries s (has s ∙ ap (bytes_of p) none));
  ascending = subst IsStrictlyIncreasing (sym (ap (map (λ (u : Undo). u.slot)) is ∙ slots_map slots.entries)) (IsStrictlyIncreasing-from_sorted (keys slots) sorted);
}

-- ---- the slots of notes

noted_small : (notes : List Note) (s : ℕ) → All IsNote notes → changes_of s notes ≢ [] → s < 2 ^ 20
noted_small [] s sound has = absurd (has refl)
noted_small (Commit tx ∷ notes) s sound has = noted_small notes s (All-tail IsNote (Commit tx) notes sound) has
noted_small (Changed c ∷ notes) s sound has = elim (cases_eq c.slot s) [
  | inl here ↦ subst (λ (k : ℕ). k < 2 ^ 20) here ((All-head IsNote (Changed c) notes sound).1)
  | inr other ↦ noted_small notes s (All-tail IsNote (Changed c) notes sound) (λ none. has (cond-false (c.slot == s) _ _ (ne_eqb c.slot s other) ∙ none))
]

-- they are below 2^20
pub slots_small : (notes : List Note) (us ws : List Undo) → us ≡ ws → AreRecovered notes ws → All IsNote notes → (s : ℕ) → wrote us s ≡ true → s < 2 ^ 20
slots_small notes us ws is r sound s it = noted_small notes s sound (r.noted s (ap (λ (l : List Undo). wrote l s) (sym is) ∙ it))
