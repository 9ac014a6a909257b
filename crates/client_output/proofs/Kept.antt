-- What an output has written after a text, and after an opening.
use Rattle.std.proofs.Common.{◌≡◌, ◌≢◌, ◌<◌, ℕ, zero, suc, List, [], ◌∷◌, ◌++◌, Bool, Option, Some, None, refl, sym, ap, ◌∙◌, subst, arith}
use Rattle.std.proofs.lemmas.Bool.{ne_eqb}
use Rattle.std.specs.Prelude.{map, length, slice_index_or}
use Rattle.std.proofs.lemmas.List.{map-append}
use Rattle.block_meaning.specs.declared.wants.Piece.{Piece}
use Rattle.block_meaning.specs.declared.wants.Piece.TheVariants.{Wrote, Opened}
use Rattle.client_output.specs.declared.output.Output.{Output}
use Rattle.client_output.specs.declared.section.Section.{Section}
use Rattle.client_output.specs.Sections.{OutputBytes, with_pieces, first_section, named}
use Rattle.client_output.specs.Written.{HasWritten, IsPlaceOf, longer_at}
use Rattle.client_output.proofs.Written.{more_pieces, outs, Lacks, AreDistinct, text_outs, opened_outs, pieces_distinct, lacks_text, text_at, opened_at, open_at, open_new, opens_new, opens_known}

-- the sections that these pieces make
abbrev pub made : List Piece → List OutputBytes
made ps = with_pieces ps (first_section ∷ [])

distinct : (ps : List Piece) → AreDistinct (outs (made ps))
distinct ps = pieces_distinct ps (first_section ∷ []) (tt, tt)

named_at : (ns : List ℕ) (k n : ℕ) → k < length ns → slice_index_or ns k 0 ≡ n → slice_index_or (map (λ (m : ℕ). Some m) ns) k None ≡ Some n
named_at [] k n l e = absurd (omega arith)
named_at (m ∷ ns) zero n l e = ap (λ (v : ℕ). Some v) e
named_at (m ∷ ns) (suc k) n l e = named_at ns k n (omega arith) e

named_length : (ns : List ℕ) → length (map (λ (m : ℕ). Some m) ns) ≡ length ns
named_length [] = refl
named_length (m ∷ ns) = ap (λ (v : ℕ). suc v) (named_length ns)

never_named : (n : ℕ) (ns : List ℕ) → ((k : ℕ) → k < length ns → slice_index_or ns k 0 ≢ n) → Lacks (Some n) (map (λ (m : ℕ). Some m) ns)
never_named n [] h = tt
never_named n (m ∷ ns) h = (ne_eqb n m (λ e. h 0 (omega arith) (sym e)), never_named n ns (λ k l. h (suc k) (omega arith)))

-- where an output is, in the sections that were made
pub record IsAt (os : List (Option ℕ)) (o : Option ℕ) (place : ℕ) : Type 0 where
  pub below : place < length os
  pub is : slice_index_or os place None ≡ o

place_in : (ns : List ℕ) (o : Option ℕ) (place : ℕ) → IsPlaceOf ns o (Some place) → IsAt (None ∷ map (λ (m : ℕ). Some m) ns) o place
place_in ns None place e = subst (IsAt (None ∷ map (λ (m : ℕ). Some m) ns) None) (sym e) (record { below = omega arith; is = refl })
place_in ns (Some n) place h =
    let k = h.0 in
    let l : suc k < suc (length (map (λ (m : ℕ). Some m) ns)) = omega (arith, named_length ns, h.1.0) in
    let e : place ≡ suc k = omega (arith, h.1.1.1) in
    subst (IsAt (None ∷ map (λ (m : ℕ). Some m) ns) (Some n)) (sym e) (record { below = l; is = named_at ns k n h.1.0 h.1.1.0 })

-- a text is appended
pub wrote : (old new : Output) (names : List (List ℕ)) (ps : List Piece) (o : Option ℕ) (bytes : List ℕ) (place : ℕ) → IsPlaceOf old.opened.items o (Some place) → new.opened.items ≡ old.opened.items → new.sections.items ≡ longer_at place bytes old.sections.items →
    HasWritten old names ps → HasWritten new names (ps ++ Wrote o bytes ∷ [])
wrote old new names ps o bytes place at eo es h =
    let is = subst (λ os. IsAt os o place) (sym h.opened) (place_in old.opened.items o place at) in
    record {
      opened = ap outs (more_pieces ps (Wrote o bytes) (first_section ∷ [])) ∙ text_outs o bytes (made ps) ∙ h.opened ∙ ap (λ (ns : List ℕ). None ∷ map (λ (m : ℕ). Some m) ns) (sym eo);
      sections = es ∙ ap (longer_at place bytes) h.sections ∙ sym (ap (map (named names)) (more_pieces ps (Wrote o bytes) (first_section ∷ [])) ∙ text_at names o bytes (made ps) place (distinct ps) is.below is.is);
    }

-- an output that was never opened takes no text
pub wrote_none : (old : Output) (names : List (List ℕ)) (ps : List Piece) (o : Option ℕ) (bytes : List ℕ) → IsPlaceOf old.opened.items o None → HasWritten old names ps → HasWritten old names (ps ++ Wrote o bytes ∷ [])
wrote_none old names ps None bytes at h = absurd at
wrote_none old names ps (Some n) bytes at h =
    let same = more_pieces ps (Wrote (Some n) bytes) (first_section ∷ []) ∙ lacks_text (Some n) bytes (made ps) (subst (λ os. Lacks (Some n) os) (sym h.opened) (refl, never_named n old.opened.items at)) in
    record {
      opened = ap outs same ∙ h.opened;
      sections = h.sections ∙ ap (map (named names)) (sym same);
    }

-- an output is opened again
pub opened_again : (old new : Output) (names : List (List ℕ)) (ps : List Piece) (n : ℕ) (append : Bool) (place : ℕ) → IsPlaceOf old.opened.items (Some n) (Some place) → new.opened.items ≡ old.opened.items → new.sections.items ≡ opened_at append place old.sections.items →
    HasWritten old names ps → HasWritten new names (ps ++ Opened n append ∷ [])
opened_again old new names ps n append place at eo es h =
    let is = subst (λ os. IsAt os (Some n) place) (sym h.opened) (place_in old.opened.items (Some n) place at) in
    record {
      opened = ap outs (more_pieces ps (Opened n append) (first_section ∷ [])) ∙ opened_outs n append (made ps) ∙ opens_known n (outs (made ps)) place is.below is.is ∙ h.opened ∙ ap (λ (ns : List ℕ). None ∷ map (λ (m : ℕ). Some m) ns) (sym eo);
      sections = es ∙ ap (opened_at append place) h.sections ∙ sym (ap (map (named names)) (more_pieces ps (Opened n append) (first_section ∷ [])) ∙ open_at names n append (made ps) place (distinct ps) is.below is.is);
    }

-- an output is opened for the first time
pub opened_first : (old new : Output) (names : List (List ℕ)) (ps : List Piece) (n : ℕ) (name : List ℕ) (append : Bool) → name ≡ slice_index_or names n [] → IsPlaceOf old.opened.items (Some n) None → new.opened.items ≡ old.opened.items ++ n ∷ [] →
    new.sections.items ≡ old.sections.items ++ (record { name = name; bytes = [] }) ∷ [] → HasWritten old names ps → HasWritten new names (ps ++ Opened n append ∷ [])
opened_first old new names ps n name append en at eo es h =
    let lacks : Lacks (Some n) (outs (made ps)) = subst (λ os. Lacks (Some n) os) (sym h.opened) (refl, never_named n old.opened.items at) in
    let more = more_pieces ps (Opened n append) (first_section ∷ []) ∙ open_new n append (made ps) lacks in
    record {
      opened = ap outs (more_pieces ps (Opened n append) (first_section ∷ [])) ∙ opened_outs n append (made ps) ∙ opens_new n (outs (made ps)) lacks ∙ ap (λ (os : List (Option ℕ)). os ++ Some n ∷ []) h.opened
          ∙ ap (λ (os : List (Option ℕ)). None ∷ os) (sym (map-append (λ (m : ℕ). Some m) old.opened.items (n ∷ []))) ∙ ap (λ (ns : List ℕ). None ∷ map (λ (m : ℕ). Some m) ns) (sym eo);
      sections = es ∙ ap (λ (m : List ℕ). old.sections.items ++ (record { name = m; bytes = [] }) ∷ []) en
          ∙ ap (λ (ss : List Section). ss ++ (record { name = slice_index_or names n []; bytes = [] }) ∷ []) h.sections
          ∙ sym (map-append (named names) (made ps) ((record { output = Some n; bytes = [] }) ∷ [])) ∙ sym (ap (map (named names)) more);
    }
