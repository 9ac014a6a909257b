-- Texts written one after the other.
use Rattle.std.proofs.Common.{◌≡◌, ◌≤◌, ◌<◌, ◌+◌, ◌⊎◌, ℕ, Bool, true, List, [], ◌++◌, refl, sym, ap, ◌∙◌, subst, arith, length, take, inl, inr, append_assoc, append-nil, length-append}
use Rattle.std.proofs.lemmas.Bool.{cases_lt}
use Rattle.std.proofs.Math.Seq.{take-append-add}
use Rattle.std.specs.Prelude.{IsTrue}
use Rattle.host_io.specs.declared.out.Stream.{Stream}
use Rattle.host_io.specs.declared.out.Stream.TheVariants.{Output, Diagnostics}
use Rattle.host_io.specs.Out.{Texts, appended, AppendsPrefix}
use Rattle.storage.specs.faults.Faults.{Rose}
use Rattle.host_io.specs.Out.{OutState, Writes}

appended-nothing : (stream : Stream) (t : Texts) → appended stream [] t ≡ t
appended-nothing Output t = ap (λ text. record { output = text; diagnostics = t.diagnostics }) (append-nil t.output)
appended-nothing Diagnostics t = ap (λ text. record { output = t.output; diagnostics = text }) (append-nil t.diagnostics)

appended-append : (stream : Stream) (a b : List ℕ) (t : Texts) → appended stream b (appended stream a t) ≡ appended stream (a ++ b) t
appended-append Output a b t = ap (λ text. record { output = text; diagnostics = t.diagnostics }) (append_assoc t.output a b)
appended-append Diagnostics a b t = ap (λ text. record { output = t.output; diagnostics = text }) (append_assoc t.diagnostics a b)

-- nothing was written
pub writes_nothing : (stream : Stream) (w : OutState) → Writes true stream [] w w
writes_nothing stream w =
    record {
      all = λ ok given. sym (appended-nothing stream w.texts);
      part = λ no. absurd (cc no);
      cause = λ no. absurd (cc no);
      quiet = λ ok. refl;
      later = omega arith;
      same_observable = refl;
    }

-- a count that rose from a later one rose from an earlier one too
pub rose_later : (a b c : ℕ) → a ≤ b → b ≤ c → Rose b c → Rose a c
rose_later a b c le more (inl lt) = inl (omega (arith, le, lt))
rose_later a b c le more (inr last) = either (cases_lt a c)
  where
    either : (a < c) ⊎ (c ≤ a) → Rose a c
    either (inl lt) = inl lt
    either (inr ge) = inr (omega (arith, le, more, last, ge))

-- a prefix after a whole text
part_then : (stream : Stream) (a b : List ℕ) (old mid new : Texts) → mid ≡ appended stream a old → AppendsPrefix stream b mid new → AppendsPrefix stream (a ++ b) old new
part_then stream a b old mid new is part =
    let both : length (a ++ b) ≡ length a + length b = length-append a b in (
      length a + part.0,
      omega (arith, part.1, both),
      part.2 ∙ ap (appended stream (take part.0 b)) is ∙ appended-append stream a (take part.0 b) old
          ∙ ap (λ text. appended stream text old) (sym (take-append-add a b part.0)),
    )

-- a text, and then another, or a prefix of it
pub writes_then :
    (ok : Bool) (stream : Stream) (a b : List ℕ) (old mid new : OutState) →
    Writes true stream a old mid → Writes ok stream b mid new → Writes ok stream (a ++ b) old new
writes_then ok stream a b old mid new first second =
    record {
      all = λ yes given. second.all yes (subst IsTrue (sym first.same_observable) given) ∙ ap (appended stream b) (first.all refl given) ∙ appended-append stream a b old.texts;
      part = λ no given. part_then stream a b old.texts mid.texts new.texts (first.all refl given) (second.part no (subst IsTrue (sym first.same_observable) given));
      cause = λ no. rose_later old.faults mid.faults new.faults first.later second.later (second.cause no);
      quiet = λ yes. second.quiet yes ∙ first.quiet refl;
      later = omega (arith, first.later, second.later);
      same_observable = second.same_observable ∙ first.same_observable;
    }
