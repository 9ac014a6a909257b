-- What a check has listed, and what prevents it once its texts are read.
use Rattle.std.proofs.Common.{◌≡◌, ◌⊎◌, inl, inr, ◌+◌, ◌<◌, ℕ, zero, suc, List, [], ◌∷◌, ◌++◌, None, refl, ap, subst, arith, length, take, get_or}
use Rattle.schema_reader.specs.Rules.{violation_of}
use Rattle.host_io.specs.Files.{FileState}
use Rattle.abl_values.specs.Schema.{SchemaData}
use Rattle.preprocessor.specs.declared.texts.NamedText.{NamedText}
use Rattle.run_report.specs.declared.refusal.Refusal.{Refusal}
use Rattle.command_arguments.specs.CommandLine.{Check}
use Rattle.abl_cli.specs.Check.{IsListing, HaveListings, OneBreaks, this_breaks, later_breaks}
use Rattle.source_files.specs.Compiled.{schema_in, BreaksSchema, BreaksSource}
use Rattle.source_files.specs.Files.{HasText, HaveSources}
use Rattle.abl_cli.specs.Command.{CheckTexts, PreventsCheck, schema_is_broken, one_breaks, AreListed}

-- one more of the sources is listed
pub listings_more : (schema : SchemaData) (sources : List (List NamedText)) (listings : List (List ℕ)) (i : ℕ) (texts : List NamedText) (lines : List ℕ) → i < length sources → HaveListings schema (take i sources) listings → texts ≡ get_or sources i texts → IsListing schema texts lines →
    HaveListings schema (take (suc i) sources) (listings ++ lines ∷ [])
listings_more schema [] listings i texts lines below have is one = absurd (omega (arith, below))
listings_more schema (s ∷ ss) [] zero texts lines below have is one = (subst (λ x. IsListing schema x lines) is one, tt)
listings_more schema (s ∷ ss) (l ∷ ls) zero texts lines below have is one = absurd have
listings_more schema (s ∷ ss) [] (suc i) texts lines below have is one = absurd have
listings_more schema (s ∷ ss) (l ∷ ls) (suc i) texts lines below have is one = (have.0, listings_more schema ss ls i texts lines (omega (arith, below)) have.1 is one)

-- one of the sources is refused, where those before it are listed
pub one_is_broken : (schema : SchemaData) (n : ℕ) (sources : List (List NamedText)) (listings : List (List ℕ)) (i : ℕ) (texts : List NamedText) (refusal : Refusal) → i < length sources → HaveListings schema (take i sources) listings → texts ≡ get_or sources i texts →
    BreaksSource schema (n + i) texts refusal → OneBreaks schema n sources refusal
one_is_broken schema n [] listings i texts refusal below have is h = absurd (omega (arith, below))
one_is_broken schema n (s ∷ ss) listings zero texts refusal below have is h =
    this_breaks (subst (λ x. BreaksSource schema n x refusal) is (subst (λ m. BreaksSource schema m texts refusal) (omega arith) h))
one_is_broken schema n (s ∷ ss) [] (suc i) texts refusal below have is h = absurd have
one_is_broken schema n (s ∷ ss) (l ∷ ls) (suc i) texts refusal below have is h =
    later_breaks have.0 (one_is_broken schema (n + 1) ss ls i texts refusal (omega (arith, below)) have.1 is (subst (λ m. BreaksSource schema m texts refusal) (omega arith) h))

-- the number of the sources is that of the names
pub as_many : (files : FileState) (names : List (List ℕ)) (sources : List (List NamedText)) → HaveSources files names sources → length sources ≡ length names
as_many files [] [] have = refl
as_many files [] (s ∷ ss) have = absurd have
as_many files (n ∷ ns) [] have = absurd have
as_many files (n ∷ ns) (s ∷ ss) have = ap (λ k. suc k) (as_many files ns ss have.1)

module _ (files : FileState) (check : Check) (df : List ℕ) (sources : List (List NamedText)) (has : HasText files check.schema df) (have : HaveSources files check.programs sources) (d : List ℕ) (is_df : d ≡ df) where
  texts : CheckTexts files check
  texts = record { df = df; sources = sources; has_schema = has; have_sources = have }

  pub check_prevented_by : (faults : ℕ) (refusal : Refusal) → BreaksSchema d refusal ⊎ ((violation_of d ≡ None) × OneBreaks (schema_in d) 0 sources refusal) → PreventsCheck files faults check refusal
  unfolding texts
  check_prevented_by faults refusal (inl breaks) = schema_is_broken texts (subst (λ t. BreaksSchema t refusal) is_df breaks)
  check_prevented_by faults refusal (inr breaks) =
      one_breaks texts (subst (λ t. violation_of t ≡ None) is_df breaks.0) (subst (λ t. OneBreaks (schema_in t) 0 sources refusal) is_df breaks.1)

  pub are_listed : (listings : List (List ℕ)) → violation_of d ≡ None → HaveListings (schema_in d) sources listings → AreListed files check listings
  unfolding texts
  are_listed listings clean all = record {
    texts = texts;
    clean = subst (λ t. violation_of t ≡ None) is_df clean;
    have = subst (λ t. HaveListings (schema_in t) sources listings) is_df all;
  }
