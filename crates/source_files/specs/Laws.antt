-- What a source is whose text has neither `{` nor `&`.
use Rattle.std.specs.Prelude.{ℕ, ◌≡◌, ◌≤◌, List, [], ◌∷◌, length}
use Rattle.preprocessor.specs.Places.{place_at}
use Rattle.preprocessor.specs.declared.texts.NamedText.{NamedText}
use Rattle.source_files.specs.Expansions.{IsExpanded, expanded, origin_in}

-- the source in the file of this name, which needs no other
abbrev pub one_text : List ℕ → List ℕ → List NamedText
one_text name bytes = record { name = name; bytes = bytes } ∷ []

-- it breaks no rule E and needs no file, its expansion is its text, and each place of its text, the end included, is its own
pub record IsItself (name bytes : List ℕ) : Type 0 where
  pub expands : IsExpanded (one_text name bytes)
  pub same : expanded (one_text name bytes) ≡ bytes
  pub places : (at : ℕ) → at ≤ length bytes → origin_in (one_text name bytes) (place_at bytes at) ≡ record { text = 0; place = place_at bytes at }
