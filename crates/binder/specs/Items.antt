-- What one item of a source adds to those before it.
use Rattle.std.specs.Prelude.{◌≡◌, ◌++◌, ℕ, List, [], ◌∷◌, map, length}
use Rattle.std.specs.List.{list_any}
use Rattle.abl_values.specs.Schema.{same_name}
use Rattle.bound_tree.specs.Bound.{body_of, procedure_of}
use Rattle.syntax_tree.specs.declared.name.Word.{Word}
use Rattle.syntax_tree.specs.Syntax as s
use Rattle.syntax_tree.specs.Syntax.{Item}
use Rattle.bind_names.specs.declared.names.Known.{Known}
use Rattle.bind_names.specs.declared.notes.Notes.{Notes}
use Rattle.bind_names.specs.Judged.{Judged, first_of}
use Rattle.bind_names.specs.Names.{Scene}
use Rattle.bind_expressions.specs.Parts.{append}
use Rattle.binder.specs.declared.sources.Parts.{Parts as BoundParts}
use Rattle.binder.specs.Sources.{Parts, has_word, items}

-- the internal procedures so far have these names
pub record IsNaming (names : List (List ℕ)) (named : List Word) : Type 0 where
  pub count : length names ≡ length named
  pub any : (name : List ℕ) → list_any (λ n. same_name n name) names ≡ list_any (has_word name) named

-- the names after one more item, the last one first
abbrev pub named_after : Item → List Word → List Word
named_after (s.Alone t) named = named
named_after (s.Procedure place name body) named = name ∷ named

-- one item, where the internal procedures before it have these names, adds what the definition says, whatever these names are
pub record IsAdding (j : Judged Parts) (named : List Word) (old new : BoundParts) (now : Known) (before after : Notes) : Type 0 where
  pub body : body_of new.body.items ≡ append (body_of old.body.items) j.is.body
  pub procedures : map procedure_of new.procedures.items ≡ map procedure_of old.procedures.items ++ j.is.procedures
  pub known : now ≡ j.is.after
  pub first : after.first ≡ first_of before.first j.breaks
  pub names : after.names ≡ before.names ++ j.names
  pub naming : IsNaming new.names named
  pub count : length new.procedures.items ≡ length named

abbrev pub IsOneMore : Scene → Item → BoundParts → BoundParts → Known → Notes → Notes → Type 0
IsOneMore w item old new known before after =
    (named : List Word) → IsNaming old.names named → length old.procedures.items ≡ length named → IsAdding (items w named (item ∷ [])) (named_after item named) old new known before after

-- the parts as the definition has them, after which this is known
abbrev pub bound_parts : BoundParts → Known → Parts
bound_parts p k = record { body = body_of p.body.items; procedures = map procedure_of p.procedures.items; after = k }
