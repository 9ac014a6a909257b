-- Streams by their names.
use Rattle.std.proofs.Common.{◌≡◌, ℕ, Option, Some, None, refl}
use Rattle.std.specs.Option.{option_map}
use Rattle.abl_base.specs.declared.place.Place.{Place}
use Rattle.abl_base.specs.declared.rule.Rule.TheVariants.{Y1}
use Rattle.syntax_tree.specs.declared.name.Word.{Word}
use Rattle.bind_names.specs.declared.names.NamedStream.{NamedStream}
use Rattle.bind_names.specs.Judged.{Judged, broken, fine}
use Rattle.bind_names.specs.Names.{Scene, stream_named}
use Rattle.bind_statements.specs.Streams.{stream}

abbrev pub by_number : Option ℕ → Place → Judged ℕ
by_number None place = broken 0 Y1 place
by_number (Some n) place = fine n

abbrev by_stream : Option NamedStream → Place → Judged ℕ
by_stream found place = elim found as (λ _. Judged ℕ) [ None ↦ broken 0 Y1 place | Some x ↦ fine x.number ]

by_number_is : (found : Option NamedStream) (place : Place) → by_stream found place ≡ by_number (option_map (λ (x : NamedStream). x.number) found) place
by_number_is None place = refl
by_number_is (Some x) place = refl

pub stream_is : (w : Scene) (name : Word) → stream w (Some name) ≡ by_number (option_map (λ (x : NamedStream). x.number) (stream_named w.known name.spelling)) name.at
stream_is w name = by_number_is (stream_named w.known name.spelling) name.at
