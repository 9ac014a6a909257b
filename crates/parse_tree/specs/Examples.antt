-- Worked rows of the definitions.
use Rattle.std.specs.Prelude.{ℕ, ◌≡◌, Bool, true, false, List, [], ◌∷◌, Option, Some, None, codes, refl}
use Rattle.parse_tree.specs.declared.token.TokenKind.TheVariants.{Define, InputOutput, Procedure}
use Rattle.parse_tree.specs.Keywords.{abbreviated, keyword_of, reserved, spelled_in_full, spelled_short, spells}

pub any_case : keyword_of (codes "Input-Output") ≡ Some InputOutput
unfolding keyword_of spelled_in_full spelled_short spells reserved abbreviated
any_case = refl

pub listed_abbreviation : keyword_of (codes "proce") ≡ Some Procedure
unfolding keyword_of spelled_in_full spelled_short spells reserved abbreviated
listed_abbreviation = refl

pub other_abbreviation : keyword_of (codes "proced") ≡ None
unfolding keyword_of spelled_in_full spelled_short spells reserved abbreviated
other_abbreviation = refl

-- the name of a form is no reserved word
pub form_name : keyword_of (codes "datelit") ≡ None
unfolding keyword_of spelled_in_full spelled_short spells reserved abbreviated
form_name = refl
