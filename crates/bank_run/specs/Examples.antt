-- The clients of a small bank.
use Rattle.std.specs.Prelude.{◌≡◌, refl, [], ◌∷◌, codes}
use Rattle.std.specs.Fmt.{digits}
use Rattle.bank_run.specs.Texts.{bank_names}

two_clients : bank_names 2 ≡ codes "setup" ∷ codes "c1" ∷ codes "c2" ∷ codes "total" ∷ []
unfolding digits
two_clients = refl
