-- The clients that arguments name, one after the other.
use Rattle.std.proofs.Common.{◌≡◌, ℕ, suc, List, [], ◌∷◌, ◌++◌, refl, sym, ap, ◌∙◌, arith, length, get_or, append_assoc}
use Rattle.std.specs.Prelude.{All, map}
use Rattle.std.proofs.lemmas.List.{map_push}
use Rattle.std.proofs.lemmas.List.Elements.{All-head, All-tail}
use Rattle.command_arguments.specs.CommandLine.{ClientFiles, IsClientFiles, client_argument, client_in}
use Rattle.command_arguments.specs.declared.client.ClientArgument.{ClientArgument}

-- the first client, and the others
pub record Parted (argument : List ℕ) (rest : List (List ℕ)) (cs : List ClientFiles) : Type 0 where
  pub first : ClientFiles
  pub others : List ClientFiles
  pub both : cs ≡ first ∷ others
  pub good : IsClientFiles first
  pub goods : All IsClientFiles others
  pub named : argument ≡ client_argument first
  pub name : rest ≡ map client_argument others

pub parted : (argument : List ℕ) (rest : List (List ℕ)) (cs : List ClientFiles) → argument ∷ rest ≡ map client_argument cs → All IsClientFiles cs → Parted argument rest cs
parted argument rest [] e all = let n : suc (length rest) ≡ 0 = ap length e in absurd (omega (arith, n))
parted argument rest (c ∷ cs) e all =
    record {
      first = c;
      others = cs;
      both = refl;
      good = All-head IsClientFiles c cs all;
      goods = All-tail IsClientFiles c cs all;
      named = ap (λ (ws : List (List ℕ)). get_or ws 0 []) e;
      name = cc e;
    }

-- no argument names no client
pub none_named : (cs : List ClientFiles) → [] ≡ map client_argument cs → cs ≡ []
none_named [] e = refl
none_named (c ∷ cs) e = let n : 0 ≡ suc (length (map client_argument cs)) = ap length e in absurd (omega (arith, n))

-- one client more
pub one_more : (old pushed new : List ClientArgument) (client : ClientArgument) (first : ClientFiles) (others cs : List ClientFiles) → pushed ≡ old ++ client ∷ [] → client_in client ≡ first → cs ≡ first ∷ others →
    map client_in new ≡ map client_in pushed ++ others → map client_in new ≡ map client_in old ++ cs
one_more old pushed new client first others cs is same both e =
    e ∙ ap (λ (xs : List ClientArgument). map client_in xs ++ others) is ∙ ap (λ (xs : List ClientFiles). xs ++ others) (map_push client_in old client)
    ∙ append_assoc (map client_in old) (client_in client ∷ []) others ∙ ap (λ (c : ClientFiles). map client_in old ++ c ∷ others) same ∙ ap (λ (xs : List ClientFiles). map client_in old ++ xs) (sym both)
