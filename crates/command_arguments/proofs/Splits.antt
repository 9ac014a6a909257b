-- Where a list splits at the first byte of a value.
use Rattle.std.proofs.Common.{◌≡◌, ◌≢◌, ◌+◌, ℕ, suc, List, [], ◌∷◌, ◌++◌, Option, Some, None, refl, sym, ap, ◌∙◌, arith, inl, inr, get_or, take, drop, subst}
use Rattle.std.proofs.lemmas.List.{append-nil}
use Rattle.std.specs.Prelude.{All}
use Rattle.command_arguments.specs.CommandLine.{IsName, IsFileName, IsInput, input_part}
use Rattle.command_arguments.specs.Places.{IsClient, AreFiles}
use Rattle.std.specs.Char.{IsAsciiAlphanumeric}

-- what holds of each element holds of the first one, and of each of the others
pub All-first : {X : Type 0} (P : X → Type 0) (x : X) (xs : List X) → All P (x ∷ xs) → P x
All-first P x xs all = all 0 x (grind arith)

pub All-rest : {X : Type 0} (P : X → Type 0) (x : X) (xs : List X) → All P (x ∷ xs) → All P xs
All-rest P x xs all k d below = all (suc k) d (grind arith)

-- two splits at a byte that the first parts lack are one
pub split_once_only :
    (b : ℕ) (xs ys us vs : List ℕ) → All (λ byte. byte ≢ b) xs → All (λ byte. byte ≢ b) us → xs ++ b ∷ ys ≡ us ++ b ∷ vs →
    (xs ≡ us) × (ys ≡ vs)
split_once_only b [] ys [] vs p q e = (refl, cc e)
split_once_only b [] ys (u ∷ us) vs p q e = let is : u ≡ b = cc e in absurd (All-first (λ byte. byte ≢ b) u us q is)
split_once_only b (x ∷ xs) ys [] vs p q e = let is : x ≡ b = cc e in absurd (All-first (λ byte. byte ≢ b) x xs p is)
split_once_only b (x ∷ xs) ys (u ∷ us) vs p q e =
    let heads : x ≡ u = cc e in
    let tails : xs ++ b ∷ ys ≡ us ++ b ∷ vs = cc e in
    let rest = split_once_only b xs ys us vs (All-rest (λ byte. byte ≢ b) x xs p) (All-rest (λ byte. byte ≢ b) u us q) tails in
    (cc (heads, rest.0), rest.1)

-- a list with the byte in it is no list without it
pub has_none : (b : ℕ) (xs ys : List ℕ) → All (λ byte. byte ≢ b) (xs ++ b ∷ ys) → ⊥
has_none b [] ys all = All-first (λ byte. byte ≢ b) b ys all refl
has_none b (x ∷ xs) ys all = has_none b xs ys (All-rest (λ byte. byte ≢ b) x (xs ++ b ∷ ys) all)

-- letters and digits are no `=`
pub no_sign : (xs : List ℕ) → All IsAsciiAlphanumeric xs → All (λ byte. byte ≢ 61) xs
no_sign xs all k d below = is_no_sign (get_or xs k d) (all k d below)
  where
    is_no_sign : (byte : ℕ) → IsAsciiAlphanumeric byte → byte ≢ 61
    is_no_sign byte (inl (inl digit)) = omega arith
    is_no_sign byte (inl (inr upper)) = omega arith
    is_no_sign byte (inr lower) = omega arith

-- ---- `NAME=PART`

-- the parts of a client's argument are those around its first `=`
pub parts_of_client :
    (arg : List ℕ) (at : ℕ) → All (λ byte. byte ≢ 61) (take at arg) → arg ≡ take at arg ++ 61 ∷ drop (at + 1) arg →
    IsClient arg → IsName (take at arg) × AreFiles (drop (at + 1) arg)
parts_of_client arg at front split client =
    let same = split_once_only 61 (take at arg) (drop (at + 1) arg) client.name client.part front
    (no_sign client.name client.is_name.letters) (sym split ∙ client.joined) in
    (subst IsName (sym same.0) client.is_name, subst AreFiles (sym same.1) client.files)

-- an argument without `=` is no client's
pub no_client : (arg : List ℕ) → All (λ byte. byte ≢ 61) arg → IsClient arg → ⊥
no_client arg all client =
    has_none 61 client.name client.part (subst (All (λ byte. byte ≢ 61)) client.joined all)

-- ---- `PROG<INPUT`

files_around : (part : List ℕ) (at : ℕ) (program : List ℕ) (input : Option (List ℕ)) →
    All (λ byte. byte ≢ 60) (take at part) → part ≡ take at part ++ 60 ∷ drop (at + 1) part →
    IsFileName program → IsInput input → part ≡ program ++ input_part input → IsFileName (take at part) × IsFileName (drop (at + 1) part)
files_around part at program None front split is_program is_input joined =
    absurd (has_none 60 (take at part) (drop (at + 1) part) (subst (All (λ byte. byte ≢ 60)) (sym (append-nil program) ∙ sym joined ∙ split) is_program.plain))
files_around part at program (Some name) front split is_program is_input joined =
    let same = split_once_only 60 (take at part) (drop (at + 1) part) program name front is_program.plain (sym split ∙ joined) in
    (subst IsFileName (sym same.0) is_program, subst IsFileName (sym same.1) is_input)

-- the files of a part are those around its first `<`
pub parts_of_files :
    (part : List ℕ) (at : ℕ) → All (λ byte. byte ≢ 60) (take at part) → part ≡ take at part ++ 60 ∷ drop (at + 1) part →
    AreFiles part → IsFileName (take at part) × IsFileName (drop (at + 1) part)
parts_of_files part at front split files = files_around part at files.program files.input front split files.is_program files.is_input files.joined

alone : (part program : List ℕ) (input : Option (List ℕ)) → All (λ byte. byte ≢ 60) part → IsFileName program → part ≡ program ++ input_part input → IsFileName part
alone part program None all is_program joined = subst IsFileName (sym (joined ∙ append-nil program)) is_program
alone part program (Some name) all is_program joined = absurd (has_none 60 program name (subst (All (λ byte. byte ≢ 60)) joined all))

-- a part without `<` is a program
pub program_is_all : (part : List ℕ) → All (λ byte. byte ≢ 60) part → AreFiles part → IsFileName part
program_is_all part all files = alone part files.program files.input all files.is_program files.joined

-- the files that a part names are one pair
pub one_pair : (p q : List ℕ) (i j : Option (List ℕ)) → IsFileName p → IsFileName q → p ++ input_part i ≡ q ++ input_part j → (p ≡ q) × (i ≡ j)
one_pair p q None None is_p is_q e = (sym (append-nil p) ∙ e ∙ append-nil q, refl)
one_pair p q None (Some j) is_p is_q e = absurd (has_none 60 q j (subst (All (λ byte. byte ≢ 60)) (sym (append-nil p) ∙ e) is_p.plain))
one_pair p q (Some i) None is_p is_q e = absurd (has_none 60 p i (subst (All (λ byte. byte ≢ 60)) (sym (append-nil q) ∙ sym e) is_q.plain))
one_pair p q (Some i) (Some j) is_p is_q e = let same = split_once_only 60 p i q j is_p.plain is_q.plain e in (same.0, ap (λ x. Some x) same.1)
