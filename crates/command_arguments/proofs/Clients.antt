-- The clients that arguments name are determined by them, and the first of them are clients too.
use Rattle.std.proofs.Common.{◌≡◌, ◌≢◌, ◌<◌, ◌+◌, ℕ, zero, suc, List, [], ◌∷◌, ◌++◌, refl, ap, sym, ◌∙◌, subst, arith, length, take, get_or, Option, add-one}
use Rattle.std.proofs.Math.Seq.{take-suc}
use Rattle.std.proofs.lemmas.List.Elements.{All-cons, All-nil, All-head, All-tail, All-push}
use Rattle.std.specs.Prelude.{All, map}
use Rattle.command_arguments.specs.CommandLine.{ClientFiles, IsClientFiles, HaveOwnNames, AreClients, client_argument, input_part}
use Rattle.command_arguments.proofs.Splits.{split_once_only, no_sign, one_pair}

-- ---- one client

pub same_name : (c d : ClientFiles) → IsClientFiles c → IsClientFiles d → client_argument c ≡ client_argument d → c.name ≡ d.name
same_name c d x y e = (split_once_only 61 c.name (c.program ++ input_part c.input) d.name (d.program ++ input_part d.input) (no_sign c.name x.name.letters) (no_sign d.name y.name.letters) e).0

abbrev client_with : List ℕ → List ℕ → Option (List ℕ) → ClientFiles
client_with name program input = record { name = name; program = program; input = input }

same_parts : (c d : ClientFiles) → c.name ≡ d.name → c.program ≡ d.program → c.input ≡ d.input → c ≡ d
same_parts c d e f g = ap (λ (n : List ℕ). client_with n c.program c.input) e ∙ ap (λ (p : List ℕ). client_with d.name p c.input) f ∙ ap (client_with d.name d.program) g

pub same_client : (c d : ClientFiles) → IsClientFiles c → IsClientFiles d → client_argument c ≡ client_argument d → c ≡ d
same_client c d x y e =
    let split = split_once_only 61 c.name (c.program ++ input_part c.input) d.name (d.program ++ input_part d.input) (no_sign c.name x.name.letters) (no_sign d.name y.name.letters) e in
    let files = one_pair c.program d.program c.input d.input x.program y.program split.1 in
    same_parts c d split.0 files.0 files.1

pub same_clients : (cs ds : List ClientFiles) → All IsClientFiles cs → All IsClientFiles ds → map client_argument cs ≡ map client_argument ds → cs ≡ ds
same_clients [] [] x y e = refl
same_clients [] (d ∷ ds) x y e = let n : 0 ≡ suc (length (map client_argument ds)) = ap length e in absurd (omega (arith, n))
same_clients (c ∷ cs) [] x y e = let n : suc (length (map client_argument cs)) ≡ 0 = ap length e in absurd (omega (arith, n))
same_clients (c ∷ cs) (d ∷ ds) x y e =
    let heads : client_argument c ≡ client_argument d = ap (λ (ws : List (List ℕ)). get_or ws 0 []) e in
    let tails : map client_argument cs ≡ map client_argument ds = cc e in
    let first = same_client c d (All-head IsClientFiles c cs x) (All-head IsClientFiles d ds y) heads in
    let rest = same_clients cs ds (All-tail IsClientFiles c cs x) (All-tail IsClientFiles d ds y) tails in
    cc (first, rest)

-- ---- the first clients

-- the clients of the first arguments
pub record First (xs : List (List ℕ)) (cs : List ClientFiles) : Type 0 where
  pub first : List ClientFiles
  pub rest : List ClientFiles
  pub joined : cs ≡ first ++ rest
  pub arguments_are : xs ≡ map client_argument first

pub first_of : (xs ys : List (List ℕ)) (cs : List ClientFiles) → xs ++ ys ≡ map client_argument cs → First xs cs
first_of [] ys cs e = record { first = []; rest = cs; joined = refl; arguments_are = refl }
first_of (x ∷ xs) ys [] e = let n : suc (length (xs ++ ys)) ≡ 0 = ap length e in absurd (omega (arith, n))
first_of (x ∷ xs) ys (c ∷ cs) e =
    let heads : x ≡ client_argument c = ap (λ (ws : List (List ℕ)). get_or ws 0 []) e in
    let tails : xs ++ ys ≡ map client_argument cs = cc e in
    let r = first_of xs ys cs tails in
    record { first = c ∷ r.first; rest = r.rest; joined = ap (λ ds. c ∷ ds) r.joined; arguments_are = cc (heads, r.arguments_are) }

pub all_first : {X : Type 0} (P : X → Type 0) (xs ys : List X) → All P (xs ++ ys) → All P xs
all_first P [] ys all = All-nil P
all_first P (x ∷ xs) ys all = All-cons P x xs (All-head P x (xs ++ ys) all) (all_first P xs ys (All-tail P x (xs ++ ys) all))

pub names_first : (cs ds : List ClientFiles) → HaveOwnNames (cs ++ ds) → HaveOwnNames cs
names_first [] ds own = tt
names_first (c ∷ cs) ds own = (all_first (λ (d : ClientFiles). c.name ≢ d.name) cs ds own.0, names_first cs ds own.1)

pub are_first : (xs ys : List (List ℕ)) → AreClients (xs ++ ys) → AreClients xs
are_first xs ys are =
    let r = first_of xs ys are.clients are.arguments_are in
    record {
      clients = r.first;
      good = all_first IsClientFiles r.first r.rest (subst (All IsClientFiles) r.joined are.good);
      names = names_first r.first r.rest (subst HaveOwnNames r.joined are.names);
      arguments_are = r.arguments_are;
    }

-- ---- one client more

pub no_clients : AreClients []
no_clients = record { clients = []; good = All-nil IsClientFiles; names = tt; arguments_are = refl }

pub names_more : (cs : List ClientFiles) (c : ClientFiles) → HaveOwnNames cs → All (λ (d : ClientFiles). d.name ≢ c.name) cs → HaveOwnNames (cs ++ c ∷ [])
names_more [] c own new = (All-nil (λ (d : ClientFiles). c.name ≢ d.name), tt)
names_more (b ∷ cs) c own new =
    (All-push (λ (d : ClientFiles). b.name ≢ d.name) cs c own.0 (All-head (λ (d : ClientFiles). d.name ≢ c.name) b cs new), names_more cs c own.1 (All-tail (λ (d : ClientFiles). d.name ≢ c.name) b cs new))

-- the last one has another name than those before it
pub last_is_new : (cs : List ClientFiles) (c : ClientFiles) → HaveOwnNames (cs ++ c ∷ []) → All (λ (d : ClientFiles). d.name ≢ c.name) cs
last_is_new [] c own = All-nil (λ (d : ClientFiles). d.name ≢ c.name)
last_is_new (b ∷ cs) c own =
    let one : b.name ≢ c.name = last_of cs own.0 in
    All-cons (λ (d : ClientFiles). d.name ≢ c.name) b cs one (last_is_new cs c own.1)
  where
    last_of : (ds : List ClientFiles) → All (λ (d : ClientFiles). b.name ≢ d.name) (ds ++ c ∷ []) → b.name ≢ c.name
    last_of [] all = All-head (λ (d : ClientFiles). b.name ≢ d.name) c [] all
    last_of (d ∷ ds) all = last_of ds (All-tail (λ (d : ClientFiles). b.name ≢ d.name) d (ds ++ c ∷ []) all)

map_push : (cs : List ClientFiles) (c : ClientFiles) → map client_argument (cs ++ c ∷ []) ≡ map client_argument cs ++ client_argument c ∷ []
map_push [] c = refl
map_push (b ∷ cs) c = ap (λ ws. client_argument b ∷ ws) (map_push cs c)

pub are_more : (xs : List (List ℕ)) (c : ClientFiles) (are : AreClients xs) → IsClientFiles c → All (λ (d : ClientFiles). d.name ≢ c.name) are.clients → AreClients (xs ++ client_argument c ∷ [])
are_more xs c are good new =
    record {
      clients = are.clients ++ c ∷ [];
      good = All-push IsClientFiles are.clients c are.good good;
      names = names_more are.clients c are.names new;
      arguments_are = ap (λ ws. ws ++ client_argument c ∷ []) are.arguments_are ∙ sym (map_push are.clients c);
    }

-- the last argument names a client that is new
pub record Last (xs : List (List ℕ)) (x : List ℕ) : Type 0 where
  pub before : AreClients xs
  pub client : ClientFiles
  pub good : IsClientFiles client
  pub argument_is : x ≡ client_argument client
  pub new : All (λ (d : ClientFiles). d.name ≢ client.name) before.clients

tail_one : (es : List ClientFiles) (x : List ℕ) → x ∷ [] ≡ map client_argument es → (e : ClientFiles) × ((es ≡ e ∷ []) × (x ≡ client_argument e))
tail_one [] x is = let n : 1 ≡ 0 = ap length is in absurd (omega (arith, n))
tail_one (e ∷ []) x is = (e, (refl, ap (λ (ws : List (List ℕ)). get_or ws 0 []) is))
tail_one (e ∷ f ∷ es) x is = let n : 1 ≡ suc (suc (length (map client_argument es))) = ap length is in absurd (omega (arith, n))

rest_is : (xs ys : List (List ℕ)) (first rest : List ClientFiles) → xs ++ ys ≡ map client_argument (first ++ rest) → xs ≡ map client_argument first → ys ≡ map client_argument rest
rest_is [] ys [] rest e f = e
rest_is [] ys (c ∷ cs) rest e f = let n : 0 ≡ suc (length (map client_argument cs)) = ap length f in absurd (omega (arith, n))
rest_is (x ∷ xs) ys [] rest e f = let n : suc (length xs) ≡ 0 = ap length f in absurd (omega (arith, n))
rest_is (x ∷ xs) ys (c ∷ cs) rest e f =
    let tails : xs ++ ys ≡ map client_argument (cs ++ rest) = cc e in
    let heads : xs ≡ map client_argument cs = cc f in
    rest_is xs ys cs rest tails heads

all_rest : {X : Type 0} (P : X → Type 0) (xs ys : List X) → All P (xs ++ ys) → All P ys
all_rest P [] ys all = all
all_rest P (x ∷ xs) ys all = all_rest P xs ys (All-tail P x (xs ++ ys) all)

pub last_of_clients : (xs : List (List ℕ)) (x : List ℕ) → AreClients (xs ++ x ∷ []) → Last xs x
last_of_clients xs x are =
    let r = first_of xs (x ∷ []) are.clients are.arguments_are in
    let tail = rest_is xs (x ∷ []) r.first r.rest (are.arguments_are ∙ ap (map client_argument) r.joined) r.arguments_are in
    let one = tail_one r.rest x tail in
    let joined : are.clients ≡ r.first ++ one.0 ∷ [] = r.joined ∙ ap (λ es. r.first ++ es) one.1.0 in
    let good : All IsClientFiles (r.first ++ one.0 ∷ []) = subst (All IsClientFiles) joined are.good in
    let names : HaveOwnNames (r.first ++ one.0 ∷ []) = subst HaveOwnNames joined are.names in
    record {
      before = record { clients = r.first; good = all_first IsClientFiles r.first (one.0 ∷ []) good; names = names_first r.first (one.0 ∷ []) names; arguments_are = r.arguments_are };
      client = one.0;
      good = All-head IsClientFiles one.0 [] (all_rest IsClientFiles r.first (one.0 ∷ []) good);
      argument_is = one.1.1;
      new = last_is_new r.first one.0 names;
    }

-- ---- the client of an argument

pub same_lengths : (ws : List (List ℕ)) (cs : List ClientFiles) → ws ≡ map client_argument cs → length ws ≡ length cs
same_lengths [] [] e = refl
same_lengths [] (c ∷ cs) e = let n : 0 ≡ suc (length (map client_argument cs)) = ap length e in absurd (omega (arith, n))
same_lengths (w ∷ ws) [] e = let n : suc (length ws) ≡ 0 = ap length e in absurd (omega (arith, n))
same_lengths (w ∷ ws) (c ∷ cs) e = let tails : ws ≡ map client_argument cs = cc e in ap suc (same_lengths ws cs tails)

-- the argument is that of the client at a place
pub record Placed (cs : List ClientFiles) (i : ℕ) (w : List ℕ) : Type 0 where
  pub client : ClientFiles
  pub good : IsClientFiles client
  pub argument_is : w ≡ client_argument client
  pub below : i < length cs
  pub at : (d : ClientFiles) → get_or cs i d ≡ client

pub placed : (ws : List (List ℕ)) (cs : List ClientFiles) (i : ℕ) (w : List ℕ) → ws ≡ map client_argument cs → All IsClientFiles cs → i < length ws → w ≡ get_or ws i w → Placed cs i w
placed [] cs i w e good below is = absurd (omega (arith, below))
placed (v ∷ ws) [] i w e good below is = let n : suc (length ws) ≡ 0 = ap length e in absurd (omega (arith, n))
placed (v ∷ ws) (c ∷ cs) zero w e good below is =
    let heads : v ≡ client_argument c = ap (λ (ws : List (List ℕ)). get_or ws 0 []) e in
    record { client = c; good = All-head IsClientFiles c cs good; argument_is = is ∙ heads; below = omega arith; at = λ d. refl }
placed (v ∷ ws) (c ∷ cs) (suc i) w e good below is =
    let tails : ws ≡ map client_argument cs = cc e in
    let r = placed ws cs i w tails (All-tail IsClientFiles c cs good) (omega (arith, below)) is in
    let less = r.below in
    record { client = r.client; good = r.good; argument_is = r.argument_is; below = omega (arith, less); at = r.at }

-- what holds of the first elements, and of the next one if there is one
pub all_more : {X : Type 0} (P : X → Type 0) (xs : List X) (i : ℕ) → All P (take i xs) → ((d : X) → i < length xs → P (get_or xs i d)) → All P (take (suc i) xs)
all_more P [] i all here = All-nil P
all_more P (x ∷ xs) zero all here = All-cons P x [] (here x (omega arith)) (All-nil P)
all_more P (x ∷ xs) (suc i) all here = All-cons P x (take (suc i) xs) (All-head P x (take i xs) all) (all_more P xs i (All-tail P x (take i xs) all) (λ d below. here d (omega (arith, below))))

-- the first elements, and the next one
pub more_is : (ws : List (List ℕ)) (i : ℕ) (w : List ℕ) → i < length ws → w ≡ get_or ws i w → take (i + 1) ws ≡ take i ws ++ w ∷ []
more_is ws i w below is = ap (λ n. take n ws) (add-one i) ∙ take-suc ws i w below ∙ ap (λ x. take i ws ++ x ∷ []) (sym is)
