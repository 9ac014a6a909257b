-- Parts in a row, as far as a loop has read them.
use Rattle.std.specs.Prelude.{Option}
use Rattle.std.proofs.Common.{◌≡◌, ◌+◌, ◌<◌, ◌≤◌, ℕ, List, [], ◌∷◌, ◌++◌, refl, ap, ◌∙◌, subst, map, append_assoc, arith}
use Rattle.std.proofs.lemmas.List.{map-append, append-nil}
use Rattle.syntax_tree.specs.declared.name.Named.{Named}
use Rattle.syntax_tree.specs.declared.name.Word.{Word}
use Rattle.parse_tree.specs.declared.production.TheConstants as p
use Rattle.syntax_tree.specs.declared.statement.Statement.{Statement as TypedStatement}
use Rattle.syntax_tree.specs.Syntax.{Argument, RecordOption, Statements, Nothing, Then}
use Rattle.syntax_tree.specs.Typed.{statement_of, statements_of}
use Rattle.syntax_reader.specs.Nodes.{Source, Uses, IsName, AreAll, all_read, one_more}
use Rattle.syntax_reader.specs.Headers.{AreNames, AreNamesFrom, all_named, one_name}
use Rattle.syntax_reader.specs.Plain.{AreArgumentsFrom, AreFindOptions, AreOtherArguments, IsArgument, IsFindOption, all_options, one_option}
use Rattle.syntax_reader.specs.Streaming.{AreTargets, IsImportTarget, all_targets, one_target}
use Rattle.syntax_reader.specs.Statements.{IsStatement, AreStatements, all_statements, one_statement}

-- the elements read so far, followed by any rest of the row, are the whole row
pub record InRow {A : Type 0} (R : ℕ → ℕ → List A → Type 0) (begun n : ℕ) (found : List A) : Type 0 where
  pub go : (rest : List A) (end : ℕ) → R n end rest → R begun end (found ++ rest)
  pub after : begun ≤ n

pub row_begins : {A : Type 0} (R : ℕ → ℕ → List A → Type 0) (begun : ℕ) → InRow R begun begun []
row_begins R begun = record { go = λ rest end r. r; after = omega arith }

pub row_more : {A : Type 0} {R : ℕ → ℕ → List A → Type 0} {begun n m : ℕ} {found : List A} (new : List A) (a : A) → InRow R begun n found → n < m → new ≡ found ++ a ∷ [] →
    ((rest : List A) (end : ℕ) → R m end rest → R n end (a ∷ rest)) → InRow R begun m new
row_more {A} {R} {begun} {n} {m} {found} new a so_far onward is step = record {
  go = λ rest end r. rw (ap (λ xs. xs ++ rest) is ∙ append_assoc found (a ∷ []) rest) (so_far.go (a ∷ rest) end (step rest end r));
  after = (let before : begun ≤ n = so_far.after in omega arith);
}

pub row_done : {A : Type 0} {R : ℕ → ℕ → List A → Type 0} {begun n : ℕ} {found : List A} → InRow R begun n found → R n (n + 1) [] → R begun (n + 1) found
row_done {A} {R} {begun} {n} {found} so_far last = subst (λ (xs : List A). R begun (n + 1) xs) (append-nil found) (so_far.go [] (n + 1) last)

-- the same for a row that is built by two productions: one adds an element, the other ends the row
pub all_more : {A : Type 0} {c : Source} {more none : ℕ} {Is : ℕ → ℕ → A → Type 0} {begun n k m : ℕ} {found : List A} (new : List A) (a : A) → InRow (AreAll c more none Is) begun n found → Uses c n more k →
    Is (n + 1) m a → n < m → new ≡ found ++ a ∷ [] → InRow (AreAll c more none Is) begun m new
all_more new a so_far u b onward is = row_more new a so_far onward is (λ rest end r. one_more u b r)

pub all_done : {A : Type 0} {c : Source} {more none : ℕ} {Is : ℕ → ℕ → A → Type 0} {begun n k : ℕ} {found : List A} → InRow (AreAll c more none Is) begun n found → Uses c n none k → AreAll c more none Is begun (n + 1) found
all_done so_far u = row_done so_far (all_read u)

pub mapped : {T A : Type 0} (f : T → A) (found new : List T) (x : T) → new ≡ found ++ x ∷ [] → map f new ≡ map f found ++ f x ∷ []
mapped f found new x is = ap (map f) is ∙ map-append f found (x ∷ [])

-- a row whose first element was read before the loop
pub record InRest {A : Type 0} (R : ℕ → ℕ → List A → Type 0) (begun n : ℕ) (first : A) (found : List A) : Type 0 where
  pub others : List A
  pub is : found ≡ first ∷ others
  pub row : InRow R begun n others

pub rest_begins : {A : Type 0} (R : ℕ → ℕ → List A → Type 0) (begun : ℕ) (first : A) (new : List A) → new ≡ [] ++ first ∷ [] → InRest R begun begun first new
rest_begins R begun first new is = record { others = []; is = is; row = row_begins R begun }

pub rest_more : {A : Type 0} {R : ℕ → ℕ → List A → Type 0} {begun n m : ℕ} {first : A} {found : List A} (new : List A) (a : A) → InRest R begun n first found → n < m → new ≡ found ++ a ∷ [] →
    ((rest : List A) (end : ℕ) → R m end rest → R n end (a ∷ rest)) → InRest R begun m first new
rest_more {A} {R} {begun} {n} {m} {first} {found} new a so_far onward is step = record {
  others = so_far.others ++ a ∷ [];
  is = is ∙ ap (λ xs. xs ++ a ∷ []) so_far.is;
  row = row_more (so_far.others ++ a ∷ []) a so_far.row onward refl step;
}

pub row_starts : {A : Type 0} (R : ℕ → ℕ → List A → Type 0) (begun : ℕ) (found : List A) → found ≡ [] → InRow R begun begun found
row_starts R begun found is = rw is (row_begins R begun)

pub mapped_starts : {T A : Type 0} (f : T → A) (R : ℕ → ℕ → List A → Type 0) (begun : ℕ) (found : List T) → found ≡ [] → InRow R begun begun (map f found)
mapped_starts f R begun found is = rw is (row_begins R begun)

pub mapped_grows : {T A : Type 0} (f : T → A) {c : Source} {more none : ℕ} {Is : ℕ → ℕ → A → Type 0} {begun n k m : ℕ} (found new : List T) (x : T) → InRow (AreAll c more none Is) begun n (map f found) → Uses c n more k →
    Is (n + 1) m (f x) → n + 1 < m → new ≡ found ++ x ∷ [] → InRow (AreAll c more none Is) begun m (map f new)
mapped_grows f found new x so_far u b onward is = all_more (map f new) (f x) so_far u b (omega arith) (mapped f found new x is)

-- options of FIND
pub option_more : {T : Type 0} (f : T → RecordOption) (c : Source) (begun n m : ℕ) (found new : List T) (x : T) → InRow (AreFindOptions c) begun n (map f found) → IsFindOption c n m (f x) → n < m → new ≡ found ++ x ∷ [] →
    InRow (AreFindOptions c) begun m (map f new)
option_more f c begun n m found new x so_far b onward is = row_more (map f new) (f x) so_far onward (mapped f found new x is) (λ rest end r. one_option b r)

pub options_done : (c : Source) (begun n k : ℕ) (found : List RecordOption) → InRow (AreFindOptions c) begun n found → Uses c n p.FIND_OPTIONS_NONE k → AreFindOptions c begun (n + 1) found
options_done c begun n k found so_far u = row_done so_far (all_options u)

-- targets of IMPORT
pub target_more : (c : Source) (begun n m : ℕ) (found new : List (Option Named)) (x : Option Named) → InRow (AreTargets c) begun n found → IsImportTarget c n m x → n < m → new ≡ found ++ x ∷ [] → InRow (AreTargets c) begun m new
target_more c begun n m found new x so_far b onward is = row_more new x so_far onward is (λ rest end r. one_target b r)

pub targets_done : (c : Source) (begun n k : ℕ) (found : List (Option Named)) → InRow (AreTargets c) begun n found → Uses c n p.IMPORT_TARGETS_NONE k → AreTargets c begun (n + 1) found
targets_done c begun n k found so_far u = row_done so_far (all_targets u)

-- names after the first one
pub rest_starts : {A : Type 0} (R : ℕ → ℕ → List A → Type 0) (begun : ℕ) (first : A) (none new : List A) → none ≡ [] → new ≡ none ++ first ∷ [] → InRest R begun begun first new
rest_starts R begun first none new empty is = rest_begins R begun first new (is ∙ ap (λ xs. xs ++ first ∷ []) empty)

pub name_more : (c : Source) (begun n k : ℕ) (first : Word) (found new : List Word) (x : Word) → InRest (AreNames c) begun n first found → Uses c n p.MORE_NAMES_COMMA k → IsName c (k + 1) x → new ≡ found ++ x ∷ [] →
    InRest (AreNames c) begun (n + 1) first new
name_more c begun n k first found new x so_far u b is = rest_more new x so_far (omega arith) is (λ rest end r. one_name u b r)

pub names_done : (c : Source) (begun n k : ℕ) (first : Word) (found : List Word) → InRest (AreNames c) begun n first found → Uses c n p.MORE_NAMES_NONE k → AreNamesFrom c begun (n + 1) first found
names_done c begun n k first found so_far u = record { others = so_far.others; read = row_done so_far.row (all_named u); is = so_far.is }

-- arguments of RUN after the first one
pub arguments_start : {T : Type 0} (f : T → Argument) (c : Source) (begun : ℕ) (first : T) (none new : List T) → none ≡ [] → new ≡ none ++ first ∷ [] → InRest (AreOtherArguments c) begun begun (f first) (map f new)
arguments_start f c begun first none new empty is = rest_begins (AreOtherArguments c) begun (f first) (map f new) (ap (map f) (is ∙ ap (λ xs. xs ++ first ∷ []) empty))

pub argument_more : {T : Type 0} (f : T → Argument) (c : Source) (begun n k m : ℕ) (first : Argument) (found new : List T) (x : T) → InRest (AreOtherArguments c) begun n first (map f found) → Uses c n p.MORE_ARGUMENTS_COMMA k →
    IsArgument c (n + 1) m (f x) → n + 1 < m → new ≡ found ++ x ∷ [] → InRest (AreOtherArguments c) begun m first (map f new)
argument_more f c begun n k m first found new x so_far u b onward is = rest_more (map f new) (f x) so_far (omega arith) (mapped f found new x is) (λ rest end r. one_more u b r)

pub arguments_done : (c : Source) (begun n k : ℕ) (first : Argument) (found : List Argument) → InRest (AreOtherArguments c) begun n first found → Uses c n p.MORE_ARGUMENTS_NONE k → AreArgumentsFrom c begun (n + 1) first found
arguments_done c begun n k first found so_far u = record { others = so_far.others; read = row_done so_far.row (all_read u); is = so_far.is }

-- statements followed by others
abbrev pub statements_onto : List TypedStatement → Statements → Statements
statements_onto [] more = more
statements_onto (t ∷ rest) more = Then (statement_of t) (statements_onto rest more)

statements_snoc : (found : List TypedStatement) (t : TypedStatement) (more : Statements) → statements_onto (found ++ t ∷ []) more ≡ statements_onto found (Then (statement_of t) more)
statements_snoc [] t more = refl
statements_snoc (u ∷ rest) t more = ap (λ x. Then (statement_of u) x) (statements_snoc rest t more)

statements_end : (found : List TypedStatement) → statements_onto found Nothing ≡ statements_of found
statements_end [] = refl
statements_end (u ∷ rest) = ap (λ x. Then (statement_of u) x) (statements_end rest)

-- statements as far as a loop has read them
pub record InBody (c : Source) (begun n : ℕ) (found : List TypedStatement) : Type 0 where
  pub go : (rest : Statements) (end : ℕ) → AreStatements c n end rest → AreStatements c begun end (statements_onto found rest)
  pub after : begun ≤ n

pub body_begins : (c : Source) (begun : ℕ) (found : List TypedStatement) → found ≡ [] → InBody c begun begun found
body_begins c begun found is = rw is (record { go = λ rest end r. r; after = omega arith })

pub body_grows : (c : Source) (begun n k m : ℕ) (found new : List TypedStatement) (t : TypedStatement) → InBody c begun n found → Uses c n p.STATEMENTS_STATEMENT k → IsStatement c (n + 1) m (statement_of t) → n + 1 < m →
    new ≡ found ++ t ∷ [] → InBody c begun m new
body_grows c begun n k m found new t so_far u b onward is = record {
  go = λ rest end r. rw (ap (λ xs. statements_onto xs rest) is ∙ statements_snoc found t rest) (so_far.go (Then (statement_of t) rest) end (one_statement u b r));
  after = (let before : begun ≤ n = so_far.after in omega arith);
}

pub body_done : (c : Source) (begun n k : ℕ) (found : List TypedStatement) → InBody c begun n found → Uses c n p.STATEMENTS_NONE k → AreStatements c begun (n + 1) (statements_of found)
body_done c begun n k found so_far u = rw (← (statements_end found)) (so_far.go Nothing (n + 1) (all_statements u))
