-- Each block of a text has one header in its tree.
use Rattle.std.proofs.Common.{◌≡◌, ◌+◌, ◌⊎◌, inl, inr, ℕ, zero, suc, Bool, true, List, [], ◌∷◌, ◌++◌, Option, Some, None, Ok, length, map, refl, sym, ap, ◌∙◌, subst, arith}
use Rattle.std.specs.Prelude.{slice_get}
use Rattle.std.proofs.lemmas.List.{append_assoc, append-nil, map-append}
use Rattle.abl_base.specs.declared.place.Place.{Place}
use Rattle.abl_values.specs.Schema.{SchemaData}
use Rattle.syntax_tree.specs.Syntax as s
use Rattle.syntax_tree.specs.Syntax.{Program, Statement, Statements}
use Rattle.bound_tree.specs.declared.block.BlockKind.TheVariants as block_kind
use Rattle.bound_tree.specs.Tree as t
use Rattle.bound_tree.specs.Tree.{Header, Stmt, Body, Procedure, Source}
use Rattle.bind_names.specs.declared.names.Naming.{Naming}
use Rattle.bind_names.specs.declared.violation.Violation.{Violation}
use Rattle.bind_names.specs.Judged.{first}
use Rattle.bind_names.specs.Names.{Scene}
use Rattle.bind_expressions.specs.Parts.{scene_after}
use Rattle.syntax_tree.specs.declared.name.Word.{Word}
use Rattle.bind_blocks.specs.Headers.{block_kind_of}
use Rattle.binder.specs.Statements.{statement, statements}
use Rattle.binder.specs.Sources.{beginning, bound, inside_procedure, items, judged, namings, or_first, outside_again, procedure_with, signatures, violations}
use Rattle.buffer_scope.specs.Blocks.{Placed, blocks_of, may_scope, one_more, through, through_all, through_items}
use Rattle.buffer_scope.specs.Scoped.{scoped_body, scoped_procedure, scoped_stmt, scoped_to, with_scopes}
use Rattle.txn_infer.specs.Flags.{flagged_body, flagged_procedure, flagged_stmt, with_flags}
use Rattle.source_reader.specs.TextBlocks.{AreItsBlocks, TextBlock, NumberedBlock, BlockName, blocks_among, blocks_in, blocks_of_procedure, blocks_within, headers_in, headers_of, headers_within, name_of_block, name_of_header, procedure_blocks, text_blocks}
use Rattle.source_reader.specs.Numbered.{HasOneHeader, IsHeaderAt}
use Rattle.source_reader.specs.Sources.{HasSyntax, IsTreeOf}
use Rattle.source_reader.proofs.Violations.{one_syntax}
use Rattle.source_reader.proofs.BlockLists.{AreIn, IsAmong, among, numbered_at, one_place}
use Rattle.source_reader.proofs.Numbers.{all_are_in, are_in, judged_blocks}

-- ---- flags and scopes keep the names of blocks

join_is : {A : Type 0} (w x y z : List A) → w ≡ x → y ≡ z → w ++ y ≡ x ++ z
join_is w x y z e f = ap (λ l. l ++ y) e ∙ ap (λ l. x ++ l) f

names_joined : (w x y z : List Header) → map name_of_header w ≡ map name_of_header x → map name_of_header y ≡ map name_of_header z → map name_of_header (w ++ y) ≡ map name_of_header (x ++ z)
names_joined w x y z e f = map-append name_of_header w y ∙ (join_is _ _ _ _ e f ∙ sym (map-append name_of_header x z))

mutual
  same_names : (to : ℕ → List ℕ) (x : Stmt) → map name_of_header (headers_in (flagged_stmt (scoped_stmt to x))) ≡ map name_of_header (headers_in x)
  same_names to (t.Inner h body) = ap (λ l. name_of_header h ∷ l) (all_same_names to body)
  same_names to (t.Choose test x y) =
      names_joined (headers_within (flagged_body (scoped_body to x))) (headers_within x) (headers_within (flagged_body (scoped_body to y))) (headers_within y) (all_same_names to x) (all_same_names to y)
  same_names to other = refl

  all_same_names : (to : ℕ → List ℕ) (x : Body) → map name_of_header (headers_within (flagged_body (scoped_body to x))) ≡ map name_of_header (headers_within x)
  all_same_names to t.Nothing = refl
  all_same_names to (t.Then x xs) =
      names_joined (headers_in (flagged_stmt (scoped_stmt to x))) (headers_in x) (headers_within (flagged_body (scoped_body to xs))) (headers_within xs) (same_names to x) (all_same_names to xs)

procedure_names : (blocks : List Placed) (q : Procedure) → map name_of_header (headers_of (flagged_procedure (scoped_procedure blocks q))) ≡ map name_of_header (headers_of q)
procedure_names blocks q = ap (λ l. name_of_header q.header ∷ l) (all_same_names (scoped_to blocks q) q.body)

-- ---- each header has the buffers scoped to the block of its number

abbrev AreScoped : (ℕ → List ℕ) → List Header → Type 0
AreScoped to [] = Unit {0}
AreScoped to (h ∷ hs) = (h.scoped ≡ to h.number) × AreScoped to hs

scoped_join : (to : ℕ → List ℕ) (xs ys : List Header) → AreScoped to xs → AreScoped to ys → AreScoped to (xs ++ ys)
scoped_join to [] ys g h = h
scoped_join to (x ∷ xs) ys g h = (g.0, scoped_join to xs ys g.1 h)

scoped_at : (to : ℕ → List ℕ) (xs : List Header) (i : ℕ) (h : Header) → AreScoped to xs → slice_get xs i ≡ Some h → h.scoped ≡ to h.number
scoped_at to [] i h are e = absurd cc
scoped_at to (x ∷ xs) zero h are e = let is : x ≡ h = cc in subst (λ (y : Header). y.scoped ≡ to y.number) is are.0
scoped_at to (x ∷ xs) (suc i) h are e = scoped_at to xs i h are.1 e

mutual
  are_scoped : (to : ℕ → List ℕ) (x : Stmt) → AreScoped to (headers_in (flagged_stmt (scoped_stmt to x)))
  are_scoped to (t.Inner h body) = (refl, all_are_scoped to body)
  are_scoped to (t.Choose test x y) = scoped_join to (headers_within (flagged_body (scoped_body to x))) (headers_within (flagged_body (scoped_body to y))) (all_are_scoped to x) (all_are_scoped to y)
  are_scoped to other = tt

  all_are_scoped : (to : ℕ → List ℕ) (x : Body) → AreScoped to (headers_within (flagged_body (scoped_body to x)))
  all_are_scoped to t.Nothing = tt
  all_are_scoped to (t.Then x xs) = scoped_join to (headers_in (flagged_stmt (scoped_stmt to x))) (headers_within (flagged_body (scoped_body to xs))) (are_scoped to x) (all_are_scoped to xs)

procedure_scoped : (blocks : List Placed) (q : Procedure) → AreScoped (scoped_to blocks (flagged_procedure (scoped_procedure blocks q))) (headers_of (flagged_procedure (scoped_procedure blocks q)))
procedure_scoped blocks q = (refl, all_are_scoped (scoped_to blocks q) q.body)

-- ---- each block is in a procedure of the tree

abbrev IsOne : TextBlock → List TextBlock → Type 0
IsOne b [] = ⊥
IsOne b (x ∷ xs) = (x ≡ b) ⊎ IsOne b xs

is_one : (b : TextBlock) (xs : List TextBlock) (i : ℕ) → slice_get xs i ≡ Some b → IsOne b xs
is_one b [] i e = absurd cc
is_one b (x ∷ xs) zero e = inl (let is : x ≡ b = cc in is)
is_one b (x ∷ xs) (suc i) e = inr (is_one b xs i e)

one_of : (b : TextBlock) (xs ys : List TextBlock) → IsOne b (xs ++ ys) → IsOne b xs ⊎ IsOne b ys
one_of b [] ys h = inr h
one_of b (x ∷ xs) ys (inl e) = inl (inl e)
one_of b (x ∷ xs) ys (inr h) = go (one_of b xs ys h)
  where
    go : IsOne b xs ⊎ IsOne b ys → IsOne b (x ∷ xs) ⊎ IsOne b ys
    go (inl g) = inl (inr g)
    go (inr g) = inr g

its_procedure : (p : ℕ) (b : TextBlock) (xs : List TextBlock) → AreIn p xs → IsOne b xs → b.procedure ≡ p
its_procedure p b [] are h = absurd h
its_procedure p b (x ∷ xs) are (inl e) = subst (λ (y : TextBlock). y.procedure ≡ p) e are.0
its_procedure p b (x ∷ xs) are (inr h) = its_procedure p b xs are.1 h

-- the block is in one of these procedures, where the first has number m
record IsInOne (m : ℕ) (qs : List Procedure) (b : TextBlock) : Type 0 where
  place : ℕ
  procedure : Procedure
  number : b.procedure ≡ m + place
  at : slice_get qs place ≡ Some procedure

one_more_procedure : (m : ℕ) (x : Procedure) (qs : List Procedure) (b : TextBlock) → (b.procedure ≡ 0) ⊎ IsInOne (m + 1) qs b → (b.procedure ≡ 0) ⊎ IsInOne m (x ∷ qs) b
one_more_procedure m x qs b (inl e) = inl e
one_more_procedure m x qs b (inr h) = inr (record { place = suc h.place; procedure = h.procedure; number = (let e = h.number in omega (arith, e)); at = h.at })

items_have : (w : Scene) (names : List Word) (program : Program) (m : ℕ) (b : TextBlock) → IsOne b (blocks_among m program) → (b.procedure ≡ 0) ⊎ IsInOne m (items w names program).is.procedures b
items_have w names [] m b h = absurd h
items_have w names (s.Alone x ∷ rest) m b h = go (one_of b (blocks_in 0 x) (blocks_among m rest) h) (items_have (scene_after w (statement w x).is.after) names rest m b)
  where
    go : {P : Type 0} → IsOne b (blocks_in 0 x) ⊎ IsOne b (blocks_among m rest) → (IsOne b (blocks_among m rest) → (b.procedure ≡ 0) ⊎ P) → (b.procedure ≡ 0) ⊎ P
    go (inl g) more = inl (its_procedure 0 b (blocks_in 0 x) (are_in 0 x) g)
    go (inr g) more = more g
items_have w names (s.Procedure keyword name body ∷ rest) m b h =
    let v = inside_procedure (length names + 1) w in
    let x = statements v body in
    let u = scene_after w (outside_again w.known.own x.is.after) in
    go (procedure_with v keyword name.spelling x.is.after.own x.is.body) (items u (name ∷ names) rest).is.procedures
    (one_of b (procedure_blocks m keyword body) (blocks_among (m + 1) rest) h) (items_have u (name ∷ names) rest (m + 1) b)
  where
    go : (q : Procedure) (qs : List Procedure) → IsOne b (procedure_blocks m keyword body) ⊎ IsOne b (blocks_among (m + 1) rest) →
        (IsOne b (blocks_among (m + 1) rest) → (b.procedure ≡ 0) ⊎ IsInOne (m + 1) qs b) → (b.procedure ≡ 0) ⊎ IsInOne m (q ∷ qs) b
    go q qs (inl g) more =
        inr (record { place = zero; procedure = q; number = its_procedure m b (procedure_blocks m keyword body) (refl, all_are_in m body) g ∙ (let e : m ≡ m + 0 = omega arith in e); at = refl })
    go q qs (inr g) more = one_more_procedure m q qs b (more g)

-- the procedure of a block of the text
record HasProcedure (qs : List Procedure) (p : ℕ) : Type 0 where
  procedure : Procedure
  at : slice_get qs p ≡ Some procedure

judged_has : (schema : SchemaData) (program : Program) (said : List Naming) (b : TextBlock) → IsOne b (text_blocks program) → HasProcedure (judged schema program said).is.procedures b.procedure
judged_has schema program said b h = go h
  where
    qs : List Procedure
    qs = (judged schema program said).is.procedures

    outer : b.procedure ≡ 0 → HasProcedure qs b.procedure
    outer e = subst (HasProcedure qs) (sym e) (record { procedure = _; at = refl })

    found : (b.procedure ≡ 0) ⊎ IsInOne 1 (items (beginning (record { schema = schema; namings = said; procedures = signatures program })) [] program).is.procedures b → HasProcedure qs b.procedure
    found (inl e) = outer e
    found (inr it) = subst (HasProcedure qs) (let e = it.number in let f : suc it.place ≡ b.procedure = omega (arith, e) in f) (record { procedure = it.procedure; at = it.at })

    go : IsOne b (text_blocks program) → HasProcedure qs b.procedure
    go (inl e) = outer (sym (ap (λ (y : TextBlock). y.procedure) e))
    go (inr g) = found (items_have (beginning (record { schema = schema; namings = said; procedures = signatures program })) [] program 1 b g)

-- ---- the blocks in scopes are those of the text

abbrev keyword_of_placed : Placed → Place
keyword_of_placed b = b.keyword

abbrev keyword_of_block : TextBlock → Place
keyword_of_block b = b.keyword

-- the blocks `after` are the blocks `before`, followed by the blocks `bs`
abbrev Follow : List Placed → List Placed → List TextBlock → Type 0
Follow after before bs = map keyword_of_placed after ≡ map keyword_of_placed before ++ map keyword_of_block bs

follow_none : (before : List Placed) → Follow before before []
follow_none before = sym (append-nil (map keyword_of_placed before))

follow_then : (x y z : List Placed) (bs cs : List TextBlock) → Follow y x bs → Follow z y cs → Follow z x (bs ++ cs)
follow_then x y z bs cs g h =
    h ∙ (ap (λ l. l ++ map keyword_of_block cs) g
    ∙ (append_assoc (map keyword_of_placed x) (map keyword_of_block bs) (map keyword_of_block cs)
    ∙ ap (λ l. map keyword_of_placed x ++ l) (sym (map-append keyword_of_block bs cs))))

follow_one : (before : List Placed) (b : TextBlock) (capable : Bool) (outer : List ℕ) → Follow (one_more before b.keyword capable outer) before (b ∷ [])
follow_one before b capable outer = map-append keyword_of_placed before _

mutual
  follows : (p : ℕ) (outer : List ℕ) (before : List Placed) (x : Statement) → Follow (through outer before x) before (blocks_in p x)
  follows p outer before (s.Block h body) =
      let start = one_more before h.at (may_scope h.opening) outer in
      let b : TextBlock = record { procedure = p; keyword = h.at; kind = block_kind_of h.opening } in
      follow_then before start (through_all (length before ∷ outer) start body) (b ∷ []) (blocks_within p body) (follow_one before b (may_scope h.opening) outer) (all_follow p (length before ∷ outer) start body)
  follows p outer before (s.Choose test x y) =
      follow_then before (through outer before x) (through_all outer (through outer before x) y) (blocks_in p x) (blocks_within p y) (follows p outer before x) (all_follow p outer (through outer before x) y)
  follows p outer before other = follow_none before

  all_follow : (p : ℕ) (outer : List ℕ) (before : List Placed) (xs : Statements) → Follow (through_all outer before xs) before (blocks_within p xs)
  all_follow p outer before s.Nothing = follow_none before
  all_follow p outer before (s.Then x xs) =
      follow_then before (through outer before x) (through_all outer (through outer before x) xs) (blocks_in p x) (blocks_within p xs) (follows p outer before x) (all_follow p outer (through outer before x) xs)

items_follow : (m : ℕ) (before : List Placed) (program : Program) → Follow (through_items before program) before (blocks_among m program)
items_follow m before [] = follow_none before
items_follow m before (s.Alone x ∷ rest) =
    follow_then before (through (0 ∷ []) before x) (through_items (through (0 ∷ []) before x) rest) (blocks_in 0 x) (blocks_among m rest) (follows 0 (0 ∷ []) before x) (items_follow m (through (0 ∷ []) before x) rest)
items_follow m before (s.Procedure keyword name body ∷ rest) =
    let start = one_more before keyword true [] in
    let b : TextBlock = record { procedure = m; keyword = keyword; kind = block_kind.Procedure } in
    let inside = through_all (length before ∷ []) start body in
    follow_then before inside (through_items inside rest) (procedure_blocks m keyword body) (blocks_among (m + 1) rest)
    (follow_then before start inside (b ∷ []) (blocks_within m body) (follow_one before b true []) (all_follow m (length before ∷ []) start body))
    (items_follow (m + 1) inside rest)

pub same_keywords : (program : Program) → map (λ (b : Placed). b.keyword) (blocks_of program) ≡ map (λ (b : TextBlock). b.keyword) (text_blocks program)
same_keywords program = items_follow 1 (one_more [] (record { line = 1; column = 1 }) true []) program

-- ---- the tree of a bound source

-- the bound tree is the judged one
bound_is_judged : (schema : SchemaData) (program : Program) (tree : Source) → bound schema program ≡ Ok tree → (judged schema program (namings schema program)).is ≡ tree
bound_is_judged schema program tree e = go (first (violations schema program)) e
  where
    go : (o : Option Violation) → or_first o (judged schema program (namings schema program)).is ≡ Ok tree → (judged schema program (namings schema program)).is ≡ tree
    go None e = cc
    go (Some v) e = absurd cc

bound_blocks : (schema : SchemaData) (program : Program) (plain : Source) → bound schema program ≡ Ok plain → (p : ℕ) (q : Procedure) → slice_get plain.procedures p ≡ Some q → AreItsBlocks program p q
bound_blocks schema program plain is p q at =
    judged_blocks schema program (namings schema program) p q (subst (λ (x : Source). slice_get x.procedures p ≡ Some q) (sym (bound_is_judged schema program plain is)) at)

-- an element of a list mapped by f and g is the image of the element at the same place
record IsMade {A B C : Type 0} (f : A → B) (g : B → C) (xs : List A) (n : ℕ) (y : C) : Type 0 where
  from : A
  at : slice_get xs n ≡ Some from
  is : g (f from) ≡ y

made_at : {A B C : Type 0} (f : A → B) (g : B → C) (xs : List A) (n : ℕ) (y : C) → slice_get (map g (map f xs)) n ≡ Some y → IsMade f g xs n y
made_at f g [] n y e = absurd cc
made_at f g (x ∷ xs) zero y e = record { from = x; at = refl; is = cc }
made_at f g (x ∷ xs) (suc n) y e = let it = made_at f g xs n y e in record { from = it.from; at = it.at; is = it.is }

make_at : {A B C : Type 0} (f : A → B) (g : B → C) (xs : List A) (n : ℕ) (x : A) → slice_get xs n ≡ Some x → slice_get (map g (map f xs)) n ≡ Some (g (f x))
make_at f g [] n x e = absurd cc
make_at f g (y ∷ xs) zero x e = let is : y ≡ x = cc in ap (λ z. Some (g (f z))) is
make_at f g (y ∷ xs) (suc n) x e = make_at f g xs n x e

-- the list has an element at place i whose image under f is y
record IsBeside {A B : Type 0} (f : A → B) (xs : List A) (i : ℕ) (y : B) : Type 0 where
  element : A
  at : slice_get xs i ≡ Some element
  is : f element ≡ y

beside : {A B C : Type 0} (f : A → B) (g : C → B) (xs : List A) (ys : List C) → map f xs ≡ map g ys → (i : ℕ) (y : C) → slice_get ys i ≡ Some y → IsBeside f xs i (g y)
beside f g [] [] same i y e = absurd cc
beside f g [] (y ∷ ys) same i z e = absurd cc
beside f g (x ∷ xs) [] same i z e = absurd cc
beside f g (x ∷ xs) (y ∷ ys) same zero z e = let is : y ≡ z = cc in record { element = x; at = refl; is = (let first : f x ≡ g y = cc in first ∙ ap g is) }
beside f g (x ∷ xs) (y ∷ ys) same (suc i) z e =
    let rest : map f xs ≡ map g ys = cc in
    let it = beside f g xs ys rest i z e in
    record { element = it.element; at = it.at; is = it.is }

module _ (schema : SchemaData) (program : Program) (plain : Source) (is : bound schema program ≡ Ok plain) where
  -- the headers of a procedure of the tree are its blocks
  pub its_blocks : (p : ℕ) (q : Procedure) → slice_get (with_flags (with_scopes program plain)).procedures p ≡ Some q → AreItsBlocks program p q
  its_blocks p q at =
      let it = made_at (scoped_procedure (blocks_of program)) flagged_procedure plain.procedures p q at in
      subst (AreItsBlocks program p) it.is (procedure_names (blocks_of program) it.from ∙ bound_blocks schema program plain is p it.from it.at)

  -- the header at a place is that of a block of the text
  block_of : (p i : ℕ) (h : Header) → IsHeaderAt (with_flags (with_scopes program plain)) p i h → IsBeside name_of_block (blocks_of_procedure program p) i (name_of_header h)
  block_of p i h it =
      beside name_of_block name_of_header (blocks_of_procedure program p) (headers_of it.procedure) (sym (its_blocks p it.procedure it.at_number)) i h it.at_place

  its_buffers : (p i : ℕ) (h : Header) (it : IsHeaderAt (with_flags (with_scopes program plain)) p i h) → h.scoped ≡ scoped_to (blocks_of program) it.procedure h.number
  its_buffers p i h it =
      let made = made_at (scoped_procedure (blocks_of program)) flagged_procedure plain.procedures p it.procedure it.at_number in
      scoped_at (scoped_to (blocks_of program) it.procedure) (headers_of it.procedure) i h
      (subst (λ (q : Procedure). AreScoped (scoped_to (blocks_of program) q) (headers_of q)) made.is (procedure_scoped (blocks_of program) made.from)) it.at_place

  -- only one header has a given number
  alone : (n : ℕ) (b : TextBlock) → slice_get (text_blocks program) n ≡ Some b → (place : ℕ) → slice_get (blocks_of_procedure program b.procedure) place ≡ Some (record { number = n; block = b }) →
      (p i : ℕ) (h : Header) → IsHeaderAt (with_flags (with_scopes program plain)) p i h → h.number ≡ n → (p ≡ b.procedure) × (i ≡ place)
  alone n b at place here p i h it same =
      let other = block_of p i h it in
      let c : NumberedBlock = other.element in
      let number : c.number ≡ n = ap (λ (x : BlockName). x.number) other.is ∙ same in
      let its = numbered_at p 0 (text_blocks program) i c other.at in
      let e = its.number in
      let place_of : its.place ≡ n = omega (arith, e, number) in
      let one : c.block ≡ b = (let f = sym its.at ∙ (ap (slice_get (text_blocks program)) place_of ∙ at) in some_is f) in
      let procedures : p ≡ b.procedure = sym its.procedure ∙ ap (λ (x : TextBlock). x.procedure) one in (
        procedures,
        one_place b.procedure 0 (text_blocks program) i place c (record { number = n; block = b })
            (subst (λ q. slice_get (blocks_of_procedure program q) i ≡ Some c) procedures other.at) here number,
      )
    where
      some_is : {x y : TextBlock} → Some x ≡ Some y → x ≡ y
      some_is e = cc

  pub has_one_header : (n : ℕ) (b : TextBlock) → slice_get (text_blocks program) n ≡ Some b → HasOneHeader program (with_flags (with_scopes program plain)) n b
  has_one_header n b at =
      let numbers : 0 + n ≡ n = omega arith in
      let here = subst (λ m. IsAmong b.procedure 0 (text_blocks program) m b) numbers (among 0 (text_blocks program) n b at) in
      let has = judged_has schema program (namings schema program) b (is_one b (text_blocks program) n at) in
      let in_plain : slice_get plain.procedures b.procedure ≡ Some has.procedure = subst (λ (x : Source). slice_get x.procedures b.procedure ≡ Some has.procedure) (bound_is_judged schema program plain is) has.at in
      let q = flagged_procedure (scoped_procedure (blocks_of program) has.procedure) in
      let in_tree : slice_get (with_flags (with_scopes program plain)).procedures b.procedure ≡ Some q = make_at (scoped_procedure (blocks_of program)) flagged_procedure plain.procedures b.procedure has.procedure in_plain in
      let it = beside name_of_header name_of_block (headers_of q) (blocks_of_procedure program b.procedure) (its_blocks b.procedure q in_tree) here.place (record { number = n; block = b }) here.at in
      let header_at : IsHeaderAt (with_flags (with_scopes program plain)) b.procedure here.place it.element = record { procedure = q; at_number = in_tree; at_place = it.at } in
      record {
        place = here.place;
        header = it.element;
        at = header_at;
        named = it.is;
        buffers = its_buffers b.procedure here.place it.element header_at ∙ ap (scoped_to (blocks_of program) q) (ap (λ (x : BlockName). x.number) it.is);
        alone = alone n b at here.place here.at;
      }

-- ---- the tree of a text

module _ (schema : SchemaData) (text : List ℕ) (tree : Source) (is : IsTreeOf schema text tree) (p : Program) (has : HasSyntax text p) where
  is_bound : bound schema p ≡ Ok is.plain
  is_bound = subst (λ x. bound schema x ≡ Ok is.plain) (one_syntax text is.has has) is.is_bound

  is_made : with_flags (with_scopes p is.plain) ≡ tree
  is_made = sym (is.flags ∙ ap (λ x. with_flags (with_scopes x is.plain)) (one_syntax text is.has has))

  pub blocks_in_tree : (n : ℕ) (q : Procedure) → slice_get tree.procedures n ≡ Some q → AreItsBlocks p n q
  blocks_in_tree n q at = its_blocks schema p is.plain is_bound n q (subst (λ (x : Source). slice_get x.procedures n ≡ Some q) (sym is_made) at)

  pub one_header_in_tree : (n : ℕ) (b : TextBlock) → slice_get (text_blocks p) n ≡ Some b → HasOneHeader p tree n b
  one_header_in_tree n b at = subst (λ x. HasOneHeader p x n b) is_made (has_one_header schema p is.plain is_bound n b at)
