-- The headers of a tree with scopes and flags are what the definitions say of its blocks.
use Rattle.std.proofs.Common.{◌≡◌, inl, inr, ◌||◌, ℕ, zero, suc, List, [], ◌∷◌, Some, refl, sym, ap, ◌∙◌, subst, map}
use Rattle.std.specs.Prelude.{slice_get}
use Rattle.abl_values.specs.Schema.{SchemaData}
use Rattle.syntax_tree.specs.Syntax.{Program as Syntax}
use Rattle.bound_tree.specs.Tree.{Header, Stmt, Body, Procedure, Source}
use Rattle.bound_tree.specs.Tree as t
use Rattle.buffer_scope.specs.Blocks.{Placed, blocks_of}
use Rattle.buffer_scope.specs.Scoped.{scoped, scoped_body, scoped_procedure, scoped_stmt, scoped_to, with_scopes}
use Rattle.txn_infer.specs.Flags.{flagged, flagged_body, flagged_procedure, flagged_stmt, flags_where, with_flags}
use Rattle.txn_infer.specs.Retry.{asks_retry, block_names_retry, names_retry, names_retry_in}
use Rattle.txn_infer.specs.Updates.{block_updates, updates, updates_in}
use Rattle.source_reader.specs.Headers.{IsInStmt, IsInBody, IsBlockOf, HasItsFlags, HasItsBuffers}
use Rattle.source_reader.specs.Sources.{HasSyntax, IsTreeOf}
use Rattle.source_reader.proofs.Violations.{one_syntax}

-- ---- flags do not change what a block does

mutual
  updates_same : (s : Stmt) → updates (flagged_stmt s) ≡ updates s
  updates_same (t.Inner h body) = ap (block_updates h) (updates_in_same body)
  updates_same (t.Choose test x y) = ap (λ b. b || updates_in (flagged_body y)) (updates_in_same x) ∙ ap (λ b. updates_in x || b) (updates_in_same y)
  updates_same (t.Assign pairs quiet) = refl
  updates_same (t.Find word reading wait quiet) = refl
  updates_same (t.FindCurrent reading wait quiet) = refl
  updates_same (t.Create buffer quiet) = refl
  updates_same (t.Remove buffer quiet) = refl
  updates_same (t.Release buffer quiet) = refl
  updates_same (t.UndoBlock block action) = refl
  updates_same (t.LeaveBlock block) = refl
  updates_same (t.NextBlock block) = refl
  updates_same (t.Return value) = refl
  updates_same (t.ReturnError block value) = refl
  updates_same t.Stop = refl
  updates_same (t.Run procedure arguments quiet) = refl
  updates_same (t.Import stream targets quiet) = refl
  updates_same (t.Export stream values) = refl
  updates_same (t.ExportRecord stream buffer) = refl
  updates_same (t.PutItems stream items) = refl
  updates_same (t.Message values) = refl
  updates_same (t.OutputTo stream output append) = refl
  updates_same (t.OutputClose stream) = refl
  updates_same (t.InputFrom stream input) = refl
  updates_same (t.InputClose stream) = refl

  updates_in_same : (b : Body) → updates_in (flagged_body b) ≡ updates_in b
  updates_in_same t.Nothing = refl
  updates_in_same (t.Then s ss) = ap (λ b. b || updates_in (flagged_body ss)) (updates_same s) ∙ ap (λ b. updates s || b) (updates_in_same ss)

mutual
  retries_same : (s : Stmt) → names_retry (flagged_stmt s) ≡ names_retry s
  retries_same (t.Inner h body) = ap (block_names_retry h) (retries_in_same body)
  retries_same (t.Choose test x y) =
      ap (λ b. asks_retry test || b) (ap (λ b. b || names_retry_in (flagged_body y)) (retries_in_same x) ∙ ap (λ b. names_retry_in x || b) (retries_in_same y))
  retries_same (t.Assign pairs quiet) = refl
  retries_same (t.Find word reading wait quiet) = refl
  retries_same (t.FindCurrent reading wait quiet) = refl
  retries_same (t.Create buffer quiet) = refl
  retries_same (t.Remove buffer quiet) = refl
  retries_same (t.Release buffer quiet) = refl
  retries_same (t.UndoBlock block action) = refl
  retries_same (t.LeaveBlock block) = refl
  retries_same (t.NextBlock block) = refl
  retries_same (t.Return value) = refl
  retries_same (t.ReturnError block value) = refl
  retries_same t.Stop = refl
  retries_same (t.Run procedure arguments quiet) = refl
  retries_same (t.Import stream targets quiet) = refl
  retries_same (t.Export stream values) = refl
  retries_same (t.ExportRecord stream buffer) = refl
  retries_same (t.PutItems stream items) = refl
  retries_same (t.Message values) = refl
  retries_same (t.OutputTo stream output append) = refl
  retries_same (t.OutputClose stream) = refl
  retries_same (t.InputFrom stream input) = refl
  retries_same (t.InputClose stream) = refl

  retries_in_same : (b : Body) → names_retry_in (flagged_body b) ≡ names_retry_in b
  retries_in_same t.Nothing = refl
  retries_in_same (t.Then s ss) = ap (λ b. b || names_retry_in (flagged_body ss)) (retries_same s) ∙ ap (λ b. names_retry s || b) (retries_in_same ss)

-- the flags of a flagged block
own_flags : (h k : Header) (body inside : Body) → h ≡ flagged k inside → body ≡ flagged_body inside → HasItsFlags h body
own_flags h k body inside is are =
    subst (λ x. HasItsFlags x body) (sym is) (subst (λ b. HasItsFlags (flagged k inside) b) (sym are)
    (sym (ap (λ u. flags_where k u (names_retry_in (flagged_body inside))) (updates_in_same inside) ∙ ap (flags_where k (updates_in inside)) (retries_in_same inside))))

mutual
  stmt_flags : (h : Header) (body : Body) (s : Stmt) → IsInStmt h body (flagged_stmt s) → HasItsFlags h body
  stmt_flags h body (t.Inner k inside) (inl is) = own_flags h k body inside is.0 is.1
  stmt_flags h body (t.Inner k inside) (inr is) = body_flags h body inside is
  stmt_flags h body (t.Choose test x y) (inl is) = body_flags h body x is
  stmt_flags h body (t.Choose test x y) (inr is) = body_flags h body y is
  stmt_flags h body (t.Assign pairs quiet) is = absurd is
  stmt_flags h body (t.Find word reading wait quiet) is = absurd is
  stmt_flags h body (t.FindCurrent reading wait quiet) is = absurd is
  stmt_flags h body (t.Create buffer quiet) is = absurd is
  stmt_flags h body (t.Remove buffer quiet) is = absurd is
  stmt_flags h body (t.Release buffer quiet) is = absurd is
  stmt_flags h body (t.UndoBlock block action) is = absurd is
  stmt_flags h body (t.LeaveBlock block) is = absurd is
  stmt_flags h body (t.NextBlock block) is = absurd is
  stmt_flags h body (t.Return value) is = absurd is
  stmt_flags h body (t.ReturnError block value) is = absurd is
  stmt_flags h body t.Stop is = absurd is
  stmt_flags h body (t.Run procedure arguments quiet) is = absurd is
  stmt_flags h body (t.Import stream targets quiet) is = absurd is
  stmt_flags h body (t.Export stream values) is = absurd is
  stmt_flags h body (t.ExportRecord stream buffer) is = absurd is
  stmt_flags h body (t.PutItems stream items) is = absurd is
  stmt_flags h body (t.Message values) is = absurd is
  stmt_flags h body (t.OutputTo stream output append) is = absurd is
  stmt_flags h body (t.OutputClose stream) is = absurd is
  stmt_flags h body (t.InputFrom stream input) is = absurd is
  stmt_flags h body (t.InputClose stream) is = absurd is

  body_flags : (h : Header) (body b : Body) → IsInBody h body (flagged_body b) → HasItsFlags h body
  body_flags h body t.Nothing is = absurd is
  body_flags h body (t.Then s ss) (inl is) = stmt_flags h body s is
  body_flags h body (t.Then s ss) (inr is) = body_flags h body ss is

pub procedure_flags : (h : Header) (body : Body) (q : Procedure) → IsBlockOf h body (flagged_procedure q) → HasItsFlags h body
procedure_flags h body q (inl is) = own_flags h q.header body q.body is.0 is.1
procedure_flags h body q (inr is) = body_flags h body q.body is

-- ---- flags do not change scopes

-- the buffers of a scoped header that got its flags
own_buffers : (to : ℕ → List ℕ) (h k : Header) (inside : Body) → h ≡ flagged (scoped to k) inside → h.scoped ≡ to h.number
own_buffers to h k inside is = subst (λ (x : Header). x.scoped ≡ to x.number) (sym is) refl

mutual
  stmt_buffers : (to : ℕ → List ℕ) (h : Header) (body : Body) (s : Stmt) → IsInStmt h body (flagged_stmt (scoped_stmt to s)) → h.scoped ≡ to h.number
  stmt_buffers to h body (t.Inner k inside) (inl is) = own_buffers to h k (scoped_body to inside) is.0
  stmt_buffers to h body (t.Inner k inside) (inr is) = body_buffers to h body inside is
  stmt_buffers to h body (t.Choose test x y) (inl is) = body_buffers to h body x is
  stmt_buffers to h body (t.Choose test x y) (inr is) = body_buffers to h body y is
  stmt_buffers to h body (t.Assign pairs quiet) is = absurd is
  stmt_buffers to h body (t.Find word reading wait quiet) is = absurd is
  stmt_buffers to h body (t.FindCurrent reading wait quiet) is = absurd is
  stmt_buffers to h body (t.Create buffer quiet) is = absurd is
  stmt_buffers to h body (t.Remove buffer quiet) is = absurd is
  stmt_buffers to h body (t.Release buffer quiet) is = absurd is
  stmt_buffers to h body (t.UndoBlock block action) is = absurd is
  stmt_buffers to h body (t.LeaveBlock block) is = absurd is
  stmt_buffers to h body (t.NextBlock block) is = absurd is
  stmt_buffers to h body (t.Return value) is = absurd is
  stmt_buffers to h body (t.ReturnError block value) is = absurd is
  stmt_buffers to h body t.Stop is = absurd is
  stmt_buffers to h body (t.Run procedure arguments quiet) is = absurd is
  stmt_buffers to h body (t.Import stream targets quiet) is = absurd is
  stmt_buffers to h body (t.Export stream values) is = absurd is
  stmt_buffers to h body (t.ExportRecord stream buffer) is = absurd is
  stmt_buffers to h body (t.PutItems stream items) is = absurd is
  stmt_buffers to h body (t.Message values) is = absurd is
  stmt_buffers to h body (t.OutputTo stream output append) is = absurd is
  stmt_buffers to h body (t.OutputClose stream) is = absurd is
  stmt_buffers to h body (t.InputFrom stream input) is = absurd is
  stmt_buffers to h body (t.InputClose stream) is = absurd is

  body_buffers : (to : ℕ → List ℕ) (h : Header) (body b : Body) → IsInBody h body (flagged_body (scoped_body to b)) → h.scoped ≡ to h.number
  body_buffers to h body t.Nothing is = absurd is
  body_buffers to h body (t.Then s ss) (inl is) = stmt_buffers to h body s is
  body_buffers to h body (t.Then s ss) (inr is) = body_buffers to h body ss is

pub procedure_buffers : (blocks : List Placed) (h : Header) (body : Body) (q : Procedure) → IsBlockOf h body (flagged_procedure (scoped_procedure blocks q)) → h.scoped ≡ scoped_to blocks (flagged_procedure (scoped_procedure blocks q)) h.number
procedure_buffers blocks h body q (inl is) = own_buffers (scoped_to blocks q) h q.header (scoped_body (scoped_to blocks q) q.body) is.0
procedure_buffers blocks h body q (inr is) = body_buffers (scoped_to blocks q) h body q.body is

-- ---- a procedure of a source

-- what holds of each g (f x) holds of each element of such a list
of_mapped : {A B C : Type 0} (f : A → B) (g : B → C) (P : C → Type 0) → ((x : A) → P (g (f x))) → (xs : List A) (n : ℕ) (y : C) → slice_get (map g (map f xs)) n ≡ Some y → P y
of_mapped f g P each [] n y e = absurd (cc e)
of_mapped f g P each (x ∷ xs) zero y e = let is : g (f x) ≡ y = cc e in subst P is (each x)
of_mapped f g P each (x ∷ xs) (suc n) y e = of_mapped f g P each xs n y e

module _ (schema : SchemaData) (text : List ℕ) (tree : Source) (is : IsTreeOf schema text tree) (n : ℕ) (q : Procedure) (at : slice_get tree.procedures n ≡ Some q) (h : Header) (body : Body) (block : IsBlockOf h body q) where
  at_its_place : slice_get (with_flags (with_scopes is.syntax_of is.plain)).procedures n ≡ Some q
  at_its_place = subst (λ (s : Source). slice_get s.procedures n ≡ Some q) is.flags at

  pub flags_as_defined : HasItsFlags h body
  flags_as_defined =
      of_mapped (scoped_procedure (blocks_of is.syntax_of)) flagged_procedure (λ x. IsBlockOf h body x → HasItsFlags h body)
      (λ x. procedure_flags h body (scoped_procedure (blocks_of is.syntax_of) x)) is.plain.procedures n q at_its_place block

  its_buffers : HasItsBuffers is.syntax_of q h
  its_buffers =
      of_mapped (scoped_procedure (blocks_of is.syntax_of)) flagged_procedure (λ x. IsBlockOf h body x → HasItsBuffers is.syntax_of x h)
      (λ x. procedure_buffers (blocks_of is.syntax_of) h body x) is.plain.procedures n q at_its_place block

  pub buffers_as_defined : (p : Syntax) → HasSyntax text p → HasItsBuffers p q h
  buffers_as_defined p has = subst (λ x. HasItsBuffers x q h) (one_syntax text is.has has) its_buffers
