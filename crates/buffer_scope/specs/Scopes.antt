-- The blocks to which one buffer of a procedure is scoped. A set of blocks is a test on their numbers. `blocks` are those of the source, and the
-- references are those to the buffer.
use Rattle.std.specs.Prelude.{ℕ, Bool, true, false, not, ◌&&◌, ◌||◌, ◌==◌, List, [], ◌∷◌, Option, Some, None, slice_get}
use Rattle.std.specs.List.{filter, find, list_all, list_any}
use Rattle.bound_tree.specs.declared.procedure.Reference.{Reference}
use Rattle.bound_tree.specs.declared.procedure.ReferenceKind.{ReferenceKind}
use Rattle.bound_tree.specs.declared.procedure.ReferenceKind.TheVariants.{Strong, Weak, Free}
use Rattle.buffer_scope.specs.Blocks.{Placed, holding, may_scope_of}

abbrev pub is_strong : ReferenceKind → Bool
is_strong Strong = true
is_strong k = false

abbrev pub is_weak : ReferenceKind → Bool
is_weak Weak = true
is_weak k = false

abbrev pub is_free : ReferenceKind → Bool
is_free Free = true
is_free k = false

-- THE REFERENCES to a buffer, among those of its procedure
abbrev pub references_to : ℕ → List Reference → List Reference
references_to buffer = filter (λ (r : Reference). r.buffer == buffer)

abbrev pub is_in : ℕ → List ℕ → Bool
is_in n = list_any (λ m. m == n)

-- ---- the strong and the weak blocks

-- the set of blocks whose headers have a reference of this kind
abbrev pub in_header : (ReferenceKind → Bool) → List Reference → ℕ → Bool
in_header is_it references n = list_any (λ (r : Reference). is_it r.kind && (r.block == n)) references

-- the sets of strong and weak blocks
pub record Own : Type 0 where
  pub strong : ℕ → Bool
  pub weak : ℕ → Bool

unfoldable pub own_blocks : List Reference → Own
own_blocks references = record { strong = in_header is_strong references; weak = in_header is_weak references }

abbrev pub is_own : Own → ℕ → Bool
is_own own n = own.strong n || own.weak n

-- ---- the free scope

-- a free reference that no strong or weak block holds
abbrev pub is_outside : List Placed → Own → Reference → Bool
is_outside blocks own r = is_free r.kind && not (list_any (is_own own) (holding blocks r.block))

abbrev pub outside : List Placed → Own → List Reference → List Reference
outside blocks own = filter (is_outside blocks own)

-- the block holds all of these
abbrev pub holds_all : List Placed → List Reference → ℕ → Bool
holds_all blocks references n = list_all (λ (r : Reference). is_in n (holding blocks r.block)) references

-- it may be the free scope of these
abbrev pub takes_all : List Placed → List Reference → ℕ → Bool
takes_all blocks references n = may_scope_of (slice_get blocks n) && holds_all blocks references n

-- the innermost block that may be a free scope and holds all of these
abbrev pub innermost : List Placed → List Reference → Option ℕ
innermost blocks [] = None
innermost blocks (r ∷ rs) = find (takes_all blocks rs) (holding blocks r.block)

-- THE FREE SCOPE
abbrev pub free_scope : List Placed → Own → List Reference → Option ℕ
free_scope blocks own references = innermost blocks (outside blocks own references)

-- ---- the scopes

-- the block is in the free scope, which takes it in
abbrev pub takes_in : List Placed → Option ℕ → ℕ → Bool
takes_in blocks None n = false
takes_in blocks (Some scope) n = is_in scope (holding blocks n)

abbrev pub is_the : Option ℕ → ℕ → Bool
is_the None n = false
is_the (Some m) n = m == n

-- what the scopes of a buffer are found from: its strong and weak blocks, and its free scope
pub record Scopes : Type 0 where
  pub own : Own
  pub free : Option ℕ

abbrev pub scopes_of : List Placed → List Reference → Scopes
scopes_of blocks references = record { own = own_blocks references; free = free_scope blocks (own_blocks references) references }

-- THE BLOCK IS A SCOPE of the buffer: a strong block, a weak one outside the free scope, or the free scope
abbrev pub is_scope : List Placed → Scopes → ℕ → Bool
is_scope blocks s n = s.own.strong n || ((s.own.weak n && not (takes_in blocks s.free n)) || is_the s.free n)
