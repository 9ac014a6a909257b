-- Rules S, as violations with their places. S1: a weak block in a weak one. S2: a strong block in the free scope. S3: a strong block in a strong or
-- weak one, or a weak one in a strong one. S4: a buffer twice in the list of one DO FOR or REPEAT FOR.
use Rattle.std.specs.Prelude.{ℕ, Bool, ◌+◌, ◌&&◌, if◌then◌else◌, List, [], ◌∷◌, ◌++◌, slice_get}
use Rattle.std.specs.List.{list_any}
use Rattle.abl_base.specs.declared.place.Place.{Place}
use Rattle.abl_base.specs.declared.rule.Rule.{Rule}
use Rattle.abl_base.specs.declared.rule.Rule.TheVariants.{S1, S2, S3, S4}
use Rattle.bind_names.specs.declared.violation.Violation.{Violation}
use Rattle.bind_names.specs.Judged.{at}
use Rattle.bound_tree.specs.declared.procedure.BufferDef.{BufferDef}
use Rattle.bound_tree.specs.declared.procedure.Reference.{Reference}
use Rattle.bound_tree.specs.declared.procedure.ReferenceKind.{ReferenceKind}
use Rattle.bound_tree.specs.declared.procedure.ReferenceKind.TheVariants.{Strong, Weak, Free}
use Rattle.bound_tree.specs.Tree.{Procedure}
use Rattle.buffer_scope.specs.Blocks.{Placed, holding, keyword_of}
use Rattle.buffer_scope.specs.Scopes.{Scopes, in_header, is_own, is_strong, references_to, scopes_of, takes_in}

-- the rule is broken there, where this holds
abbrev pub where_true : Bool → Rule → Place → List Violation
where_true holds rule place = if holds then at rule place else []

-- the blocks around a block, without itself
abbrev pub beyond : List ℕ → List ℕ
beyond [] = []
beyond (n ∷ ns) = ns

-- the block is inside one of this set
abbrev pub lies_in : List Placed → (ℕ → Bool) → ℕ → Bool
lies_in blocks set n = list_any set (beyond (holding blocks n))

-- the first keyword of the block whose header the reference is in
abbrev pub keyword : List Placed → Reference → Place
keyword blocks r = keyword_of r.place (slice_get blocks r.block)

-- the block of a strong reference
abbrev pub strong_breaks : List Placed → Scopes → Reference → List Violation
strong_breaks blocks s r = where_true (takes_in blocks s.free r.block) S2 (keyword blocks r) ++ where_true (lies_in blocks (is_own s.own) r.block) S3 (keyword blocks r)

-- the block of a weak reference
abbrev pub weak_breaks : List Placed → Scopes → Reference → List Violation
weak_breaks blocks s r = where_true (lies_in blocks s.own.weak r.block) S1 (keyword blocks r) ++ where_true (lies_in blocks s.own.strong r.block) S3 (keyword blocks r)

abbrev pub kind_breaks : List Placed → Scopes → Reference → ReferenceKind → List Violation
kind_breaks blocks s r Strong = strong_breaks blocks s r
kind_breaks blocks s r Weak = weak_breaks blocks s r
kind_breaks blocks s r Free = []

-- S1 to S3
abbrev pub nestings_break : List Placed → Scopes → List Reference → List Violation
nestings_break blocks s [] = []
nestings_break blocks s (r ∷ rs) = kind_breaks blocks s r r.kind ++ nestings_break blocks s rs

-- S4, at the second name. `before` has the references before these
abbrev pub repeats : List Reference → List Reference → List Violation
repeats before [] = []
repeats before (r ∷ rs) = where_true (is_strong r.kind && in_header is_strong before r.block) S4 r.place ++ repeats (r ∷ before) rs

-- ALL VIOLATIONS of one buffer, with these references
abbrev pub buffer_breaks : List Placed → List Reference → List Violation
buffer_breaks blocks references = nestings_break blocks (scopes_of blocks references) references ++ repeats [] references

-- of the buffers from number n on
abbrev pub buffers_break : List Placed → List Reference → ℕ → List BufferDef → List Violation
buffers_break blocks references n [] = []
buffers_break blocks references n (b ∷ bs) = buffer_breaks blocks (references_to n references) ++ buffers_break blocks references (n + 1) bs

abbrev pub procedure_breaks : List Placed → Procedure → List Violation
procedure_breaks blocks q = buffers_break blocks q.references 0 q.buffers

-- ALL VIOLATIONS of rules S by the procedures of a source
abbrev pub procedures_break : List Placed → List Procedure → List Violation
procedures_break blocks [] = []
procedures_break blocks (q ∷ qs) = procedure_breaks blocks q ++ procedures_break blocks qs
