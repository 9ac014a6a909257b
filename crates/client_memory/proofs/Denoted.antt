-- Buffers of the code that are changed, and what they denote.
use Rattle.std.proofs.Common.{◌≡◌, ℕ, ◌+◌, ◌<◌, List, [], ◌∷◌, ◌++◌, length, sym, ap, ◌∙◌, take, drop, map, arith, slice_index_or, slice_set}
use Rattle.std.proofs.lemmas.List.{map-append, map-set, length-map, get_or-map}
use Rattle.std.proofs.lemmas.List.Edits.{map_over_more}
use Rattle.block_meaning.specs.State.{Buffer}
use Rattle.block_meaning.specs.Frames.{no_buffer, content_restored, contents_restored}
use Rattle.block_meaning.specs.Buffers.{as_share, buffer_shared}
use Rattle.client_memory.specs.declared.buffer.Buffer.{Buffer as BufferRs}
use Rattle.client_memory.specs.declared.buffer.Content.{Content as ContentRs}
use Rattle.client_memory.specs.Buffers.{denoted_buffer, denoted_content, changed_at, with_content}
use Rattle.client_memory.proofs.BufferLists.{restored_last}

subst_lt : (i m n : ℕ) → m ≡ n → i < m → i < n
subst_lt i m n e lt = omega (arith, e, lt)

pub denoted_at : (bs : List BufferRs) (n : ℕ) (b : BufferRs) → b ≡ slice_index_or bs n b → n < length bs → slice_index_or (map denoted_buffer bs) n no_buffer ≡ denoted_buffer b
denoted_at bs n b is lt = get_or-map denoted_buffer bs n b no_buffer lt ∙ ap denoted_buffer (sym is)

pub changed_denoted : (bs : List BufferRs) (n : ℕ) (b b' : BufferRs) (change : Buffer → Buffer) → b ≡ slice_index_or bs n b → n < length bs → denoted_buffer b' ≡ change (denoted_buffer b) → map denoted_buffer (slice_set bs n b') ≡ changed_at n change (map denoted_buffer bs)
changed_denoted bs n b b' change is lt e =
    map-set denoted_buffer bs n b' ∙ ap (slice_set (map denoted_buffer bs) n) (e ∙ ap change (sym (denoted_at bs n b is lt)))

-- another content takes its place
pub content_moved : (b : BufferRs) (c d : ContentRs) → c ≡ d → denoted_buffer (record { table = b.table; content = c; spot = b.spot; locked = b.locked }) ≡ with_content (denoted_content d) (denoted_buffer b)
content_moved b c d e = ap (λ x. with_content (denoted_content x) (denoted_buffer b)) e

-- one step of a loop that shares locks
pub share_more : (init items : List BufferRs) (i : ℕ) (b : BufferRs) (c : ContentRs) → i < length init → i < length items → map denoted_buffer items ≡ map buffer_shared (take i (map denoted_buffer init)) ++ drop i (map denoted_buffer init) → denoted_content c ≡ as_share (denoted_content (slice_index_or items i b).content) →
    map denoted_buffer (slice_set items i (record { table = (slice_index_or items i b).table; content = c; spot = (slice_index_or items i b).spot; locked = (slice_index_or items i b).locked })) ≡ map buffer_shared (take (i + 1) (map denoted_buffer init)) ++ drop (i + 1) (map denoted_buffer init)
share_more init items i b c lt lt' inv e =
    let b0 = slice_index_or items i b in
    let b1 : BufferRs = record { table = b0.table; content = c; spot = b0.spot; locked = b0.locked } in
    let x = denoted_buffer b0 in
    map-set denoted_buffer items i b1
    ∙ ap (λ k. slice_set (map denoted_buffer items) i (with_content k x)) e
    ∙ map_over_more buffer_shared (map denoted_buffer init) (map denoted_buffer items) i x (let l = length-map init denoted_buffer in subst_lt i (length init) (length (map denoted_buffer init)) (sym l) lt) inv (sym (get_or-map denoted_buffer items i b x lt'))

-- one step of a loop that restores
pub restore_more : (cs' cs : List ContentRs) (c : ContentRs) (bs bs' end : List Buffer) (n : ℕ) → cs' ≡ cs ++ c ∷ [] → n ≡ length cs → bs' ≡ changed_at n (content_restored (denoted_content c)) bs → contents_restored (map denoted_content cs') bs ≡ end → contents_restored (map denoted_content cs) bs' ≡ end
restore_more cs' cs c bs bs' end n is len new e =
    ap (contents_restored (map denoted_content cs)) (new ∙ ap (λ k. changed_at k (content_restored (denoted_content c)) bs) (len ∙ sym (length-map cs denoted_content)))
    ∙ sym (restored_last (map denoted_content cs) (denoted_content c) bs)
    ∙ ap (λ xs. contents_restored xs bs) (sym (map-append denoted_content cs (c ∷ [])) ∙ ap (map denoted_content) (sym is))
    ∙ e
