-- The buffers of a client: what the values of the code denote, and the buffers of the open procedures as lists.
use Rattle.std.specs.Prelude.{◌≡◌, ℕ, List, [], ◌∷◌, ◌++◌, Bool, true, false, Option, Some, None, length, map, reverse, slice_index_or, slice_set, cond, ◌+◌}
use Rattle.abl_base.specs.declared.row.RowId.{RowId}
use Rattle.block_meaning.specs.State.{Held, NoLock, Share, Exclusive, Content, Empty, Record, Pending, Spot, Buffer}
use Rattle.block_meaning.specs.Frames.{no_buffer, pending_of}
use Rattle.block_meaning.specs.Buffers.{Place, places_from, rows_from, all_rows, buffer_shared}
use Rattle.client_memory.specs.declared.buffer.Held.{Held as HeldRs}
use Rattle.client_memory.specs.declared.buffer.Held.TheVariants as held
use Rattle.client_memory.specs.declared.buffer.Content.{Content as ContentRs}
use Rattle.client_memory.specs.declared.buffer.Content.TheVariants as content
use Rattle.client_memory.specs.declared.buffer.Spot.{Spot as SpotRs}
use Rattle.client_memory.specs.declared.buffer.Buffer.{Buffer as BufferRs}
use Rattle.client_memory.specs.declared.buffer.Place.{Place as PlaceRs}

-- ---- what the values of the code denote

abbrev pub denoted_held : HeldRs → Held
denoted_held held.NoLock = NoLock
denoted_held held.Share = Share
denoted_held held.Exclusive = Exclusive

abbrev pub denoted_content : ContentRs → Content
denoted_content content.Empty = Empty
denoted_content (content.Record row values held made) = Record row values (denoted_held held) made
denoted_content (content.Pending values since made) = Pending values since made

abbrev pub denoted_spot : SpotRs → Spot
denoted_spot s = record { index = s.index; cursor = s.cursor }

abbrev pub denoted_spot_if : Option SpotRs → Option Spot
denoted_spot_if None = None
denoted_spot_if (Some s) = Some (denoted_spot s)

abbrev pub denoted_buffer : BufferRs → Buffer
denoted_buffer b = record { table = b.table; content = denoted_content b.content; spot = denoted_spot_if b.spot; locked = b.locked }

abbrev pub denoted_place : PlaceRs → Place
denoted_place at = record { out = at.out; number = at.number }

-- ---- the buffers of one procedure

-- the lock after the end of the transaction
abbrev pub held_shared : Held → Held
held_shared NoLock = NoLock
held_shared Share = Share
held_shared Exclusive = Share

-- the content is a record that is not inserted yet
abbrev pub is_pending : Content → Bool
is_pending Empty = false
is_pending (Record row values held made) = false
is_pending (Pending values since made) = true

-- the number of pending records
abbrev pub pending_count : List Buffer → ℕ
pending_count [] = 0
pending_count (b ∷ bs) = cond (is_pending b.content) 1 0 + pending_count bs

-- what a copy has of the buffers: pending records, else Empty
abbrev pub saved_contents : List Buffer → List Content
saved_contents bs = map (λ b. pending_of b.content) bs

-- the buffer with another content, LOCKED or place in an index
abbrev pub with_content : Content → Buffer → Buffer
with_content c b = record b { content = c }

abbrev pub with_locked : Bool → Buffer → Buffer
with_locked is b = record b { locked = is }

abbrev pub with_spot : Option Spot → Buffer → Buffer
with_spot spot b = record b { spot = spot }

-- buffer n changed so
abbrev pub changed_at : ℕ → (Buffer → Buffer) → List Buffer → List Buffer
changed_at n change bs = slice_set bs n (change (slice_index_or bs n no_buffer))

-- ---- the buffers of the open procedures, the outermost procedure first

-- those of the k-th procedure, counted outward from the running one
abbrev pub buffers_out : ℕ → List (List Buffer) → List Buffer
buffers_out k bss = slice_index_or (reverse bss) k []

-- the buffer at a place
abbrev pub buffer_at : Place → List (List Buffer) → Buffer
buffer_at at bss = slice_index_or (buffers_out at.out bss) at.number no_buffer

-- the buffer at a place changed so
abbrev pub changed_in : Place → (Buffer → Buffer) → List (List Buffer) → List (List Buffer)
changed_in at change bss = reverse (slice_set (reverse bss) at.out (changed_at at.number change (buffers_out at.out bss)))

-- the places of all of them, in this order
abbrev pub places_in : List (List Buffer) → List Place
places_in [] = []
places_in (bs ∷ bss) = places_from (length bss) 0 bs ++ places_in bss

-- the rows that they hold with a lock, in order; `but` names buffers of the running procedure that do not count. The list has
-- the running procedure first
abbrev pub rows_inward : List ℕ → List (List Buffer) → List RowId
rows_inward but [] = []
rows_inward but (bs ∷ bss) = all_rows (rows_from 0 but bs) (rows_inward [] bss)

abbrev pub rows_kept : List ℕ → List (List Buffer) → List RowId
rows_kept but bss = rows_inward but (reverse bss)

-- exclusive locks become share locks where the transaction ends
abbrev pub shared_if : Bool → List (List Buffer) → List (List Buffer)
shared_if true bss = map (map buffer_shared) bss
shared_if false bss = bss

-- no procedure has a buffer
abbrev pub HasNoBuffers : List (List Buffer) → Type 0
HasNoBuffers [] = Unit {0}
HasNoBuffers (bs ∷ bss) = (bs ≡ []) × HasNoBuffers bss
