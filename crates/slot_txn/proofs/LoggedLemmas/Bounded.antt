-- The areas of the log stay within their bound.
use Rattle.std.proofs.Common.{◌≡◌, ℕ, ◌+◌, ◌≤◌, length, drop, arith}
use Rattle.std.proofs.lemmas.List.{length-take}
use Rattle.storage.specs.Disk.{Others}
use Rattle.log_meaning.specs.steps.Steps.{Image, Run}
use Rattle.bi_log.specs.declared.note_buffer.NoteBuffer.{NoteBuffer}
use Rattle.bi_log.specs.Buffer.{content}
use Rattle.bi_log.specs.Lengths.{WithinLog, StayShort}
use Rattle.bi_log.proofs.Lengths.{run_same, run_others, run_more, short_run}

few_bytes : (buffer : NoteBuffer) → length (content buffer) ≤ 1048576
few_bytes buffer = let within = buffer.within in omega (arith, within, length-take buffer.used (drop 4 buffer.bytes.items))

module _ (since was now : ℕ) (before after : ℕ → Image → Type 0) (past : since ≤ was) (old : StayShort before since) where
  pub short_same : Run was now before after (λ old new. new ≡ old) → StayShort after since
  short_same run = short_run since was now before after (run_same was now before after 167772160 run) past old

  pub short_others : Run was now before after (Others 0) → StayShort after since
  short_others run = short_run since was now before after (run_others was now before after 167772160 run) past old

  pub short_turn : Run was now before after (WithinLog 167772160) → StayShort after since
  short_turn run = short_run since was now before after run past old

  -- a batch after a gate that leaves room for it
  pub short_flush : (place gate : ℕ) (buffer : NoteBuffer) → gate ≡ place → place + 1048582 ≤ 167772160 → Run was now before after (WithinLog (gate + 6 + length (content buffer))) → StayShort after since
  short_flush place gate buffer at room run = short_run since was now before after (run_more was now before after 167772160 (gate + 6 + length (content buffer)) (let few = few_bytes buffer in omega (arith, at, room, few)) run) past old
