-- The slots that the frames hold.
use Rattle.std.specs.Prelude.{ℕ, Option}
use Rattle.slot_area.specs.declared.frame.Frame.{Frame}
use Rattle.slot_area.specs.declared.frames.Frames.{Frames}
use Rattle.slot_area.specs.Frames.{frame_of}

-- the frame of the slot
abbrev pub frame_in : Frames → ℕ → Option Frame
frame_in frames slot = frame_of frames.frames.items frames.places.items slot
