-- The front of a stream.
use Rattle.std.specs.Prelude.{◌≡◌, ℕ, List, ◌++◌}
use Rattle.oram_wire.specs.FrameStream.{IsBody, IsBroken, IsUnfinished, frame}
use Rattle.oram_wire.specs.declared.frames.Front.{Front}
use Rattle.oram_wire.specs.declared.frames.Front.TheVariants as front

-- the bytes begin as this reading of them says
abbrev pub IsFront : List ℕ → Front → Type 0
IsFront bytes (front.Whole body after) = IsBody body.now × (bytes ≡ frame body.now ++ after.now)
IsFront bytes front.Unfinished = IsUnfinished bytes
IsFront bytes front.Broken = IsBroken bytes
