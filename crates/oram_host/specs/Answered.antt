-- Frames in, frames out: each body that is read gets an answer that is written.
use Rattle.std.specs.Prelude.{ℕ, List, ◌++◌, Option, All}
use Rattle.std.specs.List.{flat_map, FoldsTo}
use Rattle.std.specs.Io.KnownBytes.{Appends, Consumes}
use Rattle.oram_wire.specs.FrameStream.{IsBody, frame}

-- the frames of the bodies, one after the other
abbrev pub frames_of : {X : Type 0} → (X → List ℕ) → List X → List ℕ
frames_of body xs = flat_map (λ x. frame (body x)) xs

-- The state of what answers frames, and the bytes of its reader and of its writer, if they are known.
pub record Answering (P : Type 0) : Type 0 where
  pub state : P
  pub unread : Option (List ℕ)  -- what the reader will give
  pub written : Option (List ℕ)  -- what was written by now

-- Some things, such as the requests of a connection, that were answered one after the other.
pub record AnsweredRun (P X : Type 0) : Type 0 where
  pub before : Answering P
  pub things : List X
  pub part : List ℕ  -- what was read after the frames of their requests
  pub more : List ℕ  -- what was written after the frames of their answers
  pub after : Answering P

-- for things that lead from one state to another, each with a body that is read and one that is written
module _ {P X : Type 0} (leads : P → X → P → Type 0) (request answer : X → List ℕ) where
  -- The things lead from the state before to the one after. The frames of their requests were read, and then `part`; the
  -- frames of their answers were written, and then `more`.
  pub record HasAnswered (r : AnsweredRun P X) : Type 0 where
    pub led : FoldsTo leads r.before.state r.things r.after.state
    pub fits : All (λ x. IsBody (request x)) r.things
    pub read : Consumes r.before.unread r.after.unread (frames_of request r.things ++ r.part)
    pub wrote : Appends r.before.written r.after.written (frames_of answer r.things ++ r.more)
