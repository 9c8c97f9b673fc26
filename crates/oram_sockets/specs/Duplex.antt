-- Connections over which both sides send at once.
use Rattle.std.specs.Prelude.{ℕ, List, take, Option, Result, MatchResult, MatchOption}
use Rattle.std.specs.Io.KnownBytes.{Appends, Keeps, prepend_known}
use Rattle.oram_sockets.specs.Connections.{bytes_of}
use Rattle.oram_sockets.specs.declared.connection.Connection.{Connection}

-- one direction of a connection
pub record DuplexStream (S : Type 0) : Type 0 where
  pub stream : S
  pub unread : List ℕ  -- what has arrived and wasn't read yet

-- the bytes that are still to be read: those that have arrived, and then the stream's
abbrev pub duplex_remaining : {S : Type 0} → (S → Option (List ℕ)) → DuplexStream S → Option (List ℕ)
duplex_remaining remaining d = prepend_known d.unread (remaining d.stream)

-- the bytes that were written
abbrev pub duplex_contents : {S : Type 0} → (S → Option (List ℕ)) → DuplexStream S → Option (List ℕ)
duplex_contents contents d = contents d.stream

-- a step of a writer appended the bytes that it took, or none
abbrev pub StepAppends : {E : Type 0} → Option (List ℕ) → Option (List ℕ) → Result (Option ℕ) E → List ℕ → Type 0
StepAppends old new step bytes = MatchResult step (λ wrote. MatchOption wrote (Keeps old new) (λ n. Appends old new (take n bytes))) (λ _. Keeps old new)

-- of the connections that a program opens, over TCP or over a Unix socket
abbrev pub remaining_of : {T : Type 0} → (T → Option (List ℕ)) → DuplexStream (Connection T) → Option (List ℕ)
remaining_of remaining d = duplex_remaining (bytes_of remaining) d

abbrev pub contents_of : {T : Type 0} → (T → Option (List ℕ)) → DuplexStream (Connection T) → Option (List ℕ)
contents_of contents d = duplex_contents (bytes_of contents) d
