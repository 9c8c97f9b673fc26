-- What is known of the bytes of a connection.
use Rattle.std.specs.Prelude.{ℕ, List, Option, None}
use Rattle.oram_sockets.specs.declared.connection.Connection.{Connection}
use Rattle.oram_sockets.specs.declared.connection.Connection.TheVariants.{Tcp, Unix}

-- The bytes of a connection over TCP are those of its stream. Nothing is known of those of a Unix socket.
abbrev pub bytes_of : {T : Type 0} → (T → Option (List ℕ)) → Connection T → Option (List ℕ)
bytes_of bytes (Tcp stream) = bytes stream
bytes_of bytes (Unix stream) = None
