-- The definitions on words, settings, a fault and a connection that are written out.
use Rattle.std.proofs.Common.{◌≡◌, refl, [], ◌∷◌, Some, codes}
use Rattle.toml.specs.Data.{member, no_members, string}
use Rattle.toml.specs.Parse.{parse_document}
use Rattle.toml.proofs.OnLiterals.{toml_on_literals}
use Rattle.oram_host.specs.declared.serve_fault.ServeFault.TheVariants.{Frame}
use Rattle.oram_wire.specs.declared.host_messages.HostAnswer.TheVariants.{Done, Refused}
use Rattle.oram_disk_host.specs.Faults.{line_of}
use Rattle.oram_disk_host.specs.Serving.{answers_text, frames, messages_of}
use Rattle.oram_disk_host.specs.Tallies.{frame_len, frames_len}
use Rattle.oram_disk_host.specs.ConnectionLine.{ending}
use Rattle.oram_disk_host.specs.declared.faults.Fault.TheVariants.{OutOfMemory}
use Rattle.oram_disk_host.specs.declared.connection.EarlyEnd.TheVariants.{Displaced, Fault}

-- what a new folder's settings say
the_first_settings : parse_document (codes "# Where the host listens: a socket in this folder, for you alone. Your own machine reaches it through a tunnel, as by\n# ssh -N -o StreamLocalBindUnlink=yes -L mydisk/buckets.sock:/home/you/buckets.sock you@rented.\n# With \"127.0.0.1:PORT\" all users of this machine can connect.\nlisten = \"unix:buckets.sock\"\n# The file of the buckets, relative to this folder; its log is beside it.\nfile = \"buckets\"\n") ≡ Some (member (codes "file") (string (codes "buckets")) (member (codes "listen") (string (codes "unix:buckets.sock")) no_members))
unfolding toml_on_literals
the_first_settings = refl

a_line : line_of OutOfMemory ≡ codes "oramdisk: out of memory\n"
a_line = refl

too_long : ending (Some (Fault Frame)) ≡ codes ", a frame was too long"
too_long = refl

displaced : ending (Some Displaced) ≡ codes ", a newer connection took its place"
displaced = refl

a_frame : frame_len (1 ∷ 2 ∷ []) ≡ 6
a_frame = refl

two_frames : frames_len ((1 ∷ 2 ∷ []) ∷ (3 ∷ []) ∷ []) ≡ 11
two_frames = refl

-- two messages that are done together, and one that is refused
some_messages : frames (messages_of (record { bodies = (1 ∷ 2 ∷ []) ∷ (3 ∷ []) ∷ []; answer = Done } ∷ record { bodies = (4 ∷ []) ∷ []; answer = Refused 2 } ∷ []))
    ≡ 0 ∷ 0 ∷ 0 ∷ 2 ∷ 1 ∷ 2 ∷ 0 ∷ 0 ∷ 0 ∷ 1 ∷ 3 ∷ 0 ∷ 0 ∷ 0 ∷ 1 ∷ 4 ∷ []
some_messages = refl

their_answers : answers_text (record { bodies = (1 ∷ 2 ∷ []) ∷ (3 ∷ []) ∷ []; answer = Done } ∷ record { bodies = (4 ∷ []) ∷ []; answer = Refused 2 } ∷ [])
    ≡ 0 ∷ 0 ∷ 0 ∷ 1 ∷ 128 ∷ 0 ∷ 0 ∷ 0 ∷ 1 ∷ 128 ∷ 0 ∷ 0 ∷ 0 ∷ 2 ∷ 129 ∷ 2 ∷ []
their_answers = refl
