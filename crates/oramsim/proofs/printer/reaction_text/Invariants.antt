use Rattle.std.proofs.Common.{◌≡◌, ◌++◌, take}
use Rattle.std.specs.List.{flat_map}
use Rattle.std.specs.String.{string_bytes}
use Rattle.oramsim.specs.Printer.{note_text, reply_text, send_text}
use Rattle.oramsim.proofs.printer.reaction_text.Given as goal

abbrev pub invariant-loop-reply : goal.invariant-loop-reply
invariant-loop-reply l = string_bytes l.text ≡ note_text l.reaction.note ++ flat_map reply_text (take l.reply-index l.reply-items)

abbrev pub invariant-loop-message : goal.invariant-loop-message
invariant-loop-message l =
    string_bytes l.text ≡ note_text l.reaction.note ++ flat_map reply_text l.reaction.replies.items ++ flat_map send_text (take l.message-index l.message-items)
