use Rattle.std.proofs.Common.{◌≡◌, ◌≢◌, ◌≤◌, All, length, take}
use Rattle.oram_semantics.specs.declared.events.Reply.{Reply}
use Rattle.oram_semantics.specs.declared.events.ReplyBody.{ReplyBody}
use Rattle.oram_volume.proofs.volume.has_failure.Given as goal

-- no reply so far says so
abbrev pub invariant-loop-reply : goal.invariant-loop-reply
invariant-loop-reply l = record { within : l.reply-index ≤ length l.replies; end : l.reply-index-end ≡ length l.replies; none : All (λ (r : Reply). r.body ≢ ReplyBody.Failed) (take l.reply-index l.replies) }
