use Rattle.std.proofs.Common.{◌≡◌, ap, sym, ◌∙◌, inl, inr}
use Rattle.oram_semantics.specs.Blocks.{body_from}
use Rattle.oram_semantics.specs.declared.events.Command.{Command}
use Rattle.oram_semantics.specs.declared.events.Reply.{Reply}
use Rattle.oram_semantics.specs.declared.events.ReplyBody.{ReplyBody}
use Rattle.oram_semantics.specs.declared.events.Submission.{Submission}
use Rattle.oram_core.proofs.progress.reply_to.Goals.{in-Read, in-Write}
use Rattle.oram_core.proofs.progress.reply_to.Goals as goal

-- the reply to a command with this body
abbrev with_body : Submission → ReplyBody → Reply
with_body x b = record { session = x.session; ticket = x.ticket; body = b }

pub returns : goal.returns
returns c =
    let x = c.args.submission.now in
    let body_for = λ (k : Command). body_from c.args.before k in
    ap (with_body x) (elim c.match-submission.branch as (λ _. c.match-submission.body ≡ body_from c.args.before x.command) [
      | in-Read w ↦ w.body-is ∙ ap body_for (sym w.in-Read.is)
      | in-Write w ↦ (elim w.in-Write.is [
        | inl p ↦ w.body-is ∙ ap body_for (sym p.2)
        | inr p ↦ w.body-is ∙ ap body_for (sym p.1)
      ])
    ])
