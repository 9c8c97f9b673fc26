use Rattle.std.proofs.Common.{◌++◌, List, ℕ, ap, ◌∙◌, append_assoc}
use Rattle.oram_nbd.proofs.handshake.push_reply.Goals as goal

pub returns : goal.returns
returns c =
    let text = c.args.text.now.items in
    let body = c.args.body.now in
    c.in_ok-extend_from_slice-2.ensures.items ∙ ap (λ (l : List ℕ). l ++ body) c.in_ok-extend_from_slice.ensures.items
    ∙ append_assoc text c.reply_head-head.result body ∙ ap (λ (l : List ℕ). text ++ (l ++ body)) c.reply_head-head.ensures
