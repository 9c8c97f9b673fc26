use Rattle.std.proofs.Common.{◌≡◌, ◌≤◌, ◌∙◌, ap, arith, ◌++◌, List, ℕ, length}
use Rattle.oram_bucket.specs.Cell.{Cell}
use Rattle.oram_summary.specs.Contents.{Contents}
use Rattle.oram_summary.specs.Text.{IsTextOf, parts_text}
use Rattle.oram_summary.proofs.Decoded.{length-text, written}
use Rattle.oram_summary.proofs.encoder.encode_summary.Goals as goal

text_is : (c : goal.In_ok-push_parts) → IsTextOf c.push_parts.new.text.items c.args.summary.now
text_is c =
    let s : Contents = c.args.summary.now in
    let root : c.summary.inside.root ≡ s.root = ap (λ (v : Contents). v.root) c.summary.view_is in
    let stash : c.summary.inside.stash.items ≡ s.stash = ap (λ (v : Contents). v.stash) c.summary.view_is in
    let device : c.summary.inside.device.block_bytes ≡ s.device.block_bytes = ap (λ (v : Contents). v.device.block_bytes) c.summary.view_is in
    let few : length s.stash ≤ 64 = omega (arith, c.if-len-gt-MOST_BLOCKS.false, c.len.ensures, ap length stash) in
    let spelled = c.in_ok-push_parts.ensures.added
    ∙ ap (λ (begun : List ℕ). begun ++ parts_text c.numbers_of-numbers.result c.summary.inside.root c.block_bytes-block_bytes.result c.deref.result.now) c.in_ok-text.ensures.items
    ∙ ap (λ (n : ℕ). parts_text c.numbers_of-numbers.result c.summary.inside.root n c.deref.result.now) (c.block_bytes-block_bytes.ensures.value ∙ device)
    ∙ ap (λ (bs : List Cell). parts_text c.numbers_of-numbers.result c.summary.inside.root s.device.block_bytes bs) (c.deref.ensures.value ∙ stash) in
    written s c.numbers_of-numbers.result c.summary.inside.root c.push_parts.new.text.items c.numbers_of-numbers.ensures.device c.requires few
    c.numbers_of-numbers.ensures.numbers root c.push_parts.ensures.fit c.push_parts.ensures.root spelled

pub returns-clause-text : goal.returns-clause-text
returns-clause-text c = text_is c

pub returns-clause-len : goal.returns-clause-len
returns-clause-len c = let is = text_is c in ap length is.text ∙ length-text c.args.summary.now is.summary
