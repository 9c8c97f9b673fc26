use Rattle.std.proofs.Common.{◌≡◌, ◌∙◌, Some, Ok, Result, ap, refl, sym, subst}
use Rattle.std.specs.Prelude.{replicate}
use Rattle.oram_geometry.specs.declared.Sizes.{Sizes}
use Rattle.oram_geometry.specs.Sizes.{trees_of}
use Rattle.oram_host.proofs.Answered.{answering}
use Rattle.oramd.specs.Formatting.{IsFormatted}
use Rattle.oramd.specs.FrameLoop.{loop_sizes}
use Rattle.oramd.specs.declared.faults.Fault.{Fault}
use Rattle.oramd.proofs.Looped.{all_answered, at_end, front_answered, scheme_at}
use Rattle.oramd.proofs.frame_loop.answer_frames.Goals as goal

same_device : (r : Result Sizes Fault) (d : Sizes) → r ≡ Ok d → r ≡ Ok loop_sizes → d ≡ loop_sizes
same_device r d a b = cc

pub returns-clause-ok : goal.returns-clause-ok
returns-clause-ok g c =
    let core = c.in_ok-core.core in
    let sized : core.device ≡ loop_sizes = c.in_ok-core.ensures.device ∙ same_device _ c.in_ok-device.device refl c.in_ok-device.ensures.made in
    let count : c.trees-trees.result ≡ trees_of core.device = c.trees-trees.ensures.count ∙ ap trees_of c.device.ensures.value in
    let formatted : IsFormatted (scheme_at core.device) g.L.Link.calls c.args.link.now core.state c.format_device.new.link =
    subst (λ (d : Sizes). IsFormatted (scheme_at d) g.L.Link.calls c.args.link.now core.state c.format_device.new.link) (sym c.in_ok-core.ensures.device) c.in_ok-core.ensures.made in
    let p = answering c.args.link.now (Some c.args.frames.now) (Some c.args.replies.now.items) in
    at_end g.L.Link.calls p c.serve-ended.new.link c.serve-ended.new.reader.now (Some c.serve-ended.new.writer.items) c.after_frames.result
    (all_answered g.L.Link.calls core.device (replicate 32 0) c.trees-trees.result p core.state c.serve-ended.new.core.state
    c.format_device.new.link c.serve-ended.new.link c.serve-ended.new.reader.now (Some c.serve-ended.new.writer.items)
    sized refl count formatted c.serve-ended.result c.after_frames.result c.after_frames.ensures c.serve-ended.ensures.ends)

pub returns-clause-hex : goal.returns-clause-hex
returns-clause-hex g c hex =
    let core = c.in_ok-core.core in
    let sized : core.device ≡ loop_sizes = c.in_ok-core.ensures.device ∙ same_device _ c.in_ok-device.device refl c.in_ok-device.ensures.made in
    let count : c.trees-trees.result ≡ trees_of core.device = c.trees-trees.ensures.count ∙ ap trees_of c.device.ensures.value in
    let formatted : IsFormatted (scheme_at core.device) g.L.Link.calls c.args.link.now core.state c.format_device.new.link =
    subst (λ (d : Sizes). IsFormatted (scheme_at d) g.L.Link.calls c.args.link.now core.state c.format_device.new.link) (sym c.in_ok-core.ensures.device) c.in_ok-core.ensures.made in
    let p = answering c.args.link.now (Some c.args.frames.now) (Some c.args.replies.now.items) in
    let front = front_answered g.L.Link.calls core.device (replicate 32 0) c.trees-trees.result p core.state c.serve-ended.new.core.state
    c.format_device.new.link c.serve-ended.new.link c.serve-ended.new.reader.now (Some c.serve-ended.new.writer.items)
    sized refl count formatted c.serve-ended.result c.after_frames.result c.after_frames.ensures c.serve-ended.ensures.ends hex in
    (front.0, c.serve-ended.new.reader.now, front.1, front.2)
