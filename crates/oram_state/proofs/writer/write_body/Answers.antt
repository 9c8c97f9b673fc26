use Rattle.std.proofs.Common.{◌≡◌, ◌+◌, ◌++◌, List, ℕ, length, take, drop, ap, arith, rules, ◌∙◌}
use Rattle.std.proofs.lemmas.List.{take_at}
use Rattle.oram_state.specs.StateBytes.{head_text, rest_text, fields_text, long, body}
use Rattle.oram_state.proofs.Written.{unmeasured, pieced, measured, length-unmeasured, length-body}
use Rattle.oram_state.proofs.writer.write_body.Goals as goal

pub set_length-requires : goal.set_length-requires
set_length-requires c =
    let fields = fields_text c.args.overhead c.args.parts.now in
    let e : c.push_rest.new.out.items ≡ unmeasured fields = pieced c.extend_from_slice.new.self.items c.push_short.new.out.items c.push_long.new.out.items c.push_head.new.out.items c.push_rest.new.out.items (head_text c.args.overhead c.args.parts.now) (rest_text c.args.parts.now)
    (search rules) (search rules) (search rules) (search rules) (search rules) in
    omega (arith, ap length (c.deref_mut.ensures.value ∙ e), length-unmeasured fields)

pub returns-clause-spelled : goal.returns-clause-spelled
returns-clause-spelled c =
    let fields = fields_text c.args.overhead c.args.parts.now in
    let e : c.push_rest.new.out.items ≡ unmeasured fields = pieced c.extend_from_slice.new.self.items c.push_short.new.out.items c.push_long.new.out.items c.push_head.new.out.items c.push_rest.new.out.items (head_text c.args.overhead c.args.parts.now) (rest_text c.args.parts.now)
    (search rules) (search rules) (search rules) (search rules) (search rules) in
    let old : c.deref_mut.result.now ≡ unmeasured fields = c.deref_mut.ensures.value ∙ e in
    let n : c.len.result + 32 ≡ 52 + length fields = omega (arith, c.len.ensures, c.deref_mut.ensures.len, ap length old, length-unmeasured fields) in
    let new : c.set_length.new.file ≡ body 2 fields = c.set_length.ensures ∙ ap (λ (x : List ℕ). take 12 x ++ (long (c.len.result + 32) ++ drop 20 x)) old ∙ measured fields (c.len.result + 32) n in
    take_at c.set_length.new.file _ c.push_rest.new.out.len (omega (arith, ap length new, length-body 2 fields, c.len.ensures, c.deref_mut.ensures.len)) ∙ new
