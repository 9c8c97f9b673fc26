use Rattle.std.proofs.Common.{◌+◌, refl, ◌∙◌, subst, arith, ℕ, List}
use Rattle.std.proofs.lemmas.List.{take_all}
use Rattle.oram_redo.specs.FilePair.{Wrote}
use Rattle.oram_redo.specs.Fronts.{front_writes_of}
use Rattle.oram_redo.specs.System.{seen_after}
use Rattle.oram_redo.proofs.SystemWrites.{length-rest_of, wrote_more}
use Rattle.oram_redo.proofs.system_calls.write_front.Goals as goal

pub loop-put-preserved : goal.loop-put-preserved
loop-put-preserved c =
    let now = c.loop-put in (
      omega (arith, now.invariant.0, c.in_ok-len.ensures.count, length-rest_of now.put c.args.bytes.now),
      now.invariant.1,
      c.write_front.ensures.calls ∙ now.invariant.2,
      λ first. wrote_more first (front_writes_of c.args.files.now) (front_writes_of now.files) (front_writes_of c.write_front.new.self) c.args.file c.args.at (c.args.at + now.put) now.put c.args.bytes.now refl now.invariant.0 c.in_ok-len.len c.in_ok-len.ensures.count c.in_ok-len.ensures.noted (now.invariant.3 first),
    )

pub returns-clause-written : goal.returns-clause-written
returns-clause-written c first =
    let now = c.loop-put in
    subst (λ (l : List ℕ). Wrote c.args.file c.args.at l (seen_after first (front_writes_of c.args.files.now)) (seen_after first (front_writes_of now.files))) (take_all now.put c.args.bytes.now c.loop-put-test.false) (now.invariant.3 first)
