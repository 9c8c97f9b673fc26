use Rattle.std.proofs.Common.{length, subst, arith, ℕ, List}
use Rattle.std.proofs.lemmas.List.{take_all}
use Rattle.oram_redo.specs.Calls.{calls_of}
use Rattle.oram_redo.specs.FilePair.{Wrote}
use Rattle.oram_redo.specs.System.{seen_after}
use Rattle.oram_redo.proofs.SystemWrites.{length-rest_of, wrote_none, wrote_more, touched_more, touched_stopped}
use Rattle.oram_redo.proofs.Touched.{touched_none}
use Rattle.oram_redo.proofs.system_calls.write_all.Goals as goal

pub loop-put-init : goal.loop-put-init
loop-put-init c = (
  omega arith,
  (λ first. wrote_none c.args.file c.args.at (seen_after first (calls_of c.args.files.now))),
  λ first. touched_none first c.args.file c.args.at (length c.args.bytes.now) (calls_of c.args.files.now),
)

pub returns-in_err-n-clause-touched : goal.returns-in_err-n-clause-touched
returns-in_err-n-clause-touched c first =
    touched_stopped first (calls_of c.args.files.now) (calls_of c.loop-put.files) (calls_of c.write_at.new.self) c.args.file c.args.at c.in_ok-from.from c.loop-put.put c.args.bytes.now c.in_ok-from.ensures c.loop-put.invariant.0 (c.loop-put.invariant.2 first) c.in_err-n.ensures.err

pub returns-in-0-clause-touched : goal.returns-in-0-clause-touched
returns-in-0-clause-touched c first =
    touched_more first (calls_of c.args.files.now) (calls_of c.loop-put.files) (calls_of c.write_at.new.self) c.args.file c.args.at c.in_ok-from.from c.loop-put.put c.args.bytes.now c.in_ok-from.ensures c.loop-put.invariant.0 (c.loop-put.invariant.2 first) c.in_ok-n.n c.in_ok-n.ensures.count c.in_ok-n.ensures.noted

pub loop-put-preserved : goal.loop-put-preserved
loop-put-preserved c =
    let now = c.loop-put in
    let from = c.in_ok-from in (
      omega (arith, now.invariant.0, c.in_ok-n.ensures.count, length-rest_of now.put c.args.bytes.now),
      (λ first. wrote_more first (calls_of c.args.files.now) (calls_of now.files) (calls_of c.write_at.new.self) c.args.file c.args.at from.from now.put c.args.bytes.now from.ensures now.invariant.0 c.in_ok-n.n c.in_ok-n.ensures.count c.in_ok-n.ensures.noted (now.invariant.1 first)),
      λ first. touched_more first (calls_of c.args.files.now) (calls_of now.files) (calls_of c.write_at.new.self) c.args.file c.args.at from.from now.put c.args.bytes.now from.ensures now.invariant.0 (now.invariant.2 first) c.in_ok-n.n c.in_ok-n.ensures.count c.in_ok-n.ensures.noted,
    )

pub returns-clause-written : goal.returns-clause-written
returns-clause-written c first =
    let now = c.loop-put in
    subst (λ (l : List ℕ). Wrote c.args.file c.args.at l (seen_after first (calls_of c.args.files.now)) (seen_after first (calls_of now.files))) (take_all now.put c.args.bytes.now c.loop-put-test.false) (now.invariant.1 first)
