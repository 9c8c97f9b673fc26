use Rattle.std.proofs.Common.{◌-◌, List, length, refl, sym, subst, arith}
use Rattle.std.proofs.lemmas.List.{length-take}
use Rattle.oram_redo.specs.Calls.{calls_of}
use Rattle.oram_redo.specs.Note.{Call}
use Rattle.oram_redo.specs.System.{TouchedNothing, seen_after}
use Rattle.oram_redo.proofs.SystemReads.{still_nothing, honest_before, given_is, ends_there, more_read, length-put_mid, length-rest, ended, full}
use Rattle.oram_redo.proofs.Touched.{touched_none}
use Rattle.oram_redo.proofs.system_calls.fill.Goals as goal

pub loop-got-init : goal.loop-got-init
loop-got-init c = (omega arith, (λ first f from n. touched_none first f from n (calls_of c.args.files.now)), λ first h. refl)

pub returns-in_err-from-clause-nothing : goal.returns-in_err-from-clause-nothing
returns-in_err-from-clause-nothing c = c.loop-got.invariant.1

pub returns-in_err-n-clause-nothing : goal.returns-in_err-n-clause-nothing
returns-in_err-n-clause-nothing c = subst (λ (l : List Call). TouchedNothing (calls_of c.args.files.now) l) (sym c.in_err-n.ensures.err) c.loop-got.invariant.1

pub loop-got-preserved : goal.loop-got-preserved
loop-got-preserved c =
    let now = c.loop-got in
    let piece = c.read_at.new.bytes in
    let is = c.in_ok-n.ensures.noted in
    let from = c.in_ok-from in (
      omega (arith, now.invariant.0, c.in_ok-n.ensures.count, length-rest now.bytes piece now.got now.invariant.0 c.read_at.auto.bytes, length-put_mid now.bytes piece now.got now.invariant.0 c.read_at.auto.bytes),
      still_nothing (calls_of c.args.files.now) (calls_of now.files) (calls_of c.read_at.new.self) c.args.file c.args.at from.from now.got from.ensures now.invariant.1 _ is,
      λ first h. more_read now.bytes piece (seen_after first (calls_of c.args.files.now) c.args.file) c.args.at now.got c.in_ok-n.n (length now.bytes - now.got) now.invariant.0 c.in_ok-n.ensures.count
          (now.invariant.2 first (honest_before (calls_of c.args.files.now) (calls_of now.files) (calls_of c.read_at.new.self) c.args.file c.args.at from.from now.got from.ensures now.invariant.1 _ is first h))
          (given_is (calls_of c.args.files.now) (calls_of now.files) (calls_of c.read_at.new.self) c.args.file c.args.at from.from now.got from.ensures now.invariant.1 _ is first h),
    )

pub returns-in-0-clause-bytes : goal.returns-in-0-clause-bytes
returns-in-0-clause-bytes c first h =
    let now = c.loop-got in
    let from = c.in_ok-from in
    let is = c.in_ok-n.ensures.noted in
    let old = calls_of c.args.files.now in
    let later = calls_of c.read_at.new.self in
    ended now.bytes c.read_at.new.bytes c.fill.new.self (seen_after first old c.args.file) c.args.at now.got now.invariant.0 c.read_at.auto.bytes (c.fill.ensures.after search)
    (now.invariant.2 first (honest_before old (calls_of now.files) later c.args.file c.args.at from.from now.got from.ensures now.invariant.1 _ is first h))
    (ends_there old (calls_of now.files) later c.args.file c.args.at from.from now.got from.ensures now.invariant.1 _ is first h (omega (arith, c.in-0.is, length-take c.in_ok-n.n c.read_at.new.bytes)))

pub returns-in-0-clause-nothing : goal.returns-in-0-clause-nothing
returns-in-0-clause-nothing c =
    let now = c.loop-got in
    let from = c.in_ok-from in
    still_nothing (calls_of c.args.files.now) (calls_of now.files) (calls_of c.read_at.new.self) c.args.file c.args.at from.from now.got from.ensures now.invariant.1 _ c.in_ok-n.ensures.noted

pub returns-clause-bytes : goal.returns-clause-bytes
returns-clause-bytes c first h =
    let now = c.loop-got in
    full now.bytes (seen_after first (calls_of c.args.files.now) c.args.file) c.args.at now.got now.invariant.0 c.loop-got-test.false (now.invariant.2 first h)
