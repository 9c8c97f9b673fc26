use Rattle.std.proofs.Common.{◌≡◌, List, [], ◌∷◌, ◌++◌, arith, length, ap, sym, ◌∙◌, subst, length-append}
use Rattle.std.specs.List.{flat_map}
use Rattle.oram_stamps.specs.Stamps.{stamp_text}
use Rattle.oram_stamps.proofs.Notes.{FitAll, fit_more, read_more, stamps_long}
use Rattle.oram_stamps.proofs.Spelled.{length-stamp_text}
use Rattle.oram_stamps.proofs.note.read_stamps.Goals as goal

pub loop-preserved : goal.loop-preserved
loop-preserved c =
    let front = c.loop.stamps.items in
    let s = c.in-Some.stamp in
    let next : c.loop.rest.now ≡ stamp_text s ++ c.in-Some.behind.now = c.in-Some.ensures.some in
    let more : c.push.new.stamps.items ≡ front ++ s ∷ [] = c.in_ok-push.ensures.ok in
    record {
      read = read_more c.args.bytes.now c.loop.rest.now c.in-Some.behind.now front s c.push.new.stamps.items c.loop.invariant.read next more;
      long = omega (arith, c.loop.invariant.long, ap length next, length-append (stamp_text s) c.in-Some.behind.now, length-stamp_text s);
      fit = subst FitAll (sym more) (fit_more front s c.loop.invariant.fit c.in-Some.ensures.fits);
    }

pub returns-then-not-is_empty-clause-not_ours : goal.returns-then-not-is_empty-clause-not_ours
returns-then-not-is_empty-clause-not_ours c = λ e stamps is.
    let long = c.loop.invariant.long in
    let whole : length c.args.bytes.now ≡ length (flat_map stamp_text stamps) = ap length is in
    let none : length c.loop.rest.now ≡ 0 = omega (arith, long, whole, stamps_long stamps, c.loop-test.false, c.loop.auto.counter-end) in
    grind (arith, none, c.is_empty.ensures, c.if-not-is_empty.true)
