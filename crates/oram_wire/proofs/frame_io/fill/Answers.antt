use Rattle.std.proofs.Common.{◌≡◌, ◌++◌, ◌+◌, ◌-◌, ◌≤◌, length, take, rules, arith, sym, ap, ◌∙◌, subst, le_refl, length-take-le}
use Rattle.std.proofs.lemmas.Slice.{take-put_mid_below}
use Rattle.std.specs.Io.KnownBytes.{Consumes}
use Rattle.std.proofs.KnownBytes.{Consumes-trans, Consumes-kept}
use borrow.Rule.Slice.PartMut.{put_mid}
use Rattle.oram_wire.proofs.Transfers.{slice_range-put_mid, take_split}
use Rattle.oram_wire.proofs.frame_io.fill.Goals as goal
use Rattle.oram_wire.proofs.frame_io.fill.Goals.{in-Ok+else-filled-buf, in-Err+else-ne}

pub returns-then-ne-clause-err : goal.returns-then-ne-clause-err
returns-then-ne-clause-err g c =
    let from = c.loop.filled in
    let buf = c.loop.buf in
    let filled = put_mid from (length buf - from) buf c.read.new.buf in
    let inv = c.loop.invariant in
    let count : length filled ≡ length buf = search rules in
    let part : length (take from buf) ≡ from = length-take-le from buf (omega (arith, inv.within)) in
    (take from buf, omega (arith, inv.within, count, part), Consumes-kept _ _ _ _ inv.taken c.in-Err.ensures.bytes)

pub loop-preserved : goal.loop-preserved
loop-preserved g c =
    let from = c.loop.filled in
    let buf = c.loop.buf in
    let room = length buf - from in
    let filled = put_mid from room buf c.read.new.buf in
    let inv = c.loop.invariant in
    let inside : from ≤ length buf = omega (arith, inv.within) in
    let front : take from filled ≡ take from buf = take-put_mid_below _ _ _ _ _ (le_refl _) inside in
    elim c.match-read.branch [
      | in-Ok+else-filled-buf w ↦ (
          let n = w.in-Ok.n in
          let part = slice_range-put_mid from room n buf c.read.new.buf inside w.in-Ok.ensures.bound.0 in
          let joined = take_split from (from + n) buf filled (omega arith) front in
          record {
            within = search rules;
            taken = rw w.filled-is (subst (Consumes _ _) (ap (λ l. take from buf ++ l) (sym part) ∙ joined) (Consumes-trans _ _ _ _ _ inv.taken w.in-Ok.ensures.bytes.0));
          })
      | in-Err+else-ne w ↦ record {
        within = search rules;
        taken = rw w.filled-is (subst (Consumes _ _) (sym front) (Consumes-kept _ _ _ _ inv.taken w.in-Err.ensures.bytes));
      }
    ]
