use Rattle.std.proofs.Common.{◌≡◌, ◌++◌, ◌∷◌, ◌∙◌, [], ℕ, List, Err, inr, refl, sym, ap, subst}
use Rattle.std.specs.Global.{Vec}
use Rattle.std.specs.Prelude.{All}
use Rattle.std.specs.Io.KnownBytes.{Consumes}
use Rattle.std.proofs.KnownBytes.{Consumes-trans}
use Rattle.std.proofs.lemmas.List.Elements.{All-push}
use Rattle.oram_host.specs.declared.serve_fault.ServeFault.{ServeFault}
use Rattle.oram_wire.specs.FrameStream.{IsBody, frame}
use Rattle.oram_wire.specs.ListOfBodies.{bodies_in}
use Rattle.oram_disk_host.specs.Serving.{IsGathered, frames}
use Rattle.oram_disk_host.specs.declared.serving.Next.TheVariants.{Fails}
use Rattle.oram_disk_host.proofs.Groups.{bodies_push, gathered_cut, pushed_no, pushed_yes, read_more}
use Rattle.oram_disk_host.proofs.serving.gather.Goals as goal

pub returns-then-is_err : goal.returns-then-is_err
returns-then-is_err g c =
    let old : List (Vec ℕ) = c.loop-number.bodies.items in
    let body : List ℕ = c.in-Ok-Some.body.items in
    let came = rw c.in-Ok-Some.field-0-is at c.in-Ok-Some.ensures.ok in
    let same : c.push.new.self.items ≡ old = c.push.ensures.items ∙ pushed_no c.push.result _ _ (sym c.is_err.ensures.value ∙ c.if-is_err.true) in
    record {
      part = frame body;
      fits = subst (λ (vs : List (Vec ℕ)). All IsBody (bodies_in vs)) (sym same) c.loop-number.invariant.fits;
      read = subst (λ (vs : List (Vec ℕ)). Consumes (g.R.Read.remaining c.args.reader.now) (g.R.Read.remaining c.next_frame.new.reader) (frames (bodies_in vs) ++ frame body)) (sym same)
          (Consumes-trans (g.R.Read.remaining c.args.reader.now) (g.R.Read.remaining c.loop-number.reader) (g.R.Read.remaining c.next_frame.new.reader) (frames (bodies_in old)) (frame body) c.loop-number.invariant.read came.1);
      ends = inr (body, came.0, refl);
    }

pub returns-in-Err : goal.returns-in-Err
returns-in-Err g c =
    subst (λ (f : ServeFault). IsGathered (bodies_in c.loop-number.bodies.items) (Fails f) (g.R.Read.remaining c.args.reader.now) (g.R.Read.remaining c.next_frame.new.reader)) (sym c.into.ensures)
    (gathered_cut (bodies_in c.loop-number.bodies.items) (g.R.Read.remaining c.args.reader.now) (g.R.Read.remaining c.loop-number.reader) (g.R.Read.remaining c.next_frame.new.reader)
    c.loop-number.invariant.fits c.loop-number.invariant.read c.in-Err.fault
    (λ h. c.in-Err.ensures.read (ap Err h)) (λ h. c.in-Err.ensures.frame (ap Err h)) (λ h. c.in-Err.ensures.truncated (ap Err h)) (λ h. c.in-Err.ensures.memory (ap Err h)))

pub loop-number-preserved : goal.loop-number-preserved
loop-number-preserved g c =
    let old : List (Vec ℕ) = c.loop-number.bodies.items in
    let v : Vec ℕ = c.in-Ok-Some.body in
    let came = rw c.in-Ok-Some.field-0-is at c.in-Ok-Some.ensures.ok in
    let items : c.push.new.self.items ≡ old ++ v ∷ [] = c.push.ensures.items ∙ pushed_yes c.push.result _ _ (sym c.is_err.ensures.value ∙ c.if-is_err.false) in
    let grown : bodies_in c.push.new.self.items ≡ bodies_in old ++ v.items ∷ [] = ap bodies_in items ∙ bodies_push old v in
    record {
      fits = subst (λ (bs : List (List ℕ)). All IsBody bs) (sym grown) (All-push IsBody (bodies_in old) v.items c.loop-number.invariant.fits came.0);
      read = subst (λ (bs : List (List ℕ)). Consumes (g.R.Read.remaining c.args.reader.now) (g.R.Read.remaining c.next_frame.new.reader) (frames bs)) (sym grown)
          (read_more (bodies_in old) v.items (g.R.Read.remaining c.args.reader.now) (g.R.Read.remaining c.loop-number.reader) (g.R.Read.remaining c.next_frame.new.reader) c.loop-number.invariant.read came.1);
    }
