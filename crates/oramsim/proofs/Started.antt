-- A script's device, just made or not.
use Rattle.std.proofs.Common.{◌≡◌, ℕ, List, [], ◌++◌, Option, Some, None, Result, Ok, Err, refl, sym, ap, ◌∙◌, subst, append-nil}
use Rattle.std.specs.Io.KnownBytes.{Appends}
use Rattle.oram_geometry.specs.declared.Sizes.{Sizes}
use Rattle.oram_geometry.specs.declared.ShapeFault.{ShapeFault}
use Rattle.std.specs.Prelude.{IfOk}
use Rattle.oram_geometry.specs.Sizes.{device_of, device_unless, range_fault, trees_of}
use Rattle.oramsim.specs.Printer.{ready_text, shape_text}
use Rattle.oramsim.specs.Script.{IsNewRun, Point, Running, Starts, stage_text}
use Rattle.oramsim.specs.Correspondence.{RunsOnAt, IsFaithful, IsFaithfulAt, IsAtRun}
use Rattle.oramsim.specs.declared.machine.Machine.{Machine}

-- a device has the leaf load that it was asked for
pub load_of : (d : Sizes) → IfOk (device_of d) (λ x. x.leaf_load ≡ d.leaf_load)
load_of d = by_fault (range_fault d)
  where
    by_fault : (fault : Option ShapeFault) → IfOk (device_unless d fault) (λ x. x.leaf_load ≡ d.leaf_load)
    by_fault None = refl
    by_fault (Some why) = tt

pub nothing_shown : (r : Running) → r.turns ≡ [] → stage_text (Some r) ≡ []
nothing_shown r none = rw none refl

pub begun : (head : List ℕ) (made : Result Sizes ShapeFault) (d : Sizes) (trees : ℕ) (m : Machine) (old new : Option (List ℕ)) → made ≡ Ok d → trees ≡ trees_of d
    → (r : Running) × IsNewRun d r × IsAtRun r m × IsFaithful r m.core.state → Appends old new (ready_text trees)
    → (q : Point) × Starts head made q × RunsOnAt (record { stage = None; head = head }) q (Some m) old new × IsFaithfulAt q.stage (Some m)
begun head made d trees m old new is count p wrote =
    let text = ready_text (trees_of d) in
    let q : Point = record { stage = Some p.0; head = head ++ text } in (
      q,
      subst (λ (o : Result Sizes ShapeFault). Starts head o q) (sym is) (p.0, p.1, refl),
      (p.2, (text, ap (λ l. (head ++ text) ++ l) (nothing_shown p.0 p.1.turns) ∙ (append-nil (head ++ text) ∙ ap (λ l. l ++ text) (sym (append-nil head))), rw count at wrote)),
      p.3,
    )

pub faulted : (head : List ℕ) (made : Result Sizes ShapeFault) (fault : ShapeFault) (old new : Option (List ℕ)) → made ≡ Err fault → Appends old new (shape_text fault)
    → (q : Point) × Starts head made q × RunsOnAt (record { stage = None; head = head }) q None old new × IsFaithfulAt q.stage None
faulted head made fault old new is wrote =
    let text = shape_text fault in
    let q : Point = record { stage = None; head = head ++ text } in (
      q,
      subst (λ (o : Result Sizes ShapeFault). Starts head o q) (sym is) refl,
      (tt, (text, append-nil (head ++ text) ∙ ap (λ l. l ++ text) (sym (append-nil head)), wrote)),
      tt,
    )
