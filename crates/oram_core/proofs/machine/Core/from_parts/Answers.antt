use Rattle.std.proofs.Common.{◌≡◌, ◌≤◌, ◌<◌, ◌*◌, ℕ, Err, refl, ap, sym, ◌∙◌, subst, arith, true, false}
use mathlib.Core.Bool.{false≢true}
use Rattle.oram_geometry.specs.Sizes.{IsDevice, trees_of}
use Rattle.oram_geometry.proofs.DeviceSizes.{trees_of-few}
use Rattle.oram_core.specs.Core.{IsSound}
use Rattle.oram_core.specs.Validity.{AreTrees, IsFitting}
use Rattle.oram_core.specs.Parts.{Parts, AreParts, state_of}
use Rattle.oram_tree.specs.declared.faults.PartsFault.{PartsFault}
use Rattle.oram_core.proofs.Fits.{memory_apart, parts_by, fits_of, at_err, trees_of_parts}
use Rattle.oram_core.proofs.Sound.{stage_within}
use Rattle.std.proofs.lemmas.Result.{IfOk-from_err}
use Rattle.oram_core.proofs.Heard.{no_ok, ok_apart}
use Rattle.oram_core.proofs.machine.Core.from_parts.Goals as goal

pub returns-then-not-is_fitting-clause-content : goal.returns-then-not-is_fitting-clause-content
returns-then-not-is_fitting-clause-content g c = λ same are. false≢true (sym c.if-not-is_fitting.true ∙ c.is_fitting.ensures.1 (subst (λ (n : ℕ). IsFitting n c.args.parts c.args.parts.failure) (sym c.overhead.ensures) (fits_of (g.S.Sealer.cipher c.args.sealer).overhead c.args.parts are)))

pub returns-in_err-trees-clause-content : goal.returns-in_err-trees-clause-content
returns-in_err-trees-clause-content g c = λ same are.
    let o = (g.S.Sealer.cipher c.args.sealer).overhead in
    let trees = subst (λ (p : Parts). AreTrees p.device 0 p.trees) (sym c.parts.view_is) (trees_of_parts o c.args.parts are) in
    c.in_err-trees.ensures.content (ap Err (sym (at_err c.from_residual.result _ PartsFault.Content same c.from_residual.ensures.1))) trees

pub overflow_cast-result : goal.overflow_cast-result
overflow_cast-result g c =
    let o = (g.S.Sealer.cipher c.args.sealer).overhead in
    let ranges = subst (λ (p : Parts). IsDevice p.device) c.parts.view_is c.trees_of.ensures.ranges in
    let fits : IsFitting o c.args.parts c.args.parts.failure = subst (λ (n : ℕ). IsFitting n c.args.parts c.args.parts.failure) c.overhead.ensures (c.is_fitting.ensures.0 c.if-not-is_fitting.false) in
    let trees = subst (λ (p : Parts). AreTrees p.device 0 p.trees) c.parts.view_is (c.in_ok-trees.ensures.fits refl) in
    let next : c.args.parts.tickets ≤ c.args.parts.device.lifetime = subst (λ (p : Parts). p.tickets ≤ p.device.lifetime) c.parts.view_is (omega (arith, c.if-parts-lifetime.false, c.lifetime.ensures.value)) in
    let are : AreParts o c.args.parts = parts_by o c.args.parts ranges (g.met.S.Sealer.lawful c.args.sealer).small next fits trees in
    let entry_number : c.args.parts.entry_number < 2 * trees_of c.args.parts.device = stage_within c.args.parts.device o (state_of c.args.parts) are.sound in
    let few = trees_of-few c.args.parts.device ranges in
    let same : c.parts.inside.entry_number ≡ c.args.parts.entry_number = ap (λ (p : Parts). p.entry_number) c.parts.view_is in
    omega (arith, entry_number, few, same)

pub invariant_of-result : goal.invariant_of-result
invariant_of-result g c =
    let o = (g.S.Sealer.cipher c.args.sealer).overhead in
    let ranges = subst (λ (p : Parts). IsDevice p.device) c.parts.view_is c.trees_of.ensures.ranges in
    let fits : IsFitting o c.args.parts c.args.parts.failure = subst (λ (n : ℕ). IsFitting n c.args.parts c.args.parts.failure) c.overhead.ensures (c.is_fitting.ensures.0 c.if-not-is_fitting.false) in
    let trees = subst (λ (p : Parts). AreTrees p.device 0 p.trees) c.parts.view_is (c.in_ok-trees.ensures.fits refl) in
    let next : c.args.parts.tickets ≤ c.args.parts.device.lifetime = subst (λ (p : Parts). p.tickets ≤ p.device.lifetime) c.parts.view_is (omega (arith, c.if-parts-lifetime.false, c.lifetime.ensures.value)) in
    let are : AreParts o c.args.parts = parts_by o c.args.parts ranges (g.met.S.Sealer.lawful c.args.sealer).small next fits trees in
    let sound = subst (λ (p : Parts). IsSound p.device o (state_of p)) (sym c.parts.view_is) are.sound in
    rw (c.in_ok-trees.ensures.made, c.in_ok-queue_of.ensures) sound

pub returns-clause-fits : goal.returns-clause-fits
returns-clause-fits g c = λ whole.
    let o = (g.S.Sealer.cipher c.args.sealer).overhead in
    let ranges = subst (λ (p : Parts). IsDevice p.device) c.parts.view_is c.trees_of.ensures.ranges in
    let fits : IsFitting o c.args.parts c.args.parts.failure = subst (λ (n : ℕ). IsFitting n c.args.parts c.args.parts.failure) c.overhead.ensures (c.is_fitting.ensures.0 c.if-not-is_fitting.false) in
    let trees = subst (λ (p : Parts). AreTrees p.device 0 p.trees) c.parts.view_is (c.in_ok-trees.ensures.fits refl) in
    let next : c.args.parts.tickets ≤ c.args.parts.device.lifetime = subst (λ (p : Parts). p.tickets ≤ p.device.lifetime) c.parts.view_is (omega (arith, c.if-parts-lifetime.false, c.lifetime.ensures.value)) in
    parts_by o c.args.parts ranges (g.met.S.Sealer.lawful c.args.sealer).small next fits trees

pub returns-in_err-trees-clause-device : goal.returns-in_err-trees-clause-device
returns-in_err-trees-clause-device g c = IfOk-from_err c.from_residual.result _ c.from_residual.ensures.0

pub returns-in_err-trees-clause-sealer : goal.returns-in_err-trees-clause-sealer
returns-in_err-trees-clause-sealer g c = IfOk-from_err c.from_residual.result _ c.from_residual.ensures.0

pub returns-in_err-trees-clause-state : goal.returns-in_err-trees-clause-state
returns-in_err-trees-clause-state g c = IfOk-from_err c.from_residual.result _ c.from_residual.ensures.0

pub returns-in_err-trees-clause-fits : goal.returns-in_err-trees-clause-fits
returns-in_err-trees-clause-fits g c = no_ok _ c.from_residual.result c.from_residual.ensures.0

pub returns-in_err-queue_of-clause-device : goal.returns-in_err-queue_of-clause-device
returns-in_err-queue_of-clause-device g c = IfOk-from_err c.from_residual-in_err-queue_of.result _ c.from_residual-in_err-queue_of.ensures.0

pub returns-in_err-queue_of-clause-sealer : goal.returns-in_err-queue_of-clause-sealer
returns-in_err-queue_of-clause-sealer g c = IfOk-from_err c.from_residual-in_err-queue_of.result _ c.from_residual-in_err-queue_of.ensures.0

pub returns-in_err-queue_of-clause-state : goal.returns-in_err-queue_of-clause-state
returns-in_err-queue_of-clause-state g c = IfOk-from_err c.from_residual-in_err-queue_of.result _ c.from_residual-in_err-queue_of.ensures.0

pub returns-in_err-queue_of-clause-fits : goal.returns-in_err-queue_of-clause-fits
returns-in_err-queue_of-clause-fits g c = no_ok _ c.from_residual-in_err-queue_of.result c.from_residual-in_err-queue_of.ensures.0

pub same-held_data : goal.same-held_data
same-held_data g c = refl

pub same-message : goal.same-message
same-message g c = refl

pub returns-then-parts-lifetime-clause-fits : goal.returns-then-parts-lifetime-clause-fits
returns-then-parts-lifetime-clause-fits g c = λ ok. absurd (let no_way : false ≡ true = ok in cc)

pub returns-then-not-is_fitting-clause-fits : goal.returns-then-not-is_fitting-clause-fits
returns-then-not-is_fitting-clause-fits g c = λ ok. absurd (let no_way : false ≡ true = ok in cc)

pub returns-clause-state : goal.returns-clause-state
returns-clause-state g c = rw (c.in_ok-trees.ensures.made, c.in_ok-queue_of.ensures) (ap state_of c.parts.view_is)

pub returns-clause-device : goal.returns-clause-device
returns-clause-device g c = ap (λ (p : Parts). p.device) c.parts.view_is

pub returns-clause-sealer : goal.returns-clause-sealer
returns-clause-sealer g c = refl

pub returns-clause-content : goal.returns-clause-content
returns-clause-content g c = λ same are. ok_apart _ _ same

pub returns-in_err-queue_of-clause-content : goal.returns-in_err-queue_of-clause-content
returns-in_err-queue_of-clause-content g c = λ same are. memory_apart c.from_residual-in_err-queue_of.result c.from_residual-in_err-queue_of.ensures.1 same

pub returns-then-not-is_fitting-clause-device : goal.returns-then-not-is_fitting-clause-device
returns-then-not-is_fitting-clause-device g c = tt

pub is_fitting-requires-clause-overhead : goal.is_fitting-requires-clause-overhead
is_fitting-requires-clause-overhead g c = rw c.overhead.ensures (g.met.S.Sealer.lawful c.args.sealer).small

pub returns-then-not-is_fitting-clause-sealer : goal.returns-then-not-is_fitting-clause-sealer
returns-then-not-is_fitting-clause-sealer g c = tt

pub returns-then-not-is_fitting-clause-state : goal.returns-then-not-is_fitting-clause-state
returns-then-not-is_fitting-clause-state g c = tt

pub returns-then-parts-lifetime-clause-device : goal.returns-then-parts-lifetime-clause-device
returns-then-parts-lifetime-clause-device g c = tt

pub returns-then-parts-lifetime-clause-sealer : goal.returns-then-parts-lifetime-clause-sealer
returns-then-parts-lifetime-clause-sealer g c = tt

pub returns-then-parts-lifetime-clause-state : goal.returns-then-parts-lifetime-clause-state
returns-then-parts-lifetime-clause-state g c = tt
