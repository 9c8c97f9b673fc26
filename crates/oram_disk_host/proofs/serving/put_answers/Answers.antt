use Rattle.std.proofs.Common.{◌≡◌, ◌<◌, ◌+◌, ◌++◌, ◌∙◌, [], ℕ, List, length, get_or, take, drop, sym, ap, subst, arith, take-append-drop}
use Rattle.std.specs.Global.{Vec}
use Rattle.std.specs.List.{flat_map}
use Rattle.std.specs.Io.KnownBytes.{Appends}
use Rattle.std.proofs.KnownBytes.{Appends-trans}
use Rattle.std.proofs.lemmas.List.{flat_map_more, length-map, take_more}
use Rattle.std.proofs.lemmas.List.Concat.{flat_map-append}
use Rattle.oram_host.proofs.Transfers.{begun_next}
use Rattle.oram_store.proofs.Outcomes.{on_err_holds}
use Rattle.oram_wire.specs.FrameStream.{frame}
use Rattle.oram_wire.specs.ListOfBodies.{bodies_in}
use Rattle.oram_disk_host.proofs.serving.put_answers.Goals as goal

pub returns-in_err-put_frame-clause-write : goal.returns-in_err-put_frame-clause-write
returns-in_err-put_frame-clause-write g c =
    let bodies : List (List ℕ) = bodies_in c.args.bodies.now in
    let i : ℕ = c.loop-body._body-index in
    let text : List ℕ = frame c.args.answer.now in
    let within : i < length bodies = omega (arith, c.loop-body-test.true, length-map c.args.bodies.now (λ (v : Vec ℕ). v.items)) in
    let more : flat_map (λ (b : List ℕ). text) (take i bodies) ++ text ≡ flat_map (λ (b : List ℕ). text) (take (i + 1) bodies) =
    flat_map_more (λ (b : List ℕ). text) [] (take i bodies) (get_or bodies i []) ∙ ap (flat_map (λ (b : List ℕ). text)) (sym (take_more bodies i [] within)) in
    let whole : (flat_map (λ (b : List ℕ). text) (take i bodies) ++ text) ++ flat_map (λ (b : List ℕ). text) (drop (i + 1) bodies) ≡ flat_map (λ (b : List ℕ). text) bodies =
    ap (λ (l : List ℕ). l ++ flat_map (λ (b : List ℕ). text) (drop (i + 1) bodies)) more
    ∙ sym (flat_map-append (λ (b : List ℕ). text) (take (i + 1) bodies) (drop (i + 1) bodies)) ∙ ap (flat_map (λ (b : List ℕ). text)) (take-append-drop (i + 1) bodies) in
    let part = c.in_err-put_frame.ensures.err in
    on_err_holds c.from_residual.result _
    (begun_next (g.W.Write.contents c.args.writer.now) (g.W.Write.contents c.loop-body.writer) (g.W.Write.contents c.put_frame.new.writer) (flat_map (λ (b : List ℕ). text) (take i bodies)) text
    (flat_map (λ (b : List ℕ). text) (drop (i + 1) bodies)) (flat_map (λ (b : List ℕ). text) bodies) c.loop-body.invariant (part.0, part.2) whole)

pub loop-body-preserved : goal.loop-body-preserved
loop-body-preserved g c =
    let bodies : List (List ℕ) = bodies_in c.args.bodies.now in
    let i : ℕ = c.loop-body._body-index in
    let text : List ℕ = frame c.args.answer.now in
    let within : i < length bodies = omega (arith, c.loop-body-test.true, length-map c.args.bodies.now (λ (v : Vec ℕ). v.items)) in
    let more : flat_map (λ (b : List ℕ). text) (take i bodies) ++ text ≡ flat_map (λ (b : List ℕ). text) (take (i + 1) bodies) =
    flat_map_more (λ (b : List ℕ). text) [] (take i bodies) (get_or bodies i []) ∙ ap (flat_map (λ (b : List ℕ). text)) (sym (take_more bodies i [] within)) in
    subst (Appends (g.W.Write.contents c.args.writer.now) (g.W.Write.contents c.put_frame.new.writer)) more
    (Appends-trans (g.W.Write.contents c.args.writer.now) (g.W.Write.contents c.loop-body.writer) (g.W.Write.contents c.put_frame.new.writer) (flat_map (λ (b : List ℕ). text) (take i bodies)) text
    c.loop-body.invariant c.in_ok-put_frame.ensures.ok)
