use Rattle.std.proofs.Common.{◌≡◌, ◌∙◌, ◌-◌, ℕ, List, Err, Result, length, take, drop, sym, ap, subst, arith, length-drop}
use Rattle.std.specs.Global.{Vec}
use Rattle.std.specs.List.{flat_map}
use Rattle.std.specs.Io.KnownBytes.{Appends}
use Rattle.std.proofs.lemmas.List.{take_rest}
use Rattle.std.proofs.lemmas.Result.{err_from_is_err_and}
use Rattle.oram_host.specs.declared.serve_fault.ServeFault.{ServeFault}
use Rattle.oram_host.specs.Transfers.{Begins}
use Rattle.oram_wire.specs.FrameStream.{frame}
use Rattle.oram_wire.specs.ListOfBodies.{bodies_in}
use Rattle.oram_disk_host.specs.Hosts.{Serves}
use Rattle.oram_disk_host.specs.Serving.{AnswersAll}
use Rattle.oram_disk_host.proofs.Groups.{answer_frames, done_in_part, done_memory, done_more, front_is, rest_is}
use Rattle.oram_disk_host.proofs.serving.answer_each.Goals as goal

pub returns-in_err-count : goal.returns-in_err-count
returns-in_err-count g c =
    let e = err_from_is_err_and c.from_residual.result c.from_residual.ensures.1 in
    subst (λ (r : Result Unit ServeFault). AnswersAll g.F.FilePair.model (bodies_in c.args.bodies.now) r c.args.hosted.now c.respond.new.self (g.W.Write.contents c.args.writer.now) (g.W.Write.contents c.loop-done.writer)) (sym (e.1 ∙ ap Err e.2))
    (done_memory g.F.FilePair.model (bodies_in c.args.bodies.now) c.loop-done.done c.args.hosted.now c.loop-done.hosted (g.W.Write.contents c.args.writer.now) (g.W.Write.contents c.loop-done.writer) c.loop-done.invariant.has
    c.respond.new.self c.in_err-count.ensures.err)

pub returns-in_err-put_answers : goal.returns-in_err-put_answers
returns-in_err-put_answers g c =
    let vectors : List (Vec ℕ) = c.args.bodies.now in
    let bodies : List (List ℕ) = bodies_in vectors in
    let done : ℕ = c.loop-done.done in
    let count : ℕ = c.in_ok-count.count in
    let rest : List (Vec ℕ) = take (length vectors - done) (drop done vectors) in
    let here : take count (bodies_in rest) ≡ take count (drop done bodies) = ap (take count) (rest_is vectors done) in
    let ok = c.in_ok-count.ensures.ok in
    let serves = subst (λ (bs : List (List ℕ)). Serves g.F.FilePair.model c.loop-done.hosted bs ok.0 c.respond.new.self) here ok.3 in
    let texts : flat_map (λ (body : List ℕ). frame c.deref.result.now) (bodies_in (take count rest)) ≡ answer_frames ok.0 (take count (drop done bodies)) =
    ap (λ (bs : List (List ℕ)). flat_map (λ (body : List ℕ). frame c.deref.result.now) bs) (front_is rest count ∙ here)
    ∙ ap (λ (a : List ℕ). flat_map (λ (body : List ℕ). frame a) (take count (drop done bodies))) (c.deref.ensures.value ∙ ok.2) in
    let e = err_from_is_err_and c.from_residual-in_err-put_answers.result c.from_residual-in_err-put_answers.ensures.1 in
    subst (λ (r : Result Unit ServeFault). AnswersAll g.F.FilePair.model bodies r c.args.hosted.now c.respond.new.self (g.W.Write.contents c.args.writer.now) (g.W.Write.contents c.put_answers.new.writer)) (sym (e.1 ∙ ap Err (e.2 ∙ c.in_err-put_answers.ensures.fault)))
    (done_in_part g.F.FilePair.model bodies done c.args.hosted.now c.loop-done.hosted (g.W.Write.contents c.args.writer.now) (g.W.Write.contents c.loop-done.writer) c.loop-done.invariant.has
    count ok.0 c.respond.new.self serves (g.W.Write.contents c.put_answers.new.writer)
    (subst (Begins (g.W.Write.contents c.loop-done.writer) (g.W.Write.contents c.put_answers.new.writer)) texts c.in_err-put_answers.ensures.write))

pub loop-done-preserved : goal.loop-done-preserved
loop-done-preserved g c =
    let vectors : List (Vec ℕ) = c.args.bodies.now in
    let bodies : List (List ℕ) = bodies_in vectors in
    let done : ℕ = c.loop-done.done in
    let count : ℕ = c.in_ok-count.count in
    let rest : List (Vec ℕ) = take (length vectors - done) (drop done vectors) in
    let here : take count (bodies_in rest) ≡ take count (drop done bodies) = ap (take count) (rest_is vectors done) in
    let ok = c.in_ok-count.ensures.ok in
    let serves = subst (λ (bs : List (List ℕ)). Serves g.F.FilePair.model c.loop-done.hosted bs ok.0 c.respond.new.self) here ok.3 in
    let texts : flat_map (λ (body : List ℕ). frame c.deref.result.now) (bodies_in (take count rest)) ≡ answer_frames ok.0 (take count (drop done bodies)) =
    ap (λ (bs : List (List ℕ)). flat_map (λ (body : List ℕ). frame c.deref.result.now) bs) (front_is rest count ∙ here)
    ∙ ap (λ (a : List ℕ). flat_map (λ (body : List ℕ). frame a) (take count (drop done bodies))) (c.deref.ensures.value ∙ ok.2) in
    record {
      within = omega (arith, c.in_ok-count.ensures.count.1, ap length (take_rest vectors done), length-drop done vectors, c.loop-done-test.true);
      has = done_more g.F.FilePair.model bodies done c.args.hosted.now c.loop-done.hosted (g.W.Write.contents c.args.writer.now) (g.W.Write.contents c.loop-done.writer) c.loop-done.invariant.has
          count ok.0 c.respond.new.self serves (g.W.Write.contents c.put_answers.new.writer)
          (subst (Appends (g.W.Write.contents c.loop-done.writer) (g.W.Write.contents c.put_answers.new.writer)) texts c.in_ok-put_answers.ensures.ok);
    }
