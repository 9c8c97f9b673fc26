use Rattle.oram_wire.specs.ListOfBodies.{bodies_in}
use Rattle.oram_disk_host.proofs.Groups.{answers_broken}
use Rattle.oram_disk_host.proofs.serving.answer_all.Goals as goal

pub returns-then-is_err : goal.returns-then-is_err
returns-then-is_err g c =
    answers_broken g.F.FilePair.model (bodies_in c.args.bodies.now) c.answer_each-answered.result c.args.hosted.now c.answer_each-answered.new.hosted
    (g.W.Write.contents c.args.writer.now) (g.W.Write.contents c.answer_each-answered.new.writer) (g.W.Write.contents c.flush.new.self) c.flush.ensures.bytes c.answer_each-answered.ensures
