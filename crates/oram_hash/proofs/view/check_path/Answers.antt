use Rattle.std.proofs.Common.{rules, arith}
use Rattle.std.proofs.lemmas.Grind.{common_steps}
use Rattle.oram_hash.specs.Path.{path_of, IsAccepted}
use Rattle.oram_hash.proofs.Checks.{accepted_matches}
use Rattle.oram_hash.proofs.view.check_path.Goals as goal

pub returns-clause-judged : goal.returns-clause-judged
returns-clause-judged c =
    let accepted : IsAccepted (path_of c.args.device.now c.args.tree c.args.leaf c.args.overhead c.args.bytes.now) c.args.root.now = first_of (search rules, grind (arith, common_steps)) in
    λ records stored. accepted_matches _ c.args.root.now records c.requires.leaf stored accepted
