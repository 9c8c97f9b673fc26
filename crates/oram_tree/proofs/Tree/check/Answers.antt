use Rattle.std.proofs.Common.{◌≡◌, ◌↔◌, Err, subst}
use Rattle.oram_hash.specs.declared.HashFault.TheVariants.{Tampered}
use Rattle.oram_hash.specs.Path.{path_of, IsTamperedAt}
use Rattle.oram_tree.specs.State.{State}
use Rattle.oram_tree.proofs.Tree.check.Goals as goal

pub returns-clause-tampered : goal.returns-clause-tampered
returns-clause-tampered c level =
    let P : State → Type 0 = λ t. (c.check_path.result ≡ Err (Tampered level)) ↔ IsTamperedAt (path_of c.args.device.now t.number c.args.leaf c.args.overhead c.args.bytes.now) t.root level in
    subst P c.self.view_is (c.check_path.ensures.tampered level)
