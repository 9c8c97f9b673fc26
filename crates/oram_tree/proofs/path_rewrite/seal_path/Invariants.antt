use Rattle.std.proofs.Common.{map, Bor, Vec, Global}
use Rattle.oram_bucket.specs.Cell.{Cell}
use Rattle.oram_tree.specs.Access.{IsSealedTo}
use Rattle.oram_tree.proofs.path_rewrite.seal_path.Given as goal

abbrev pub invariant-loop-level : goal.invariant-loop-level
invariant-loop-level g l =
    IsSealedTo (record { device = l.device; tree = l.tree; cipher = g.S.Sealer.cipher l.sealer; path = l.path; nonce = l.nonce })
    (map (λ (list : Vec (Bor Cell) Global). map (λ (b : Bor Cell). b.now) list.items) l.lists) l.level l.initial.out.items l.out.items
