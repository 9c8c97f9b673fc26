use Rattle.std.proofs.Common.{◌≡◌, ◌<◌, ℕ, List, Some, None, length, subst, rules}
use Rattle.std.specs.Ordering.{nat_cmp}
use Rattle.std.specs.BTreeMap.{WritesThrough, get}
use Rattle.oram_host.specs.declared.trees.Tree.{Tree}
use Rattle.oram_host.specs.Flips.{HasByte}
use Rattle.oram_host.specs.Host.{record_of}
use Rattle.oram_host.specs.Trees.{kept_by}
use Rattle.oram_host.proofs.Flipped.{flips_byte, record_in_map}
use Rattle.oram_host.proofs.Records.{record_absent}
use Rattle.oram_host.proofs.trees.Tree.flip.Goals as goal

pub flip_byte-requires : goal.flip_byte-requires
flip_byte-requires c =
    let tree : Tree = c.args.self.now in
    let there : get nat_cmp tree.records c.args.node ≡ Some c.in-Some.bytes.now = search rules in
    let has : HasByte (kept_by tree) c.args.node c.args.offset = search rules in
    let P : List ℕ → Type 0 = λ xs. c.args.offset < length xs in
    subst P (record_in_map tree c.args.node c.in-Some.bytes.now has.0 c.requires there has.1) has.2

pub returns-in-Some-clause-tree : goal.returns-in-Some-clause-tree
returns-in-Some-clause-tree c =
    let tree : Tree = c.args.self.now in
    let bytes : List ℕ = c.in-Some.bytes.now in
    let there : get nat_cmp tree.records c.args.node ≡ Some bytes = search rules in
    let has : HasByte (kept_by tree) c.args.node c.args.offset = search rules in
    let new = c.get_mut.follows.lender c.flip_byte.new.bytes in
    let W : List ℕ → Type 0 = λ xs. WritesThrough nat_cmp (nat_cmp c.args.node) tree.records xs new in
    let written : WritesThrough nat_cmp (nat_cmp c.args.node) tree.records c.flip_byte.new.bytes new = c.get_mut.follows.holds c.flip_byte.new.bytes in
    (flips_byte tree new c.args.node c.args.offset bytes has.0 c.requires there has.1 has.2 (subst W c.flip_byte.ensures written)).0

pub returns-in-Some-clause-flipped : goal.returns-in-Some-clause-flipped
returns-in-Some-clause-flipped c =
    let tree : Tree = c.args.self.now in
    let bytes : List ℕ = c.in-Some.bytes.now in
    let there : get nat_cmp tree.records c.args.node ≡ Some bytes = search rules in
    let has : HasByte (kept_by tree) c.args.node c.args.offset = search rules in
    let new = c.get_mut.follows.lender c.flip_byte.new.bytes in
    let W : List ℕ → Type 0 = λ xs. WritesThrough nat_cmp (nat_cmp c.args.node) tree.records xs new in
    let written : WritesThrough nat_cmp (nat_cmp c.args.node) tree.records c.flip_byte.new.bytes new = c.get_mut.follows.holds c.flip_byte.new.bytes in
    (flips_byte tree new c.args.node c.args.offset bytes has.0 c.requires there has.1 has.2 (subst W c.flip_byte.ensures written)).1

pub returns-in_default-clause-flipped : goal.returns-in_default-clause-flipped
returns-in_default-clause-flipped c =
    let tree : Tree = c.args.self.now in
    let none : get nat_cmp tree.records c.args.node ≡ None = search rules in
    let has : HasByte (kept_by tree) c.args.node c.args.offset = search rules in
    let absent : record_of (kept_by tree) c.args.node ≡ None = record_absent tree c.args.node c.requires.ordered none in
    let stored = has.1 in
    absurd cc
