use Rattle.std.proofs.Common.{◌≡◌, ◌≤◌, ◌++◌, ◌∷◌, [], ◌∙◌, ap, subst, ℕ, List, length, rules, arith}
use Rattle.std.proofs.lemmas.List.Elements.{All-get_or}
use Rattle.std.proofs.lemmas.Option.{get_or_from_slice_get, slice_get_within}
use Rattle.oram_host.specs.Path.{node_on}
use Rattle.oram_host.specs.Trees.{IsRecord}
use Rattle.oram_host.proofs.Paths.{popped, replaced_more}
use Rattle.oram_host.proofs.Records.{nodes-insert, not_at, still_some, whole-insert}
use Rattle.oram_host.proofs.trees.replace_records.Goals as goal

pub loop-copy-preserved-in-Ok : goal.loop-copy-preserved-in-Ok
loop-copy-preserved-in-Ok c =
    let inv = c.loop-copy.invariant in
    let depth = c.args.depth in
    let leaf = c.args.leaf in
    let all = c.args.copies.items in
    let rest = c.pop.new.self.items in
    let copy = c.in-Some.copy in
    let node = c.node_at-node.result in
    let split : c.loop-copy.copies.items ≡ rest ++ copy ∷ [] = c.in-Some.ensures.items in
    let taken = popped all c.loop-copy.copies.items rest copy inv.front split in
    let n : c.len-level.result ≡ length rest = search rules in
    let place : node ≡ node_on depth leaf (length rest) = c.node_at-node.ensures.place ∙ ap (node_on depth leaf) n in
    let fits : length rest ≤ depth = omega (arith, inv.count, taken.2) in
    let updates = c.in-Ok.ensures.updates in
    let entries = c.in-Ok.ensures.entries in
    record {
      count = omega arith;
      front = taken.0;
      path = replaced_more c.loop-copy.records c.insert.new.self all copy depth leaf (length rest) node place fits updates taken.1 (λ level above below. inv.path level (omega (arith, taken.2)) below);
      others = λ q off. updates.2 q (not_at node q (λ e. off (length rest) fits (e ∙ place))) ∙ inv.others q off;
      ordered = c.insert.ensures.ordered;
      room = λ level below. still_some c.loop-copy.records c.insert.new.self node (node_on depth leaf level) copy updates (inv.room level below);
      nodes = λ h. nodes-insert depth node copy c.loop-copy.records c.insert.new.self entries c.node_at-node.ensures.within (inv.nodes h);
      whole = λ record_len copies_fit h.
          let here = All-get_or (IsRecord record_len) all (length rest) [] (slice_get_within all (length rest) copy taken.1) copies_fit in
          let same = get_or_from_slice_get all (length rest) copy [] taken.1 in
          let P : List ℕ → Type 0 = λ r. IsRecord record_len r in
          whole-insert record_len node copy c.loop-copy.records c.insert.new.self entries (subst P same here) (inv.whole record_len copies_fit h);
    }
