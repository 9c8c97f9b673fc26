use Rattle.std.proofs.Common.{◌≡◌, ◌-◌, ◌<◌, ◌≤◌, ◌++◌, ℕ, length}
use Rattle.oram_geometry.specs.Sizes.{record_len_of}
use Rattle.oram_empty.specs.EmptyRecords.{joined}
use Rattle.oram_empty.specs.KeptDigests.{upper_record}
use Rattle.oram_empty.proofs.digests.EmptyDigests.append_records.Given as goal

abbrev pub invariant-loop-level : goal.invariant-loop-level
invariant-loop-level g l =
    let cipher = g.S.Sealer.cipher l.sealer in
    record {
      appended : l.path.items ≡ l.fn.path.items ++ joined (upper_record cipher l.self l.tree l.leaf) l.first (l.level - l.first);
      lengths : (k : ℕ) → l.first ≤ k → k < l.level → length (upper_record cipher l.self l.tree l.leaf k) ≡ record_len_of l.self.device cipher.overhead;
    }
