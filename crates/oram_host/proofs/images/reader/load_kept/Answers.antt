use Rattle.std.proofs.Common.{◌∷◌, [], ◌++◌, ◌<◌, ◌^◌, ◌-◌, ◌+◌, ℕ, List, ap, subst, sym, rules}
use Rattle.std.specs.Int.{w32, to_be_bytes}
use Rattle.std.specs.Io.KnownBytes.{Consumes}
use Rattle.std.specs.List.{AllByRecursion}
use Rattle.std.proofs.KnownBytes.{Consumes-trans}
use Rattle.std.proofs.lemmas.Result.{err_from_is_err_and}
use Rattle.oram_host.specs.declared.images.ImageFault.TheVariants.{Content}
use Rattle.oram_host.specs.Host.{IsRecordOf, IsShape}
use Rattle.oram_host.specs.Image.{entries_text, record_text}
use Rattle.oram_host.specs.ImageReader.{IsFirstFault, next_byte, next_entries, next_kept, next_number, next_record}
use Rattle.oram_host.proofs.LoadedHosts.{all_there, are_nodes, are_whole}
use Rattle.oram_host.proofs.FieldReads.{fails_after, fails_first, fails_here}
use Rattle.oram_host.proofs.ReadImages.{kept_first, kept_length, kept_misshaped, kept_records}
use Rattle.oram_host.proofs.Transfers.{taken_twice}
use Rattle.oram_host.proofs.images.reader.load_kept.Goals as goal

pub returns-in_err-depth-clause-fault : goal.returns-in_err-depth-clause-fault
returns-in_err-depth-clause-fault g c =
    let p = err_from_is_err_and c.from_residual.result c.from_residual.ensures.1 in
    let why = c.in_err-depth.field-0.0 in
    rw (p.1, p.2) (fails_first why _ next_byte next_kept (λ text e. kept_first text why e) c.in_err-depth.ensures.fault)

pub returns-in_err-record_len-clause-fault : goal.returns-in_err-record_len-clause-fault
returns-in_err-record_len-clause-fault g c =
    let p = err_from_is_err_and c.from_residual-in_err-record_len.result c.from_residual-in_err-record_len.ensures.1 in
    let why = c.in_err-record_len.field-0.0 in
    let depth : ℕ = c.in_ok-depth.depth in
    rw (p.1, p.2) (fails_after why _ _ (depth ∷ []) next_number next_kept c.in_ok-depth.ensures.ok (λ rest e. kept_length depth rest why e) c.in_err-record_len.ensures.fault)

pub returns-then-not-is_shape-clause-fault : goal.returns-then-not-is_shape-clause-fault
returns-then-not-is_shape-clause-fault g c =
    let depth : ℕ = c.in_ok-depth.depth in
    let record_len : ℕ = c.in_ok-record_len.record_len in
    let fits : record_len < 2 ^ 32 = search rules in
    let not_shape : ¬ IsShape depth record_len = search rules in
    fails_here Content _ _ ((depth ∷ []) ++ to_be_bytes w32 record_len) next_kept (Consumes-trans _ _ _ _ _ c.in_ok-depth.ensures.ok c.in_ok-record_len.ensures.ok)
    (λ rest. kept_misshaped depth record_len rest fits not_shape)

pub returns-in_err-records-clause-fault : goal.returns-in_err-records-clause-fault
returns-in_err-records-clause-fault g c =
    let p = err_from_is_err_and c.from_residual-in_err-records.result c.from_residual-in_err-records.ensures.1 in
    let why = c.in_err-records.field-0.0 in
    let depth : ℕ = c.in_ok-depth.depth in
    let record_len : ℕ = c.in_ok-record_len.record_len in
    let nodes = 2 ^ (depth + 1) - 1 in
    let shape : IsShape depth record_len = search rules in
    let fault = subst (λ (n : ℕ). IsFirstFault (next_entries n (next_record n record_len)) why (g.R.Read.remaining c.read_number.new.reader)) c.node_count.ensures c.in_err-records.ensures.fault in
    rw (p.1, p.2) (fails_after why _ _ ((depth ∷ []) ++ to_be_bytes w32 record_len) (next_entries nodes (next_record nodes record_len)) next_kept
    (Consumes-trans _ _ _ _ _ c.in_ok-depth.ensures.ok c.in_ok-record_len.ensures.ok) (λ rest e. kept_records depth record_len rest why shape e) fault)

pub returns-clause-ok : goal.returns-clause-ok
returns-clause-ok g c =
    let depth : ℕ = c.in_ok-depth.depth in
    let record_len : ℕ = c.in_ok-record_len.record_len in
    let head = (depth ∷ []) ++ to_be_bytes w32 record_len in
    let es = c.in_ok-records.records.entries in
    let shape : IsShape depth record_len = search rules in
    let there = all_there c.node_count.result record_len es shape.long c.in_ok-records.ensures.each in
    subst (Consumes _ _) (ap (λ (xs : List (ℕ × List ℕ)). head ++ entries_text record_text xs) (sym there))
    (Consumes-trans _ _ _ head (entries_text record_text es) (Consumes-trans _ _ _ _ _ c.in_ok-depth.ensures.ok c.in_ok-record_len.ensures.ok) c.in_ok-records.ensures.ok)

pub returns-clause-tree : goal.returns-clause-tree
returns-clause-tree g c =
    let depth : ℕ = c.in_ok-depth.depth in
    let record_len : ℕ = c.in_ok-record_len.record_len in
    let es = c.in_ok-records.records.entries in
    let nodes = 2 ^ (depth + 1) - 1 in
    let each = subst (λ (n : ℕ). AllByRecursion (IsRecordOf n record_len) es) c.node_count.ensures c.in_ok-records.ensures.each in
    record { shape = search rules; ordered = c.in_ok-records.ensures.ordered; nodes = are_nodes depth record_len es each; whole = are_whole nodes record_len es each }

pub returns-in_err-record_len-clause-consumed : goal.returns-in_err-record_len-clause-consumed
returns-in_err-record_len-clause-consumed g c = taken_twice _ _ _ c.read_byte.ensures.consumed c.read_number.ensures.consumed

pub returns-then-not-is_shape-clause-consumed : goal.returns-then-not-is_shape-clause-consumed
returns-then-not-is_shape-clause-consumed g c = taken_twice _ _ _ c.read_byte.ensures.consumed c.read_number.ensures.consumed

pub returns-in_err-records-clause-consumed : goal.returns-in_err-records-clause-consumed
returns-in_err-records-clause-consumed g c = taken_twice _ _ _ (taken_twice _ _ _ c.read_byte.ensures.consumed c.read_number.ensures.consumed) c.load_records.ensures.consumed

pub returns-clause-consumed : goal.returns-clause-consumed
returns-clause-consumed g c = taken_twice _ _ _ (taken_twice _ _ _ c.read_byte.ensures.consumed c.read_number.ensures.consumed) c.load_records.ensures.consumed
