use Rattle.std.proofs.Common.{◌≡◌, [], None, List, ℕ, ap, ◌∙◌, inl, rules}
use Rattle.std.specs.Ordering.{nat_cmp}
use Rattle.std.specs.BTreeMap.{get, insert_entry}
use Rattle.oram_host.proofs.Records.{nodes-insert, records-insert_room, whole-insert}
use Rattle.oram_host.proofs.trees.make_room_at.Goals as goal

pub returns-clause-same : goal.returns-clause-same
returns-clause-same c =
    let none : get nat_cmp c.args.records.now c.args.node ≡ None = search rules in
    let empty : c.from_vec.result ≡ [] = search rules in
    let entries : c.insert.new.self.entries ≡ insert_entry nat_cmp c.args.records.now.entries c.args.node [] = c.in_ok-insert.ensures.entries ∙ ap (λ (b : List ℕ). insert_entry nat_cmp c.args.records.now.entries c.args.node b) empty in
    rw entries (records-insert_room c.args.node c.args.records.now.entries none)

pub returns-clause-nodes : goal.returns-clause-nodes
returns-clause-nodes c = λ depth within h. nodes-insert depth c.args.node c.from_vec.result c.args.records.now c.insert.new.self c.in_ok-insert.ensures.entries within h

pub returns-clause-whole : goal.returns-clause-whole
returns-clause-whole c = λ record_len h.
    let empty : c.from_vec.result ≡ [] = search rules in
    whole-insert record_len c.args.node c.from_vec.result c.args.records.now c.insert.new.self c.in_ok-insert.ensures.entries (inl empty) h
