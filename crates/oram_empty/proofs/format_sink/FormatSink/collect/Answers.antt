use Rattle.std.proofs.Common.{rules, ◌≡◌, ℕ, List, ap, sym, ◌∙◌, subst}
use Rattle.std.specs.Vec.{with_items}
use Rattle.std.proofs.lemmas.List.{with_items_is}
use Rattle.oram_wire.specs.HostMessages.{request_body}
use Rattle.oram_wire.specs.HostBodies.{request_of}
use Rattle.oram_wire.specs.declared.host_messages.HostView.{HostView}
use Rattle.oram_empty.specs.Collecting.{Collection, IsCollection, collected, collection_of}
use Rattle.oram_empty.proofs.Collected.{collected_one}
use Rattle.oram_empty.proofs.format_sink.FormatSink.collect.Goals as goal

module _ (c : goal.After-self-1) where
  items_are : (with_items c.self.inside.bytes c.collect_put.new.bytes).items ≡ c.collect_put.new.bytes
  items_are = with_items_is c.self.inside.bytes c.collect_put.new.bytes (c.collect_put.auto.bytes ∙ c.deref_mut.ensures.len)

  -- the collection that bytes have here
  abbrev with_bytes : List ℕ → Collection
  with_bytes bytes = collection_of c.self.inside.device c.self.inside.record_len c.self.inside.near bytes

  done : with_bytes c.collect_put.new.bytes ≡ collected (with_bytes c.self.inside.bytes.items) c.in-Ok-Put.tree c.in-Ok-Put.node c.in-Ok-Put.bytes.now
  done =
      let of = λ (n : ℕ) (bytes : List ℕ). collection_of c.self.inside.device n c.self.inside.near bytes in
      ap (λ (n : ℕ). of n c.collect_put.new.bytes) (sym c.if-bytes-self.false) ∙ c.collect_put.ensures.collected
      ∙ ap (λ (n : ℕ). collected (of n c.deref_mut.result.now) c.in-Ok-Put.tree c.in-Ok-Put.node c.in-Ok-Put.bytes.now) c.if-bytes-self.false
      ∙ ap (λ (bytes : List ℕ). collected (with_bytes bytes) c.in-Ok-Put.tree c.in-Ok-Put.node c.in-Ok-Put.bytes.now) c.deref_mut.ensures.value

pub invariant_of-self : goal.invariant_of-self
invariant_of-self c =
    subst (λ (bytes : List ℕ). IsCollection (with_bytes c bytes)) (sym (items_are c))
    (subst (λ (n : ℕ). IsCollection (collection_of c.self.inside.device n c.self.inside.near c.collect_put.new.bytes)) c.if-bytes-self.false c.collect_put.ensures.whole)

pub returns : goal.returns
returns c =
    let view_is = c.in-Ok-Put.field-0-is in
    collected_one c.args.self.now (with_bytes c (with_items c.self.inside.bytes c.collect_put.new.bytes).items) c.args.body.now c.in-Ok-Put.bytes.now c.in-Ok-Put.tree c.in-Ok-Put.node
    (search rules)
    (c.if-bytes-self.false ∙ ap (λ (s : Collection). s.record_len) c.self.view_is)
    (c.in-Ok-Put.ensures.found ∙ ap (λ (v : HostView). request_body (request_of v)) view_is)
    (λ message few same. ap request_of (sym view_is) ∙ c.in-Ok-Put.ensures.only message few same)
    (ap (with_bytes c) (items_are c) ∙ done c ∙ ap (λ (s : Collection). collected s c.in-Ok-Put.tree c.in-Ok-Put.node c.in-Ok-Put.bytes.now) c.self.view_is)
