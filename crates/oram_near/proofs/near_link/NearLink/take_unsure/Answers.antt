use Rattle.std.proofs.Common.{◌≤◌, ◌++◌, List, ℕ, length, map, refl, sym, ap, ◌∙◌, subst, append-nil}
use Rattle.std.specs.List.{FoldsTo}
use Rattle.oram_geometry.specs.Sizes.{depth_of}
use Rattle.oram_levels.specs.Messages.{LevelsMessage}
use Rattle.oram_rounds.specs.Batches.{texts}
use Rattle.oram_near.specs.Near.{Near, rest_of}
use Rattle.oram_near.specs.NearCalls.{NearValue, TakesNear, TakesUnsure, stores_among}
use Rattle.oram_near.specs.PathRequests.{far_of, request_of, store_in}
use Rattle.oram_near.specs.declared.path_message.PathMessage.{PathMessage}
use Rattle.oram_near.proofs.Sent.{encoded_by, held_bodies, held_by, held_in, kept_by, paths_by}
use Rattle.oram_near.proofs.near_link.NearLink.take_unsure.Goals as goal

pub invariant_of-self-2 : goal.invariant_of-self-2
invariant_of-self-2 g c =
    let i = c.self.inside in
    let inv = c.self.invariant in
    let near = i.near in
    let old = texts i.unsure.items in
    let held = texts c.hold.new.stores.items in
    let sent = texts c.in_ok-messages.messages.items in
    let items = c.in_ok-requests.requests.items in
    let requests = map request_of items in
    let paths = paths_by i.device c.record_len-record_len.result near.record_len items items c.record_len-record_len.ensures.value refl c.in_ok-requests.ensures.1 in
    let encoded = encoded_by i.device near c.levels-levels.result c.record_len-record_len.result c.deref.result.now items sent c.levels-levels.ensures.value c.record_len-record_len.ensures.value c.deref.ensures.value c.in_ok-messages.ensures in
    let holds = held_by old (texts c.reserve.new.self.items) held sent (map (far_of i.device near.levels near.record_len) requests) c.hold.ensures (ap texts c.in_ok-reserve.ensures.items) encoded in
    let levels = c.store_each.ensures.sizes.0 in
    let len = c.store_each.ensures.sizes.1 in
    let P : ℕ → Type 0 = λ n. n ≤ depth_of i.device 0 in (
      inv.0,
      inv.1 ∙ sym len,
      subst P (sym levels) inv.2,
      kept_by i.device near c.store_each.new.near held levels len (held_bodies i.device near.levels near.record_len old held sent requests inv.2 paths inv.3 encoded holds),
      ap length c.store_each.ensures.rest ∙ inv.4,
    )

pub returns-clause-ok : goal.returns-clause-ok
returns-clause-ok g c =
    let i = c.self.inside in
    let inv = c.self.invariant in
    let near = i.near in
    let old = texts i.unsure.items in
    let held = texts c.hold.new.stores.items in
    let sent = texts c.in_ok-messages.messages.items in
    let items = c.in_ok-requests.requests.items in
    let requests = map request_of items in
    let paths = paths_by i.device c.record_len-record_len.result near.record_len items items c.record_len-record_len.ensures.value refl c.in_ok-requests.ensures.1 in
    let encoded = encoded_by i.device near c.levels-levels.result c.record_len-record_len.result c.deref.result.now items sent c.levels-levels.ensures.value c.record_len-record_len.ensures.value c.deref.ensures.value c.in_ok-messages.ensures in
    let holds = held_by old (texts c.reserve.new.self.items) held sent (map (far_of i.device near.levels near.record_len) requests) c.hold.ensures (ap texts c.in_ok-reserve.ensures.items) encoded in
    let stored = subst (λ (r : List PathMessage). FoldsTo {P = Near} (TakesNear i.device) near (map request_of r) c.store_each.new.near) c.deref-2.ensures.value c.store_each.ensures.stored in
    let bodies = texts c.args.stores.now in
    let now = held_in i.device near.levels near.record_len old held sent requests inv.2 paths inv.3 encoded holds in
    let after : NearValue _ _ = record { inner = i.inner; empty = record { maker = i.empty; rest = rest_of c.store_each.new.near }; device = i.device; near = c.store_each.new.near; unsure = map store_in held; coming = i.coming } in
    subst (λ (l : NearValue _ _). TakesUnsure l bodies after) c.self.view_is (record {
      requests = requests;
      named = sym (append-nil bodies) ∙ c.in_ok-requests.ensures.0;
      paths = paths;
      stored = stored;
      same = ap (λ (u : List LevelsMessage). let x : NearValue _ _ = record after { unsure = u } in x) now
          ∙ ap (λ (r : List ℕ). let x : NearValue _ _ = record { inner = i.inner; empty = record { maker = i.empty; rest = r }; device = i.device; near = c.store_each.new.near; unsure = map store_in old ++ stores_among (map (far_of i.device near.levels near.record_len) requests); coming = i.coming } in x) c.store_each.ensures.rest;
    })
