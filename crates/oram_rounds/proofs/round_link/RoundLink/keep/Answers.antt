use Rattle.std.proofs.Common.{◌≡◌, arith, length, take, drop, sym, subst}
use Rattle.oram_rounds.specs.PathMessages.{ArePathStores}
use Rattle.oram_rounds.specs.Batches.{texts}
use Rattle.oram_rounds.proofs.SentBodies.{marked}
use Rattle.oram_rounds.proofs.Texts.{paths_whole, texts_none, texts_whole}
use Rattle.oram_rounds.proofs.round_link.RoundLink.keep.Goals as goal

pub invariant_of-self : goal.invariant_of-self
invariant_of-self g c =
    let i = c.self.inside in
    let all : c.len-self-inside.result ≡ length i.stores.items = omega (arith, c.len-self-inside.ensures) in
    let inv = c.self.invariant in (
      inv.0,
      omega (arith, all),
      paths_whole i.device i.record_len i.stores.items i.kept c.len-self-inside.result all inv.2 inv.3,
      subst (ArePathStores i.device i.record_len) (sym (texts_none i.stores.items c.len-self-inside.result all)) tt,
    )

pub returns-clause-kept : goal.returns-clause-kept
returns-clause-kept g c =
    let i = c.self.inside in
    let all : c.len-self-inside.result ≡ length i.stores.items = omega (arith, c.len-self-inside.ensures) in
    marked _ c.args.self.now c.self.view_is _ (texts (take c.len-self-inside.result i.stores.items)) (texts (drop c.len-self-inside.result i.stores.items)) _
    (sym (texts_whole i.stores.items i.kept c.len-self-inside.result all)) (texts_none i.stores.items c.len-self-inside.result all) c.none.ensures
