use Rattle.std.proofs.Common.{◌≡◌, ℕ, List, Option, None, Some, Result, Ok, Err, subst}
use Rattle.std.specs.Prelude.{IfErr, IfOk, OnOk}
use Rattle.oram_host.specs.declared.refusals.HostRefusal.{HostRefusal}
use Rattle.oram_levels.specs.Messages.{StoreLevels}
use Rattle.oram_store.specs.Messages.{OfHost, OfLevels}
use Rattle.oram_store.specs.declared.groups.PathStore.{PathStore}
use Rattle.oram_wire.specs.declared.host_messages.HostRequest.TheVariants as request
use Rattle.oram_store.proofs.Allowed.{whole_path_refusal}
use Rattle.oram_store.proofs.Responses.{if_ok_leads}
use Rattle.oram_store.proofs.store.FileStore.accepted_store.Goals as goal

one_store : (store : PathStore) (number first leaf : ℕ) (records : List ℕ) → OfLevels (StoreLevels store.number store.first store.leaf store.records.now) ≡ OfLevels (StoreLevels number first leaf records)
    → OfHost (request.Store store.number store.leaf store.records.now) ≡ OfHost (request.Store number leaf records)
one_store store number first leaf records is = cc

from_there : (store : PathStore) (number first leaf : ℕ) (records : List ℕ) → OfLevels (StoreLevels store.number store.first store.leaf store.records.now) ≡ OfLevels (StoreLevels number first leaf records)
    → store.first ≡ first
from_there store number first leaf records is = cc

if_ok_two : {V E : Type 0} (result : Result V E) (P Q R : V → Type 0) → IfOk result P → IfOk result Q → ((v : V) → P v → Q v → R v) → IfOk result R
if_ok_two (Ok v) P Q R p q leads = leads v p q
if_ok_two (Err e) P Q R p q leads = tt

pub returns-clause-message : goal.returns-clause-message
returns-clause-message g c =
    if_ok_leads c.accepted_levels.result _ _ c.accepted_levels.ensures.message (λ store is. one_store store c.args.number 0 c.args.leaf c.args.records.now is)

pub returns-clause-fits : goal.returns-clause-fits
returns-clause-fits g c =
    if_ok_two c.accepted_levels.result _ _ _ c.accepted_levels.ensures.message c.accepted_levels.ensures.fits
    (λ store is fits. ((fits.0, from_there store c.args.number 0 c.args.leaf c.args.records.now is), fits.1))

pub returns-clause-allowed : goal.returns-clause-allowed
returns-clause-allowed g c =
    subst (λ (why : Option HostRefusal). OnOk c.accepted_levels.result (why ≡ None)) (whole_path_refusal c.args.self.now.trees c.args.number c.args.leaf c.args.records.now) c.accepted_levels.ensures.allowed

pub returns-clause-refused : goal.returns-clause-refused
returns-clause-refused g c =
    subst (λ (why : Option HostRefusal). IfErr c.accepted_levels.result (λ e. why ≡ Some e)) (whole_path_refusal c.args.self.now.trees c.args.number c.args.leaf c.args.records.now) c.accepted_levels.ensures.refused
