-- An honest host receives the outstanding message.
use Rattle.std.proofs.Math.Path.{fun_ext}
use Rattle.std.proofs.Common.{◌≡◌, ◌⊎◌, ℕ, ◌^◌, ◌<◌, List, [], ◌∷◌, Option, Some, None, unwrap_or, refl, ap, sym, ◌∙◌, subst, arith, inl, inr}
use Rattle.oram_geometry.specs.Sizes.{trees_of, depth_of}
use Rattle.oram_trace.specs.declared.entries.Entry.{Entry}
use Rattle.oram_wire.specs.declared.host_messages.HostAnswer.{HostAnswer}
use Rattle.oram_host.specs.Host.{Host}
use Rattle.oram_host.specs.Service.{Serves}
use Rattle.oram_semantics.specs.Messages.{requested, written}
use Rattle.oram_semantics.specs.Moves.{records_after}
use Rattle.oram_semantics.specs.Scheme.{Scheme}
use Rattle.oram_semantics.specs.State.{State, World}
use Rattle.oram_semantics.proofs.Bounds.{depth_small, some_trees}
use Rattle.oram_host_laws.specs.Honest.{KeepsAll}
use Rattle.oram_host_laws.specs.HostRecords.{HostsWork}
use Rattle.oram_host_laws.proofs.Handed.{IsGood, IsFull, handed}

again_at : (v : Scheme) (records : ℕ → ℕ → List ℕ) (m : List ℕ) (i n : ℕ)
    → records_after v (records_after v records (m ∷ [])) (m ∷ []) i n ≡ records_after v records (m ∷ []) i n
again_at v records m i n = elim (written v m i n) as (λ (o : Option (List ℕ)). unwrap_or o (unwrap_or o (records i n)) ≡ unwrap_or o (records i n)) [ None ↦ refl | Some r ↦ refl ]

-- the same message again changes nothing
pub again : (v : Scheme) (records : ℕ → ℕ → List ℕ) (m : List ℕ)
    → records_after v (records_after v records (m ∷ [])) (m ∷ []) ≡ records_after v records (m ∷ [])
again v records m = fun_ext (λ i. fun_ext (λ n. again_at v records m i n))

again_now : (v : Scheme) (s : State) (w : World) (host : Host) → HostsWork v s w host
    → records_after v w.records (s.message ∷ []) ≡ w.records
again_now v s w host b =
    ap (λ (r : ℕ → ℕ → List ℕ). records_after v r (s.message ∷ [])) b.leaves ∙ again v b.before s.message ∙ sym b.leaves

-- It gives a good answer, or has no room.
abbrev pub Met : Scheme → State → World → Host → HostAnswer → Host → Type 0
Met v s w host answer after = IsGood v w.records (requested s.message) answer after ⊎ IsFull host answer after

pub met : (v : Scheme) (s : State) (w : World) (host after : Host) (answer : HostAnswer) → HostsWork v s w host
    → Serves host s.message answer after → Met v s w host answer after
met v s w host after answer b serves =
    let e : Entry = requested s.message in
    let some : 0 < trees_of v.device = some_trees v.device in
    let below : e.tree < trees_of v.device = omega (arith, b.posted.tree) in
    let fits : e.leaf < 2 ^ depth_of v.device e.tree = subst (λ (i : ℕ). e.leaf < 2 ^ depth_of v.device i) (sym b.posted.tree) b.posted.leaf in
    let from : (r : ℕ → ℕ → List ℕ) → KeepsAll v r host → IsGood v (records_after v r (s.message ∷ [])) e answer after ⊎ IsFull host answer after =
    λ r keeps. handed v r e s.message host after answer (depth_small v.device e.tree) below fits keeps b.posted.whole serves in
    elim b.keeps [
      | inl lacks ↦ subst (λ (r : ℕ → ℕ → List ℕ). IsGood v r e answer after ⊎ IsFull host answer after) (sym b.leaves) (from b.before lacks)
      | inr whole ↦ subst (λ (r : ℕ → ℕ → List ℕ). IsGood v r e answer after ⊎ IsFull host answer after) (again_now v s w host b) (from w.records whole)
    ]

-- and it keeps the records as before, or as the message leaves them
pub met_hosts : (v : Scheme) (s : State) (w : World) (host after : Host) (answer : HostAnswer) → HostsWork v s w host
    → Met v s w host answer after → HostsWork v s w after
met_hosts v s w host after answer b (inl good) = record { posted = b.posted; before = b.before; leaves = b.leaves; keeps = inr good.keeps }
met_hosts v s w host after answer b (inr full) = subst (HostsWork v s w) (sym full.unchanged) b
