-- Two hosts with the same records are equal if the entries of both are by rising number.
use Rattle.std.proofs.Common.{◌≡◌, ◌≢◌, ℕ, ◌+◌, ◌<◌, arith, Bool, true, cond, List, [], ◌∷◌, ◌++◌, length, drop, Option, Some, None, unwrap_or, refl, sym, ap, ◌∙◌, subst, inl, inr}
use Rattle.std.specs.Option.{option_and_then, option_map}
use Rattle.std.specs.Map.{lookup}
use Rattle.std.specs.BTreeMap.{is_at}
use Rattle.std.specs.Cmp.{nat_cmp_is}
use Rattle.std.specs.Ordering.{is_eq, nat_cmp}
use Rattle.std.specs.declared.cmp.Ordering.TheVariants.{Equal}
use Rattle.std.proofs.lemmas.Bool.{cases_eq, cases_order}
use Rattle.oram_wire.specs.HostMessages.{answer_body}
use Rattle.oram_wire.specs.HostBodies.{IsAnswer}
use Rattle.oram_wire.specs.declared.host_messages.HostAnswer.{HostAnswer}
use Rattle.oram_wire.specs.declared.host_messages.HostAnswer.TheVariants.{Done, Payload, Refused}
use Rattle.oram_host.specs.Host.{Host, IsHost, IsKept, Kept, RisesFrom, record_of, tree_at}
use Rattle.oram_host.specs.Service.{Serves}
use Rattle.oram_host.specs.Swaps.{shape_at, stored_at}
use Rattle.oram_host.proofs.Flipped.{tree_kept_at}
use Rattle.oram_host.proofs.Records.{not_at}
use Rattle.oram_link_laws.specs.ResentStores.{IsSameHost, ResentExchangesLeaveTheSame, ResentStoresLeaveOneHost, TakesEach}
use Rattle.oram_link_laws.specs.Runs.{HostRun, acknowledged}
use Rattle.oram_link_laws.proofs.ResentStores.{resent_stores_leave_the_same, some_pair}

at_self : (n : ℕ) → is_at (nat_cmp n) n ≡ true
at_self n = ap is_eq (sym (nat_cmp_is n n Equal refl))

module _ {X : Type 0} where
  abbrev pub look : ℕ → List (ℕ × X) → Option X
  look n es = lookup (is_at (nat_cmp n)) es

  pub look_self : (e : ℕ × X) (es : List (ℕ × X)) → look e.0 (e ∷ es) ≡ Some e.1
  look_self e es = ap (λ (b : Bool). cond b (Some e.1) (look e.0 es)) (at_self e.0)

  pub look_past : (n : ℕ) (e : ℕ × X) (es : List (ℕ × X)) → e.0 ≢ n → look n (e ∷ es) ≡ look n es
  look_past n e es apart = ap (λ (b : Bool). cond b (Some e.1) (look n es)) (not_at n e.0 apart)

  look_below : (n least : ℕ) (es : List (ℕ × X)) → RisesFrom least es → n < least → look n es ≡ None
  look_below n least [] rises below = refl
  look_below n least (e ∷ es) rises below =
      look_past n e es (λ same. omega (arith, rises.0, below, same)) ∙ look_below n (e.0 + 1) es rises.1 (omega (arith, rises.0, below))

  some_none : (x : X) → Some x ≡ None → ⊥
  some_none x e = cc

  one_value : (x y : X) → Some x ≡ Some y → x ≡ y
  one_value x y e = ap (λ (o : Option X). unwrap_or o x) e

  same_entry : (x y : ℕ × X) (xs ys : List (ℕ × X)) → x.0 ≡ y.0 → x.1 ≡ y.1 → xs ≡ ys → x ∷ xs ≡ y ∷ ys
  same_entry x y xs ys first second rest =
      ap (λ (k : ℕ). let e : ℕ × X = (k, x.1) in e ∷ xs) first ∙ ap (λ (z : X). let e : ℕ × X = (y.0, z) in e ∷ xs) second ∙ ap (λ (zs : List (ℕ × X)). y ∷ zs) rest

  same_entries : (xs ys : List (ℕ × X)) (a b : ℕ) → RisesFrom a xs → RisesFrom b ys → ((n : ℕ) → look n xs ≡ look n ys) → xs ≡ ys
  same_entries [] [] a b rises_x rises_y same = refl
  same_entries [] (y ∷ ys) a b rises_x rises_y same = absurd (some_none y.1 (sym (look_self y ys) ∙ sym (same y.0)))
  same_entries (x ∷ xs) [] a b rises_x rises_y same = absurd (some_none x.1 (sym (look_self x xs) ∙ same x.0))
  same_entries (x ∷ xs) (y ∷ ys) a b rises_x rises_y same = elim (cases_order x.0 y.0) [
    | inr (inl below) ↦
        absurd (some_none x.1 (sym (look_self x xs) ∙ same x.0 ∙ look_past x.0 y ys (λ e. omega (arith, below, e)) ∙ look_below x.0 (y.0 + 1) ys rises_y.1 (omega (arith, below))))
    | inr (inr above) ↦
        absurd (some_none y.1 (sym (look_self y ys) ∙ sym (same y.0) ∙ look_past y.0 x xs (λ e. omega (arith, above, e)) ∙ look_below y.0 (x.0 + 1) xs rises_x.1 (omega (arith, above))))
    | inl e ↦
        let value : x.1 ≡ y.1 = one_value x.1 y.1 (sym (look_self x xs) ∙ same x.0 ∙ ap (λ (k : ℕ). look k (y ∷ ys)) e ∙ look_self y ys) in
        same_entry x y xs ys e value (same_entries xs ys (x.0 + 1) (y.0 + 1) rises_x.1 rises_y.1 (λ n. elim (cases_eq n x.0) [
          | inl here ↦ look_below n (x.0 + 1) xs rises_x.1 (omega (arith, here)) ∙ sym (look_below n (y.0 + 1) ys rises_y.1 (omega (arith, here, e)))
          | inr there ↦ sym (look_past n x xs (λ f. there (sym f))) ∙ same n ∙ look_past n y ys (λ f. there (sym f ∙ sym e))
        ]))
  ]

same_kept : (k j : Kept) → k.depth ≡ j.depth → k.record_len ≡ j.record_len → k.records ≡ j.records → k ≡ j
same_kept k j first second third =
    ap (λ (d : ℕ). let x : Kept = record { depth = d; record_len = k.record_len; records = k.records } in x) first
    ∙ ap (λ (l : ℕ). let x : Kept = record { depth = j.depth; record_len = l; records = k.records } in x) second
    ∙ ap (λ (rs : List (ℕ × List ℕ)). let x : Kept = record { depth = j.depth; record_len = j.record_len; records = rs } in x) third

same_tree : (o p : Option Kept) → ((k : Kept) → o ≡ Some k → IsKept k) → ((k : Kept) → p ≡ Some k → IsKept k)
    → option_map {T = Kept} {U = ℕ × ℕ} (λ k. (k.depth, k.record_len)) o ≡ option_map {T = Kept} {U = ℕ × ℕ} (λ k. (k.depth, k.record_len)) p
    → ((n : ℕ) → option_and_then (λ (k : Kept). record_of k n) o ≡ option_and_then (λ (k : Kept). record_of k n) p) → o ≡ p
same_tree None None is_o is_p shapes records = refl
same_tree None (Some j) is_o is_p shapes records = absurd cc
same_tree (Some k) None is_o is_p shapes records = absurd cc
same_tree (Some k) (Some j) is_o is_p shapes records =
    let alike : (k.depth, k.record_len) ≡ (j.depth, j.record_len) = some_pair _ _ shapes in
    ap (λ (x : Kept). Some x) (same_kept k j (ap (λ (s : ℕ × ℕ). s.0) alike) (ap (λ (s : ℕ × ℕ). s.1) alike)
    (same_entries k.records j.records 0 0 (is_o k refl).rising (is_p j refl).rising records))

pub shape_opened : (host : Host) (tree : ℕ) → shape_at host tree ≡ option_map {T = Kept} {U = ℕ × ℕ} (λ k. (k.depth, k.record_len)) (tree_at host tree)
unfolding shape_at
shape_opened host tree = refl

stored_opened : (host : Host) (tree node : ℕ) → stored_at host tree node ≡ option_and_then (λ (k : Kept). record_of k node) (tree_at host tree)
unfolding stored_at
stored_opened host tree node = refl

pub same_host : (a b : Host) → IsHost a → IsHost b → IsSameHost a b → a ≡ b
same_host a b is_a is_b same =
    same_entries a b 0 0 is_a.rising is_b.rising (λ t. same_tree (tree_at a t) (tree_at b t)
    (λ k e. (tree_kept_at a t k is_a e).kept) (λ k e. (tree_kept_at b t k is_b e).kept)
    (sym (shape_opened a t) ∙ same.shapes t ∙ shape_opened b t)
    (λ n. sym (stored_opened a t n) ∙ same.records t n ∙ stored_opened b t n))

pub resent_stores_leave_one_host : ResentStoresLeaveOneHost
resent_stores_leave_one_host host once part again begun rest are is_once is_again to_once to_part to_again =
    same_host once again is_once is_again (resent_stores_leave_the_same host once part again begun rest are to_once to_part to_again)

-- the answer with the one byte 0x80 says that the message was carried out
done_by : (answer : HostAnswer) → IsAnswer answer → 128 ∷ [] ≡ answer_body answer → answer ≡ Done
done_by Done is e = refl
done_by (Payload bytes) is e =
    let none : [] ≡ bytes = ap (λ (b : List ℕ). drop 1 b) e in
    absurd (let some : 0 < length bytes = is in let few : length bytes ≡ 0 = ap length (sym none) in omega arith)
done_by (Refused code) is e = absurd cc

pub taken_each : (bodies : List (List ℕ)) (host after : Host) → HostRun host (acknowledged bodies) after → TakesEach host bodies after
taken_each [] host after run = run
taken_each (body ∷ bodies) host after run =
    let call = run.1 in
    (run.0, subst (λ (answer : HostAnswer). Serves host body answer run.0) (done_by call.0 call.1 call.2) call.3, taken_each bodies run.0 after run.2)

pub resent_exchanges_leave_the_same : ResentExchangesLeaveTheSame
resent_exchanges_leave_the_same host once part again begun rest are to_once to_part to_again =
    resent_stores_leave_the_same host once part again begun rest are (taken_each (begun ++ rest) host once to_once)
    (taken_each begun host part to_part) (taken_each (begun ++ rest) part again to_again)
