-- A host with stamps beside one without them.
use Rattle.std.proofs.Common.{◌≡◌, ◌≢◌, ℕ, ◌+◌, ◌<◌, ◌≤◌, ◌^◌, cond, true, false, List, [], ◌∷◌, ◌++◌, drop, take, replicate, Option, Some, refl, sym, ap, ◌∙◌, subst, inl, inr, arith}
use Rattle.std.specs.BTreeMap.{is_at}
use Rattle.std.specs.Int.{w32, from_be_bytes, to_be_bytes}
use Rattle.std.specs.Ordering.{nat_cmp}
use Rattle.std.proofs.lemmas.List.{drop_at, take_at}
use Rattle.std.proofs.lemmas.Nat.{from_be_bytes-to_be_bytes_4}
use Rattle.oram_wire.specs.HostBodies.{HasNumbers, IsMisfit}
use Rattle.oram_wire.specs.HostMessages.{put_body, request_body}
use Rattle.oram_wire.specs.declared.host_messages.HostAnswer.TheVariants.{Done, Payload}
use Rattle.oram_wire.specs.declared.host_messages.HostRequest.{HostRequest}
use Rattle.oram_wire.specs.declared.host_messages.HostRequest.TheVariants.{Fetch, Put, Shape, Store}
use Rattle.oram_host.specs.Answers.{Answers, IsFetched, IsPut}
use Rattle.oram_host.specs.Host.{Host, Kept, record_of, tree_at}
use Rattle.oram_host.specs.Path.{node_on, record_at}
use Rattle.oram_host.specs.Service.{Serves}
use Rattle.oram_link_laws.specs.Runs.{HostRun}
use Rattle.oram_link_laws.proofs.Put.{first}
use Rattle.oram_link_laws.proofs.Same.{look_past}
use Rattle.oram_rounds.proofs.KeptPaths.{serves_fetch}
use Rattle.oram_client.specs.TreesApart.{AgreeBeside, LeavesTreeOut, TreesApartExample, fetched_alone, no_stamps, one_path, one_record, stamp_first, stamps_of, with_stamps}
use Rattle.oram_client.specs.declared.identity.TheConstants.{STAMP_TREE}

abbrev stamp : ℕ → List ℕ
stamp byte = replicate 48 byte

abbrev entry : ℕ → ℕ × Kept
entry byte = (STAMP_TREE, stamps_of byte)

agree : AgreeBeside STAMP_TREE (with_stamps 1) no_stamps
agree t apart = ap (λ (o : Option Kept). cond (is_at (nat_cmp t) 0) (Some one_record) o) (look_past t (entry 1) [] (λ same. apart (sym same)))

other_trees : (t : ℕ) → t ≢ STAMP_TREE → tree_at (with_stamps 2) t ≡ tree_at (with_stamps 1) t
other_trees t apart =
    ap (λ (o : Option Kept). cond (is_at (nat_cmp t) 0) (Some one_record) o)
    (look_past t (entry 2) [] (λ same. apart (sym same)) ∙ sym (look_past t (entry 1) [] (λ same. apart (sym same))))

is_put : IsPut (with_stamps 1) STAMP_TREE 0 (stamp 2) (with_stamps 2)
is_put = record {
  kept = stamps_of 1;
  changed = stamps_of 2;
  shaped = refl;
  puts = record {
    depth = refl;
    record_len = refl;
    node_in = omega arith;
    whole = refl;
    put = refl;
    others = λ other apart.
        (let new : ℕ × List ℕ = (0, stamp 2) in let old : ℕ × List ℕ = (0, stamp 1) in let rest : List (ℕ × List ℕ) = (1, stamp 1) ∷ [] in
        look_past other new rest (λ same. apart (sym same)) ∙ sym (look_past other old rest (λ same. apart (sym same))));
  };
  keeps = record { here = refl; others = other_trees };
}

only_put : (message : HostRequest) → HasNumbers message → put_body STAMP_TREE 0 (stamp 2) ≡ request_body message → Answers (with_stamps 1) message Done (with_stamps 2)
only_put (Fetch t l) numbers e = absurd (let three : 3 ≡ 1 = ap first e in omega (arith, three))
only_put (Store t l r) numbers e = absurd (let three : 3 ≡ 2 = ap first e in omega (arith, three))
only_put (Shape t d l) numbers e = absurd (let three : 3 ≡ 4 = ap first e in omega (arith, three))
only_put (Put t n bytes) numbers e =
    let same_tree : STAMP_TREE ≡ t = ap (λ (b : List ℕ). first (drop 1 b)) e in
    let behind : to_be_bytes w32 0 ++ stamp 2 ≡ to_be_bytes w32 n ++ bytes = ap (λ (b : List ℕ). drop 2 b) e in
    let number : to_be_bytes w32 0 ≡ to_be_bytes w32 n = ap (take 4) behind ∙ take_at (to_be_bytes w32 n) bytes 4 refl in
    let same_node : 0 ≡ n = sym (from_be_bytes-to_be_bytes_4 0 (omega arith)) ∙ ap (from_be_bytes w32) number ∙ from_be_bytes-to_be_bytes_4 n numbers in
    let same_bytes : stamp 2 ≡ bytes = ap (drop 4) behind ∙ drop_at (to_be_bytes w32 n) bytes 4 refl in
    subst (λ (x : ℕ). IsPut (with_stamps 1) x n bytes (with_stamps 2)) same_tree
    (subst (λ (x : ℕ). IsPut (with_stamps 1) STAMP_TREE x bytes (with_stamps 2)) same_node (subst (λ (x : List ℕ). IsPut (with_stamps 1) STAMP_TREE 0 x (with_stamps 2)) same_bytes is_put))

put_served : Serves (with_stamps 1) (put_body STAMP_TREE 0 (stamp 2)) Done (with_stamps 2)
put_served = record { request = only_put; op = λ e. absurd cc; misfit = λ m. absurd (let both : true ≡ false = m.1 in cc) }

path_at : record_of one_record (node_on 0 0 0) ≡ Some (record_at 2 one_path 0)
unfolding node_on
path_at = refl

on_path : (level : ℕ) → level ≤ 0 → record_of one_record (node_on 0 0 level) ≡ Some (record_at 2 one_path level)
on_path level low =
    let none : 0 ≡ level = omega (arith, low) in
    let P : ℕ → Type 0 = λ k. record_of one_record (node_on 0 0 k) ≡ Some (record_at 2 one_path k) in subst P none path_at

fetched : (host : Host) → tree_at host 0 ≡ Some one_record → HostRun host fetched_alone host
fetched host there =
    let is : IsFetched host 0 0 one_path = record { kept = one_record; shaped = there; leaf_in = omega arith; path = record { whole = refl; each = on_path } } in
    (host, (Payload one_path, omega arith, refl, serves_fetch host host 0 0 (Payload one_path) (omega arith) (is, refl)), refl)

leaves : LeavesTreeOut STAMP_TREE stamp_first fetched_alone
leaves = inl ((Put STAMP_TREE 0 (stamp 2), omega arith, refl, refl), inr ([], refl, inr (Fetch 0 0, omega arith, refl, λ e. (let zero_is : 0 ≡ 254 = e in omega (arith, zero_is))), refl))

pub trees_apart_example : TreesApartExample
trees_apart_example = (agree, (with_stamps 2, (Done, tt, refl, put_served), fetched (with_stamps 2) refl), leaves, fetched no_stamps refl)
