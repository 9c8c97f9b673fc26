-- The examples, which are computed.
use Rattle.std.proofs.Common.{◌≡◌, ◌≢◌, ℕ, zero, suc, ◌≤◌, arith, true, false, List, [], ◌∷◌, drop, Some, None, refl, sym, ap, ◌∙◌, subst, inl, inr}
use Rattle.std.specs.Int.{w32, to_be_bytes, from_be_bytes}
use Rattle.std.proofs.lemmas.Nat.{from_be_bytes-to_be_bytes_4}
use Rattle.oram_wire.specs.HostMessages.{fetch_body, request_body}
use Rattle.oram_wire.specs.HostBodies.{HasNumbers}
use Rattle.oram_wire.specs.declared.host_messages.HostRequest.{HostRequest}
use Rattle.oram_wire.specs.declared.host_messages.HostRequest.TheVariants.{Fetch, Put, Shape, Store}
use Rattle.oram_wire.specs.declared.host_messages.HostAnswer.TheVariants.{Done, Payload}
use Rattle.oram_host.specs.Answers.{Answers, IsFetched, IsStored}
use Rattle.oram_host.specs.Host.{Host, IsHost, Kept, record_of, tree_at}
use Rattle.oram_host.specs.Path.{node_on, record_at}
use Rattle.oram_host.specs.Service.{Serves}
use Rattle.oram_host_laws.specs.Honest.{Takes}
use Rattle.oram_link_laws.specs.Examples.{MendingExample, OverlayExample, ResendingExample, StreamExample, both_stores, over_bytes, small_host, store_left, store_right}
use Rattle.oram_link_laws.specs.Overlay.{IsLaidOver, fetched_path}
use Rattle.oram_link_laws.specs.ResentStores.{IsStore, TakesEach}
use Rattle.oram_link_laws.specs.Runs.{HostRun, acknowledged}
use Rattle.oram_link_laws.proofs.Put.{first, serves_so}
use Rattle.oram_link_laws.proofs.Same.{look_past}

-- the tree of the host

abbrev tree : ℕ → ℕ → ℕ → Kept
tree root left right = record { depth = 1; record_len = 1; records = (0, root ∷ []) ∷ (1, left ∷ []) ∷ (2, right ∷ []) ∷ [] }

no_more : (root left right n : ℕ) → record_of (tree root left right) (suc (suc (suc n))) ≡ None
no_more root left right n =
    let m : ℕ = suc (suc (suc n)) in
    let a : ℕ × List ℕ = (0, root ∷ []) in
    let b : ℕ × List ℕ = (1, left ∷ []) in
    let c : ℕ × List ℕ = (2, right ∷ []) in
    let not_a : 0 ≢ m = λ e. omega (arith, e) in
    let not_b : 1 ≢ m = λ e. omega (arith, e) in
    let not_c : 2 ≢ m = λ e. omega (arith, e) in
    look_past m a (b ∷ c ∷ []) not_a ∙ look_past m b (c ∷ []) not_b ∙ look_past m c [] not_c

other_tree : (old new : Kept) (other : ℕ) → other ≢ 0 → tree_at ((0, new) ∷ []) other ≡ tree_at ((0, old) ∷ []) other
other_tree old new other apart =
    let was : ℕ × Kept = (0, old) in
    let is : ℕ × Kept = (0, new) in
    look_past other is [] (λ e. apart (sym e)) ∙ sym (look_past other was [] (λ e. apart (sym e)))

-- its two paths

left_path : (root left right level : ℕ) → level ≤ 1 → record_of (tree root left right) (node_on 1 0 level) ≡ Some (record_at 1 (root ∷ left ∷ []) level)
unfolding node_on
left_path root left right zero low = refl
left_path root left right (suc zero) low = refl
left_path root left right (suc (suc n)) low = absurd (omega (arith, low))

right_path : (root left right level : ℕ) → level ≤ 1 → record_of (tree root left right) (node_on 1 1 level) ≡ Some (record_at 1 (root ∷ right ∷ []) level)
unfolding node_on
right_path root left right zero low = refl
right_path root left right (suc zero) low = refl
right_path root left right (suc (suc n)) low = absurd (omega (arith, low))

left_others : (root left right x y n : ℕ) → ((level : ℕ) → level ≤ 1 → n ≢ node_on 1 0 level) → record_of (tree x y right) n ≡ record_of (tree root left right) n
unfolding node_on
left_others root left right x y zero off = absurd (off 0 (omega arith) refl)
left_others root left right x y (suc zero) off = absurd (off 1 (omega arith) refl)
left_others root left right x y (suc (suc zero)) off = refl
left_others root left right x y (suc (suc (suc n))) off = no_more x y right n ∙ sym (no_more root left right n)

right_others : (root left right x y n : ℕ) → ((level : ℕ) → level ≤ 1 → n ≢ node_on 1 1 level) → record_of (tree x left y) n ≡ record_of (tree root left right) n
unfolding node_on
right_others root left right x y zero off = absurd (off 0 (omega arith) refl)
right_others root left right x y (suc zero) off = refl
right_others root left right x y (suc (suc zero)) off = absurd (off 1 (omega arith) refl)
right_others root left right x y (suc (suc (suc n))) off = no_more x left y n ∙ sym (no_more root left right n)

-- the two STOREs

left_stored : (root left right x y : ℕ) → IsStored (small_host root left right) 0 0 (x ∷ y ∷ []) (small_host x y right)
left_stored root left right x y = record {
  kept = tree root left right;
  stored = tree x y right;
  shaped = refl;
  stores = record {
    depth = refl;
    record_len = refl;
    leaf_in = omega arith;
    path = record { whole = refl; each = left_path x y right };
    others = left_others root left right x y;
  };
  keeps = record { here = refl; others = other_tree (tree root left right) (tree x y right) };
}

right_stored : (root left right x y : ℕ) → IsStored (small_host root left right) 0 1 (x ∷ y ∷ []) (small_host x left y)
right_stored root left right x y = record {
  kept = tree root left right;
  stored = tree x left y;
  shaped = refl;
  stores = record {
    depth = refl;
    record_len = refl;
    leaf_in = omega arith;
    path = record { whole = refl; each = right_path x left y };
    others = right_others root left right x y;
  };
  keeps = record { here = refl; others = other_tree (tree root left right) (tree x left y) };
}

abbrev is_left : IsStore store_left
is_left = record { tree = 0; leaf = 0; records = 20 ∷ 21 ∷ []; fits = omega arith; named = refl }

abbrev is_right : IsStore store_right
is_right = record { tree = 0; leaf = 1; records = 30 ∷ 31 ∷ []; fits = omega arith; named = refl }

left_taken : (root left right : ℕ) → Takes (small_host root left right) store_left (small_host 20 21 right)
left_taken root left right =
    serves_so (small_host root left right) (small_host 20 21 right) store_left is_left (left_stored root left right 20 21)

right_taken : (root left right : ℕ) → Takes (small_host root left right) store_right (small_host 30 left 31)
right_taken root left right =
    serves_so (small_host root left right) (small_host 30 left 31) store_right is_right (right_stored root left right 30 31)

both_taken : (root left right : ℕ) → TakesEach (small_host root left right) both_stores (small_host 30 21 31)
both_taken root left right =
    (small_host 20 21 right, left_taken root left right, (small_host 30 21 31, right_taken 20 21 right, refl))

one_taken : TakesEach (small_host 10 11 12) (store_left ∷ []) (small_host 20 21 12)
one_taken = (small_host 20 21 12, left_taken 10 11 12, refl)

-- STOREs that are sent again

acknowledged_run : (bodies : List (List ℕ)) (host after : Host) → TakesEach host bodies after → HostRun host (acknowledged bodies) after
acknowledged_run [] host after to = to
acknowledged_run (body ∷ bodies) host after to = (to.0, (Done, tt, refl, to.1), acknowledged_run bodies to.0 after to.2)

is_host : IsHost (small_host 30 21 31)
is_host = record {
  rising = (omega arith, tt);
  each = (
    record {
      number = omega arith;
      kept = record {
        shape = record { deep = omega arith; long = omega arith; fits = omega arith };
        rising = (omega arith, (omega arith, (omega arith, tt)));
        each = (
          record { node = omega arith; whole = refl },
          (record { node = omega arith; whole = refl }, (record { node = omega arith; whole = refl }, tt)),
        );
      };
    },
    tt,
  );
}

pub resending_example : ResendingExample
resending_example = (
  (is_left, (is_right, tt)),
  is_host,
  both_taken 10 11 12,
  one_taken,
  both_taken 20 21 12,
  acknowledged_run both_stores (small_host 10 11 12) (small_host 30 21 31) (both_taken 10 11 12),
  acknowledged_run (store_left ∷ []) (small_host 10 11 12) (small_host 20 21 12) one_taken,
  acknowledged_run both_stores (small_host 20 21 12) (small_host 30 21 31) (both_taken 20 21 12),
)

pub mending_example : MendingExample
mending_example = (
  (is_left, (is_right, tt)),
  (inl refl, (inl refl, tt)),
  both_taken 10 11 12,
  (small_host 20 21 12, inr (Done, left_taken 10 11 12), (small_host 20 21 12, inr (Done, left_taken 20 21 12), refl)),
  λ may_lie v.
      (small_host 20 21 12, inl (inr (Done, left_taken 10 11 12)), (small_host 20 21 12, inl (Done, tt, refl, left_taken 20 21 12), refl)),
  both_taken 20 21 12,
)

-- a STORE's records that are laid over a path

abbrev is_fetched : IsFetched (small_host 10 11 12) 0 0 (10 ∷ 11 ∷ [])
is_fetched = record {
  kept = tree 10 11 12;
  shaped = refl;
  leaf_in = omega arith;
  path = record { whole = refl; each = left_path 10 11 12 };
}

root_shared : (level : ℕ) → level ≤ 1 → node_on 1 0 level ≡ node_on 1 1 level → record_at 1 (30 ∷ 11 ∷ []) level ≡ record_at 1 (30 ∷ 31 ∷ []) level
unfolding node_on
root_shared zero low same = refl
root_shared (suc zero) low same = absurd (let nodes : 1 ≡ 2 = same in omega (arith, nodes))
root_shared (suc (suc n)) low same = absurd (omega (arith, low))

leaf_apart : (level : ℕ) → level ≤ 1 → node_on 1 0 level ≢ node_on 1 1 level → record_at 1 (30 ∷ 11 ∷ []) level ≡ record_at 1 (10 ∷ 11 ∷ []) level
unfolding node_on
leaf_apart zero low apart = absurd (apart refl)
leaf_apart (suc zero) low apart = refl
leaf_apart (suc (suc n)) low apart = absurd (omega (arith, low))

root_laid_over : IsLaidOver (fetched_path is_fetched) 1 (30 ∷ 31 ∷ []) (10 ∷ 11 ∷ []) (30 ∷ 11 ∷ [])
root_laid_over = record { whole = refl; shared = root_shared; others = leaf_apart }

pub overlay_example : OverlayExample
overlay_example = (
  (is_right, tt),
  is_fetched,
  (small_host 30 11 31, right_taken 10 11 12, refl),
  (30 ∷ 11 ∷ [], inl (refl, root_laid_over), refl),
)

-- a FETCH over a reader with its answer

fetch_only : (message : HostRequest) → HasNumbers message → fetch_body 0 0 ≡ request_body message
    → Answers (small_host 10 11 12) message (Payload (10 ∷ 11 ∷ [])) (small_host 10 11 12)
fetch_only (Fetch t l) numbers e =
    let same_tree : 0 ≡ t = ap (λ (b : List ℕ). first (drop 1 b)) e in
    let number : to_be_bytes w32 0 ≡ to_be_bytes w32 l = ap (λ (b : List ℕ). drop 2 b) e in
    let same_leaf : 0 ≡ l = sym (from_be_bytes-to_be_bytes_4 0 (omega arith)) ∙ ap (from_be_bytes w32) number ∙ from_be_bytes-to_be_bytes_4 l numbers in (
      subst (λ (x : ℕ). IsFetched (small_host 10 11 12) x l (10 ∷ 11 ∷ [])) same_tree
          (subst (λ (x : ℕ). IsFetched (small_host 10 11 12) 0 x (10 ∷ 11 ∷ [])) same_leaf is_fetched),
      refl,
    )
fetch_only (Store t l r) numbers e = absurd (let one : 1 ≡ 2 = ap first e in omega (arith, one))
fetch_only (Put t n bytes) numbers e = absurd (let one : 1 ≡ 3 = ap first e in omega (arith, one))
fetch_only (Shape t d l) numbers e = absurd (let one : 1 ≡ 4 = ap first e in omega (arith, one))

fetch_served : Serves (small_host 10 11 12) (fetch_body 0 0) (Payload (10 ∷ 11 ∷ [])) (small_host 10 11 12)
fetch_served = record {
  request = fetch_only;
  op = λ e. absurd cc;
  misfit = λ m. absurd (let both : true ≡ false = m.1 in cc);
}

pub stream_example : StreamExample
stream_example = (
  (Payload (10 ∷ 11 ∷ []), small_host 10 11 12, [], omega arith, omega arith, fetch_served, refl, tt),
  (
    over_bytes [] (0 ∷ 0 ∷ 0 ∷ 6 ∷ 1 ∷ 0 ∷ 0 ∷ 0 ∷ 0 ∷ 0 ∷ []),
    record { faults = refl; answer = inr (record { fits = omega arith; wrote = refl; read = (omega arith, refl) }) },
    refl,
  ),
)
