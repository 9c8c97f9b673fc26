-- A device of one block, with numbers, and the host that holds it.
use Rattle.std.proofs.Common.{◌≡◌, ℕ, zero, suc, ◌+◌, ◌^◌, ◌<◌, ◌≤◌, arith, true, false, List, [], ◌∷◌, ◌++◌, drop, take, slice_index_or, replicate, append-nil, refl, sym, ap, ◌∙◌, subst, inl}
use Rattle.std.specs.Int.{w32, to_be_bytes, from_be_bytes}
use Rattle.std.proofs.lemmas.List.{drop_at, take_at}
use Rattle.std.proofs.lemmas.Nat.{from_be_bytes-to_be_bytes_4}
use Rattle.sha2.specs.Sha256.{sha256}
use Rattle.oram_geometry.specs.Least.{least_from}
use Rattle.oram_geometry.specs.Sizes.{IsDevice, blocks_in, depth_of, level_for, record_len_of, trees_of}
use Rattle.oram_bucket.specs.Bucket.{spelling}
use Rattle.oram_wire.specs.HostMessages.{put_body, request_body, shape_body}
use Rattle.oram_wire.specs.HostBodies.{HasNumbers}
use Rattle.oram_wire.specs.declared.host_messages.HostRequest.{HostRequest}
use Rattle.oram_wire.specs.declared.host_messages.HostRequest.TheVariants.{Fetch, Put, Shape, Store}
use Rattle.oram_wire.specs.declared.host_messages.HostAnswer.TheVariants.{Done}
use Rattle.oram_host.specs.Answers.{Answers, IsPut, IsShaped}
use Rattle.oram_host.specs.Host.{Host, Kept}
use Rattle.oram_tree.specs.Content.{node_count}
use Rattle.oram_tree.specs.Format.{IsFormat, PutsAll}
use Rattle.oram_tree.specs.State.{State as Tree}
use Rattle.oram_tree.specs.Subtree.{puts, root_record}
use Rattle.oram_tree.proofs.Formed.{made}
use Rattle.oram_tree.proofs.Puts.{puts-leaf, root_record-leaf}
use Rattle.oram_semantics.specs.Formatting.{AreTreesMade, IsFormatted, IsTreeMade}
use Rattle.oram_semantics.specs.Law.{new_state, world_of}
use Rattle.oram_semantics.specs.Nonces.{formatted_below}
use Rattle.oram_semantics.specs.Progress.{Setting}
use Rattle.oram_semantics.specs.State.{no_tree}
use Rattle.oram_host_laws.specs.Honest.{Takes}
use Rattle.oram_session.specs.Formatting.{TakesMessage}
use Rattle.oram_session.specs.Links.{DirectCall, ToServer}
use Rattle.oram_host_laws.specs.Law.{IsNewHosted}
use Rattle.oram_host_laws.proofs.Honest.{new_hosts_serve}
use Rattle.oram_link_laws.specs.Examples.{NewDeviceExample, SessionExample, new_core, new_host, new_server, one_block}
use Rattle.oram_link_laws.specs.Runs.{HostRun, IsHeldBy, acknowledged}
use Rattle.oram_link_laws.proofs.Put.{first}
use Rattle.oram_link_laws.proofs.Same.{look_past}

pub is_device : IsDevice one_block.device
is_device = record {
  some_blocks = omega arith;
  few_blocks = omega arith;
  some_bytes = omega arith;
  few_bytes = omega arith;
  whole_words = refl;
  some_slots = omega arith;
  few_slots = omega arith;
  some_top = omega arith;
  few_top = omega arith;
  some_lifetime = omega arith;
  few_lifetime = omega arith;
  some_load = omega arith;
  few_load = omega arith;
  room = refl;
}

pub no_depth : 0 ≡ depth_of one_block.device 0
unfolding level_for blocks_in least_from
no_depth = refl

pub one_tree : trees_of one_block.device ≡ 1
unfolding trees_of blocks_in least_from
one_tree = refl

pub eighty_eight : 88 ≡ record_len_of one_block.device 0
unfolding record_len_of
eighty_eight = refl

one_node : 0 + node_count (depth_of one_block.device 0) ≤ 2 ^ 64
one_node = let P : ℕ → Type 0 = λ d. 0 + node_count d ≤ 2 ^ 64 in subst P no_depth (omega arith)

-- the two messages of the formatting

abbrev shaped : Kept
shaped = record { depth = 0; record_len = 88; records = [] }

abbrev filled : Kept
filled = record { depth = 0; record_len = 88; records = (0, replicate 88 0) ∷ [] }

abbrev shaped_host : Host
shaped_host = (0, shaped) ∷ []

is_shaped : IsShaped [] 0 0 88 shaped_host
is_shaped = record {
  shape = record { deep = omega arith; long = omega arith; fits = omega arith };
  free = refl;
  keeps = record { here = refl; others = λ other apart. (let e : ℕ × Kept = (0, shaped) in look_past other e [] (λ same. apart (sym same))) };
}

is_put : IsPut shaped_host 0 0 (replicate 88 0) new_host
is_put = record {
  kept = shaped;
  changed = filled;
  shaped = refl;
  puts = record {
    depth = refl;
    record_len = refl;
    node_in = omega arith;
    whole = refl;
    put = refl;
    others = λ other apart. (let e : ℕ × List ℕ = (0, replicate 88 0) in look_past other e [] (λ same. apart (sym same)));
  };
  keeps = record {
    here = refl;
    others = λ other apart.
        (let e : ℕ × Kept = (0, filled) in let f : ℕ × Kept = (0, shaped) in
        look_past other e [] (λ same. apart (sym same)) ∙ sym (look_past other f [] (λ same. apart (sym same))));
  };
}

only_shape : (message : HostRequest) → HasNumbers message → shape_body 0 0 88 ≡ request_body message → Answers [] message Done shaped_host
only_shape (Fetch t l) numbers e = absurd (let four : 4 ≡ 1 = ap first e in omega (arith, four))
only_shape (Store t l r) numbers e = absurd (let four : 4 ≡ 2 = ap first e in omega (arith, four))
only_shape (Put t n bytes) numbers e = absurd (let four : 4 ≡ 3 = ap first e in omega (arith, four))
only_shape (Shape t d l) numbers e =
    let same_tree : 0 ≡ t = ap (λ (b : List ℕ). first (drop 1 b)) e in
    let same_depth : 0 ≡ d = ap (λ (b : List ℕ). first (drop 2 b)) e in
    let number : to_be_bytes w32 88 ≡ to_be_bytes w32 l = ap (λ (b : List ℕ). drop 3 b) e in
    let same_len : 88 ≡ l = sym (from_be_bytes-to_be_bytes_4 88 (omega arith)) ∙ ap (from_be_bytes w32) number ∙ from_be_bytes-to_be_bytes_4 l numbers in
    subst (λ (x : ℕ). IsShaped [] x d l shaped_host) same_tree
    (subst (λ (x : ℕ). IsShaped [] 0 x l shaped_host) same_depth (subst (λ (x : ℕ). IsShaped [] 0 0 x shaped_host) same_len is_shaped))

only_put : (message : HostRequest) → HasNumbers message → put_body 0 0 (replicate 88 0) ≡ request_body message → Answers shaped_host message Done new_host
only_put (Fetch t l) numbers e = absurd (let three : 3 ≡ 1 = ap first e in omega (arith, three))
only_put (Store t l r) numbers e = absurd (let three : 3 ≡ 2 = ap first e in omega (arith, three))
only_put (Shape t d l) numbers e = absurd (let three : 3 ≡ 4 = ap first e in omega (arith, three))
only_put (Put t n bytes) numbers e =
    let same_tree : 0 ≡ t = ap (λ (b : List ℕ). first (drop 1 b)) e in
    let behind : to_be_bytes w32 0 ++ replicate 88 0 ≡ to_be_bytes w32 n ++ bytes = ap (λ (b : List ℕ). drop 2 b) e in
    let number : to_be_bytes w32 0 ≡ to_be_bytes w32 n = ap (take 4) behind ∙ take_at (to_be_bytes w32 n) bytes 4 refl in
    let same_node : 0 ≡ n = sym (from_be_bytes-to_be_bytes_4 0 (omega arith)) ∙ ap (from_be_bytes w32) number ∙ from_be_bytes-to_be_bytes_4 n numbers in
    let same_bytes : replicate 88 0 ≡ bytes = ap (drop 4) behind ∙ drop_at (to_be_bytes w32 n) bytes 4 refl in
    subst (λ (x : ℕ). IsPut shaped_host x n bytes new_host) same_tree
    (subst (λ (x : ℕ). IsPut shaped_host 0 x bytes new_host) same_node (subst (λ (x : List ℕ). IsPut shaped_host 0 0 x new_host) same_bytes is_put))

shape_taken : Takes [] (shape_body 0 0 88) shaped_host
shape_taken = record {
  request = only_shape;
  op = λ e. absurd cc;
  misfit = λ m. absurd (let both : true ≡ false = m.1 in cc);
}

put_taken : Takes shaped_host (put_body 0 0 (replicate 88 0)) new_host
put_taken = record {
  request = only_put;
  op = λ e. absurd cc;
  misfit = λ m. absurd (let both : true ≡ false = m.1 in cc);
}

-- the formatting

abbrev seal : ℕ → List ℕ
seal n = spelling one_block.device []

abbrev tree : Tree
tree = record { number = 0; root = sha256 (replicate 88 0); stash = [] }

all_put : PutsAll Takes shaped_host (puts seal 0 0 0 0) new_host
unfolding spelling
all_put = puts-leaf Takes shaped_host new_host seal 0 0 0 0 refl put_taken

root_is : sha256 (replicate 88 0) ≡ sha256 (root_record seal 0 0)
unfolding spelling
root_is = ap sha256 (sym (root_record-leaf seal 0 0 refl))

formed : (bodies : List (List ℕ)) × PutsAll Takes [] bodies new_host × IsFormat one_block.cipher one_block.device 0 tree bodies
formed =
    made Takes [] shaped_host new_host one_block.cipher one_block.device 0 0 88 0 (shape_body 0 0 88) (sha256 (replicate 88 0))
    is_device no_depth eighty_eight (record { small = omega arith; longer = λ n plain. omega arith; undoes = λ n plain low is. refl }) one_node refl shape_taken all_put root_is

tree_made : IsTreeMade one_block 0 tree formed.0
unfolding formatted_below
tree_made = record { number = refl; made = formed.2 }

each_made : (i : ℕ) → i < 1 → IsTreeMade one_block i (slice_index_or (tree ∷ []) i no_tree) (slice_index_or (formed.0 ∷ []) i [])
each_made zero low = tree_made
each_made (suc i) low = absurd (omega (arith, low))

are_made : IsFormatted (record { scheme = one_block; format = formed.0 }) (tree ∷ [])
are_made =
    let all : AreTreesMade one_block 1 (tree ∷ []) formed.0 =
    record { parts = formed.0 ∷ []; joined = sym (append-nil formed.0); trees_count = refl; parts_count = refl; each = each_made } in
    subst (λ (n : ℕ). AreTreesMade one_block n (tree ∷ []) formed.0) (sym one_tree) all

abbrev server : Host → ToServer
server host = record { host = host; faults = 0 }

puts_direct : (bodies : List (List ℕ)) (host after : Host) → PutsAll Takes host bodies after → PutsAll (TakesMessage DirectCall) (server host) bodies (server after)
puts_direct [] host after put = ap server put
puts_direct (body ∷ bodies) host after put =
    (server put.0, record { answer = (Done, put.1, tt, refl); faults = refl }, puts_direct bodies put.0 after put.2)

puts_run : (bodies : List (List ℕ)) (host after : Host) → PutsAll Takes host bodies after → HostRun host (acknowledged bodies) after
puts_run [] host after put = put
puts_run (body ∷ bodies) host after put = (put.0, (Done, tt, refl, put.1), puts_run bodies put.0 after put.2)

pub new_device_example : NewDeviceExample
unfolding trees_of blocks_in level_for least_from formatted_below
new_device_example = (
  record {
    ranges = is_device;
    format = formed.0;
    puts = puts_direct formed.0 [] new_host formed.1;
    trees = tree ∷ [];
    formatted = are_made;
    state = refl;
  },
  puts_run formed.0 [] new_host formed.1,
)

held : IsHeldBy one_block new_core new_host (λ a. replicate 16 0)
unfolding trees_of blocks_in level_for least_from formatted_below
held =
    let s : Setting = record { scheme = one_block; format = formed.0 } in
    let new : IsNewHosted one_block (new_state s (tree ∷ [])) (world_of s []) new_host =
    new_hosts_serve s (tree ∷ []) new_host is_device (omega arith) are_made formed.1 in
    record { no_work = refl; alive = refl; world = world_of s []; serving = new.serving; hosts = new.hosts }

pub session_example : SessionExample
session_example = (
  is_device,
  held,
  λ words session. ((new_core, new_server), inl (record { none = inl refl; sendings = refl; reply = refl; same = refl }), refl),
  refl,
  λ may_lie. refl,
)
