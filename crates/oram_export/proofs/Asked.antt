-- The requests of a tree, and how many nodes they ask for.
use Rattle.std.proofs.Common.{◌≡◌, ℕ, ◌+◌, ◌-◌, ◌*◌, ◌/◌, ◌%◌, ◌^◌, ◌<◌, ◌≤◌, min, inl, inr, arith, ap, sym, ◌∙◌, List, [], ◌∷◌, ◌++◌, length, map, drop}
use Rattle.std.specs.List.{flat_map, range_with_len}
use Rattle.std.proofs.Math.Nat.{add-mul, div-le_self, div-lt_iff_lt-mul, le-div_iff_mul-le, mod-eq_of_lt, mul-le-mul_right}
use Rattle.std.proofs.lemmas.Bool.{cases_lt}
use Rattle.std.proofs.lemmas.Nat.{pow-add}
use Rattle.std.proofs.lemmas.Grind.{div_ceil_times, flat_map-append}
use Rattle.std.proofs.lemmas.List.{append-nil}
use Rattle.std.proofs.lemmas.List.FromFn.{length-map-range_with_len}
use Rattle.oram_scan.specs.Scan.{node_count}
use Rattle.oram_wire.specs.HostMessages.{payload_answer}
use Rattle.oram_export.specs.Requests.{IsRequests, batch_at, batch_count, request_at, request_count, requests_for, rows_in}
use Rattle.oram_export.specs.declared.batches.Requests.{Requests}
use Rattle.oram_export.proofs.Staging.{few_nodes}

pub rows_are : (rows len : ℕ) → 1 + rows * (len + 1) ≤ 1048576 → 1048576 < 1 + (rows + 1) * (len + 1) → rows ≡ rows_in len
rows_are rows len fit most =
    let least : rows ≤ 1048575 / (len + 1) = (le-div_iff_mul-le {k = len + 1} {x = rows} {y = 1048575} (omega arith)).1 (omega arith) in
    let greatest : 1048575 / (len + 1) < rows + 1 = (div-lt_iff_lt-mul {k = len + 1} {x = 1048575} {y = rows + 1} (omega arith)).1 (omega arith) in
    omega arith

pub nodes_are : (depth : ℕ) → depth ≤ 24 → 2 * 2 ^ depth % 18446744073709551616 - 1 ≡ node_count depth
nodes_are depth deep =
    let few = few_nodes depth deep in
    let twice : 2 ^ (depth + 1) ≡ 2 ^ depth * 2 = pow-add 2 depth 1 in
    ap (λ (n : ℕ). n - 1) (mod-eq_of_lt (omega arith)) ∙ omega arith

pub requests_fit : (tree depth len : ℕ) → depth ≤ 24 → len < 1048575 → IsRequests (requests_for tree depth len)
requests_fit tree depth len deep short = record {
  some = (le-div_iff_mul-le {k = len + 1} {x = 1} {y = 1048575} (omega arith)).1 (omega arith);
  few = let less : 1048575 / (len + 1) ≤ 1048575 = div-le_self 1048575 (len + 1) in omega arith;
  nodes = few_nodes depth deep;
}

-- the nodes of the requests of an answer after others
pub next_count : (n most nodes first : ℕ) → first ≤ nodes
    → min (n * most) (nodes - first) + min most (nodes - (first + min (n * most) (nodes - first))) ≡ min ((n + 1) * most) (nodes - first)
next_count n most nodes first within = let all : (n + 1) * most ≡ n * most + 1 * most = add-mul n 1 most in omega (arith, all)

-- after the requests before this one and the next ones, 16 or all that are left
next_node : (a count most nodes n : ℕ) → nodes ≤ count * most → n ≡ min 16 (count - a) → a < count
    → min (a * most) nodes + min (n * most) (nodes - min (a * most) nodes) ≡ min ((a + 16) * most) nodes
next_node a count most nodes n enough is below =
    let more : (a + 16) * most ≡ a * most + 16 * most = add-mul a 16 most in
    let here : (a + n) * most ≡ a * most + n * most = add-mul a n most in
    elim (cases_lt (count - a) 16) [
      | inr full ↦ let sixteen : n * most ≡ 16 * most = ap (λ (k : ℕ). k * most) (is ∙ omega arith) in omega (arith, more, sixteen)
      | inl last ↦
          let all : (a + n) * most ≡ count * most = ap (λ (k : ℕ). k * most) (omega arith) in
          let over : count * most ≤ (a + 16) * most = mul-le-mul_right most (omega arith) in
          omega (arith, more, here, all, over)
    ]

pub enough_requests : (r : Requests) → 0 < r.most → r.nodes ≤ request_count r * r.most
enough_requests r some = (div_ceil_times r.nodes r.most some).0

pub enough_batches : (r : Requests) → request_count r ≤ batch_count r * 16
enough_batches r = (div_ceil_times (request_count r) 16 (omega arith)).0

pub batch_within : (r : Requests) (b : ℕ) → b < batch_count r → b * 16 < request_count r
batch_within r b below =
    let most : batch_count r * 16 < request_count r + 16 = (div_ceil_times (request_count r) 16 (omega arith)).1 in
    let next : (b + 1) * 16 ≤ batch_count r * 16 = mul-le-mul_right 16 (omega arith) in
    omega arith

pub length_batch : (r : Requests) (b : ℕ) → length (batch_at r b) ≡ min 16 (request_count r - b * 16)
unfolding batch_at
length_batch r b = length-map-range_with_len (request_at r) (b * 16) (min 16 (request_count r - b * 16))

-- the next node after one more batch
pub node_after_batch : (r : Requests) (b : ℕ) → 0 < r.most → b < batch_count r
    → min (b * 16 * r.most) r.nodes + min (length (batch_at r b) * r.most) (r.nodes - min (b * 16 * r.most) r.nodes) ≡ min ((b + 1) * 16 * r.most) r.nodes
node_after_batch r b some below =
    let sixteen : (b + 1) * 16 ≡ b * 16 + 16 = omega arith in
    next_node (b * 16) (request_count r) r.most r.nodes (length (batch_at r b)) (enough_requests r some) (length_batch r b) (batch_within r b below)
    ∙ ap (λ (a : ℕ). min (a * r.most) r.nodes) (sym sixteen)

pub node_at_end : (r : Requests) → 0 < r.most → min (batch_count r * 16 * r.most) r.nodes ≡ r.nodes
node_at_end r some =
    let enough = enough_requests r some in
    let over : request_count r * r.most ≤ batch_count r * 16 * r.most = mul-le-mul_right r.most (enough_batches r) in
    omega arith

pub batch_is : (r : Requests) (b n : ℕ) → n ≡ min 16 (request_count r - b * 16) → map (request_at r) (range_with_len (b * 16) n) ≡ batch_at r b
unfolding batch_at
batch_is r b n is = ap (λ (k : ℕ). map (request_at r) (range_with_len (b * 16) k)) is

-- an answer's text after those of others
pub text_more : (answers : List (List ℕ)) (answer text : List ℕ) → answer ≡ payload_answer text → flat_map (drop 1) (answers ++ answer ∷ []) ≡ flat_map (drop 1) answers ++ text
text_more answers answer text is =
    flat_map-append (drop 1) answers (answer ∷ []) ∙ ap (λ (t : List ℕ). flat_map (drop 1) answers ++ t) (append-nil (drop 1 answer) ∙ ap (drop 1) is)
