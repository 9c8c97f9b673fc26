-- What one message adds to a collection.
use Rattle.std.proofs.Common.{◌≡◌, ℕ, ◌+◌, ◌-◌, ◌*◌, ◌^◌, ◌<◌, ◌≤◌, if◌then◌else◌, List, ◌++◌, length, take, drop, replicate, get_or, refl, inl, inr, ap, sym, ◌∙◌, arith}
use Rattle.std.proofs.lemmas.List.{drop-replicate, drop_at, length-replicate, take-replicate, take_at}
use Rattle.oram_geometry.specs.declared.Sizes.{Sizes}
use Rattle.oram_geometry.specs.Sizes.{record_len_of}
use Rattle.oram_wire.specs.declared.host_messages.HostRequest.{HostRequest}
use Rattle.oram_wire.specs.declared.host_messages.HostRequest.TheVariants as request
use Rattle.oram_wire.specs.HostBodies.{HasNumbers}
use Rattle.oram_wire.specs.HostMessages.{put_body, request_body, shape_body}
use Rattle.oram_semantics.specs.Messages.{message_place}
use Rattle.std.proofs.lemmas.Bool.{cases_eq}
use Rattle.std.proofs.lemmas.Nat.{from_be_bytes-to_be_bytes_4}
use Rattle.oram_empty.specs.KeptDigests.{digests_len, upper_below, digests_part}
use Rattle.oram_empty.specs.Collecting.{Collection, Collects, IsCollection, blank, collection_of, is_near, is_upper, collected, near_nodes, with_piece}

-- a body is the PUT of at most one record
abbrev Reads : List ℕ → HostRequest → Type 0
Reads body read = (message : HostRequest) → HasNumbers message → body ≡ request_body message → read ≡ message

same_put : (from : Collection) (t n u m : ℕ) (r s : List ℕ) → request.Put t n r ≡ request.Put u m s → collected from t n r ≡ collected from u m s
same_put from t n u m r s same =
    let tree : t ≡ u = cc in
    let node : n ≡ m = cc in
    let bytes : r ≡ s = cc in
    ap (λ (x : ℕ). collected from x n r) tree ∙ ap (λ (x : ℕ). collected from u x r) node ∙ ap (collected from u m) bytes

-- the message is the PUT of a record, and the record was collected
pub collected_one : (from to : Collection) (body r : List ℕ) (tree node : ℕ) → node < 2 ^ 32 → length r ≡ from.record_len → body ≡ put_body tree node r → Reads body (request.Put tree node r) → to ≡ collected from tree node r → Collects from body to
collected_one from to body r tree node small long is reads done = record {
  put = λ t n s few len same. done ∙ same_put from tree node t n r s (reads (request.Put t n s) few same);
  other = λ none. absurd (none tree node r small long is);
}

-- The bytes of a collection begin with its records. So it is collected from a record if its records and its digests are.
module _ (d : Sizes) (len near mid : ℕ) (bytes now old_records old_digests records digests : List ℕ) (is_collection : IsCollection (collection_of d len near bytes))
    (mid_is : mid ≡ near_nodes near * len) (now_is : now ≡ bytes) (front : old_records ≡ take mid now) (back : old_digests ≡ drop mid now)
    (records_long : length records ≡ length old_records) (digests_long : length digests ≡ length old_digests) where
  old_records_are : old_records ≡ take (near_nodes near * len) bytes
  old_records_are = front ∙ ap (λ (n : ℕ). take n now) mid_is ∙ ap (take (near_nodes near * len)) now_is

  old_digests_are : old_digests ≡ drop (near_nodes near * len) bytes
  old_digests_are = back ∙ ap (λ (n : ℕ). drop n now) mid_is ∙ ap (drop (near_nodes near * len)) now_is

  long : length records ≡ near_nodes near * len
  long = records_long ∙ ap length old_records_are ∙ is_collection.records_whole

  parts_are : (let s : Collection = record { device = d; record_len = len; near = near; digests = digests; records = records } in collection_of d len near (records ++ digests) ≡ s)
  parts_are =
      ap (λ (ds : List ℕ). let s : Collection = record { device = d; record_len = len; near = near; digests = ds; records = take (near_nodes near * len) (records ++ digests) } in s)
      (drop_at records digests (near_nodes near * len) long)
      ∙ ap (λ (rs : List ℕ). let s : Collection = record { device = d; record_len = len; near = near; digests = digests; records = rs } in s) (take_at records digests (near_nodes near * len) long)

  pub parts_collection : IsCollection (collection_of d len near (records ++ digests))
  parts_collection = record {
    digests_whole = ap length (drop_at records digests (near_nodes near * len) long) ∙ digests_long ∙ ap length old_digests_are ∙ is_collection.digests_whole;
    records_whole = ap length (take_at records digests (near_nodes near * len) long) ∙ long;
    few_near = is_collection.few_near;
    long = is_collection.long;
    short = is_collection.short;
  }

  pub parts_collected : (tree node : ℕ) (r : List ℕ) → length r ≡ len
      → records ≡ (if is_near near tree node then with_piece (length r) old_records node r else old_records)
      → digests ≡ (if is_upper d tree node then with_piece 64 old_digests (upper_below d tree + node) (digests_part r) else old_digests)
      → collection_of d len near (records ++ digests) ≡ collected (collection_of d len near bytes) tree node r
  parts_collected tree node r r_long records_are digests_are =
      parts_are
      ∙ ap (λ (rs : List ℕ). let s : Collection = record { device = d; record_len = len; near = near; digests = digests; records = rs } in s)
      (records_are ∙ ap (λ (n : ℕ). if is_near near tree node then with_piece n old_records node r else old_records) r_long
      ∙ ap (λ (rs : List ℕ). if is_near near tree node then with_piece len rs node r else rs) old_records_are)
      ∙ ap (λ (ds : List ℕ). let s : Collection = record {
        device = d;
        record_len = len;
        near = near;
        digests = ds;
        records = if is_near near tree node then with_piece len (take (near_nodes near * len) bytes) node r else take (near_nodes near * len) bytes;
      } in s)
      (digests_are ∙ ap (λ (ds : List ℕ). if is_upper d tree node then with_piece 64 ds (upper_below d tree + node) (digests_part r) else ds) old_digests_are)

-- zeros are the collection before the first message
pub blank_is : (d e : Sizes) (overhead near len nodes count : ℕ) (bytes : List ℕ) → e ≡ d → len ≡ record_len_of d overhead → nodes ≡ near_nodes near → count ≡ digests_len d
    → bytes ≡ replicate (nodes * len + count) 0 → collection_of e len near bytes ≡ blank d overhead near
blank_is d e overhead near len nodes count bytes e_is len_is nodes_are count_is bytes_are =
    let L = record_len_of d overhead in
    let a = near_nodes near * L in
    let k = digests_len d in
    let zeros : bytes ≡ replicate (a + k) 0 =
    bytes_are
    ∙ ap (λ (n : ℕ). replicate n 0) (ap (λ (n : ℕ). n * len + count) nodes_are ∙ ap (λ (l : ℕ). near_nodes near * l + count) len_is ∙ ap (λ (n : ℕ). a + n) count_is) in
    let behind : a + k - a ≡ k = omega arith in
    ap (λ (s : Sizes). collection_of s len near bytes) e_is ∙ ap (λ (n : ℕ). collection_of d n near bytes) len_is ∙ ap (collection_of d L near) zeros
    ∙ ap (λ (ds : List ℕ). let s : Collection = record { device = d; record_len = L; near = near; digests = ds; records = take a (replicate (a + k) 0) } in s)
    (drop-replicate a (a + k) 0 ∙ ap (λ (n : ℕ). replicate n 0) behind)
    ∙ ap (λ (rs : List ℕ). let s : Collection = record { device = d; record_len = L; near = near; digests = replicate k 0; records = rs } in s) (take-replicate a (a + k) 0 (omega arith))

pub blank_collection : (d : Sizes) (overhead near : ℕ) → near ≤ 24 → 64 ≤ record_len_of d overhead → record_len_of d overhead ≤ 32960 → IsCollection (blank d overhead near)
blank_collection d overhead near few long short = record {
  digests_whole = length-replicate (digests_len d) 0;
  records_whole = length-replicate (near_nodes near * record_len_of d overhead) 0;
  few_near = few;
  long = long;
  short = short;
}

-- whatever was collected before, each message of a formatting leads to some collection

abbrev Taken : List ℕ → Type 0
Taken body = (from : Collection) → (to : Collection) × Collects from body to

shape_is_none : (tree depth len t m : ℕ) (q : List ℕ) → shape_body tree depth len ≡ put_body t m q → ⊥
shape_is_none tree depth len t m q is = let first : ◌≡◌ {A = ℕ} 4 3 = ap (λ (b : List ℕ). get_or b 0 0) is in absurd (omega arith)

pub shape_taken : (tree depth len : ℕ) → Taken (shape_body tree depth len)
shape_taken tree depth len from = (from, record { put = λ t m q small long is. absurd (shape_is_none tree depth len t m q is); other = λ none. refl })

put_once : (t n u m : ℕ) (r s : List ℕ) → n < 2 ^ 32 → m < 2 ^ 32 → put_body t n r ≡ put_body u m s → request.Put t n r ≡ request.Put u m s
put_once t n u m r s small few is =
    let tree : t ≡ u = ap (λ (b : List ℕ). get_or b 1 0) is in
    let bytes : r ≡ s = ap (λ (b : List ℕ). drop 6 b) is in
    let node : n ≡ m = sym (from_be_bytes-to_be_bytes_4 n small) ∙ ap (λ (b : List ℕ). message_place b) is ∙ from_be_bytes-to_be_bytes_4 m few in
    cc

pub put_taken : (tree node : ℕ) (r : List ℕ) → node < 2 ^ 32 → Taken (put_body tree node r)
put_taken tree node r small from = elim (cases_eq (length r) from.record_len) [
  | inl long ↦ (
    collected from tree node r,
    record {
      put = λ t m q few len is. same_put from tree node t m r q (put_once tree node t m r q small few is);
      other = λ none. absurd (none tree node r small long refl);
    },
  )
  | inr wrong ↦ (
    from,
    record {
      put = λ t m q few len is. absurd (wrong (ap (λ (b : List ℕ). length (drop 6 b)) is ∙ len));
      other = λ none. refl;
    },
  )
]
