-- The records of a path that is put together.
use Rattle.std.proofs.Common.{◌≡◌, ◌≢◌, ℕ, zero, suc, ◌+◌, ◌-◌, ◌*◌, ◌^◌, ◌<◌, ◌≤◌, arith, Bool, true, false, if◌then◌else◌, List, [], ◌∷◌, ◌++◌, length, take, drop, Option, Some, None, unwrap_or, refl, sym, ap, ◌∙◌, subst, inl, inr}
use Rattle.std.specs.Prelude.{nat_lt}
use Rattle.std.specs.List.{AllByRecursion, flat_map, range_with_len}
use Rattle.std.specs.Option.{option_or}
use Rattle.std.proofs.Math.Nat.{mul-le-mul_right}
use Rattle.std.proofs.lemmas.Bool.{cases_eq, cases_lt, le-ltb, lt-ltb, ne_eqb}
use Rattle.std.proofs.lemmas.Bool.Decides.{nat_tests}
use Rattle.std.proofs.lemmas.List.{drop-drop, drop-take, drop_at, length-append, length-drop, length-take-le, take_at, take-append-le}
use Rattle.oram_geometry.specs.Path.{node_on}
use Rattle.oram_geometry.specs.Sizes.{depth_of, trees_of}
use Rattle.oram_geometry.specs.declared.Sizes.{Sizes}
use Rattle.oram_host.specs.Path.{record_at}
use Rattle.oram_semantics.proofs.Judged.{length_chunks}
use Rattle.oram_levels.specs.Messages.{FetchLevels, LevelsMessage, StoreLevels}
use Rattle.oram_near.specs.Completion.{ClientRecords, IsUnlaidPath, IsWholePath, LaysOver, far_level, left_by, stored_by, whole_record}
use Rattle.oram_near.specs.EmptyRecords.{AreEmptyRecords, records_from}
use Rattle.oram_near.specs.Near.{near_record, records_on}
use Rattle.oram_near.specs.NearLevels.{near_len}
use Rattle.oram_near.specs.PathRequests.{IsFarStore, first_far}
use Rattle.oram_near.proofs.Laid.{not_given}
use Rattle.oram_near.proofs.Nodes.{record_near}

-- a record in the front of two lists, and one behind it

in_front : (len n level : ℕ) (xs ys : List ℕ) → length xs ≡ n * len → level < n → record_at len (xs ++ ys) level ≡ record_at len xs level
in_front len n level xs ys long low =
    let most : (level + 1) * len ≤ n * len = mul-le-mul_right len (omega (arith, low)) in
    let upto : (level + 1) * len ≡ level * len + len = omega arith in
    let part : (level + 1) * len - level * len ≡ len = omega (arith, upto) in
    ap (λ (k : ℕ). take k (drop (level * len) (xs ++ ys))) part
    ∙ sym (drop-take (level * len) len (xs ++ ys)) ∙ ap (drop (level * len)) (take-append-le (level * len + len) xs ys (omega (arith, most, upto, long)))
    ∙ drop-take (level * len) len xs ∙ sym (ap (λ (k : ℕ). take k (drop (level * len) xs)) part)

behind : (len n level : ℕ) (xs ys : List ℕ) → length xs ≡ n * len → n ≤ level → record_at len (xs ++ ys) level ≡ record_at len ys (level - n)
behind len n level xs ys long high =
    let i : ℕ = level - n in
    let at : level * len ≡ n * len + i * len = let e : level ≡ n + i = omega (arith, high) in ap (λ (k : ℕ). k * len) e ∙ omega arith in
    let upto : (level + 1) * len ≡ level * len + len = omega arith in
    let more : (i + 1) * len ≡ i * len + len = omega arith in
    ap (λ (k : ℕ). take k (drop (level * len) (xs ++ ys))) (let e : (level + 1) * len - level * len ≡ len = omega (arith, upto) in e)
    ∙ ap (take len) (ap (λ (k : ℕ). drop k (xs ++ ys)) at ∙ sym (drop-drop (i * len) (n * len) (xs ++ ys)) ∙ ap (drop (i * len)) (drop_at xs ys (n * len) long))
    ∙ sym (ap (λ (k : ℕ). take k (drop (i * len) ys)) (let e : (i + 1) * len - i * len ≡ len = omega (arith, more) in e))

-- Of the records of `n` levels, `size` bytes each, those bytes that begin behind `j` records are the record of level `a + j`.
level_of : (size : ℕ) (f : ℕ → List ℕ) (a n j : ℕ) → j < n → ((b : ℕ) → a ≤ b → b < a + n → length (f b) ≡ size)
    → take size (drop (j * size) (flat_map f (range_with_len a n))) ≡ f (a + j)
level_of size f a zero j below h = absurd (omega arith)
level_of size f a (suc n) zero below h =
    let none : 0 * size ≡ 0 = omega arith in
    let here : a + 0 ≡ a = omega arith in
    ap (λ k. take size (drop k (f a ++ flat_map f (range_with_len (a + 1) n)))) none
    ∙ take_at (f a) (flat_map f (range_with_len (a + 1) n)) size (h a (omega arith) (omega arith)) ∙ ap f (sym here)
level_of size f a (suc n) (suc j) below h =
    let more : suc j * size ≡ size + j * size = omega arith in
    let next : a + 1 + j ≡ a + suc j = omega arith in
    ap (λ k. take size (drop k (f a ++ flat_map f (range_with_len (a + 1) n)))) more
    ∙ ap (take size) (sym (drop-drop (j * size) size (f a ++ flat_map f (range_with_len (a + 1) n))))
    ∙ ap (λ xs. take size (drop (j * size) xs)) (drop_at (f a) (flat_map f (range_with_len (a + 1) n)) size (h a (omega arith) (omega arith)))
    ∙ level_of size f (a + 1) n j (omega arith) (λ b low high. h b (omega arith) (omega arith)) ∙ ap f next

of_records : (len : ℕ) (f : ℕ → List ℕ) (a n j : ℕ) → j < n → ((b : ℕ) → a ≤ b → b < a + n → length (f b) ≡ len) → record_at len (flat_map f (range_with_len a n)) j ≡ f (a + j)
of_records len f a n j low h =
    let upto : (j + 1) * len ≡ j * len + len = omega arith in
    ap (λ (k : ℕ). take k (drop (j * len) (flat_map f (range_with_len a n)))) (let e : (j + 1) * len - j * len ≡ len = omega (arith, upto) in e)
    ∙ level_of len f a n j low h

record_long : (len n : ℕ) (bytes : List ℕ) → (n + 1) * len ≤ length bytes → length (record_at len bytes n) ≡ len
record_long len n bytes within =
    let upto : (n + 1) * len ≡ n * len + len = omega arith in
    ap (λ (k : ℕ). length (take k (drop (n * len) bytes))) (let e : (n + 1) * len - n * len ≡ len = omega (arith, upto) in e)
    ∙ length-take-le len (drop (n * len) bytes) (omega (arith, within, upto, length-drop (n * len) bytes))

-- the far levels of a tree other than tree 0 are all levels
pub first_far-other : (levels tree : ℕ) → tree ≢ 0 → first_far levels tree ≡ 0
first_far-other levels tree other = ap (λ (b : Bool). if b then levels else 0) (ne_eqb tree 0 other)

pub first_far-deep : (d : Sizes) (levels tree : ℕ) → levels ≤ depth_of d 0 → first_far levels tree ≤ depth_of d tree
first_far-deep d levels tree deep = elim (cases_eq tree 0) [
  | inl zero_tree ↦ let P : ℕ → Type 0 = λ t. first_far levels t ≤ depth_of d t in subst P (sym zero_tree) deep
  | inr other ↦ omega (arith, first_far-other levels tree other)
]

-- a near record has its length
near_long : (d : Sizes) (levels tree leaf len level : ℕ) (bytes : List ℕ) → levels ≤ depth_of d 0 → near_len levels len ≤ length bytes → leaf < 2 ^ depth_of d tree
    → level < first_far levels tree → length (record_at len bytes (node_on (depth_of d tree) leaf level)) ≡ len
near_long d levels tree leaf len level bytes deep whole fits low = elim (cases_eq tree 0) [
  | inl zero_tree ↦
      let P : ℕ → Type 0 = λ t. leaf < 2 ^ depth_of d t in
      let Q : ℕ → Type 0 = λ t. level < first_far levels t in
      let R : ℕ → Type 0 = λ t. length (record_at len bytes (node_on (depth_of d t) leaf level)) ≡ len in
      let near = record_near (depth_of d 0) leaf level levels len (subst P zero_tree fits) (subst Q zero_tree low) deep in
      subst R (sym zero_tree) (record_long len (node_on (depth_of d 0) leaf level) bytes (omega (arith, near, whole)))
  | inr other ↦ absurd (omega (arith, low, first_far-other levels tree other))
]

-- the path before STOREs are laid over it
module _ (c : ClientRecords) (tree leaf count : ℕ) (records : List ℕ) (deep : c.near.levels ≤ depth_of c.device 0) (near_whole : near_len c.near.levels c.near.record_len ≤ length c.near.bytes)
    (empties : AreEmptyRecords c.device c.near.record_len c.empty) (tree_in : tree < trees_of c.device) (fits : leaf < 2 ^ depth_of c.device tree)
    (few : first_far c.near.levels tree + count ≤ depth_of c.device tree + 1) (whole : length records ≡ count * c.near.record_len) where
  abbrev len : ℕ
  len = c.near.record_len

  abbrev depth : ℕ
  depth = depth_of c.device tree

  abbrev first : ℕ
  first = first_far c.near.levels tree

  abbrev top : List ℕ
  top = records_on depth leaf first len c.near.bytes

  abbrev rest : List ℕ
  rest = records_from (c.empty tree leaf) (first + count) (depth + 1 - (first + count))

  top_long : length top ≡ first * len
  top_long = length_chunks len (λ level. record_at len c.near.bytes (node_on depth leaf level)) 0 first (λ level low high. near_long c.device c.near.levels tree leaf len level c.near.bytes deep near_whole fits (omega (arith, high)))

  rest_each : (b : ℕ) → first + count ≤ b → b < first + count + (depth + 1 - (first + count)) → length (c.empty tree leaf b) ≡ len
  rest_each b low high = empties.long tree leaf b tree_in fits (omega (arith, high, few))

  front_long : length (top ++ records) ≡ (first + count) * len
  front_long = let both : (first + count) * len ≡ first * len + count * len = omega arith in length-append top records ∙ omega (arith, top_long, whole, both)

  pub unlaid_path : IsUnlaidPath c tree leaf count records (top ++ records ++ rest)
  unlaid_path = record {
    long =
        let last : length rest ≡ (depth + 1 - (first + count)) * len = length_chunks len (c.empty tree leaf) (first + count) (depth + 1 - (first + count)) rest_each in
        let all : (depth + 1) * len ≡ (first + count) * len + (depth + 1 - (first + count)) * len =
        let e : depth + 1 ≡ first + count + (depth + 1 - (first + count)) = omega (arith, few) in ap (λ (k : ℕ). k * len) e ∙ omega arith in
        length-append (top ++ records) rest ∙ omega (arith, front_long, last, all);
    near = λ level low.
        let each : (b : ℕ) → 0 ≤ b → b < 0 + first → length (record_at len c.near.bytes (node_on depth leaf b)) ≡ len =
        λ b from upto. near_long c.device c.near.levels tree leaf len b c.near.bytes deep near_whole fits (omega (arith, upto)) in
        in_front len (first + count) level (top ++ records) rest front_long (omega (arith, low))
        ∙ in_front len first level top records top_long low
        ∙ of_records len (λ l. record_at len c.near.bytes (node_on depth leaf l)) 0 first level low each
        ∙ ap (λ (l : ℕ). record_at len c.near.bytes (node_on depth leaf l)) (let e : 0 + level ≡ level = omega arith in e);
    far = λ level low within. elim (cases_lt level (first + count)) [
      | inl given ↦
          in_front len (first + count) level (top ++ records) rest front_long given
          ∙ behind len first level top records top_long low
          ∙ sym (ap (λ (o : Option (List ℕ)). unwrap_or o (c.empty tree leaf level)) (far_given level low given))
      | inr missing ↦
          behind len (first + count) level (top ++ records) rest front_long missing
          ∙ of_records len (c.empty tree leaf) (first + count) (depth + 1 - (first + count)) (level - (first + count)) (omega (arith, within, missing)) rest_each
          ∙ ap (c.empty tree leaf) (let e : first + count + (level - (first + count)) ≡ level = omega (arith, missing) in e)
          ∙ sym (ap (λ (o : Option (List ℕ)). unwrap_or o (c.empty tree leaf level)) (far_missing level missing))
    ];
  }
    where
      far_given : (level : ℕ) → first ≤ level → level < first + count → far_level len first count records level ≡ Some (record_at len records (level - first))
      far_given level low high = grind (arith, nat_tests)

      far_missing : (level : ℕ) → first + count ≤ level → far_level len first count records level ≡ None
      far_missing level high = grind (arith, nat_tests)

-- the record at a level of the whole path

pub whole_near : (c : ClientRecords) (tree leaf level : ℕ) (far : Option (List ℕ)) → level < first_far c.near.levels tree
    → whole_record c tree leaf level far ≡ near_record c.near (node_on (depth_of c.device tree) leaf level)
whole_near c tree leaf level far low =
    let here : nat_lt level (first_far c.near.levels tree) ≡ true = lt-ltb level (first_far c.near.levels tree) low in
    ap (λ (b : Bool). if b then near_record c.near (node_on (depth_of c.device tree) leaf level) else unwrap_or (left_by c.device c.near.record_len tree leaf level c.unsure far) (c.empty tree leaf level)) here

pub whole_far : (c : ClientRecords) (tree leaf level : ℕ) (far : Option (List ℕ)) → first_far c.near.levels tree ≤ level
    → whole_record c tree leaf level far ≡ unwrap_or (left_by c.device c.near.record_len tree leaf level c.unsure far) (c.empty tree leaf level)
whole_far c tree leaf level far low =
    let here : nat_lt level (first_far c.near.levels tree) ≡ false = le-ltb level (first_far c.near.levels tree) low in
    ap (λ (b : Bool). if b then near_record c.near (node_on (depth_of c.device tree) leaf level) else unwrap_or (left_by c.device c.near.record_len tree leaf level c.unsure far) (c.empty tree leaf level)) here

module _ (d : Sizes) (levels len tree leaf level : ℕ) where
  -- STOREs of the far levels leave the near ones
  left_above : (messages : List LevelsMessage) → AllByRecursion (IsFarStore d levels len) messages → level < first_far levels tree → (old : Option (List ℕ))
      → left_by d len tree leaf level messages old ≡ old
  left_above [] are low old = refl
  left_above (FetchLevels t f last l ∷ messages) are low old = absurd are.0
  left_above (StoreLevels t f l records ∷ messages) are low old =
      let none : stored_by d len tree leaf level (StoreLevels t f l records) ≡ None =
      not_given d len tree leaf t f l level records (λ here at _. absurd (let same : f ≡ first_far levels tree = are.0.2 ∙ ap (first_far levels) here in omega (arith, same, at, low))) in
      ap (left_by d len tree leaf level messages) (ap (λ (o : Option (List ℕ)). option_or o old) none) ∙ left_above messages are.1 low old

  -- a record that is there whatever the STOREs are: what they leave of it
  pub left_there : (messages : List LevelsMessage) (far : Option (List ℕ)) (empty : List ℕ)
      → left_by d len tree leaf level messages (Some (unwrap_or far empty)) ≡ Some (unwrap_or (left_by d len tree leaf level messages far) empty)
  left_there [] far empty = refl
  left_there (message ∷ messages) far empty = by_stored (λ o. left_there messages o empty) (stored_by d len tree leaf level message)
    where
      by_stored : ((o : Option (List ℕ)) → left_by d len tree leaf level messages (Some (unwrap_or o empty)) ≡ Some (unwrap_or (left_by d len tree leaf level messages o) empty))
          → (stored : Option (List ℕ)) → left_by d len tree leaf level messages (option_or stored (Some (unwrap_or far empty)))
          ≡ Some (unwrap_or (left_by d len tree leaf level messages (option_or stored far)) empty)
      by_stored each None = each far
      by_stored each (Some x) = each (Some x)

-- the whole path, with the STOREs laid over it
pub whole_path : (c : ClientRecords) (tree leaf count : ℕ) (records path new : List ℕ) → AllByRecursion (IsFarStore c.device c.near.levels c.near.record_len) c.unsure
    → IsUnlaidPath c tree leaf count records path → LaysOver c.device c.near.record_len tree leaf c.unsure path new → IsWholePath c tree leaf count records new
whole_path c tree leaf count records path new stores unlaid lays =
    let len : ℕ = c.near.record_len in
    let one : (x y : List ℕ) → Some x ≡ Some y → x ≡ y = λ x y e. ap (λ (o : Option (List ℕ)). unwrap_or o x) e in
    record {
      long = lays.long ∙ unlaid.long;
      each = λ level low. elim (cases_lt level (first_far c.near.levels tree)) [
        | inl near ↦
            one (record_at len new level) (record_at len path level) (lays.each level low ∙ left_above c.device c.near.levels len tree leaf level c.unsure stores near (Some (record_at len path level)))
            ∙ unlaid.near level near ∙ sym (whole_near c tree leaf level (far_level len (first_far c.near.levels tree) count records level) near)
        | inr far ↦
            let given : Option (List ℕ) = far_level len (first_far c.near.levels tree) count records level in
            one (record_at len new level) (unwrap_or (left_by c.device len tree leaf level c.unsure given) (c.empty tree leaf level))
            (lays.each level low ∙ ap (λ (x : List ℕ). left_by c.device len tree leaf level c.unsure (Some x)) (unlaid.far level far low)
            ∙ left_there c.device c.near.levels len tree leaf level c.unsure given (c.empty tree leaf level))
            ∙ sym (whole_far c tree leaf level given far)
      ];
    }
