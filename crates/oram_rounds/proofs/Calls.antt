-- A call of a link that holds STOREs back is one of the host as it will be.
use Rattle.std.proofs.Common.{◌≡◌, ◌≢◌, ℕ, ◌+◌, ◌*◌, ◌^◌, ◌<◌, ◌≤◌, ◌==◌, arith, Bool, true, false, List, [], ◌∷◌, length, drop, Option, unwrap_or, Ok, Err, refl, sym, ap, ◌∙◌, subst, inl, inr}
use Rattle.std.specs.Prelude.{MatchBool}
use Rattle.std.proofs.lemmas.Bool.Decides.{nat_tests}
use Rattle.sha2.specs.Sha256.{sha256}
use Rattle.oram_geometry.specs.Path.{node_on}
use Rattle.oram_geometry.specs.Sizes.{depth_of}
use Rattle.oram_hash.specs.Path.{path_of, record_at}
use Rattle.oram_hash.specs.Tree.{Collides}
use Rattle.oram_trace.specs.declared.entries.Entry.{Entry}
use Rattle.oram_wire.specs.HostMessages.{answer_body, payload_answer}
use Rattle.oram_wire.specs.HostBodies.{IsAnswer}
use Rattle.oram_wire.specs.declared.host_messages.HostAnswer.{HostAnswer}
use Rattle.oram_wire.specs.declared.host_messages.HostAnswer.TheVariants.{Done, Payload, Refused}
use Rattle.oram_wire.specs.declared.host_messages.HostRequest.TheVariants.{Fetch}
use Rattle.oram_host.specs.Answers.{Answers, IsFetched}
use Rattle.oram_host.specs.Host.{Host, Kept, record_of, tree_at}
use Rattle.oram_host.specs.Path.{record_at as host_record}
use Rattle.oram_host.specs.Service.{Serves}
use Rattle.oram_core.proofs.Sound.{requested_fetch}
use Rattle.oram_semantics.specs.Answers.{answered_path, is_payload}
use Rattle.oram_semantics.specs.Messages.{requested}
use Rattle.oram_semantics.specs.Scheme.{Scheme, record_len}
use Rattle.oram_tree.specs.Content.{node_count}
use Rattle.oram_host_laws.specs.Honest.{KeepsTree}
use Rattle.oram_host_laws.specs.AnyHost.{IsLie, ShowsPair}
use Rattle.oram_host_laws.proofs.Handed.{fetch_refused, fetched_whole, kept_same, node_in, record_same}
use Rattle.oram_session.specs.Honesty.{IsHonestCall}
use Rattle.oram_session.specs.Outcome.{Outcome}
use Rattle.oram_rounds.specs.CatchUp.{CatchesUp, IsPlainCall, IsPlainLie, ShowsTwin, left_by}
use Rattle.oram_rounds.specs.Law.{IsStocked}
use Rattle.oram_rounds.specs.Overlay.{IsOverlaid, LaysAllOver, holds_path}
use Rattle.oram_rounds.specs.PathMessages.{IsPathFetch}
use Rattle.oram_rounds.proofs.KeptPaths.{all_long, all_over, fetched_levels, fetched_so, has_levels, has_path, leaf_small, record_long, refuses_fetch, serves_fetch, whole_over}

records_same : (v : Scheme) (i n : ℕ) (r q : ℕ → List ℕ) (host : Host) → KeepsTree v i r host → KeepsTree v i q host → n < node_count (depth_of v.device i) → r n ≡ q n
records_same v i n r q host k j within =
    ap (λ (o : Option (List ℕ)). unwrap_or o [])
    (sym (k.each n within) ∙ ap (λ (kept : Kept). record_of kept n) (kept_same (tree_at host i) k.kept j.kept k.there j.there) ∙ j.each n within)

module _ (v : Scheme) (host later : Host) (held : List (List ℕ)) (c : CatchesUp v host held later) (body : List ℕ) (f : IsPathFetch v.device body) where
  small : f.leaf < 2 ^ 32
  small = leaf_small v f.tree f.leaf f.leaf_in

  here : KeepsTree v f.tree (c.records f.tree) host
  here = c.keeps f.tree f.tree_in

  there : KeepsTree v f.tree (left_by v c.records held f.tree) later
  there = c.ahead f.tree f.tree_in

  abbrev Overlaid : List ℕ → List ℕ → Type 0
  Overlaid answer given = IsOverlaid v.device (record_len v) f.tree f.leaf held answer given

  served : (answer : HostAnswer) (h after : Host) → Serves h body answer after → Answers h (Fetch f.tree f.leaf) answer after
  served answer h after serves = serves.request (Fetch f.tree f.leaf) small f.named

  gives : (answer : HostAnswer) → Answers later (Fetch f.tree f.leaf) answer later → Serves later body answer later
  gives answer is = subst (λ (b : List ℕ). Serves later b answer later) (sym f.named) (serves_fetch later later f.tree f.leaf answer small is)

  -- a fetched path with the STOREs' records laid over it is the path that is fetched later
  fetched_later : (bytes new : List ℕ) → IsFetched host f.tree f.leaf bytes → LaysAllOver v.device (record_len v) f.tree f.leaf held bytes new
      → IsFetched later f.tree f.leaf new
  fetched_later bytes new is lays =
      fetched_so v f.tree f.leaf (left_by v c.records held f.tree) later there f.leaf_in new
      (whole_over v f.tree f.leaf f.leaf_in held bytes new lays (fetched_whole v f.tree f.leaf (c.records f.tree) host here f.leaf_in bytes host is))
      (λ l low. elim (all_over v f.tree f.leaf f.leaf_in held c.records bytes new lays l low) [
        | inl left ↦ left
        | inr was ↦ was.0 ∙ fetched_levels v f.tree f.leaf (c.records f.tree) host here f.leaf_in bytes is l low ∙ sym was.1
      ])

  -- the bytes of a path in an answer
  overlaid_path : (bytes given : List ℕ) → length bytes ≡ (depth_of v.device f.tree + 1) * record_len v → Overlaid (payload_answer bytes) given
      → (new : List ℕ) × LaysAllOver v.device (record_len v) f.tree f.leaf held bytes new × (given ≡ payload_answer new)
  overlaid_path bytes given whole over =
      let long : (length (128 ∷ bytes) == 1 + (depth_of v.device f.tree + 1) * record_len v) ≡ true = grind (arith, nat_tests) in
      let holds : holds_path v.device (record_len v) f.tree f.leaf (payload_answer bytes) ≡ true = rw long refl in
      subst (λ (b : Bool). MatchBool b ((new : List ℕ) × LaysAllOver v.device (record_len v) f.tree f.leaf held bytes new × (given ≡ payload_answer new)) (given ≡ payload_answer bytes)) holds over

  unpayload : (code : ℕ) (given : List ℕ) → Overlaid (129 ∷ code ∷ []) given → given ≡ 129 ∷ code ∷ []
  unpayload code given over = over

  honest_by : (answer : HostAnswer) (after : Host) (given : List ℕ) → IsAnswer answer → Serves host body answer after → Overlaid (answer_body answer) given
      → IsHonestCall later body (Ok given) later
  honest_by Done after given is serves over = absurd (served Done host after serves)
  honest_by (Payload bytes) after given is serves over =
      let a = served (Payload bytes) host after serves in
      let whole : length bytes ≡ (depth_of v.device f.tree + 1) * record_len v = fetched_whole v f.tree f.leaf (c.records f.tree) host here f.leaf_in bytes host a.0 in
      let o = overlaid_path bytes given whole over in
      let some : 0 < length bytes = is in
      (Payload o.0, (let e = whole_over v f.tree f.leaf f.leaf_in held bytes o.0 o.1 whole in omega (arith, e, some, whole)), o.2, gives (Payload o.0) (fetched_later bytes o.0 a.0 o.1, refl))
  honest_by (Refused code) after given is serves over =
      let a = served (Refused code) host after serves in
      let eight : code ≡ 8 = a.1 ∙ fetch_refused v f.tree f.leaf (c.records f.tree) host here f.leaf_in a.0 a.2 in (
        Refused 8,
        (omega arith, omega arith),
        unpayload code given over ∙ ap (λ (n : ℕ). 129 ∷ n ∷ []) eight,
        gives (Refused 8) (refuses_fetch v f.tree f.leaf (left_by v c.records held f.tree) later there f.leaf_in),
      )

  pub honest_later : (answer given : List ℕ) (after : Host) → IsHonestCall host body (Ok answer) after → Overlaid answer given → IsHonestCall later body (Ok given) later
  honest_later answer given after h over = honest_by h.0 after given h.1 h.3 (subst (λ (b : List ℕ). Overlaid b given) h.2 over)

  -- a lie about the host beside is one about the host later

  requested_is : requested body ≡ record { fetch = true; tree = f.tree; leaf = f.leaf }
  requested_is = ap requested f.named ∙ requested_fetch f.tree f.leaf small

  abbrev entry : Entry
  entry = record { fetch = true; tree = f.tree; leaf = f.leaf }

  abbrev level_of : List ℕ → ℕ → List ℕ
  level_of bytes l = record_at (answered_path v entry bytes) l

  -- what the records of two different digests would be, for the entry itself
  abbrev PairAt : Entry → Host → List ℕ → Type 0
  PairAt e h bytes = (is_payload v e bytes ≡ true) × (records : ℕ → List ℕ) × KeepsTree v e.tree records h × Collides records (answered_path v e bytes)

  pair_at : (h : Host) (bytes : List ℕ) → ShowsPair v h body bytes → PairAt entry h bytes
  pair_at h bytes p = subst (λ (e : Entry). PairAt e h bytes) requested_is (p.payload, p.records, p.kept, p.pair)

  abbrev TwinAt : Entry → Host → List ℕ → Type 0
  TwinAt e h bytes = (is_payload v e bytes ≡ true) × (records : ℕ → List ℕ) × KeepsTree v e.tree records h × (level : ℕ) × (level ≤ depth_of v.device e.tree)
      × (record_at (answered_path v e bytes) level ≢ records (node_on (depth_of v.device e.tree) e.leaf level))
      × (sha256 (record_at (answered_path v e bytes) level) ≡ sha256 (records (node_on (depth_of v.device e.tree) e.leaf level)))

  twin_at : (h : Host) (bytes : List ℕ) → TwinAt entry h bytes → ShowsTwin v h body bytes
  twin_at h bytes t =
      let u = subst (λ (e : Entry). TwinAt e h bytes) (sym requested_is) t in
      record { payload = u.0; records = u.1; kept = u.2; level = u.3; within = u.4; differs = u.5; digest = u.6 }

  pair_twin : (h : Host) (bytes : List ℕ) → PairAt entry h bytes → TwinAt entry h bytes
  pair_twin h bytes p = (p.0, p.1, p.2, p.3.0, p.3.1.within, p.3.1.differs, p.3.2)

  at_twin : (h : Host) (bytes : List ℕ) → ShowsTwin v h body bytes → TwinAt entry h bytes
  at_twin h bytes t = subst (λ (e : Entry). TwinAt e h bytes) requested_is (t.payload, t.records, t.kept, t.level, t.within, t.differs, t.digest)

  no_twin_by : (b : Bool) (answer given : List ℕ) → holds_path v.device (record_len v) f.tree f.leaf answer ≡ b
      → MatchBool b ((new : List ℕ) × LaysAllOver v.device (record_len v) f.tree f.leaf held (drop 1 answer) new × (given ≡ payload_answer new)) (given ≡ answer)
      → ¬ ShowsTwin v host body answer → ¬ TwinAt entry later given
  no_twin_by false answer given holds over apart t =
      let none : holds_path v.device (record_len v) f.tree f.leaf given ≡ false = ap (holds_path v.device (record_len v) f.tree f.leaf) over ∙ holds in
      absurd (let both : true ≡ false = sym t.0 ∙ none in cc)
  no_twin_by true answer given holds over apart t =
      let level : ℕ = t.3 in
      let within : level ≤ depth_of v.device f.tree = t.4 in
      let nth : ℕ = node_on (depth_of v.device f.tree) f.leaf level in
      let kept : t.1 nth ≡ left_by v c.records held f.tree nth =
      records_same v f.tree nth t.1 (left_by v c.records held f.tree) later t.2 there (node_in (depth_of v.device f.tree) f.leaf level f.leaf_in within) in
      let bytes_of : (bytes : List ℕ) → host_record (record_len v) bytes level ≡ record_at (path_of v.device f.tree f.leaf v.cipher.overhead bytes) level =
      λ bytes. record_same (path_of v.device f.tree f.leaf v.cipher.overhead bytes) level in
      let given_is : level_of given level ≡ host_record (record_len v) over.0 level =
      ap (λ (b : List ℕ). level_of b level) over.2 ∙ sym (bytes_of over.0) in
      elim (all_over v f.tree f.leaf f.leaf_in held c.records (drop 1 answer) over.0 over.1 level within) [
        | inl left ↦ absurd (t.5 (given_is ∙ left ∙ sym kept))
        | inr was ↦
            let same : level_of given level ≡ level_of answer level = given_is ∙ was.0 ∙ bytes_of (drop 1 answer) in
            let node_is : t.1 nth ≡ c.records f.tree nth = kept ∙ was.1 in
            apart (twin_at host answer (
              holds,
              c.records f.tree,
              here,
              level,
              within,
              (λ e. t.5 (same ∙ e ∙ sym node_is)),
              ap sha256 (sym same) ∙ t.6 ∙ ap sha256 node_is,
            ))
      ]

  no_twin : (answer given : List ℕ) → Overlaid answer given → ¬ ShowsTwin v host body answer → ¬ TwinAt entry later given
  no_twin answer given over apart t = no_twin_by (holds_path v.device (record_len v) f.tree f.leaf answer) answer given refl over apart t

  pub lie_later : (answer given : List ℕ) (after : Host) → IsStocked v later → IsPlainLie v host body answer after → Overlaid answer given → IsLie v later body given later
  lie_later answer given after stocked lie over =
      let path = has_path v f.tree f.leaf (stocked.0 f.tree) later (stocked.1 f.tree f.tree_in) f.leaf_in (λ n within. stocked.2 f.tree n f.tree_in within) in
      record {
        answer = Payload path.0;
        heard = gives (Payload path.0) (path.1, refl);
        room = λ e. absurd cc;
        apart = λ p. no_twin answer given over lie.apart (pair_twin later given (pair_at later given p));
      }

  -- where the host beside gives a path, the host later gives one too

  heard_path : (answer : HostAnswer) (after : Host) → Serves host body answer after → answer ≢ Refused 8 → (bytes : List ℕ) × IsFetched host f.tree f.leaf bytes
  heard_path Done after serves room = absurd (served Done host after serves)
  heard_path (Payload bytes) after serves room = (bytes, (served (Payload bytes) host after serves).0)
  heard_path (Refused code) after serves room =
      let a = served (Refused code) host after serves in
      let eight : code ≡ 8 = a.1 ∙ fetch_refused v f.tree f.leaf (c.records f.tree) host here f.leaf_in a.0 a.2 in
      absurd (room (ap (λ (n : ℕ). Refused n) eight))

  path_later : (bytes : List ℕ) → IsFetched host f.tree f.leaf bytes → (new : List ℕ) × IsFetched later f.tree f.leaf new
  path_later bytes is =
      let whole = fetched_whole v f.tree f.leaf (c.records f.tree) host here f.leaf_in bytes host is in
      has_levels v f.tree f.leaf (left_by v c.records held f.tree) later there f.leaf_in (λ l low.
      all_long v f.tree f.leaf f.leaf_in held c.records c.paths l low (
      ap length (sym (fetched_levels v f.tree f.leaf (c.records f.tree) host here f.leaf_in bytes is l low))
      ∙ record_long v f.tree f.leaf f.leaf_in bytes whole l low))

  plain_lie_later : (answer given : List ℕ) (after : Host) → IsPlainLie v host body answer after → Overlaid answer given → IsPlainLie v later body given later
  plain_lie_later answer given after lie over =
      let heard = heard_path lie.answer after lie.heard lie.room in
      let path = path_later heard.0 heard.1 in
      record {
        answer = Payload path.0;
        heard = gives (Payload path.0) (path.1, refl);
        room = λ e. absurd cc;
        apart = λ t. no_twin answer given over lie.apart (at_twin later given t);
      }

  -- A call of the host beside is one of the host later, once the STOREs' records are laid over the answer.
  pub plain_later : (may_lie : Bool) (answer given : List ℕ) (after : Host) → IsPlainCall may_lie v host body (Ok answer) after → Overlaid answer given
      → IsPlainCall may_lie v later body (Ok given) later
  plain_later may_lie answer given after (inl honest) over = inl (honest_later answer given after honest over)
  plain_later may_lie answer given after (inr lie) over =
      let same : answer ≡ lie.1 = ap (λ (x : Outcome). elim x as (λ _. List ℕ) [ Ok b ↦ b | Err e ↦ answer ]) lie.2 in
      let plain_lie : IsPlainLie v host body answer after = subst (λ (b : List ℕ). IsPlainLie v host body b after) (sym same) lie.3 in
      inr (lie.0, given, refl, plain_lie_later answer given after plain_lie over)

  -- the host later may refuse for lack of room, and a host that may lie may answer anything that is no path

  pub refuses_later : Serves later body (Refused 8) later
  refuses_later = gives (Refused 8) (refuses_fetch v f.tree f.leaf (left_by v c.records held f.tree) later there f.leaf_in)

  pub pathless_lie : (answer : List ℕ) → IsStocked v later → holds_path v.device (record_len v) f.tree f.leaf answer ≡ false → IsLie v later body answer later
  pathless_lie answer stocked none =
      let path = has_path v f.tree f.leaf (stocked.0 f.tree) later (stocked.1 f.tree f.tree_in) f.leaf_in (λ n within. stocked.2 f.tree n f.tree_in within) in
      record {
        answer = Payload path.0;
        heard = gives (Payload path.0) (path.1, refl);
        room = λ e. absurd cc;
        apart = λ p. let at = pair_at later answer p in absurd (let both : true ≡ false = sym at.0 ∙ none in cc);
      }
