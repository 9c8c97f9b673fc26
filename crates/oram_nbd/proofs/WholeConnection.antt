-- The batches of a connection, joined: all its requests together have the replies of an array.
use Rattle.std.proofs.Common.{◌≡◌, ℕ, false, List, [], ◌∷◌, ◌++◌, refl, subst}
use Rattle.std.specs.List.{FoldsTo, flat_map}
use Rattle.oram_nbd.specs.Beside.{GoesOn, HasArrays}
use Rattle.oram_nbd.specs.DeviceKind.{DeviceKind}
use Rattle.oram_nbd.specs.Service.{AnsweredRequest, IsService, NeverFails}
use Rattle.oram_nbd.specs.Transmission.{ConnectionsServeArrays, ServesBatch}
use Rattle.oram_nbd.proofs.Beside.{at_rest, joined_calls}

service_join : (old mid : List ℕ) (xs ys : List AnsweredRequest) (new : List ℕ) → IsService old xs mid → IsService mid ys new → IsService old (xs ++ ys) new
service_join old mid [] ys new is more = subst (λ (l : List ℕ). IsService l ys new) is more
service_join old mid (a ∷ xs) ys new (next, first, rest) more = (next, first, service_join next mid xs ys new rest more)

never_join : (xs ys : List AnsweredRequest) → NeverFails xs → NeverFails ys → NeverFails (xs ++ ys)
never_join [] ys h more = more
never_join (a ∷ xs) ys (first, rest) more = (first, never_join xs ys rest more)

module _ {D W E : Type 0} (kind : DeviceKind D W E) (size : ℕ) (new : D) where
  abbrev Goes : D → List AnsweredRequest → Type 0
  Goes old answered = GoesOn kind.had kind.hears (HasArrays kind.holds kind.kept) old
      (λ may_lie before later. IsService before.held answered later.held × (may_lie ≡ false → NeverFails answered)) new

  batches_joined : (batches : List (List AnsweredRequest)) (old : D) → FoldsTo {P = D} {A = List AnsweredRequest} (ServesBatch kind size) old batches new
      → Goes old (flat_map (λ (batch : List AnsweredRequest). batch) batches)
  batches_joined [] old same =
      subst (λ (d : D). GoesOn kind.had kind.hears (HasArrays kind.holds kind.kept) old (λ may_lie before later. (later.held ≡ before.held) × (may_lie ≡ false → NeverFails [])) d) same
      (at_rest {had = kind.had} {hears = kind.hears} {holds = HasArrays kind.holds kind.kept} (λ may_lie world before h. (refl, λ honest. tt)))
  batches_joined (batch ∷ batches) old (mid, first, rest) =
      joined_calls {hears = kind.hears} {holds = HasArrays kind.holds kind.kept} first.leads (batches_joined batches mid rest)
      (λ may_lie world before between later h one two.
      let others = flat_map (λ (batch : List AnsweredRequest). batch) batches in (
        service_join before.held between.held batch others later.held one.0 two.0,
        λ honest. never_join batch others (one.1 honest) (two.1 honest),
      ))

pub connections_serve_arrays : {D W E : Type 0} (kind : DeviceKind D W E) → ConnectionsServeArrays kind
connections_serve_arrays kind size old new answered s =
    subst (λ (l : List AnsweredRequest). Goes kind size new old l) s.all (batches_joined kind size new s.batches old s.served)
