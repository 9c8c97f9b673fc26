-- A batch whose answers were all given one by one is a batch as any other.
use Rattle.std.proofs.Common.{◌≡◌, ℕ, ◌+◌, ◌<◌, List, length, Option, Ok, inl, inr, refl, arith}
use Rattle.oram_link_laws.specs.Runs.{Exchange}
use Rattle.oram_rounds.specs.Streams.{EndsAsBatch}
use Rattle.oram_client.specs.Reconnect.{DialerKind, LinkBatch}
use Rattle.oram_client.specs.BatchExchanges.{streams_end}
use Rattle.oram_client.specs.Dialer.{Destination}
use Rattle.oram_client.specs.Stamped.{CarriesStamped}
use Rattle.oram_client.specs.StampedStreams.{StreamsStamped}
use Rattle.oram_client.specs.StreamBatches.{Connection}
use Rattle.oram_client.specs.Streaming.{CountsAnswers, EndsCarried, LinkStreams, StreamsOver}
use Rattle.oram_client.specs.declared.awaited.Progress.{Progress}

-- no answer is to come once all are given
none_left : (left answers bodies : ℕ) → left + answers ≡ bodies → answers ≡ bodies → 0 < left → ⊥
none_left left answers bodies counts all more = omega (arith, counts, all, more)

-- over a link that tries again

module _ {D L : Type 0} (kind : DialerKind D L) (learns : D → ℕ → D → Type 0) (streams : StreamsOver D L) (counts : CountsAnswers streams) (ends : EndsCarried kind.carries streams) where
  pub link_streams_end : EndsAsBatch (LinkBatch kind learns) (LinkStreams streams)
  link_streams_end l m bodies answers h count =
      let carried = ends l.dialer m.dialer h.line h.line' bodies answers h.progress h.come count in
      let left = counts l.dialer m.dialer h.line h.line' bodies answers h.progress h.come in
      elim h.held [
        | inl over ↦ (
          carried.0,
          inl (inr (record {
            going = h.going;
            line = h.line;
            was_open = h.was_open;
            came = Ok answers;
            line' = h.line';
            called = carried.1;
            after = over.1;
            says = refl;
            still_going = h.still_going;
            reconnect_timeout = h.reconnect_timeout;
          })),
        )
        | inr more ↦ absurd (none_left h.progress.left _ _ left count more.0)
      ]

-- over a dialer that puts a stamp with it

module _ {S : Type 0} (remaining contents : S → Option (List ℕ)) where
  pub stamped_counts : CountsAnswers (StreamsStamped remaining contents)
  stamped_counts d e line line' bodies answers progress h = h.0

  come : (d e : Destination) (line line' : Connection S S) (bodies answers : List (List ℕ)) (progress : Progress) → StreamsStamped remaining contents d line bodies answers progress e line'
      → length answers ≡ length bodies → (exchanges : List Exchange) × CarriesStamped remaining contents d line bodies (Ok answers) exchanges e line'
  come d e line line' bodies answers progress (counts, inl plain) count =
      let batch = streams_end remaining contents line line' bodies answers plain.read count in
      (batch.0, inr (inl (record { settled = plain.settled; outcome = Ok answers; batch = batch.1; says = refl; same = plain.same })))
  come d e line line' bodies answers progress (counts, inr (inl more)) count = absurd (none_left progress.left _ _ counts count more.0)
  come d e line line' bodies answers progress (counts, inr (inr over)) count = (over.1.0, inr (inr (inl over.1.1)))

  pub stamped_ends : EndsCarried (CarriesStamped remaining contents) (StreamsStamped remaining contents)
  stamped_ends d e line line' bodies answers progress h count = come d e line line' bodies answers progress h count
