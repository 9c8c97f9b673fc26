use Rattle.std.proofs.Common.{◌≡◌, inl, inr, sym, ◌∙◌, subst}
use Rattle.oram_client.specs.AnswerLengths.{DiskSizes}
use Rattle.oram_client.specs.Dialer.{Destination, IsGreetedOver, IsUngreetedOver}
use Rattle.oram_client.specs.Stamped.{FailsToOpen, IsCompared, Opens}
use Rattle.oram_client.specs.StreamBatches.{Connection}
use Rattle.oram_sockets.specs.Duplex.{contents_of, remaining_of}
use Rattle.oram_client.proofs.Greeted.{somewhere}
use Rattle.oram_client.proofs.tcp_dialer.TcpDialerDial.dial.Goals as goal

pub returns-in-Ok-compare-clause-ok : goal.returns-in-Ok-compare-clause-ok
returns-in-Ok-compare-clause-ok g c =
    let same : c.now.new.self ≡ c.args.self.now = c.now.ensures ∙ c.now-begin.ensures in
    let greeted = c.in-Ok.line in
    let measured = subst (λ (k : DiskSizes). IsGreetedOver (remaining_of g.R.Stream.Read.remaining) (contents_of g.R.Stream.Write.contents) c.new.result c.new-2.result k c.self-2.inside.identity greeted)
    c.copy-lengths.ensures c.in-Ok.ensures.ok in
    let over = subst (λ (d : Destination). IsGreetedOver (remaining_of g.R.Stream.Read.remaining) (contents_of g.R.Stream.Write.contents) c.new.result c.new-2.result d.disk d.identity greeted)
    c.self-2.view_is measured in
    let compared = subst (λ l. IsCompared (remaining_of g.R.Stream.Read.remaining) (contents_of g.R.Stream.Write.contents) c.now.new.self greeted l c.compare.new.self)
    (sym c.set_limit.ensures) c.in-Ok-compare.ensures.ok in
    subst (λ (d : Destination). Opens (remaining_of g.R.Stream.Read.remaining) (contents_of g.R.Stream.Write.contents) d c.set_limit.new.self c.compare.new.self) same
    (greeted, (c.new.result, c.new-2.result, over), compared)

pub returns-in-Ok-clause-err : goal.returns-in-Ok-clause-err
returns-in-Ok-clause-err g c =
    let same : c.now.new.self ≡ c.args.self.now = c.now.ensures ∙ c.now-begin.ensures in
    let greeted = c.in-Ok.line in
    let measured = subst (λ (k : DiskSizes). IsGreetedOver (remaining_of g.R.Stream.Read.remaining) (contents_of g.R.Stream.Write.contents) c.new.result c.new-2.result k c.self-2.inside.identity greeted)
    c.copy-lengths.ensures c.in-Ok.ensures.ok in
    let over = subst (λ (d : Destination). IsGreetedOver (remaining_of g.R.Stream.Read.remaining) (contents_of g.R.Stream.Write.contents) c.new.result c.new-2.result d.disk d.identity greeted)
    c.self-2.view_is measured in
    let failed = c.in-Err-compare.ensures.err in (
      subst (λ (d : Destination). FailsToOpen (remaining_of g.R.Stream.Read.remaining) (contents_of g.R.Stream.Write.contents) d c.in-Err-compare.trouble) same
          (inr (greeted, (c.new.result, c.new-2.result, over), failed.1)),
      failed.0 ∙ same,
    )

pub returns-clause-err : goal.returns-clause-err
returns-clause-err g c =
    let same : c.now.new.self ≡ c.args.self.now = c.now.ensures ∙ c.now-begin.ensures in
    let measured = subst (λ (k : DiskSizes). IsUngreetedOver (remaining_of g.R.Stream.Read.remaining) (contents_of g.R.Stream.Write.contents) c.new.result c.new-2.result k c.self-2.inside.identity c.in-Err.trouble)
    c.copy-lengths.ensures c.in-Err.ensures.err in (
      inl (somewhere (remaining_of g.R.Stream.Read.remaining) (contents_of g.R.Stream.Write.contents) c.new.result c.new-2.result c.args.self.now.disk c.args.self.now.identity c.in-Err.trouble
          (subst (λ (d : Destination). IsUngreetedOver (remaining_of g.R.Stream.Read.remaining) (contents_of g.R.Stream.Write.contents) c.new.result c.new-2.result d.disk d.identity c.in-Err.trouble)
          (c.self-2.view_is ∙ same) measured)),
      same,
    )
