use Rattle.std.proofs.Common.{◌≡◌, ◌≤◌, ◌-◌, ℕ, Some, length, take, refl, sym, ap, ◌∙◌, subst, arith}
use Rattle.std.proofs.lemmas.Bool.Decides.{nat_tests}
use Rattle.oram_nbd.specs.Messages.{payload_len}
use Rattle.oram_nbd.specs.declared.requests.Request.{Request}
use Rattle.oram_nbd.proofs.WholeRequests.{begins_by, begins_head, begins_long}
use Rattle.oram_nbd.proofs.arrivals.has_request.Goals as goal

pub returns-in-Some : goal.returns-in-Some
returns-in-Some c =
    let r = c.in-Some.request in
    let found = c.in-Some.ensures.found in
    let least : 28 ≤ length c.args.arrived.now = omega (arith, c.if-arrived-lt-BYTES.false) in (
      λ enough.
          let few : c.payload_len.result ≤ length c.args.arrived.now - 28 = grind (arith, nat_tests, enough) in
          begins_by c.args.arrived.now (take 28 c.args.arrived.now) r refl found.0 found.1 least (subst (λ (n : ℕ). n ≤ length c.args.arrived.now - 28) c.payload_len.ensures few),
      λ b.
          let only = c.decode.ensures.only b.first.request b.whole.request (begins_head c.args.arrived.now b) in
          let both : Some r ≡ Some b.first.request = sym c.in-Some.is ∙ only in
          let same : r ≡ b.first.request = cc in
          let count : c.payload_len.result ≡ payload_len b.first.request.command b.first.request.length = c.payload_len.ensures ∙ ap (λ (q : Request). payload_len q.command q.length) same in
          let long = begins_long c.args.arrived.now b in
          let few : c.payload_len.result ≤ length c.args.arrived.now - 28 = omega (arith, count, long) in
          grind (arith, nat_tests, few),
    )
