use Rattle.std.proofs.Common.{◌≡◌, ℕ, List, Result, Ok, Err, inl, inr, refl, sym, ap, ◌∙◌, subst}
use Rattle.std.proofs.lemmas.Bool.{iff_false}
use Rattle.oram_near.specs.EmptyRecords.{made_with}
use Rattle.oram_records.specs.declared.request.RecordsRequest.{RecordsRequest}
use Rattle.oram_rows.specs.Rows.{HasRows, IsOfDevice, IsWholeAnswer, client_of}
use Rattle.oram_rows.proofs.Numbers.{numbers_fit}
use Rattle.oram_rows.proofs.known_records.KnownRecords.complete.Goals as goal

-- the request in a result
request_in : {E : Type 0} → Result RecordsRequest E → RecordsRequest → RecordsRequest
request_in (Ok r) other = r
request_in (Err fault) other = other

pub returns-in_default : goal.returns-in_default
returns-in_default g c =
    let k = c.args.self.now in
    inr (λ is. (let both = sym (c.decode.ensures.only is.request (numbers_fit k.device k.near.record_len is.request is.of_device) is.asked) ∙ c.in_default.is in cc), refl)

pub returns-then-not-has_nodes : goal.returns-then-not-has_nodes
unfolding request_in
returns-then-not-has_nodes g c =
    let k = c.args.self.now in
    inr (
      λ is.
          let both = sym (c.decode.ensures.only is.request (numbers_fit k.device k.near.record_len is.request is.of_device) is.asked) ∙ c.in-Ok.is in
          let same : is.request ≡ c.in-Ok.request = ap (λ r. request_in r is.request) both in
          iff_false c.has_nodes.ensures c.if-not-has_nodes.true (subst (IsOfDevice k.device k.near.record_len) same is.of_device),
      refl,
    )

pub returns-in-Some : goal.returns-in-Some
returns-in-Some g c =
    let k = c.args.self.now in
    let client = client_of (made_with g.E.EmptyRecords.record_at) k in
    let r = c.in-Ok.request in
    let found = (rw c.in-Some.is at c.in_ok-whole.ensures) in
    let F : List ℕ → Type 0 = λ a. (has : HasRows k.near.record_len r a) × IsWholeAnswer client r has.rows c.in-Some.whole.items in
    let whole = subst F c.deref.ensures.value found in
    inl (record { request = r; asked = c.in-Ok.ensures.found; of_device = c.has_nodes.ensures.0 c.if-not-has_nodes.false; has = whole.0 }, whole.1)
