-- What was received after a writer took in some of what arrives: the reader had the same bytes to give all the time.
use Rattle.std.proofs.Common.{ℕ, List, [], None, Some, Option, Result, Ok, Err, length, take, take_all, sym, ◌∙◌, subst, arith, append-nil}
use Rattle.std.specs.Prelude.{IfOk, IfErr}
use Rattle.std.proofs.KnownBytes.{Appends-kept}
use Rattle.std.specs.Global.{Vec}
use Rattle.std.specs.Io.KnownBytes.{Appends, Consumes, Keeps}
use Rattle.oram_session.specs.declared.link.LinkFault.{LinkFault}
use Rattle.oram_rounds.specs.Batches.{texts}
use Rattle.oram_client.specs.StreamBatches.{AreReceived, StopsAfter}

consumed_from : (a b c : Option (List ℕ)) (bytes : List ℕ) → Keeps a b → Consumes b c bytes → Consumes a c bytes
consumed_from None b c bytes kept consumed = tt
consumed_from (Some x) None c bytes kept consumed = absurd kept
consumed_from (Some x) (Some y) None bytes kept consumed = absurd consumed
consumed_from (Some x) (Some y) (Some z) bytes kept consumed = sym kept ∙ consumed

-- nothing was appended

pub kept_appends : (a b : Option (List ℕ)) → Keeps a b → Appends a b []
kept_appends None b kept = tt
kept_appends (Some x) None kept = absurd kept
kept_appends (Some x) (Some y) kept = kept ∙ sym (append-nil x)

pub appends_kept : (a b : Option (List ℕ)) → Appends a b [] → Keeps a b
appends_kept None b appends = tt
appends_kept (Some x) None appends = absurd appends
appends_kept (Some x) (Some y) appends = appends ∙ append-nil x

-- all bytes were written, and then the writer was flushed
pub flushed : (a b c : Option (List ℕ)) (bytes : List ℕ) → Appends a b bytes → Keeps b c → (count : ℕ) × Appends a c (take count bytes)
flushed a b c bytes appends kept =
    (length bytes, subst (Appends a c) (sym (take_all (length bytes) bytes (omega arith))) (Appends-kept a b c bytes appends kept))

module _ (longest : List ℕ → ℕ) (a b c : Option (List ℕ)) (kept : Keeps a b) (bodies : List (List ℕ)) where
  received_from : (c : Option (List ℕ)) (bodies answers : List (List ℕ)) → AreReceived longest b c bodies answers → AreReceived longest a c bodies answers
  received_from c bodies answers r = record { count = r.count; read = (r.read.0, consumed_from a b c _ kept r.read.1); within = r.within }

  pub received_ok : (result : Result (Vec (Vec ℕ)) LinkFault) → IfOk result (λ answers. AreReceived longest b c bodies (texts answers.items))
      → IfOk result (λ answers. AreReceived longest a c bodies (texts answers.items))
  received_ok (Ok answers) r = received_from c bodies (texts answers.items) r
  received_ok (Err fault) r = tt

  pub stopped_err : (result : Result (Vec (Vec ℕ)) LinkFault) → IfErr result (λ fault. (answers : List (List ℕ)) × StopsAfter longest b c bodies answers fault)
      → IfErr result (λ fault. (answers : List (List ℕ)) × StopsAfter longest a c bodies answers fault)
  stopped_err (Ok answers) s = tt
  stopped_err (Err fault) s = (
    s.0,
    record { first = s.1.first; next = s.1.next; others = s.1.others; all = s.1.all; mid = s.1.mid; received = received_from s.1.mid s.1.first s.0 s.1.received; stop = s.1.stop },
  )
