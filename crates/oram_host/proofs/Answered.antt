-- Frames in, frames out, up to some request.
use Rattle.std.proofs.Common.{◌≡◌, ℕ, ◌+◌, ◌∷◌, ◌++◌, List, [], length, Option, All, refl, sym, ap, ◌∙◌, subst, append-nil, length-append}
use Rattle.std.specs.List.{FoldsTo}
use Rattle.std.proofs.lemmas.Fn.{FoldsTo-push}
use Rattle.std.proofs.lemmas.List.Concat.{flat_map-append}
use Rattle.std.proofs.lemmas.List.Elements.{All-push}
use Rattle.std.specs.Io.KnownBytes.{Appends, Consumes}
use Rattle.std.proofs.KnownBytes.{Appends-trans, Consumes-trans}
use Rattle.oram_wire.specs.FrameStream.{IsBody, frame}
use Rattle.oram_host.specs.Answered.{Answering, HasAnswered, frames_of}

abbrev pub answering : {P : Type 0} → P → Option (List ℕ) → Option (List ℕ) → Answering P
answering state unread written = record { state = state; unread = unread; written = written }

module _ {P X : Type 0} (leads : P → X → P → Type 0) (request answer : X → List ℕ) where
  -- n of them, and nothing more
  pub record Answered (p : Answering P) (n : ℕ) (q : Answering P) : Type 0 where
    pub all : List X
    pub count : length all ≡ n
    pub led : FoldsTo leads p.state all q.state
    pub fits : All (λ x. IsBody (request x)) all
    pub read : Consumes p.unread q.unread (frames_of request all)
    pub wrote : Appends p.written q.written (frames_of answer all)

  pub answered_more : (p : Answering P) (n : ℕ) (q : Answering P) (x : X) (z : Answering P) → Answered p n q → leads q.state x z.state → IsBody (request x)
      → Consumes q.unread z.unread (frame (request x)) → Appends q.written z.written (frame (answer x)) → Answered p (n + 1) z
  answered_more p n q x z k led body read wrote = record {
    all = k.all ++ x ∷ [];
    count = length-append k.all (x ∷ []) ∙ ap (λ i. i + 1) k.count;
    led = FoldsTo-push leads p.state k.all q.state x z.state k.led led;
    fits = All-push (λ y. IsBody (request y)) k.all x k.fits body;
    read = subst (Consumes p.unread z.unread)
        (sym (flat_map-append (λ y. frame (request y)) k.all (x ∷ []) ∙ ap (λ l. frames_of request k.all ++ l) (append-nil (frame (request x)))))
        (Consumes-trans p.unread q.unread z.unread (frames_of request k.all) (frame (request x)) k.read read);
    wrote = subst (Appends p.written z.written)
        (sym (flat_map-append (λ y. frame (answer y)) k.all (x ∷ []) ∙ ap (λ l. frames_of answer k.all ++ l) (append-nil (frame (answer x)))))
        (Appends-trans p.written q.written z.written (frames_of answer k.all) (frame (answer x)) k.wrote wrote);
  }

  -- and then some more bytes were read and written, and the state stayed as it was
  pub answered_then : (p : Answering P) (n : ℕ) (q z : Answering P) (part more : List ℕ) (k : Answered p n q) → z.state ≡ q.state
      → Consumes q.unread z.unread part → Appends q.written z.written more
      → HasAnswered leads request answer (record { before = p; things = k.all; part = part; more = more; after = z })
  answered_then p n q z part more k same read wrote = record {
    led = subst (λ (s : P). FoldsTo leads p.state k.all s) (sym same) k.led;
    fits = k.fits;
    read = Consumes-trans p.unread q.unread z.unread (frames_of request k.all) part k.read read;
    wrote = Appends-trans p.written q.written z.written (frames_of answer k.all) more k.wrote wrote;
  }
