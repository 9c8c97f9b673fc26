-- The frames of messages that are sent at once.
use Rattle.std.proofs.Common.{◌≡◌, ℕ, List, [], ◌∷◌, ◌++◌, inl, inr, sym, ap, ◌∙◌, subst, append_assoc, append-nil}
use Rattle.std.specs.List.{All, flat_map}
use Rattle.std.proofs.lemmas.Grind.{flat_map-append}
use Rattle.std.proofs.lemmas.List.Elements.{All-push}
use Rattle.oram_wire.specs.FrameStream.{IsBody, frame}
use Rattle.oram_session.specs.declared.link.LinkFault.{LinkFault}
use Rattle.oram_link_laws.specs.Repair.{IsAmong}
use Rattle.oram_client.specs.StreamBatches.{AreUnframed}

-- one more frame
pub frames_more : (front : List (List ℕ)) (body : List ℕ) → flat_map frame (front ++ body ∷ []) ≡ flat_map frame front ++ frame body
frames_more front body = flat_map-append frame front (body ∷ []) ∙ ap (λ (t : List ℕ). flat_map frame front ++ t) (append-nil (frame body))

-- the frames of `next`, which is `front` and one more body, after some bytes
pub framed_next : (start : List ℕ) (front next : List (List ℕ)) (body before after : List ℕ) → next ≡ front ++ body ∷ [] → before ≡ start ++ flat_map frame front
    → after ≡ before ++ frame body → after ≡ start ++ flat_map frame next
framed_next start front next body before after is framed more =
    more ∙ ap (λ (t : List ℕ). t ++ frame body) framed ∙ append_assoc start (flat_map frame front) (frame body)
    ∙ ap (λ (t : List ℕ). start ++ t) (sym (ap (flat_map frame) is ∙ frames_more front body))

pub fit_next : (front next : List (List ℕ)) (body : List ℕ) → next ≡ front ++ body ∷ [] → All IsBody front → IsBody body → All IsBody next
fit_next front next body is fit fits = subst (All IsBody) (sym is) (All-push IsBody front body fit fits)

-- the bodies among others

pub among_left : (first last : List (List ℕ)) (x : List ℕ) → IsAmong x first → IsAmong x (first ++ last)
among_left [] last x among = absurd among
among_left (b ∷ first) last x (inl same) = inl same
among_left (b ∷ first) last x (inr later) = inr (among_left first last x later)

pub among_right : (first last : List (List ℕ)) (x : List ℕ) → IsAmong x last → IsAmong x (first ++ last)
among_right [] last x among = among
among_right (b ∷ first) last x among = inr (among_right first last x among)

pub among_one : (bodies : List (List ℕ)) (body x : List ℕ) → IsAmong body bodies → IsAmong x (body ∷ []) → IsAmong x bodies
among_one bodies body x among (inl same) = subst (λ (y : List ℕ). IsAmong y bodies) (sym same) among
among_one bodies body x among (inr none) = absurd none

-- what has no frame among some bodies has none among more
pub unframed_among : (some all : List (List ℕ)) (fault : LinkFault) → ((x : List ℕ) → IsAmong x some → IsAmong x all) → AreUnframed some fault → AreUnframed all fault
unframed_among some all fault inside (inl memory) = inl memory
unframed_among some all fault inside (inr long) = inr (long.0, (long.1.0, inside long.1.0 long.1.1, long.1.2))
