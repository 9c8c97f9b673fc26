-- Laws about sealing, and about the texts of summaries.
use Rattle.std.proofs.Common.{◌≡◌, ◌≢◌, ℕ, ◌⊎◌, inl, inr, List, ◌++◌, length, take, drop, refl, sym, ap, ◌∙◌, subst, arith, Ok, Err, Result, IfOk, append_assoc, length-append}
use Rattle.std.proofs.lemmas.List.{take_at, drop_at}
use Rattle.sha2.proofs.Facts256.{length-sha256}
use Rattle.oram_hmac.proofs.TagsApart.{keys_apart, messages_apart, same_list}
use Rattle.oram_checkpoints.proofs.Fronts.{parts_same}
use Rattle.oram_summary.specs.declared.faults.SummaryFault.{SummaryFault}
use Rattle.oram_summary.specs.Contents.{Contents}
use Rattle.oram_summary.specs.Keys.{key_text, stream_key, stream_purpose, stream_secret, tag_key, tag_purpose}
use Rattle.oram_summary.specs.Laws.{FormattingsShareNoStream, KeysCollide, OpenedTextsHaveTheirTag, OtherKeysAreRefused, RightTagsOpen, SealedTextsOpen, SummariesShareNoStream}
use Rattle.oram_summary.specs.Sealed.{IsSealedSummary}
use Rattle.oram_summary.specs.Sealing.{IsSealingOf, hidden, sealing, tag_of}
use Rattle.oram_summary.specs.Text.{IsTextOf}
use Rattle.oram_summary.proofs.SealedText.{AreSealed, length-tag, opened_is, opened_only, sealing_only}

pub texts_open : SealedTextsOpen
texts_open key salt text long = record {
  opens = (salt, long, refl);
  only = λ other is. sym (sealing_only key (sealing key salt text) text other (salt, long, refl) is).0;
}

pub have_their_tag : OpenedTextsHaveTheirTag
unfolding sealing
have_their_tag key sealed text is =
    let tag = tag_of key is.0 text in
    let rest = hidden (stream_key key is.0 tag) text in
    let front : take 32 sealed ≡ is.0 = ap (take 32) is.2 ∙ take_at is.0 (tag ++ rest) 32 is.1 in
    let back : drop 32 sealed ≡ tag ++ rest = ap (drop 32) is.2 ∙ drop_at is.0 (tag ++ rest) 32 is.1 in
    ap (take 32) back ∙ take_at tag rest 32 (length-tag key is.0 text) ∙ ap (λ (s : List ℕ). tag_of key s text) (sym front)

pub right_open : RightTagsOpen
right_open key salt tag bytes long_salt long_tag =
    let sealed : List ℕ = salt ++ (tag ++ bytes) in
    let text : List ℕ = hidden (stream_key key salt tag) bytes in
    let are : AreSealed sealed salt tag (tag ++ bytes) bytes = record {
      salt_is = sym (take_at salt (tag ++ bytes) 32 long_salt);
      rest_is = sym (drop_at salt (tag ++ bytes) 32 long_salt);
      tag_is = sym (take_at tag bytes 32 long_tag);
      bytes_are = sym (drop_at tag bytes 32 long_tag);
      long = omega (arith, length-append salt (tag ++ bytes), length-append tag bytes, long_salt, long_tag);
    } in (
      λ (same : tag ≡ tag_of key salt text). opened_is key sealed salt tag (tag ++ bytes) bytes text are refl same,
      λ (is : IsSealingOf key sealed text). (opened_only key sealed salt tag (tag ++ bytes) bytes text are refl text is).1,
    )

-- the texts of keys for one purpose tell the key and the salt
key_texts_same : (key key' purpose salt salt' : List ℕ) → length key ≡ length key' → key_text key purpose salt ≡ key_text key' purpose salt' → (key ≡ key') × (salt ≡ salt')
key_texts_same key key' purpose salt salt' long e =
    let keys : key ++ (purpose ++ salt) ≡ key' ++ (purpose ++ salt') =
    sym (append_assoc key purpose salt) ∙ ap (drop 4) e ∙ append_assoc key' purpose salt' in
    let parts = parts_same key (purpose ++ salt) key' (purpose ++ salt') long keys in
    (parts.0, (parts_same purpose salt purpose salt' refl parts.1).1)

length-tag_key : (key salt : List ℕ) → length (tag_key key salt) ≡ 32
unfolding tag_key
length-tag_key key salt = length-sha256 (key_text key tag_purpose salt)

length-secret : (key salt : List ℕ) → length (stream_secret key salt) ≡ 32
unfolding stream_secret
length-secret key salt = length-sha256 (key_text key stream_purpose salt)

-- the tags of two keys differ
tags_apart : (key key' salt text text' : List ℕ) → length key ≡ length key' → key ≢ key' → (tag_of key salt text ≢ tag_of key' salt text') ⊎ KeysCollide key key' salt text text'
unfolding tag_key tag_of
tags_apart key key' salt text text' long differ =
    elim (same_list (tag_key key salt) (tag_key key' salt)) [
      | inl same ↦ inr (inl (record { differ = λ (e : key_text key tag_purpose salt ≡ key_text key' tag_purpose salt). differ (key_texts_same key key' tag_purpose salt salt long e).0; same = same }))
      | inr other ↦ elim (keys_apart (tag_key key salt) (tag_key key' salt) text text' (length-tag_key key salt ∙ sym (length-tag_key key' salt)) (omega (arith, length-tag_key key salt)) other) [
        | inl apart ↦ inl apart
        | inr collide ↦ inr (inr collide)
      ]
    ]

pub others_refused : OtherKeysAreRefused
unfolding sealing
others_refused key key' salt text text' long_key long differ =
    elim (tags_apart key key' salt text text' long_key differ) [
      | inr collide ↦ inr collide
      | inl apart ↦ inl (λ (is : IsSealingOf key' (sealing key salt text) text').
          let rest = hidden (stream_key key salt (tag_of key salt text)) text in
          let rest' = hidden (stream_key key' is.0 (tag_of key' is.0 text')) text' in
          let first = parts_same salt (tag_of key salt text ++ rest) is.0 (tag_of key' is.0 text' ++ rest') (long ∙ sym is.1) is.2 in
          let second = parts_same (tag_of key salt text) rest (tag_of key' is.0 text') rest' (length-tag key salt text ∙ sym (length-tag key' is.0 text')) first.1 in
          apart (second.0 ∙ ap (λ (s : List ℕ). tag_of key' s text') (sym first.0)))
    ]

pub streams_apart : SummariesShareNoStream
unfolding stream_key tag_of
streams_apart key salt text text' differ =
    elim (messages_apart (tag_key key salt) text text' differ) [
      | inr collide ↦ inr (inl collide)
      | inl tags ↦ elim (messages_apart (stream_secret key salt) (tag_of key salt text) (tag_of key salt text') tags) [
        | inl apart ↦ inl apart
        | inr collide ↦ inr (inr collide)
      ]
    ]

pub formattings_apart : FormattingsShareNoStream
unfolding stream_secret stream_key
formattings_apart key salt salt' text text' long differ =
    elim (same_list (stream_secret key salt) (stream_secret key salt')) [
      | inl same ↦ inr (inl (record { differ = λ (e : key_text key stream_purpose salt ≡ key_text key stream_purpose salt'). differ (key_texts_same key key stream_purpose salt salt' refl e).1; same = same }))
      | inr other ↦ elim (keys_apart (stream_secret key salt) (stream_secret key salt') (tag_of key salt text) (tag_of key salt' text') (length-secret key salt ∙ sym (length-secret key salt')) (omega (arith, length-secret key salt)) other) [
        | inl apart ↦ inl apart
        | inr collide ↦ inr (inr collide)
      ]
    ]

-- a text that was opened and read
pub opened_ok : (key sealed text : List ℕ) → IsSealingOf key sealed text → (r : Result Contents SummaryFault) → IfOk r (IsTextOf text) → IfOk r (IsSealedSummary key sealed)
opened_ok key sealed text opens (Ok c) is = record { summary = is.summary; opens = subst (IsSealingOf key sealed) is.text opens }
opened_ok key sealed text opens (Err fault) is = tt
