-- Laws about texts of summaries and their sealing.
use Rattle.std.specs.Prelude.{◌≡◌, ◌≢◌, ℕ, ◌⊎◌, ◌↔◌, List, [], ◌∷◌, ◌++◌, length, take, drop, replicate}
use Rattle.oram_hmac.specs.Hmac.{outer_text}
use Rattle.oram_hmac.specs.Laws.{Collide, TagsCollide}
use Rattle.oram_geometry.specs.declared.Sizes.{Sizes}
use Rattle.oram_summary.specs.declared.summary.SealerKind.TheVariants.{ChaCha20}
use Rattle.oram_summary.specs.Contents.{Contents, IsSummary}
use Rattle.oram_summary.specs.Keys.{key_text, stream_key, stream_purpose, stream_secret, tag_key, tag_purpose}
use Rattle.oram_summary.specs.Sealing.{IsSealingOf, hidden, sealing, tag_of}
use Rattle.oram_summary.specs.Text.{text_of}

-- summaries with one text are the same
abbrev pub TextsTellOfOneSummary : Type 0
TextsTellOfOneSummary = (c c' : Contents) → IsSummary c → IsSummary c' → text_of c ≡ text_of c' → c ≡ c'

-- a sealed text is the sealing of this text, and of no other one
pub record OpensTo (key sealed text : List ℕ) : Type 0 where
  pub opens : IsSealingOf key sealed text
  pub only : (other : List ℕ) → IsSealingOf key sealed other → other ≡ text

abbrev pub SealedTextsOpen : Type 0
SealedTextsOpen = (key salt text : List ℕ) → length salt ≡ 32 → OpensTo key (sealing key salt text) text

-- what opens has the salt in its first 32 bytes, and in the next 32 the tag of what it opens to
abbrev pub OpenedTextsHaveTheirTag : Type 0
OpenedTextsHaveTheirTag = (key sealed text : List ℕ) → IsSealingOf key sealed text → take 32 (drop 32 sealed) ≡ tag_of key (take 32 sealed) text

-- bytes with a salt and a tag are the sealing of what their stream shows exactly if the tag is that of it
abbrev pub RightTagsOpen : Type 0
RightTagsOpen = (key salt tag bytes : List ℕ) → length salt ≡ 32 → length tag ≡ 32
    → (tag ≡ tag_of key salt (hidden (stream_key key salt tag) bytes)) ↔ IsSealingOf key (salt ++ (tag ++ bytes)) (hidden (stream_key key salt tag) bytes)

-- of what the tags of two texts under two keys are made collides: the texts of the keys of the tags, or those of the tags
abbrev pub KeysCollide : (key key' salt text text' : List ℕ) → Type 0
KeysCollide key key' salt text text' =
    Collide (key_text key tag_purpose salt) (key_text key' tag_purpose salt) ⊎ Collide (outer_text (tag_key key salt) text) (outer_text (tag_key key' salt) text')

-- what was sealed under one key is a sealing under no other key of as many bytes, unless what the tags are made of collides
abbrev pub OtherKeysAreRefused : Type 0
OtherKeysAreRefused = (key key' salt text text' : List ℕ) → length key ≡ length key' → length salt ≡ 32 → key ≢ key'
    → (¬ IsSealingOf key' (sealing key salt text) text') ⊎ KeysCollide key key' salt text text'

-- the key of the stream that hides a text
abbrev pub stream_of : List ℕ → List ℕ → List ℕ → List ℕ
stream_of key salt text = stream_key key salt (tag_of key salt text)

-- of what the streams of two texts are made collides: what their tags are made of, or what the keys of the streams are made of
abbrev pub StreamsCollide : (key salt text text' : List ℕ) → Type 0
StreamsCollide key salt text text' =
    TagsCollide (tag_key key salt) text (tag_key key salt) text' ⊎ TagsCollide (stream_secret key salt) (tag_of key salt text) (stream_secret key salt) (tag_of key salt text')

-- two texts are hidden under different keys, unless what these are made of collides
abbrev pub SummariesShareNoStream : Type 0
SummariesShareNoStream = (key salt text text' : List ℕ) → text ≢ text' → (stream_of key salt text ≢ stream_of key salt text') ⊎ StreamsCollide key salt text text'

-- of what the streams of two formattings are made collides: the texts of their secrets, or those of the keys of the streams
abbrev pub FormattingsCollide : (key salt salt' text text' : List ℕ) → Type 0
FormattingsCollide key salt salt' text text' =
    Collide (key_text key stream_purpose salt) (key_text key stream_purpose salt')
    ⊎ Collide (outer_text (stream_secret key salt) (tag_of key salt text)) (outer_text (stream_secret key salt') (tag_of key salt' text'))

-- texts of two formattings are hidden under different keys, even if they are the same, unless what these are made of collides
abbrev pub FormattingsShareNoStream : Type 0
FormattingsShareNoStream = (key salt salt' text text' : List ℕ) → length salt ≡ length salt' → salt ≢ salt'
    → (stream_of key salt text ≢ stream_of key salt' text') ⊎ FormattingsCollide key salt salt' text text'

abbrev pub some_key : List ℕ
some_key = replicate 32 7

abbrev pub other_key : List ℕ
other_key = replicate 32 8

abbrev pub some_salt : List ℕ
some_salt = replicate 32 9

abbrev pub other_salt : List ℕ
other_salt = replicate 32 10

abbrev pub no_text : List ℕ
no_text = []

abbrev pub short_text : List ℕ
short_text = 1 ∷ 2 ∷ 3 ∷ []

-- these meet the premises of the laws about sealing
pub record SealingExample : Type 0 where
  pub salt : length some_salt ≡ 32
  pub salts : length some_salt ≡ length other_salt
  pub keys : length some_key ≡ length other_key
  pub key_differs : some_key ≢ other_key
  pub salt_differs : some_salt ≢ other_salt
  pub text_differs : no_text ≢ short_text
  pub tag : length (tag_of some_key some_salt short_text) ≡ 32
  pub opens : IsSealingOf some_key (sealing some_key some_salt short_text) short_text

-- eight blocks of 16 bytes, in buckets of four slots, with one block to a leaf
abbrev pub small : Sizes
small = record { blocks = 8; block_bytes = 16; slots = 4; top = 8; lifetime = 100; leaf_load = 1 }

-- the summary of the checkpoint 258 of such a device, after five commands: block 5 is in the stash
abbrev pub small_summary : Contents
small_summary = record {
  sealer = ChaCha20;
  device = small;
  near_levels = 2;
  time = 1800000000;
  number = 258;
  next_ticket = 5;
  next_nonce = 35;
  root = replicate 32 170;
  stash = record { address = 5; leaf = 3; content = replicate 16 255 } ∷ [];
}

-- it is a summary
abbrev pub SummaryExample : Type 0
SummaryExample = IsSummary small_summary
