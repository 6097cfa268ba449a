-- Event words as bytes, and back.
use mathlib.Core.Path.{◌≡◌, refl, sym, ap, ap₂, subst, ◌∙◌}
use mathlib.Core.Bool.{true}
use mathlib.Core.List.{List, [], ◌∷◌, map}
use Prim.Native.Nat.{ℕ, zero, suc, ◌+◌, ◌*◌, ◌/◌, ◌%◌, ◌^◌, ◌<◌}
use native.Mathlib.Nat.{pow-succ', mul-div_cancel, mul-mod_left}
use native.Mathlib.Omega.{arith}
use lib.ListN.{length, length-append}
use lib.Pow.{pow-add}
use lib.Seq.{take_at, drop_at}
use Rattle.laws.specs.Bytes.{number, bytes}
use Rattle.laws.proofs.Bytes.{number_bytes, bytes-length}
use Rattle.rules.specs.Geometry.{Geometry, Proper, word_size}
use Rattle.rules.specs.Event.{Event, encode, fits}
use Rattle.rules.specs.Form.{Form}
use Rattle.rules.specs.Run.{words, events_in}
use Rattle.rules.proofs.Event.{encode_small}
use Rattle.claim_serial.specs.OneAtATime.{word_bytes}

-- every event fits its word
abbrev pub AllFit : Geometry → List Event → Type 0
AllFit g [] = Unit {0}
AllFit g (e ∷ es) = (fits g e ≡ true) × AllFit g es

-- bits and bytes
by_bytes : (n : ℕ) → 2 ^ (8 * n) ≡ 256 ^ n
by_bytes zero = refl
by_bytes (suc n) =
    let e : 8 * suc n ≡ 8 + 8 * n = omega arith in
    ap (λ (k : ℕ). 2 ^ k) e ∙ pow-add 2 8 (8 * n) ∙ ap (λ (x : ℕ). 256 * x) (by_bytes n) ∙ sym (pow-succ' 256 n)

module _ (f : Form) (proper : Proper f.geometry) where
  abbrev g : Geometry
  g = f.geometry

  word_some : 0 < word_size g
  word_some = omega (arith, proper.word_whole)

  pub bytes_of_words : (ws : List ℕ) → length (word_bytes f ws) ≡ length ws * word_size g
  unfolding word_bytes
  bytes_of_words [] = omega arith
  bytes_of_words (w ∷ ws) =
      let a = length-append (bytes (word_size g) w) (word_bytes f ws) in
      let b = bytes-length (word_size g) w in
      let c = bytes_of_words ws in
      omega (arith, a, b, c)

  pub events_in_words : (ws : List ℕ) → events_in f (word_bytes f ws) ≡ length ws
  unfolding events_in
  events_in_words ws = ap (λ (n : ℕ). n / word_size g) (bytes_of_words ws) ∙ mul-div_cancel (length ws) word_some

  pub whole_words : (ws : List ℕ) → length (word_bytes f ws) % word_size g ≡ 0
  whole_words ws = ap (λ (n : ℕ). n % word_size g) (bytes_of_words ws) ∙ mul-mod_left (length ws) (word_size g)

  words_back : (es : List Event) → AllFit g es → words g (length (map (encode g) es)) (word_bytes f (map (encode g) es)) ≡ map (encode g) es
  unfolding words word_bytes
  words_back [] A = refl
  words_back (e ∷ es) A =
      let w = encode g e in
      let rest = word_bytes f (map (encode g) es) in
      let b = bytes-length (word_size g) w in
      ap₂ ◌∷◌ (ap number (take_at (bytes (word_size g) w) rest (word_size g) b) ∙ number_bytes (word_size g) w (subst (λ (n : ℕ). w < n) (by_bytes (word_size g)) (encode_small g proper e A.0)))
      (ap (words g (length (map (encode g) es))) (drop_at (bytes (word_size g) w) rest (word_size g) b) ∙ words_back es A.1)

  -- the words of a list's bytes
  pub words_of_bytes : (es : List Event) → AllFit g es → let ws = map (encode g) es in words g (events_in f (word_bytes f ws)) (word_bytes f ws) ≡ ws
  words_of_bytes es A = let ws = map (encode g) es in ap (λ (n : ℕ). words g n (word_bytes f ws)) (events_in_words ws) ∙ words_back es A
