-- A list of events cut anywhere: the words of the pieces are the words of the whole, so the portions leave what the whole run leaves.
use mathlib.Core.Path.{◌≡◌, refl, sym, ap, ap₂, ◌∙◌}
use mathlib.Core.Bool.{Bool, true, false}
use mathlib.Core.List.{List, [], ◌∷◌, ◌++◌}
use mathlib.Core.Option.{none}
use Prim.Native.Nat.{ℕ, zero, suc, ◌+◌, ◌*◌, ◌/◌, ◌%◌, ◌<◌, ◌≤◌}
use native.Mathlib.Bridge.{le_by_compare, IsLe}
use native.Mathlib.Nat.{mul_comm, div-add-mod', add-mul-div_right, add_comm, suc-mul, suc-add, zero-add, zero-div}
use native.Mathlib.Omega.{arith}
use lib.ListN.{length, take, drop, length-append, length-drop}
use lib.Seq.{take-append-le, drop-append-le}
use Rattle.laws.specs.Tests.{same, under}
use Rattle.laws.specs.Bytes.{number}
use Rattle.laws.proofs.Tests.{same_refl, under-lt}
use Rattle.laws.proofs.Booleans.{refute}
use Rattle.rules.specs.Geometry.{Geometry, Proper, page_count, work_size, word_size, longest, open_geometry}
use Rattle.rules.specs.State.{down}
use Rattle.rules.specs.Form.{Form, atomic}
use Rattle.rules.specs.Pairs.{in_pairs}
use Rattle.rules.specs.Step.{StateOf, first_of}
use Rattle.rules.specs.Run.{Result, Played, words, answer_bytes, play, events_in, run_refusals}
use Rattle.rules.specs.Portion.{Lent, all_events, all_zero, Fits, AllFit, words_in, Portion, portion_all, portion, added, chain, chain_from, next, Takes, AsWhole}
use Rattle.rules.specs.Editions.{geometry1, edition1, geometry_pairs, edition_pairs}
use Rattle.rules.proofs.Medium.{MediumLaws}
use Rattle.rules.proofs.Pages.{flat-length}
use Rattle.rules.proofs.Editions.{proper1, proper_pairs}
use Rattle.rules.proofs.AtomicPages.{atomic_laws, shaped_sized}
use Rattle.rules.proofs.PairBytes.{pairs_length}
use Rattle.rules.proofs.PairedPages.{paired_laws, shaped_pairs}
use Rattle.rules.proofs.Portions.{Carried, carried_start, sound_portion, chain_whole, run_portion, answers_all, sound_played}

-- the words of bytes that begin with n whole words
words_append : (g : Geometry) (n m : ℕ) (a b : List ℕ) → length a ≡ n * word_size g → words g (n + m) (a ++ b) ≡ words g n a ++ words g m b
unfolding words
words_append g zero m [] b h = ap (λ (k : ℕ). words g k b) (zero-add m)
words_append g zero m (x ∷ a) b h = absurd (omega (arith, h))
words_append g (suc n) m a b h =
    let w : ℕ = word_size g in
    let e : suc n * w ≡ n * w + w = suc-mul n w in
    let le : w ≤ length a = omega (arith, h, e) in
    let left : length (drop w a) ≡ n * w = length-drop w a ∙ omega (arith, h, e) in
    ap (λ (k : ℕ). words g k (a ++ b)) (suc-add n m)
    ∙ ap₂ (λ (x y : List ℕ). number x ∷ words g (n + m) y) (take-append-le w a b le) (drop-append-le w a b le)
    ∙ ap (λ (l : List ℕ). number (take w a) ∷ l) (words_append g n m (drop w a) b left)

module _ (f : Form) (positive : 0 < word_size f.geometry) where
  abbrev w : ℕ
  w = word_size f.geometry

  whole_words : (a : List ℕ) → length a % w ≡ 0 → length a ≡ events_in f a * w
  unfolding events_in
  whole_words a h = sym (div-add-mod' (length a) w) ∙ omega (arith, h)

  events-append : (a b : List ℕ) → length a % w ≡ 0 → events_in f (a ++ b) ≡ events_in f a + events_in f b
  unfolding events_in
  events-append a b h =
      ap (λ (n : ℕ). n / w) (length-append a b ∙ ap (λ (n : ℕ). n + length b) (whole_words a h) ∙ add_comm (events_in f a * w) (length b))
      ∙ add-mul-div_right (length b) (events_in f a) positive
      ∙ add_comm (length b / w) (length a / w)

  pub words_in_append : (a b : List ℕ) → length a % w ≡ 0 → words_in f (a ++ b) ≡ words_in f a ++ words_in f b
  unfolding words_in
  words_in_append a b h =
      ap (λ (n : ℕ). words f.geometry n (a ++ b)) (events-append a b h)
      ∙ words_append f.geometry (events_in f a) (events_in f b) a b (whole_words a h)

no_events : (f : Form) → events_in f [] ≡ 0
unfolding events_in
no_events f = zero-div (word_size f.geometry)

no_words : (f : Form) → words_in f [] ≡ []
unfolding words_in words
no_words f = ap (λ (n : ℕ). words f.geometry n []) (no_events f)

-- an empty portion of a sound state answers 0 and changes nothing
pub empty_portion : (f : Form) (M : MediumLaws f.geometry f.medium) (s : StateOf f) (store work answers : List ℕ) → Carried f M s store
    → first_of (run_refusals f store [] work answers) ≡ none → portion f true s store [] work answers ≡ record { answer = 0; state = s; store = store; answers = answers }
unfolding portion_all play answer_bytes
empty_portion f M s store work answers C h =
    sound_played f s store [] work answers h
    ∙ ap₂ left (no_events f) (no_words f)
    ∙ ap (λ (bs : List ℕ). record { answer = 0; state = s; store = bs; answers = answers }) C.writes
  where
    left : ℕ → List ℕ → Portion f
    left n ws = record {
      answer = 0;
      state = (play f s ws).state;
      store = f.medium.to_bytes (play f s ws).state.store;
      answers = answer_bytes (play f s ws).answers ++ drop (2 * n) answers;
    }

-- lengths that fit are not refused
pub fits_passes : (f : Form) (store : List ℕ) (l : Lent) → length store ≡ f.medium.size → Fits f l → first_of (run_refusals f store l.events l.work l.answers) ≡ none
unfolding run_refusals first_of
fits_passes f store l sized F =
    rw (
      is_same (length store) f.medium.size sized,
      is_same (length l.work) (work_size f.geometry) F.slots,
      is_same (length l.events % word_size f.geometry) 0 F.whole,
      not_under' (longest * word_size f.geometry) (length l.events) F.short,
      not_under' (length l.answers) (2 * events_in f l.events) F.room,
    )
  where
    is_same : (a b : ℕ) → a ≡ b → same a b ≡ true
    is_same a b e = rw e (same_refl b)

    not_under' : (a b : ℕ) → b ≤ a → under a b ≡ false
    not_under' a b h = refute (under a b) (λ e. omega (arith, h, under-lt a b e))

-- in a store whose bytes have the store's size
abbrev pub Spelled : (f : Form) (M : MediumLaws f.geometry f.medium) → Type 0
Spelled f M = (d : f.medium.Store) → M.Shaped d → length (f.medium.to_bytes d) ≡ f.medium.size

module _ (f : Form) (M : MediumLaws f.geometry f.medium) (spelled : Spelled f M) (positive : 0 < word_size f.geometry) where
  -- the store of a state between portions has its size
  carried_size : (s : StateOf f) (store : List ℕ) → Carried f M s store → length store ≡ f.medium.size
  carried_size s store C = ap length (sym C.writes) ∙ spelled s.store C.reached.shaped

  zero_of : (s : StateOf f) (l : Lent) (p : Portion f) → p ≡ portion_all f s l.events l.answers → same p.answer 0 ≡ true
  unfolding portion_all
  zero_of s l p e = rw e (same_refl 0)

  added_of : (s : StateOf f) (l : Lent) (p : Portion f) → p ≡ portion_all f s l.events l.answers → added f p l ≡ words_in f l.events
  unfolding added
  added_of s l p e = rw (zero_of s l p e)

  store_all : (s : StateOf f) (events answers : List ℕ) → f.medium.to_bytes (play f s (words_in f events)).state.store ≡ (portion_all f s events answers).store
  unfolding portion_all
  store_all s events answers = refl

  state_all : (s : StateOf f) (events answers : List ℕ) → (play f s (words_in f events)).state ≡ (portion_all f s events answers).state
  unfolding portion_all
  state_all s events answers = refl

  module _ (sound : StateOf f → Bool) (T : Takes f sound) where
    -- every portion is played, and the joined list is that of all event bytes
    pub record AllPlayed (s : StateOf f) (store : List ℕ) (ls : List Lent) : Type 0 where
      pub zeros : all_zero (chain f sound s store ls).results ≡ true
      pub whole : (chain f sound s store ls).joined ≡ words_in f (all_events ls)

    pub all-played : (s : StateOf f) (store : List ℕ) (ls : List Lent) → Carried f M s store → AllFit f ls → AllPlayed s store ls
    unfolding chain next all_zero all_events
    all-played s store [] C F = record { zeros = refl; whole = sym (no_words f) }
    all-played s store (l ∷ ls) C F =
        let sized = carried_size s store C in
        let p = portion f (sound s) s store l.events l.work l.answers in
        let e : p ≡ portion_all f s l.events l.answers
        = ap (λ (b : Bool). portion f b s store l.events l.work l.answers) (T s C.reached.sound) ∙ sound_played f s store l.events l.work l.answers (fits_passes f store l sized F.0) in
        let rest = all-played p.state p.store ls (sound_portion f M (sound s) s store l.events l.work l.answers C) F.1 in
        record {
          zeros = rw (zero_of s l p e, rest.zeros);
          whole = ap₂ (λ (x y : List ℕ). x ++ y) (added_of s l p e) rest.whole ∙ sym (words_in_append f positive l.events (all_events ls) F.0.whole);
        }

    -- FROM A START STATE, CUTTING A LIST ANYWHERE
    pub portions_whole : (store : List ℕ) (ls : List Lent) (work answers : List ℕ) → length store ≡ f.medium.size → AllFit f ls
        → Fits f (record { events = all_events ls; work = work; answers = answers }) → AsWhole f sound store ls work answers
    unfolding chain_from
    portions_whole store ls work answers sized A F =
        let s₀ = down (f.medium.from_bytes store) in
        let E = all_events ls in
        let P = all-played s₀ store ls (carried_start f M store sized) A in
        let W = chain_whole f M sound s₀ store ls (carried_start f M store sized) in
        let c = chain f sound s₀ store ls in
        let one : portion f true s₀ store E work answers ≡ portion_all f s₀ E answers = sound_played f s₀ store E work answers (fits_passes f store (record { events = E; work = work; answers = answers }) sized F) in
        let r = run_portion f store E work answers in
        let joined : (ws : List ℕ) → c.joined ≡ ws → play f s₀ c.joined ≡ play f s₀ ws = λ ws e. ap (play f s₀) e in
        let e = joined (words_in f E) P.whole in
        record {
          played = P.zeros;
          same_answers = W.answers ∙ ap (λ (x : Played f). answer_bytes x.answers) e ∙ sym (answers_all f s₀ E answers)
              ∙ ap (λ (x : Portion f). take (2 * events_in f E) x.answers) (sym one) ∙ ap (λ (x : Result). take (2 * events_in f E) x.answers) (sym r);
          same_store = sym W.carried.writes ∙ ap (λ (s : StateOf f). f.medium.to_bytes s.store) (W.state ∙ ap (λ (x : Played f). x.state) e)
              ∙ store_all s₀ E answers ∙ ap (λ (x : Portion f). x.store) (sym one) ∙ ap (λ (x : Result). x.store) (sym r);
          same_state = W.state ∙ ap (λ (x : Played f). x.state) e ∙ state_all s₀ E answers ∙ ap (λ (x : Portion f). x.state) (sym one);
        }

-- atomic pages have their size
pub atomic_spelled : (g : Geometry) (proper : Proper g) → Spelled (atomic g) (atomic_laws g proper)
atomic_spelled g proper d S = flat-length (page_count g) d (shaped_sized g proper d S).full ∙ mul_comm 32 (page_count g)

-- of edition 1
pub portions_whole_edition1 : (sound : StateOf edition1 → Bool) → Takes edition1 sound → (store : List ℕ) (ls : List Lent) (work answers : List ℕ)
    → length store ≡ edition1.medium.size → AllFit edition1 ls → Fits edition1 (record { events = all_events ls; work = work; answers = answers })
    → AsWhole edition1 sound store ls work answers
unfolding open_geometry IsLe
portions_whole_edition1 = portions_whole edition1 (atomic_laws geometry1 proper1) (atomic_spelled geometry1 proper1) positive1
  where
    positive1 : 0 < word_size geometry1
    positive1 = le_by_compare 1 4 tt

-- pairs have theirs
pub paired_spelled : (g : Geometry) (proper : Proper g) (tears : g.tears ≡ true) → Spelled (in_pairs g) (paired_laws g proper tears)
paired_spelled g proper tears d S = pairs_length (page_count g) d (shaped_pairs g proper tears d S)

-- of the form whose pages tear
pub portions_whole_pairs : (sound : StateOf edition_pairs → Bool) → Takes edition_pairs sound → (store : List ℕ) (ls : List Lent) (work answers : List ℕ)
    → length store ≡ edition_pairs.medium.size → AllFit edition_pairs ls → Fits edition_pairs (record { events = all_events ls; work = work; answers = answers })
    → AsWhole edition_pairs sound store ls work answers
unfolding open_geometry IsLe
portions_whole_pairs = portions_whole edition_pairs (paired_laws geometry_pairs proper_pairs refl) (paired_spelled geometry_pairs proper_pairs refl) positive
  where
    positive : 0 < word_size geometry_pairs
    positive = le_by_compare 1 4 tt
