-- Portions one after the other: they leave what their joined list leaves when it is played at once, whatever the portions; a sound state stays
-- sound, so none of them is refused with 25; a refused one changes nothing.
use mathlib.Core.Path.{◌≡◌, refl, sym, ap, subst⁻¹, ◌∙◌}
use mathlib.Core.Bool.{Bool, true, false, not, cond, true≢false}
use mathlib.Core.List.{List, [], ◌∷◌, ◌++◌}
use mathlib.Core.Logic.{◌≢◌}
use mathlib.Core.Option.{Option, none, some}
use Prim.Native.Nat.{ℕ, zero, suc, ◌*◌}
use native.Mathlib.Omega.{arith}
use lib.ListN.{length, take, drop}
use lib.Seq.{take-append_seam}
use Rattle.laws.specs.Tests.{same, open_tests}
use Rattle.laws.proofs.Tests.{ne_false}
use Rattle.rules.specs.Geometry.{Geometry, word_size}
use Rattle.rules.specs.Event.{decode}
use Rattle.rules.specs.State.{mem, down}
use Rattle.rules.specs.Form.{Form}
use Rattle.rules.specs.Step.{Answer, number_of, value_of, StateOf, first_of, step}
use Rattle.rules.specs.Run.{Played, words, answer_bytes, play, events_in, run_refusals, run_all, run_by, run}
use Rattle.rules.specs.Portion.{Lent, VerdictRight, words_in, Portion, portion_refusals, portion_all, portion_by, portion, added, added_answers, next, chain, chain_from, Takes}
use Rattle.rules.proofs.Medium.{MediumLaws}
use Rattle.rules.proofs.Soundness.{Reached, reached_start, reached_play}

-- a number whose tests all fail is not the first refusal
abbrev pub Lacks : ℕ → List (ℕ × Bool) → Type 0
Lacks m [] = Unit {0}
Lacks m (x ∷ xs) = (x.0 ≡ m → x.1 ≡ false) × Lacks m xs

pub first_lacks : (m : ℕ) (l : List (ℕ × Bool)) → Lacks m l → first_of l ≢ some m
unfolding first_of
first_lacks m [] h e = let z : true ≡ false = cc in true≢false z
first_lacks m (x ∷ xs) h e = go x.1 refl e (first_lacks m xs h.1)
  where
    go : (b : Bool) → x.1 ≡ b → cond b (some x.0) (first_of xs) ≡ some m → first_of xs ≢ some m → ⊥
    go true q e n = let z : x.0 ≡ m = cc in let k : true ≡ false = sym q ∙ h.0 z in true≢false k
    go false q e n = n e

-- two tables of refusals, one after the other
first_then : (xs ys : List (ℕ × Bool)) (n : ℕ) → first_of xs ≡ some n → first_of (xs ++ ys) ≡ some n
unfolding first_of
first_then [] ys n h = let z : true ≡ false = cc in absurd (true≢false z)
first_then (x ∷ xs) ys n h = go x.1 h (first_then xs ys n)
  where
    go : (b : Bool) → cond b (some x.0) (first_of xs) ≡ some n → (first_of xs ≡ some n → first_of (xs ++ ys) ≡ some n) → cond b (some x.0) (first_of (xs ++ ys)) ≡ some n
    go true h ih = h
    go false h ih = ih h

first_else : (xs ys : List (ℕ × Bool)) → first_of xs ≡ none → first_of (xs ++ ys) ≡ first_of ys
unfolding first_of
first_else [] ys h = refl
first_else (x ∷ xs) ys h = go x.1 h (first_else xs ys)
  where
    go : (b : Bool) → cond b (some x.0) (first_of xs) ≡ none → (first_of xs ≡ none → first_of (xs ++ ys) ≡ first_of ys) → cond b (some x.0) (first_of (xs ++ ys)) ≡ first_of ys
    go true h ih = let z : true ≡ false = cc in absurd (true≢false z)
    go false h ih = ih h

-- a number for each word, two bytes for each answer
pub words-length : (g : Geometry) (n : ℕ) (bs : List ℕ) → length (words g n bs) ≡ n
unfolding words
words-length g zero bs = refl
words-length g (suc n) bs = ap suc (words-length g n (drop (word_size g) bs))

pub answers_length : (f : Form) (s : StateOf f) (ws : List ℕ) → length (answer_bytes (play f s ws).answers) ≡ 2 * length ws
unfolding play answer_bytes
answers_length f s [] = refl
answers_length f s (w ∷ ws) = let e = answers_length f (step f s (decode f.geometry w)).state ws in rw e (omega arith)

-- a list and then another
pub record Appended (f : Form) (s : StateOf f) (ws vs : List ℕ) : Type 0 where
  pub state : (play f s (ws ++ vs)).state ≡ (play f (play f s ws).state vs).state
  pub answers : (play f s (ws ++ vs)).answers ≡ (play f s ws).answers ++ (play f (play f s ws).state vs).answers

pub play-append : (f : Form) (s : StateOf f) (ws vs : List ℕ) → Appended f s ws vs
unfolding play
play-append f s [] vs = record { state = refl; answers = refl }
play-append f s (w ∷ ws) vs =
    let o = step f s (decode f.geometry w) in
    let rest = play-append f o.state ws vs in
    record { state = rest.state; answers = ap (λ (l : List Answer). o.answer ∷ l) rest.answers }

pub bytes-append : (xs ys : List Answer) → answer_bytes (xs ++ ys) ≡ answer_bytes xs ++ answer_bytes ys
unfolding answer_bytes
bytes-append [] ys = refl
bytes-append (x ∷ xs) ys = ap (λ (l : List ℕ). number_of x ∷ value_of x ∷ l) (bytes-append xs ys)

module _ (f : Form) where
  -- two findings that are right are the same
  pub finds_one : (content : StateOf f → Type 0) (a b : Bool) → VerdictRight f content a → VerdictRight f content b → a ≡ b
  finds_one content true b A B = let k = A.only_sound refl in sym (B.every_sound k.0 k.1 k.2)
  finds_one content false true A B = let k = B.only_sound refl in A.every_sound k.0 k.1 k.2
  finds_one content false false A B = refl

  -- a portion is played, or refused with a number that is not 0
  pub data Case (sound : Bool) (s : StateOf f) (store events work answers : List ℕ) : Type 0 where
    plays : first_of (portion_refusals f sound store events work answers) ≡ none
        → portion f sound s store events work answers ≡ portion_all f s events answers → Case sound s store events work answers
    refuses : (n : ℕ) → first_of (portion_refusals f sound store events work answers) ≡ some n → same n 0 ≡ false
        → portion f sound s store events work answers ≡ record { answer = n; state = s; store = store; answers = answers } → Case sound s store events work answers

  never_zero : (sound : Bool) (store events work answers : List ℕ) → first_of (portion_refusals f sound store events work answers) ≢ some 0
  unfolding portion_refusals run_refusals
  never_zero sound store events work answers = first_lacks 0 _
      ((λ e. absurd (omega arith)), ((λ e. absurd (omega arith)), ((λ e. absurd (omega arith)), ((λ e. absurd (omega arith)), ((λ e. absurd (omega arith)), tt)))))

  pub which_case : (sound : Bool) (s : StateOf f) (store events work answers : List ℕ) → Case sound s store events work answers
  unfolding portion portion_by
  which_case sound s store events work answers = go (first_of (portion_refusals f sound store events work answers)) refl
    where
      go : (o : Option ℕ) → first_of (portion_refusals f sound store events work answers) ≡ o → Case sound s store events work answers
      go none q = plays q (ap (portion_by f s store events answers) q)
      go (some n) q = refuses n q (ne_false n 0 (λ e. never_zero sound store events work answers (q ∙ ap some e))) (ap (portion_by f s store events answers) q)

  -- the lengths are tried before the state, whatever is found of that
  pub lengths_first : (sound : Bool) (s : StateOf f) (store events work answers : List ℕ) (n : ℕ) → first_of (run_refusals f store events work answers) ≡ some n
      → (portion f sound s store events work answers).answer ≡ n
  unfolding portion portion_by portion_refusals
  lengths_first sound s store events work answers n h =
      ap (λ (o : Option ℕ). (portion_by f s store events answers o).answer) (first_then (run_refusals f store events work answers) ((25, not sound) ∷ []) n h)

  -- then nothing depends on what is found of the state
  pub lengths_only : (a b : Bool) (s : StateOf f) (store events work answers : List ℕ) (n : ℕ) → first_of (run_refusals f store events work answers) ≡ some n
      → portion f a s store events work answers ≡ portion f b s store events work answers
  unfolding portion portion_by portion_refusals
  lengths_only a b s store events work answers n h =
      ap (portion_by f s store events answers)
      (first_then (run_refusals f store events work answers) ((25, not a) ∷ []) n h ∙ sym (first_then (run_refusals f store events work answers) ((25, not b) ∷ []) n h))

  -- with lengths that fit, 25 is answered exactly if the state is found unsound
  pub unsound_refused : (s : StateOf f) (store events work answers : List ℕ) → first_of (run_refusals f store events work answers) ≡ none
      → (portion f false s store events work answers).answer ≡ 25
  unfolding portion portion_by portion_refusals first_of
  unsound_refused s store events work answers h =
      ap (λ (o : Option ℕ). (portion_by f s store events answers o).answer) (first_else (run_refusals f store events work answers) ((25, true) ∷ []) h)

  pub sound_played : (s : StateOf f) (store events work answers : List ℕ) → first_of (run_refusals f store events work answers) ≡ none
      → portion f true s store events work answers ≡ portion_all f s events answers
  unfolding portion portion_by portion_refusals first_of
  sound_played s store events work answers h = ap (portion_by f s store events answers) (first_else (run_refusals f store events work answers) ((25, false) ∷ []) h)

  -- a portion that is played gives its answers to its events, and leaves the answer bytes behind them
  pub answers_all : (s : StateOf f) (events answers : List ℕ) → take (2 * events_in f events) (portion_all f s events answers).answers ≡ answer_bytes (play f s (words_in f events)).answers
  unfolding portion_all words_in
  answers_all s events answers =
      let ws = words f.geometry (events_in f events) events in
      let bs = answer_bytes (play f s ws).answers in
      let e : length bs ≡ 2 * events_in f events = answers_length f s ws ∙ ap (λ (n : ℕ). 2 * n) (words-length f.geometry (events_in f events) events) in
      ap (λ (n : ℕ). take n (bs ++ drop (2 * events_in f events) answers)) (sym e) ∙ take-append_seam bs (drop (2 * events_in f events) answers)

  -- a run is one portion on a start state, found sound
  pub run_portion : (store events work answers : List ℕ) → let p = portion f true (down (f.medium.from_bytes store)) store events work answers in
      run f store events work answers ≡ record { answer = p.answer; store = p.store; answers = p.answers }
  unfolding run run_by run_all portion portion_by portion_all words_in portion_refusals run_refusals first_of
  run_portion store events work answers = go (first_of (run_refusals f store events work answers))
    where
      go : (o : Option ℕ) → let p = portion_by f (down (f.medium.from_bytes store)) store events answers o in
          run_by f store events answers o ≡ record { answer = p.answer; store = p.store; answers = p.answers }
      go none = refl
      go (some n) = refl

module _ (f : Form) (M : MediumLaws f.geometry f.medium) where
  -- what holds between two portions: the state is sound, and its store is the one that the bytes spell
  pub record Carried (s : StateOf f) (store : List ℕ) : Type 0 where
    pub reached : Reached f M s
    pub reads : f.medium.from_bytes store ≡ s.store
    pub writes : f.medium.to_bytes s.store ≡ store

  -- it holds of a start state; it is what a caller has to keep between two portions
  pub carried_start : (store : List ℕ) → length store ≡ f.medium.size → Carried (down (f.medium.from_bytes store)) store
  unfolding down
  carried_start store sized = record { reached = reached_start f M store sized; reads = refl; writes = M.to_from store sized }

  carried-all : (s : StateOf f) (events answers : List ℕ) → Reached f M s → let p = portion_all f s events answers in Carried p.state p.store
  unfolding portion_all
  carried-all s events answers R =
      let R' = reached_play f M s R (words_in f events) in
      record { reached = R'; reads = M.from_to (play f s (words_in f events)).state.store R'.shaped; writes = refl }

  -- every portion keeps it, played or refused
  pub sound_portion : (sound : Bool) (s : StateOf f) (store events work answers : List ℕ) → Carried s store
      → let p = portion f sound s store events work answers in Carried p.state p.store
  sound_portion sound s store events work answers C = go (which_case f sound s store events work answers)
    where
      go : Case f sound s store events work answers → let p = portion f sound s store events work answers in Carried p.state p.store
      go (plays q e) = rw e (carried-all s events answers C.reached)
      go (refuses n q z e) = rw e C

  -- a sound state that is found sound is not refused with 25
  sound_taken : (s : StateOf f) (store events work answers : List ℕ) → (portion f true s store events work answers).answer ≢ 25
  unfolding portion_refusals run_refusals portion_all
  sound_taken s store events work answers h = go (which_case f true s store events work answers)
    where
      go : Case f true s store events work answers → ⊥
      go (plays q e) = let z : ◌≡◌ {A = ℕ} 0 25 = rw e at h in omega (arith, z)
      go (refuses n q z e) = let y : n ≡ 25 = rw e at h in first_lacks 25 (portion_refusals f true store events work answers)
          ((λ e. absurd (omega arith)), ((λ e. absurd (omega arith)), ((λ e. absurd (omega arith)), ((λ e. absurd (omega arith)), ((λ e. refl), tt))))) (q ∙ ap some y)

  -- what a portion adds to the joined list, played on the state that it got
  record Adds (s : StateOf f) (p : Portion f) (l : Lent) : Type 0 where
    state : p.state ≡ (play f s (added f p l)).state
    answers : added_answers f p l ≡ answer_bytes (play f s (added f p l)).answers

  adds_all : (s : StateOf f) (l : Lent) → Adds s (portion_all f s l.events l.answers) l
  unfolding added added_answers portion_all open_tests
  adds_all s l = record { state = refl; answers = answers_all f s l.events l.answers }

  adds_none : (s : StateOf f) (store : List ℕ) (n : ℕ) (l : Lent) → same n 0 ≡ false → Adds s (record { answer = n; state = s; store = store; answers = l.answers }) l
  unfolding added added_answers play answer_bytes
  adds_none s store n l z = record {
    state = ap (λ (b : Bool). (play f s (cond b (words_in f l.events) [])).state) (sym z);
    answers =
        ap (λ (b : Bool). cond b (take (2 * events_in f l.events) l.answers) []) z
        ∙ ap (λ (b : Bool). answer_bytes (play f s (cond b (words_in f l.events) [])).answers) (sym z);
  }

  adds : (sound : Bool) (s : StateOf f) (store : List ℕ) (l : Lent) → Adds s (portion f sound s store l.events l.work l.answers) l
  adds sound s store l = go (which_case f sound s store l.events l.work l.answers)
    where
      go : Case f sound s store l.events l.work l.answers → Adds s (portion f sound s store l.events l.work l.answers) l
      go (plays q e) = subst⁻¹ (λ (p : Portion f). Adds s p l) e (adds_all s l)
      go (refuses n q z e) = subst⁻¹ (λ (p : Portion f). Adds s p l) e (adds_none s store n l z)

  module _ (sound : StateOf f → Bool) where
    -- A chain leaves what its joined list leaves, played at once.
    pub record Whole (s : StateOf f) (store : List ℕ) (ls : List Lent) : Type 0 where
      pub answers : (chain f sound s store ls).answers ≡ answer_bytes (play f s (chain f sound s store ls).joined).answers
      pub state : (chain f sound s store ls).state ≡ (play f s (chain f sound s store ls).joined).state
      pub carried : Carried (chain f sound s store ls).state (chain f sound s store ls).store

    pub chain_whole : (s : StateOf f) (store : List ℕ) (ls : List Lent) → Carried s store → Whole s store ls
    unfolding chain next play answer_bytes
    chain_whole s store [] C = record { answers = refl; state = refl; carried = C }
    chain_whole s store (l ∷ ls) C =
        let p = portion f (sound s) s store l.events l.work l.answers in
        let rest = chain_whole p.state p.store ls (sound_portion (sound s) s store l.events l.work l.answers C) in
        let A = adds (sound s) s store l in
        let W₁ = added f p l in
        let W₂ = (chain f sound p.state p.store ls).joined in
        let both = play-append f s W₁ W₂ in
        let from : (t : StateOf f) → p.state ≡ t → play f p.state W₂ ≡ play f t W₂ = λ t e. ap (λ (x : StateOf f). play f x W₂) e in
        let e = from (play f s W₁).state A.state in
        record {
          answers = ap (λ (bs : List ℕ). bs ++ (chain f sound p.state p.store ls).answers) A.answers
              ∙ ap (λ (bs : List ℕ). answer_bytes (play f s W₁).answers ++ bs) (rest.answers ∙ ap (λ (x : Played f). answer_bytes x.answers) e)
              ∙ sym (bytes-append (play f s W₁).answers (play f (play f s W₁).state W₂).answers)
              ∙ ap answer_bytes (sym both.answers);
          state = rest.state ∙ ap (λ (x : Played f). x.state) e ∙ sym both.state;
          carried = rest.carried;
        }

    -- soundness is kept, so no portion of a chain is refused with 25
    pub never_25 : Takes f sound → (s : StateOf f) (store : List ℕ) (ls : List Lent) → Carried s store → mem 25 (chain f sound s store ls).results ≡ false
    unfolding chain next mem
    never_25 T s store [] C = refl
    never_25 T s store (l ∷ ls) C =
        let p = portion f (sound s) s store l.events l.work l.answers in
        let kept = sound_portion (sound s) s store l.events l.work l.answers C in
        let not_25 : p.answer ≢ 25 = subst⁻¹ (λ (b : Bool). (portion f b s store l.events l.work l.answers).answer ≢ 25) (T s C.reached.sound) (sound_taken s store l.events l.work l.answers) in
        rw (ne_false 25 p.answer (λ e. not_25 (sym e))) (never_25 T p.state p.store ls kept)

    -- from a start state
    pub never_25_start : Takes f sound → (store : List ℕ) (ls : List Lent) → length store ≡ f.medium.size → mem 25 (chain_from f sound store ls).results ≡ false
    unfolding chain_from
    never_25_start T store ls sized = never_25 T (down (f.medium.from_bytes store)) store ls (carried_start store sized)
