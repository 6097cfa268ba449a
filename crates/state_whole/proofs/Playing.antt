-- One more event of a portion: what is still to be played leads to the same end, and the answers so far stand at the front of the buffer.
use mathlib.Core.Path.{◌≡◌, refl, sym, ap, ap₂, ◌∙◌, subst}
use mathlib.Core.List.{List, [], ◌∷◌, ◌++◌, append_assoc, append-nil}
use mathlib.Core.Option.{Option}
use Prim.Native.Nat.{ℕ, suc, ◌+◌, ◌-◌, ◌*◌, ◌/◌, ◌≤◌, ◌<◌}
use native.Mathlib.Nat.{mul-zero}
use native.Mathlib.Omega.{arith}
use lib.ListN.{length, set, take, drop, length-set, take-append-drop}
use lib.Seq.{take-suc-set, drop-set-lt, drop-drop}
use Rattle.laws.specs.Bytes.{number}
use Rattle.rules.specs.Geometry.{word_size}
use Rattle.rules.specs.Event.{Event, decode}
use Rattle.rules.specs.Form.{Form}
use Rattle.rules.specs.Step.{StateOf}
use Rattle.rules.specs.Run.{words, answer_bytes, play, events_in}
use Rattle.leaf_event.proofs.Words.{words_next}
use Rattle.leaf_event.specs.declared.Answer.{Answer}
use Rattle.state_whole.specs.Whole.{Arrays, view, Intact, engine_answer, Stepped}
use Rattle.state_whole.specs.Portion.{played, PortionPlayed}
use Rattle.state_whole.proofs.Steps.{retold}

-- two bytes are put behind the first 2 k
module _ (l : List ℕ) (k a b : ℕ) (room : 2 * k + 2 ≤ length l) where
  abbrev out : List ℕ
  out = set (set l (2 * k) a) (2 * k + 1) b

  front : take (2 * (k + 1)) out ≡ take (2 * k) l ++ (a ∷ b ∷ [])
  front =
      let e : 2 * (k + 1) ≡ suc (2 * k + 1) = omega arith in
      let f : 2 * k + 1 ≡ suc (2 * k) = omega arith in
      let g = length-set l (2 * k) a in
      ap (λ (i : ℕ). take i out) e ∙ take-suc-set (set l (2 * k) a) (2 * k + 1) b (omega arith)
      ∙ ap (λ (i : ℕ). take i (set l (2 * k) a) ++ (b ∷ [])) f ∙ ap (λ (m : List ℕ). m ++ (b ∷ [])) (take-suc-set l (2 * k) a (omega arith))
      ∙ append_assoc (take (2 * k) l) (a ∷ []) (b ∷ [])

  back : drop (2 * (k + 1)) out ≡ drop (2 * (k + 1)) l
  back = drop-set-lt (2 * (k + 1)) (set l (2 * k) a) (2 * k + 1) b (omega arith) ∙ drop-set-lt (2 * (k + 1)) l (2 * k) a (omega arith)

-- a form whose event words have s bytes
module _ (f : Form) (s : ℕ) where
  -- the words from place k on, of n
  abbrev left : List ℕ → ℕ → ℕ → List ℕ
  left events n k = words f.geometry (n - k) (drop (s * k) events)

  -- k of n events have been played, from x to y
  pub record Playing (x : Arrays) (events answers : List ℕ) (n k : ℕ) (y : Arrays) (answers' : List ℕ) : Type 0 where
    pub intact : Intact f y
    pub state : (play f (view f x) (words f.geometry n events)).state ≡ (play f (view f y) (left events n k)).state
    pub answered : answer_bytes (play f (view f x) (words f.geometry n events)).answers ≡ take (2 * k) answers' ++ answer_bytes (play f (view f y) (left events n k)).answers
    pub rest : drop (2 * k) answers' ≡ drop (2 * k) answers
    pub long : length answers' ≡ length answers

  none_dropped : (events : List ℕ) → drop (s * 0) events ≡ events
  none_dropped events = ap (λ (m : ℕ). drop m events) (mul-zero s)

  pub playing_none : (x : Arrays) (events answers : List ℕ) (n : ℕ) → Intact f x → Playing x events answers n 0 x answers
  playing_none x events answers n I =
      let e : n ≡ n - 0 = omega arith in
      let all : words f.geometry n events ≡ left events n 0 = ap₂ (λ (m : ℕ) (l : List ℕ). words f.geometry m l) e (sym (none_dropped events)) in
      record {
        intact = I;
        state = ap (λ (l : List ℕ). (play f (view f x) l).state) all;
        answered = ap (λ (l : List ℕ). answer_bytes (play f (view f x) l).answers) all;
        rest = refl;
        long = refl;
      }

  module _ (size : word_size f.geometry ≡ s) where
    module _ (x y z : Arrays) (events answers answers' : List ℕ) (n k w : ℕ) (a : Answer) (P : Playing x events answers n k y answers') (more : k < n)
        (room : 2 * n ≤ length answers) (word : w ≡ number (take s (drop (s * k) events))) (T : Stepped f y (decode f.geometry w) a z) (I : Intact f z) where
      abbrev ws : List ℕ
      ws = left events n (k + 1)

      next : left events n k ≡ w ∷ ws
      next =
          let e : n - k ≡ suc (n - (k + 1)) = omega arith in
          ap (λ (m : ℕ). words f.geometry m (drop (s * k) events)) e ∙ words_next f.geometry s size (n - (k + 1)) k events ∙ ap (λ (v : ℕ). v ∷ ws) (sym word)

      play_next : (play f (view f y) (w ∷ ws)).state ≡ (play f (view f z) ws).state
      unfolding play
      play_next = ap (λ (s : StateOf f). (play f s ws).state) (sym T.is)

      bytes_next : answer_bytes (play f (view f y) (w ∷ ws)).answers ≡ a.number ∷ a.value ∷ answer_bytes (play f (view f z) ws).answers
      unfolding play answer_bytes engine_answer
      bytes_next =
          ap₂ (λ (b : Answer) (s : StateOf f). b.number ∷ b.value ∷ answer_bytes (play f s ws).answers) (sym T.says) (sym T.is)

      fits : 2 * k + 2 ≤ length answers'
      fits = let e = P.long in omega arith

      playing_more : (out : List ℕ) → out ≡ set (set answers' (2 * k) a.number) (2 * k + 1) a.value → Playing x events answers n (k + 1) z out
      playing_more out q =
          let r = answer_bytes (play f (view f z) ws).answers in
          let e : 2 * k + 2 ≡ 2 * (k + 1) = omega arith in
          record {
            intact = I;
            state = P.state ∙ ap (λ (l : List ℕ). (play f (view f y) l).state) next ∙ play_next;
            answered =
                P.answered
                ∙ ap (λ (l : List ℕ). take (2 * k) answers' ++ l) (ap (λ (l : List ℕ). answer_bytes (play f (view f y) l).answers) next ∙ bytes_next)
                ∙ sym (append_assoc (take (2 * k) answers') (a.number ∷ a.value ∷ []) r)
                ∙ ap (λ (l : List ℕ). l ++ r) (sym (front answers' k a.number a.value fits) ∙ ap (take (2 * (k + 1))) (sym q));
            rest =
                ap (drop (2 * (k + 1))) q ∙ back answers' k a.number a.value fits
                ∙ ap (λ (i : ℕ). drop i answers') (sym e) ∙ sym (drop-drop 2 (2 * k) answers') ∙ ap (drop 2) P.rest ∙ drop-drop 2 (2 * k) answers ∙ ap (λ (i : ℕ). drop i answers) e;
            long = ap length q ∙ length-set (set answers' (2 * k) a.number) (2 * k + 1) a.value ∙ length-set answers' (2 * k) a.number ∙ P.long;
          }

    -- the word was taken apart, and its event stepped
    pub playing_next : (x y z : Arrays) (events answers answers' out : List ℕ) (n k w : ℕ) (a : Answer) (o : Option Event) → Playing x events answers n k y answers' → k < n
        → 2 * n ≤ length answers → w ≡ number (take s (drop (s * k) events)) → decode f.geometry w ≡ o → Stepped f y o a z × Intact f z
        → out ≡ set (set answers' (2 * k) a.number) (2 * k + 1) a.value → Playing x events answers n (k + 1) z out
    playing_next x y z events answers answers' out n k w a o P more room word q T e =
        playing_more x y z events answers answers' n k w a P more room word (retold f y z o (decode f.geometry w) a q T.0) T.1 out e

    module _ (to_from : (bs : List ℕ) → length bs ≡ f.medium.size → f.medium.to_bytes (f.medium.from_bytes bs) ≡ bs) where
      module _ (x y : Arrays) (events answers answers' : List ℕ) (n : ℕ) (count : n ≡ length events / s) (P : Playing x events answers n n y answers') where
        none_left : (m : ℕ) → m ≡ 0 → words f.geometry m (drop (s * n) events) ≡ []
        unfolding words
        none_left m e = ap (λ (i : ℕ). words f.geometry i (drop (s * n) events)) e

        all-counted : n ≡ events_in f events
        unfolding events_in
        all-counted = count ∙ ap (λ (m : ℕ). length events / m) (sym size)

        end_state : (played f x events).state ≡ view f y
        unfolding played play
        end_state =
            ap (λ (m : ℕ). (play f (view f x) (words f.geometry m events)).state) (sym all-counted)
            ∙ P.state ∙ ap (λ (l : List ℕ). (play f (view f y) l).state) (none_left (n - n) (omega arith))

        end_answers : answer_bytes (played f x events).answers ≡ take (2 * n) answers'
        unfolding played play answer_bytes
        end_answers =
            ap (λ (m : ℕ). answer_bytes (play f (view f x) (words f.geometry m events)).answers) (sym all-counted)
            ∙ P.answered ∙ ap (λ (l : List ℕ). take (2 * n) answers' ++ answer_bytes (play f (view f y) l).answers) (none_left (n - n) (omega arith))
            ∙ append-nil (take (2 * n) answers')

        end_store : y.store ≡ f.medium.to_bytes (view f y).store
        unfolding view
        end_store = sym (to_from y.store P.intact.form.stores)

        playing_done : PortionPlayed f x events answers y answers'
        playing_done = record {
          state = sym end_state;
          intact = P.intact;
          answered =
              sym (take-append-drop (2 * n) answers') ∙ ap₂ ◌++◌ (sym end_answers) P.rest
              ∙ ap (λ (m : ℕ). answer_bytes (played f x events).answers ++ drop (2 * m) answers) all-counted;
          store = end_store ∙ ap (λ (s : StateOf f). f.medium.to_bytes s.store) (sym end_state);
        }

      pub playing_all : (x y : Arrays) (events answers answers' : List ℕ) (k n : ℕ) → k ≡ n → n ≡ length events / s → Playing x events answers n k y answers' → PortionPlayed f x events answers y answers'
      playing_all x y events answers answers' k n e count P =
          playing_done x y events answers answers' n count (subst (λ (k : ℕ). Playing x events answers n k y answers') e P)
