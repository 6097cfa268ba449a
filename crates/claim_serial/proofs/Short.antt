-- The serial list has no more entries than the list has words, and none for the first word.
use mathlib.Core.Path.{◌≡◌, refl, sym, ap, ap₂, subst, subst⁻¹, ◌∙◌}
use mathlib.Core.Bool.{Bool, true, false, cond, ◌&&◌, true≢false, false≢true}
use mathlib.Core.List.{List, [], ◌∷◌, ◌++◌}
use mathlib.Core.Logic.{◌≢◌}
use mathlib.Core.Option.{Option, none, some}
use Prim.Native.Nat.{ℕ, suc, ◌+◌, ◌≤◌}
use native.Mathlib.Omega.{arith}
use lib.ListN.{length}
use Rattle.laws.specs.Tests.{same}
use Rattle.laws.proofs.Tests.{same_cases, Same, is, isnt, same_refl, ne_false, Is, is_cases, yes', no'}
use Rattle.laws.proofs.All.{and-false}
use Rattle.rules.specs.Geometry.{records}
use Rattle.rules.specs.Store.{Page}
use Rattle.rules.specs.Event.{Event, begin, lock, write, read, commit, abort, crash, recover, prepare, decide, query, decode}
use Rattle.rules.specs.State.{mem, live, down}
use Rattle.rules.specs.Form.{Form}
use Rattle.rules.specs.Step.{refused, Answer, StateOf, OutcomeOf, step, open_step}
use Rattle.rules.specs.Sound.{Sound}
use Rattle.rules.proofs.Medium.{MediumLaws}
use Rattle.rules.proofs.Soundness.{Reached, reached_word}
use Rattle.history.specs.History.{History, accepted, belongs, bearer_of, names}
use Rattle.history.specs.Entries.{Entry, awaits, owner, top_of, entry_of, entry_by, entry}
use Rattle.history.proofs.Roots.{Root, settled, waiting, at, is_settled}
use Rattle.history.proofs.Table.{Table, root_bearer, bearer_known}
use Rattle.history.proofs.Invariant.{turn, Holds, held_word, step_after}
use Rattle.history.proofs.Runs.{step_of, told_of, future}
use Rattle.history.proofs.Fair.{fair_run}
use Rattle.history.proofs.Holder.{Holder, shift_step}
use Rattle.history.proofs.Entries.{unruled_entry, own_climbed}
use Rattle.claim_serial.specs.Serial.{closes, mine, order, in_turn, serial, is_last}
use Rattle.claim_serial.proofs.Others.{order_join, entry_for, entries_from, is_over, over_entries}
use Rattle.claim_serial.proofs.Ends.{Ends, quiet, closing, ruling, ends_step}
use Rattle.claim_serial.proofs.Order.{own_top, root_waits, Plays, first_plays, finals, finals_waiting, finals_rest}

-- no number stands twice
abbrev Once : List ℕ → Type 0
Once [] = Unit {0}
Once (i ∷ l) = (mem i l ≡ false) × Once l

abbrev is_some' : List Entry → Bool
is_some' [] = false
is_some' (x ∷ xs) = true

abbrev others : ℕ → List Entry → List Entry
others i [] = []
others i (x ∷ xs) = cond (same x.top i) (others i xs) (x ∷ others i xs)

join_length : (p q : List Entry) → length (p ++ q) ≡ length p + length q
join_length [] q = omega arith
join_length (x ∷ p) q = let k = join_length p q in omega (arith, k)

module _ (final : ℕ → Bool) where
  split_length : (i : ℕ) (xs : List Entry) → length (mine final i xs) + length (others i xs) ≤ length xs
  unfolding mine
  split_length i [] = omega arith
  split_length i (x ∷ xs) = go (final x.transaction) (same x.top i) (split_length i xs)
    where
      go : (b c : Bool) → length (mine final i xs) + length (others i xs) ≤ length xs
          → length (cond (b && c) (x ∷ mine final i xs) (mine final i xs)) + length (cond c (others i xs) (x ∷ others i xs)) ≤ suc (length xs)
      go true true h = omega arith
      go true false h = omega arith
      go false true h = omega arith
      go false false h = omega arith

  others_mine : (i j : ℕ) → j ≢ i → (xs : List Entry) → mine final j (others i xs) ≡ mine final j xs
  unfolding mine
  others_mine i j n [] = refl
  others_mine i j n (x ∷ xs) = go (same_cases x.top i) (others_mine i j n xs)
    where
      go : Same x.top i → mine final j (others i xs) ≡ mine final j xs → mine final j (cond (same x.top i) (others i xs) (x ∷ others i xs)) ≡ mine final j (x ∷ xs)
      go (is q k _) ih = rw (k, ne_false x.top j (λ z. n (sym z ∙ q)), and-false (final x.transaction)) ih
      go (isnt q k _) ih = rw (k, ih)

  others_turn : (i : ℕ) (xs : List Entry) (tops : List ℕ) → mem i tops ≡ false → in_turn (λ j. mine final j (others i xs)) tops ≡ in_turn (λ j. mine final j xs) tops
  unfolding mem in_turn
  others_turn i xs [] e = refl
  others_turn i xs (j ∷ tops) e = go (same_cases i j) (λ k. others_turn i xs tops k)
    where
      go : Same i j → (mem i tops ≡ false → in_turn (λ j. mine final j (others i xs)) tops ≡ in_turn (λ j. mine final j xs) tops)
          → in_turn (λ j. mine final j (others i xs)) (j ∷ tops) ≡ in_turn (λ j. mine final j xs) (j ∷ tops)
      go (is q k _) ih = absurd (true≢false (rw k at e))
      go (isnt q k _) ih = ap₂ ◌++◌ (others_mine i j (λ z. q (sym z)) xs) (ih (rw k at e))

  turn_length : (tops : List ℕ) (xs : List Entry) → Once tops → length (in_turn (λ i. mine final i xs) tops) ≤ length xs
  unfolding in_turn
  turn_length [] xs o = omega arith
  turn_length (i ∷ tops) xs o =
      let a = join_length (mine final i xs) (in_turn (λ j. mine final j xs) tops) in
      let b : length (in_turn (λ j. mine final j xs) tops) ≤ length (others i xs) = subst (λ (l : List Entry). length l ≤ length (others i xs)) (others_turn i xs tops o.0) (turn_length tops (others i xs) o.1) in
      let c = split_length i xs in
      omega (arith, a, b, c)

  -- a top transaction in the order has entries
  ordered : (i : ℕ) (xs : List Entry) → mem i (order final xs) ≡ true → is_some' (mine final i xs) ≡ true
  unfolding mem order mine
  ordered i [] e = absurd (false≢true e)
  ordered i (x ∷ xs) e = go (is_cases (final x.transaction)) (same_cases x.top i) (is_cases (final x.transaction && is_last x)) (λ k. ordered i xs k)
    where
      go : Is (final x.transaction) → Same x.top i → Is (final x.transaction && is_last x) → (mem i (order final xs) ≡ true → is_some' (mine final i xs) ≡ true) → is_some' (mine final i (x ∷ xs)) ≡ true
      go (yes' z) (is q k _) s ih = rw (z, k)
      go (no' z) k s ih = rw z (ih (rw z at e))
      go (yes' z) (isnt q k k') (no' s) ih = rw (z, k) (ih (rw s at e))
      go (yes' z) (isnt q k k') (yes' s) ih = rw (z, k) (ih (rw (s, k') at e))

  absent : (i : ℕ) (xs : List Entry) → mine final i xs ≡ [] → mem i (order final xs) ≡ false
  absent i xs q = go (is_cases (mem i (order final xs)))
    where
      go : Is (mem i (order final xs)) → mem i (order final xs) ≡ false
      go (no' e) = e
      go (yes' e) = absurd (true≢false (sym (ordered i xs e) ∙ ap is_some' q))

  module _ (f : Form) (L : MediumLaws f.geometry f.medium) where
    once_turn : {s : StateOf f} (S : Sound f s) {h : History} {root : ℕ → Root} (T : Table s.bearer h root) (e : Option Event) (o : OutcomeOf f) (tops : List ℕ) → Ends f final s h e o → Once tops
        → ((x : ℕ) → live s x ≡ true → turn f s e o.answer (at x) ≡ settled → mem (h.bearer x) tops ≡ false)
        → ((w : ℕ) → awaits (h.fate w) ≡ true → w ≤ h.begun → is_over (turn f s e o.answer waiting) ≡ true → mem w tops ≡ false)
        → Once (order final (entry (records f.geometry) h e o.answer) ++ tops)
    once_turn S T _ _ tops (quiet e o z w y) os new ruled = subst⁻¹ (λ (l : List ℕ). Once (l ++ tops)) z os
    once_turn {s} S {h} {root} T _ _ tops (closing x e o ok lx u c st w eq z y) os new ruled =
        subst⁻¹ (λ (l : List Entry). Once (order final l ++ tops)) eq (go (is_cases (final (h.bearer x))))
      where
        top_x : top_of h (h.bearer x) ≡ h.bearer x
        top_x = own_top f L final S T x ok.alive lx

        go : Is (final (h.bearer x)) → Once (order final (entry_of h e o.answer (h.bearer x) ∷ []) ++ tops)
        go (no' q) = unfold order is_last entry_of in rw q os
        go (yes' q) = unfold order is_last entry_of in rw (q, z, top_x, same_refl (h.bearer x)) (new x ok.alive st, os)
    once_turn {s} S {h} {root} T _ _ tops (ruling w d k i o here only le p to_commit now_is plays-w eq none_after over) os new ruled =
        subst⁻¹ (λ (l : List Entry). Once (order final l ++ tops)) eq
        (unfold order is_last entry_of closes in rw (plays-w, own_climbed h w p, same_refl w) (ruled w (only w ∙ same_refl w) le over, os))

    once_order : {start : ℕ → Page} {s : StateOf f} {h : History} {root : ℕ → Root} (ws : List ℕ) → Reached f L s → Holds f start s h root → Holder f s h → Plays f L final s h ws
        → Once (order final (entries_from f h s ws))
    unfolding entries_from future
    once_order [] A H W k = unfold order in tt
    once_order {start} {s} {h} {root} (w ∷ ws) A H W k =
        let g = f.geometry in
        let A₁ = reached_word f L A w in
        let B = step_after f L A.sound H (decode g w) (held_word g w) in
        let M = shift_step f L A.sound H W (decode g w) (held_word g w) in
        let F₁ = fair_run f L ws A₁ in
        let φ : Root → Root = future f (step_of f s w).state ws in
        let xs : List Entry = entries_from f (told_of f h s w) (step_of f s w).state ws in
        let fin : (t : ℕ) → live s t ≡ true → final (h.bearer t) ≡ is_settled (φ (turn f s (decode g w) (step_of f s w).answer (at t))) = finals f L final (w ∷ ws) A H k in
        let finw : (v : ℕ) → awaits (h.fate v) ≡ true → v ≢ 0 → final v ≡ is_settled (φ (turn f s (decode g w) (step_of f s w).answer waiting)) = finals_waiting f L final (w ∷ ws) A H W k in
        let grown : h.begun ≤ (told_of f h s w).begun = B.grown in
        subst⁻¹ Once (order_join final (entry_for f h s w) xs)
        (once_turn A.sound H.table (decode g w) (step_of f s w) (order final xs)
        (ends_step f L A.sound H.table W φ F₁.on_settled F₁.on_lost final (first_plays f L final s h (w ∷ ws) k) (decode g w) (held_word g w) fin finw)
        (once_order {s = (step_of f s w).state} {h = told_of f h s w} {root = B.root'} ws A₁ B.tells M.holder (finals_rest f L final s h w ws k))
        (λ x al st.
        let known : h.bearer x ≤ h.begun = bearer_known H.table x (unfold live in al) in
        let gone : is_over (B.root' (h.bearer x)) ≡ true = ap is_over (B.turned (h.bearer x) known ∙ ap (turn f s (decode g w) (step_of f s w).answer) (root_bearer H.table x (unfold live in al)) ∙ st) in
        absent (h.bearer x) xs (over_entries f L final ws A₁ B.tells M.holder (h.bearer x) gone (omega (arith, known, grown))))
        (λ v y le over.
        let gone : is_over (B.root' v) ≡ true = ap is_over (B.turned v le ∙ ap (turn f s (decode g w) (step_of f s w).answer) (root_waits f L final H.table v y)) ∙ over in
        absent v xs (over_entries f L final ws A₁ B.tells M.holder v gone (omega (arith, le, grown)))))

    -- the serial list is no longer than the entries
    pub serial-length : {start : ℕ → Page} {s : StateOf f} {h : History} {root : ℕ → Root} (ws : List ℕ) → Reached f L s → Holds f start s h root → Holder f s h → Plays f L final s h ws
        → length (serial final (entries_from f h s ws)) ≤ length (entries_from f h s ws)
    unfolding serial
    serial-length {s = s} {h = h} ws A H W k = turn_length (order final (entries_from f h s ws)) (entries_from f h s ws) (once_order ws A H W k)

entry_length : (n : ℕ) (h : History) (e : Option Event) (a : Answer) → length (entry n h e a) ≤ 1
unfolding entry
entry_length n h none a = omega arith
entry_length n h (some e) a = go (owner h e a)
  where
    by : (b : Bool) (x : Entry) → length (cond {A = List Entry} b (x ∷ []) []) ≤ 1
    by true x = omega arith
    by false x = omega arith

    go : (o : Option ℕ) → length (entry_by n h e a o) ≤ 1
    go none = unfold entry_by in omega arith
    go (some i) = unfold entry_by in by (accepted a) _

module _ (f : Form) where
  entries-length : (h : History) (s : StateOf f) (ws : List ℕ) → length (entries_from f h s ws) ≤ length ws
  unfolding entries_from
  entries-length h s [] = omega arith
  entries-length h s (w ∷ ws) =
      let k = join_length (entry_for f h s w) (entries_from f (told_of f h s w) (step_of f s w).state ws) in
      let l = entry_length (records f.geometry) h (decode f.geometry w) (step_of f s w).answer in
      let m = entries-length (told_of f h s w) (step_of f s w).state ws in
      omega (arith, k, l, m)

  -- while down no event belongs to a transaction
  pub down_entry : (h : History) (d : f.medium.Store) (e : Option Event) → entry (records f.geometry) h e (step f (down d) e).answer ≡ []
  unfolding open_step down entry entry_by owner belongs bearer_of names accepted
  down_entry h d none = refl
  down_entry h d (some (begin p)) = refl
  down_entry h d (some (lock t r a)) = refl
  down_entry h d (some (write t r o v)) = refl
  down_entry h d (some (read t r o)) = refl
  down_entry h d (some (commit t k)) = refl
  down_entry h d (some (abort t w)) = refl
  down_entry h d (some crash) = refl
  down_entry h d (some (recover k)) = refl
  down_entry h d (some (prepare t k i)) = refl
  down_entry h d (some (decide e k i)) = unruled_entry (records f.geometry) h e k i (refused 2) (unfold open_step in same_refl 0)
  down_entry h d (some (query i)) = refl

  pub fewer_entries : (h : History) (d : f.medium.Store) (w : ℕ) (ws : List ℕ) → length (entries_from f h (down d) (w ∷ ws)) ≤ length ws
  unfolding entries_from
  fewer_entries h d w ws =
      let k : length (entries_from f h (down d) (w ∷ ws)) ≡ length (entries_from f (told_of f h (down d) w) (step_of f (down d) w).state ws) =
      ap (λ (l : List Entry). length (l ++ entries_from f (told_of f h (down d) w) (step_of f (down d) w).state ws)) (down_entry h d (decode f.geometry w)) in
      let m = entries-length (told_of f h (down d) w) (step_of f (down d) w).state ws in
      omega (arith, k, m)
