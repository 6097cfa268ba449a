-- An event leaves the settled records alone and ends no surviving top transaction; or it stores the commit of one.
use mathlib.Core.Path.{◌≡◌, refl, sym, ap, subst⁻¹, ◌∙◌}
use mathlib.Core.Bool.{Bool, true, false, cond, ◌&&◌, true≢false}
use mathlib.Core.List.{List, [], ◌∷◌}
use mathlib.Core.Logic.{◌≢◌}
use mathlib.Core.Option.{Option, none, some}
use Prim.Native.Nat.{ℕ, suc, ◌≤◌, ◌<◌}
use native.Mathlib.Omega.{arith}
use lib.ListN.{get_or}
use Rattle.laws.specs.Tests.{same, under}
use Rattle.laws.proofs.Tests.{same_cases, Same, is, isnt, same-eq, same_refl, ne_false, Is, is_cases, yes', no'}
use Rattle.laws.proofs.Those.{count-zero}
use Rattle.laws.proofs.Booleans.{or_right, refute, clash}
use Rattle.laws.proofs.All.{and-false}
use Rattle.rules.specs.Geometry.{records}
use Rattle.rules.specs.Event.{Event, begin, lock, write, read, commit, abort, crash, recover, prepare, decide, query, fits}
use Rattle.rules.specs.State.{line_of, mem, live, down}
use Rattle.rules.specs.Store.{Page}
use Rattle.rules.specs.Versions.{is_some, else}
use Rattle.rules.specs.Commit.{Cut}
use Rattle.rules.specs.Form.{Form}
use Rattle.rules.specs.Step.{value_of, is_for, is_top, changes, busy, decides, Answer, first_free, visible, done, refused, cut, StateOf, OutcomeOf, begun, locked, wrote, ended as endedState, passed, retaining, aborted, raised, concluded, finished, refusal, commits_top, commits_child, commits, recovers, act, step}
use Rattle.rules.specs.Sound.{Sound}
use Rattle.rules.proofs.Tree.{Good, is_cons}
use Rattle.rules.proofs.Medium.{MediumLaws, changed_in, stored, is_clear}
use Rattle.rules.proofs.Acceptance.{CommitOk, PrepareOk, commit_ok, commit_clear, prepare_ok, Judged, acts, refuses, judge_cases}
use Rattle.rules.proofs.Locks.{rooted_of, tree_of, live_line, member_live, no_child, top_line, child_line}
use Rattle.rules.proofs.Reserved.{clear_of, for_some, prepare_fits}
use Rattle.history.specs.History.{History, accepted, suffices, is_whole_answer, effect_of, effect, after, ending, all_ending, told, belongs, bearer_of, names}
use Rattle.history.specs.Entries.{awaits, owner, top_of, entry_of, entry_by, entry}
use Rattle.history.proofs.Roots.{Root, settled, lost, waiting, at, is_settled, all_lost}
use Rattle.history.proofs.Table.{Table, bearer_one}
use Rattle.history.proofs.Invariant.{now, commit_turn, decide_turn, answered, turn, changed_of, Held}
use Rattle.history.proofs.Tops.{last_of, last_in, top_is}
use Rattle.history.proofs.Awaiting.{none_wait}
use Rattle.history.proofs.Holder.{prepared_in, pending_in, Holder, vacant, taken, waiting_is}
use Rattle.history.proofs.Entries.{ruled_entry, unruled_entry}
use Rattle.history.proofs.Entries.{entry_refused}
use Rattle.claim_serial.specs.Serial.{closes, order, is_last}
use Rattle.claim_serial.proofs.Guard.{line_top}
use Rattle.claim_serial.proofs.Others.{is_over}

-- who changed nothing has no version
unchanged_none : (f : Form) {s : StateOf f} (S : Sound f s) (x : ℕ) → changed_of f s x ≡ 0 → (r : ℕ) → is_some (s.version x r) ≡ false
unfolding changed_in
unchanged_none f {s} S x z r = refute (is_some (s.version x r)) (λ v. clash v (count-zero (records f.geometry) (λ j. is_some (s.version x j)) z r (S.ranged x r v)))

bare : (o : Option Page) (p : Page) → is_some o ≡ false → p ≡ else o p
unfolding is_some else
bare none p e = refl
bare (some q) p e = absurd (true≢false e)

-- the event that ends x, a top transaction, for good: its commit, or its prepare where it changed nothing
pub data Closer (f : Form) (s : StateOf f) (x : ℕ) : Event → Type 0 where
  by_commit : (k : ℕ) → Closer f s x (commit x k)
  by_prepare : (k i : ℕ) → fits f.geometry (prepare x k i) ≡ true → changed_of f s x ≡ 0 → Closer f s x (prepare x k i)

pub data Ends (f : Form) (final : ℕ → Bool) (s : StateOf f) (h : History) : Option Event → OutcomeOf f → Type 0 where
  quiet : (e : Option Event) (o : OutcomeOf f) → order final (entry (records f.geometry) h e o.answer) ≡ [] → ((r : ℕ) → now f o.state r ≡ now f s r)
      → (awaits (h.fate 0) ≡ true → turn f s e o.answer waiting ≡ waiting) → Ends f final s h e o
  closing : (x : ℕ) (e : Event) (o : OutcomeOf f) → CommitOk s x → line_of s.bearer x ≡ x ∷ [] → (changes f s x && busy f s) ≡ false → Closer f s x e → turn f s (some e) o.answer (at x) ≡ settled
      → ((r : ℕ) → now f o.state r ≡ else (s.version x r) (now f s r))
      → entry (records f.geometry) h (some e) o.answer ≡ entry_of h e o.answer (h.bearer x) ∷ [] → closes e o.answer ≡ true
      → turn f s (some e) o.answer waiting ≡ waiting → Ends f final s h (some e) o
  -- the decision on w is stored, and w is played
  ruling : (w : ℕ) (d : Bool) (k i : ℕ) (o : OutcomeOf f) → prepared_in f s ≡ some i → ((j : ℕ) → awaits (h.fate j) ≡ same j w) → w ≤ h.begun → h.parent w ≡ 0 → (w ≢ 0 → d ≡ true)
      → ((r : ℕ) → now f o.state r ≡ cond d (else (pending_in f s r) (now f s r)) (now f s r)) → final w ≡ true
      → entry (records f.geometry) h (some (decide d k i)) o.answer ≡ entry_of h (decide d k i) o.answer w ∷ []
      → ((j : ℕ) → awaits ((told (records f.geometry) h (some (decide d k i)) o.answer).fate j) ≡ false)
      → is_over (turn f s (some (decide d k i)) o.answer waiting) ≡ true → Ends f final s h (some (decide d k i)) o

module _ (f : Form) (L : MediumLaws f.geometry f.medium) {s : StateOf f} (S : Sound f s) {h : History} {root : ℕ → Root} (T : Table s.bearer h root) (W : Holder f s h)
    (φ' : Root → Root) (on_settled : φ' settled ≡ settled) (on_lost : φ' lost ≡ lost) (final : ℕ → Bool) (first_plays : final 0 ≡ true) where
  abbrev n : ℕ
  n = records f.geometry

  -- `final` says of who waits what is told of it at the end
  abbrev FinW : (Root → Root) → Type 0
  FinW τ = (w : ℕ) → awaits (h.fate w) ≡ true → w ≢ 0 → final w ≡ is_settled (φ' (τ waiting))

  abbrev Fin : (Root → Root) → Type 0
  Fin τ = (t : ℕ) → live s t ≡ true → final (h.bearer t) ≡ is_settled (φ' (τ (at t)))

  -- no event but a commit ends a top transaction
  no_commit : (h' : History) (e : Event) (a : Answer) (i : ℕ) → closes e a ≡ false → order final (entry_of h' e a i ∷ []) ≡ []
  unfolding order is_last entry_of
  no_commit h' e a i z = rw (z, and-false (final i))

  -- a commit of x
  module _ (x k : ℕ) (ok : CommitOk s x) where
    abbrev c : Cut f.medium.Store
    c = f.medium.commit s.store (s.version x) k

    clear : (changes f s x && busy f s) ≡ false → is_clear f.geometry f.medium s.store (s.version x) ≡ true
    clear u = clear_of f s x (S.calm ok.up) u

    abbrev τ : List ℕ → Answer → Root → Root
    τ l a = λ d. answered a (commit_turn x l (suffices a (changed_of f s x))) d

    abbrev EndsBy : List ℕ → OutcomeOf f → Type 0
    EndsBy l o = line_of s.bearer x ≡ l → (is_top l ≡ true → (changes f s x && busy f s) ≡ false) → Fin (τ l o.answer) → Ends f final s h (some (commit x k)) o

    abbrev cut_short : OutcomeOf f
    cut_short = record { state = down c.store; answer = cut c.made }

    ends_cut : c.crashed ≡ true → (b : Bool) → under (changed_of f s x) c.made ≡ b → line_of s.bearer x ≡ x ∷ [] → (changes f s x && busy f s) ≡ false → Fin (τ (x ∷ []) (cut c.made))
        → Ends f final s h (some (commit x k)) cut_short
    unfolding suffices down entry entry_by owner belongs bearer_of names accepted told effect_of effect after ending all_ending entry_of top_of
    ends_cut w true z lx u fin = closing x (commit x k) cut_short ok lx u (by_commit k) (rw (lx, z, same_refl x))
        (λ r. L.commit_kept s.store (s.version x) k r (clear u) (S.ranged x) (unfold stored in or_right (same (changed_of f s x) 0) _ z)) refl (unfold closes in refl) (rw (lx, z))
    ends_cut w false z lx u fin = quiet (some (commit x k)) cut_short (unfold order in rw (fin x ok.alive, z, same_refl x, on_lost))
        (λ r. L.commit_lost s.store (s.version x) k r (clear u) (unfold stored in
        rw (ne_false (changed_of f s x) 0 (λ q. let m : 0 < changed_of f s x = L.commit_cut s.store (s.version x) k w in omega arith), z))) (λ e. rw (lx, z))

    abbrev EndsTop : OutcomeOf f → Type 0
    EndsTop o = line_of s.bearer x ≡ x ∷ [] → (changes f s x && busy f s) ≡ false → Fin (τ (x ∷ []) o.answer) → Ends f final s h (some (commit x k)) o

    ends_top : EndsTop (commits_top f s x c)
    unfolding commits_top
    ends_top lx u = go c.crashed refl
      where
        go : (b : Bool) → c.crashed ≡ b → Fin (τ (x ∷ []) (concluded (endedState s (λ j. same j x) c.store) c b).answer) → Ends f final s h (some (commit x k)) (concluded (endedState s (λ j. same j x) c.store) c b)
        go true w fin = unfold concluded in ends_cut w (under (changed_of f s x) c.made) refl lx (u) fin
        go false w fin = unfold concluded endedState suffices entry entry_by owner belongs bearer_of names accepted told effect_of effect after ending entry_of top_of in
            closing x (commit x k) (concluded (endedState s (λ j. same j x) c.store) c false) ok lx u (by_commit k) (rw (lx, same_refl x)) (λ r. L.commit_kept s.store (s.version x) k r (clear u) (S.ranged x) (L.commit_whole s.store (s.version x) k (S.calm ok.up) (clear u) w).1) refl (unfold closes in refl) (rw lx)

    -- the top transaction of a child is another
    other : (a y : ℕ) (m : List ℕ) → line_of s.bearer x ≡ a ∷ y ∷ m → same (top_of h (h.bearer x)) (h.bearer x) ≡ false
    unfolding live
    other a y m q =
        let C = child_line S x a y m q in
        let good : Good (line_of s.bearer) (a ∷ y ∷ m) = rw q at ((tree_of S).good x) in
        let i : mem (last_of y m) (line_of s.bearer y) ≡ true = rw good.1.0 (last_in y m) in
        rw (top_is (rooted_of S) T x ok.alive, q)
        (ne_false (h.bearer (last_of y m)) (h.bearer x) (λ e.
        let z = bearer_one T (last_of y m) x (member_live S y (last_of y m) i) ok.alive e in
        clash (rw z at i) (no_child S x ok.childless y (λ w. C.two (sym w)))))

    ends_commit : (l : List ℕ) → EndsBy l (commits f s x k l)
    unfolding commits is_top
    ends_commit [] q u fin = clash ok.alive (live_line S x ∙ ap is_cons q)
    ends_commit (a ∷ []) q u fin = ends_top (top_line S x a q) (u refl) (subst⁻¹ (λ (b : ℕ). Fin (τ (b ∷ []) (commits_top f s x c).answer)) (sym ((tree_of S).first x a [] q)) fin)
    ends_commit (a ∷ y ∷ m) q u fin = unfold commits_child finished endedState passed entry entry_by owner belongs bearer_of names accepted told effect_of effect after ending entry_of top_of order is_last in
        quiet (some (commit x k)) (commits_child f s x y) (rw (other a y m q, and-false, and-false (final (h.bearer x)))) (λ r. refl) (λ e. rw q)

  abbrev EndsAt : Event → OutcomeOf f → Type 0
  EndsAt e o = Fin (turn f s (some e) o.answer) → FinW (turn f s (some e) o.answer) → Ends f final s h (some e) o

  ends_recover : (k : ℕ) → EndsAt (recover k) (recovers f s (f.medium.recover s.store k))
  unfolding recovers
  ends_recover k = go (f.medium.recover s.store k).crashed
    where
      go : (b : Bool) → EndsAt (recover k) (concluded (raised s (f.medium.recover s.store k).store) (f.medium.recover s.store k) b)
      go true fin finw = unfold concluded down entry entry_by owner belongs bearer_of names order is_last in quiet (some (recover k)) (concluded (raised s (f.medium.recover s.store k).store) (f.medium.recover s.store k) true) refl (λ r. L.recover_settled s.store k r) (λ e. refl)
      go false fin finw = unfold concluded raised entry entry_by owner belongs bearer_of names order is_last in quiet (some (recover k)) (concluded (raised s (f.medium.recover s.store k).store) (f.medium.recover s.store k) false) refl (λ r. L.recover_settled s.store k r) (λ e. refl)

  -- a prepare of x: what changed nothing just commits, other wait, or are cut
  ends_prepare : (x k i : ℕ) → fits f.geometry (prepare x k i) ≡ true → PrepareOk f s x → EndsAt (prepare x k i) (commits_top f s x (f.medium.prepare s.store (s.version x) i k))
  unfolding commits_top concluded endedState down closes is_whole_answer entry entry_by owner belongs bearer_of names accepted told effect_of effect after ending all_ending entry_of top_of value_of
  ends_prepare x k i fit ok fin finw = go c.crashed refl fin
    where
      c : Cut f.medium.Store
      c = f.medium.prepare s.store (s.version x) i k

      whole : StateOf f
      whole = endedState s (λ j. same j x) c.store

      held : (f.geometry.joint ≡ true) × (i < 256)
      held = prepare_fits f.geometry x k i fit

      settles : (r : ℕ) → f.medium.settled c.store r ≡ now f s r
      settles r = L.prepare_settled s.store (s.version x) i k r (clear_of f s x (S.calm ok.as_commit.up) ok.clear) held.0 held.1

      by : c.crashed ≡ false → Same (changed_of f s x) 0 → Ends f final s h (some (prepare x k i)) (concluded whole c false)
      by w (is q z _) =
          let none_made : c.made ≡ 0 = (L.prepare_none s.store (s.version x) i k q).1 in
          closing x (prepare x k i) (concluded whole c false) ok.as_commit (line_top f S x ok) ok.clear (by_prepare k i fit q) (rw (z, same_refl x)) (λ r. settles r ∙ bare (s.version x r) (now f s r) (unchanged_none f S x q r)) refl
          (rw none_made (same_refl 0)) (rw z)
      by w (isnt q z _) =
          let some-made : 0 < c.made = (L.prepare_taken s.store (s.version x) i k (S.ranged x) held.0 held.1 (omega (arith, q)) w).2 in
          quiet (some (prepare x k i)) (concluded whole c false) (no_commit h (prepare x k i) (done c.made) (h.bearer x) (ne_false c.made 0 (λ e. omega (arith, e, some-made)))) settles (λ e. rw z)

      go : (b : Bool) → c.crashed ≡ b → Fin (turn f s (some (prepare x k i)) (concluded whole c b).answer) → Ends f final s h (some (prepare x k i)) (concluded whole c b)
      go true w fin =
          quiet (some (prepare x k i)) (concluded whole c true) (unfold order in rw (fin x ok.as_commit.alive, same_refl x, on_lost)) settles (λ e. refl)
      go false w fin = by w (same_cases (changed_of f s x) 0)

  -- a decision
  ends_decide : (d : Bool) (k i : ℕ) (b : Bool) → is_for i (f.medium.prepared s.store) ≡ b → EndsAt (decide d k i) (decides f s d k b)
  unfolding decides
  ends_decide d k i false q fin finw = unfold finished in
      quiet (some (decide d k i)) (record { state = s; answer = done 0 }) (ap (order final) (unruled_entry n h d k i (done 0) (unfold value_of in same_refl 0)) ∙ (unfold order in refl)) (λ r. refl)
      (λ e. unfold value_of in rw (same_refl 0))
  ends_decide d k i true q fin finw = unfold recovers in go (is_cases (same (value_of o.answer) 0)) finw
    where
      c : Cut f.medium.Store
      c = f.medium.decide s.store d k

      o : OutcomeOf f
      o = concluded (raised s c.store) c c.crashed

      here : f.medium.prepared s.store ≡ some i
      here = for_some i (f.medium.prepared s.store) q

      -- its answer and its store, cut or not
      taken_it : (accepted o.answer ≡ true) × (value_of o.answer ≡ c.made) × (o.state.store ≡ c.store)
      taken_it = go' c.crashed
        where
          go' : (b : Bool) → (accepted (concluded (raised s c.store) c b).answer ≡ true) × (value_of (concluded (raised s c.store) c b).answer ≡ c.made) × ((concluded (raised s c.store) c b).state.store ≡ c.store)
          go' true = unfold concluded accepted value_of down in (refl, refl, refl)
          go' false = unfold concluded accepted value_of raised in (refl, refl, refl)

      turns : (b : Bool) → same (value_of o.answer) 0 ≡ b → turn f s (some (decide d k i)) o.answer waiting ≡ decide_turn d b waiting
      turns b z = by c.crashed b z
        where
          ends : (b : Bool) → all_lost (decide_turn d b waiting) ≡ decide_turn d b waiting
          ends true = refl
          ends false = go'' d
            where
              go'' : (d : Bool) → all_lost (cond d settled lost) ≡ cond d settled lost
              go'' true = refl
              go'' false = refl

          by : (m b : Bool) → same (value_of (concluded (raised s c.store) c m).answer) 0 ≡ b → turn f s (some (decide d k i)) (concluded (raised s c.store) c m).answer waiting ≡ decide_turn d b waiting
          by true b z = unfold concluded value_of in rw z (ends b)
          by false b z = unfold concluded value_of in rw z

      go : Is (same (value_of o.answer) 0) → FinW (turn f s (some (decide d k i)) o.answer) → Ends f final s h (some (decide d k i)) o
      go (yes' z) finw =
          let none_made : c.made ≡ 0 = sym taken_it.1 ∙ same-eq _ 0 z in
          quiet (some (decide d k i)) o (ap (order final) (unruled_entry n h d k i o.answer z) ∙ (unfold order in refl))
          (λ r. ap (λ (x : f.medium.Store). f.medium.settled x r) (taken_it.2 ∙ L.decide_first s.store d k i here none_made)) (λ e. turns true z)
      go (no' z) finw = by W
        where
          made : 0 < c.made
          made = some_of c.made (ap (λ (v : ℕ). same v 0) (sym taken_it.1) ∙ z)
            where
              some_of : (v : ℕ) → same v 0 ≡ false → 0 < v
              some_of v e = by_same (same_cases v 0)
                where
                  by_same : Same v 0 → 0 < v
                  by_same (is q k _) = clash k e
                  by_same (isnt q k _) = omega (arith, q)

          now_is : (r : ℕ) → now f o.state r ≡ cond d (else (pending_in f s r) (now f s r)) (now f s r)
          now_is r = ap (λ (x : f.medium.Store). f.medium.settled x r) taken_it.2 ∙ L.decide_settled s.store d k i r here made

          the_entry : (w : ℕ) → ((j : ℕ) → awaits (h.fate j) ≡ same j w) → w ≤ h.begun → entry n h (some (decide d k i)) o.answer ≡ entry_of h (decide d k i) o.answer w ∷ []
          the_entry w only le = ruled_entry n h d k i o.answer taken_it.0 z ∙ ap (λ (j : ℕ). entry_of h (decide d k i) o.answer j ∷ []) (waiting_is f h w only le)

          over : is_over (turn f s (some (decide d k i)) o.answer waiting) ≡ true
          over = ap is_over (turns false z) ∙ either d
            where
              either : (d : Bool) → is_over (cond d settled lost) ≡ true
              either true = refl
              either false = refl

          by : Holder f s h → Ends f final s h (some (decide d k i)) o
          by (vacant e nb) = let y : none ≡ some i = sym e ∙ here in let x : true ≡ false = cc in absurd (true≢false x)
          by (taken w j e only p le) = at_last (same_cases w 0) d refl
            where
              plays : w ≢ 0 → final w ≡ is_settled (φ' (cond d settled lost))
              plays m = finw w (only w ∙ same_refl w) m ∙ ap (λ (x : Root). is_settled (φ' x)) (turns false z)

              ruled_on : (w ≢ 0 → d ≡ true) → final w ≡ true → Ends f final s h (some (decide d k i)) o
              ruled_on to_commit plays_it = ruling w d k i o here only le p to_commit now_is plays_it (the_entry w only le) (none_wait n h d k i o.answer taken_it.0 z) over

              at_last : Same w 0 → (b : Bool) → d ≡ b → Ends f final s h (some (decide d k i)) o
              at_last (is m _ _) b q = ruled_on (λ m'. absurd (m' m)) (ap final m ∙ first_plays)
              at_last (isnt m _ _) true q = ruled_on (λ m'. q) (plays m ∙ rw (q, on_settled))
              at_last (isnt m m₀ m₁) false q =
                  quiet (some (decide d k i)) o (ap (order final) (the_entry w only le) ∙ (unfold order is_last entry_of in rw (plays m, q, on_lost)))
                  (λ r. now_is r ∙ rw q) (λ e. clash e (only 0 ∙ m₁))

  ends_act : (e : Event) → fits f.geometry e ≡ true → refusal f s e ≡ none → EndsAt e (act f s e)
  unfolding act finished begun locked wrote retaining aborted endedState down entry entry_by owner belongs bearer_of names accepted closes
  ends_act (begin p) fit q fin finw = quiet (some (begin p)) (act f s (begin p)) (no_commit _ (begin p) (done (first_free s)) (suc h.begun) refl) (λ r. refl) (λ e. refl)
  ends_act (lock t x a) fit q fin finw = quiet (some (lock t x a)) (act f s (lock t x a)) (no_commit _ (lock t x a) (done 0) (h.bearer t) refl) (λ r. refl) (λ e. refl)
  ends_act (write t x o v) fit q fin finw = quiet (some (write t x o v)) (act f s (write t x o v)) (no_commit _ (write t x o v) (done 0) (h.bearer t) refl) (λ r. refl) (λ e. refl)
  ends_act (read t x o) fit q fin finw = quiet (some (read t x o)) (act f s (read t x o)) (no_commit _ (read t x o) (done (get_or (visible f s t x) o 0)) (h.bearer t) refl) (λ r. refl) (λ e. refl)
  ends_act (commit x k) fit q fin finw = ends_commit x k (commit_ok f s x k q) (line_of s.bearer x) refl (commit_clear f s x k q) fin
  ends_act (abort x w) fit q fin finw = quiet (some (abort x w)) (act f s (abort x w)) (no_commit _ (abort x w) (done 0) (h.bearer x) refl) (λ r. refl) (λ e. refl)
  ends_act crash fit q fin finw = quiet (some crash) (act f s crash) (unfold order in refl) (λ r. refl) (λ e. refl)
  ends_act (recover k) fit q fin finw = ends_recover k fin finw
  ends_act (prepare x k i) fit q fin finw = ends_prepare x k i fit (prepare_ok f s x k i q) fin finw
  ends_act (decide d k i) fit q fin finw = ends_decide d k i (is_for i (f.medium.prepared s.store)) refl fin finw
  ends_act (query i) fit q fin finw = quiet (some (query i)) (act f s (query i)) (unfold order in refl) (λ r. refl) (λ e. refl)

  pub ends_step : (e : Option Event) → Held f.geometry e → Fin (turn f s e (step f s e).answer) → FinW (turn f s e (step f s e).answer) → Ends f final s h e (step f s e)
  unfolding step
  ends_step none g fin finw = quiet none (record { state = s; answer = refused 1 }) (unfold entry order is_last in refl) (λ r. refl) (λ e. refl)
  ends_step (some e) g fin finw = go (judge_cases f s e) fin finw
    where
      go : Judged f s e → EndsAt e (step f s (some e))
      go (acts q k) = subst⁻¹ (λ (o : OutcomeOf f). EndsAt e o) k (ends_act e g q)
      go (refuses m q k) = subst⁻¹ (λ (o : OutcomeOf f). EndsAt e o) k (λ fin finw. quiet (some e) (record { state = s; answer = refused m }) (ap (order final) (entry_refused n h e m) ∙ (unfold order in refl)) (λ r. refl) (λ e. refl))
