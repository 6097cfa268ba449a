-- Each kind of event, seen from a top transaction that goes on: what is pending of it grows by the event's entry if that is among its own,
-- and stays otherwise.
use mathlib.Core.Path.{◌≡◌, refl, sym, ap, ◌∙◌}
use mathlib.Core.Bool.{Bool, true, false, cond, ◌&&◌, false≢true, or-true}
use mathlib.Core.List.{List, [], ◌∷◌, ◌++◌}
use mathlib.Core.Logic.{◌≢◌, ◌⊎◌, inl, inr}
use mathlib.Core.Option.{none}
use Prim.Native.Nat.{ℕ}
use native.Mathlib.Omega.{arith}
use lib.ListN.{length, get_or}
use Rattle.laws.specs.Tests.{same}
use Rattle.laws.proofs.Tests.{same_cases, Same, is, isnt, same-eq, same_refl, ne_false, Is, is_cases, yes', no'}
use Rattle.laws.proofs.Booleans.{or_cases, or_left, and_left, and_right, refute, clash}
use Rattle.laws.proofs.All.{and-false}
use Rattle.rules.specs.Geometry.{nobody}
use Rattle.rules.specs.Event.{Event, Access, begin, lock, write, read, commit, abort, fits}
use Rattle.rules.specs.State.{Bearers, free, is_active, line_of, mem, is_lock, live, holds}
use Rattle.rules.specs.Locks.{granted, discarded}
use Rattle.rules.specs.Versions.{with_version, handed_up, dropped}
use Rattle.rules.specs.Form.{Form}
use Rattle.rules.specs.Step.{Answer, done, StateOf, first_free, begun, locked, wrote, ended, passed, retaining, aborted, finished, visible, refusal, act}
use Rattle.rules.specs.Sound.{Sound}
use Rattle.rules.proofs.Tree.{is_cons}
use Rattle.rules.proofs.Bearers.{Rooted, begun_line, ended_line}
use Rattle.rules.proofs.Grades.{barring, has}
use Rattle.rules.proofs.Medium.{MediumLaws}
use Rattle.rules.proofs.Acceptance.{BeginOk, CommitOk, begin_ok, lock_ok, lock_free, write_ok, read_ok, abort_ok}
use Rattle.rules.proofs.Locks.{ChildOf, rooted_of, own_line, live_line, beneath_closed, child_line}
use Rattle.rules.proofs.Soundness.{alone_closed}
use Rattle.rules.proofs.Modes.{reported_keeps, inherited_keeps}
use Rattle.history.specs.History.{History}
use Rattle.history.specs.Entries.{Entry, entry_of}
use Rattle.history.proofs.Roots.{Root, lost, at, is_settled, move, lose}
use Rattle.history.proofs.Table.{Table}
use Rattle.history.proofs.Fair.{Fair}
use Rattle.history.proofs.Tops.{same_top}
use Rattle.claim_serial.specs.Serial.{mine}
use Rattle.claim_serial.proofs.Guard.{Guard, guard_act}
use Rattle.claim_serial.proofs.Mirror.{reframe}
use Rattle.claim_serial.proofs.Follow.{follow_lock, follow_write, follow_read}
use Rattle.claim_serial.proofs.FollowBegin.{live_begun, follow_begin}
use Rattle.claim_serial.proofs.FollowCommit.{follow_child}
use Rattle.claim_serial.proofs.Pending.{settled_of, sv, sv_live, Guards, lean_free, Pending, Back, choose}

-- the entry of t's event, among those of top
mine_one : {limit : ℕ} {b : Bearers} (S : Rooted limit nobody b) {h : History} {root : ℕ → Root} (T : Table b h root)
    (final : ℕ → Bool) (φ : Root → Root) (t top : ℕ) (e : Event) (a : Answer) → is_active (b t) ≡ true → line_of b top ≡ top ∷ [] → final (h.bearer t) ≡ is_settled (φ (at t))
    → mine final (h.bearer top) (entry_of h e a (h.bearer t) ∷ []) ≡ cond (is_settled (φ (at t)) && mem top (line_of b t)) (entry_of h e a (h.bearer t) ∷ []) []
unfolding mine entry_of
mine_one S T final φ t top e a l q fin = rw (fin, same_top S T t top l q)

module _ (f : Form) (L : MediumLaws f.geometry f.medium) {s : StateOf f} (S : Sound f s) {h : History} {root : ℕ → Root} (T : Table s.bearer h root)
    (φ' : Root → Root) (on_lost : φ' lost ≡ lost) (final : ℕ → Bool) (top : ℕ) (line : line_of s.bearer top ≡ top ∷ []) (part : List Entry) where
  -- the entry of t's event; those of it that are top's own
  abbrev pub own : ℕ → Event → Answer → List Entry
  own t e a = mine final (h.bearer top) (entry_of h e a (h.bearer t) ∷ [])

  -- who isn't picked is another
  apart : (φ : Root → Root) (t j : ℕ) → sv f φ s top t ≡ false → sv f φ s top j ≡ true → j ≢ t
  apart φ t j z e q = clash e (ap (sv f φ s top) q ∙ z)

  is_mine : (φ : Root → Root) (t : ℕ) (e : Event) (a : Answer) → live s t ≡ true → final (h.bearer t) ≡ is_settled (φ (at t)) → own t e a ≡ cond (sv f φ s top t) (entry_of h e a (h.bearer t) ∷ []) []
  unfolding live
  is_mine φ t e a l fin = mine_one (rooted_of S) T final φ t top e a l line fin

  guard_of : (φ : Root → Root) (t x : ℕ) → sv f φ s top t ≡ true → has is_lock s.held s.retained x t ≡ true → Guard f φ s x top
  guard_of φ t x z e = record {
    by = t;
    has_it = e;
    lives = settled_of _ (and_left (is_settled (φ (at t))) (mem top (line_of s.bearer t)) z);
    beneath = and_right (is_settled (φ (at t))) (mem top (line_of s.bearer t)) z;
  }

  pub on_lock : (t x : ℕ) (a : Access) → fits f.geometry (lock t x a) ≡ true → refusal f s (lock t x a) ≡ none → final (h.bearer t) ≡ is_settled (φ' (at t))
      → Pending f L φ' h s top part → Pending f L φ' h (locked s t x a) top (part ++ own t (lock t x a) (done 0))
  on_lock t x a fit q fin P =
      let ok = lock_ok f s t x a q in
      choose f L {φ = φ'} {φ' = φ'} {h = h} {h' = h} {s = s} {s' = locked s t x a} {top = top} part (entry_of h (lock t x a) (done 0) (h.bearer t)) _ (sv f φ' s top t) (is_mine φ' t (lock t x a) (done 0) ok.alive fin)
      (λ r G. unfold act finished in guard_act f L S φ' on_lost r top (lock t x a) fit q tt G)
      (λ d l. unfold locked in l)
      (λ z d v n base O M. unfold entry_of locked in follow_lock f L S (sv_live f S φ' top) O M t x a z fit ok (lean_free f L h d s x base.lean (lock_free f s t x a q)))
      (λ z d v n M. unfold locked in reframe f M (λ j. refl) (record {
        line = λ j e. refl;
        held = λ r j e. unfold granted in rw (ne_false j t (apart φ' t j z e), and-false (same r x));
        retained = λ c r j e w. w;
        version = λ r j e. refl;
      }))
      P

  pub on_write : {h₁ : History} (t x o v : ℕ) → fits f.geometry (write t x o v) ≡ true → refusal f s (write t x o v) ≡ none → final (h.bearer t) ≡ is_settled (φ' (at t))
      → Back f L h s h₁ (act f s (write t x o v)).state → Pending f L φ' h s top part → Pending f L φ' h₁ (act f s (write t x o v)).state top (part ++ own t (write t x o v) (done 0))
  on_write {h₁} t x o v fit q fin back P =
      let ok = write_ok f s t x o v q in
      choose f L {φ = φ'} {φ' = φ'} {h = h} {h' = h₁} {s = s} {s' = (act f s (write t x o v)).state} {top = top} part (entry_of h (write t x o v) (done 0) (h.bearer t)) _ (sv f φ' s top t) (is_mine φ' t (write t x o v) (done 0) ok.alive fin)
      (λ r G. unfold act finished in guard_act f L S φ' on_lost r top (write t x o v) fit q tt G)
      back
      (λ z d u n base O M. unfold entry_of act finished wrote in
      follow_write f L S (sv_live f S φ' top) O M t x o v z fit (base.guarded x (guard_of φ' t x z (or_left (is_lock (s.held x t)) (is_lock (s.retained x t)) (unfold holds in ok.held)))) ok)
      (λ z d u n M. unfold act finished wrote in reframe f M (λ j. refl) (record {
        line = λ j e. refl;
        held = λ r j e. refl;
        retained = λ c r j e w. w;
        version = λ r j e. unfold with_version in rw (ne_false j t (apart φ' t j z e));
      }))
      P

  pub on_read : (t x o : ℕ) → fits f.geometry (read t x o) ≡ true → refusal f s (read t x o) ≡ none → final (h.bearer t) ≡ is_settled (φ' (at t))
      → Pending f L φ' h s top part → Pending f L φ' h s top (part ++ own t (read t x o) (done (get_or (visible f s t x) o 0)))
  on_read t x o fit q fin P =
      let ok = read_ok f s t x o q in
      choose f L {φ = φ'} {φ' = φ'} {h = h} {h' = h} {s = s} {s' = s} {top = top} part (entry_of h (read t x o) (done (get_or (visible f s t x) o 0)) (h.bearer t)) _ (sv f φ' s top t) (is_mine φ' t (read t x o) _ ok.alive fin)
      (λ r G. record { guard = G; same_now = refl })
      (λ d l. l)
      (λ z d u n base O M. unfold entry_of in
      follow_read f L S (sv_live f S φ' top) O M t x o z fit (base.guarded x (guard_of φ' t x z (or_left (is_lock (s.held x t)) (is_lock (s.retained x t)) (unfold holds in ok.held)))) ok)
      (λ z d u n M. M)
      P

  -- x and those beneath it end: none of them survives
  module _ (x : ℕ) (w : Bool) where
    abbrev φ : Root → Root
    φ c = φ' (lose (λ j. mem x (line_of s.bearer j)) c)

    abbrev s₁ : StateOf f
    s₁ = aborted s x w (line_of s.bearer x)

    dead_sv : (j : ℕ) → mem x (line_of s.bearer j) ≡ true → sv f φ s top j ≡ false
    dead_sv j m = rw (m, on_lost)

    live_sv : (j : ℕ) → sv f φ s top j ≡ true → mem x (line_of s.bearer j) ≡ false
    live_sv j e = refute (mem x (line_of s.bearer j)) (λ m. clash e (dead_sv j m))

    line_is : (j : ℕ) → line_of s₁.bearer j ≡ cond (mem x (line_of s.bearer j)) [] (line_of s.bearer j)
    unfolding aborted retaining ended
    line_is j = ended_line (rooted_of S) (λ j. mem x (line_of s.bearer j)) (beneath_closed S x) j

    same_sv : (j : ℕ) → Is (mem x (line_of s.bearer j)) → sv f φ' s₁ top j ≡ sv f φ s top j
    same_sv j (yes' m) = rw (dead_sv j m, line_is j, m) (unfold mem in and-false (is_settled (φ' (at j))))
    same_sv j (no' m) = rw (line_is j, m)

    pub on_abort : {h₁ : History} → fits f.geometry (abort x w) ≡ true → refusal f s (abort x w) ≡ none → final (h.bearer x) ≡ is_settled (φ (at x)) → Back f L h s h₁ s₁ → Pending f L φ h s top part
        → Pending f L φ' h₁ s₁ top (part ++ own x (abort x w) (done 0))
    on_abort {h₁} fit q fin back P =
        let alive = (abort_ok f s x w q).alive in
        choose f L {φ = φ} {φ' = φ'} {h = h} {h' = h₁} {s = s} {s' = s₁} {top = top} part (entry_of h (abort x w) (done 0) (h.bearer x)) _ (sv f φ s top x) (is_mine φ x (abort x w) (done 0) alive fin)
        (λ r G. unfold act finished in guard_act f L S φ' on_lost r top (abort x w) fit q tt G)
        back
        (λ z. clash z (dead_sv x (own_line S x alive)))
        (λ z d v n M. reframe f M (λ j. same_sv j (is_cases (mem x (line_of s.bearer j)))) (record {
          line = λ j e. line_is j ∙ rw (live_sv j e);
          held = λ r j e. unfold aborted retaining ended discarded in rw (live_sv j e);
          retained = λ c r j e k. unfold aborted retaining ended discarded in rw (live_sv j e) (reported_keeps (barring c) x w (line_of s.bearer x) s.held s.retained r j k);
          version = λ r j e. unfold aborted retaining ended dropped in rw (live_sv j e);
        }))
        P

  -- a commit of x, which has no live child
  module _ (x : ℕ) (ok : CommitOk s x) where
    line_left : (j : ℕ) → j ≢ x → line_of (λ z. cond (same z x) free (s.bearer z)) j ≡ line_of s.bearer j
    line_left j n = ended_line (rooted_of S) (λ z. same z x) (alone_closed S x ok) j ∙ rw (ne_false j x n)

    line_gone : line_of (λ z. cond (same z x) free (s.bearer z)) x ≡ []
    line_gone = ended_line (rooted_of S) (λ z. same z x) (alone_closed S x ok) x ∙ rw (same_refl x)

    -- into its parent y
    module _ (a y : ℕ) (l : List ℕ) (line_x : line_of s.bearer x ≡ a ∷ y ∷ l) where
      abbrev ψ : Root → Root
      ψ c = φ' (move x (at y) c)

      abbrev s₂ : StateOf f
      s₂ = ended (passed s x y) (λ j. same j x) s.store

      C : ChildOf s.bearer x y
      C = child_line S x a y l line_x

      two : y ≢ x
      two e = C.two (sym e)

      not_x : top ≢ x
      not_x q = absurd (omega (arith, ap length (sym line ∙ ap (line_of s.bearer) q ∙ line_x)))

      gone_x : sv f φ' s₂ top x ≡ false
      unfolding ended passed mem
      gone_x = rw line_gone (and-false (is_settled (φ' (at x))))

      as_before : (j : ℕ) → j ≢ x → sv f φ' s₂ top j ≡ sv f ψ s top j
      unfolding ended passed
      as_before j n = rw (line_left j n, ne_false j x n)

      -- x and its parent go the same way
      alike : sv f ψ s top x ≡ sv f ψ s top y
      unfolding mem
      alike = rw (C.under, same_refl x, ne_false y x two, ne_false top x not_x)

      first_x : line_of s.bearer x ≡ x ∷ y ∷ l
      first_x = line_x ∙ ap (λ (b : ℕ). b ∷ y ∷ l) (heads C.under)
        where
          heads : line_of s.bearer x ≡ x ∷ line_of s.bearer y → a ≡ x
          heads e = let z : a ∷ y ∷ l ≡ x ∷ line_of s.bearer y = sym line_x ∙ e in cc

      pub on_child : {h₁ : History} (k : ℕ) → final (h.bearer x) ≡ is_settled (ψ (at x)) → Guards f ψ s φ' s₂ top → Back f L h s h₁ s₂ → Pending f L ψ h s top part
          → Pending f L φ' h₁ s₂ top (part ++ own x (commit x k) (done 0))
      on_child {h₁} k fin N back P =
          choose f L {φ = ψ} {φ' = φ'} {h = h} {h' = h₁} {s = s} {s' = s₂} {top = top} part (entry_of h (commit x k) (done 0) (h.bearer x)) _ (sv f ψ s top x) (is_mine ψ x (commit x k) (done 0) ok.alive fin) N back
          (λ z d v n base O M. unfold entry_of in follow_child f L S (sv_live f S ψ top) O M x z ok y l (sym alike ∙ z) two first_x (sv f φ' s₂ top) gone_x as_before k)
          (λ z d v n M. reframe f M (λ j. go z j (same_cases j x)) (record {
            line = λ j e. unfold ended passed in line_left j (apart ψ x j z e);
            held = λ r j e. unfold ended passed discarded in rw (ne_false j x (apart ψ x j z e));
            retained = λ c r j e w. unfold ended passed discarded in rw (ne_false j x (apart ψ x j z e)) (inherited_keeps (barring c) x y s.held s.retained r j w);
            version = λ r j e. unfold ended passed dropped handed_up in rw (ne_false j x (apart ψ x j z e), ne_false j y (apart ψ y j (sym alike ∙ z) e));
          }))
          P
        where
          go : sv f ψ s top x ≡ false → (j : ℕ) → Same j x → sv f φ' s₂ top j ≡ sv f ψ s top j
          go z j (isnt q a _) = as_before j q
          go z j (is q a _) = rw q (gone_x ∙ sym z)

    -- another top transaction ends
    module _ (line_x : line_of s.bearer x ≡ x ∷ []) (n : top ≢ x) (c : f.medium.Store) (t : Root) where
      abbrev χ : Root → Root
      χ d = φ' (move x t d)

      abbrev s₃ : StateOf f
      s₃ = ended s (λ j. same j x) c

      other : sv f χ s top x ≡ false
      unfolding mem
      other = rw (line_x, ne_false top x n) (and-false (is_settled (χ (at x))))

      pub on_top : {h₁ : History} (e : Event) (v : ℕ) → final (h.bearer x) ≡ is_settled (χ (at x)) → Guards f χ s φ' s₃ top → Back f L h s h₁ s₃ → Pending f L χ h s top part
          → Pending f L φ' h₁ s₃ top (part ++ own x e (done v))
      on_top {h₁} ev v fin N back P =
          choose f L {φ = χ} {φ' = φ'} {h = h} {h' = h₁} {s = s} {s' = s₃} {top = top} part (entry_of h ev (done v) (h.bearer x)) _ (sv f χ s top x) (is_mine χ x ev (done v) ok.alive fin) N back
          (λ z. clash z other)
          (λ z d u m M. reframe f M (λ j. go j (same_cases j x)) (record {
            line = λ j e. unfold ended in line_left j (apart χ x j z e);
            held = λ r j e. unfold ended discarded in rw (ne_false j x (apart χ x j z e));
            retained = λ c r j e w. unfold ended discarded in rw (ne_false j x (apart χ x j z e)) w;
            version = λ r j e. unfold ended dropped in rw (ne_false j x (apart χ x j z e));
          }))
          P
        where
          go : (j : ℕ) → Same j x → sv f φ' s₃ top j ≡ sv f χ s top j
          go j (isnt q a _) = unfold ended in rw (line_left j q, a)
          go j (is q a _) = unfold ended mem in rw (q, other, line_gone) (and-false (is_settled (φ' (at x))))

-- a begin of t under p: top may be t itself
module _ (f : Form) (L : MediumLaws f.geometry f.medium) {s : StateOf f} (S : Sound f s) (φ' : Root → Root) (on_lost : φ' lost ≡ lost) (final : ℕ → Bool) (top p : ℕ)
    (fit : fits f.geometry (begin p) ≡ true) (q : refusal f s (begin p) ≡ none) where
  abbrev t : ℕ
  t = first_free s

  abbrev s₄ : StateOf f
  s₄ = begun s t p

  ok : BeginOk f s p
  ok = begin_ok f s p q

  pub on_begin : Sound f s₄ → {h h₁ : History} {root₁ : ℕ → Root} → Table s₄.bearer h₁ root₁ → Fair (line_of s₄.bearer) φ' → line_of s₄.bearer top ≡ top ∷ []
      → final (h₁.bearer t) ≡ is_settled (φ' (at t)) → (part : List Entry) → Back f L h s h₁ s₄ → Pending f L φ' h s top part
      → Pending f L φ' h₁ s₄ top (part ++ mine final (h₁.bearer top) (entry_of h₁ (begin p) (done t) (h₁.bearer t) ∷ []))
  on_begin S₁ {h} {h₁} {root₁} T₁ F line fin part back P =
      choose f L {φ = φ'} {φ' = φ'} {h = h} {h' = h₁} {s = s} {s' = s₄} {top = top} part (entry_of h₁ (begin p) (done t) (h₁.bearer t)) _ (sv f φ' s₄ top t) (mine_one (rooted_of S₁) T₁ final φ' t top (begin p) (done t) (unfold live in now_live) line fin)
      (λ r G. unfold act finished in guard_act f L S φ' on_lost r top (begin p) fit q tt G)
      back
      (λ z d v n base O M. unfold entry_of in follow_begin f L S (sv_live f S φ' top) O M p t (sv f φ' s₄ top) ok.unborne ok.small ok.room (parent z) z old)
      (λ z d v n M. reframe f M (λ j. go z j (same_cases j t)) (record {
        line = λ j e. same_line j (λ w. clash (sv_live f S φ' top j e) (ap (live s) w ∙ ok.unborne));
        held = λ r j e. unfold begun in refl;
        retained = λ c r j e w. unfold begun in w;
        version = λ r j e. unfold begun in refl;
      }))
      P
    where
      now_live : live s₄ t ≡ true
      now_live = live_begun s t p t ∙ rw (same_refl t)

      same_line : (j : ℕ) → j ≢ t → line_of s₄.bearer j ≡ line_of s.bearer j
      same_line j n = unfold begun live in begun_line (rooted_of S) t p ok.unborne j ∙ rw (ne_false j t n)

      line_t : line_of s₄.bearer t ≡ t ∷ line_of s.bearer p
      line_t = unfold begun live in begun_line (rooted_of S) t p ok.unborne t ∙ rw (same_refl t)

      old : (j : ℕ) → j ≢ t → sv f φ' s₄ top j ≡ sv f φ' s top j
      old j n = rw (same_line j n)

      go : sv f φ' s₄ top t ≡ false → (j : ℕ) → Same j t → sv f φ' s₄ top j ≡ sv f φ' s top j
      go z j (isnt n k _) = old j n
      go z j (is n k _) = rw n (z ∙ sym (refute (sv f φ' s top t) (λ e. clash (sv_live f S φ' top t e) ok.unborne)))

      parent : sv f φ' s₄ top t ≡ true → (p ≡ nobody) ⊎ (sv f φ' s top p ≡ true)
      parent z = by ok.parent
        where
          one : (m : List ℕ) → t ∷ m ≡ top ∷ [] → m ≡ []
          one [] e = refl
          one (x ∷ m) e = absurd (omega (arith, ap length e))

          up_to : live s p ≡ true → sv f φ' s top p ≡ true
          up_to k = unfold mem in
              let on_it = own_line S p k in
              let sp = F.upward t p (rw (line_t, on_it) (or-true (same p t))) (settled_of _ (and_left (is_settled (φ' (at t))) (mem top (line_of s₄.bearer t)) z)) in
              let m : mem top (t ∷ line_of s.bearer p) ≡ true = rw line_t at (and_right (is_settled (φ' (at t))) (mem top (line_of s₄.bearer t)) z) in
              rw sp (or_cases (same top t) (mem top (line_of s.bearer p)) m
              (λ w. absurd (false≢true (sym (ap is_cons (one (line_of s.bearer p) (sym line_t ∙ ap (line_of s₄.bearer) (sym (same-eq top t w)) ∙ line))) ∙ sym (live_line S p) ∙ k)))
              (λ w. w))

          by : (p ≡ nobody) ⊎ (live s p ≡ true) → (p ≡ nobody) ⊎ (sv f φ' s top p ≡ true)
          by (inl k) = inl k
          by (inr k) = inr (up_to k)
