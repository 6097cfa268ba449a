-- What is retained after transactions end: their locks are discarded; or one of them hands its own to its parent, and the rest are discarded.
use mathlib.Core.Path.{◌≡◌, refl, sym, ap, ◌∙◌}
use mathlib.Core.Bool.{Bool, true, false, not, cond, ◌&&◌, ◌||◌, and-false}
use mathlib.Core.List.{List}
use mathlib.Core.Logic.{◌≢◌}
use Prim.Native.Nat.{ℕ}
use Rattle.laws.specs.Tests.{same}
use Rattle.laws.proofs.Tests.{same_cases, Same, is, isnt, same_refl, ne_false, Is, is_cases, yes', no'}
use Rattle.laws.proofs.Booleans.{clash}
use Rattle.rules.specs.State.{Bearers, is_active, Mode, nothing, stronger, Modes}
use Rattle.rules.specs.Locks.{inherited, discarded}
use Rattle.rules.proofs.Grades.{Grade}
use Rattle.history.specs.History.{Fate, bearing, committed, stored, waiting, ended, History, is_bearing, turned}
use Rattle.history.proofs.Roots.{Root, settled, lost, waiting as awaiting, at, is_at, move, lose, moved_to, moved_past}
use Rattle.history.proofs.Table.{Table}
use Rattle.audit_rules.specs.Plain.{Grant, locks_of}
use Rattle.audit_rules.proofs.Picked.{locks_of-or, locks_of-none, locks_of-pick}
use Rattle.audit_rules.proofs.Locking.{bears, Locking, live_stands}

or_three : (a b : Bool) → (a || b) ≡ (b || (false || a))
or_three true true = refl
or_three true false = refl
or_three false true = refl
or_three false false = refl

-- what stands with those that `dead` picks is lost
pub at_lose : (dead : ℕ → Bool) (t : ℕ) (c : Root) → is_at t (lose dead c) ≡ (not (dead t) && is_at t c)
at_lose dead t settled = sym (and-false (not (dead t)))
at_lose dead t lost = sym (and-false (not (dead t)))
at_lose dead t awaiting = sym (and-false (not (dead t)))
at_lose dead t (at a) = go (is_cases (dead a)) (same_cases a t)
  where
    go : Is (dead a) → Same a t → is_at t (cond (dead a) lost (at a)) ≡ (not (dead t) && same a t)
    go (yes' d) (is z s _) = rw (d, ← z, d)
    go (yes' d) (isnt z s _) = rw (d, s, and-false)
    go (no' d) (is z s _) = rw (d, ← z, d)
    go (no' d) (isnt z s _) = rw (d, s, and-false)

module _ {b : Bearers} {h : History} {root : ℕ → Root} (T : Table b h root) {passed : ℕ → Bool} {gs : List Grant} {held retained : Modes} {lroot : ℕ → Root}
    (K : Locking h passed gs held retained lroot)
    (dead who : ℕ → Bool) (new : Fate) (picks : (t : ℕ) → is_active (b t) ≡ true → who (h.bearer t) ≡ dead t) (over : is_bearing new ≡ false) where
  -- retained by t after, as the label says that the locks of i then have
  abbrev rests : ℕ → ℕ → Fate → Root → Bool
  rests t i c x = not (is_bearing (turned (who i) new c)) && is_at t x

  -- one that was live: it is dead, and its label counts; or it is live still, and retains nothing by itself
  from_live : (t i u : ℕ) (x : Root) → h.fate i ≡ bearing u → rests t i (bearing u) x ≡ (dead u && is_at t x)
  unfolding turned is_bearing
  from_live t i u x q = rw (← (T.who i u q).0, picks u (T.who i u q).1) (go (is_cases (dead u)))
    where
      go : Is (dead u) → (not (is_bearing (cond (dead u) new (bearing u))) && is_at t x) ≡ (dead u && is_at t x)
      go (yes' d) = rw (d, over)
      go (no' d) = rw d

  -- discarded
  lose_rests : (t i : ℕ) (c : Fate) → h.fate i ≡ c → rests t i c (lose dead (lroot i)) ≡ (not (dead t) && (not (is_bearing c) && is_at t (lroot i)))
  unfolding turned is_bearing
  lose_rests t i (bearing u) q = from_live t i u (lose dead (lroot i)) q ∙ rw (and-false (not (dead t)), live_stands T K i u q) (go (is_cases (dead u)))
    where
      go : Is (dead u) → (dead u && is_at t (cond (dead u) lost (at u))) ≡ false
      go (yes' d) = rw d
      go (no' d) = rw d
  lose_rests t i committed q = at_lose dead t (lroot i)
  lose_rests t i stored q = at_lose dead t (lroot i)
  lose_rests t i waiting q = at_lose dead t (lroot i)
  lose_rests t i ended q = at_lose dead t (lroot i)

  pub lose_retains : (G : Grade) (r t : ℕ) → G.test (discarded dead retained r t) ≡ locks_of G.test (λ i. rests t i (h.fate i) (lose dead (lroot i))) r gs
  unfolding discarded
  lose_retains G r t = go (is_cases (dead t))
    where
      go : Is (dead t) → G.test (cond (dead t) nothing (retained r t)) ≡ locks_of G.test (λ i. rests t i (h.fate i) (lose dead (lroot i))) r gs
      go (yes' d) = rw d (G.fails ∙ sym (locks_of-none G.test r gs) ∙ locks_of-pick G.test r gs (λ i. sym (lose_rests t i (h.fate i) refl ∙ rw d)))
      go (no' d) = rw d (K.retains G r t ∙ locks_of-pick G.test r gs (λ i. sym (lose_rests t i (h.fate i) refl ∙ rw d)))

  -- x hands its locks to y, which lives on
  module _ (x y : ℕ) (gone : dead x ≡ true) (left : dead y ≡ false) where
    abbrev hands : Root → Root
    hands c = lose dead (move x (at y) c)

    hands_at : (t : ℕ) (c : Root) → dead t ≡ false → is_at t (hands c) ≡ is_at t (move x (at y) c)
    hands_at t c d = at_lose dead t (move x (at y) c) ∙ rw d

    -- y retains what it retained, and what x held and retained
    to_parent : (i : ℕ) (c : Fate) → h.fate i ≡ c
        → rests y i c (hands (lroot i)) ≡ ((not (is_bearing c) && is_at y (lroot i)) || (bears x c || (not (is_bearing c) && is_at x (lroot i))))
    unfolding turned is_bearing
    to_parent i (bearing u) q = from_live y i u (hands (lroot i)) q ∙ rw (live_stands T K i u q) (go (is_cases (dead u)) (same_cases u x))
      where
        go : Is (dead u) → Same u x → (dead u && is_at y (hands (at u))) ≡ (same u x || false)
        go (yes' d) (is z s _) = rw (d, s, left, same_refl y)
        go (yes' d) (isnt z s _) = rw (d, s, d)
        go (no' d) (is z s _) = clash (ap dead z ∙ gone) d
        go (no' d) (isnt z s _) = rw (d, s)
    to_parent i committed q = hands_at y (lroot i) left ∙ sym (moved_to y x (lroot i)) ∙ or_three (is_at x (lroot i)) (is_at y (lroot i))
    to_parent i stored q = hands_at y (lroot i) left ∙ sym (moved_to y x (lroot i)) ∙ or_three (is_at x (lroot i)) (is_at y (lroot i))
    to_parent i waiting q = hands_at y (lroot i) left ∙ sym (moved_to y x (lroot i)) ∙ or_three (is_at x (lroot i)) (is_at y (lroot i))
    to_parent i ended q = hands_at y (lroot i) left ∙ sym (moved_to y x (lroot i)) ∙ or_three (is_at x (lroot i)) (is_at y (lroot i))

    -- another retains what it retained
    to_other : (t i : ℕ) (c : Fate) → t ≢ y → dead t ≡ false → h.fate i ≡ c → rests t i c (hands (lroot i)) ≡ (not (is_bearing c) && is_at t (lroot i))
    unfolding turned is_bearing
    to_other t i (bearing u) n d q = from_live t i u (hands (lroot i)) q ∙ rw (live_stands T K i u q) (go (is_cases (dead u)) (same_cases u x))
      where
        go : Is (dead u) → Same u x → (dead u && is_at t (hands (at u))) ≡ false
        go (yes' k) (is z s _) = rw (k, s, left) (ne_false y t (λ w. n (sym w)))
        go (yes' k) (isnt z s _) = rw (k, s, k)
        go (no' k) w = rw k
    to_other t i committed n d q = hands_at t (lroot i) d ∙ sym (moved_past t x (at y) (lroot i) (λ z. clash (ap dead z ∙ gone) d) (ne_false y t (λ w. n (sym w))))
    to_other t i stored n d q = hands_at t (lroot i) d ∙ sym (moved_past t x (at y) (lroot i) (λ z. clash (ap dead z ∙ gone) d) (ne_false y t (λ w. n (sym w))))
    to_other t i waiting n d q = hands_at t (lroot i) d ∙ sym (moved_past t x (at y) (lroot i) (λ z. clash (ap dead z ∙ gone) d) (ne_false y t (λ w. n (sym w))))
    to_other t i ended n d q = hands_at t (lroot i) d ∙ sym (moved_past t x (at y) (lroot i) (λ z. clash (ap dead z ∙ gone) d) (ne_false y t (λ w. n (sym w))))

    -- a dead one retains nothing
    to_dead : (t i : ℕ) → dead t ≡ true → rests t i (h.fate i) (hands (lroot i)) ≡ false
    to_dead t i d = rw (at_lose dead t (move x (at y) (lroot i)), d, and-false)

    three : (test : Mode → Bool) (r : ℕ) (p q k : ℕ → Bool) → locks_of test (λ i. p i || (q i || k i)) r gs ≡ (locks_of test p r gs || (locks_of test q r gs || locks_of test k r gs))
    three test r p q k = locks_of-or test p (λ i. q i || k i) r gs ∙ ap (λ z. locks_of test p r gs || z) (locks_of-or test q k r gs)

    parent_retains : (G : Grade) (r : ℕ) → G.test (stronger (retained r y) (stronger (held r x) (retained r x))) ≡ locks_of G.test (λ i. rests y i (h.fate i) (hands (lroot i))) r gs
    parent_retains G r =
        G.either (retained r y) (stronger (held r x) (retained r x)) ∙ rw (G.either (held r x) (retained r x), K.retains G r y, K.retains G r x, K.holds G r x)
        (sym (locks_of-pick G.test r gs (λ i. to_parent i (h.fate i) refl)
        ∙ three G.test r (λ i. not (is_bearing (h.fate i)) && is_at y (lroot i)) (λ i. bears x (h.fate i)) (λ i. not (is_bearing (h.fate i)) && is_at x (lroot i))))

    pub hand_retains : (G : Grade) (r t : ℕ) → G.test (discarded dead (inherited x y held retained) r t) ≡ locks_of G.test (λ i. rests t i (h.fate i) (hands (lroot i))) r gs
    unfolding discarded inherited
    hand_retains G r t = go (is_cases (dead t)) (same_cases t y)
      where
        go : Is (dead t) → Same t y
            → G.test (cond (dead t) nothing (cond (same t y) (stronger (retained r y) (stronger (held r x) (retained r x))) (retained r t))) ≡ locks_of G.test (λ i. rests t i (h.fate i) (hands (lroot i))) r gs
        go (yes' d) w = rw d (G.fails ∙ sym (locks_of-none G.test r gs) ∙ locks_of-pick G.test r gs (λ i. sym (to_dead t i d)))
        go (no' d) (is z s _) = rw (d, s, z) (parent_retains G r)
        go (no' d) (isnt z s _) = rw (d, s) (K.retains G r t ∙ locks_of-pick G.test r gs (λ i. sym (to_other t i (h.fate i) z d refl)))
