-- The lock law where a transaction ends, alone or with all beneath it, and where all end.
use mathlib.Core.Path.{◌≡◌, refl, sym, ap, ◌∙◌}
use mathlib.Core.Bool.{Bool, true, false, not, cond, ◌&&◌, and-false}
use mathlib.Core.List.{List}
use mathlib.Core.Logic.{◌≢◌}
use Prim.Native.Nat.{ℕ}
use Rattle.laws.specs.Tests.{same}
use Rattle.laws.specs.Functions.{updated}
use Rattle.laws.proofs.Tests.{same_cases, Same, is, isnt, same_refl, ne_false, Is, is_cases, yes', no'}
use Rattle.laws.proofs.Booleans.{clash}
use Rattle.rules.specs.State.{Bearers, is_active, nothing, Modes}
use Rattle.rules.specs.Locks.{inherited, discarded}
use Rattle.history.specs.History.{Fate, bearing, committed, stored, waiting, ended, History, is_bearing, turned, ending, all_ending}
use Rattle.history.proofs.Roots.{Root, lost, at, move, lose, all_lost}
use Rattle.history.proofs.Table.{Table, bearing≢, bearer_one}
use Rattle.audit_rules.specs.Plain.{Grant}
use Rattle.audit_rules.proofs.Picked.{locks_of-none, locks_of-pick}
use Rattle.audit_rules.proofs.Locking.{bears, stand, Locking, live_stands, ended_locking}
use Rattle.audit_rules.proofs.Handed.{at_lose, lose_retains, hand_retains}

-- all end
module _ {h : History} {passed : ℕ → Bool} {gs : List Grant} {held retained : Modes} {lroot : ℕ → Root} (K : Locking h passed gs held retained lroot) where
  push : (q : Bool) (c : Root) → all_lost (cond q c lost) ≡ cond q (all_lost c) lost
  push true c = refl
  push false c = refl

  all_one : (i : ℕ) (c : Fate) → h.fate i ≡ c → all_lost (stand (lroot (h.parent i)) (passed i) c) ≡ stand (all_lost (lroot (h.parent i))) (passed i) (turned true ended c)
  unfolding turned
  all_one i (bearing t) q = rw (K.kept i t q)
  all_one i committed q = push (passed i) _
  all_one i stored q = push (passed i) _
  all_one i waiting q = push (passed i) _
  all_one i ended q = push (passed i) _

  all-kept : (t : ℕ) (c : Fate) → turned true ended c ≡ bearing t → ⊥
  unfolding turned is_bearing
  all-kept t (bearing u) e = bearing≢ refl e
  all-kept t committed e = bearing≢ refl e
  all-kept t stored e = bearing≢ refl e
  all-kept t waiting e = bearing≢ refl e
  all-kept t ended e = bearing≢ refl e

  all_bears : (t : ℕ) (c : Fate) → bears t (turned true ended c) ≡ false
  unfolding turned
  all_bears t (bearing u) = refl
  all_bears t committed = refl
  all_bears t stored = refl
  all_bears t waiting = refl
  all_bears t ended = refl

  pub all_locking : Locking (all_ending h) passed gs (λ r t. nothing) (λ r t. nothing) (λ i. all_lost (lroot i))
  unfolding all_ending ending
  all_locking = record {
    one = λ i. ap all_lost (K.one i) ∙ all_one i (h.fate i) refl;
    kept = λ i t e. absurd (all-kept t (h.fate i) e);
    origin = K.origin;
    unpassed = K.unpassed;
    fresh = K.fresh;
    holds = λ G r t. G.fails ∙ sym (locks_of-pick G.test r gs (λ i. all_bears t (h.fate i)) ∙ locks_of-none G.test r gs);
    retains = λ G r t. G.fails ∙ sym (locks_of-pick G.test r gs (λ i. ap (λ z. not (is_bearing (turned true ended (h.fate i))) && z) (at_lose (λ a. true) t (lroot i)) ∙ and-false (not (is_bearing (turned true ended (h.fate i))))) ∙ locks_of-none G.test r gs);
  }

-- x ends, with those that `dead` picks by number and `who` by transaction; its own locks go up where w says so
module _ {b : Bearers} {h : History} {root : ℕ → Root} (T : Table b h root) {passed : ℕ → Bool} {gs : List Grant} {held retained : Modes} {lroot : ℕ → Root}
    (K : Locking h passed gs held retained lroot)
    (x : ℕ) (alive : is_active (b x) ≡ true) (w : Bool)
    (dead who : ℕ → Bool) (new : Fate) (picks : (t : ℕ) → is_active (b t) ≡ true → who (h.bearer t) ≡ dead t) (over : is_bearing new ≡ false) (hit : dead x ≡ true) where
  abbrev passed' : ℕ → Bool
  passed' = updated (h.bearer x) w passed

  other_passed : (i : ℕ) → is_bearing (h.fate i) ≡ false → passed' i ≡ passed i
  unfolding updated is_bearing
  other_passed i e = rw (ne_false i (h.bearer x) (λ q. clash (ap is_bearing (ap h.fate q ∙ T.bears x alive)) e))

  left_passed : (i : ℕ) → who i ≡ false → passed' i ≡ passed i
  unfolding updated
  left_passed i e = rw (ne_false i (h.bearer x) (λ q. clash (ap who q ∙ picks x alive ∙ hit) e))

  passed_own : passed' (h.bearer x) ≡ w
  unfolding updated
  passed_own = rw (same_refl (h.bearer x))

  passed_rest : (t : ℕ) → is_active (b t) ≡ true → t ≢ x → passed' (h.bearer t) ≡ false
  unfolding updated
  passed_rest t e n = rw (ne_false (h.bearer t) (h.bearer x) (λ q. n (bearer_one T t x e alive q))) (K.kept (h.bearer t) t (T.bears t e))

  -- all is discarded: nothing goes up, or it goes to nobody
  module _ (nowhere : w ≡ true → lroot (h.parent (h.bearer x)) ≡ lost) where
    lose_goes : (t : ℕ) → is_active (b t) ≡ true → dead t ≡ true → lose dead (at t) ≡ cond (passed' (h.bearer t)) (lose dead (lroot (h.parent (h.bearer t)))) lost
    lose_goes t e d = rw d (go (same_cases t x) (is_cases w))
      where
        go : Same t x → Is w → lost ≡ cond (passed' (h.bearer t)) (lose dead (lroot (h.parent (h.bearer t)))) lost
        go (is q s _) (yes' k) = rw (q, passed_own, k, nowhere k)
        go (is q s _) (no' k) = rw (q, passed_own, k)
        go (isnt q s _) k = rw (passed_rest t e q)

    pub discard_locking : Locking (ending who new h) passed' gs (discarded dead held) (discarded dead retained) (λ i. lose dead (lroot i))
    discard_locking = ended_locking T K dead who new passed' (lose dead) picks over other_passed left_passed refl (λ t d. rw d) lose_goes (discarded dead retained)
        (lose_retains T K dead who new picks over)

  -- its parent y has them
  module _ (y : ℕ) (on : is_active (b y) ≡ true) (left : dead y ≡ false) (up : w ≡ true) (parent : h.parent (h.bearer x) ≡ h.bearer y) where
    abbrev hands : Root → Root
    hands c = lose dead (move x (at y) c)

    y_x : same y x ≡ false
    y_x = ne_false y x (λ q. clash hit (ap dead (sym q) ∙ left))

    hands_stay : (t : ℕ) → dead t ≡ false → hands (at t) ≡ at t
    hands_stay t d = rw (ne_false t x (λ q. clash hit (ap dead (sym q) ∙ d)), d)

    hands_go : (t : ℕ) → is_active (b t) ≡ true → dead t ≡ true → hands (at t) ≡ cond (passed' (h.bearer t)) (hands (lroot (h.parent (h.bearer t)))) lost
    hands_go t e d = go (same_cases t x)
      where
        go : Same t x → hands (at t) ≡ cond (passed' (h.bearer t)) (hands (lroot (h.parent (h.bearer t)))) lost
        go (is q s _) = rw (q, passed_own, up, parent, live_stands T K (h.bearer y) y (T.bears y on), same_refl x, y_x, left)
        go (isnt q s _) = rw (passed_rest t e q, s, d)

    pub hand_locking : Locking (ending who new h) passed' gs (discarded dead held) (discarded dead (inherited x y held retained)) (λ i. hands (lroot i))
    hand_locking = ended_locking T K dead who new passed' hands picks over other_passed left_passed refl hands_stay hands_go (discarded dead (inherited x y held retained))
        (hand_retains T K dead who new picks over x y hit left)
