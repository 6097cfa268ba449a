-- The locks, each by itself and with each transaction's share, are right exactly if holders, retainers and versions are as soundness asks.
use mathlib.Core.Path.{◌≡◌, sym, ap, ap₂, ◌∙◌}
use mathlib.Core.Bool.{Bool, true, not, ◌||◌, true≢false, not-not}
use mathlib.Core.List.{List}
use mathlib.Core.Logic.{dite}
use native.Mathlib.Decide.{dec_lt}
use native.Mathlib.Omega.{arith}
use Prim.Native.Nat.{ℕ, ◌+◌, ◌*◌, ◌<◌}
use lib.ListN.{length, get_or}
use Rattle.laws.specs.Tests.{same}
use Rattle.laws.proofs.Tests.{same-eq, same_refl}
use Rattle.laws.proofs.Booleans.{or_cases, or_left, or_right}
use Rattle.rules.specs.State.{is_active, line_of, mem, live, holds, retains, holds_writing, retains_writing}
use Rattle.rules.specs.Sound.{Sound, in_line}
use Rattle.rules.specs.Form.{Form}
use Rattle.leaf_set.specs.Sets.{sets}
use Rattle.leaf_set.proofs.Sets.{sets_past}
use Rattle.state_array.specs.View.{bearers_of, any_mode, write_mode, Nested}
use Rattle.state_array.proofs.View.{free_is, deep_is, some_is}
use Rattle.state_array.proofs.Modes.{lock_is, writing_is}
use Rattle.sound_clause.specs.Clauses.{TableEntry, Locks, ShareOf, Shares, sharing, Lined}
use Rattle.state_whole.specs.Whole.{arrays, view}

-- a set that isn't empty is one of the array's
pub in_range : (words : List ℕ) (k t : ℕ) → sets words k t ≡ true → k < length words
in_range words k t e = dite (dec_lt k (length words)) (λ lt. lt) (λ ge. absurd (true≢false (sym e ∙ sets_past words k t (omega arith))))

any_range : (words : List ℕ) (r t : ℕ) → length words ≡ 32 → any_mode (sets words) r t ≡ true → r < 16
unfolding any_mode
any_range words r t long e = let h = in_range words (2 * r) t e in omega arith

write_range : (words : List ℕ) (r t : ℕ) → length words ≡ 32 → write_mode (sets words) r t ≡ true → r < 16
unfolding write_mode
write_range words r t long e = let h = in_range words (2 * r + 1) t e in omega arith

-- a depth that isn't 0 tells a live transaction
abbrev pub living : List ℕ → ℕ → Bool
living depth t = not (same (get_or depth t 0) 0)

live_is : (parent depth : List ℕ) (t : ℕ) → living depth t ≡ is_active (bearers_of parent depth t)
live_is parent depth t = ap not (free_is parent depth t) ∙ not-not (is_active (bearers_of parent depth t))

-- the locks, by modes, over the lines
pub record Locked (parent depth held retained writers : List ℕ) : Type 0 where
  pub holder_live : (r t : ℕ) → any_mode (sets held) r t ≡ true → is_active (bearers_of parent depth t) ≡ true
  pub retainer_live : (r t : ℕ) → any_mode (sets retained) r t ≡ true → is_active (bearers_of parent depth t) ≡ true
  pub held_nested : Nested (sets held)
  pub retained_nested : Nested (sets retained)
  pub on_one_line : (r t u : ℕ) → write_mode (sets retained) r t ≡ true → any_mode (sets retained) r u ≡ true → in_line (bearers_of parent depth) t u ≡ true
  pub beneath : (r t u : ℕ) → any_mode (sets held) r t ≡ true → write_mode (sets retained) r u ≡ true → mem u (line_of (bearers_of parent depth) t) ≡ true
  pub one_holder : (r t u : ℕ) → write_mode (sets held) r t ≡ true → any_mode (sets held) r u ≡ true → t ≡ u
  pub beneath_writing : (r t u : ℕ) → write_mode (sets held) r t ≡ true → any_mode (sets retained) r u ≡ true → mem u (line_of (bearers_of parent depth) t) ≡ true
  pub by_lock : (t r : ℕ) → sets writers r t ≡ true → (write_mode (sets held) r t || write_mode (sets retained) r t) ≡ true

module _ (parent depth line held retained writers : List ℕ) (lines : sets line ≡ (λ t u. mem u (line_of (bearers_of parent depth) t))) where
  on : (t u : ℕ) → sets line t u ≡ mem u (line_of (bearers_of parent depth) t)
  on t u = ap (λ (f : ℕ → ℕ → Bool). f t u) lines

  module _ (h : length held ≡ 32) (m : length retained ≡ 32) (w : length writers ≡ 16)
      (C : Locks (living depth) held retained writers) where
    -- whoever is in a set of one lock bears a transaction number
    held_low : (r t : ℕ) → r < 16 → any_mode (sets held) r t ≡ true → t < 24
    held_low r t k e = (C r k).numbered t (or_left _ _ (or_left _ _ (or_left _ _ (or_left _ _ e))))

    held_writing_low : (r t : ℕ) → r < 16 → write_mode (sets held) r t ≡ true → t < 24
    held_writing_low r t k e = (C r k).numbered t (or_left _ _ (or_left _ _ (or_left _ _ (or_right (any_mode (sets held) r t) _ e))))

    retained_low : (r t : ℕ) → r < 16 → any_mode (sets retained) r t ≡ true → t < 24
    retained_low r t k e = (C r k).numbered t (or_left _ _ (or_left _ _ (or_right (any_mode (sets held) r t || write_mode (sets held) r t) _ e)))

    retained_writing_low : (r t : ℕ) → r < 16 → write_mode (sets retained) r t ≡ true → t < 24
    retained_writing_low r t k e = (C r k).numbered t (or_left _ _ (or_right ((any_mode (sets held) r t || write_mode (sets held) r t) || any_mode (sets retained) r t) _ e))

    writers_low : (r t : ℕ) → r < 16 → sets writers r t ≡ true → t < 24
    writers_low r t k e = (C r k).numbered t (or_right (((any_mode (sets held) r t || write_mode (sets held) r t) || any_mode (sets retained) r t) || write_mode (sets retained) r t) _ e)

    held_live : (r t : ℕ) → any_mode (sets held) r t ≡ true → is_active (bearers_of parent depth t) ≡ true
    held_live r t e = let k = any_range held r t h e in sym (live_is parent depth t) ∙ (C r k).holders_live t (held_low r t k e) e

    retained_live : (r t : ℕ) → any_mode (sets retained) r t ≡ true → is_active (bearers_of parent depth t) ≡ true
    retained_live r t e = let k = any_range retained r t m e in sym (live_is parent depth t) ∙ (C r k).retainers_live t (retained_low r t k e) e

    holds_writing_lem : Nested (sets held)
    holds_writing_lem r t e = let k = write_range held r t h e in (C r k).held_nested t (held_writing_low r t k e) e

    retains_writing_lem : Nested (sets retained)
    retains_writing_lem r t e = let k = write_range retained r t m e in (C r k).retained_nested t (retained_writing_low r t k e) e

    -- whoever has a lock is live, and so on its own line
    sharer_live : (r t : ℕ) → sharing held retained r t ≡ true → is_active (bearers_of parent depth t) ≡ true
    unfolding sharing
    sharer_live r t e =
        or_cases _ (write_mode (sets retained) r t) e
        (λ f. or_cases _ (any_mode (sets retained) r t) f
        (λ g. or_cases (any_mode (sets held) r t) (write_mode (sets held) r t) g (held_live r t) (λ i. held_live r t (holds_writing_lem r t i)))
        (retained_live r t))
        (λ f. retained_live r t (retains_writing_lem r t f))

    pub sharers_lined : ((t : ℕ) → TableEntry parent depth line t) → Lined line held retained
    sharers_lined E r k t e =
        ap (λ (f : ℕ → Bool). f t) ((E t).seated (deep_is parent depth t (sharer_live r t e))).lined ∙ or_right (sets line (get_or parent t 0) t) _ (same_refl t)

    holder : Shares line held retained → (r t : ℕ) → any_mode (sets held) r t ≡ true → ShareOf line held retained t r
    holder D r t e = let k = any_range held r t h e in D r k t (held_low r t k e)

    retainer : Shares line held retained → (r t : ℕ) → any_mode (sets retained) r t ≡ true → ShareOf line held retained t r
    retainer D r t e = let k = any_range retained r t m e in D r k t (retained_low r t k e)

    pub locked_by : Shares line held retained → Locked parent depth held retained writers
    unfolding in_line
    locked_by D = record {
      holder_live = held_live;
      retainer_live = retained_live;
      held_nested = holds_writing_lem;
      retained_nested = retains_writing_lem;
      on_one_line = λ r t u e f.
          sym (ap₂ ◌||◌ (on u t) (on t u)) ∙ (retainer D r u f).on_one_line f t (retained_writing_low r t (write_range retained r t m e) e) e;
      beneath = λ r t u e f. sym (on t u) ∙ (holder D r t e).holder_beneath e u (retained_writing_low r u (write_range retained r u m f) f) f;
      one_holder = λ r t u e f. sym (same-eq u t ((holder D r t (holds_writing_lem r t e)).writer_alone e u (held_low r u (any_range held r u h f) f) f));
      beneath_writing = λ r t u e f.
          sym (on t u) ∙ (holder D r t (holds_writing_lem r t e)).writer_beneath e u (retained_low r u (any_range retained r u m f) f) f;
      by_lock = λ t r e. let k : r < 16 = let l = in_range writers r t e in omega arith in (C r k).by_lock t (writers_low r t k e) e;
    }

  pub shares_of : Locked parent depth held retained writers → Shares line held retained
  unfolding in_line
  shares_of L r k t h = record {
    holder_beneath = λ e u l f. on t u ∙ L.beneath r t u e f;
    writer_alone = λ e u l f. rw (sym (L.one_holder r t u e f)) (same_refl t);
    writer_beneath = λ e u l f. on t u ∙ L.beneath_writing r t u e f;
    on_one_line = λ e u l f. ap₂ ◌||◌ (on t u) (on u t) ∙ L.on_one_line r u t f e;
  }

pub locks_of : (parent depth held retained writers : List ℕ) → ((t : ℕ) → is_active (bearers_of parent depth t) ≡ true → t < 24)
    → Locked parent depth held retained writers → Locks (living depth) held retained writers
locks_of parent depth held retained writers low L r k = record {
  numbered = λ u e. low u (has_live u e);
  holders_live = λ u l e. live_is parent depth u ∙ L.holder_live r u e;
  retainers_live = λ u l e. live_is parent depth u ∙ L.retainer_live r u e;
  held_nested = λ u l e. L.held_nested r u e;
  retained_nested = λ u l e. L.retained_nested r u e;
  by_lock = λ u l e. L.by_lock u r e;
}
  where
    held_live : (u : ℕ) → write_mode (sets held) r u ≡ true → is_active (bearers_of parent depth u) ≡ true
    held_live u e = L.holder_live r u (L.held_nested r u e)

    retained_live : (u : ℕ) → write_mode (sets retained) r u ≡ true → is_active (bearers_of parent depth u) ≡ true
    retained_live u e = L.retainer_live r u (L.retained_nested r u e)

    has_live : (u : ℕ) → ((((any_mode (sets held) r u || write_mode (sets held) r u) || any_mode (sets retained) r u) || write_mode (sets retained) r u) || sets writers r u) ≡ true
        → is_active (bearers_of parent depth u) ≡ true
    has_live u e =
        or_cases _ (sets writers r u) e
        (λ f. or_cases _ (write_mode (sets retained) r u) f
        (λ g. or_cases _ (any_mode (sets retained) r u) g
        (λ i. or_cases (any_mode (sets held) r u) (write_mode (sets held) r u) i (L.holder_live r u) (held_live u))
        (L.retainer_live r u))
        (retained_live u))
        (λ f. or_cases (write_mode (sets held) r u) (write_mode (sets retained) r u) (L.by_lock u r f) (held_live u) (retained_live u))

-- the locks of a sound state
pub locked_of : (form : Form) (up : ℕ) (parent depth line held retained writers work store : List ℕ) → Nested (sets held) → Nested (sets retained)
    → Sound form (view form (arrays up parent depth line held retained writers work store)) → Locked parent depth held retained writers
unfolding live holds retains holds_writing retains_writing view
locked_of form up parent depth line held retained writers work store H M S =
    let h = lock_is (sets held) H in
    let m = lock_is (sets retained) M in
    let v = writing_is (sets held) in
    let w = writing_is (sets retained) in
    record {
      holder_live = λ r t e. S.holder_live r t (h r t ∙ e);
      retainer_live = λ r t e. S.retainer_live r t (m r t ∙ e);
      held_nested = H;
      retained_nested = M;
      on_one_line = λ r t u e f. S.on_one_line r t u (w r t ∙ e) (m r u ∙ f);
      beneath = λ r t u e f. S.beneath r t u (h r t ∙ e) (w r u ∙ f);
      one_holder = λ r t u e f. S.one_holder r t u (v r t ∙ e) (h r u ∙ f);
      beneath_writing = λ r t u e f. S.beneath_writing r t u (v r t ∙ e) (m r u ∙ f);
      by_lock = λ t r e. sym (ap₂ ◌||◌ (v r t) (w r t)) ∙ S.by_lock t r (some_is depth writers work t r ∙ e);
    }
