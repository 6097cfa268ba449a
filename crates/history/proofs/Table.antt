-- The proofs' labels of transactions agree with the history, one step from child to parent at a time; the history's bearers, parents and
-- ancestors are those of the state; and an ending, a begin and a write keep that.
use mathlib.Core.Path.{◌≡◌, refl, sym, ap, ◌∙◌, fun_ext}
use mathlib.Core.Bool.{Bool, true, false, not, cond, ◌&&◌, ◌||◌, true≢false, false≢true}
use mathlib.Core.List.{[]}
use mathlib.Core.Logic.{◌≢◌}
use Prim.Native.Nat.{ℕ, zero, suc, ◌<◌, ◌≤◌}
use native.Mathlib.Omega.{arith}
use Rattle.laws.specs.Tests.{same, under}
use Rattle.laws.specs.Counting.{count}
use Rattle.laws.proofs.Tests.{same_cases, Same, is, isnt, same_refl, ne_false, Is, is_cases, yes', no', under-lt, not-under}
use Rattle.rules.specs.State.{Bearer, Bearers, free, active, is_active, line_of, mem, open_state}
use Rattle.rules.proofs.Bearers.{Rooted, parent_line}
use Rattle.history.specs.History.{Fate, bearing, committed, stored, waiting, ended, History, is_committed, is_stored, is_bearing, climbs, is_within, follows, stands_with, survives, writes_to, changed_by}
use Rattle.history.proofs.Roots.{Root, settled, lost, waiting as awaiting, at, is_settled, is_at, sees}

-- the label of a transaction that stands so, from its parent's
abbrev pub entry : (ℕ → Root) → ℕ → Fate → Root
entry root p (bearing t) = at t
entry root p committed = root p
entry root p stored = settled
entry root p waiting = awaiting
entry root p ended = lost

pub record Table (b : Bearers) (h : History) (root : ℕ → Root) : Type 0 where
  pub one : (i : ℕ) → root i ≡ entry root (h.parent i) (h.fate i)
  -- a parent is begun before its child; none is above no transaction
  pub earlier : (i : ℕ) → 0 < i → h.parent i < i
  pub origin : h.parent 0 ≡ 0
  -- who bears a number, and who is the parent
  pub bears : (t : ℕ) → is_active (b t) ≡ true → h.fate (h.bearer t) ≡ bearing t
  pub who : (i t : ℕ) → h.fate i ≡ bearing t → (h.bearer t ≡ i) × (is_active (b t) ≡ true)
  pub vacant : (t : ℕ) → is_active (b t) ≡ false → h.bearer t ≡ 0
  pub above : (t p d : ℕ) → b t ≡ active p d → h.parent (h.bearer t) ≡ h.bearer p
  -- what is no transaction, or not begun yet, bears nothing and has written nothing
  pub none_bears : is_bearing (h.fate 0) ≡ false
  pub none-commits : is_committed (h.fate 0) ≡ false
  pub unborn : (i : ℕ) → h.begun < i → h.fate i ≡ ended
  pub fresh : (i r : ℕ) → h.begun < i → writes_to (λ k. same k i) r h.writes ≡ false

pub bearing≢ : {A : Type 0} {c : Fate} {t : ℕ} → is_bearing c ≡ false → c ≡ bearing t → A
unfolding is_bearing
bearing≢ e q = absurd (true≢false (sym (ap is_bearing q) ∙ e))

pub bearing_inj : {t u : ℕ} → bearing t ≡ bearing u → t ≡ u
bearing_inj e = cc

committed≢ : {A : Type 0} {c : Fate} → is_committed c ≡ false → c ≡ committed → A
unfolding is_committed
committed≢ e q = absurd (true≢false (sym (ap is_committed q) ∙ e))

module _ {b : Bearers} {h : History} {root : ℕ → Root} (T : Table b h root) where
  -- a live number is borne by a transaction that was begun
  pub bearer_some : (t : ℕ) → is_active (b t) ≡ true → h.bearer t ≢ 0
  unfolding is_bearing
  bearer_some t e q = bearing≢ T.none_bears (ap h.fate (sym q) ∙ T.bears t e)

  pub bearer_known : (t : ℕ) → is_active (b t) ≡ true → h.bearer t ≤ h.begun
  unfolding is_bearing
  bearer_known t e = go (is_cases (under h.begun (h.bearer t)))
    where
      go : Is (under h.begun (h.bearer t)) → h.bearer t ≤ h.begun
      go (no' k) = not-under h.begun (h.bearer t) k
      go (yes' k) = bearing≢ {c = ended} refl (sym (T.unborn (h.bearer t) (under-lt h.begun (h.bearer t) k)) ∙ T.bears t e)

  pub bearer_most : (t : ℕ) → h.bearer t ≤ h.begun
  bearer_most t = go (is_cases (is_active (b t)))
    where
      go : Is (is_active (b t)) → h.bearer t ≤ h.begun
      go (yes' e) = bearer_known t e
      go (no' e) = rw (T.vacant t e) (omega arith)

  pub bearer_one : (t u : ℕ) → is_active (b t) ≡ true → is_active (b u) ≡ true → h.bearer t ≡ h.bearer u → t ≡ u
  bearer_one t u e k q = bearing_inj (sym (T.bears t e) ∙ ap h.fate q ∙ T.bears u k)

  -- its label
  pub root_bearer : (t : ℕ) → is_active (b t) ≡ true → root (h.bearer t) ≡ at t
  root_bearer t e = T.one (h.bearer t) ∙ ap (entry root (h.parent (h.bearer t))) (T.bears t e)

  pub committed_begun : (i : ℕ) → h.fate i ≡ committed → (0 < i) × (i ≤ h.begun)
  unfolding is_committed
  committed_begun i e = (some (same_cases i 0), most (is_cases (under h.begun i)))
    where
      some : Same i 0 → 0 < i
      some (is q _ _) = committed≢ T.none-commits (ap h.fate (sym q) ∙ e)
      some (isnt q _ _) = omega arith

      most : Is (under h.begun i) → i ≤ h.begun
      most (no' k) = not-under h.begun i k
      most (yes' k) = committed≢ {c = ended} refl (sym (T.unborn i (under-lt h.begun i k)) ∙ e)

  -- the label is how the transaction stands with which the writes stand
  table_by : (n i : ℕ) → i ≤ n → root i ≡ entry (λ k. lost) 0 (h.fate (follows h n i))
  unfolding follows is_committed
  table_by zero i le = let q : i ≡ 0 = omega arith in rw q (T.one 0 ∙ go (h.fate 0) refl)
    where
      go : (c : Fate) → h.fate 0 ≡ c → entry root (h.parent 0) c ≡ entry (λ k. lost) 0 c
      go (bearing t) e = refl
      go committed e = committed≢ T.none-commits e
      go stored e = refl
      go waiting e = refl
      go ended e = refl
  table_by (suc n) i le = T.one i ∙ go (h.fate i) refl (λ p k. table_by n p k)
    where
      go : (c : Fate) → h.fate i ≡ c → ((p : ℕ) → p ≤ n → root p ≡ entry (λ k. lost) 0 (h.fate (follows h n p)))
          → entry root (h.parent i) c ≡ entry (λ k. lost) 0 (h.fate (cond (is_committed c) (follows h n (h.parent i)) i))
      go (bearing t) e ih = rw e
      go committed e ih = let k : h.parent i < i = T.earlier i (committed_begun i e).0 in ih (h.parent i) (omega arith)
      go stored e ih = rw e
      go waiting e ih = rw e
      go ended e ih = rw e

  pub table_is : (i : ℕ) → root i ≡ entry (λ k. lost) 0 (h.fate (stands_with h i))
  unfolding stands_with
  table_is i = table_by i i (omega arith)

  entry_settled : (c : Fate) → is_settled (entry (λ k. lost) 0 c) ≡ is_stored c
  unfolding is_stored
  entry_settled (bearing t) = refl
  entry_settled committed = refl
  entry_settled stored = refl
  entry_settled waiting = refl
  entry_settled ended = refl

  pub survives_is : (i : ℕ) → survives h i ≡ is_settled (root i)
  unfolding survives
  survives_is i = sym (ap is_settled (table_is i) ∙ entry_settled (h.fate (stands_with h i)))

  -- the writes that stand with the transaction of number x
  pub stands_is : (x k : ℕ) → is_active (b x) ≡ true → same (stands_with h k) (h.bearer x) ≡ is_at x (root k)
  unfolding is_bearing
  stands_is x k e = rw (table_is k) (go (h.fate (stands_with h k)) refl (same_cases (stands_with h k) (h.bearer x)))
    where
      -- another transaction doesn't bear x
      off : (c : Fate) → h.fate (stands_with h k) ≡ c → stands_with h k ≢ h.bearer x → is_at x (entry (λ k. lost) 0 c) ≡ false
      off (bearing t) q n = ne_false t x (λ z. n (sym (T.who (stands_with h k) t q).0 ∙ ap h.bearer z))
      off committed q n = refl
      off stored q n = refl
      off waiting q n = refl
      off ended q n = refl

      go : (c : Fate) → h.fate (stands_with h k) ≡ c → Same (stands_with h k) (h.bearer x) → same (stands_with h k) (h.bearer x) ≡ is_at x (entry (λ k. lost) 0 c)
      go c q (isnt n s _) = s ∙ sym (off c q n)
      go c q (is z s _) = s ∙ rw (sym q ∙ ap h.fate z ∙ T.bears x e) (sym (same_refl x))

  pub changed_is : (records x : ℕ) → is_active (b x) ≡ true → changed_by records h (h.bearer x) ≡ count records (λ r. writes_to (λ i. is_at x (root i)) r h.writes)
  unfolding changed_by
  changed_is records x e = ap (λ (p : ℕ → Bool). count records (λ r. writes_to p r h.writes)) (fun_ext (λ k. stands_is x k e))

  -- nothing is above no transaction
  climbs-none : (n a : ℕ) → a ≢ 0 → climbs h.parent n a 0 ≡ false
  unfolding climbs
  climbs-none zero a k = ne_false 0 a (λ q. k (sym q))
  climbs-none (suc n) a k = rw (ne_false 0 a (λ q. k (sym q)), T.origin) (climbs-none n a k)

pub free_line : (b : Bearers) (t : ℕ) → is_active (b t) ≡ false → line_of b t ≡ []
unfolding open_state
free_line b t e = go (b t) refl e
  where
    go : (c : Bearer) → b t ≡ c → is_active c ≡ false → line_of b t ≡ []
    go free q k = rw q
    go (active p d) q k = absurd (true≢false k)

module _ {limit nobody : ℕ} {b : Bearers} (S : Rooted limit nobody b) {h : History} {root : ℕ → Root} (T : Table b h root) where
  -- the history's ancestors are those on the line
  climbs_is : (n x j : ℕ) → h.bearer j ≤ n → is_active (b x) ≡ true → is_active (b j) ≡ true → climbs h.parent n (h.bearer x) (h.bearer j) ≡ mem x (line_of b j)
  unfolding climbs mem is_active
  climbs_is zero x j le e k = absurd (bearer_some T j k (omega arith))
  climbs_is (suc n) x j le e k = go (b j) refl k (λ p l a. climbs_is n x p l e a)
    where
      head : Same x j → same (h.bearer j) (h.bearer x) ≡ same x j
      head (is q s _) = rw (q, same_refl (h.bearer j), same_refl j)
      head (isnt q s _) = ne_false (h.bearer j) (h.bearer x) (λ z. q (sym (bearer_one T j x k e z))) ∙ sym s

      go : (c : Bearer) → b j ≡ c → is_active c ≡ true
          → ((p : ℕ) → h.bearer p ≤ n → is_active (b p) ≡ true → climbs h.parent n (h.bearer x) (h.bearer p) ≡ mem x (line_of b p))
          → (same (h.bearer j) (h.bearer x) || climbs h.parent n (h.bearer x) (h.parent (h.bearer j))) ≡ mem x (line_of b j)
      go free q a ih = absurd (false≢true a)
      go (active p d) q a ih = rw (parent_line S j p d q, head (same_cases x j), T.above j p d q) (ap (λ z. same x j || z) (rest (is_cases (is_active (b p)))))
        where
          before : h.bearer p < h.bearer j
          before = rw (T.above j p d q) at (T.earlier (h.bearer j) (let z = bearer_some T j k in omega arith))

          rest : Is (is_active (b p)) → climbs h.parent n (h.bearer x) (h.bearer p) ≡ mem x (line_of b p)
          rest (yes' l) = ih p (omega (arith, before)) l
          rest (no' l) = rw (T.vacant p l, free_line b p l) (climbs-none T n (h.bearer x) (bearer_some T x e))

  pub within_is : (x j : ℕ) → is_active (b x) ≡ true → is_active (b j) ≡ true → is_within h (h.bearer x) (h.bearer j) ≡ mem x (line_of b j)
  unfolding is_within
  within_is x j e k = rw (ne_false (h.bearer x) 0 (bearer_some T x e)) (climbs_is (h.bearer j) x j (omega arith) e k)

  -- who is met on the way up from a live transaction is live
  climbs_live : (n a j : ℕ) → h.bearer j ≤ n → a ≢ 0 → is_active (b j) ≡ true → climbs h.parent n a (h.bearer j) ≡ true → (t : ℕ) × (is_active (b t) ≡ true) × (h.bearer t ≡ a)
  unfolding climbs is_active
  climbs_live zero a j le z k m = absurd (bearer_some T j k (omega arith))
  climbs_live (suc n) a j le z k m = go (same_cases (h.bearer j) a) m (λ p l v c. climbs_live n a p l z v c)
    where
      go : Same (h.bearer j) a → (same (h.bearer j) a || climbs h.parent n a (h.parent (h.bearer j))) ≡ true
          → ((p : ℕ) → h.bearer p ≤ n → is_active (b p) ≡ true → climbs h.parent n a (h.bearer p) ≡ true → (t : ℕ) × (is_active (b t) ≡ true) × (h.bearer t ≡ a))
          → (t : ℕ) × (is_active (b t) ≡ true) × (h.bearer t ≡ a)
      go (is q s _) c ih = (j, k, q)
      go (isnt q s _) c ih = by (b j) refl k (rw s at c)
        where
          by : (e : Bearer) → b j ≡ e → is_active e ≡ true → climbs h.parent n a (h.parent (h.bearer j)) ≡ true → (t : ℕ) × (is_active (b t) ≡ true) × (h.bearer t ≡ a)
          by free w v c = absurd (false≢true v)
          by (active p d) w v c = each (is_cases (is_active (b p)))
            where
              before : h.bearer p < h.bearer j
              before = rw (T.above j p d w) at (T.earlier (h.bearer j) (let y = bearer_some T j k in omega arith))

              there : climbs h.parent n a (h.bearer p) ≡ true
              there = rw (T.above j p d w) at c

              each : Is (is_active (b p)) → (t : ℕ) × (is_active (b t) ≡ true) × (h.bearer t ≡ a)
              each (yes' l) = ih p (omega (arith, before)) l there
              each (no' l) = absurd (true≢false (sym there ∙ rw (T.vacant p l) (climbs-none T n a z)))

  -- who has ended is on no live line
  ended_off : (a j : ℕ) → is_active (b j) ≡ true → is_bearing (h.fate a) ≡ false → is_within h a (h.bearer j) ≡ false
  unfolding is_within
  ended_off a j e k = go (same_cases a 0)
    where
      go : Same a 0 → (not (same a 0) && climbs h.parent (h.bearer j) a (h.bearer j)) ≡ false
      go (is q s _) = rw s
      go (isnt q s _) = rw s (each (is_cases (climbs h.parent (h.bearer j) a (h.bearer j))))
        where
          each : Is (climbs h.parent (h.bearer j) a (h.bearer j)) → climbs h.parent (h.bearer j) a (h.bearer j) ≡ false
          each (no' m) = m
          each (yes' m) = let w = climbs_live (h.bearer j) a j (omega arith) q e m in bearing≢ k (ap h.fate (sym w.2) ∙ T.bears w.0 w.1)

  -- what the live transaction of number j sees: what survives so far, and what stands with it or an ancestor
  pub seen_is : (j i : ℕ) → is_active (b j) ≡ true → sees (line_of b j) (root i) ≡ (survives h i || is_within h (stands_with h i) (h.bearer j))
  unfolding survives is_stored is_bearing
  seen_is j i e = rw (table_is T i) (go (h.fate (stands_with h i)) refl)
    where
      go : (c : Fate) → h.fate (stands_with h i) ≡ c → sees (line_of b j) (entry (λ k. lost) 0 c) ≡ (is_stored c || is_within h (stands_with h i) (h.bearer j))
      go (bearing t) q = let w = T.who (stands_with h i) t q in rw (← w.0) (sym (within_is t j w.1 e))
      go committed q = sym (ended_off (stands_with h i) j e (ap is_bearing q))
      go stored q = refl
      go waiting q = sym (ended_off (stands_with h i) j e (ap is_bearing q))
      go ended q = sym (ended_off (stands_with h i) j e (ap is_bearing q))
