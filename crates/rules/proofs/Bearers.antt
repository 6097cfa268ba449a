-- The bearers of a state form a tree: its lines after a begin and after some transactions have ended.
use mathlib.Core.Path.{◌≡◌, refl, sym, ap, ◌∙◌}
use mathlib.Core.Bool.{Bool, true, false, cond, true≢false, false≢true, or-true}
use mathlib.Core.List.{List, [], ◌∷◌}
use mathlib.Core.Logic.{◌≢◌, ◌⊎◌, inl, inr}
use Prim.Native.Nat.{ℕ, zero, suc, ◌<◌, ◌≤◌}
use native.Mathlib.Omega.{arith}
use lib.ListN.{length}
use Rattle.laws.specs.Tests.{same}
use Rattle.laws.specs.Functions.{updated}
use Rattle.laws.proofs.Tests.{same_cases, Same, is, isnt, same-eq, same_refl, ne_false, Is, is_cases, yes', no'}
use Rattle.laws.proofs.Booleans.{or_cases}
use Rattle.rules.specs.State.{Bearer, Bearers, free, active, is_active, parent_in, depth_in, line_from, line_of, mem, open_state}
use Rattle.rules.proofs.Tree.{Good, Lines, Tree, is_cons, own}

-- what makes the bearers a tree
pub record Rooted (limit nobody : ℕ) (b : Bearers) : Type 0 where
  pub level : (t p d : ℕ) → b t ≡ active p d → d ≡ suc (depth_in (b p))
  pub rooted : (t p d : ℕ) → b t ≡ active p d → depth_in (b p) ≡ 0 → p ≡ nobody
  pub bounded : (t p d : ℕ) → b t ≡ active p d → t < limit

module _ {limit nobody : ℕ} {b : Bearers} (S : Rooted limit nobody b) where
  -- the depth of a parent
  pub up_one : (t n : ℕ) → depth_in (b t) ≡ suc n → depth_in (b (parent_in (b t))) ≡ n
  unfolding open_state updated
  up_one t n e = go (b t) refl e
    where
      go : (c : Bearer) → b t ≡ c → depth_in c ≡ suc n → depth_in (b (parent_in c)) ≡ n
      go free q h = absurd (omega arith)
      go (active p d) q h = let k : d ≡ suc (depth_in (b p)) = S.level t p d q in omega arith

  chain_good : (n t : ℕ) → depth_in (b t) ≡ n → Good (line_of b) (line_from b n t)
  unfolding open_state updated
  chain_good zero t e = tt
  chain_good (suc n) t e = (rw e, chain_good n (parent_in (b t)) (up_one t n e))

  pub active_line : (t : ℕ) → is_active (b t) ≡ is_cons (line_of b t)
  unfolding open_state updated
  active_line t = go (b t) refl
    where
      go : (c : Bearer) → b t ≡ c → is_active c ≡ is_cons (line_from b (depth_in c) t)
      go free q = refl
      go (active p d) q = rw (S.level t p d q)

  pub rooted_tree : Tree limit (line_of b)
  unfolding open_state updated
  rooted_tree = record {
    first = λ j a l e. head (depth_in (b j)) j a l e;
    good = λ j. chain_good (depth_in (b j)) j refl;
    small = λ j e. go j (b j) refl (sym (active_line j)) e;
  }
    where
      head : (n j a : ℕ) (l : List ℕ) → line_from b n j ≡ a ∷ l → a ≡ j
      head zero j a l e = cc
      head (suc n) j a l e = cc

      go : (j : ℕ) (c : Bearer) → b j ≡ c → is_cons (line_of b j) ≡ is_active (b j) → is_cons (line_of b j) ≡ true → j < limit
      go j free q h e = absurd (false≢true (sym (ap is_active q) ∙ sym h ∙ e))
      go j (active p d) q h e = S.bounded j p d q

  -- the parent of a child, and a transaction with a live descendant has a live child
  pub child_of : (n z x : ℕ) → depth_in (b z) ≡ n → mem x (line_from b n z) ≡ true → z ≢ x → (u : ℕ) × (is_active (b u) ≡ true) × (parent_in (b u) ≡ x)
  unfolding open_state updated
  child_of zero z x e h k = absurd (false≢true h)
  child_of (suc n) z x e h k = go (same_cases (parent_in (b z)) x) (rw (ne_false x z (λ q. k (sym q))) at h) (λ m. child_of n (parent_in (b z)) x (up_one z n e) m)
    where
      live : (c : Bearer) → depth_in c ≡ suc n → is_active c ≡ true
      live free q = absurd (omega arith)
      live (active p d) q = refl

      go : Same (parent_in (b z)) x → mem x (line_from b n (parent_in (b z))) ≡ true
          → (mem x (line_from b n (parent_in (b z))) ≡ true → parent_in (b z) ≢ x → (u : ℕ) × (is_active (b u) ≡ true) × (parent_in (b u) ≡ x))
          → (u : ℕ) × (is_active (b u) ≡ true) × (parent_in (b u) ≡ x)
      go (is q s _) m ih = (z, live (b z) e, q)
      go (isnt q s _) m ih = ih m q

-- a line is as long as its transaction is deep
chain_length : (b : Bearers) (n t : ℕ) → length (line_from b n t) ≡ n
unfolding open_state
chain_length b zero t = refl
chain_length b (suc n) t = ap suc (chain_length b n (parent_in (b t)))

pub line_length : (b : Bearers) (t : ℕ) → length (line_of b t) ≡ depth_in (b t)
unfolding open_state
line_length b t = chain_length b (depth_in (b t)) t

-- two states that agree on a line
pub chain_same : (b c : Bearers) (n t : ℕ) → ((a : ℕ) → mem a (line_from b n t) ≡ true → c a ≡ b a) → line_from c n t ≡ line_from b n t
unfolding open_state updated
chain_same b c zero t h = refl
chain_same b c (suc n) t h =
    rw (h t (rw (same_refl t)))
    (ap (t ∷◌) (chain_same b c n (parent_in (b t)) (λ a e. h a (rw e (or-true (same a t))))))

good_live : (line : Lines) (l : List ℕ) (a : ℕ) → Good line l → mem a l ≡ true → is_cons (line a) ≡ true
unfolding open_state updated
good_live line [] a g e = absurd (false≢true e)
good_live line (x ∷ l) a g e =
    or_cases (same a x) (mem a l) e (λ s. rw (same-eq a x s, g.0)) (λ s. good_live line l a g.1 s)

-- a begin: t, free before, under p
abbrev pub begun_in : Bearers → ℕ → ℕ → Bearers
begun_in b t p = updated t (active p (suc (depth_in (b p)))) b

-- the transactions that `dead` picks end
abbrev pub ended_in : Bearers → (ℕ → Bool) → Bearers
ended_in b dead = λ j. cond (dead j) free (b j)

module _ {limit nobody : ℕ} {b : Bearers} (S : Rooted limit nobody b) where
  pub line_of_member : (z a : ℕ) → mem a (line_of b z) ≡ true → is_active (b a) ≡ true
  unfolding open_state updated
  line_of_member z a e = active_line S a ∙ good_live (line_of b) (line_of b z) a (chain_good S (depth_in (b z)) z refl) e

  begun_same : (t p z : ℕ) → is_active (b t) ≡ false → line_from (begun_in b t p) (depth_in (b z)) z ≡ line_of b z
  unfolding open_state updated
  begun_same t p z f = chain_same b (begun_in b t p) (depth_in (b z)) z (λ a e. go a (line_of_member z a e) (same_cases a t))
    where
      go : (a : ℕ) → is_active (b a) ≡ true → Same a t → begun_in b t p a ≡ b a
      go a e (is q s _) = absurd (true≢false (sym e ∙ (rw q f)))
      go a e (isnt q s _) = rw s

  pub begun_line : (t p : ℕ) → is_active (b t) ≡ false → (j : ℕ) → line_of (begun_in b t p) j ≡ cond (same j t) (t ∷ line_of b p) (line_of b j)
  unfolding open_state updated
  begun_line t p f j = go (same_cases j t)
    where
      go : Same j t → line_of (begun_in b t p) j ≡ cond (same j t) (t ∷ line_of b p) (line_of b j)
      go (is q s _) = rw (s, q, same_refl t) (ap (t ∷◌) (begun_same t p p f))
      go (isnt q s _) = rw s (begun_same t p j f)

  inactive : (c : Bearer) → is_active c ≡ false → depth_in c ≡ 0
  unfolding open_state updated
  inactive free e = refl
  inactive (active p d) e = absurd (true≢false e)

  pub parent_line : (t p d : ℕ) → b t ≡ active p d → line_of b t ≡ t ∷ line_of b p
  unfolding open_state updated
  parent_line t p d e = rw (e, S.level t p d e, e)

  pub begun_rooted : (t p : ℕ) → is_active (b t) ≡ false → t < limit → limit ≤ nobody → (is_active (b p) ≡ true) ⊎ (p ≡ nobody) → Rooted limit nobody (begun_in b t p)
  unfolding open_state updated
  begun_rooted t p f small far ok = record {
    level = λ u q d e. level' u q d e (same_cases u t);
    rooted = λ u q d e z. rooted' u q d e z (same_cases u t);
    bounded = λ u q d e. bounded' u q d e (same_cases u t);
  }
    where
      p≢t : p ≢ t
      p≢t e = go ok
        where
          go : (is_active (b p) ≡ true) ⊎ (p ≡ nobody) → ⊥
          go (inl a) = true≢false (sym a ∙ rw e f)
          go (inr q) = omega arith

      -- a parent is never t
      parent≢t : (u q d : ℕ) → b u ≡ active q d → q ≢ t
      parent≢t u q d e h = let k : q ≡ nobody = S.rooted u q d e (inactive (b q) (rw h f)) in omega arith

      after : (q : ℕ) → q ≢ t → begun_in b t p q ≡ b q
      after q n = rw (ne_false q t n)

      level' : (u q d : ℕ) → begun_in b t p u ≡ active q d → Same u t → d ≡ suc (depth_in (begun_in b t p q))
      level' u q d e (is h s _) =
          let k : active p (suc (depth_in (b p))) ≡ active q d = rw s at e in
          let a : p ≡ q = cc in
          rw (← a, after p p≢t) (cc)
      level' u q d e (isnt h s _) = let k : b u ≡ active q d = rw s at e in rw (after q (parent≢t u q d k)) (S.level u q d k)

      rooted' : (u q d : ℕ) → begun_in b t p u ≡ active q d → depth_in (begun_in b t p q) ≡ 0 → Same u t → q ≡ nobody
      rooted' u q d e z (is h s _) =
          let k : active p (suc (depth_in (b p))) ≡ active q d = rw s at e in
          let a : p ≡ q = cc in
          let y : depth_in (b p) ≡ 0 = rw (← a, after p p≢t) at z in
          go y a ok
        where
          go : depth_in (b p) ≡ 0 → p ≡ q → (is_active (b p) ≡ true) ⊎ (p ≡ nobody) → q ≡ nobody
          go y a (inr g) = cc
          go y a (inl g) = deep (b p) refl y g
            where
              deep : (c : Bearer) → b p ≡ c → depth_in (b p) ≡ 0 → is_active (b p) ≡ true → q ≡ nobody
              deep free x y g = absurd (false≢true (sym (ap is_active x) ∙ g))
              deep (active v w) x y g = let l : w ≡ suc (depth_in (b v)) = S.level p v w x in let m : depth_in (b p) ≡ w = ap depth_in x in absurd (omega arith)
      rooted' u q d e z (isnt h s _) = let k : b u ≡ active q d = rw s at e in S.rooted u q d k (rw (after q (parent≢t u q d k)) at z)

      bounded' : (u q d : ℕ) → begun_in b t p u ≡ active q d → Same u t → u < limit
      bounded' u q d e (is h s _) = rw h small
      bounded' u q d e (isnt h s _) = S.bounded u q d (rw s at e)

  module _ (dead : ℕ → Bool) (closed : (z a : ℕ) → dead z ≡ false → dead a ≡ true → mem a (line_of b z) ≡ false) where
    ended_was : (u q d : ℕ) → ended_in b dead u ≡ active q d → (dead u ≡ false) × (b u ≡ active q d)
    unfolding open_state updated
    ended_was u q d e = go (is_cases (dead u))
      where
        go : Is (dead u) → (dead u ≡ false) × (b u ≡ active q d)
        go (yes' k) = absurd (false≢true (ap is_active (rw k at e)))
        go (no' k) = (k, rw k at e)

    ended_depth : (u q d : ℕ) → ended_in b dead u ≡ active q d → depth_in (ended_in b dead q) ≡ depth_in (b q)
    unfolding open_state updated
    ended_depth u q d e = go (ended_was u q d e) (is_cases (dead q)) (is_cases (is_active (b q)))
      where
        go : (dead u ≡ false) × (b u ≡ active q d) → Is (dead q) → Is (is_active (b q)) → depth_in (ended_in b dead q) ≡ depth_in (b q)
        go w (no' k) l = rw k
        go w (yes' k) (no' l) = rw k (sym (inactive (b q) l))
        go w (yes' k) (yes' l) = absurd (true≢false (sym (rw (own (rooted_tree S) q (sym (active_line S q) ∙ l)) (or-true (same q u))) ∙ rw (parent_line u q d w.1) at (closed u q w.0 k)))

    pub ended_rooted : Rooted limit nobody (ended_in b dead)
    unfolding open_state updated
    ended_rooted = record {
      level = λ u q d e. rw (ended_depth u q d e) (S.level u q d (ended_was u q d e).1);
      rooted = λ u q d e z. S.rooted u q d (ended_was u q d e).1 (rw (ended_depth u q d e) at z);
      bounded = λ u q d e. S.bounded u q d (ended_was u q d e).1;
    }

    pub ended_line : (j : ℕ) → line_of (ended_in b dead) j ≡ cond (dead j) [] (line_of b j)
    unfolding open_state updated
    ended_line j = go (is_cases (dead j))
      where
        keeps : (a : ℕ) → dead j ≡ false → mem a (line_of b j) ≡ true → Is (dead a) → ended_in b dead a ≡ b a
        keeps a k e (no' l) = rw l
        keeps a k e (yes' l) = absurd (true≢false (sym e ∙ closed j a k l))

        go : Is (dead j) → line_of (ended_in b dead) j ≡ cond (dead j) [] (line_of b j)
        go (yes' k) = rw k
        go (no' k) = rw k (chain_same b (ended_in b dead) (depth_in (b j)) j (λ a e. keeps a k e (is_cases (dead a))))
