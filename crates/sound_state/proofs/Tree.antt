-- The entries of the arrays are right exactly if parents and depths make a tree, the lines are its lines, and free numbers have parent 0.
use mathlib.Core.Path.{◌≡◌, refl, sym, ap, ◌∙◌, fun_ext}
use mathlib.Core.Bool.{Bool, true, false, ◌||◌, or_comm}
use mathlib.Core.List.{List}
use mathlib.Core.Logic.{◌⊎◌, inl, inr, dite}
use native.Mathlib.Decide.{dec_lt}
use native.Mathlib.Omega.{arith}
use Prim.Native.Nat.{ℕ, zero, suc, ◌<◌, ◌≤◌}
use lib.ListN.{length, get_or, get_or-eq_default}
use Rattle.laws.specs.Tests.{same}
use Rattle.laws.specs.Bits.{bits}
use Rattle.rules.specs.State.{Bearers, active, is_active, line_from, line_of, mem, live, open_state}
use Rattle.rules.specs.Sound.{Sound}
use Rattle.rules.specs.Form.{Form}
use Rattle.rules.specs.Editions.{depths}
use Rattle.rules.proofs.Bearers.{Rooted, parent_line}
use Rattle.rules.proofs.Locks.{rooted_of}
use Rattle.leaf_set.specs.Sets.{sets}
use Rattle.state_array.specs.View.{bearer_at, bearers_of}
use Rattle.state_array.proofs.View.{depth_is, active_is, deep_is}
use Rattle.sound_clause.specs.Clauses.{TableEntry, Entries}
use Rattle.state_whole.specs.Whole.{arrays, view}
use Rattle.sound_clause.proofs.Words.{no_bits}

active_at : (q c p d : ℕ) → bearer_at q c ≡ active p d → (q ≡ p) × (c ≡ d) × (0 < c)
unfolding bearer_at
active_at q zero p d e = let z : ◌≡◌ {A = ℕ} 0 1 = cc in absurd (omega arith)
active_at q (suc c) p d e = ((cc), (cc), omega arith)

active_from : (p d : ℕ) → 0 < d → bearer_at p d ≡ active p d
unfolding bearer_at
active_from p zero h = absurd (omega arith)
active_from p (suc d) h = refl

borne : (parent depth : List ℕ) (t : ℕ) → 0 < get_or depth t 0 → bearers_of parent depth t ≡ active (get_or parent t 0) (get_or depth t 0)
unfolding bearers_of
borne parent depth t h = active_from (get_or parent t 0) (get_or depth t 0) h

-- whoever has a depth bears a transaction number
pub below : (depth : List ℕ) (t : ℕ) → length depth ≡ 24 → 0 < get_or depth t 0 → t < 24
below depth t long h =
    dite (dec_lt t 24) (λ lt. lt) (λ ge. let z : get_or depth t 0 ≡ 0 = get_or-eq_default depth 0 (omega arith) in absurd (omega arith))

-- past the arrays' ends every number is free
pub everywhere : (parent depth line : List ℕ) → length parent ≡ 24 → length depth ≡ 24 → length line ≡ 24 → Entries parent depth line
    → (t : ℕ) → TableEntry parent depth line t
unfolding sets
everywhere parent depth line p d l E t = dite (dec_lt t 24) (λ lt. E t lt) (λ ge. past (omega arith))
  where
    past : 24 ≤ t → TableEntry parent depth line t
    past h = record {
      vacant = λ e. record {
        parentless = get_or-eq_default parent 0 (omega arith);
        lineless = ap bits (let z : get_or line t 0 ≡ 0 = get_or-eq_default line 0 (omega arith) in z) ∙ no_bits;
      };
      seated = λ k. let z : t < 24 = below depth t d k in absurd (omega arith);
    }

-- the line of a free number, of a child
free_line : (parent depth : List ℕ) (t u : ℕ) → get_or depth t 0 ≡ 0 → mem u (line_of (bearers_of parent depth) t) ≡ false
unfolding open_state
free_line parent depth t u e = ap (λ (n : ℕ). mem u (line_from (bearers_of parent depth) n t)) (depth_is parent depth t ∙ e)

next_line : {limit nobody : ℕ} {b : Bearers} (R : Rooted limit nobody b) (t p d u : ℕ) → b t ≡ active p d
    → mem u (line_of b t) ≡ (mem u (line_of b p) || same u t)
unfolding mem
next_line {b = b} R t p d u e = ap (mem u) (parent_line R t p d e) ∙ or_comm (same u t) (mem u (line_of b p))

module _ (parent depth line : List ℕ) (long : length depth ≡ 24) (E : (t : ℕ) → TableEntry parent depth line t) where
  pub tree_rooted : Rooted 24 31 (bearers_of parent depth)
  unfolding bearers_of
  tree_rooted = record {
    level = λ t p d e. let a = active_at (get_or parent t 0) (get_or depth t 0) p d e in
        sym a.1 ∙ ((E t).seated a.2).level ∙ ap suc (ap (λ (q : ℕ). get_or depth q 0) a.0 ∙ sym (depth_is parent depth p));
    rooted = λ t p d e z. let a = active_at (get_or parent t 0) (get_or depth t 0) p d e in
        top t p a.0 (sym (depth_is parent depth p) ∙ z) ((E t).seated a.2).parented;
    bounded = λ t p d e. below depth t long (active_at (get_or parent t 0) (get_or depth t 0) p d e).2;
  }
    where
      top : (t p : ℕ) → get_or parent t 0 ≡ p → get_or depth p 0 ≡ 0 → (get_or parent t 0 ≡ 31) ⊎ (0 < get_or depth (get_or parent t 0) 0) → p ≡ 31
      top t p e z (inl q) = sym e ∙ q
      top t p e z (inr h) = let k : get_or depth (get_or parent t 0) 0 ≡ get_or depth p 0 = ap (λ (q : ℕ). get_or depth q 0) e in absurd (omega arith)

  line_at : (n t u : ℕ) → get_or depth t 0 ≡ n → sets line t u ≡ mem u (line_of (bearers_of parent depth) t)
  line_at zero t u e = ap (λ (f : ℕ → Bool). f u) ((E t).vacant e).lineless ∙ sym (free_line parent depth t u e)
  line_at (suc n) t u e =
      let h : 0 < get_or depth t 0 = omega arith in
      let s = (E t).seated h in
      let l = s.level in
      ap (λ (f : ℕ → Bool). f u) s.lined
      ∙ ap (λ (x : Bool). x || same u t) (line_at n (get_or parent t 0) u (omega arith))
      ∙ sym (next_line tree_rooted t (get_or parent t 0) (get_or depth t 0) u (borne parent depth t h))

  pub tree_lines : sets line ≡ (λ t u. mem u (line_of (bearers_of parent depth) t))
  tree_lines = fun_ext (λ t. fun_ext (λ u. line_at (get_or depth t 0) t u refl))

  pub tree_parented : (t p d : ℕ) → bearers_of parent depth t ≡ active p d → (p ≡ 31) ⊎ (is_active (bearers_of parent depth p) ≡ true)
  unfolding bearers_of
  tree_parented t p d e = let a = active_at (get_or parent t 0) (get_or depth t 0) p d e in go a.0 ((E t).seated a.2).parented
    where
      go : get_or parent t 0 ≡ p → (get_or parent t 0 ≡ 31) ⊎ (0 < get_or depth (get_or parent t 0) 0) → (p ≡ 31) ⊎ (is_active (bearers_of parent depth p) ≡ true)
      go q (inl h) = inl (sym q ∙ h)
      go q (inr h) = inr (active_is parent depth p (rw q at h))

  pub tree_shallow : (t : ℕ) → get_or depth t 0 ≤ depths
  tree_shallow t = dite (dec_lt 0 (get_or depth t 0)) (λ lt. ((E t).seated lt).shallow) (λ ge. omega arith)

-- and back
module _ (form : Form) (deep : form.geometry.depth_limit ≡ depths) (up : ℕ) (parent depth line held retained writers work store : List ℕ)
    (S : Sound form (view form (arrays up parent depth line held retained writers work store)))
    (lines : sets line ≡ (λ t u. mem u (line_of (bearers_of parent depth) t)))
    (tidy : (t : ℕ) → get_or depth t 0 ≡ 0 → get_or parent t 0 ≡ 0) where
  pub entry_of : (t : ℕ) → TableEntry parent depth line t
  unfolding live view
  entry_of t = record {
    vacant = λ e. record { parentless = tidy t e; lineless = ap (λ (f : ℕ → ℕ → Bool). f t) lines ∙ fun_ext (λ u. free_line parent depth t u e) };
    seated = λ h. let q = borne parent depth t h in record {
      parented = go (S.parented t (get_or parent t 0) (get_or depth t 0) q);
      level = S.level t (get_or parent t 0) (get_or depth t 0) q ∙ ap suc (depth_is parent depth (get_or parent t 0));
      shallow = let k = S.shallow t in let l = depth_is parent depth t in omega (arith, deep);
      lined = ap (λ (f : ℕ → ℕ → Bool). f t) lines
          ∙ fun_ext (λ u. next_line (rooted_of S) t (get_or parent t 0) (get_or depth t 0) u q)
          ∙ sym (ap {B = ℕ → Bool} (λ (f : ℕ → ℕ → Bool) (u : ℕ). f (get_or parent t 0) u || same u t) lines);
    };
  }
    where
      go : (get_or parent t 0 ≡ 31) ⊎ (is_active (bearers_of parent depth (get_or parent t 0)) ≡ true) → (get_or parent t 0 ≡ 31) ⊎ (0 < get_or depth (get_or parent t 0) 0)
      go (inl e) = inl e
      go (inr e) = inr (deep_is parent depth (get_or parent t 0) e)
