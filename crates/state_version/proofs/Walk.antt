-- The walk up from a transaction to the nearest that has a version: what it reads stays the same at every step.
use mathlib.Core.Path.{◌≡◌, refl, sym, ap, ap₂, subst⁻¹, ◌∙◌}
use mathlib.Core.Bool.{true, false, true≢false}
use mathlib.Core.List.{List, [], ◌∷◌}
use mathlib.Core.Logic.{◌⊎◌, inl, inr}
use mathlib.Core.Option.{Option, none, some}
use Prim.Native.Nat.{ℕ, suc, ◌+◌, ◌-◌, ◌≤◌, ◌<◌}
use native.Mathlib.Omega.{arith}
use lib.ListN.{get_or, get_or-eq_default}
use Rattle.laws.specs.Bits.{bits}
use Rattle.laws.proofs.Bits.{bits-zero}
use Rattle.rules.specs.Store.{Page}
use Rattle.rules.specs.State.{parent_in, depth_in, line_from, line_of, Versions}
use Rattle.rules.specs.Versions.{is_some, else, nearest}
use Rattle.rules.specs.Editions.{depths}
use Rattle.rules.proofs.Bearers.{up_one}
use Rattle.state_array.specs.View.{bearers_of}
use Rattle.state_array.proofs.View.{depth_is, parent_is, deep_below}
use Rattle.std.proofs.Common.{Option as Optional, Some, None, MatchOption, IfSome}
use Rattle.state_version.specs.Parts.{Sources, Climbing, ended, found, passed, Climbed, climb_told}
use Rattle.state_version.specs.declared.Climb.{Climb}

-- a walk from t after n steps
pub record Walk (parent depth : List ℕ) (w t : ℕ) (c : Climb) (n : ℕ) : Type 0 where
  pub going : (c.left + n ≤ depths) ⊎ (bits w c.at ≡ true)
  pub level : get_or depth c.at 0 ≡ c.left
  pub reads : (ver : Versions) (base : Page) (r : ℕ) → ((j : ℕ) → is_some (ver j r) ≡ bits w j)
      → nearest ver base r (line_of (bearers_of parent depth) t) ≡ nearest ver base r (line_from (bearers_of parent depth) c.left c.at)

skips : (o : Option Page) (p : Page) → is_some o ≡ false → else o p ≡ p
unfolding is_some else
skips none p e = refl
skips (some q) p e = absurd (true≢false e)

-- on a line without a version the home page is seen
none-nearest : (ver : Versions) (base : Page) (r : ℕ) → ((j : ℕ) → is_some (ver j r) ≡ false) → (l : List ℕ) → nearest ver base r l ≡ base
unfolding nearest
none-nearest ver base r h [] = refl
none-nearest ver base r h (j ∷ l) = skips (ver j r) (nearest ver base r l) (h j) ∙ none-nearest ver base r h l

-- where it met somebody, somebody is left
pub walk_left : (o : Optional Climb) (c : Climb) → MatchOption o (c.left ≡ 0) (λ d. (d ≡ c) × (0 < c.left)) → IfSome o (λ d. 0 < d.left)
walk_left None c e = tt
walk_left (Some d) c e = subst⁻¹ (λ (x : Climb). 0 < x.left) e.0 e.1

module _ (parent depth : List ℕ) (S : Sources parent depth) (w t : ℕ) where
  pub walk_none : (c : Climb) → c.at ≡ t → c.left ≡ get_or depth t 0 → Walk parent depth w t c 0
  unfolding line_of
  walk_none c e f = record {
    going = inl (let k = S.shallow t in omega arith);
    level = ap (λ (j : ℕ). get_or depth j 0) e ∙ sym f;
    reads = λ ver base r h. ap₂ (λ (n j : ℕ). nearest ver base r (line_from (bearers_of parent depth) n j)) (depth_is parent depth t ∙ sym f) (sym e);
  }

  -- who is in w needs no walk
  pub walk_own : (c : Climb) → c.at ≡ t → c.left ≡ get_or depth t 0 → bits w t ≡ true → Climbed parent depth w t c
  walk_own c e f h = let W = walk_none c e f in record { stops = inr (ap (bits w) e ∙ h); level = W.level; reads = W.reads }

  -- where a walk has ended with nobody left it met nobody; else it met who it stands at
  pub walk_told : (o : Optional Climb) (c : Climb) → MatchOption o (c.left ≡ 0) (λ d. (d ≡ c) × (0 < c.left)) → Climbed parent depth w t c → Climbed parent depth w t (climb_told o)
  unfolding nearest line_from
  walk_told None c e C = record {
    stops = inl refl;
    level = get_or-eq_default depth 0 {n = 31} (let k = S.long in omega arith);
    reads = λ ver base r h. C.reads ver base r h ∙ ap (λ (n : ℕ). nearest ver base r (line_from (bearers_of parent depth) n c.at)) e;
  }
  walk_told (Some d) c e C = subst⁻¹ (λ (x : Climb). Climbed parent depth w t x) e.0 C

  -- where w is empty, nobody is left
  pub walk_empty : (c : Climb) → w ≡ 0 → c.at ≡ 31 → c.left ≡ 0 → Climbed parent depth w t c
  unfolding nearest line_from
  walk_empty c z e f = record {
    stops = inl f;
    level = ap (λ (j : ℕ). get_or depth j 0) e ∙ get_or-eq_default depth 0 {n = 31} (let k = S.long in omega arith) ∙ sym f;
    reads = λ ver base r h.
        none-nearest ver base r (λ j. h j ∙ ap (λ (s : ℕ). bits s j) z ∙ bits-zero j) (line_of (bearers_of parent depth) t)
        ∙ ap (λ (n : ℕ). nearest ver base r (line_from (bearers_of parent depth) n c.at)) (sym f);
  }

  pub walk_more : (c d : Climb) (n : ℕ) → Walk parent depth w t c n → n < depths → Climbing parent w c d → Walk parent depth w t d (n + 1)
  unfolding nearest line_from
  walk_more c d n W b (ended z e) = record {
    going = inl (let k = ap (λ (x : Climb). x.left) e in omega arith);
    level = ap (λ (x : Climb). get_or depth x.at 0) e ∙ W.level ∙ sym (ap (λ (x : Climb). x.left) e);
    reads = λ ver base r h. W.reads ver base r h ∙ sym (ap (λ (x : Climb). nearest ver base r (line_from (bearers_of parent depth) x.left x.at)) e);
  }
  walk_more c d n W b (found f e) = record {
    going = inr (ap (λ (x : Climb). bits w x.at) e ∙ f);
    level = ap (λ (x : Climb). get_or depth x.at 0) e ∙ W.level ∙ sym (ap (λ (x : Climb). x.left) e);
    reads = λ ver base r h. W.reads ver base r h ∙ sym (ap (λ (x : Climb). nearest ver base r (line_from (bearers_of parent depth) x.left x.at)) e);
  }
  walk_more c d n W b (passed f g e) = record {
    going = inl (go W.going);
    level = sym (depth_is parent depth d.at) ∙ ap (λ (j : ℕ). depth_in (bearers_of parent depth j)) (sym over)
        ∙ up_one S.tree c.at d.left (depth_is parent depth c.at ∙ W.level ∙ g);
    reads = λ ver base r h. W.reads ver base r h
        ∙ ap (λ (m : ℕ). nearest ver base r (line_from (bearers_of parent depth) m c.at)) g
        ∙ skips (ver c.at r) _ (h c.at ∙ f)
        ∙ ap (λ (j : ℕ). nearest ver base r (line_from (bearers_of parent depth) d.left j)) over;
  }
    where
      over : parent_in (bearers_of parent depth c.at) ≡ d.at
      over = parent_is parent depth c.at d.left (W.level ∙ g) ∙ sym e

      go : (c.left + n ≤ depths) ⊎ (bits w c.at ≡ true) → d.left + (n + 1) ≤ depths
      go (inl h) = omega arith
      go (inr h) = absurd (true≢false (sym h ∙ f))

  pub walk-all : (c : Climb) (n : ℕ) → depths ≤ n → Walk parent depth w t c n → Climbed parent depth w t c
  walk-all c n b W = record { stops = go W.going; level = W.level; reads = W.reads }
    where
      go : (c.left + n ≤ depths) ⊎ (bits w c.at ≡ true) → (c.left ≡ 0) ⊎ (bits w c.at ≡ true)
      go (inl h) = inl (omega arith)
      go (inr h) = inr h

-- the parent of a transaction below the top is a number
pub parent_below : (parent depth : List ℕ) → Sources parent depth → (t : ℕ) → 1 < get_or depth t 0 → get_or parent t 0 < 24
parent_below parent depth S t h =
    let n = get_or depth t 0 - 2 in
    let e : get_or depth t 0 ≡ suc (suc n) = omega arith in
    deep_below depth (get_or parent t 0) n
    (sym (depth_is parent depth (get_or parent t 0)) ∙ ap (λ (j : ℕ). depth_in (bearers_of parent depth j)) (sym (parent_is parent depth t (suc n) e))
    ∙ up_one S.tree t (suc n) (depth_is parent depth t ∙ e)) S.long
