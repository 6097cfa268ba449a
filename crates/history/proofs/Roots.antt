-- What has become of a transaction's writes so far, as the proofs label it: settled, lost, waiting for the decision on the prepared transaction, or
-- standing with the live transaction of a number.
use mathlib.Core.Path.{◌≡◌, refl, sym, ap, ◌∙◌}
use mathlib.Core.Bool.{Bool, true, false, cond, ◌||◌, true≢false, false≢true}
use mathlib.Core.List.{List, [], ◌∷◌}
use mathlib.Core.Logic.{◌≢◌, ◌⊎◌, inl, inr}
use Prim.Native.Nat.{ℕ}
use Rattle.laws.specs.Tests.{same}
use Rattle.laws.proofs.Tests.{same_cases, Same, is, isnt, same_refl, ne_false}
use Rattle.rules.specs.State.{mem}

pub data Root : Type 0 where
  settled lost waiting : Root
  at : ℕ → Root

abbrev pub is_settled : Root → Bool
is_settled settled = true
is_settled lost = false
is_settled waiting = false
is_settled (at a) = false

abbrev pub is_at : ℕ → Root → Bool
is_at x settled = false
is_at x lost = false
is_at x waiting = false
is_at x (at a) = same a x

-- what a transaction with line l sees
abbrev pub sees : List ℕ → Root → Bool
sees l settled = true
sees l lost = false
sees l waiting = false
sees l (at a) = mem a l

-- what stands with x goes to t
abbrev pub move : ℕ → Root → Root → Root
move x t settled = settled
move x t lost = lost
move x t waiting = waiting
move x t (at a) = cond (same a x) t (at a)

-- what stands with those that `dead` picks is lost
abbrev pub lose : (ℕ → Bool) → Root → Root
lose dead settled = settled
lose dead lost = lost
lose dead waiting = waiting
lose dead (at a) = cond (dead a) lost (at a)

abbrev pub is_waiting : Root → Bool
is_waiting settled = false
is_waiting lost = false
is_waiting waiting = true
is_waiting (at a) = false

-- settled, or waiting for that
abbrev pub is_kept : Root → Bool
is_kept c = is_settled c || is_waiting c

-- the decision: what waits is settled, or is lost
abbrev pub resolve : Bool → Root → Root
resolve d settled = settled
resolve d lost = lost
resolve d waiting = cond d settled lost
resolve d (at a) = at a

abbrev pub all_lost : Root → Root
all_lost = lose (λ a. true)

pub lost≢settled : lost ≢ settled
lost≢settled e = false≢true (ap is_settled e)

pub waiting≢settled : waiting ≢ settled
waiting≢settled e = false≢true (ap is_settled e)

pub at≢settled : {a : ℕ} → at a ≢ settled
at≢settled e = false≢true (ap is_settled e)

pub settled_cases : (c : Root) → (c ≡ settled) ⊎ (c ≢ settled)
settled_cases settled = inl refl
settled_cases lost = inr lost≢settled
settled_cases waiting = inr waiting≢settled
settled_cases (at a) = inr at≢settled

pub isnt_settled : (c : Root) → is_settled c ≡ false → c ≢ settled
isnt_settled c e q = true≢false (sym (ap is_settled q) ∙ e)

pub not-settled : (c : Root) → c ≢ settled → is_settled c ≡ false
not-settled settled n = absurd (n refl)
not-settled lost n = refl
not-settled waiting n = refl
not-settled (at a) n = refl

pub sees_nil : (c : Root) → is_settled c ≡ sees [] c
unfolding mem
sees_nil settled = refl
sees_nil lost = refl
sees_nil waiting = refl
sees_nil (at a) = refl

pub sees_cons : (a : ℕ) (l : List ℕ) (c : Root) → (is_at a c || sees l c) ≡ sees (a ∷ l) c
unfolding mem
sees_cons a l settled = refl
sees_cons a l lost = refl
sees_cons a l waiting = refl
sees_cons a l (at x) = refl

-- the writes that stand with x go to t: what a line sees then
pub gains : (m : List ℕ) (x : ℕ) (t c : Root) → sees m t ≡ true → (is_at x c || sees m c) ≡ sees m (move x t c)
gains m x t settled h = refl
gains m x t lost h = refl
gains m x t waiting h = refl
gains m x t (at a) h = go (same a x) refl
  where
    go : (b : Bool) → same a x ≡ b → (b || mem a m) ≡ sees m (cond b t (at a))
    go true e = sym h
    go false e = refl

pub stays : (m : List ℕ) (x : ℕ) (t c : Root) → sees m t ≡ false → mem x m ≡ false → sees m c ≡ sees m (move x t c)
stays m x t settled h n = refl
stays m x t lost h n = refl
stays m x t waiting h n = refl
stays m x t (at a) h n = go (same_cases a x)
  where
    go : Same a x → mem a m ≡ sees m (move x t (at a))
    go (is e s _) = rw (s, h, e) n
    go (isnt e s _) = rw s

pub moved_away : (x : ℕ) (t c : Root) → is_at x t ≡ false → false ≡ is_at x (move x t c)
moved_away x t settled h = refl
moved_away x t lost h = refl
moved_away x t waiting h = refl
moved_away x t (at a) h = go (same_cases a x)
  where
    go : Same a x → false ≡ is_at x (move x t (at a))
    go (is e s _) = rw (s, h)
    go (isnt e s _) = rw (s, s)

pub moved_to : (y x : ℕ) (c : Root) → (is_at x c || is_at y c) ≡ is_at y (move x (at y) c)
moved_to y x settled = refl
moved_to y x lost = refl
moved_to y x waiting = refl
moved_to y x (at a) = go (same_cases a x)
  where
    go : Same a x → (is_at x (at a) || is_at y (at a)) ≡ is_at y (move x (at y) (at a))
    go (is e s _) = rw (s, same_refl y)
    go (isnt e s _) = rw s

pub moved_past : (z x : ℕ) (t c : Root) → z ≢ x → is_at z t ≡ false → is_at z c ≡ is_at z (move x t c)
moved_past z x t settled n h = refl
moved_past z x t lost n h = refl
moved_past z x t waiting n h = refl
moved_past z x t (at a) n h = go (same_cases a x)
  where
    go : Same a x → is_at z (at a) ≡ is_at z (move x t (at a))
    go (is e s _) = rw (s, h, e) (ne_false x z (λ q. n (sym q)))
    go (isnt e s _) = rw s
