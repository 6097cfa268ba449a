-- The tree of live transactions, as a line for each number: the transaction and its ancestors, nearest first; [] where the number is free.
-- To be on a line is transitive and antisymmetric.
use mathlib.Core.Path.{◌≡◌, refl, sym, ap, ◌∙◌}
use mathlib.Core.Bool.{Bool, true, false, false≢true, or-true}
use mathlib.Core.List.{List, [], ◌∷◌}
use mathlib.Core.Logic.{◌≢◌, ◌⊎◌, inl, inr}
use Prim.Native.Nat.{ℕ, ◌<◌}
use native.Mathlib.Omega.{arith}
use lib.ListN.{length}
use Rattle.laws.specs.Tests.{same}
use Rattle.laws.proofs.Tests.{same-eq, same_refl}
use Rattle.laws.proofs.Booleans.{or_cases}
use Rattle.rules.specs.State.{mem, open_state}

-- every part of a line is the line of its first transaction
abbrev pub Good : (ℕ → List ℕ) → List ℕ → Type 0
Good line [] = Unit {0}
Good line (a ∷ l) = (line a ≡ a ∷ l) × Good line l

abbrev pub Lines : Type 0
Lines = ℕ → List ℕ

abbrev pub is_cons : List ℕ → Bool
is_cons [] = false
is_cons (a ∷ l) = true

pub record Tree (limit : ℕ) (line : Lines) : Type 0 where
  pub first : (j a : ℕ) (l : List ℕ) → line j ≡ a ∷ l → a ≡ j
  pub good : (j : ℕ) → Good line (line j)
  pub small : (j : ℕ) → is_cons (line j) ≡ true → j < limit

pub mem_cons : (x : ℕ) (l : List ℕ) → mem x l ≡ true → is_cons l ≡ true
unfolding open_state
mem_cons x [] e = e
mem_cons x (a ∷ l) e = refl

-- the line of a member is a part
pub mem_up : (line : Lines) (l : List ℕ) (a x : ℕ) → Good line l → mem a l ≡ true → mem x (line a) ≡ true → mem x l ≡ true
unfolding open_state
mem_up line [] a x g e h = e
mem_up line (b ∷ m) a x g e h =
    or_cases (same a b) (mem a m) e
    (λ s. rw (same-eq a b s, g.0) at h)
    (λ s. rw (mem_up line m a x g.1 s h) (or-true (same x b)))

mem-length : (line : Lines) (l : List ℕ) (a : ℕ) → Good line l → mem a l ≡ true → (line a ≡ l) ⊎ (length (line a) < length l)
unfolding open_state
mem-length line [] a g e = absurd (false≢true e)
mem-length line (b ∷ m) a g e =
    or_cases (same a b) (mem a m) e
    (λ s. inl (ap line (same-eq a b s) ∙ g.0))
    (λ s. go (mem-length line m a g.1 s))
  where
    go : (line a ≡ m) ⊎ (length (line a) < length m) → (line a ≡ b ∷ m) ⊎ (length (line a) < length (b ∷ m))
    go (inl q) = inr (rw q (omega arith))
    go (inr h) = inr (omega arith)

module _ {limit : ℕ} {line : Lines} (T : Tree limit line) where
  -- the head of a line that isn't empty
  pub own : (j : ℕ) → is_cons (line j) ≡ true → mem j (line j) ≡ true
  unfolding open_state
  own j e = go (line j) refl e
    where
      go : (l : List ℕ) → line j ≡ l → is_cons l ≡ true → mem j l ≡ true
      go [] q h = h
      go (a ∷ l) q h = rw (T.first j a l q, same_refl j)

  pub up : (z a x : ℕ) → mem a (line z) ≡ true → mem x (line a) ≡ true → mem x (line z) ≡ true
  unfolding open_state
  up z a x e h = mem_up line (line z) a x (T.good z) e h

  heads : (a z : ℕ) → line a ≡ line z → is_cons (line a) ≡ true → a ≡ z
  unfolding open_state
  heads a z q c = go (line a) refl c
    where
      go : (l : List ℕ) → line a ≡ l → is_cons l ≡ true → a ≡ z
      go [] e h = absurd (false≢true h)
      go (b ∷ m) e h = sym (T.first a b m e) ∙ T.first z b m (sym q ∙ e)

  pub antisym : (a z : ℕ) → mem a (line z) ≡ true → mem z (line a) ≡ true → a ≡ z
  unfolding open_state
  antisym a z e h = go (mem-length line (line z) a (T.good z) e) (mem-length line (line a) z (T.good a) h)
    where
      go : (line a ≡ line z) ⊎ (length (line a) < length (line z)) → (line z ≡ line a) ⊎ (length (line z) < length (line a)) → a ≡ z
      go (inl q) k = heads a z q (mem_cons z (line a) h)
      go (inr p) (inl q) = sym (heads z a q (mem_cons a (line z) e))
      go (inr p) (inr q) = absurd (omega arith)

  -- an ancestor's line is shorter
  pub shorter : (a z : ℕ) → mem a (line z) ≡ true → a ≢ z → length (line a) < length (line z)
  shorter a z e n = go (mem-length line (line z) a (T.good z) e)
    where
      go : (line a ≡ line z) ⊎ (length (line a) < length (line z)) → length (line a) < length (line z)
      go (inl q) = absurd (n (heads a z q (rw q (mem_cons a (line z) e))))
      go (inr h) = h
