-- What a prepared transaction asks of the rest: nobody has a lock or a version of what it changed, and what is written beside it changes nothing.
use mathlib.Core.Path.{◌≡◌, refl, ap, ◌∙◌}
use mathlib.Core.Bool.{Bool, true, false, cond, ◌&&◌, ◌||◌, false≢true}
use mathlib.Core.Option.{Option, none, some}
use Prim.Native.Nat.{ℕ, ◌^◌, ◌<◌}
use Rattle.laws.specs.Tests.{same, under}
use Rattle.laws.specs.Counting.{any, count}
use Rattle.laws.proofs.Tests.{same-eq, same_refl, or_false_left, or_false_right, Is, is_cases, yes', no', under-lt}
use Rattle.laws.proofs.Booleans.{or_cases, or_left, or_right, and_right, both, refute, clash}
use Rattle.laws.proofs.Counting.{any_false}
use Rattle.laws.proofs.Those.{count_none}
use Rattle.rules.specs.Geometry.{Geometry, records}
use Rattle.rules.specs.Event.{prepare, fits}
use Rattle.rules.specs.State.{Mode, nothing, is_lock, stronger, Modes, holds, retains}
use Rattle.rules.specs.Locks.{inherited, discarded}
use Rattle.rules.specs.Versions.{is_some}
use Rattle.rules.specs.Form.{Form}
use Rattle.rules.specs.Step.{is_busy, is_for, StateOf, changes, busy}
use Rattle.rules.specs.Sound.{Sound, is_calm}
use Rattle.rules.proofs.Medium.{changed_in, is_clear}
use Rattle.rules.proofs.Grades.{any_mode, has}
use Rattle.rules.proofs.Locks.{version_lock}

-- what a word can hold of a prepare
pub prepare_fits : (g : Geometry) (t k i : ℕ) → fits g (prepare t k i) ≡ true → (g.joint ≡ true) × (i < 256)
unfolding fits
prepare_fits g t k i h =
    let a = both (under t 32 && under k (2 ^ g.cut_bits) && under i 256) g.joint h in
    (a.1, under-lt i 256 (and_right (under t 32 && under k (2 ^ g.cut_bits)) (under i 256) a.0))

-- nobody has the lock of r: nobody has it that a parent inherits
pub free_inherited : (x y r : ℕ) (held retained : Modes) → ((t : ℕ) → has is_lock held retained r t ≡ false) → (j : ℕ) → is_lock (inherited x y held retained r j) ≡ false
unfolding inherited
free_inherited x y r held retained h j = go (same j y)
  where
    both_free : (a b : Mode) → is_lock a ≡ false → is_lock b ≡ false → is_lock (stronger a b) ≡ false
    both_free a b p q = any_mode.either a b ∙ rw (p, q)

    go : (b : Bool) → is_lock (cond b (stronger (retained r y) (stronger (held r x) (retained r x))) (retained r j)) ≡ false
    go true = both_free (retained r y) _ (or_false_right (is_lock (held r y)) _ (h y)) (both_free (held r x) (retained r x) (or_false_left _ (is_lock (retained r x)) (h x)) (or_false_right (is_lock (held r x)) _ (h x)))
    go false = or_false_right (is_lock (held r j)) _ (h j)

pub free_discarded : (dead : ℕ → Bool) (m : Modes) (r t : ℕ) → (dead t ≡ false → is_lock (m r t) ≡ false) → is_lock (discarded dead m r t) ≡ false
unfolding discarded is_lock
free_discarded dead m r t h = go (dead t) refl
  where
    go : (b : Bool) → dead t ≡ b → is_lock (cond b nothing (m r t)) ≡ false
    go true e = refl
    go false e = h e

-- a test that does not refuse a commit or a prepare: its versions may be written
pub clear_of : (f : Form) (s : StateOf f) (x : ℕ) → is_calm f.medium s.store ≡ true → (changes f s x && busy f s) ≡ false → is_clear f.geometry f.medium s.store (s.version x) ≡ true
unfolding is_calm changes busy is_clear changed_in
clear_of f s x calm h = go (is_cases (any (records f.geometry) (λ r. is_some (s.version x r))))
  where
    go : Is (any (records f.geometry) (λ r. is_some (s.version x r))) → (f.medium.emptied s.store || same (count (records f.geometry) (λ r. is_some (s.version x r))) 0) ≡ true
    go (yes' e) =
        let b : is_busy (f.medium.prepared s.store) ≡ false = rw e at h in
        or_left (f.medium.emptied s.store) _ (or_cases (f.medium.emptied s.store) (is_busy (f.medium.prepared s.store)) calm (λ q. q) (λ q. clash q b))
    go (no' e) =
        or_right (f.medium.emptied s.store) _ (rw (count_none (records f.geometry) (λ r. is_some (s.version x r)) (λ r k. any_false (records f.geometry) (λ r. is_some (s.version x r)) r e k)) (same_refl 0))

-- the identity that is prepared
pub for_some : (i : ℕ) (o : Option ℕ) → is_for i o ≡ true → o ≡ some i
unfolding is_for
for_some i none e = absurd (false≢true e)
for_some i (some j) e = ap some (same-eq j i e)

module _ {f : Form} {s : StateOf f} (S : Sound f s) where
  -- nobody has a lock of what is reserved
  pub unlocked : (r t : ℕ) → is_some (f.medium.pending s.store r) ≡ true → has is_lock s.held s.retained r t ≡ false
  unfolding holds retains
  unlocked r t e = S.reserved r t e

  -- nor a version of it
  pub pending_apart : (t r : ℕ) → is_some (f.medium.pending s.store r) ≡ true → is_some (s.version t r) ≡ false
  pending_apart t r e = refute (is_some (s.version t r)) (λ v. clash (version_lock S t r v) (unlocked r t e))

  pub version_apart : (t r : ℕ) → is_some (s.version t r) ≡ true → is_some (f.medium.pending s.store r) ≡ false
  version_apart t r v = refute (is_some (f.medium.pending s.store r)) (λ e. clash v (pending_apart t r e))
