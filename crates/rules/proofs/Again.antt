-- Asking for a lock that is held already, in the mode that is asked for or a stronger one, is done and changes nothing. (The asker has no live
-- child.)
use mathlib.Core.Path.{◌≡◌, refl, sym, ap, ◌∙◌, fun_ext}
use mathlib.Core.Bool.{true, false, not, cond, ◌&&◌, ◌||◌, false≢true, or-true}
use mathlib.Core.Logic.{◌≢◌}
use mathlib.Core.Option.{none, some}
use Prim.Native.Nat.{ℕ}
use Rattle.laws.specs.Tests.{same}
use Rattle.laws.proofs.Tests.{same_cases, Same, is, isnt, same-eq, or_false_left, Is, is_cases, yes', no'}
use Rattle.laws.proofs.Booleans.{or_right, and_left, and_right, refute, clash}
use Rattle.laws.proofs.Counting.{all_of}
use Rattle.rules.specs.Geometry.{transactions}
use Rattle.rules.specs.Event.{Access, to_write, to_read, lock}
use Rattle.rules.specs.State.{Mode, nothing, reading, writing, is_lock, is_writing, stronger, line_of, mem, live, holds, holds_writing}
use Rattle.rules.specs.Locks.{mode_for, bars, holders_allow, retainers_allow, grantable, granted}
use Rattle.rules.specs.Versions.{is_some}
use Rattle.rules.specs.Form.{Form}
use Rattle.rules.specs.Step.{done, first_of, has_child, StateOf, reserved, locked, finished, refusals, refusal, act, outcome_by, step}
use Rattle.rules.specs.Sound.{Sound}
use Rattle.rules.proofs.Grades.{allows, allowing, graded_lock}
use Rattle.rules.proofs.Locks.{owned_of}

-- a mode that allows an access is as strong as the one that is asked for
as_strong : (a : Access) (m : Mode) → allows a m ≡ true → stronger m (mode_for a) ≡ m
unfolding is_lock is_writing stronger mode_for
as_strong to_write nothing e = absurd (false≢true e)
as_strong to_write reading e = absurd (false≢true e)
as_strong to_write writing e = refl
as_strong to_read nothing e = absurd (false≢true e)
as_strong to_read reading e = refl
as_strong to_read writing e = refl

-- no other holds the lock in a mode that bars what is held
sole : {f : Form} {s : StateOf f} → Sound f s → (t r : ℕ) (a : Access) → allows a (s.held r t) ≡ true → (u : ℕ) → u ≢ t → bars a (s.held r u) ≡ false
unfolding bars holds holds_writing
sole {f} {s} S t r to_write e u n = refute (is_lock (s.held r u)) (λ d. n (sym (S.one_holder r t u e d)))
sole {f} {s} S t r to_read e u n = refute (is_writing (s.held r u)) (λ d. n (S.one_holder r u t d e))

-- t holds the lock of r as the access needs it
module _ {f : Form} {s : StateOf f} (S : Sound f s) (t r : ℕ) (a : Access) (held : allows a (s.held r t) ≡ true) where
  pub grants_again : grantable a s.held s.retained (line_of s.bearer t) t r ≡ true
  unfolding grantable holders_allow retainers_allow
  grants_again =
      rw (all_of transactions (λ u. not (bars a (s.held r u)) || same u t) (λ u h. holder u (same_cases u t)))
      (all_of transactions (λ u. not (bars a (s.retained r u)) || mem u (line_of s.bearer t)) (λ u h. retainer u (is_cases (bars a (s.retained r u)))))
    where
      holder : (u : ℕ) → Same u t → (not (bars a (s.held r u)) || same u t) ≡ true
      holder u (is e d _) = rw d (or-true (not (bars a (s.held r u))))
      holder u (isnt e d _) = rw (sole S t r a held u e)

      retainer : (u : ℕ) → Is (bars a (s.retained r u)) → (not (bars a (s.retained r u)) || mem u (line_of s.bearer t)) ≡ true
      retainer u (yes' e) = rw ((owned_of S).beneath a r t u held (or_right (bars a (s.held r u)) (bars a (s.retained r u)) e)) (or-true (not (bars a (s.retained r u))))
      retainer u (no' e) = rw e

  granted_again : granted a t r s.held ≡ s.held
  unfolding granted
  granted_again = fun_ext (λ q. fun_ext (λ j. go q j (is_cases (same q r && same j t))))
    where
      go : (q j : ℕ) → Is (same q r && same j t) → cond (same q r && same j t) (stronger (s.held q j) (mode_for a)) (s.held q j) ≡ s.held q j
      go q j (yes' d) = rw (d, same-eq q r (and_left (same q r) (same j t) d), same-eq j t (and_right (same q r) (same j t) d)) (as_strong a (s.held r t) held)
      go q j (no' d) = rw d

  alive : live s t ≡ true
  unfolding holds
  alive = S.holder_live r t (graded_lock (allowing a) (s.held r t) held)

  up : s.up ≡ true
  up = go (is_cases s.up)
    where
      go : Is s.up → s.up ≡ true
      go (yes' d) = d
      go (no' d) = clash alive (S.idle t d)

  unreserved : reserved f s r ≡ false
  unfolding reserved holds
  unreserved = refute (is_some (f.medium.pending s.store r)) (λ d. clash (graded_lock (allowing a) (s.held r t) held) (or_false_left _ _ (S.reserved r t d)))

  not_refused : has_child s t ≡ false → refusal f s (lock t r a) ≡ none
  unfolding refusal refusals first_of
  not_refused childless = rw (unreserved, alive, childless, grants_again, up)

  pub locks_again : has_child s t ≡ false → step f s (some (lock t r a)) ≡ finished s 0
  unfolding step outcome_by act finished locked
  locks_again childless =
      ap (outcome_by f s (lock t r a)) (not_refused childless)
      ∙ λ i. record { state = record { up = s.up; bearer = s.bearer; held = granted_again i; retained = s.retained; version = s.version; store = s.store }; answer = done 0 }
