-- Tests of modes that go by strength, each law said once for all of them; which modes allow an access, and how that meets what bars it.
use mathlib.Core.Path.{◌≡◌, refl}
use mathlib.Core.Bool.{Bool, true, false, ◌||◌, false≢true}
use Prim.Native.Nat.{ℕ}
use Rattle.laws.proofs.Booleans.{or_cases, or_left, or_right, clash}
use Rattle.rules.specs.Event.{Access, to_write, to_read}
use Rattle.rules.specs.State.{Mode, nothing, reading, writing, is_lock, is_writing, stronger, Modes}
use Rattle.rules.specs.Locks.{mode_for, bars}

-- a grade: nothing fails the test, and the stronger of two modes passes it where one of them does
pub record Grade : Type 0 where
  pub test : Mode → Bool
  pub fails : test nothing ≡ false
  pub either : (m n : Mode) → test (stronger m n) ≡ (test m || test n)

pub lock_either : (m n : Mode) → is_lock (stronger m n) ≡ (is_lock m || is_lock n)
unfolding is_lock stronger
lock_either nothing n = refl
lock_either reading nothing = refl
lock_either reading reading = refl
lock_either reading writing = refl
lock_either writing n = refl

pub writing_either : (m n : Mode) → is_writing (stronger m n) ≡ (is_writing m || is_writing n)
unfolding is_writing stronger
writing_either nothing n = refl
writing_either reading nothing = refl
writing_either reading reading = refl
writing_either reading writing = refl
writing_either writing n = refl

pub lock_fails : is_lock nothing ≡ false
unfolding is_lock
lock_fails = refl

pub writing_fails : is_writing nothing ≡ false
unfolding is_writing
writing_fails = refl

-- any mode, write mode
abbrev pub any_mode : Grade
any_mode = record { test = is_lock; fails = lock_fails; either = lock_either }

abbrev pub write_mode : Grade
write_mode = record { test = is_writing; fails = writing_fails; either = writing_either }

-- the modes in which a holder has the access
abbrev pub allows : Access → Mode → Bool
allows to_write m = is_writing m
allows to_read m = is_lock m

pub allows_fails : (a : Access) → allows a nothing ≡ false
allows_fails to_write = writing_fails
allows_fails to_read = lock_fails

pub allows_either : (a : Access) (m n : Mode) → allows a (stronger m n) ≡ (allows a m || allows a n)
allows_either to_write m n = writing_either m n
allows_either to_read m n = lock_either m n

abbrev pub allowing : Access → Grade
allowing a = record { test = allows a; fails = allows_fails a; either = allows_either a }

pub bars_fails : (a : Access) → bars a nothing ≡ false
unfolding bars
bars_fails to_write = lock_fails
bars_fails to_read = writing_fails

pub bars_either : (a : Access) (m n : Mode) → bars a (stronger m n) ≡ (bars a m || bars a n)
unfolding bars
bars_either to_write m n = lock_either m n
bars_either to_read m n = writing_either m n

abbrev pub barring : Access → Grade
barring a = record { test = bars a; fails = bars_fails a; either = bars_either a }

-- what passes a grade is a lock
pub graded_lock : (g : Grade) (m : Mode) → g.test m ≡ true → is_lock m ≡ true
unfolding is_lock
graded_lock g nothing e = clash e g.fails
graded_lock g reading e = refl
graded_lock g writing e = refl

-- Two accesses: what is granted for a bars b, and another has b: then the other bars a.
pub meets : (a b : Access) (m : Mode) → bars b (mode_for a) ≡ true → allows b m ≡ true → bars a m ≡ true
unfolding bars mode_for is_lock is_writing
meets to_write to_write m p q = graded_lock write_mode m q
meets to_write to_read m p q = q
meets to_read to_write m p q = q
meets to_read to_read m p q = absurd (false≢true p)

-- what is granted for a has b, and another bars b: then the other bars a
pub covers : (a b : Access) (m : Mode) → allows b (mode_for a) ≡ true → bars b m ≡ true → bars a m ≡ true
unfolding bars mode_for is_lock is_writing
covers to_write to_write m p q = q
covers to_write to_read m p q = graded_lock write_mode m q
covers to_read to_write m p q = absurd (false≢true p)
covers to_read to_read m p q = q

-- t has the lock of r, held or retained, in a mode of the grade
abbrev pub has : (Mode → Bool) → Modes → Modes → ℕ → ℕ → Bool
has test held retained r t = test (held r t) || test (retained r t)

-- who has it in a mode of one kind has it in a mode of another
pub has_as : (f g : Mode → Bool) (held retained : Modes) (r t : ℕ) → ((m : Mode) → f m ≡ true → g m ≡ true) → has f held retained r t ≡ true → has g held retained r t ≡ true
has_as f g held retained r t h e =
    or_cases (f (held r t)) (f (retained r t)) e
    (λ p. or_left (g (held r t)) (g (retained r t)) (h (held r t) p))
    (λ p. or_right (g (held r t)) (g (retained r t)) (h (retained r t) p))
