-- Some rules in other words than their definitions: the sign and the limit decide an age; versions go with those
-- that an abort ends, and a report lets nobody hold more.
use mathlib.Core.Path.{◌≡◌, refl}
use mathlib.Core.Bool.{Bool, false}
use mathlib.Core.List.{List}
use Prim.Native.Nat.{ℕ, ◌<◌, ◌≤◌}
use lib.IntN.{pos, negsuc}
use lib.Dec.{leb-suc-zero}
use borrow.Author.Tests.{le-leb, lt-leb}
use Rattle.rules.specs.State.{line_of, mem, State}
use Rattle.rules.specs.Locks.{discarded}
use Rattle.rules.specs.Versions.{dropped}
use Rattle.rules.specs.Step.{ended, retaining, aborted}
use Rattle.rules.specs.Age.{ahead, live, stale, judged}

pub ahead_below_zero : (n limit : ℕ) → judged (negsuc n) limit ≡ ahead (negsuc n)
unfolding judged
ahead_below_zero n limit = refl

pub live_to_the_limit : (n limit : ℕ) → n ≤ limit → judged (pos n) limit ≡ live (pos n)
unfolding judged
live_to_the_limit n limit h = rw (le-leb n limit h, leb-suc-zero n) refl

pub stale_above : (n limit : ℕ) → limit < n → judged (pos n) limit ≡ stale (pos n)
unfolding judged
stale_above n limit h = rw (lt-leb n limit h, leb-suc-zero n) refl

pub report_keeps_no_version : {S : Type 0} (s : State S) (x : ℕ) (w : Bool) (line : List ℕ) → (aborted s x w line).version ≡ dropped (λ j. mem x (line_of s.bearer j)) s.version
unfolding aborted ended retaining
report_keeps_no_version s x w line = refl

pub report_holds_nothing : {S : Type 0} (s : State S) (x : ℕ) (w : Bool) (line : List ℕ) (r j : ℕ) → mem x (line_of s.bearer j) ≡ false → (aborted s x w line).held r j ≡ s.held r j
unfolding aborted ended retaining discarded
report_holds_nothing s x w line r j e = rw e refl
