-- Changes of the sets of holders and retainers are the rules' changes of modes.
use mathlib.Core.Path.{◌≡◌, refl, sym, ap, ap₂, ◌∙◌, fun_ext}
use mathlib.Core.Bool.{Bool, true, false, not, cond, ◌&&◌, ◌||◌, or-false, and-false, and-true}
use mathlib.Core.List.{List}
use mathlib.Core.Logic.{◌≢◌}
use Prim.Native.Nat.{ℕ, zero, suc, ◌+◌, ◌*◌}
use lib.Dec.{eqb-suc-zero}
use Rattle.laws.specs.Tests.{same}
use Rattle.laws.specs.Counting.{all}
use Rattle.laws.proofs.Tests.{same_cases, Same, is, isnt}
use Rattle.rules.specs.Geometry.{transactions}
use Rattle.rules.specs.Event.{Access, to_write, to_read, access_of}
use Rattle.rules.specs.State.{nothing, is_lock, is_writing, stronger, Modes, mem}
use Rattle.rules.specs.Locks.{mode_for, bars, holders_allow, retainers_allow, grantable, granted, inherited, discarded}
use Rattle.state_array.specs.View.{Owners, any_mode, write_mode, mode_of, modes_of, Nested}
use Rattle.state_array.specs.Changes.{access_when, barring, open_to, joined_for, less, leaving, replacing, inheriting}
use Rattle.state_array.proofs.Joined.{raises, joined-any, joined_write}

-- a mode or value that isn't 0 asks to read
pub access_is : (v : ℕ) → access_of v ≡ access_when (not (same v 0))
unfolding access_of access_when same
access_is zero = refl
access_is (suc v) = ap (λ (b : Bool). access_when (not b)) (sym (eqb-suc-zero v))

is_writing_lem : (a w : Bool) → is_writing (mode_of a w) ≡ w
unfolding is_writing mode_of
is_writing_lem a true = refl
is_writing_lem true false = refl
is_writing_lem false false = refl

is_lock_lem : (a w : Bool) → (w ≡ true → a ≡ true) → is_lock (mode_of a w) ≡ a
unfolding is_lock mode_of
is_lock_lem a true h = sym (h refl)
is_lock_lem true false h = refl
is_lock_lem false false h = refl

pub writing_is : (o : Owners) (r t : ℕ) → is_writing (modes_of o r t) ≡ write_mode o r t
unfolding modes_of
writing_is o r t = is_writing_lem (any_mode o r t) (write_mode o r t)

pub lock_is : (o : Owners) → Nested o → (r t : ℕ) → is_lock (modes_of o r t) ≡ any_mode o r t
unfolding modes_of
lock_is o n r t = is_lock_lem (any_mode o r t) (write_mode o r t) (n r t)

-- those that bar are in the place that a grant looks at
pub bars_is : (a : Access) (o : Owners) → Nested o → (r t : ℕ) → bars a (modes_of o r t) ≡ o (barring a r) t
unfolding bars barring any_mode write_mode
bars_is to_write o n r t = lock_is o n r t
bars_is to_read o n r t = writing_is o r t

pub grantable_is : (a : Access) (held retained : Owners) → Nested held → Nested retained → (line : List ℕ) (t r : ℕ)
    → open_to held retained (λ u. mem u line) t (barring a r) ≡ grantable a (modes_of held) (modes_of retained) line t r
unfolding open_to grantable holders_allow retainers_allow
grantable_is a held retained h m line t r =
    ap₂ ◌&&◌
    (ap (all transactions) (fun_ext (λ u. ap (λ (b : Bool). not b || same u t) (sym (bars_is a held h r u)))))
    (ap (all transactions) (fun_ext (λ u. ap (λ (b : Bool). not b || mem u line) (sym (bars_is a retained m r u)))))

-- the stronger of two modes is, in each set, the union
pub stronger_is : (a w b v : Bool) → stronger (mode_of a w) (mode_of b v) ≡ mode_of (a || b) (w || v)
unfolding mode_of stronger
stronger_is a true b v = refl
stronger_is true false b true = refl
stronger_is true false true false = refl
stronger_is true false false false = refl
stronger_is false false b v = refl

-- the sets of the mode that is asked for
mode_for_lem : (a : Access) → mode_for a ≡ mode_of true (raises a)
unfolding mode_for mode_of raises
mode_for_lem to_write = refl
mode_for_lem to_read = refl

pub joined_granted : (a : Access) (o : Owners) (t r : ℕ) → modes_of (joined_for a t r o) ≡ granted a t r (modes_of o)
unfolding modes_of granted
joined_granted a o t r = fun_ext (λ q. fun_ext (λ j.
    ap₂ mode_of (joined-any a t r o q j) (joined_write a t r o q j) ∙ go (any_mode o q j) (write_mode o q j) (same q r && same j t)))
  where
    go : (x w b : Bool) → mode_of (x || b) (w || (raises a && b)) ≡ cond b (stronger (mode_of x w) (mode_for a)) (mode_of x w)
    go x w true = ap (λ (c : Bool). mode_of (x || true) (w || c)) (and-true (raises a)) ∙ sym (ap (stronger (mode_of x w)) (mode_for_lem a) ∙ stronger_is x w true (raises a))
    go x w false = ap₂ mode_of (or-false x) (ap (λ (c : Bool). w || c) (and-false (raises a)) ∙ or-false w)

pub leaving_discarded : (gone : ℕ → Bool) (o : Owners) → modes_of (leaving gone o) ≡ discarded gone (modes_of o)
unfolding modes_of mode_of any_mode write_mode leaving less discarded
leaving_discarded gone o = fun_ext (λ r. fun_ext (λ j. go (gone j) (o (2 * r) j) (o (2 * r + 1) j)))
  where
    go : (g a w : Bool) → mode_of (not g && a) (not g && w) ≡ cond g nothing (mode_of a w)
    go true a w = refl
    go false a w = refl

mode_none : mode_of false false ≡ nothing
unfolding mode_of
mode_none = refl

-- p retains what t held or retained, in the strongest mode
pub inheriting_inherited : (held retained : Owners) (t p : ℕ) → p ≢ t
    → modes_of (inheriting t p held retained) ≡ discarded (λ j. same j t) (inherited t p (modes_of held) (modes_of retained))
unfolding modes_of any_mode write_mode inheriting replacing discarded inherited
inheriting_inherited held retained t p n = fun_ext (λ r. fun_ext (λ j. go (2 * r) (2 * r + 1) j (same_cases j t) (same_cases j p)))
  where
    go : (k l j : ℕ) → Same j t → Same j p
        → mode_of ((not (same j t) && retained k j) || (same j p && (held k t || retained k t))) ((not (same j t) && retained l j) || (same j p && (held l t || retained l t)))
        ≡ cond (same j t) nothing (cond (same j p) (stronger (mode_of (retained k p) (retained l p)) (stronger (mode_of (held k t) (held l t)) (mode_of (retained k t) (retained l t)))) (mode_of (retained k j) (retained l j)))
    go k l j (is e s _) (is f u _) = absurd (n (sym f ∙ e))
    go k l j (is e s _) (isnt f u _) = rw (s, u) mode_none
    go k l j (isnt e s _) (is f u _) =
        rw (s, u, f) (sym (ap (stronger (mode_of (retained k p) (retained l p))) (stronger_is (held k t) (held l t) (retained k t) (retained l t))
        ∙ stronger_is (retained k p) (retained l p) (held k t || retained k t) (held l t || retained l t)))
    go k l j (isnt e s _) (isnt f u _) = rw (s, u) (ap₂ mode_of (or-false (retained k j)) (or-false (retained l j)))

-- who goes anyway may go before
pub discarded_again : (gone : ℕ → Bool) (t : ℕ) (m : Modes) → gone t ≡ true → discarded gone (discarded (λ j. same j t) m) ≡ discarded gone m
unfolding discarded
discarded_again gone t m e = fun_ext (λ r. fun_ext (λ j. go r j (same_cases j t)))
  where
    go : (r j : ℕ) → Same j t → cond (gone j) nothing (cond (same j t) nothing (m r j)) ≡ cond (gone j) nothing (m r j)
    go r j (is f s _) = rw (s, f, e)
    go r j (isnt f s _) = rw s
