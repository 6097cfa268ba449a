-- An abort, in the rules: with a report the parent of a child retains its locks; then it ends with all beneath it.
use mathlib.Core.Path.{◌≡◌, refl, sym, ap, subst⁻¹, ◌∙◌}
use mathlib.Core.Bool.{Bool, true, false, ◌&&◌}
use mathlib.Core.List.{List, ◌∷◌}
use mathlib.Core.Option.{some}
use Prim.Native.Nat.{ℕ, zero, suc, ◌*◌}
use native.Mathlib.Omega.{arith}
use lib.ListN.{get_or}
use Rattle.laws.specs.Tests.{under}
use Rattle.laws.specs.Bits.{bits}
use Rattle.laws.proofs.Tests.{lt-under, under-lt}
use Rattle.laws.proofs.Booleans.{refute}
use Rattle.rules.specs.Event.{abort}
use Rattle.rules.specs.State.{Bearers, line_of, mem, Modes}
use Rattle.rules.specs.Locks.{inherited, reported, discarded}
use Rattle.rules.specs.Form.{Form}
use Rattle.rules.specs.Geometry.{records}
use Rattle.rules.specs.Step.{ended, retaining, aborted}
use Rattle.rules.proofs.Locks.{own_line, beneath_closed}
use Rattle.leaf_set.specs.Sets.{sets}
use Rattle.state_array.specs.View.{Owners, bearers_of, modes_of, Nested}
use Rattle.state_array.specs.Changes.{leaving, reporting, Rows, Cleared}
use Rattle.state_array.proofs.Nested.{reporting_nested}
use Rattle.state_array.proofs.Modes.{inheriting_inherited, discarded_again}
use Rattle.state_whole.specs.Whole.{Arrays, arrays, view, line_in, Intact, Stepped, Ready}
use Rattle.state_whole.proofs.Rules.{abort_done}
use Rattle.state_whole.proofs.Steps.{answer, finishes, up_is, live_is}
use Rattle.state_whole.proofs.Ends.{rest_is, rest_form}
use Rattle.state_whole.proofs.Parents.{top_line, parent_other, line_up, parent_line}

module _ (f : Form) where
  module _ (x : Arrays) (I : Intact f x) (t gone : ℕ) (w : Bool) (R : Ready f x t) (those : bits gone ≡ (λ u. sets x.line u t)) where
    abbrev b : Bearers
    b = bearers_of x.parent x.depth

    abbrev d : ℕ
    d = get_or x.depth t 0

    abbrev p : ℕ
    p = get_or x.parent t 0

    gone_is : bits gone ≡ (λ j. mem t (line_of b j))
    unfolding line_in
    gone_is = those ∙ ap {B = ℕ → Bool} (λ (f : ℕ → ℕ → Bool) u. f u t) I.form.lines

    goes : bits gone t ≡ true
    unfolding view
    goes = ap (λ (f : ℕ → Bool). f t) gone_is ∙ own_line I.sound t (live_is f x t R.live)

    closed : (z a : ℕ) → bits gone z ≡ false → bits gone a ≡ true → mem a (line_of b z) ≡ false
    unfolding view
    closed z a n k = beneath_closed I.sound t z a (sym (ap (λ (f : ℕ → Bool). f z) gone_is) ∙ n) (sym (ap (λ (f : ℕ → Bool). f a) gone_is) ∙ k)

    abbrev H : Owners
    H = sets x.held

    abbrev M : Owners
    M = sets x.retained

    -- to those that stay, the report is that of the rules
    told_is : (w : Bool) (n : ℕ) → d ≡ n → discarded (bits gone) (modes_of (reporting (w && under 1 n) t p H M)) ≡ discarded (bits gone) (reported t w (line_of b t) (modes_of H) (modes_of M))
    unfolding reporting reported
    told_is false n e = refl
    told_is true zero e = let h = R.live in absurd (omega arith)
    told_is true (suc zero) e =
        rw (top_line f x I t e, refute (under 1 1) (λ q. let h = under-lt 1 1 q in absurd (omega arith)))
    told_is true (suc (suc n)) e =
        rw (line_up f x I t n e ∙ ap (λ (l : List ℕ). t ∷ l) (parent_line f x I t n e), lt-under 1 (suc (suc n)) (omega arith))
        (ap (discarded (bits gone)) (inheriting_inherited H M t p (parent_other f x I t n e)) ∙ discarded_again (bits gone) t (inherited t p (modes_of H) (modes_of M)) goes)

    pub abort_steps : (kept parent depth line held retained writers : List ℕ) → Rows (2 * records f.geometry) (reporting (w && under 1 d) t p H M) kept
        → Cleared (bits gone) x.parent parent → Cleared (bits gone) x.depth depth → Cleared (bits gone) x.line line
        → Rows (2 * records f.geometry) (leaving (bits gone) H) held → Rows (2 * records f.geometry) (leaving (bits gone) (sets kept)) retained → Rows (records f.geometry) (leaving (bits gone) (sets x.writers)) writers
        → Stepped f x (some (abort t w)) (answer 0 0) (arrays x.up parent depth line held retained writers x.work x.store)
    unfolding view aborted
    abort_steps kept parent depth line held retained writers T P D L h m v =
        let left : Modes = reported t w (line_of b t) (modes_of H) (modes_of M) in
        let K : discarded (bits gone) (modes_of (sets kept)) ≡ discarded (bits gone) left = ap (λ (o : Owners). discarded (bits gone) (modes_of o)) T.are ∙ told_is w d refl in
        finishes f x _ (some (abort t w)) (aborted (view f x) t w (line_of (view f x).bearer t)) 0
        (abort_done f (view f x) t (up_is f x R.up) (live_is f x t R.live) w)
        (rest_is f x I (bits gone) closed kept left K parent depth line held retained writers x.store P D L h m v
        ∙ ap (λ (dead : ℕ → Bool). ended (retaining (view f x) left) dead (f.medium.from_bytes x.store)) gone_is)
        (rest_form f x I (bits gone) closed kept left K parent depth line held retained writers x.store P D L h m v
        (subst⁻¹ (λ (o : Owners). Nested o) T.are (reporting_nested (w && under 1 d) t p H M I.form.held_nested I.form.retained_nested)) I.form.stores)

  -- the same, where the number of records is told
  pub abort_steps_of : (n : ℕ) → n ≡ records f.geometry → (x : Arrays) (I : Intact f x) (t gone : ℕ) (w : Bool) (R : Ready f x t) → bits gone ≡ (λ u. sets x.line u t)
      → (kept parent depth line held retained writers : List ℕ) → Rows (2 * n) (reporting (w && under 1 (get_or x.depth t 0)) t (get_or x.parent t 0) (sets x.held) (sets x.retained)) kept
      → Cleared (bits gone) x.parent parent → Cleared (bits gone) x.depth depth → Cleared (bits gone) x.line line
      → Rows (2 * n) (leaving (bits gone) (sets x.held)) held → Rows (2 * n) (leaving (bits gone) (sets kept)) retained → Rows n (leaving (bits gone) (sets x.writers)) writers
      → Stepped f x (some (abort t w)) (answer 0 0) (arrays x.up parent depth line held retained writers x.work x.store)
  abort_steps_of n e x I t gone w R those kept parent depth line held retained writers T P D L h m v =
      abort_steps x I t gone w R those kept parent depth line held retained writers (record { are = T.are; long = T.long ∙ ap (λ (k : ℕ). 2 * k) e }) P D L
      (record { are = h.are; long = h.long ∙ ap (λ (k : ℕ). 2 * k) e }) (record { are = m.are; long = m.long ∙ ap (λ (k : ℕ). 2 * k) e }) (record { are = v.are; long = v.long ∙ e })
