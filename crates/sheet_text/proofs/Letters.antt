-- Which letter a byte is, and where the reading stands after one.
use mathlib.Core.Path.{◌≡◌, refl, sym, ◌∙◌, ap, subst}
use mathlib.Core.Bool.{Bool, true, false, cond}
use mathlib.Core.Logic.{◌≢◌}
use Prim.Native.Nat.{ℕ, zero, suc, ◌-◌, ◌≤◌, ◌<◌}
use native.Mathlib.Omega.{arith}
use Rattle.laws.specs.Tests.{same}
use Rattle.laws.proofs.Tests.{ne_false, Same, is, isnt, same_cases}
use Rattle.sheet_text.specs.Scan.{between, ended, dead, Letter, opening, closing, unknown, plain, letter_of, opened, level_closed, stepped, scan_opened, pick, open_scan}

-- which letter a byte is
pub is_opening : {b : ℕ} → b ≡ 123 → letter_of b ≡ opening
unfolding open_scan same
is_opening e = ap letter_of e

pub is_closing : {b : ℕ} → b ≡ 125 → letter_of b ≡ closing
unfolding open_scan same
is_closing e = ap letter_of e

pub is_closing_too : {b : ℕ} → b ≡ 33 → letter_of b ≡ closing
unfolding open_scan same
is_closing_too e = ap letter_of e

pub is_lock_lem : {b : ℕ} → b ≡ 76 → letter_of b ≡ plain 0 9
unfolding open_scan same
is_lock_lem e = ap letter_of e

pub is_write : {b : ℕ} → b ≡ 87 → letter_of b ≡ plain 4 3
unfolding open_scan same
is_write e = ap letter_of e

pub is_read : {b : ℕ} → b ≡ 82 → letter_of b ≡ plain 2 1
unfolding open_scan same
is_read e = ap letter_of e

pub is_unknown : (b : ℕ) → b ≢ 123 → b ≢ 125 → b ≢ 33 → b ≢ 76 → b ≢ 87 → b ≢ 82 → letter_of b ≡ unknown
unfolding open_scan
is_unknown b n₁ n₂ n₃ n₄ n₅ n₆ = simp (ne_false b 123 n₁, ne_false b 125 n₂, ne_false b 33 n₃, ne_false b 76 n₄, ne_false b 87 n₅, ne_false b 82 n₆)

-- an opening brace is no other letter
abbrev Other : Letter → Type 0
Other opening = ⊥
Other closing = Unit {0}
Other unknown = Unit {0}
Other (plain n low) = Unit {0}

not_opening : (x : Letter) → Other x → x ≡ opening → ⊥
not_opening x o e = subst Other e o

-- and a letter is the byte
pub opening_is : (b : ℕ) → letter_of b ≡ opening → b ≡ 123
unfolding open_scan
opening_is b e = go (same_cases b 123)
  where
    other : (x y z u v : Bool) → pick x closing (pick y closing (pick z (plain 0 9) (pick u (plain 4 3) (pick v (plain 2 1) unknown)))) ≡ opening → ⊥
    other true y z u v q = not_opening closing tt q
    other false true z u v q = not_opening closing tt q
    other false false true u v q = not_opening (plain 0 9) tt q
    other false false false true v q = not_opening (plain 4 3) tt q
    other false false false false true q = not_opening (plain 2 1) tt q
    other false false false false false q = not_opening unknown tt q

    go : Same b 123 → b ≡ 123
    go (is p t t') = p
    go (isnt n t t') = absurd (other (same b 125) (same b 33) (same b 76) (same b 87) (same b 82) (sym (ap (λ (x : Bool). pick x opening (pick (same b 125) closing (pick (same b 33) closing (pick (same b 76) (plain 0 9) (pick (same b 87) (plain 4 3) (pick (same b 82) (plain 2 1) unknown)))))) t) ∙ e))

pub begun-not : (x : Letter) → (x ≡ opening → ⊥) → scan_opened x ≡ dead
unfolding open_scan
begun-not opening n = absurd (n refl)
begun-not closing n = refl
begun-not unknown n = refl
begun-not (plain k low) n = refl

pub no_letter : (l r : ℕ) → stepped unknown l r ≡ dead
unfolding open_scan
no_letter l r = refl

-- a step needs a free event
pub no_room : (x : Letter) (l : ℕ) {n low : ℕ} → x ≡ plain n low → stepped x l 0 ≡ dead
unfolding open_scan
no_room x l e = ap (λ (y : Letter). stepped y l 0) e

pub no_level : (r : ℕ) → opened 0 r ≡ dead
unfolding open_scan
no_level r = refl

pub too_few : (l r : ℕ) → r < 2 → opened l r ≡ dead
unfolding open_scan
too_few zero r p = refl
too_few (suc l) zero p = refl
too_few (suc l) (suc zero) p = refl
too_few (suc l) (suc (suc r)) p = absurd (omega arith)

pub has_both : (l r : ℕ) → 0 < l → 2 ≤ r → opened l r ≡ between (l - 1) (r - 2)
unfolding open_scan
has_both zero r p q = absurd (omega arith)
has_both (suc l) zero p q = absurd (omega arith)
has_both (suc l) (suc zero) p q = absurd (omega arith)
has_both (suc l) (suc (suc r)) p q = let a : l ≡ suc l - 1 = omega arith in let b : r ≡ suc (suc r) - 2 = omega arith in λ i. between (a i) (b i)

-- an inner transaction has ended: its level is free again
pub level_up : (l r : ℕ) → 0 < l → l < 16 → level_closed (l - 1) r ≡ between l r
unfolding open_scan
level_up l r p q =
    let n : same (l - 1) 15 ≡ false = ne_false (l - 1) 15 (λ e. omega arith) in
    let m : suc (l - 1) ≡ l = omega arith in
    ap (λ (t : Bool). cond t (ended r) (between (suc (l - 1)) r)) n ∙ ap (λ (k : ℕ). between k r) m
