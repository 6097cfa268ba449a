-- The page writes of the records that a map names: one record more, and where two descriptions of them agree.
use mathlib.Core.Path.{◌≡◌, refl, sym, ap, ap₂, subst, subst⁻¹, ◌∙◌}
use mathlib.Core.Bool.{Bool, true, false, cond}
use mathlib.Core.List.{List, [], ◌∷◌, ◌++◌, map, map-append}
use mathlib.Core.Logic.{◌≢◌}
use Prim.Native.Nat.{ℕ, zero, suc, ◌+◌, ◌<◌}
use native.Mathlib.Omega.{arith}
use native.Mathlib.Numerals.{add-one}
use lib.ListN.{take}
use lib.Seq.{take-nil}
use Rattle.laws.specs.Tests.{under}
use Rattle.laws.specs.Functions.{updated}
use Rattle.laws.specs.Counting.{those}
use Rattle.laws.proofs.Tests.{under-lt, not-under, Is, is_cases, yes', no'}
use Rattle.laws.proofs.Updated.{updated_other}
use Rattle.rules.specs.Store.{Page, Pages}
use Rattle.rules.specs.Commit.{PageWrite, sets, applied, written}
use Rattle.rules.specs.Pairs.{Pair, Pairs, whole, shows, shown, torn, cut_pairs}
use Rattle.rules.proofs.Pairs.{cut_one_whole, cut_one_torn}
use Rattle.store_write.specs.Phase.{StoreOf, shown_in, left_by, WritesPhase}
use Rattle.store_write.proofs.Phases.{phase_then, phase_none}
use Rattle.store_commit.specs.Phase.{write_if_picked, sweep, copies}

map-due : (b : Bool) (f : ℕ → PageWrite) (n : ℕ) → map f (cond b (n ∷ []) []) ≡ cond b (f n ∷ []) []
map-due true f n = refl
map-due false f n = refl

sweep_more : (p : ℕ → Bool) (f : ℕ → PageWrite) (n : ℕ) → sweep p f (suc n) ≡ sweep p f n ++ write_if_picked p f n
unfolding sweep write_if_picked those
sweep_more p f n = map-append f (those n p) (cond (p n) (n ∷ []) []) ∙ ap (λ l. map f (those n p) ++ l) (map-due (p n) f n)

-- one record more
pub phase_more : {b : Bool} (p : ℕ → Bool) (f : ℕ → PageWrite) (n : ℕ) {k : ℕ} {s s' s'' : StoreOf b} {a c : ℕ} → WritesPhase b k (sweep p f n) s s' a
    → WritesPhase b a (write_if_picked p f n) s' s'' c → WritesPhase b k (sweep p f (n + 1)) s s'' c
phase_more p f n h g = rw (add-one, sweep_more p f n) (phase_then h g)

due_same : (b : Bool) (w v : PageWrite) → (b ≡ true → w ≡ v) → cond b (w ∷ []) [] ≡ cond b (v ∷ []) []
due_same true w v h = ap (λ x. x ∷ []) (h refl)
due_same false w v h = refl

pub sweep_same : (n : ℕ) (p : ℕ → Bool) (f e : ℕ → PageWrite) → ((r : ℕ) → r < n → p r ≡ true → f r ≡ e r) → sweep p f n ≡ sweep p e n
unfolding sweep those write_if_picked
sweep_same zero p f e h = refl
sweep_same (suc n) p f e h =
    sweep_more p f n ∙ ap₂ ◌++◌ (sweep_same n p f e (λ r lt. h r (omega arith))) (due_same (p n) (f n) (e n) (h n (omega arith))) ∙ sym (sweep_more p e n)

-- one record's page write: due where the record is picked
module _ {b : Bool} (p : ℕ → Bool) (first : ℕ) (new : ℕ → Page) (r k : ℕ) {s : StoreOf b} where
  pub row_made : {t : StoreOf b} {a : ℕ} → p r ≡ true → WritesPhase b k (sets (first + r) (new r) ∷ []) s t a → WritesPhase b k (write_if_picked p (copies first new) r) s t a
  unfolding write_if_picked copies
  row_made {t} {a} q h = subst⁻¹ (λ (x : Bool). WritesPhase b k (cond x (sets (first + r) (new r) ∷ []) []) s t a) q h

  pub row-not : p r ≡ false → WritesPhase b k (write_if_picked p (copies first new) r) s s k
  unfolding write_if_picked copies
  row-not q = subst⁻¹ (λ (x : Bool). WritesPhase b k (cond x (sets (first + r) (new r) ∷ []) []) s s k) q phase_none

-- one page write, whole, torn or not begun, shows every other page as it was
atomic_others : (k n : ℕ) (p : Page) (s : Pages) (j : ℕ) → j ≢ n → applied (take k (sets n p ∷ [])) s j ≡ s j
unfolding applied written
atomic_others zero n p s j h = refl
atomic_others (suc k) n p s j h = ap (λ (l : List PageWrite). applied l (updated n p s) j) (take-nil k) ∙ updated_other n p s j h

paired_others : (k n : ℕ) (p : Page) (s : Pairs) (j : ℕ) → j ≢ n → shown (cut_pairs k (sets n p ∷ []) s).store j ≡ shown s j
unfolding shown
paired_others k n p s j h = go (is_cases (under k 4))
  where
    changed : (c : Pair) → (cut_pairs k (sets n p ∷ []) s).store ≡ updated n c s → shows ((cut_pairs k (sets n p ∷ []) s).store j) ≡ shows (s j)
    changed c e = ap (λ (t : Pairs). shows (t j)) e ∙ ap shows (updated_other n c s j h)

    go : Is (under k 4) → shows ((cut_pairs k (sets n p ∷ []) s).store j) ≡ shows (s j)
    go (yes' u) = changed (torn k p (s n)) (cut_one_torn k n p s (under-lt k 4 u))
    go (no' u) = changed (whole p) (cut_one_whole k n p s (not-under k 4 u))

others : (b : Bool) (k n : ℕ) (p : Page) (s : StoreOf b) (j : ℕ) → j ≢ n → shown_in b (left_by b k (sets n p ∷ []) s) j ≡ shown_in b s j
others false k n p s j h = atomic_others k n p s j h
others true k n p s j h = paired_others k n p s j h

-- The pages below page `first` are shown as they were, since no page write from there on changes them: the commit page and the intention pages, while home
-- pages are written.
pub record Kept (b : Bool) (first : ℕ) (s t : StoreOf b) : Type 0 where
  pub same_page : (j : ℕ) → j < first → shown_in b t j ≡ shown_in b s j

pub kept-none : {b : Bool} {first : ℕ} {s : StoreOf b} → Kept b first s s
kept-none = record { same_page = λ j lt. refl }

pub kept_then : {b : Bool} {first : ℕ} {s t u : StoreOf b} → Kept b first s t → Kept b first t u → Kept b first s u
kept_then h g = record { same_page = λ j lt. g.same_page j lt ∙ h.same_page j lt }

module _ {b : Bool} (first : ℕ) (new : ℕ → Page) (r k : ℕ) {s t : StoreOf b} {a : ℕ} where
  kept_one : (x : Bool) → WritesPhase b k (cond x (sets (first + r) (new r) ∷ []) []) s t a → Kept b first s t
  kept_one false h = record { same_page = λ j lt. ap (λ (u : StoreOf b). shown_in b u j) (h.store ∙ sym (phase_none {b = b} {k = k} {s = s}).store) }
  kept_one true h =
      record { same_page = λ j lt. ap (λ (u : StoreOf b). shown_in b u j) h.store ∙ others b k (first + r) (new r) s j (λ e. omega arith) }

  pub kept_row : (p : ℕ → Bool) → WritesPhase b k (write_if_picked p (copies first new) r) s t a → Kept b first s t
  unfolding write_if_picked copies
  kept_row p h = kept_one (p r) h

-- a write of the commit page keeps the intention pages
pub kept_mark : {b : Bool} (k : ℕ) (p : Page) {s t : StoreOf b} {a : ℕ} → WritesPhase b k (sets 0 p ∷ []) s t a → (j : ℕ) → shown_in b t (1 + j) ≡ shown_in b s (1 + j)
kept_mark {b} k p {s} h j = ap (λ (u : StoreOf b). shown_in b u (1 + j)) h.store ∙ others b k 0 p s (1 + j) (λ e. omega arith)

-- one record more goes home: its intention page is still the one that it was
pub home_more : {b : Bool} (p : ℕ → Bool) (first r k : ℕ) {s s' s'' : StoreOf b} {a c : ℕ} → 1 + r < first
    → WritesPhase b k (sweep p (copies first (λ j. shown_in b s (1 + j))) r) s s' a → Kept b first s s'
    → WritesPhase b a (write_if_picked p (copies first (λ j. shown_in b s' (1 + j))) r) s' s'' c → WritesPhase b k (sweep p (copies first (λ j. shown_in b s (1 + j))) (r + 1)) s s'' c
unfolding write_if_picked copies
home_more {b} p first r k {s} {s'} {s''} {a} {c} lt h kept g =
    phase_more p (copies first (λ j. shown_in b s (1 + j))) r h
    (subst (λ (q : Page). WritesPhase b a (cond (p r) (sets (first + r) q ∷ []) []) s' s'' c) (kept.same_page (1 + r) lt) g)
