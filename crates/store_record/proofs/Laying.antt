-- A fresh store laid page by page: one page more at each step, and after the last the bytes of a fresh store.
use mathlib.Core.Path.{◌≡◌, refl, sym, ap, ap₂, ◌∙◌}
use mathlib.Core.Bool.{Bool, true, false, cond}
use mathlib.Core.List.{List, [], ◌∷◌, ◌++◌}
use mathlib.Core.Logic.{◌≢◌}
use Prim.Native.Nat.{ℕ, zero, suc, ◌+◌, ◌*◌, ◌<◌, ◌≤◌}
use native.Mathlib.Omega.{arith}
use lib.ListN.{length}
use Rattle.laws.specs.Tests.{same}
use Rattle.laws.specs.Functions.{updated}
use Rattle.laws.proofs.Tests.{same_cases, Same, is, isnt, ne_false, same_refl}
use Rattle.rules.specs.Geometry.{Geometry, page_count, records}
use Rattle.rules.specs.Store.{Page, Pages, pages_of, flat, fresh}
use Rattle.rules.specs.Commit.{sets, written, applied}
use Rattle.rules.specs.Pairs.{Pairs, whole, pair_bytes, pairs_of, flat_pairs, put_all, tear_first, cut_pairs}
use Rattle.rules.specs.Run.{lay_fresh}
use Rattle.rules.specs.Editions.{medium_of, form_in}
use Rattle.rules.proofs.Pages.{flat-pages_of}
use Rattle.rules.proofs.PairBytes.{to_from}
use Rattle.store_write.specs.Phase.{StoreOf, store_of, stride_of, left_by}
use Rattle.store_length.specs.Lengths.{store_bytes}
use Rattle.store_length.proofs.Sizes.{store_size, pages_are}
use Rattle.store_record.specs.Laying.{kept_as, kept_at, LaidTo}

flat_same : (n : ℕ) (s t : Pages) → ((p : ℕ) → p < n → s p ≡ t p) → flat n s ≡ flat n t
unfolding flat
flat_same zero s t h = refl
flat_same (suc n) s t h = ap₂ ◌++◌ (flat_same n s t (λ p k. h p (omega arith))) (h n (omega arith))

-- a store has room for each of its pages
pub room : (tears : Bool) (p n : ℕ) {k : ℕ} → p < 1 + (n + n) → k ≡ store_bytes tears n → stride_of tears * p + stride_of tears ≤ k
room false p n h e = omega arith
room true p n h e = omega arith

pub within : (tears : Bool) (n : ℕ) {k : ℕ} → k ≡ store_bytes tears n → stride_of tears * (1 + (n + n)) ≤ k
within false n e = omega arith
within true n e = omega arith

-- an uncut write of one page: that page is kept, and every other stays
put_pairs : (n : ℕ) (page : Page) (s : Pairs) → (cut_pairs 255 (sets n page ∷ []) s).store ≡ updated n (whole page) s
unfolding cut_pairs put_all tear_first
put_pairs n page s = refl

put_pages : (n : ℕ) (page : Page) (s : Pages) → applied (sets n page ∷ []) s ≡ updated n page s
unfolding applied updated written
put_pages n page s = refl

kept_after : (tears : Bool) (n p : ℕ) (page : Page) (s : StoreOf tears) → kept_at tears (left_by tears 255 (sets n page ∷ []) s) p ≡ cond (same p n) (kept_as tears page) (kept_at tears s p)
unfolding updated
kept_after false n p page s = ap (λ (t : Pages). t p) (put_pages n page s)
kept_after true n p page s = ap (λ (t : Pairs). t p) (put_pairs n page s)

-- the bytes of a fresh store
all_laid : (tears : Bool) (g : Geometry) {store : List ℕ} → LaidTo tears g (page_count g) store → store ≡ (medium_of tears g).to_bytes (medium_of tears g).fresh
unfolding flat_pairs
all_laid false g {store} L = sym (flat-pages_of (page_count g) store L.long) ∙ flat_same (page_count g) (pages_of store) (fresh g) L.laid
all_laid true g {store} L =
    sym (to_from (page_count g) store L.long)
    ∙ flat_same (page_count g) (λ p. pair_bytes (pairs_of store p)) (λ p. pair_bytes (whole (fresh g p))) (λ p h. ap pair_bytes (L.laid p h))

module _ (tears : Bool) (g : Geometry) where
  pub laid_none : {store : List ℕ} → length store ≡ (medium_of tears g).size → LaidTo tears g 0 store
  laid_none e = record { long = e; laid = λ p h. absurd (omega arith) }

  pub laid_more : {n : ℕ} {before after : List ℕ} → LaidTo tears g n before → length after ≡ length before
      → store_of tears after ≡ left_by tears 255 (sets n (fresh g n) ∷ []) (store_of tears before) → LaidTo tears g (n + 1) after
  laid_more {n} {before} {after} L e w = record { long = e ∙ L.long; laid = λ p h. ap (λ (s : StoreOf tears). kept_at tears s p) w ∙ kept_after tears n p (fresh g n) (store_of tears before) ∙ go p h (same_cases p n) }
    where
      go : (p : ℕ) → p < n + 1 → Same p n → cond (same p n) (kept_as tears (fresh g n)) (kept_at tears (store_of tears before) p) ≡ kept_as tears (fresh g p)
      go p h (is q s _) = rw (s, q)
      go p h (isnt q s _) = rw s (L.laid p (omega arith))

  -- of n records
  module _ (n : ℕ) (many : records g ≡ n) where
    pub laid_all : {store : List ℕ} → LaidTo tears g (1 + (n + n)) store → store ≡ (medium_of tears g).to_bytes (medium_of tears g).fresh
    laid_all {store} L = all_laid tears g (rw (pages_are n g many) L)

    pub fresh_refused : (store : List ℕ) → length store ≢ store_bytes tears n → (22 ≡ (lay_fresh (form_in tears g) store).answer) × (store ≡ (lay_fresh (form_in tears g) store).store)
    unfolding lay_fresh
    fresh_refused store h = rw (ne_false (length store) (medium_of tears g).size (λ e. h (e ∙ store_size n g many tears))) (refl, refl)

    pub fresh_laid : (store after : List ℕ) → length store ≡ store_bytes tears n → LaidTo tears g (1 + (n + n)) after
        → (0 ≡ (lay_fresh (form_in tears g) store).answer) × (after ≡ (lay_fresh (form_in tears g) store).store)
    unfolding lay_fresh
    fresh_laid store after e L = rw (e ∙ sym (store_size n g many tears), same_refl (medium_of tears g).size) (refl, laid_all L)
