-- The arrays' lengths in the numbers that the code gets, and a home page by its place.
use mathlib.Core.Path.{◌≡◌, sym, ap, ◌∙◌}
use mathlib.Core.Bool.{Bool, true, false}
use mathlib.Core.List.{List}
use Prim.Native.Nat.{ℕ, ◌+◌, ◌*◌, ◌≤◌, ◌<◌}
use native.Mathlib.Omega.{arith}
use lib.ListN.{length, take, drop}
use Rattle.rules.specs.Geometry.{Geometry, Proper, records, page_count}
use Rattle.rules.specs.Store.{pages_of, home}
use Rattle.rules.specs.Sound.{is_calm}
use Rattle.rules.specs.Editions.{Edition, geometry_of, medium_of, form_in, InNumbers}
use Rattle.rules.specs.Pairs.{is_whole, shown, pairs_of}
use Rattle.rules.proofs.PairedPages.{all_whole, calm_emptied}
use Rattle.store_write.specs.Phase.{stride_of, place_of}
use Rattle.store_pair.proofs.Shown.{place_shows}
use Rattle.event_crash.proofs.Editions.{size_is, known_of, few}
use Rattle.state_whole.specs.Lain.{arrays_in, WellSized}
use Rattle.state_whole.specs.declared.State.{State}
use Rattle.state_whole.specs.Whole.{Arrays, view, Formed, Intact, ReadyLeaf}
use Rattle.state_whole.proofs.Steps.{up_is}

module _ (k : Edition) (n : ℕ) (joint tears : Bool) (N : InNumbers k n joint tears) (x : Arrays) (F : Formed (form_in tears (geometry_of k)) x) where
  pub held_length : length x.held ≡ 2 * n
  held_length = F.helds ∙ ap (λ (m : ℕ). 2 * m) N.many

  pub retained_length : length x.retained ≡ 2 * n
  retained_length = F.retaineds ∙ ap (λ (m : ℕ). 2 * m) N.many

  pub writers_length : length x.writers ≡ n
  writers_length = F.writerss ∙ N.many

  pub work_length : length x.work ≡ 512 * n
  work_length = F.works ∙ ap (λ (m : ℕ). 512 * m) N.many

  pub store_length : length x.store ≡ stride_of tears * (1 + (n + n))
  store_length = F.stores ∙ size_is tears (geometry_of k) n N.many

-- a state's arrays have their sizes
pub well_sized : {n p : ℕ} (k : Edition) (joint tears : Bool) → InNumbers k n joint tears → (s : State n p) (work store : List ℕ) → Formed (form_in tears (geometry_of k)) (arrays_in s work store) → p ≡ 2 * n → WellSized s
well_sized {n} k joint tears N s work store F e =
    (few n (known_of k n joint tears N), e, held_length k n joint tears N _ F, retained_length k n joint tears N _ F, writers_length k n joint tears N _ F, F.parents, F.depths, F.long)

-- a home page lies within the store
pub place_within : (tears : Bool) (n r : ℕ) → r < n → place_of tears (1 + (n + r)) + 32 ≤ stride_of tears * (1 + (n + n))
place_within false n r h = omega arith
place_within true n r h = omega arith

-- While calm, the bytes at its place are what the store shows of it: an atomic page, and a pair that is good and alike.
still_home : (g : Geometry) (n r at : ℕ) (store : List ℕ) → records g ≡ n → at ≡ place_of false (1 + (n + r)) → take 32 (drop at store) ≡ pages_of store (home g r)
unfolding pages_of home
still_home g n r at store many e = ap (λ (i : ℕ). take 32 (drop i store)) (e ∙ ap (λ (m : ℕ). 32 * (1 + (m + r))) (sym many))

torn_home : (g : Geometry) (n r at : ℕ) (store : List ℕ) → records g ≡ n → r < n → at ≡ place_of true (1 + (n + r)) → ((q : ℕ) → q < page_count g → is_whole (pairs_of store q) ≡ true)
    → take 32 (drop at store) ≡ shown (pairs_of store) (home g r)
unfolding home page_count
torn_home g n r at store many h e wholes =
    ap (λ (i : ℕ). take 32 (drop i store)) (e ∙ ap (λ (m : ℕ). 66 * (1 + (m + r)) + 1) (sym many))
    ∙ place_shows store (1 + (records g + r)) (wholes (1 + (records g + r)) (omega arith))

pub home_is : (tears : Bool) (g : Geometry) → Proper g → g.tears ≡ tears → (n r at : ℕ) (store : List ℕ) → records g ≡ n → r < n → at ≡ place_of tears (1 + (n + r))
    → is_calm (medium_of tears g) ((medium_of tears g).from_bytes store) ≡ true → take 32 (drop at store) ≡ (medium_of tears g).home ((medium_of tears g).from_bytes store) r
home_is false g proper torn n r at store many h e calm = still_home g n r at store many e
home_is true g proper torn n r at store many h e calm = torn_home g n r at store many h e (all_whole g (pairs_of store) (calm_emptied g proper torn (pairs_of store) calm))

-- while up the store is calm
pub calm_of : (tears : Bool) (g : Geometry) (x : Arrays) {t : ℕ} → Intact (form_in tears g) x → ReadyLeaf (form_in tears g) x t → is_calm (medium_of tears g) ((medium_of tears g).from_bytes x.store) ≡ true
unfolding view
calm_of tears g x I R = I.sound.calm (up_is (form_in tears g) x R.ready.up)
