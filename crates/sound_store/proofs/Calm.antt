-- A store is emptied exactly if its pages are whole and the commit page that is shown is empty.
use mathlib.Core.Path.{◌≡◌, refl, sym, ap, ap₂, ◌∙◌}
use mathlib.Core.Bool.{Bool, true, false, ◌&&◌}
use mathlib.Core.List.{List}
use mathlib.Core.Option.{Option, none, some}
use Prim.Native.Nat.{ℕ, ◌+◌, ◌*◌, ◌≤◌}
use native.Mathlib.Omega.{arith}
use Rattle.laws.specs.Tests.{same}
use Rattle.laws.proofs.Booleans.{both}
use Rattle.rules.specs.Geometry.{Geometry, records, page_count}
use Rattle.rules.specs.Store.{Page, read_commit, is_emptied, emptied}
use Rattle.rules.specs.Pairs.{emptied_pairs}
use Rattle.rules.specs.Editions.{medium_of}
use Rattle.leaf_commit_page.specs.Heard.{commit_map}
use Rattle.leaf_commit_page.specs.declared.CommitMap.{CommitMap}
use Rattle.store_write.specs.Phase.{store_of, stride_of, shown_in}
use Rattle.sound_store.specs.Whole.{whole_in}

-- a store has room for each of its pages
pub room : (tears : Bool) (m : ℕ) {k : ℕ} → k ≡ stride_of tears * m → stride_of tears * m ≤ k
room false m e = omega arith
room true m e = omega arith

pub first_page : (tears : Bool) (m : ℕ) {k : ℕ} → k ≡ stride_of tears * (1 + m) → stride_of tears * 0 + stride_of tears ≤ k
first_page false m e = omega arith
first_page true m e = omega arith

emptied_is : (tears : Bool) (g : Geometry) (bs : List ℕ) → (medium_of tears g).emptied ((medium_of tears g).from_bytes bs) ≡ (whole_in tears (page_count g) (store_of tears bs) && emptied g (shown_in tears (store_of tears bs)))
unfolding emptied_pairs
emptied_is false g bs = refl
emptied_is true g bs = refl

-- what is read of a page as a map's: whether it is empty
empty_is : (o : Option ℕ) → ((commit_map o).good && same (commit_map o).map 0) ≡ is_emptied o
unfolding commit_map is_emptied
empty_is none = refl
empty_is (some map) = refl

pub emptied_by : (tears : Bool) (g : Geometry) (n : ℕ) → records g ≡ n → (bs : List ℕ) (b : Bool) (page : Page) (c : CommitMap) → b ≡ whole_in tears (1 + (n + n)) (store_of tears bs)
    → page ≡ shown_in tears (store_of tears bs) 0 → c ≡ commit_map (read_commit g page) → (b && (c.good && same c.map 0)) ≡ (medium_of tears g).emptied ((medium_of tears g).from_bytes bs)
unfolding emptied page_count
emptied_by tears g n many bs b page c w p h =
    ap₂ (λ (x y : Bool). x && y) (w ∙ ap (λ (m : ℕ). whole_in tears m (store_of tears bs)) (let e : 1 + (n + n) ≡ 1 + (records g + records g) = omega (arith, many) in e))
    (ap (λ (c : CommitMap). c.good && same c.map 0) h ∙ empty_is (read_commit g page) ∙ ap (λ (x : Page). is_emptied (read_commit g x)) p)
    ∙ sym (emptied_is tears g bs)

-- the commit page that an emptied store shows is empty
pub emptied_page : (tears : Bool) (g : Geometry) (bs : List ℕ) → (medium_of tears g).emptied ((medium_of tears g).from_bytes bs) ≡ true
    → is_emptied (read_commit g (shown_in tears (store_of tears bs) 0)) ≡ true
unfolding emptied
emptied_page tears g bs e = (both (whole_in tears (page_count g) (store_of tears bs)) _ (sym (emptied_is tears g bs) ∙ e)).1
