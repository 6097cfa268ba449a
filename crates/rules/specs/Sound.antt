-- Soundness of a state between two events.
use Rattle.std.specs.Prelude.{◌≡◌, Bool, true, false, ◌||◌, ◌⊎◌, ℕ, suc, ◌<◌, ◌≤◌, length}
use Rattle.std.proofs.Math.Option.{some}
use Rattle.rules.specs.Geometry.{records, transactions, nobody, page_size}
use Rattle.rules.specs.Store.{Page}
use Rattle.rules.specs.State.{Bearers, active, depth_in, line_of, mem, live, holds, retains, holds_writing, retains_writing}
use Rattle.rules.specs.Versions.{is_some}
use Rattle.rules.specs.Form.{Form, Medium}
use Rattle.rules.specs.Step.{StateOf, is_busy}

-- on one line: one is at or beneath the other
unfoldable pub in_line : Bearers → ℕ → ℕ → Bool
in_line b q z = mem q (line_of b z) || mem z (line_of b q)

-- the commit page is empty, or prepared
unfoldable pub is_calm : (m : Medium) → m.Store → Bool
is_calm m store = m.emptied store || is_busy (m.prepared store)

pub record Sound (f : Form) (s : StateOf f) : Type 0 where
  -- a live transaction bears one of the transaction numbers
  pub numbered : (t : ℕ) → live s t ≡ true → t < transactions
  -- its parent is live, or nobody
  pub parented : (t p d : ℕ) → s.bearer t ≡ active p d → (p ≡ nobody) ⊎ (live s p ≡ true)
  -- its depth is one more than its parent's (1 where that is nobody), and within the limit
  pub level : (t p d : ℕ) → s.bearer t ≡ active p d → d ≡ suc (depth_in (s.bearer p))
  pub shallow : (t : ℕ) → depth_in (s.bearer t) ≤ f.geometry.depth_limit
  -- holders and retainers are live
  pub holder_live : (r t : ℕ) → holds s r t ≡ true → live s t ≡ true
  pub retainer_live : (r t : ℕ) → retains s r t ≡ true → live s t ≡ true
  -- every retainer is on one line with each write-mode retainer
  pub on_one_line : (r t u : ℕ) → retains_writing s r t ≡ true → retains s r u ≡ true → in_line s.bearer t u ≡ true
  -- every holder is at or beneath all write-mode retainers
  pub beneath : (r t u : ℕ) → holds s r t ≡ true → retains_writing s r u ≡ true → mem u (line_of s.bearer t) ≡ true
  -- a write holder is alone, and at or beneath every retainer
  pub one_holder : (r t u : ℕ) → holds_writing s r t ≡ true → holds s r u ≡ true → t ≡ u
  pub beneath_writing : (r t u : ℕ) → holds_writing s r t ≡ true → retains s r u ≡ true → mem u (line_of s.bearer t) ≡ true
  -- who has a version holds or retains the lock in write mode; a version is a page of a record
  pub by_lock : (t r : ℕ) → is_some (s.version t r) ≡ true → (holds_writing s r t || retains_writing s r t) ≡ true
  pub ranged : (t r : ℕ) → is_some (s.version t r) ≡ true → r < records f.geometry
  pub paged : (t r : ℕ) (p : Page) → s.version t r ≡ some p → length p ≡ page_size
  -- nothing is live while down; while up the commit page is empty or prepared
  pub idle : (t : ℕ) → s.up ≡ false → live s t ≡ false
  pub calm : s.up ≡ true → is_calm f.medium s.store ≡ true
  -- nobody has a lock of a record that the prepared transaction changed
  pub reserved : (r t : ℕ) → is_some (f.medium.pending s.store r) ≡ true → (holds s r t || retains s r t) ≡ false

-- opens the definitions of this module: for what is proved by computing
unfoldable pub open_sound : Unit {0}
unfolding in_line is_calm
open_sound = tt
