-- The clauses of soundness, said of the arrays themselves: of one transaction number, of one lock, of one transaction and one lock, of the flag,
-- the locks and the commit page.
use Rattle.std.specs.Prelude.{◌≡◌, Bool, true, false, ◌||◌, List, ◌⊎◌, ℕ, suc, ◌<◌, ◌≤◌, get_or}
use Rattle.laws.specs.Tests.{same}
use Rattle.rules.specs.Geometry.{Geometry, transactions, nobody}
use Rattle.rules.specs.Store.{named, read_prepared, prepared_map}
use Rattle.rules.specs.Sound.{is_calm}
use Rattle.rules.specs.Editions.{geometry1, medium_of}
use Rattle.leaf_set.specs.Sets.{sets}
use Rattle.state_array.specs.View.{any_mode, write_mode}
use Rattle.store_write.specs.Phase.{store_of, shown_in}

-- a free number has parent 0 and no line
pub record FreeEntry (parent line : List ℕ) (t : ℕ) : Type 0 where
  pub parentless : get_or parent t 0 ≡ 0
  pub lineless : sets line t ≡ (λ u. false)

-- a live transaction's parent is live or nobody, it is one deeper and within the limit, and its line is the parent's and itself
pub record LiveEntry (parent depth line : List ℕ) (t : ℕ) : Type 0 where
  pub parented : (get_or parent t 0 ≡ nobody) ⊎ (0 < get_or depth (get_or parent t 0) 0)
  pub level : get_or depth t 0 ≡ suc (get_or depth (get_or parent t 0) 0)
  pub shallow : get_or depth t 0 ≤ geometry1.depth_limit
  pub lined : sets line t ≡ (λ u. sets line (get_or parent t 0) u || same u t)

pub record TableEntry (parent depth line : List ℕ) (t : ℕ) : Type 0 where
  pub vacant : get_or depth t 0 ≡ 0 → FreeEntry parent line t
  pub seated : 0 < get_or depth t 0 → LiveEntry parent depth line t

-- the tree of transactions
abbrev pub Entries : List ℕ → List ℕ → List ℕ → Type 0
Entries parent depth line = (t : ℕ) → t < transactions → TableEntry parent depth line t

-- one set is within another
abbrev pub Within : (ℕ → Bool) → (ℕ → Bool) → Type 0
Within p q = (u : ℕ) → u < transactions → p u ≡ true → q u ≡ true

-- The sets of one lock: who holds and retains it in any mode and in write mode, and who has a version.
pub record LockSound (live held held_writing retained retained_writing writers : ℕ → Bool) : Type 0 where
  -- all are transaction numbers
  pub numbered : (u : ℕ) → ((((held u || held_writing u) || retained u) || retained_writing u) || writers u) ≡ true → u < transactions
  -- holders and retainers are live
  pub holders_live : Within held live
  pub retainers_live : Within retained live
  -- who has it in write mode has it
  pub held_nested : Within held_writing held
  pub retained_nested : Within retained_writing retained
  -- who has a version has the lock in write mode
  pub by_lock : Within writers (λ u. held_writing u || retained_writing u)

abbrev pub LockOf : (ℕ → Bool) → List ℕ → List ℕ → List ℕ → ℕ → Type 0
LockOf live held retained writers r =
    LockSound live (any_mode (sets held) r) (write_mode (sets held) r) (any_mode (sets retained) r) (write_mode (sets retained) r) (sets writers r)

-- the locks, each by itself
abbrev pub Locks : (ℕ → Bool) → List ℕ → List ℕ → List ℕ → Type 0
Locks live held retained writers = (r : ℕ) → r < 16 → LockOf live held retained writers r

-- What t has of one lock, beside what others have: with the transactions at or above t and at or beneath it.
pub record Share (above beneath held held_writing retained retained_writing : ℕ → Bool) (t : ℕ) : Type 0 where
  -- a holder is at or beneath all write-mode retainers
  pub holder_beneath : held t ≡ true → Within retained_writing above
  -- a write holder is alone, and at or beneath every retainer
  pub writer_alone : held_writing t ≡ true → Within held (λ u. same u t)
  pub writer_beneath : held_writing t ≡ true → Within retained above
  -- a retainer is on one line with each write-mode retainer
  pub on_one_line : retained t ≡ true → Within retained_writing (λ u. above u || beneath u)

abbrev pub ShareOf : List ℕ → List ℕ → List ℕ → ℕ → ℕ → Type 0
ShareOf line held retained t r =
    Share (sets line t) (λ u. sets line u t) (any_mode (sets held) r) (write_mode (sets held) r) (any_mode (sets retained) r) (write_mode (sets retained) r) t

-- what each transaction has of the lock of record r
abbrev pub SharesOf : List ℕ → List ℕ → List ℕ → ℕ → Type 0
SharesOf line held retained r = (t : ℕ) → t < transactions → ShareOf line held retained t r

-- what each transaction has of each lock
abbrev pub Shares : List ℕ → List ℕ → List ℕ → Type 0
Shares line held retained = (r : ℕ) → r < 16 → SharesOf line held retained r

-- t holds or retains the lock of record r
unfoldable pub sharing : List ℕ → List ℕ → ℕ → ℕ → Bool
sharing held retained r t =
    ((any_mode (sets held) r t || write_mode (sets held) r t) || any_mode (sets retained) r t) || write_mode (sets retained) r t

-- who has the lock of record r is on its own line
abbrev pub LinedOf : List ℕ → List ℕ → List ℕ → ℕ → Type 0
LinedOf line held retained r = (t : ℕ) → sharing held retained r t ≡ true → sets line t t ≡ true

abbrev pub Lined : List ℕ → List ℕ → List ℕ → Type 0
Lined line held retained = (r : ℕ) → r < 16 → LinedOf line held retained r

-- nobody has the lock of record r, if a map names it
abbrev pub UnlockedOf : Geometry → ℕ → List ℕ → List ℕ → ℕ → Type 0
UnlockedOf g map held retained r = named g map r ≡ true → (u : ℕ) → (any_mode (sets held) r u || any_mode (sets retained) r u) ≡ false

-- nobody has a lock of the records that a map names
abbrev pub Unlocked : Geometry → ℕ → List ℕ → List ℕ → Type 0
Unlocked g map held retained = (r : ℕ) → r < 16 → UnlockedOf g map held retained r

-- up is 0 or 1; nothing is live while down; while up the commit page is empty or prepared, and where pages tear every pair is good and alike; nobody has a
-- lock of a record that the prepared transaction changed
pub record StatusSound (tears : Bool) (g : Geometry) (up : ℕ) (depth held retained store : List ℕ) : Type 0 where
  pub flag : up ≤ 1
  pub idle : same up 1 ≡ false → (t : ℕ) → t < transactions → get_or depth t 0 ≡ 0
  pub calm : same up 1 ≡ true → is_calm (medium_of tears g) ((medium_of tears g).from_bytes store) ≡ true
  pub reserved : Unlocked g (prepared_map (read_prepared g (shown_in tears (store_of tears store) 0))) held retained
