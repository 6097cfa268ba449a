-- A table of states, sound and unsound ones for each clause of soundness (document 02, L1, L2, L6 and L9), and a test that computes. That the test
-- decides `Sound` is proved in proofs/Decided; that every row has the verdict due, in proofs/SoundTrials.
use Rattle.std.specs.Prelude.{ℕ, zero, suc, ◌-◌, Bool, true, false, not, cond, ◌&&◌, ◌||◌, List, [], ◌∷◌, ◌++◌, eqb, get_or, length, replicate}
use Rattle.std.proofs.Math.Option.{Option, none, some}
use Rattle.laws.specs.Tests.{same, under}
use Rattle.laws.specs.Counting.{all}
use Rattle.rules.specs.Store.{Page, pages_of}
use Rattle.rules.specs.State.{Bearer, free, active, depth_in, line_of, mem, Mode, nothing, reading, writing, live, holds, retains, holds_writing, retains_writing}
use Rattle.rules.specs.Versions.{is_some}
use Rattle.rules.specs.Step.{StateOf}
use Rattle.rules.specs.Sound.{in_line, is_calm}
use Rattle.rules.specs.Editions.{edition1}
use Rattle.trials_rows.specs.Rows.{fresh_bytes, zero_page}

abbrev pub Desk : Type 0
Desk = StateOf edition1

-- a test of all transaction numbers and one more; of all records and one more, with all these numbers
abbrev pub everyone : (ℕ → Bool) → Bool
everyone p = all 25 p

abbrev pub everywhere : (ℕ → ℕ → Bool) → Bool
everywhere p = all 17 (λ r. everyone (p r))

-- where a holds, so does b
abbrev pub implied : Bool → Bool → Bool
implied a b = not a || b

-- a bearer's parent is live or nobody; its depth is one more than its parent's; a version is a page
unfoldable pub is_parented : Desk → Bearer → Bool
is_parented s free = true
is_parented s (active p d) = same p 31 || live s p

unfoldable pub is_level : Desk → Bearer → Bool
is_level s free = true
is_level s (active p d) = same d (suc (depth_in (s.bearer p)))

unfoldable pub is_paged : Option Page → Bool
is_paged none = true
is_paged (some p) = same (length p) 32

-- The clauses of `Sound`, by their names and in their order.
unfoldable pub numbered : Desk → Bool
numbered s = everyone (λ t. implied (live s t) (under t 24))

unfoldable pub parented : Desk → Bool
parented s = everyone (λ t. is_parented s (s.bearer t))

unfoldable pub level : Desk → Bool
level s = everyone (λ t. is_level s (s.bearer t))

unfoldable pub shallow : Desk → Bool
shallow s = everyone (λ t. under (depth_in (s.bearer t)) 17)

unfoldable pub holder_live : Desk → Bool
holder_live s = everywhere (λ r t. implied (holds s r t) (live s t))

unfoldable pub retainer_live : Desk → Bool
retainer_live s = everywhere (λ r t. implied (retains s r t) (live s t))

unfoldable pub on_one_line : Desk → Bool
on_one_line s = everywhere (λ r t. implied (retains_writing s r t) (everyone (λ u. implied (retains s r u) (in_line s.bearer t u))))

unfoldable pub beneath : Desk → Bool
beneath s = everywhere (λ r t. implied (holds s r t) (everyone (λ u. implied (retains_writing s r u) (mem u (line_of s.bearer t)))))

unfoldable pub one_holder : Desk → Bool
one_holder s = everywhere (λ r t. implied (holds_writing s r t) (everyone (λ u. implied (holds s r u) (same t u))))

unfoldable pub beneath_writing : Desk → Bool
beneath_writing s = everywhere (λ r t. implied (holds_writing s r t) (everyone (λ u. implied (retains s r u) (mem u (line_of s.bearer t)))))

unfoldable pub by_lock : Desk → Bool
by_lock s = everywhere (λ r t. implied (is_some (s.version t r)) (holds_writing s r t || retains_writing s r t))

unfoldable pub ranged : Desk → Bool
ranged s = everywhere (λ r t. implied (is_some (s.version t r)) (under r 16))

unfoldable pub paged : Desk → Bool
paged s = everywhere (λ r t. is_paged (s.version t r))

unfoldable pub idle : Desk → Bool
idle s = everyone (λ t. s.up || not (live s t))

unfoldable pub calm : Desk → Bool
calm s = implied s.up (is_calm edition1.medium s.store)

unfoldable pub reserved_clause : Desk → Bool
reserved_clause s = everywhere (λ r t. not (is_some (edition1.medium.pending s.store r)) || not (holds s r t || retains s r t))

abbrev pub clauses : Desk → List Bool
clauses s =
    numbered s ∷ parented s ∷ level s ∷ shallow s ∷ holder_live s ∷ retainer_live s ∷ on_one_line s ∷ beneath s ∷ one_holder s ∷ beneath_writing s ∷ by_lock s ∷ ranged s ∷ paged s ∷ idle s ∷
    calm s ∷ reserved_clause s ∷ []

unfoldable pub all_true : List Bool → Bool
all_true [] = true
all_true (b ∷ bs) = b && all_true bs

abbrev pub is_sound : Desk → Bool
is_sound s = all_true (clauses s)

-- opens the clauses: for what is proved by computing
unfoldable pub open_clauses : Unit {0}
unfolding is_parented is_level is_paged numbered parented level shallow holder_live retainer_live on_one_line beneath one_holder beneath_writing by_lock ranged paged idle calm reserved_clause all_true
open_clauses = tt

-- A state by what there is: who bears which number, from 0 on; by record and transaction, locks held, locks retained; versions by transaction
-- and record; the store's bytes.
abbrev pub Lock : Type 0
Lock = ℕ × ℕ × Mode

abbrev pub Version : Type 0
Version = ℕ × ℕ × Page

pub record Sketch : Type 0 where
  pub up : Bool
  pub seats : List Bearer
  pub held : List Lock
  pub retained : List Lock
  pub versions : List Version
  pub store : List ℕ

abbrev pub mode_in : List Lock → ℕ → ℕ → Mode
mode_in [] r t = nothing
mode_in (l ∷ ls) r t = cond (same l.0 r && same l.1 t) l.2 (mode_in ls r t)

abbrev pub version_in : List Version → ℕ → ℕ → Option Page
version_in [] t r = none
version_in (v ∷ vs) t r = cond (same v.0 t && same v.1 r) (some v.2) (version_in vs t r)

-- beyond the numbers that the tests look at there is nothing
abbrev pub sketched : Sketch → Desk
sketched k = record {
  up = k.up;
  bearer = λ t. cond (under t 25) (get_or k.seats t free) free;
  held = λ r t. cond (under r 17 && under t 25) (mode_in k.held r t) nothing;
  retained = λ r t. cond (under r 17 && under t 25) (mode_in k.retained r t) nothing;
  version = λ t r. cond (under r 17 && under t 25) (version_in k.versions t r) none;
  store = pages_of k.store;
}

-- Rows: a state and whether it is sound.
abbrev pub SoundRow : Type 0
SoundRow = Sketch × Bool

abbrev pub agrees : Bool → Bool → Bool
agrees true b = b
agrees false b = not b

abbrev pub all_agree : List SoundRow → Bool
all_agree [] = true
all_agree (x ∷ xs) = agrees x.1 (is_sound (sketched x.0)) && all_agree xs

-- 0 is a top transaction, 1 its child, 2 a child of that; 3 is another top one, 4 another child of 0
abbrev pub five : List Bearer
five = active 31 1 ∷ active 0 2 ∷ active 1 3 ∷ active 31 1 ∷ active 0 2 ∷ []

-- one beneath the other, n more, the next with number i
abbrev pub nested_from : ℕ → ℕ → List Bearer
nested_from i zero = []
nested_from i (suc n) = active (cond (eqb i 0) 31 (i - 1)) (suc i) ∷ nested_from (suc i) n

abbrev pub seated : List Bearer → Sketch
seated seats = record { up = true; seats = seats; held = []; retained = []; versions = []; store = fresh_bytes }

-- the five with these locks, held and retained
abbrev pub with_locks : List Lock → List Lock → Sketch
with_locks held retained = record { up = true; seats = five; held = held; retained = retained; versions = []; store = fresh_bytes }

-- with a version
abbrev pub versioned : List Lock → List Lock → Version → Sketch
versioned held retained v = record { up = true; seats = five; held = held; retained = retained; versions = v ∷ []; store = fresh_bytes }

-- up or down, with page 0 beginning so
abbrev pub over_head : Bool → List Bearer → List Lock → List Lock → List ℕ → Sketch
over_head up seats held retained head = record { up = up; seats = seats; held = held; retained = retained; versions = []; store = head ++ replicate 1050 0 }

abbrev pub emptied_head : List ℕ
emptied_head = 0x10 ∷ 0 ∷ 0 ∷ 0 ∷ 0 ∷ 0 ∷ []

abbrev pub committed_head : List ℕ
committed_head = 0x15 ∷ 0x10 ∷ 0 ∷ 0x08 ∷ 0 ∷ 0 ∷ []

abbrev pub prepared_head : List ℕ
prepared_head = 0x13 ∷ 0x10 ∷ 0 ∷ 0x08 ∷ 7 ∷ 0 ∷ []

abbrev pub damaged_head : List ℕ
damaged_head = 0x13 ∷ 0x10 ∷ 0 ∷ 0x10 ∷ 7 ∷ 0 ∷ []

abbrev pub sound_trials : List SoundRow
sound_trials =
    (seated [], true) ∷ (seated five, true) ∷
    -- numbered: 23 is the last number
    (seated (replicate 23 free ++ (active 31 1 ∷ [])), true) ∷ (seated (replicate 24 free ++ (active 31 1 ∷ [])), false) ∷
    -- parented: a parent is live, or 31
    (seated (active 31 1 ∷ active 0 2 ∷ []), true) ∷ (seated (active 31 1 ∷ active 5 1 ∷ []), false) ∷ (seated (active 30 1 ∷ []), false) ∷
    -- level: 1 at the top, one more than the parent's beneath
    (seated (active 31 1 ∷ active 0 3 ∷ []), false) ∷ (seated (active 31 1 ∷ active 0 1 ∷ []), false) ∷ (seated (active 31 2 ∷ []), false) ∷ (seated (active 31 0 ∷ []), false) ∷
    -- shallow: at most 16
    (seated (nested_from 0 16), true) ∷ (seated (nested_from 0 17), false) ∷
    -- holders and retainers are live
    (with_locks ((3, 1, reading) ∷ []) [], true) ∷ (with_locks ((3, 5, reading) ∷ []) [], false) ∷ (with_locks [] ((3, 1, reading) ∷ []), true) ∷ (with_locks [] ((3, 5, reading) ∷ []), false) ∷
    -- on one line: every retainer with each that retains to write
    (with_locks [] ((3, 0, writing) ∷ (3, 2, reading) ∷ []), true) ∷ (with_locks [] ((3, 2, writing) ∷ (3, 0, reading) ∷ []), true) ∷ (with_locks [] ((3, 0, writing) ∷ (3, 3, reading) ∷ []), false) ∷
    (with_locks [] ((3, 0, reading) ∷ (3, 3, reading) ∷ []), true) ∷ (with_locks [] ((3, 1, writing) ∷ (3, 4, writing) ∷ []), false) ∷ (with_locks [] ((3, 0, writing) ∷ (4, 3, writing) ∷ []), true) ∷
    -- beneath: every holder is at or beneath all that retain to write
    (with_locks ((3, 2, reading) ∷ []) ((3, 0, writing) ∷ (3, 1, writing) ∷ []), true) ∷ (with_locks ((3, 1, reading) ∷ []) ((3, 1, writing) ∷ []), true) ∷
    (with_locks ((3, 3, reading) ∷ []) ((3, 0, writing) ∷ []), false) ∷ (with_locks ((3, 1, reading) ∷ []) ((3, 2, writing) ∷ []), false) ∷ (with_locks ((3, 1, reading) ∷ []) ((3, 2, reading) ∷ []), true) ∷
    (with_locks ((3, 4, reading) ∷ []) ((3, 0, writing) ∷ (3, 1, writing) ∷ []), false) ∷
    -- one holder: who holds to write is alone
    (with_locks ((3, 0, reading) ∷ (3, 3, reading) ∷ []) [], true) ∷ (with_locks ((3, 0, writing) ∷ (3, 3, reading) ∷ []) [], false) ∷ (with_locks ((3, 0, writing) ∷ (4, 3, writing) ∷ []) [], true) ∷
    (with_locks ((3, 0, writing) ∷ (3, 1, writing) ∷ []) [], false) ∷
    -- beneath to write: and at or beneath every retainer
    (with_locks ((3, 2, writing) ∷ []) ((3, 0, reading) ∷ []), true) ∷ (with_locks ((3, 0, writing) ∷ []) ((3, 0, reading) ∷ []), true) ∷ (with_locks ((3, 3, writing) ∷ []) ((3, 0, reading) ∷ []), false) ∷
    (with_locks ((3, 3, reading) ∷ []) ((3, 0, reading) ∷ []), true) ∷ (with_locks ((3, 0, writing) ∷ []) ((3, 1, reading) ∷ []), false) ∷
    -- by lock: who has a version holds or retains the lock of that record to write
    (versioned ((3, 1, writing) ∷ []) [] (1, 3, zero_page), true) ∷ (versioned [] ((3, 1, writing) ∷ []) (1, 3, zero_page), true) ∷ (versioned ((3, 1, reading) ∷ []) [] (1, 3, zero_page), false) ∷
    (versioned ((3, 1, reading) ∷ []) ((3, 1, reading) ∷ []) (1, 3, zero_page), false) ∷ (versioned ((4, 1, writing) ∷ []) [] (1, 3, zero_page), false) ∷ (versioned [] ((3, 0, writing) ∷ []) (1, 3, zero_page), false) ∷
    (versioned [] [] (1, 3, zero_page), false) ∷
    -- ranged and paged: a version is a page of a record
    (versioned ((15, 1, writing) ∷ []) [] (1, 15, zero_page), true) ∷ (versioned ((16, 1, writing) ∷ []) [] (1, 16, zero_page), false) ∷
    (versioned ((3, 1, writing) ∷ []) [] (1, 3, replicate 31 0), false) ∷ (versioned ((3, 1, writing) ∷ []) [] (1, 3, replicate 33 0), false) ∷
    -- idle: nothing is live while down, and page 0 may be anything
    (over_head false [] [] [] emptied_head, true) ∷ (over_head false five [] [] emptied_head, false) ∷ (over_head false [] [] [] committed_head, true) ∷ (over_head false [] [] [] damaged_head, true) ∷ (over_head false [] [] [] prepared_head, true) ∷
    -- calm: while up page 0 is empty or prepared
    (over_head true five [] [] emptied_head, true) ∷ (over_head true five [] [] committed_head, false) ∷ (over_head true [] [] [] damaged_head, false) ∷ (over_head true five [] [] prepared_head, true) ∷
    -- reserved: nobody has a lock of what the prepared transaction changed
    (over_head true five ((4, 1, writing) ∷ []) ((4, 0, writing) ∷ []) prepared_head, true) ∷ (over_head true five ((3, 1, reading) ∷ []) [] prepared_head, false) ∷
    (over_head true five [] ((3, 0, reading) ∷ []) prepared_head, false) ∷ (over_head true five ((3, 1, reading) ∷ []) [] emptied_head, true) ∷
    []
