-- Each tear at each write of a commit and of a recovery, and torn again, with every byte of the store (document 02, L5).
use Rattle.std.specs.Prelude.{ℕ, ◌+◌, List, [], ◌∷◌, ◌++◌}
use Rattle.rules.specs.Store.{Page}
use Rattle.trials_rows.specs.Rows.{on, top, zero_page, empty_page}
use Rattle.trials_pairs.specs.TornRows.{torn_store, more, TornRow, leaves, fresh_pairs, nine, committed3, writes_nine, made1, made2, made3, made4, torn_commit, torn_recovery}

-- The commit is cut at k, torn in way v: the answer is 11 with the writes made, the store is down, and has just these bytes. Then a recovery has the answer r and
-- leaves all pairs good and alike, as they are due; and the next one is refused with 3.
abbrev pub cut_commit : ℕ → ℕ → List ℕ → ℕ → List ℕ → List TornRow
cut_commit k v store r after =
    leaves fresh_pairs (writes_nine ++ (torn_commit k v (0x0B00 + (k + more v)) ∷ on top 0x0200 ∷ [])) store ∷
    leaves store (on top 0x0200 ∷ torn_recovery 63 0 r ∷ torn_recovery 63 0 0x0300 ∷ on top 0x0000 ∷ []) after ∷
    []

unfoldable pub commit_rows : List TornRow
commit_rows =
    -- the first write, the intention page: lost in every way
    cut_commit 0 0 fresh_pairs 0x0000 fresh_pairs ++ (cut_commit 0 1 (torn_store 1 4 nine zero_page fresh_pairs) 0x0000 fresh_pairs ++ (
    cut_commit 0 2 (torn_store 2 4 nine zero_page fresh_pairs) 0x0000 made1 ++ (cut_commit 0 3 (torn_store 3 4 nine zero_page fresh_pairs) 0x0000 made1 ++ (
    -- the commit page: lost where the first copy is left bad, there where it is new
    cut_commit 1 0 made1 0x0000 made1 ++ (cut_commit 1 1 (torn_store 1 0 committed3 empty_page made1) 0x0000 made1 ++ (
    cut_commit 1 2 (torn_store 2 0 committed3 empty_page made1) 0x0002 made4 ++ (cut_commit 1 3 (torn_store 3 0 committed3 empty_page made1) 0x0002 made4 ++ (
    -- the home page
    cut_commit 2 0 made2 0x0002 made4 ++ (cut_commit 2 1 (torn_store 1 20 nine zero_page made2) 0x0002 made4 ++ (
    cut_commit 2 2 (torn_store 2 20 nine zero_page made2) 0x0002 made4 ++ (cut_commit 2 3 (torn_store 3 20 nine zero_page made2) 0x0002 made4 ++ (
    -- the emptied commit page: all four writes made, and yet cut; then there is nothing to recover
    cut_commit 3 0 made3 0x0002 made4 ++ (cut_commit 3 1 (torn_store 1 0 empty_page committed3 made3) 0x0002 made4 ++ (
    cut_commit 3 2 (torn_store 2 0 empty_page committed3 made3) 0x0000 made4 ++ cut_commit 3 3 (torn_store 3 0 empty_page committed3 made3) 0x0000 made4))))))))))))))

-- "with k at W or above nothing tears"
unfoldable pub whole_rows : List TornRow
whole_rows =
    leaves fresh_pairs (writes_nine ++ (torn_commit 4 0 0x0004 ∷ on top 0x0000 ∷ [])) made4 ∷ leaves fresh_pairs (writes_nine ++ (torn_commit 4 1 0x0004 ∷ on top 0x0000 ∷ [])) made4 ∷
    leaves fresh_pairs (writes_nine ++ (torn_commit 4 2 0x0004 ∷ on top 0x0000 ∷ [])) made4 ∷ leaves fresh_pairs (writes_nine ++ (torn_commit 4 3 0x0004 ∷ on top 0x0000 ∷ [])) made4 ∷
    leaves fresh_pairs (writes_nine ++ (torn_commit 63 3 0x0004 ∷ on top 0x0000 ∷ [])) made4 ∷
    leaves made2 (torn_recovery 2 1 0x0002 ∷ on top 0x0000 ∷ []) made4 ∷ leaves made2 (torn_recovery 2 2 0x0002 ∷ on top 0x0000 ∷ []) made4 ∷ leaves made2 (torn_recovery 2 3 0x0002 ∷ on top 0x0000 ∷ []) made4 ∷
    leaves made2 (torn_recovery 63 3 0x0002 ∷ on top 0x0000 ∷ []) made4 ∷
    []

-- A recovery of record 3, W = 2, over a store whose home page of it has these old bytes: cut at k, torn in way v. The store that is due is given for each.
abbrev pub cut_recovery : List ℕ → ℕ → ℕ → List ℕ → TornRow
cut_recovery store k v after = leaves store (torn_recovery k v (0x0B00 + (k + more v)) ∷ on top 0x0200 ∷ []) after

-- with the home page and the emptied commit page each torn
abbrev pub cuts_of : Page → List ℕ → List ℕ → List TornRow
cuts_of old store home =
    cut_recovery store 0 0 store ∷ cut_recovery store 0 1 (torn_store 1 20 nine old store) ∷ cut_recovery store 0 2 (torn_store 2 20 nine old store) ∷ cut_recovery store 0 3 (torn_store 3 20 nine old store) ∷
    cut_recovery store 1 0 home ∷ cut_recovery store 1 1 (torn_store 1 0 empty_page committed3 home) ∷ cut_recovery store 1 2 (torn_store 2 0 empty_page committed3 home) ∷
    cut_recovery store 1 3 (torn_store 3 0 empty_page committed3 home) ∷ leaves store (torn_recovery 2 0 0x0002 ∷ on top 0x0000 ∷ []) made4 ∷
    []

unfoldable pub recovery_rows : List TornRow
recovery_rows = cuts_of zero_page made2 made3

-- Torn again: over each store that a torn recovery leaves, a second one. It mends first: where the first copy was left bad the home page is the old one again, else
-- the new one; where the commit page was emptied nothing is left to do.
abbrev pub mends : List ℕ → List TornRow → List TornRow
mends torn [] = []
mends torn (leaves store ls after ∷ rs) = leaves torn ls after ∷ mends torn rs

unfoldable pub again_rows : List TornRow
again_rows =
    mends (torn_store 1 20 nine zero_page made2) (cuts_of zero_page made2 made3) ++ (
    mends (torn_store 2 20 nine zero_page made2) (cuts_of nine made3 made3) ++ (
    mends (torn_store 3 20 nine zero_page made2) (cuts_of nine made3 made3) ++ (
    mends (torn_store 1 0 empty_page committed3 made3) (cuts_of nine made3 made3) ++ (
    leaves (torn_store 2 0 empty_page committed3 made3) (torn_recovery 0 1 0x0000 ∷ on top 0x0000 ∷ []) made4 ∷
    leaves (torn_store 3 0 empty_page committed3 made3) (torn_recovery 0 3 0x0000 ∷ on top 0x0000 ∷ []) made4 ∷
    -- three recoveries in one list, the first two torn
    leaves made2 (torn_recovery 0 1 0x0B00 ∷ torn_recovery 1 1 0x0B01 ∷ torn_recovery 0 2 0x0B01 ∷ torn_recovery 1 3 0x0B02 ∷ torn_recovery 0 0 0x0000 ∷ on top 0x0000 ∷ []) made4 ∷
    []))))
