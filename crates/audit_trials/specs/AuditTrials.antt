-- Rows of what the auditor answers, decided by computing: verdicts at their edges, and the refusals in their order.
use Rattle.std.specs.Prelude.{ℕ, suc, ◌+◌, ◌*◌, ◌/◌, ◌%◌, Bool, true, false, ◌&&◌, List, [], ◌∷◌, ◌++◌, length, drop, set, replicate}
use Rattle.laws.specs.Tests.{same}
use Rattle.laws.specs.Bytes.{bytes}
use Rattle.rules.specs.Geometry.{page_size, page_count, longest}
use Rattle.rules.specs.Store.{flat, fresh, intention, home}
use Rattle.rules.specs.Editions.{geometry1}
use Rattle.audit_rules.specs.Audit.{Verdict, belongs, wrong_event, wrong_page, refuses, audit1}

-- a start store, event words, answers, an end store, and the verdict due
pub record AuditRow : Type 0 where
  pub start : List ℕ
  pub words : List ℕ
  pub answers : List ℕ
  pub end : List ℕ
  pub due : Verdict

abbrev pub audit_row : List ℕ → List ℕ → List ℕ → List ℕ → Verdict → AuditRow
audit_row start words answers end due = record { start = start; words = words; answers = answers; end = end; due = due }

abbrev pub same_verdict : Verdict → Verdict → Bool
same_verdict belongs belongs = true
same_verdict belongs (wrong_event j) = false
same_verdict belongs (wrong_page j) = false
same_verdict belongs (refuses j) = false
same_verdict (wrong_event i) belongs = false
same_verdict (wrong_event i) (wrong_event j) = same i j
same_verdict (wrong_event i) (wrong_page j) = false
same_verdict (wrong_event i) (refuses j) = false
same_verdict (wrong_page i) belongs = false
same_verdict (wrong_page i) (wrong_event j) = false
same_verdict (wrong_page i) (wrong_page j) = same i j
same_verdict (wrong_page i) (refuses j) = false
same_verdict (refuses i) belongs = false
same_verdict (refuses i) (wrong_event j) = false
same_verdict (refuses i) (wrong_page j) = false
same_verdict (refuses i) (refuses j) = same i j

abbrev pub bytes_of_words : List ℕ → List ℕ
bytes_of_words [] = []
bytes_of_words (w ∷ ws) = bytes 4 w ++ bytes_of_words ws

-- answers as numbers of two bytes
abbrev pub two : List ℕ → List ℕ
two [] = []
two (a ∷ rest) = a / 256 ∷ a % 256 ∷ two rest

abbrev pub audit_row_passes : AuditRow → Bool
audit_row_passes x = same_verdict (audit1 x.start (bytes_of_words x.words) x.answers x.end) x.due

abbrev pub audit_rows_pass : List AuditRow → Bool
audit_rows_pass [] = true
audit_rows_pass (x ∷ xs) = audit_row_passes x && audit_rows_pass xs

abbrev pub clean : List ℕ
clean = flat (page_count geometry1) (fresh geometry1)

-- A5 at offset 2 of a page
abbrev pub marked : ℕ → List ℕ → List ℕ
marked page store = set store (page_size * page + 2) 0xA5

-- another commit page's first bytes
abbrev pub headed : List ℕ → List ℕ → List ℕ
headed head store = head ++ drop (length head) store

-- recover; begin none; lock 0 3; write 0 3 2 A5; commit 0 k, by its word
abbrev pub commits_a5 : ℕ → List ℕ
commits_a5 commit = 0x80003F00 ∷ 0x1F800000 ∷ 0x20180000 ∷ 0x301880A5 ∷ commit ∷ []

abbrev pub fours : List ℕ → List ℕ
fours rest = two (0x0000 ∷ 0x0000 ∷ 0x0000 ∷ 0x0000 ∷ rest)

-- record 3 at its intention page, and at home too
abbrev pub planned : List ℕ
planned = marked (intention 3) clean

abbrev pub stored : List ℕ
stored = marked (home geometry1 3) planned

-- a transaction is prepared with record 3; the same page with a wrong count is damaged
abbrev pub store_prepared : List ℕ
store_prepared = headed (0x13 ∷ 0x10 ∷ 0x00 ∷ 0x08 ∷ 0x07 ∷ []) clean

abbrev pub miscounted : List ℕ
miscounted = headed (0x13 ∷ 0x10 ∷ 0x00 ∷ 0x10 ∷ 0x07 ∷ []) clean

abbrev pub audit_rows : List AuditRow
audit_rows =
    -- An empty list, and five events with their answers. Bytes past the last answer don't count.
    audit_row clean [] [] clean belongs ∷
    audit_row clean (commits_a5 0x50003F00) (fours (0x0004 ∷ [])) stored belongs ∷
    audit_row clean (commits_a5 0x50003F00) (fours (0x0004 ∷ 0xFFFF ∷ [])) stored belongs ∷
    -- The first wrong event: its number, its value; the store doesn't count then.
    audit_row clean (commits_a5 0x50003F00) (fours (0x0B04 ∷ [])) stored (wrong_event 4) ∷
    audit_row clean (commits_a5 0x50003F00) (fours (0x0003 ∷ [])) clean (wrong_event 4) ∷
    audit_row clean (commits_a5 0x50003F00) (two (0x0000 ∷ 0x0001 ∷ 0x0000 ∷ 0x0100 ∷ 0x0004 ∷ [])) stored (wrong_event 1) ∷
    -- The first wrong page, from the commit page to the last home page.
    audit_row clean (commits_a5 0x50003F00) (fours (0x0004 ∷ [])) clean (wrong_page 4) ∷
    audit_row clean (commits_a5 0x50003F00) (fours (0x0004 ∷ [])) planned (wrong_page 20) ∷
    audit_row clean (commits_a5 0x50003F00) (fours (0x0004 ∷ [])) (marked 0 stored) (wrong_page 0) ∷
    audit_row clean (commits_a5 0x50003F00) (fours (0x0004 ∷ [])) (marked 32 stored) (wrong_page 32) ∷
    -- A commit that is cut: after the intention page it is lost, and the page is there; after the commit page it survives.
    audit_row clean (commits_a5 0x50000100) (fours (0x0B01 ∷ [])) planned belongs ∷
    audit_row clean (commits_a5 0x50000100) (fours (0x0B01 ∷ [])) clean (wrong_page 4) ∷
    audit_row clean (commits_a5 0x50000200) (fours (0x0B02 ∷ [])) (headed (0x15 ∷ 0x10 ∷ 0x00 ∷ 0x08 ∷ []) planned) belongs ∷
    -- A lost commit isn't read, a surviving one is.
    audit_row clean (commits_a5 0x50000100 ++ (0x80003F00 ∷ 0x1F800000 ∷ 0x20180000 ∷ 0x40188000 ∷ [])) (fours (0x0B01 ∷ 0x0000 ∷ 0x0000 ∷ 0x0000 ∷ 0x0000 ∷ [])) planned belongs ∷
    audit_row clean (commits_a5 0x50000200 ++ (0x80003F00 ∷ 0x1F800000 ∷ 0x20180000 ∷ 0x40188000 ∷ [])) (fours (0x0B02 ∷ 0x0002 ∷ 0x0000 ∷ 0x0000 ∷ 0x00A5 ∷ [])) stored belongs ∷
    -- The refusals: a store's length, the list's, the answers', what isn't covered; each before all that follow.
    audit_row (drop 1 clean) (0x90000000 ∷ []) [] clean (refuses 22) ∷
    audit_row clean (0x90000000 ∷ []) [] (0 ∷ clean) (refuses 22) ∷
    audit_row store_prepared (replicate (suc longest) 0x90000000) [] clean (refuses 20) ∷
    audit_row store_prepared (0x90000000 ∷ []) (0 ∷ []) clean (refuses 21) ∷
    audit_row clean (0xC0000000 ∷ 0x90000000 ∷ []) (two (0x0000 ∷ 0x0000 ∷ [])) clean (refuses 30) ∷
    audit_row clean (0xA000FFFF ∷ []) (two (0x0100 ∷ [])) clean (refuses 30) ∷
    audit_row clean (0xBFFFFFFF ∷ []) (two (0x0100 ∷ [])) clean (refuses 30) ∷
    audit_row store_prepared [] [] store_prepared (refuses 30) ∷
    -- Kinds 8 and 12 are audited, and so is a page in state 3 that no transaction prepared.
    audit_row clean (0x8FFFFFFF ∷ 0xC0000000 ∷ []) (two (0x0100 ∷ 0x0100 ∷ [])) clean belongs ∷
    audit_row miscounted (0x80003F00 ∷ []) (two (0x0400 ∷ [])) miscounted belongs ∷
    []
