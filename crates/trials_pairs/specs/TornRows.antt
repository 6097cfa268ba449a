-- What a row of a store of pairs says (document 02, L5), and the stores that rows are made of, in the papers' own numbers: byte by byte, so that a wrong
-- definition of the rules can't make its own row right.
use Rattle.std.specs.Prelude.{ℕ, zero, suc, ◌+◌, ◌*◌, Bool, true, not, ◌&&◌, List, [], ◌∷◌, ◌++◌, eqb, length, set, replicate}
use Rattle.rules.specs.Store.{Page}
use Rattle.rules.specs.Event.{write, recover}
use Rattle.rules.specs.Form.{Form}
use Rattle.rules.specs.Run.{Result, run}
use Rattle.trials_rows.specs.Rows.{Numbers, Line, on, fields, alike, events_of, answers_due, zero_page, empty_page, put, top, locks}

-- 33 pairs of 66 bytes: status, page, status, page. A fresh store has all copies good.
abbrev pub fresh_from : ℕ → List ℕ
fresh_from zero = []
fresh_from (suc n) = 1 ∷ zero_page ++ (1 ∷ zero_page ++ fresh_from n)

abbrev pub fresh_pairs : List ℕ
fresh_pairs = 1 ∷ empty_page ++ (1 ∷ empty_page ++ fresh_from 32)

-- The word is edition 1's. A page is read at its first copy.
abbrev pub numbers_pairs : Numbers
numbers_pairs = record {
  fresh_store = fresh_pairs;
  work_bytes = 8192;
  word_bytes = 4;
  word_of = λ kind t r o k v. kind * 0x10000000 + t * 0x800000 + r * 0x80000 + o * 0x4000 + k * 0x100 + v;
  page_at = λ p. 66 * p + 1;
  first_home = 17;
}

-- a store whose first, or second, copy of page p has this status and this page; whose copies are both good
abbrev pub with_first : ℕ → ℕ → Page → List ℕ → List ℕ
with_first p status new store = put (66 * p) (status ∷ new) store

abbrev pub with_second : ℕ → ℕ → Page → List ℕ → List ℕ
with_second p status new store = put (66 * p + 33) (status ∷ new) store

abbrev pub with_both : ℕ → Page → List ℕ → List ℕ
with_both p new store = with_first p 1 new (with_second p 1 new store)

-- A write of page p, torn in the three ways of the papers: the first copy left bad, with the old bytes; the first new and the second bad so; the first new and the
-- second old. (0 is between writes.)
abbrev pub torn_store : ℕ → ℕ → Page → Page → List ℕ → List ℕ
torn_store zero p new old store = store
torn_store (suc zero) p new old store = with_first p 0 old store
torn_store (suc (suc zero)) p new old store = with_first p 1 new (with_second p 0 old store)
torn_store (suc (suc (suc v))) p new old store = with_first p 1 new store

-- what a write so torn adds to the count
abbrev pub more : ℕ → ℕ
more zero = 0
more (suc zero) = 0
more (suc (suc v)) = 1

-- A row: a start store, events with the answers due, and the whole store that is due at the end.
pub data TornRow : Type 0 where
  leaves : List ℕ → List Line → List ℕ → TornRow

abbrev pub torn_row_holds : Form → TornRow → Bool
torn_row_holds f (leaves store ls after) =
    let r : Result = run f store (events_of numbers_pairs ls) (replicate 8192 0) (replicate (2 * length ls) 255) in
    eqb r.answer 0 && alike r.answers (answers_due ls) && alike r.store after

abbrev pub all_hold : Form → List TornRow → Bool
all_hold f [] = true
all_hold f (r ∷ rs) = torn_row_holds f r && all_hold f rs

-- whether a state that is up may have this store: the commit page is empty, and "every pair good and alike"
pub data Calm : Type 0 where
  calm stirred : List ℕ → Calm

abbrev pub is_so : Form → Calm → Bool
is_so f (calm store) = f.medium.emptied (f.medium.from_bytes store)
is_so f (stirred store) = not (f.medium.emptied (f.medium.from_bytes store))

abbrev pub all_so : Form → List Calm → Bool
all_so f [] = true
all_so f (c ∷ cs) = is_so f c && all_so f cs

-- Record 3 has page 4 as its intention page and page 20 as its home page; 09 is written there at 0.
abbrev pub nine : Page
nine = set zero_page 0 9

abbrev pub committed3 : Page
committed3 = 0x15 ∷ 0x10 ∷ 0x00 ∷ 0x08 ∷ replicate 28 0

abbrev pub writes_nine : List Line
writes_nine = on (recover 63) 0x0000 ∷ on top 0x0000 ∷ on (locks 0 3) 0x0000 ∷ on (write 0 3 0 9) 0x0000 ∷ []

-- the page writes of its commit, W = 4, one after the other
abbrev pub made1 : List ℕ
made1 = with_both 4 nine fresh_pairs

abbrev pub made2 : List ℕ
made2 = with_both 0 committed3 made1

abbrev pub made3 : List ℕ
made3 = with_both 20 nine made2

abbrev pub made4 : List ℕ
made4 = with_both 0 empty_page made3

-- a commit and a recovery with a count, a value and the answer due
abbrev pub torn_commit : ℕ → ℕ → ℕ → Line
torn_commit k v a = fields 5 0 0 0 k v a

abbrev pub torn_recovery : ℕ → ℕ → ℕ → Line
torn_recovery k v a = fields 8 0 0 0 k v a
