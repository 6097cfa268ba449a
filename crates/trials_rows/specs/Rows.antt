-- What a row of a table of trials says, when it passes, and the events, stores and lists that rows are made of. Words, pages, lengths and places
-- stand here in the papers' own numbers, and lists are compared here, so that a wrong definition of the rules can't make its own row right.
use Rattle.std.specs.Prelude.{ℕ, zero, suc, ◌+◌, ◌-◌, ◌*◌, ◌/◌, ◌%◌, ◌^◌, Bool, true, false, cond, ◌&&◌, List, [], ◌∷◌, ◌++◌, T, eqb, get_or, take, drop, length, set, replicate, ℤ, pos, negsuc}
use Rattle.rules.specs.Store.{Page}
use Rattle.rules.specs.Event.{to_write, to_read, Event, begin, lock, write, read, commit, abort, crash, recover, prepare, decide, query}
use Rattle.rules.specs.Form.{Form}
use Rattle.rules.specs.State.{down}
use Rattle.rules.specs.Run.{answer_bytes, Played, play, run, lay_fresh}
use Rattle.rules.specs.Age.{Age, ahead, live, stale, refused, age_of}

-- The papers' numbers for an edition.
pub record Numbers : Type 0 where
  -- the bytes of a fresh store
  pub fresh_store : List ℕ
  -- how many bytes a working buffer and an event word have
  pub work_bytes : ℕ
  pub word_bytes : ℕ
  -- the word of a kind, a transaction, a record, an offset, a count and a value
  pub word_of : ℕ → ℕ → ℕ → ℕ → ℕ → ℕ → ℕ
  -- the byte of the store at which a page begins, and the home page of record 0
  pub page_at : ℕ → ℕ
  pub first_home : ℕ

-- an event, a word, or the fields of a word (kind, transaction, record, offset, count, value); and its two answer bytes as one number
pub data Line : Type 0 where
  on : Event → ℕ → Line
  word : ℕ → ℕ → Line
  fields : ℕ → ℕ → ℕ → ℕ → ℕ → ℕ → ℕ → Line

-- Of the store at the end: how a page begins, and how the home page of a record does; that the commit page is the empty one; what the settled value of a
-- record is.
pub data StoreDue : Type 0 where
  page : ℕ → List ℕ → StoreDue
  home : ℕ → List ℕ → StoreDue
  emptied : StoreDue
  value : ℕ → Page → StoreDue

-- A row: a start store, events with the answers due, and what is due of the store at the end; the same from a fresh store; or the lengths of store,
-- events, working buffer and answer buffer with the refusal due, or with none due; or the length of a store that is laid down, with the answer due; or
-- an age; or a page 0 that is damaged. A row with neither a word nor a page by its number nor a store's bytes holds in any edition.
pub data Trial : Type 0 where
  plays : List ℕ → List Line → List StoreDue → Trial
  plays_fresh : List Line → List StoreDue → Trial
  refuses : ℕ → ℕ → ℕ → ℕ → ℕ → Trial
  takes : ℕ → ℕ → ℕ → ℕ → Trial
  lays : ℕ → ℕ → Trial
  ages : List ℕ → ℕ → ℕ → ℕ → Age → Trial
  damages : List ℕ → Trial

-- two lists are the same
abbrev pub alike : List ℕ → List ℕ → Bool
alike [] [] = true
alike [] (y ∷ ys) = false
alike (x ∷ xs) [] = false
alike (x ∷ xs) (y ∷ ys) = eqb x y && alike xs ys

-- n bytes, most significant first
abbrev pub bytes_of : ℕ → ℕ → List ℕ
bytes_of zero w = []
bytes_of (suc n) w = bytes_of n (w / 256) ++ (w % 256 ∷ [])

-- the word of an event, by the papers' table
abbrev pub spelled : Numbers → Event → ℕ
spelled n (begin t) = n.word_of 1 t 0 0 0 0
spelled n (lock t r to_write) = n.word_of 2 t r 0 0 0
spelled n (lock t r to_read) = n.word_of 2 t r 0 0 1
spelled n (write t r o v) = n.word_of 3 t r o 0 v
spelled n (read t r o) = n.word_of 4 t r o 0 0
spelled n (commit t k) = n.word_of 5 t 0 0 k 0
spelled n (abort t w) = n.word_of 6 t 0 0 0 (cond w 1 0)
spelled n crash = n.word_of 7 0 0 0 0 0
spelled n (recover k) = n.word_of 8 0 0 0 k 0
spelled n (prepare t k i) = n.word_of 9 t 0 0 k i
spelled n (decide d k i) = n.word_of 10 0 0 (cond d 1 0) k i
spelled n (query i) = n.word_of 11 0 0 0 0 i

abbrev pub word_in : Numbers → Line → ℕ
word_in n (on e a) = spelled n e
word_in n (word w a) = w
word_in n (fields kind t r o k v a) = n.word_of kind t r o k v

abbrev pub answer_in : Line → ℕ
answer_in (on e a) = a
answer_in (word w a) = a
answer_in (fields kind t r o k v a) = a

abbrev pub events_of : Numbers → List Line → List ℕ
events_of n [] = []
events_of n (l ∷ ls) = bytes_of n.word_bytes (word_in n l) ++ events_of n ls

abbrev pub answers_due : List Line → List ℕ
answers_due [] = []
answers_due (l ∷ ls) = answer_in l / 256 ∷ answer_in l % 256 ∷ answers_due ls

-- a store has these bytes at a place
abbrev pub has : List ℕ → ℕ → List ℕ → Bool
has store at bs = alike (take (length bs) (drop at store)) bs

abbrev pub is_due : Form → Numbers → List ℕ → StoreDue → Bool
is_due f n store (page p bs) = has store (n.page_at p) bs
is_due f n store (home r bs) = has store (n.page_at (n.first_home + r)) bs
is_due f n store emptied = has store (n.page_at 0) (take 32 (drop (n.page_at 0) n.fresh_store))
is_due f n store (value r bs) = alike (f.medium.settled (f.medium.from_bytes store) r) bs

abbrev pub all_due : Form → Numbers → List ℕ → List StoreDue → Bool
all_due f n store [] = true
all_due f n store (d ∷ ds) = is_due f n store d && all_due f n store ds

abbrev pub sameℤ : ℤ → ℤ → Bool
sameℤ (pos m) (pos n) = eqb m n
sameℤ (pos m) (negsuc n) = false
sameℤ (negsuc m) (pos n) = false
sameℤ (negsuc m) (negsuc n) = eqb m n

abbrev pub same_age : Age → Age → Bool
same_age (ahead a) (ahead b) = sameℤ a b
same_age (ahead a) (live b) = false
same_age (ahead a) (stale b) = false
same_age (ahead a) (refused b) = false
same_age (live a) (ahead b) = false
same_age (live a) (live b) = sameℤ a b
same_age (live a) (stale b) = false
same_age (live a) (refused b) = false
same_age (stale a) (ahead b) = false
same_age (stale a) (live b) = false
same_age (stale a) (stale b) = sameℤ a b
same_age (stale a) (refused b) = false
same_age (refused a) (ahead b) = false
same_age (refused a) (live b) = false
same_age (refused a) (stale b) = false
same_age (refused a) (refused b) = eqb a b

-- the answers to events that are all bad
abbrev pub bad_answers : ℕ → List ℕ
bad_answers zero = []
bad_answers (suc n) = 1 ∷ 0 ∷ bad_answers n

-- a run over this store has these answers, and leaves what is due
abbrev pub run_passes : Form → Numbers → List ℕ → List Line → List StoreDue → Bool
run_passes f n store ls ds =
    let r = run f store (events_of n ls) (replicate n.work_bytes 0) (replicate (2 * length ls) 255) in
    eqb r.answer 0 && alike r.answers (answers_due ls) && eqb (length r.store) (length n.fresh_store) && all_due f n r.store ds

-- The row holds of the run on bytes. A buffer of sevens is a damaged store, and a list of bad events.
abbrev pub passes : Form → Numbers → Trial → Bool
passes f n (plays store ls ds) = run_passes f n store ls ds
passes f n (plays_fresh ls ds) = run_passes f n n.fresh_store ls ds
passes f n (refuses store events work answers a) =
    let r = run f (replicate store 7) (replicate events 7) (replicate work 7) (replicate answers 7) in
    eqb r.answer a && alike r.store (replicate store 7) && alike r.answers (replicate answers 7)
passes f n (takes store events work answers) =
    let r = run f (replicate store 7) (replicate events 7) (replicate work 7) (replicate answers 7) in
    let count : ℕ = events / n.word_bytes in
    eqb r.answer 0 && alike r.store (replicate store 7) && alike r.answers (bad_answers count ++ drop (2 * count) (replicate answers 7))
passes f n (lays store a) =
    let l = lay_fresh f (replicate store 7) in
    eqb l.answer a && alike l.store (cond (eqb a 0) n.fresh_store (replicate store 7))
passes f n (ages store r clock limit a) = same_age (age_of f store r clock limit) a
passes f n (damages head) = f.medium.damaged (f.medium.from_bytes head)

abbrev pub all_pass : Form → Numbers → List Trial → Bool
all_pass f n [] = true
all_pass f n (t ∷ ts) = passes f n t && all_pass f n ts

-- A row from a fresh store holds of its words, played one by one: what is due is told by the store itself, and no bytes are laid out.
abbrev pub words_of : Numbers → List Line → List ℕ
words_of n [] = []
words_of n (l ∷ ls) = word_in n l ∷ words_of n ls

abbrev pub all_told : (f : Form) → f.medium.Store → List StoreDue → Bool
all_told f s [] = true
all_told f s (page p bs ∷ ds) = false
all_told f s (home r bs ∷ ds) = alike (take (length bs) (f.medium.home s r)) bs && all_told f s ds
all_told f s (emptied ∷ ds) = f.medium.emptied s && all_told f s ds
all_told f s (value r bs ∷ ds) = alike (f.medium.settled s r) bs && all_told f s ds

abbrev pub goes : Form → Numbers → Trial → Bool
goes f n (plays_fresh ls ds) =
    let p : Played f = play f (down (f.medium.from_bytes n.fresh_store)) (words_of n ls) in
    alike (answer_bytes p.answers) (answers_due ls) && all_told f p.state.store ds
goes f n (plays store ls ds) = false
goes f n (refuses store events work answers a) = false
goes f n (takes store events work answers) = false
goes f n (lays store a) = false
goes f n (ages store r clock limit a) = false
goes f n (damages head) = false

abbrev pub all_go : Form → Numbers → List Trial → Bool
all_go f n [] = true
all_go f n (t ∷ ts) = goes f n t && all_go f n ts

-- THE CLAIM about an edition's tables: every row of every one holds, on bytes; of its words
abbrev pub AllHold : Form → Numbers → List (List Trial) → Type 0
AllHold f n [] = Unit {0}
AllHold f n (t ∷ ts) = T (all_pass f n t) × AllHold f n ts

abbrev pub AllGo : Form → Numbers → List (List Trial) → Type 0
AllGo f n [] = Unit {0}
AllGo f n (t ∷ ts) = T (all_go f n t) × AllGo f n ts

-- Edition 1. The word has kind 4 bits, transaction 5, record 4, offset 5, count 6, value 8; pages of 32 bytes; home pages from page 17.
abbrev pub fresh_bytes : List ℕ
fresh_bytes = 0x10 ∷ replicate 1055 0

abbrev pub numbers1 : Numbers
numbers1 = record {
  fresh_store = fresh_bytes;
  work_bytes = 8192;
  word_bytes = 4;
  word_of = λ kind t r o k v. kind * 0x10000000 + t * 0x800000 + r * 0x80000 + o * 0x4000 + k * 0x100 + v;
  page_at = λ p. 32 * p;
  first_home = 17;
}

abbrev pub zero_page : Page
zero_page = replicate 32 0

abbrev pub empty_page : Page
empty_page = 0x10 ∷ replicate 31 0

abbrev pub with_a5 : Page
with_a5 = set zero_page 2 0xA5

abbrev pub top : Event
top = begin 31

-- a lock to write, a lock to read
abbrev pub locks : ℕ → ℕ → Event
locks t r = lock t r to_write

abbrev pub shares : ℕ → ℕ → Event
shares t r = lock t r to_read

-- an abort without a report, with one
abbrev pub aborts : ℕ → Event
aborts t = abort t false

abbrev pub reports : ℕ → Event
reports t = abort t true

-- a row on a fresh store that is brought up first
abbrev pub on_fresh : List Line → List StoreDue → Trial
on_fresh ls ds = plays_fresh (on (recover 63) 0x0000 ∷ ls) ds

-- a row on a fresh store that stays down, with page 0 empty
abbrev pub while_down : List Line → Trial
while_down ls = plays_fresh ls (emptied ∷ [])

-- transactions nested n deep below the first, each with its number
abbrev pub nested : ℕ → List Line
nested zero = on top 0x0000 ∷ []
nested (suc n) = nested n ++ (on (begin n) (suc n) ∷ [])

-- transaction 0 writes A5 into record 3 at 2; a child 1 of it writes 11 there and commits
abbrev pub writes_a5 : List Line
writes_a5 = on top 0x0000 ∷ on (locks 0 3) 0x0000 ∷ on (write 0 3 2 0xA5) 0x0000 ∷ []

abbrev pub child_writes11 : List Line
child_writes11 = on top 0x0000 ∷ on (begin 0) 0x0001 ∷ on (locks 1 3) 0x0000 ∷ on (write 1 3 2 0x11) 0x0000 ∷ on (commit 1 0) 0x0000 ∷ []

-- transaction 0 writes A5 into records 3 and 9 at 2, and both then or neither
abbrev pub writes_two : List Line
writes_two = writes_a5 ++ (on (locks 0 9) 0x0000 ∷ on (write 0 9 2 0xA5) 0x0000 ∷ [])

abbrev pub both_a5 : List StoreDue
both_a5 = value 3 with_a5 ∷ value 9 with_a5 ∷ []

abbrev pub neither : List StoreDue
neither = value 3 zero_page ∷ value 9 zero_page ∷ []

-- the words that have one more bit than this one, at n places from i on, and their answer
abbrev pub words_with_bit : ℕ → ℕ → ℕ → ℕ → List Line
words_with_bit w i zero a = []
words_with_bit w i (suc n) a = word (w + 2 ^ i) a ∷ words_with_bit w (suc i) n a

-- n top transactions, the first of which gets number i
abbrev pub tops : ℕ → ℕ → List Line
tops i zero = []
tops i (suc n) = on top i ∷ tops (suc i) n

-- a store with these bytes at a place
abbrev pub put : ℕ → List ℕ → List ℕ → List ℕ
put at bs store = take at store ++ (bs ++ drop (at + length bs) store)

-- bit i of some bytes, the most significant first, is the other one
abbrev pub flipped : ℕ → List ℕ → List ℕ
flipped i bs =
    let b : ℕ = get_or bs (i / 8) 0 in
    let m : ℕ = 2 ^ (7 - i % 8) in
    set bs (i / 8) (cond (eqb (b / m % 2) 1) (b - m) (b + m))

-- with any one of n bits from i on the other way, this page 0 is damaged
abbrev pub damaged_at : List ℕ → ℕ → ℕ → List Trial
damaged_at head i zero = []
damaged_at head i (suc n) = damages (flipped i head) ∷ damaged_at head (suc i) n

-- transaction 0 writes into the n records from r on
abbrev pub writes_all : ℕ → ℕ → List Line
writes_all r zero = []
writes_all r (suc n) = on (locks 0 r) 0x0000 ∷ on (write 0 r 2 0xA5) 0x0000 ∷ writes_all (suc r) n
