-- The event word: its fields, the table of the fields that each kind of event uses, and the event that a word stands for.
use Rattle.std.specs.Prelude.{ℕ, zero, suc, ◌+◌, ◌*◌, ◌/◌, ◌%◌, ◌^◌, Bool, true, false, cond, ◌&&◌, ◌||◌, List, [], ◌∷◌, get_or}
use Rattle.std.proofs.Math.Option.{Option, none, some}
use Rattle.laws.specs.Tests.{same, under}
use Rattle.rules.specs.Geometry.{Geometry, records, page_size, cut_of, cut_count, cut_way, way_limit}

-- what a lock is asked for: to write, or to read beside others
pub data Access : Type 0 where
  to_write to_read : Access

-- The events. A transaction is named first, then a record.
pub data Event : Type 0 where
  -- under a parent, or nobody
  begin : ℕ → Event
  lock : ℕ → ℕ → Access → Event
  -- at an offset, a value
  write : ℕ → ℕ → ℕ → ℕ → Event
  -- at an offset
  read : ℕ → ℕ → ℕ → Event
  -- with the place of a crash among its page writes: after how many it comes, and where pages tear, how the next is torn (`cut_of`)
  commit : ℕ → ℕ → Event
  -- with a report to the parent, or without
  abort : ℕ → Bool → Event
  crash : Event
  -- with such a place
  recover : ℕ → Event
  -- with such a place, for the decision on this identity
  prepare : ℕ → ℕ → ℕ → Event
  -- the decision, commit (true) or abort, with such a place, on this identity
  decide : Bool → ℕ → ℕ → Event
  -- whether this identity is prepared
  query : ℕ → Event

pub record Fields : Type 0 where
  pub kind : ℕ
  pub transaction : ℕ
  pub rec : ℕ
  pub offset : ℕ
  pub count : ℕ
  pub value : ℕ
  -- what stands behind the value
  pub spare : ℕ

-- the field of a word that begins some bits from its end and is some bits wide
unfoldable pub field : ℕ → ℕ → ℕ → ℕ
field place width w = w / 2 ^ place % 2 ^ width

-- Most significant first: kind 4, transaction 5, record, offset 5, count, value 8, spare bits.
unfoldable pub fields : Geometry → ℕ → Fields
fields g w =
    let value : ℕ = g.spare_bits in
    let count : ℕ = value + 8 in
    let offset : ℕ = count + g.cut_bits in
    let rec : ℕ = offset + 5 in
    let transaction : ℕ = rec + g.record_bits in
    let kind : ℕ = transaction + 5 in
    record {
      kind = field kind 4 w;
      transaction = field transaction 5 w;
      rec = field rec g.record_bits w;
      offset = field offset 5 w;
      count = field count g.cut_bits w;
      value = field value 8 w;
      spare = field 0 g.spare_bits w;
    }

-- The fields that a kind of event uses, after its name; no other kind is known, and 9 to 11 only where transactions can be prepared. Where pages tear "a cut
-- commit or recover gains value 1, 2 or 3 for the next write" (L5).
pub record Uses : Type 0 where
  pub known : Bool
  pub transaction : Bool
  pub rec : Bool
  pub offset : Bool
  pub count : Bool
  pub value : Bool

unfoldable pub row : Bool → Bool → Bool → Bool → Bool → Bool → Uses
row k t r o c v = record { known = k; transaction = t; rec = r; offset = o; count = c; value = v }

unfoldable pub no_kind : Uses
no_kind = row false false false false false false

unfoldable pub uses : Geometry → List Uses
uses g =
    no_kind ∷  -- 0
    row true true false false false false ∷  -- 1 begin
    row true true true false false true ∷  -- 2 lock
    row true true true true false true ∷  -- 3 write
    row true true true true false false ∷  -- 4 read
    row true true false false true g.tears ∷  -- 5 commit
    row true true false false false true ∷  -- 6 abort
    row true false false false false false ∷  -- 7 crash
    row true false false false true g.tears ∷  -- 8 recover
    row g.joint true false false true true ∷  -- 9 prepare
    row g.joint false false true true true ∷  -- 10 decide
    row g.joint false false false false true ∷  -- 11 query
    []

unfoldable pub uses_of : Geometry → ℕ → Uses
uses_of g kind = get_or (uses g) kind no_kind

-- the greatest value that a kind of event takes: where pages tear, of a commit or a recover "value 0 is between writes, above 3 is refusal 1" (L5)
unfoldable pub limits : Geometry → List ℕ
limits g =
    0 ∷  -- 0
    0 ∷  -- 1 begin
    1 ∷  -- 2 lock
    255 ∷  -- 3 write
    0 ∷  -- 4 read
    way_limit g.tears ∷  -- 5 commit
    1 ∷  -- 6 abort
    0 ∷  -- 7 crash
    way_limit g.tears ∷  -- 8 recover
    255 ∷  -- 9 prepare
    255 ∷  -- 10 decide
    255 ∷  -- 11 query
    []

unfoldable pub limit_of : Geometry → ℕ → ℕ
limit_of g kind = get_or (limits g) kind 0

-- the greatest offset that a kind of event takes: a decide says 1 for commit, 0 for abort
unfoldable pub offset_limits : List ℕ
offset_limits = 0 ∷ 0 ∷ 0 ∷ 31 ∷ 31 ∷ 0 ∷ 0 ∷ 0 ∷ 0 ∷ 0 ∷ 1 ∷ 0 ∷ []

unfoldable pub offset_limit_of : ℕ → ℕ
offset_limit_of kind = get_or offset_limits kind 0

-- the kind is known, every field that it does not use is 0, and the value and the offset are ones that it takes
unfoldable pub well_formed : Geometry → Fields → Bool
well_formed g f =
    let u = uses_of g f.kind in
    u.known &&
    (u.transaction || same f.transaction 0) &&
    (u.rec || same f.rec 0) &&
    (u.offset || same f.offset 0) &&
    (u.count || same f.count 0) &&
    (u.value || same f.value 0) &&
    same f.spare 0 &&
    under f.value (suc (limit_of g f.kind)) &&
    under f.offset (suc (offset_limit_of f.kind))

-- the value 0 of a lock asks for it to write, 1 to read
unfoldable pub access_of : ℕ → Access
access_of zero = to_write
access_of (suc n) = to_read

unfoldable pub access_value : Access → ℕ
access_value to_write = 0
access_value to_read = 1

-- the value 1 of an abort is with a report, 0 without
unfoldable pub report_of : ℕ → Bool
report_of zero = false
report_of (suc n) = true

unfoldable pub report_value : Bool → ℕ
report_value false = 0
report_value true = 1

-- the offset 1 of a decide is to commit, 0 to abort
unfoldable pub decision_of : ℕ → Bool
decision_of zero = false
decision_of (suc n) = true

unfoldable pub decision_offset : Bool → ℕ
decision_offset false = 0
decision_offset true = 1

-- the event of a kind, with its fields and the place k of a crash
unfoldable pub event_at : Fields → ℕ → Option Event
event_at f k =
    get_or (
    none ∷
    some (begin f.transaction) ∷
    some (lock f.transaction f.rec (access_of f.value)) ∷
    some (write f.transaction f.rec f.offset f.value) ∷
    some (read f.transaction f.rec f.offset) ∷
    some (commit f.transaction k) ∷
    some (abort f.transaction (report_of f.value)) ∷
    some crash ∷
    some (recover k) ∷
    some (prepare f.transaction f.count f.value) ∷
    some (decide (decision_of f.offset) f.count f.value) ∷
    some (query f.value) ∷
    []) f.kind none

-- where pages tear, that place is told by count and value
unfoldable pub event_of : Geometry → Fields → Option Event
event_of g f = event_at f (cut_of g.tears f.count f.value)

-- the event that a word stands for; a bad event is none
unfoldable pub decode : Geometry → ℕ → Option Event
decode g w = let f = fields g w in cond (well_formed g f) (event_of g f) none

unfoldable pub word : Geometry → ℕ → ℕ → ℕ → ℕ → ℕ → ℕ → ℕ
word g kind transaction rec offset count value =
    (((((kind * 2 ^ 5 + transaction) * 2 ^ g.record_bits + rec) * 2 ^ 5 + offset) * 2 ^ g.cut_bits + count) * 2 ^ 8 + value) * 2 ^ g.spare_bits

unfoldable pub encode : Geometry → Event → ℕ
encode g (begin t) = word g 1 t 0 0 0 0
encode g (lock t r a) = word g 2 t r 0 0 (access_value a)
encode g (write t r o v) = word g 3 t r o 0 v
encode g (read t r o) = word g 4 t r o 0 0
encode g (commit t k) = word g 5 t 0 0 (cut_count g.tears k) (cut_way g.tears k)
encode g (abort t w) = word g 6 t 0 0 0 (report_value w)
encode g crash = word g 7 0 0 0 0 0
encode g (recover k) = word g 8 0 0 0 (cut_count g.tears k) (cut_way g.tears k)
encode g (prepare t k i) = word g 9 t 0 0 k i
encode g (decide d k i) = word g 10 0 0 (decision_offset d) k i
encode g (query i) = word g 11 0 0 0 0 i

-- an event that a word can hold
unfoldable pub fits : Geometry → Event → Bool
fits g (begin t) = under t 32
fits g (lock t r a) = under t 32 && under r (records g)
fits g (write t r o v) = under t 32 && under r (records g) && under o page_size && under v 256
fits g (read t r o) = under t 32 && under r (records g) && under o page_size
fits g (commit t k) = under t 32 && under (cut_count g.tears k) (2 ^ g.cut_bits)
fits g (abort t w) = under t 32
fits g crash = true
fits g (recover k) = under (cut_count g.tears k) (2 ^ g.cut_bits)
fits g (prepare t k i) = under t 32 && under k (2 ^ g.cut_bits) && under i 256 && g.joint
fits g (decide d k i) = under k (2 ^ g.cut_bits) && under i 256 && g.joint
fits g (query i) = under i 256 && g.joint

-- opens the definitions of this module: for what is proved by computing
unfoldable pub open_event : Unit {0}
unfolding field fields row no_kind uses uses_of limits limit_of offset_limits offset_limit_of well_formed access_of access_value report_of report_value decision_of decision_offset event_at event_of decode word encode fits
open_event = tt
