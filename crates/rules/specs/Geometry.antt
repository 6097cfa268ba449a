-- The numbers in which editions and forms differ. Nothing else names a number of records, a depth or a width that may change.
use Rattle.std.specs.Prelude.{◌≡◌, Bool, true, false, ℕ, ◌+◌, ◌-◌, ◌*◌, ◌/◌, ◌%◌, ◌^◌, ◌≤◌, ◌<◌}

pub record Geometry : Type 0 where
  pub edition : ℕ
  -- the width of the event word's record field: there are as many records as it can name
  pub record_bits : ℕ
  -- the width of the event word's count field
  pub cut_bits : ℕ
  -- the zero bits at the end of the event word
  pub spare_bits : ℕ
  -- the width of the commit page's count
  pub ones_bits : ℕ
  -- how deep transactions nest
  pub depth_limit : ℕ
  -- whether transactions can be prepared and decided (document 02, L9): the events 9 to 11, and the commit page's state 3
  pub joint : Bool
  -- whether a page write can tear (document 02, L5): the value of a commit or a recover then says how
  pub tears : Bool

-- the bytes of a page; the transaction numbers; the name of no transaction; the events of a list at most
abbrev pub page_size : ℕ
page_size = 32

abbrev pub transactions : ℕ
transactions = 24

abbrev pub nobody : ℕ
nobody = 31

abbrev pub longest : ℕ
longest = 4096

unfoldable pub records : Geometry → ℕ
records g = 2 ^ g.record_bits

-- a commit page, and an intention page and a home page for each record
unfoldable pub page_count : Geometry → ℕ
page_count g = 1 + (records g + records g)

-- a page for each record at each depth
unfoldable pub work_size : Geometry → ℕ
work_size g = records g * g.depth_limit * page_size

-- the bytes of an event word: kind 4, transaction 5, record, offset 5, count, value 8, spare bits
unfoldable pub word_size : Geometry → ℕ
word_size g = (4 + 5 + g.record_bits + 5 + g.cut_bits + 8 + g.spare_bits) / 8

-- The place of a cut among page writes, as one number: after how many of them it comes; where pages tear, that and how the next one is torn (0 is between
-- writes). The number, and the count and the way that it tells.
abbrev pub cut_of : Bool → ℕ → ℕ → ℕ
cut_of false count way = count
cut_of true count way = 4 * count + way

abbrev pub cut_count : Bool → ℕ → ℕ
cut_count false k = k
cut_count true k = k / 4

abbrev pub cut_way : Bool → ℕ → ℕ
cut_way false k = 0
cut_way true k = k % 4

-- the greatest way in which a write can be torn: L5's "value 1, 2 or 3"
abbrev pub way_limit : Bool → ℕ
way_limit false = 0
way_limit true = 3

-- the greatest count that an event word can hold, between writes: no page writes are cut there
unfoldable pub uncut : Geometry → ℕ
uncut g = cut_of g.tears (2 ^ g.cut_bits - 1) 0

-- what the formats of the event word and of the commit page ask of a geometry
pub record Proper (g : Geometry) : Type 0 where
  -- the edition has four bits
  pub edition_fits : g.edition < 16
  -- the commit page's count can say any number of records
  pub ones_fit : records g < 2 ^ g.ones_bits
  -- edition, state, map and count fit a page
  pub page_fits : 8 + records g + g.ones_bits ≤ 8 * page_size
  -- where a transaction can be prepared, the commit page's fifth byte is free for its identity
  pub joint_fits : g.joint ≡ true → 8 + records g + g.ones_bits ≤ 8 * 4
  -- where pages tear none can be prepared: L5's form keeps "kinds 9 to 11 bad and state 3 damaged" (L9)
  pub torn_plain : g.tears ≡ true → g.joint ≡ false
  -- the fields of an event word are whole bytes
  pub word_whole : 4 + 5 + g.record_bits + 5 + g.cut_bits + 8 + g.spare_bits ≡ 8 * word_size g
  -- its count can say more page writes than a commit of all records makes
  pub count_wide : 2 * records g + 2 < 2 ^ g.cut_bits

-- opens the definitions of this module: for what is proved by computing
unfoldable pub open_geometry : Unit {0}
unfolding records page_count work_size word_size uncut
open_geometry = tt
