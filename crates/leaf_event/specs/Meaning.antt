-- What an event's fields stand for: an event of the rules, or none.
use Rattle.std.specs.Prelude.{◌≡◌, true, false, cond, List, ℕ, ◌^◌, ◌<◌, get_or}
use Rattle.std.proofs.Math.Option.{Option}
use Rattle.std.specs.Int.Bits.{bit_and, bit_xor}
use Rattle.laws.specs.Tests.{same}
use Rattle.rules.specs.Geometry.{Geometry, records, cut_count}
use Rattle.rules.specs.Event as rules
use Rattle.rules.specs.Event.{Fields, fields, event_at}
use Rattle.leaf_event.specs.declared.Event.{Event}

unfoldable pub fields_of : ℕ → ℕ → ℕ → ℕ → ℕ → ℕ → Fields
fields_of kind transaction rec offset count value =
    record { kind = kind; transaction = transaction; rec = rec; offset = offset; count = count; value = value; spare = 0 }

-- The rules' event of these fields; none for a kind that there isn't, and so for kind 0. The count is a cut's place as one number (the rules' `cut_of`).
unfoldable pub meaning : Event → Option rules.Event
meaning e = event_at (fields_of e.kind e.transaction e.rec e.offset e.count e.value) e.count

-- A word taken apart by a table of used fields: its fields as they are, with kind 0 where the word has a bit that its kind doesn't use.
unfoldable pub apart : Geometry → List ℕ → ℕ → Event
apart g table w =
    let f = fields g w in
    record {
      kind = cond (same (bit_and w (bit_xor w (get_or table f.kind 0))) 0) f.kind 0;
      transaction = f.transaction;
      rec = f.rec;
      offset = f.offset;
      count = f.count;
      value = f.value;
    }

-- the fields of a word that was taken apart
pub record InRange (e : Event) : Type 0 where
  pub kind : e.kind < 12
  pub transaction : e.transaction < 32
  pub rec : e.rec < 16
  pub offset : e.offset < 32
  pub count : e.count < 64
  pub value : e.value < 256

-- The fields of a word of any edition, taken apart. Kinds 9 to 11 are there only where transactions can be prepared, and there no page tears; the count is a
-- cut's place, which tells no more page writes than the word's count field.
pub record InWord (g : Geometry) (e : Event) : Type 0 where
  pub kind : e.kind < 12
  pub transaction : e.transaction < 32
  pub rec : e.rec < records g
  pub offset : e.offset < 32
  pub count : cut_count g.tears e.count < 2 ^ g.cut_bits
  pub value : e.value < 256
  pub joint : 8 < e.kind → g.joint ≡ true
  pub still : 8 < e.kind → g.tears ≡ false

-- fields that a word can hold
pub record FieldsFit (e : Event) : Type 0 where
  pub kind : e.kind < 16
  pub transaction : e.transaction < 32
  pub rec : e.rec < 16
  pub offset : e.offset < 32
  pub count : e.count < 64
  pub value : e.value < 256
