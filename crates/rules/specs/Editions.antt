-- The editions and forms that there are.
use Rattle.std.specs.Prelude.{◌≡◌, Bool, true, false, ℕ, ◌*◌}
use Rattle.rules.specs.Geometry.{Geometry, page_size, records}
use Rattle.rules.specs.Form.{Form, Medium, atomic_pages, atomic}
use Rattle.rules.specs.Pairs.{paired_pages, in_pairs}

-- sixteen records, event words of four bytes, a store of 33 pages
abbrev pub geometry1 : Geometry
geometry1 = record { edition = 1; record_bits = 4; cut_bits = 6; spare_bits = 0; ones_bits = 5; depth_limit = 16; joint = true; tears = false }

abbrev pub edition1 : Form
edition1 = atomic geometry1

-- Document 02, L7: sixty-four records, event words of eight bytes (the six fields at 4, 5, 6, 5, 8 and 8 bits, then 28 zero bits), a store of 129 pages. "L5's
-- form and edition 2 keep kinds 9 to 11 bad and state 3 damaged" (L9).
abbrev pub geometry2 : Geometry
geometry2 = record { edition = 2; record_bits = 6; cut_bits = 8; spare_bits = 28; ones_bits = 7; depth_limit = 16; joint = false; tears = false }

abbrev pub edition2 : Form
edition2 = atomic geometry2

-- Document 02, L5: edition 1's numbers on pages that can tear, each kept as a pair of copies, a store of 2,178 bytes. "L5's form and edition 2 keep kinds 9 to
-- 11 bad and state 3 damaged" (L9).
abbrev pub geometry_pairs : Geometry
geometry_pairs = record {
  edition = geometry1.edition;
  record_bits = geometry1.record_bits;
  cut_bits = geometry1.cut_bits;
  spare_bits = geometry1.spare_bits;
  ones_bits = geometry1.ones_bits;
  depth_limit = geometry1.depth_limit;
  joint = false;
  tears = true;
}

abbrev pub edition_pairs : Form
edition_pairs = in_pairs geometry_pairs

-- a geometry's medium and its form, on atomic pages or on pages that can tear
abbrev pub medium_of : Bool → Geometry → Medium
medium_of false g = atomic_pages g
medium_of true g = paired_pages g

abbrev pub form_in : Bool → Geometry → Form
form_in tears g = record { geometry = g; medium = medium_of tears g }

-- The editions and forms by name. (A form holds a type, so that a contract can't speak of all forms; it can speak of all of these.)
pub data Edition : Type 0 where
  first second paired : Edition

abbrev pub geometry_of : Edition → Geometry
geometry_of first = geometry1
geometry_of second = geometry2
geometry_of paired = geometry_pairs

abbrev pub form_of : Edition → Form
form_of k = form_in (geometry_of k).tears (geometry_of k)

-- An edition in the numbers that the code gets: how many records there are, whether transactions can be prepared and decided, and whether pages can tear.
pub record InNumbers (k : Edition) (n : ℕ) (joint tears : Bool) : Type 0 where
  pub many : records (geometry_of k) ≡ n
  pub two_phase : (geometry_of k).joint ≡ joint
  pub torn : (geometry_of k).tears ≡ tears

-- the edition that these numbers tell
abbrev pub edition_of : ℕ → Bool → Bool → Edition
edition_of n true tears = first
edition_of n false true = paired
edition_of n false false = second

-- Edition 1's numbers that follow from its depth limit, as numbers that compute: how deep transactions nest, the pages of the working buffer, and its
-- bytes (`work_size geometry1`).
abbrev pub depths : ℕ
depths = geometry1.depth_limit

abbrev pub slot_count : ℕ
slot_count = 16 * depths

abbrev pub work_bytes : ℕ
work_bytes = slot_count * page_size
