-- The geometries that there are satisfy what the formats ask; edition 2 and the form whose pages tear have no prepare, decide or query.
use native.Mathlib.Bridge.{le_by_compare, IsLe}
use mathlib.Core.Path.{◌≡◌, refl}
use mathlib.Core.Bool.{Bool, true, false, false≢true}
use mathlib.Core.Option.{none}
use Prim.Native.Nat.{ℕ, ◌<◌}
use Rattle.rules.specs.Geometry.{Geometry, Proper, open_geometry}
use Rattle.rules.specs.Store.{Page, Pages, read_commit, read_prepared, is_damaged, damaged}
use Rattle.rules.specs.Event.{fields, decode}
use Rattle.rules.specs.Editions.{geometry1, geometry2, geometry_pairs, medium_of}
use Rattle.rules.proofs.Medium.{MediumLaws}
use Rattle.rules.proofs.AtomicPages.{atomic_laws}
use Rattle.rules.proofs.PairedPages.{paired_laws}
use Rattle.rules.proofs.Plain.{no_kind, none-prepared, plain_damaged}

pub proper1 : Proper geometry1
unfolding open_geometry IsLe
proper1 = record {
  edition_fits = le_by_compare 2 16 tt;
  ones_fit = le_by_compare 17 32 tt;
  page_fits = le_by_compare 29 256 tt;
  joint_fits = λ e. le_by_compare 29 32 tt;
  torn_plain = λ e. absurd (false≢true e);
  word_whole = refl;
  count_wide = le_by_compare 35 64 tt;
}

pub proper2 : Proper geometry2
unfolding open_geometry IsLe
proper2 = record {
  edition_fits = le_by_compare 3 16 tt;
  ones_fit = le_by_compare 65 128 tt;
  page_fits = le_by_compare 79 256 tt;
  joint_fits = λ e. absurd (false≢true e);
  torn_plain = λ e. absurd (false≢true e);
  word_whole = refl;
  count_wide = le_by_compare 131 256 tt;
}

pub proper_pairs : Proper geometry_pairs
unfolding open_geometry IsLe
proper_pairs = record {
  edition_fits = le_by_compare 2 16 tt;
  ones_fit = le_by_compare 17 32 tt;
  page_fits = le_by_compare 29 256 tt;
  joint_fits = λ e. absurd (false≢true e);
  torn_plain = λ e. refl;
  word_whole = refl;
  count_wide = le_by_compare 35 64 tt;
}

-- the laws of a geometry's medium
pub medium_laws : (tears : Bool) (g : Geometry) → Proper g → g.tears ≡ tears → MediumLaws g (medium_of tears g)
medium_laws false g proper e = atomic_laws g proper
medium_laws true g proper e = paired_laws g proper e

-- kinds 9 to 11 are bad, and a page in state 3 is damaged: no such page is read as prepared, and any page that has no map is damaged
pub no_kind2 : (w : ℕ) → 8 < (fields geometry2 w).kind → decode geometry2 w ≡ none
no_kind2 = no_kind geometry2 refl

pub no_kind_pairs : (w : ℕ) → 8 < (fields geometry_pairs w).kind → decode geometry_pairs w ≡ none
no_kind_pairs = no_kind geometry_pairs refl

pub none_prepared2 : (page : Page) → read_prepared geometry2 page ≡ none
none_prepared2 = none-prepared geometry2 refl

pub none_prepared_pairs : (page : Page) → read_prepared geometry_pairs page ≡ none
none_prepared_pairs = none-prepared geometry_pairs refl

pub damaged2 : (s : Pages) → damaged geometry2 s ≡ is_damaged (read_commit geometry2 (s 0))
damaged2 = plain_damaged geometry2 refl
