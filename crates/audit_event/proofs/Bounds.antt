-- What consistent tables say of their arrays.
use mathlib.Core.Path.{◌≡◌}
use mathlib.Core.Bool.{Bool}
use mathlib.Core.List.{List}
use mathlib.Core.Option.{Option}
use Prim.Native.Nat.{ℕ, ◌<◌}
use native.Mathlib.Omega.{arith}
use lib.ListN.{length, get_or}
use Rattle.rules.specs.Event.{Event}
use Rattle.audit_link.specs.Links.{Earlier}
use Rattle.audit_bearer.specs.Tables.{Matched, tables}
use Rattle.audit_bearer.specs.declared.Tables as held
use Rattle.audit_event.specs.Step.{Before, InOrder}

pub record Bounds (owner parent fate bearer : List ℕ) (begun n : ℕ) : Type 0 where
  pub matched : Matched fate bearer begun
  pub earlier : Earlier parent
  pub tall : length parent ≡ 4097
  pub owners : (j : ℕ) → get_or owner j 0 < 4097
  pub full : length owner ≡ 4096
  pub bearers : (u : ℕ) → get_or bearer u 0 < 4097
  pub room : begun < 4097
  pub more : begun < 4096

pub bounds_of : (owner parent fate bearer events : List ℕ) (begun n : ℕ) (e : Option Event) (up : Bool) → n < 4096 → Before events n e (tables owner parent fate bearer begun up) → Bounds owner parent fate bearer begun n
unfolding tables
bounds_of owner parent fate bearer events begun n e up h B = let T = B.consistent in let f = T.few in record {
  matched = T.matched;
  earlier = T.earlier;
  tall = T.tall;
  owners = λ j. let k = T.owners j in omega (arith, k, f, h);
  full = T.full;
  bearers = λ u. let k = T.matched.known u in omega (arith, k, f, h);
  room = omega (arith, f, h);
  more = omega (arith, f, h);
}

pub in_order : (s : held.Tables) (n : ℕ) → Bounds s.owner s.links.parent s.links.fate s.bearer s.begun n → InOrder s
in_order s n b = record { owners = b.owners; full = b.full; earlier = b.earlier; tall = b.tall; wide = b.matched.wide; bearers = b.bearers; long = b.matched.long }
