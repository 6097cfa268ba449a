-- The tables before the first event: all zeros, and they tell nothing.
use mathlib.Core.Path.{◌≡◌, ap}
use mathlib.Core.Bool.{false}
use mathlib.Core.List.{List, []}
use mathlib.Core.Logic.{dite}
use native.Mathlib.Decide.{dec_lt}
use Prim.Native.Nat.{ℕ}
use native.Mathlib.Omega.{arith}
use lib.ListN.{length, get_or, replicate, length-replicate, get_or-replicate, get_or-eq_default}
use Rattle.laws.specs.Tests.{open_tests}
use Rattle.history.specs.History.{ended, nothing_yet}
use Rattle.audit_rules.specs.Plain.{blank_ledger}
use Rattle.audit_link.specs.Links.{fate_of, passed_of, entry_at, fate_in, passed_in}
use Rattle.audit_scan.specs.Scans.{grants_to, writes_up_to}
use Rattle.audit_bearer.specs.Tables.{tables, ledger_of}
use Rattle.audit_event.specs.Step.{Consistent}

pub none_at : (n k : ℕ) → get_or {A = ℕ} (replicate n 0) k 0 ≡ 0
none_at n k =
    dite (dec_lt k n) (λ lt. get_or-replicate n k 0 0 lt)
    (λ ge. let e : length {A = ℕ} (replicate n 0) ≡ n = length-replicate n 0 in get_or-eq_default {A = ℕ} (replicate n 0) 0 (omega arith))

module _ (owner parent fate bearer : List ℕ) (zo : (k : ℕ) → get_or owner k 0 ≡ 0) (zp : (k : ℕ) → get_or parent k 0 ≡ 0) (zf : (k : ℕ) → get_or fate k 0 ≡ 0)
    (zb : (k : ℕ) → get_or bearer k 0 ≡ 0) where
  fate_none : (i : ℕ) → fate_in fate i ≡ ended
  unfolding fate_in fate_of open_tests
  fate_none i = ap fate_of (zf i)

  passed_none : (i : ℕ) → passed_in fate i ≡ false
  unfolding passed_in passed_of open_tests
  passed_none i = ap passed_of (zf i)

  pub blank_tells : (events : List ℕ) → ledger_of (tables owner parent fate bearer 0 false) events 0 ≡ blank_ledger
  unfolding ledger_of tables blank_ledger nothing_yet grants_to writes_up_to entry_at
  blank_tells events = λ i. record {
    story = record { begun = 0; bearer = λ t. zb t i; parent = λ t. zp t i; fate = λ t. fate_none t i; writes = [] };
    passed = λ t. passed_none t i;
    grants = [];
    up = false;
  }

  pub blank_consistent : length owner ≡ 4096 → length parent ≡ 4097 → length fate ≡ 4097 → length bearer ≡ 24 → Consistent (tables owner parent fate bearer 0 false) 0
  unfolding tables
  blank_consistent lo lp lf lb = record {
    matched = record {
      long = lb;
      wide = lf;
      known = λ t. let e = zb t in omega (arith, e);
      bears = λ t n. absurd (n (zb t));
      who = λ i t e. let z = zf i in absurd (omega (arith, e, z));
      none_ended = zf 0;
      unborn = λ i h. zf i;
    };
    earlier = λ i. let e = zp i in omega (arith, e);
    tall = lp;
    full = lo;
    owners = λ j. let e = zo j in omega (arith, e);
    later = λ j h. zo j;
    few = omega arith;
  }

pub zeros_tell : (events : List ℕ) → ledger_of (tables (replicate 4096 0) (replicate 4097 0) (replicate 4097 0) (replicate 24 0) 0 false) events 0 ≡ blank_ledger
zeros_tell = blank_tells (replicate 4096 0) (replicate 4097 0) (replicate 4097 0) (replicate 24 0) (none_at 4096) (none_at 4097) (none_at 4097) (none_at 24)

pub zeros_consistent : Consistent (tables (replicate 4096 0) (replicate 4097 0) (replicate 4097 0) (replicate 24 0) 0 false) 0
zeros_consistent = blank_consistent (replicate 4096 0) (replicate 4097 0) (replicate 4097 0) (replicate 24 0) (none_at 4096) (none_at 4097) (none_at 4097) (none_at 24)
    (length-replicate {A = ℕ} 4096 0) (length-replicate {A = ℕ} 4097 0) (length-replicate {A = ℕ} 4097 0) (length-replicate {A = ℕ} 24 0)
