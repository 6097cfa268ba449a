-- Of the numbers below t those that are taken have ended; the others, and all from t on, are as they were.
use mathlib.Core.Path.{◌≡◌}
use Prim.Native.Nat.{ℕ, ◌<◌, ◌≤◌}
use lib.ListN.{length, get_or}
use Rattle.audit_bearer.specs.Tables.{Matched, takes, Ending, OthersStay}
use Rattle.audit_link.specs.Links.{one_of}
use Rattle.audit_bearer.proofs.Tables.end_within.Given as goal

abbrev pub invariant-loop-t : goal.invariant-loop-t
invariant-loop-t l =
    (l.t ≤ 24) × ((u : ℕ) → get_or l.self.bearer u 0 < 4097) × (length l.self.bearer ≡ 24) × (length l.self.links.fate ≡ 4097) × ((begun : ℕ) → begun < 4097 → Matched l.initial.self.links.fate l.initial.self.bearer begun → Ending (takes l.initial.self.links.parent (one_of l.a)) l.t l.initial.self.links.fate l.initial.self.bearer l.self.links.fate l.self.bearer × Matched l.self.links.fate l.self.bearer begun) × OthersStay l.initial.self l.self
