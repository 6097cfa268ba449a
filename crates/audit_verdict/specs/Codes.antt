-- A verdict as a number and a place: 0 where all belong together, 1 and the first wrong event, 2 and the first wrong page, or a refusal's number.
use Rattle.std.specs.Prelude.{ℕ, ◌*◌, ◌/◌, ◌≤◌, ◌≡◌, cond, Result, Ok, Err}
use Rattle.std.proofs.Math.Option.{Option, none, some}
use Rattle.laws.specs.Tests.{same}
use Rattle.audit_rules.specs.Audit.{Verdict, belongs, wrong_event, wrong_page, refuses}
use Rattle.audit_verdict.specs.declared.Verdict as found
use Rattle.audit_verdict.specs.declared.Verdict.TheVariants.{Belongs, WrongEvent, WrongPage}
use Rattle.audit_verdict.specs.declared.Refusal.{Refusal}
use Rattle.audit_verdict.specs.declared.Refusal.TheVariants.{EventsLength, AnswersLength, StoreLength, TwoPhase}

unfoldable pub number_in : Verdict → ℕ
number_in belongs = 0
number_in (wrong_event i) = 1
number_in (wrong_page p) = 2
number_in (refuses n) = n

-- the place after it, where it was so before
unfoldable pub place_in : Verdict → ℕ → ℕ
place_in belongs before = before
place_in (wrong_event i) before = i
place_in (wrong_page p) before = p
place_in (refuses n) before = before

-- a refusal by its number: 0 is none
unfoldable pub refusal_of : ℕ → Option ℕ
refusal_of n = cond (same n 0) none (some n)

-- a refusal by its number
abbrev pub audit_refusal : Refusal → ℕ
audit_refusal EventsLength = 20
audit_refusal AnswersLength = 21
audit_refusal StoreLength = 22
audit_refusal TwoPhase = 30

-- what is refused, by its number
unfoldable pub refused_by : {A : Type 0} → Result A Refusal → Option ℕ
refused_by (Ok v) = none
refused_by (Err r) = some (audit_refusal r)

-- the rules' verdict
unfoldable pub verdict_in : Result found.Verdict Refusal → Verdict
verdict_in (Ok Belongs) = belongs
verdict_in (Ok (WrongEvent k)) = wrong_event k
verdict_in (Ok (WrongPage p)) = wrong_page p
verdict_in (Err r) = refuses (audit_refusal r)

-- the lengths of a start store, a list, its answers and an end store that aren't refused
pub record Fit (start events answers end : ℕ) : Type 0 where
  pub starts : start ≡ 1056
  pub ends : end ≡ 1056
  pub short : events / 4 ≤ 4096
  pub whole : 4 * (events / 4) ≤ events
  pub room : 2 * (events / 4) ≤ answers
