-- The gateway's vote by kind: on a prepare, on a query, on any other event.
use mathlib.Core.Path.{◌≡◌, refl, ap, ◌∙◌}
use mathlib.Core.Bool.{Bool, true, false, ◌&&◌, ◌||◌}
use mathlib.Core.Logic.{◌≢◌}
use Prim.Native.Nat.{ℕ}
use Rattle.laws.specs.Tests.{same, open_tests}
use Rattle.laws.proofs.Tests.{ne_false}
use Rattle.depot_message.specs.Votes.{said, vote_on, has_vote, is_yes}

or-false : (b : Bool) → (b || false) ≡ b
or-false true = refl
or-false false = refl

pub on_prepare : (kind number value : ℕ) → kind ≡ 9 → vote_on kind number value ≡ said (same number 0)
on_prepare kind number value e = ap (λ (k : ℕ). vote_on k number value) e ∙ go
  where
    go : vote_on 9 number value ≡ said (same number 0)
    go = unfold vote_on has_vote is_yes open_tests in ap said (or-false (same number 0))

pub on_query : (kind number value : ℕ) → kind ≡ 11 → vote_on kind number value ≡ said (same number 0 && same value 1)
on_query kind number value e = ap (λ (k : ℕ). vote_on k number value) e ∙ go
  where
    go : vote_on 11 number value ≡ said (same number 0 && same value 1)
    go = unfold vote_on has_vote is_yes open_tests in refl

pub on_other : (kind number value : ℕ) → kind ≢ 9 → kind ≢ 11 → vote_on kind number value ≡ 0
unfolding vote_on has_vote
on_other kind number value a b = rw (ne_false kind 9 a, ne_false kind 11 b)
