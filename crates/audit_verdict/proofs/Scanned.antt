-- Kinds of two-phase commit, event by event.
use mathlib.Core.Path.{◌≡◌, refl, sym, ap, ◌∙◌}
use mathlib.Core.Bool.{Bool, true, false, ◌||◌}
use mathlib.Core.List.{List, [], ◌∷◌}
use Prim.Native.Nat.{ℕ, zero, suc, ◌+◌, ◌*◌}
use lib.ListN.{take, drop}
use Rattle.std.specs.List.{fold, list_any, range_with_len}
use Rattle.laws.specs.Bytes.{number}
use Rattle.rules.specs.Run.{words}
use Rattle.rules.specs.Editions.{geometry1}
use Rattle.leaf_event.proofs.Words.{bytes1, words_next}
use Rattle.audit_rules.specs.Audit.{is_two_phase, some_two_phase}

-- the word of event k
abbrev pub word_of : List ℕ → ℕ → ℕ
word_of events k = number (take 4 (drop (4 * k) events))

-- what is met so far, or lies ahead, is what lies in the whole list
joined : (a b c : Bool) → ((a || b) || c) ≡ (a || (b || c))
joined true b c = refl
joined false b c = refl

nothing_ahead : (a : Bool) → a ≡ (a || false)
nothing_ahead true = refl
nothing_ahead false = refl

pub met_any : (test : ℕ → Bool) (met : Bool) (ks : List ℕ) → fold (λ (b : Bool) (k : ℕ). b || test k) met ks ≡ (met || list_any test ks)
met_any test met [] = nothing_ahead met
met_any test met (k ∷ ks) = met_any test (met || test k) ks ∙ joined met (test k) (list_any test ks)

pub some_scanned : (events : List ℕ) (m k : ℕ)
    → list_any (λ j. is_two_phase geometry1 (word_of events j)) (range_with_len k m) ≡ some_two_phase geometry1 (words geometry1 m (drop (4 * k) events))
unfolding some_two_phase words
some_scanned events zero k = refl
some_scanned events (suc m) k =
    ap (λ (b : Bool). is_two_phase geometry1 (word_of events k) || b) (some_scanned events m (k + 1)) ∙ sym (ap (some_two_phase geometry1) (words_next geometry1 4 bytes1 m k events))
