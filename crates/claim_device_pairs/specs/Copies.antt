-- COPY WRITES THAT ARE MADE, and those within which the power goes. No definition of the rules' cuts and tears occurs here.
use Rattle.std.specs.Prelude.{ℕ, zero, suc, ◌+◌, List, [], ◌∷◌}
use Rattle.laws.specs.Functions.{updated}
use Rattle.rules.specs.Pairs.{Pairs, good, bad}
use Rattle.claim_device.specs.CopyWrites.{CopyWrite, first, second}

-- it is made: the copy is good, with the new page; the other copy stays
unfoldable pub made : CopyWrite → Pairs → Pairs
made (first n p) s = updated n (record { first = good p; second = (s n).second }) s
made (second n p) s = updated n (record { first = (s n).first; second = good p }) s

-- the power goes within it: the copy is left bad, with its old bytes; the other copy stays
unfoldable pub spoiled : CopyWrite → Pairs → Pairs
spoiled (first n p) s = updated n (record { first = bad (s n).first.page; second = (s n).second }) s
spoiled (second n p) s = updated n (record { first = (s n).first; second = bad (s n).second.page }) s

-- all of them; the first j of them; the first j of them, and the power goes within the next
unfoldable pub carried_all : List CopyWrite → Pairs → Pairs
carried_all [] s = s
carried_all (w ∷ ws) s = carried_all ws (made w s)

unfoldable pub carried_copies : ℕ → List CopyWrite → Pairs → Pairs
carried_copies zero ws s = s
carried_copies (suc j) [] s = s
carried_copies (suc j) (w ∷ ws) s = carried_copies j ws (made w s)

unfoldable pub spoiled_at : ℕ → List CopyWrite → Pairs → Pairs
spoiled_at j [] s = s
spoiled_at zero (w ∷ ws) s = spoiled w s
spoiled_at (suc j) (w ∷ ws) s = spoiled_at j ws (made w s)

-- Where that is, as an event word tells it (the rules' `cut_of true`): behind j copy writes, within the one behind them. Between two page writes, and between the copies
-- of one: value 0 and 3. Within a first copy, and within a second: value 1 and 2.
unfoldable pub behind : ℕ → ℕ
behind zero = 0
behind (suc zero) = 3
behind (suc (suc j)) = 4 + behind j

unfoldable pub within : ℕ → ℕ
within zero = 1
within (suc zero) = 2
within (suc (suc j)) = 4 + within j

-- opens the definitions of this module: for what is proved by computing
unfoldable pub open_copies : Unit {0}
unfolding made spoiled carried_all carried_copies spoiled_at behind within
open_copies = tt
