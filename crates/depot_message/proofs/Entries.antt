-- Each entry of the code's table is the agreement's turn of its state and message; and a number stands for one state, message or reply.
use mathlib.Core.Path.{◌≡◌, refl, sym, ap, ◌∙◌}
use mathlib.Core.Bool.{Bool, cond}
use mathlib.Core.List.{List, [], ◌∷◌}
use mathlib.Core.Logic.{◌≢◌}
use mathlib.Core.Option.{Option, none, some}
use Prim.Native.Nat.{ℕ, zero, suc, ◌+◌, ◌*◌, ◌/◌, ◌%◌, ◌<◌, ◌≤◌}
use native.Mathlib.Omega.{arith}
use lib.ListN.{get_or}
use Rattle.laws.specs.Tests.{same, open_tests}
use Rattle.laws.proofs.Tests.{same_refl, ne_false}
use Rattle.depot_agreement.specs.Depot.{Stage, idle, asked, committed, aborted, Input, start, yes, no, give_up, Order, to_prepare, to_commit, to_abort, open_depot}
use denote.Enum.Declared.{tag_of}
use Rattle.depot_message.specs.contracts.Refusal.{the_type}
use Rattle.depot_message.specs.declared.Refusal.{Refusal}
use Rattle.depot_message.specs.declared.Refusal.TheVariants.{NoTurn}
use Rattle.depot_message.specs.Codes.{turn_refusal, Left, stage_of, stage_code, message_of, message_code, reply_of, reply_code, turn_of, depot_left, open_depot_codes}

pub stage_code_lem : (s : Stage) → stage_of (stage_code s) ≡ some s
unfolding open_depot_codes
stage_code_lem idle = refl
stage_code_lem asked = refl
stage_code_lem committed = refl
stage_code_lem aborted = refl

pub message_code_lem : (x : Input) → message_of (message_code x) ≡ some x
unfolding open_depot_codes
message_code_lem start = refl
message_code_lem yes = refl
message_code_lem no = refl
message_code_lem give_up = refl

pub reply_code_lem : (q : Order) → reply_of (reply_code q) ≡ some q
unfolding open_depot_codes
reply_code_lem to_prepare = refl
reply_code_lem to_commit = refl
reply_code_lem to_abort = refl

-- what a call leaves, part by part
pub leaves : {l : Left} {n s q : ℕ} → l ≡ record { answer = n; state = s; reply = q } → (n ≡ l.answer) × (s ≡ l.state) × (q ≡ l.reply)
leaves e = (sym (ap (λ (l : Left). l.answer) e), sym (ap (λ (l : Left). l.state) e), sym (ap (λ (l : Left). l.reply) e))

-- a refusal's number is that of its variant
pub number_is : (r : Refusal) → tag_of the_type r + 27 ≡ turn_refusal r
unfolding turn_refusal
number_is NoTurn = refl

-- nothing is written
abbrev pub unwritten : ℕ → ℕ → Left
unwritten s q = record { answer = 27; state = s; reply = q }

pub no_state : (s m q : ℕ) → 4 ≤ s → depot_left s m q ≡ unwritten s q
unfolding open_depot_codes
no_state zero m q h = absurd (omega arith)
no_state (suc zero) m q h = absurd (omega arith)
no_state (suc (suc zero)) m q h = absurd (omega arith)
no_state (suc (suc (suc zero))) m q h = absurd (omega arith)
no_state (suc (suc (suc (suc s)))) m q h = refl

no_turn : (o : Option Stage) → turn_of o none ≡ turn_of none none
unfolding turn_of
no_turn none = refl
no_turn (some s) = refl

pub no_message : (s m q : ℕ) → 4 ≤ m → depot_left s m q ≡ unwritten s q
unfolding open_depot_codes
no_message s zero q h = absurd (omega arith)
no_message s (suc zero) q h = absurd (omega arith)
no_message s (suc (suc zero)) q h = absurd (omega arith)
no_message s (suc (suc (suc zero))) q h = absurd (omega arith)
no_message s (suc (suc (suc (suc m)))) q h = rw (no_turn (stage_of s))

abbrev pub entries : List ℕ
entries = 4 ∷ 0 ∷ 0 ∷ 0 ∷ 0 ∷ 9 ∷ 14 ∷ 14 ∷ 4 ∷ 9 ∷ 9 ∷ 0 ∷ 4 ∷ 14 ∷ 14 ∷ 0 ∷ []

-- what the code makes of an entry
abbrev pub made_of : ℕ → ℕ → ℕ → Left
made_of s q e = cond (same e 0) (unwritten s q) (record { answer = 0; state = e / 4; reply = e % 4 })

entry_is : (s m q : ℕ) → s < 4 → m < 4 → depot_left s m q ≡ made_of s q (get_or entries (s * 4 + m) 0)
unfolding open_depot_codes open_depot open_tests
entry_is zero zero q h k = refl
entry_is zero (suc zero) q h k = refl
entry_is zero (suc (suc zero)) q h k = refl
entry_is zero (suc (suc (suc zero))) q h k = refl
entry_is (suc zero) zero q h k = refl
entry_is (suc zero) (suc zero) q h k = refl
entry_is (suc zero) (suc (suc zero)) q h k = refl
entry_is (suc zero) (suc (suc (suc zero))) q h k = refl
entry_is (suc (suc zero)) zero q h k = refl
entry_is (suc (suc zero)) (suc zero) q h k = refl
entry_is (suc (suc zero)) (suc (suc zero)) q h k = refl
entry_is (suc (suc zero)) (suc (suc (suc zero))) q h k = refl
entry_is (suc (suc (suc zero))) zero q h k = refl
entry_is (suc (suc (suc zero))) (suc zero) q h k = refl
entry_is (suc (suc (suc zero))) (suc (suc zero)) q h k = refl
entry_is (suc (suc (suc zero))) (suc (suc (suc zero))) q h k = refl
entry_is (suc (suc (suc (suc s)))) m q h k = absurd (omega arith)
entry_is zero (suc (suc (suc (suc m)))) q h k = absurd (omega arith)
entry_is (suc zero) (suc (suc (suc (suc m)))) q h k = absurd (omega arith)
entry_is (suc (suc zero)) (suc (suc (suc (suc m)))) q h k = absurd (omega arith)
entry_is (suc (suc (suc zero))) (suc (suc (suc (suc m)))) q h k = absurd (omega arith)

-- at the place of a state and a message
pub none_at : (s m q p : ℕ) → s < 4 → m < 4 → p ≡ s * 4 + m → get_or entries p 0 ≡ 0 → depot_left s m q ≡ unwritten s q
none_at s m q p h k z e =
    entry_is s m q h k ∙ ap (λ (n : ℕ). made_of s q (get_or entries n 0)) (sym z) ∙ ap (made_of s q) e
    ∙ ap (λ (b : Bool). cond {A = Left} b (unwritten s q) (record { answer = 0; state = 0 / 4; reply = 0 % 4 })) (same_refl 0)

pub some_at : (s m q p : ℕ) → s < 4 → m < 4 → p ≡ s * 4 + m → get_or entries p 0 ≢ 0 → depot_left s m q ≡ record { answer = 0; state = get_or entries p 0 / 4; reply = get_or entries p 0 % 4 }
some_at s m q p h k z e =
    entry_is s m q h k ∙ ap (λ (n : ℕ). made_of s q (get_or entries n 0)) (sym z)
    ∙ ap (λ (b : Bool). cond {A = Left} b (unwritten s q) (record { answer = 0; state = get_or entries p 0 / 4; reply = get_or entries p 0 % 4 })) (ne_false (get_or entries p 0) 0 e)
