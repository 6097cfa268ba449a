-- The promise of the operation that says the writes of an event, page writes or where pages tear copy writes: its answer, and what it leaves in the buffer lent
-- for a write.
use Rattle.std.specs.Prelude.{◌≡◌, Bool, List, ℕ}
use Rattle.std.proofs.Math.Option.{none}
use Rattle.rules.specs.Geometry.{Geometry}
use Rattle.rules.specs.Portion.{VerdictRight}
use Rattle.rules.specs.Step.{first_of}
use Rattle.rules.specs.Editions.{form_in}
use Rattle.claim_device.specs.Asked.{ask_lengths, asked}
use Rattle.open_lent.specs.Portions.{LentState, state_in, Encoded}

module _ (tears : Bool) (g : Geometry) where
  -- A question on x: where no length is refused x is found sound or not; the answer and the buffer are the rules'.
  pub record Tells (x : LentState) (event write : List ℕ) (index : ℕ) (sound : Bool) (answer : ℕ) (write' : List ℕ) : Type 0 where
    pub found : first_of (ask_lengths tears g x.store event x.work write) ≡ none → VerdictRight (form_in tears g) (λ s. (state_in (form_in tears g) x ≡ s) × Encoded (form_in tears g) x) sound
    pub answered : answer ≡ (asked tears g sound (state_in (form_in tears g) x) x.store event x.work index write).answer
    pub written : write' ≡ (asked tears g sound (state_in (form_in tears g) x) x.store event x.work index write).write

  abbrev pub ToldAs : LentState → List ℕ → List ℕ → ℕ → ℕ → List ℕ → Type 0
  ToldAs x event write index answer write' = (sound : Bool) × Tells x event write index sound answer write'

  -- A QUESTION SINGLES OUT its answer and every byte of the buffer.
  unfoldable pub ToldOne : Type 0
  ToldOne = (x : LentState) (event write : List ℕ) (index a b : ℕ) (v w : List ℕ) → ToldAs x event write index a v → ToldAs x event write index b w → (a ≡ b) × (v ≡ w)
