-- Calls of an operation that takes portions, each on what the last one left: what is promised of one call, over any way to write a state down,
-- and the joined list of the calls.
use Rattle.std.specs.Prelude.{ℕ, ◌*◌, ◌≡◌, Bool, cond, List, [], ◌∷◌, ◌++◌, ◌≢◌, take}
use Rattle.std.proofs.Math.Option.{none}
use Rattle.laws.specs.Tests.{same}
use Rattle.rules.specs.Form.{Form}
use Rattle.rules.specs.Step.{StateOf, first_of}
use Rattle.rules.specs.Run.{events_in, run_refusals}
use Rattle.rules.specs.Portion.{Lent, VerdictRight, Portion, portion, words_in}

-- X is what the caller keeps between two calls: what is lent as a state, the working buffer and the store. A call: the buffers lent, its answer,
-- what it left of X and of the answer buffer.
pub record Call (X : Type 0) : Type 0 where
  pub lent : Lent
  pub answer : ℕ
  pub after : X
  pub answers : List ℕ

module _ {X : Type 0} where
  unfoldable pub lents : List (Call X) → List Lent
  lents [] = []
  lents (c ∷ cs) = c.lent ∷ lents cs

  unfoldable pub results : List (Call X) → List ℕ
  results [] = []
  results (c ∷ cs) = c.answer ∷ results cs

  -- what the last call left
  unfoldable pub left : X → List (Call X) → X
  left x [] = x
  left x (c ∷ cs) = left c.after cs

module _ (f : Form) {X : Type 0} where
  -- the joined list, and its answer bytes: a refused call adds none
  unfoldable pub joined_of : List (Call X) → List ℕ
  joined_of [] = []
  joined_of (c ∷ cs) = cond (same c.answer 0) (words_in f c.lent.events) [] ++ joined_of cs

  unfoldable pub answers_of : List (Call X) → List ℕ
  answers_of [] = []
  answers_of (c ∷ cs) = cond (same c.answer 0) (take (2 * events_in f c.lent.events) c.answers) [] ++ answers_of cs

  -- the state and the store's bytes that x stands for; x is written as a state is
  module _ (view : X → StateOf f) (bytes : X → List ℕ) (proper : X → Type 0) where
    -- what a call on x promises: where no length is refused x is found sound or not; the portion's answer, state, store and answers; a refused call
    -- changes nothing
    pub record CallPromise (x : X) (sound : Bool) (p : Portion f) (c : Call X) : Type 0 where
      pub found : first_of (run_refusals f (bytes x) c.lent.events c.lent.work c.lent.answers) ≡ none → VerdictRight f (λ s. (view x ≡ s) × proper x) sound
      pub answered : c.answer ≡ p.answer
      pub state : view c.after ≡ p.state
      pub stored : bytes c.after ≡ p.store
      pub told : c.answers ≡ p.answers
      pub written : proper x → proper c.after
      pub untouched : c.answer ≢ 0 → c.after ≡ x

    abbrev pub Promised : X → Call X → Type 0
    Promised x c = (sound : Bool) × CallPromise x sound (portion f sound (view x) (bytes x) c.lent.events c.lent.work c.lent.answers) c

    -- each call on what the last one left
    abbrev pub AllPromised : X → List (Call X) → Type 0
    AllPromised x [] = Unit {0}
    AllPromised x (c ∷ cs) = Promised x c × AllPromised c.after cs
