-- Who waits for the decision, as the history tells it: what each event makes of that.
use mathlib.Core.Path.{◌≡◌, refl, ap, ◌∙◌}
use mathlib.Core.Bool.{Bool, true, false, cond, false≢true}
use mathlib.Core.Option.{some}
use Prim.Native.Nat.{ℕ, ◌≤◌}
use native.Mathlib.Omega.{arith}
use Rattle.laws.specs.Tests.{same}
use Rattle.rules.specs.Event.{commit, abort, recover, decide}
use Rattle.rules.specs.Step.{Answer, done, refused, cut, value_of}
use Rattle.history.specs.History.{Fate, bearing, committed, stored as stored_fate, waiting, ended, History, accepted, changed_by, turned, ending, all_ending, suffices, decided, effect, effect_of, commit_fate, resolved, after, told}
use Rattle.history.specs.Entries.{awaits}

-- what an ending makes of who waits
turned_awaits : (b : Bool) (new c : Fate) → awaits new ≡ false → awaits (turned b new c) ≡ awaits c
unfolding turned awaits
turned_awaits true new (bearing t) e = e
turned_awaits false new (bearing t) e = refl
turned_awaits b new committed e = refl
turned_awaits b new stored_fate e = refl
turned_awaits b new waiting e = refl
turned_awaits b new ended e = refl

pub ending_awaits : (who : ℕ → Bool) (new : Fate) (h : History) (i : ℕ) → awaits new ≡ false → awaits ((ending who new h).fate i) ≡ awaits (h.fate i)
unfolding ending
ending_awaits who new h i e = turned_awaits (who i) new (h.fate i) e

commit_fate_lem : (n : ℕ) (h : History) (i : ℕ) (enough : ℕ → Bool) → awaits (commit_fate n h i enough) ≡ false
unfolding commit_fate
commit_fate_lem n h i enough = go (same (h.parent i) 0) (enough (changed_by n h i))
  where
    go : (b c : Bool) → awaits (cond b (cond c stored_fate ended) committed) ≡ false
    go true true = unfold awaits in refl
    go true false = unfold awaits in refl
    go false c = unfold awaits in refl

pub resolved_awaits : (d : Bool) (c : Fate) → awaits (resolved d c) ≡ false
unfolding resolved awaits
resolved_awaits d (bearing t) = refl
resolved_awaits d committed = refl
resolved_awaits d stored_fate = refl
resolved_awaits true waiting = refl
resolved_awaits false waiting = refl
resolved_awaits d ended = refl

-- nobody waits after a stored decision
pub none_wait : (n : ℕ) (h : History) (d : Bool) (k j : ℕ) (a : Answer) → accepted a ≡ true → same (value_of a) 0 ≡ false → (i : ℕ) → awaits ((told n h (some (decide d k j)) a).fate i) ≡ false
unfolding told effect_of effect value_of all_ending
none_wait n h d k j (done v) ok z i = ap (λ (b : Bool). awaits ((after n (decided d b) h).fate i)) z ∙ (unfold decided after in resolved_awaits d (h.fate i))
none_wait n h d k j (refused m) ok z i = unfold accepted in absurd (false≢true ok)
none_wait n h d k j (cut v) ok z i =
    ending_awaits (λ x. true) ended (after n (decided d (same v 0)) h) i (unfold awaits in refl)
    ∙ ap (λ (b : Bool). awaits ((after n (decided d b) h).fate i)) z ∙ (unfold decided after in resolved_awaits d (h.fate i))

-- a history with the same transactions, of which the same wait
pub record Alike (h h' : History) : Type 0 where
  pub waits : (i : ℕ) → awaits (h'.fate i) ≡ awaits (h.fate i)
  pub parents : (i : ℕ) → i ≤ h.begun → h'.parent i ≡ h.parent i
  pub grown : h.begun ≤ h'.begun

pub alike_refl : (h : History) → Alike h h
alike_refl h = record { waits = λ i. refl; parents = λ i k. refl; grown = omega arith }

pub ending_alike : (who : ℕ → Bool) (new : Fate) (h : History) → awaits new ≡ false → Alike h (ending who new h)
ending_alike who new h e = record { waits = λ i. ending_awaits who new h i e; parents = λ i k. unfold ending in refl; grown = unfold ending in omega arith }

pub down_alike : {h h' : History} → Alike h h' → Alike h (all_ending h')
unfolding all_ending
down_alike {h} {h'} A = record {
  waits = λ i. ending_awaits (λ k. true) ended h' i (unfold awaits in refl) ∙ A.waits i;
  parents = λ i k. unfold ending in A.parents i k;
  grown = unfold ending in A.grown;
}

pub commit_alike : (n : ℕ) (h : History) (x k : ℕ) (a : Answer) → Alike h (told n h (some (commit x k)) a)
unfolding told effect_of effect after
commit_alike n h x k (done v) = ending_alike _ _ h (commit_fate_lem n h (h.bearer x) (suffices (done v)))
commit_alike n h x k (refused m) = alike_refl h
commit_alike n h x k (cut v) = down_alike (ending_alike _ _ h (commit_fate_lem n h (h.bearer x) (suffices (cut v))))

pub abort_alike : (n : ℕ) (h : History) (x : ℕ) (w : Bool) (v : ℕ) → Alike h (told n h (some (abort x w)) (done v))
unfolding told effect_of effect after
abort_alike n h x w v = ending_alike _ _ h (unfold awaits in refl)

pub recover_alike : (n : ℕ) (h : History) (k : ℕ) (a : Answer) → Alike h (told n h (some (recover k)) a)
unfolding told effect_of effect after
recover_alike n h k (done v) = alike_refl h
recover_alike n h k (refused m) = alike_refl h
recover_alike n h k (cut v) = down_alike (alike_refl h)
