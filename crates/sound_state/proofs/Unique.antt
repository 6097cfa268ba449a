-- Every number of the engine's arrays follows from the state that they encode: two encodings of states with the same flag, bearers, locks and
-- writers are the same, array by array.
use mathlib.Core.Path.{◌≡◌, refl, sym, ap, ◌∙◌, fun_ext}
use mathlib.Core.Bool.{Bool}
use mathlib.Core.List.{List}
use mathlib.Core.Logic.{dite}
use native.Mathlib.Decide.{dec_lt}
use native.Mathlib.Omega.{arith}
use Prim.Native.Nat.{ℕ, zero, suc, ◌+◌, ◌*◌, ◌/◌, ◌%◌, ◌≤◌}
use lib.ListN.{length, get_or}
use lib.Seq.{ext_get_or}
use Rattle.laws.specs.Tests.{same}
use Rattle.laws.proofs.Tests.{same_cases, Same, is, isnt}
use Rattle.laws.proofs.Booleans.{clash}
use Rattle.rules.specs.State.{Bearers, Modes, depth_in, parent_in, is_lock, is_writing, line_of, mem}
use Rattle.rules.specs.Step.{StateOf}
use Rattle.rules.specs.Versions.{is_some}
use Rattle.rules.specs.Form.{Form}
use Rattle.leaf_set.specs.Sets.{sets}
use Rattle.state_array.specs.View.{bearers_of, any_mode, write_mode, modes_of, Nested}
use Rattle.state_array.proofs.View.{depth_is, parent_is, some_is}
use Rattle.state_array.proofs.Modes.{lock_is, writing_is}
use Rattle.state_whole.specs.Whole.{arrays, view, line_in, Intact}
use Rattle.sound_state.specs.Sizes.{Alike}
use Rattle.sound_clause.proofs.Words.{bits_same}

same_sets : (l m : List ℕ) → length l ≡ length m → sets l ≡ sets m → l ≡ m
unfolding sets
same_sets l m long e = ext_get_or 0 l m long (λ i h. bits_same (get_or l i 0) (get_or m i 0) (ap (λ (f : ℕ → ℕ → Bool). f i) e))

-- a place is one of the two of a record
data Place (k : ℕ) : Type 0 where
  any_at : (r : ℕ) → k ≡ 2 * r → Place k
  write_at : (r : ℕ) → k ≡ 2 * r + 1 → Place k

place_cases : (k : ℕ) → Place k
place_cases k = dite (dec_lt (k % 2) 1) (λ lt. any_at (k / 2) (omega arith)) (λ ge. write_at (k / 2) (omega arith))

same_locks : (l m : List ℕ) → length l ≡ length m → Nested (sets l) → Nested (sets m) → modes_of (sets l) ≡ modes_of (sets m) → l ≡ m
unfolding any_mode write_mode
same_locks l m long L M e = same_sets l m long (fun_ext (λ k. fun_ext (λ t. go k t (place_cases k))))
  where
    go : (k t : ℕ) → Place k → sets l k t ≡ sets m k t
    go k t (any_at r q) = rw q (sym (lock_is (sets l) L r t) ∙ ap (λ (f : Modes). is_lock (f r t)) e ∙ lock_is (sets m) M r t)
    go k t (write_at r q) = rw q (sym (writing_is (sets l) r t) ∙ ap (λ (f : Modes). is_writing (f r t)) e ∙ writing_is (sets m) r t)

same_flag : (a b : ℕ) → a ≤ 1 → b ≤ 1 → same a 1 ≡ same b 1 → a ≡ b
same_flag a b h k e = go (same_cases a 1) (same_cases b 1)
  where
    go : Same a 1 → Same b 1 → a ≡ b
    go (is p s _) (is q u _) = p ∙ sym q
    go (is p s _) (isnt q u _) = clash s (e ∙ u)
    go (isnt p s _) (is q u _) = clash u (sym e ∙ s)
    go (isnt p s _) (isnt q u _) = omega arith

module _ (form : Form) (up : ℕ) (parent depth line held retained writers work store : List ℕ)
    (up' : ℕ) (parent' depth' line' held' retained' writers' work' store' : List ℕ)
    (N : Intact form (arrays up parent depth line held retained writers work store)) (N' : Intact form (arrays up' parent' depth' line' held' retained' writers' work' store'))
    (e : view form (arrays up parent depth line held retained writers work store) ≡ view form (arrays up' parent' depth' line' held' retained' writers' work' store')) where
  bearers : bearers_of parent depth ≡ bearers_of parent' depth'
  unfolding view
  bearers = ap (λ (s : StateOf form). s.bearer) e

  depth_same : (t : ℕ) → get_or depth t 0 ≡ get_or depth' t 0
  depth_same t = sym (depth_is parent depth t) ∙ ap (λ (b : Bearers). depth_in (b t)) bearers ∙ depth_is parent' depth' t

  parent_same : (t n : ℕ) → get_or depth t 0 ≡ n → get_or parent t 0 ≡ get_or parent' t 0
  parent_same t zero d = N.form.tidy t d ∙ sym (N'.form.tidy t (sym (depth_same t) ∙ d))
  parent_same t (suc n) d =
      sym (parent_is parent depth t n d) ∙ ap (λ (b : Bearers). parent_in (b t)) bearers ∙ parent_is parent' depth' t n (sym (depth_same t) ∙ d)

  writers_same : sets writers ≡ sets writers'
  unfolding view
  writers_same =
      fun_ext (λ r. fun_ext (λ t.
      sym (some_is depth writers work t r) ∙ ap (λ (s : StateOf form). is_some (s.version t r)) e ∙ some_is depth' writers' work' t r))

  pub encoding_unique : Alike up parent depth line held retained writers up' parent' depth' line' held' retained' writers'
  unfolding view line_in
  encoding_unique = record {
    ups = same_flag up up' N.form.flag N'.form.flag (ap (λ (s : StateOf form). s.up) e);
    parents = ext_get_or 0 parent parent' (N.form.parents ∙ sym N'.form.parents) (λ t h. parent_same t (get_or depth t 0) refl);
    depths = ext_get_or 0 depth depth' (N.form.depths ∙ sym N'.form.depths) (λ t h. depth_same t);
    lines = same_sets line line' (N.form.long ∙ sym N'.form.long)
        (N.form.lines ∙ ap {B = ℕ → ℕ → Bool} (λ (b : Bearers) (t u : ℕ). mem u (line_of b t)) bearers ∙ sym N'.form.lines);
    helds = same_locks held held' (N.form.helds ∙ sym N'.form.helds) N.form.held_nested N'.form.held_nested (ap (λ (s : StateOf form). s.held) e);
    retaineds = same_locks retained retained' (N.form.retaineds ∙ sym N'.form.retaineds) N.form.retained_nested N'.form.retained_nested (ap (λ (s : StateOf form). s.retained) e);
    writerss = same_sets writers writers' (N.form.writerss ∙ sym N'.form.writerss) writers_same;
  }
