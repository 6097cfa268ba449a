-- Where j is live the set of p has j besides; else nothing changes.
use mathlib.Core.Path.{◌≡◌, ap, ◌∙◌, fun_ext}
use mathlib.Core.Bool.{Bool, true, ◌&&◌, ◌||◌, or-false, and-false, and-true}
use Prim.Native.Nat.{ℕ}
use native.Mathlib.Omega.{arith}
use lib.ListN.{length-set}
use Rattle.laws.specs.Tests.{same}
use Rattle.laws.proofs.Tests.{same_cases, Same, is, isnt}
use Rattle.leaf_set.specs.Sets.{sets}
use Rattle.state_array.specs.Changes.{joined}
use Rattle.state_array.proofs.Joined.{sets_joined}
use Rattle.state_tree.proofs.add_child_if.Goals as goal

-- the two tests in the other order
turned : (live a : Bool) (p q : ℕ) → live ≡ true → (same q p && a) ≡ (a && (live && same p q))
turned live a p q e = go (same_cases q p)
  where
    go : Same q p → (same q p && a) ≡ (a && (live && same p q))
    go (is _ s r) = rw (e, s, r, and-true)
    go (isnt _ s r) = rw (e, s, r, and-false)

pub returns-then-live : goal.returns-then-live
unfolding joined sets
returns-then-live c = let a = c.args in record {
  are = sets_joined a.children.now a.j a.p c.with.result (omega arith) c.with.ensures
      ∙ fun_ext (λ q. fun_ext (λ k. ap (λ (b : Bool). sets a.children.now q k || b) (turned a.live (same k a.j) a.p q c.if-live.true)));
  long = length-set a.children.now a.p c.with.result ∙ c.requires.2;
}

pub returns-else-live : goal.returns-else-live
returns-else-live c = let a = c.args in record {
  are = fun_ext (λ q. fun_ext (λ k. rw (c.if-live.false, and-false, or-false)));
  long = c.requires.2;
}
