-- Soundness by its parts, in the form in which events keep them: the tree, the locks and versions over its lines, the pages, the store.
use mathlib.Core.Path.{◌≡◌, refl, ap}
use mathlib.Core.Bool.{true, false, false≢true}
use mathlib.Core.Logic.{◌⊎◌, inl, inr}
use mathlib.Core.Option.{some}
use Prim.Native.Nat.{ℕ, ◌<◌, ◌≤◌}
use native.Mathlib.Omega.{arith}
use lib.ListN.{length}
use Rattle.laws.proofs.Booleans.{or_left, or_right, clash}
use Rattle.rules.specs.Geometry.{records, transactions, nobody, page_size}
use Rattle.rules.specs.Store.{Page}
use Rattle.rules.specs.Event.{to_write, to_read}
use Rattle.rules.specs.State.{Bearer, free, active, is_active, depth_in, line_of, is_lock, is_writing, live, holds, retains, holds_writing, retains_writing, down, open_state}
use Rattle.rules.specs.Locks.{bars}
use Rattle.rules.specs.Versions.{is_some}
use Rattle.rules.specs.Form.{Form}
use Rattle.rules.specs.Step.{StateOf}
use Rattle.rules.specs.Sound.{Sound, in_line, is_calm}
use Rattle.rules.proofs.Tree.{antisym}
use Rattle.rules.proofs.Bearers.{Rooted, rooted_tree, line_of_member}
use Rattle.rules.proofs.Grades.{allowing, has}
use Rattle.rules.proofs.Locks.{Owned}

pub record Parts (f : Form) (s : StateOf f) : Type 0 where
  pub tree : Rooted transactions nobody s.bearer
  pub shallow : (t : ℕ) → depth_in (s.bearer t) ≤ f.geometry.depth_limit
  pub owned : Owned (line_of s.bearer) s.held s.retained s.version
  pub ranged : (t r : ℕ) → is_some (s.version t r) ≡ true → r < records f.geometry
  pub paged : (t r : ℕ) (p : Page) → s.version t r ≡ some p → length p ≡ page_size
  pub idle : (t : ℕ) → s.up ≡ false → live s t ≡ false
  pub calm : s.up ≡ true → is_calm f.medium s.store ≡ true
  pub reserved : (r t : ℕ) → is_some (f.medium.pending s.store r) ≡ true → has is_lock s.held s.retained r t ≡ false

pub sound_of : {f : Form} {s : StateOf f} → Parts f s → Sound f s
unfolding holds retains holds_writing retains_writing live in_line is_active depth_in bars
sound_of {f} {s} P = record {
  numbered = λ t h. numbered t (s.bearer t) refl h;
  parented = λ t p d e. parented t p d e (s.bearer p) refl;
  level = P.tree.level;
  shallow = P.shallow;
  holder_live = λ r t h. has_active r t (or_left (is_lock (s.held r t)) (is_lock (s.retained r t)) h);
  retainer_live = λ r t h. has_active r t (or_right (is_lock (s.held r t)) (is_lock (s.retained r t)) h);
  on_one_line = λ r t u h k. P.owned.in_line_lem r t u (or_right (is_writing (s.held r t)) _ h) (or_right (is_lock (s.held r u)) _ k);
  beneath = λ r t u h k. P.owned.beneath to_read r t u h (or_right (is_writing (s.held r u)) _ k);
  one_holder = λ r t u h k.
      antisym (rooted_tree P.tree) t u (P.owned.beneath to_read r u t k (or_left _ (is_writing (s.retained r t)) h)) (P.owned.beneath to_write r t u h (or_left _ (is_lock (s.retained r u)) k));
  beneath_writing = λ r t u h k. P.owned.beneath to_write r t u h (or_right (is_lock (s.held r u)) _ k);
  by_lock = P.owned.by_lock;
  ranged = P.ranged;
  paged = P.paged;
  idle = P.idle;
  calm = P.calm;
  reserved = P.reserved;
}
  where
    numbered : (t : ℕ) (c : Bearer) → s.bearer t ≡ c → is_active (s.bearer t) ≡ true → t < transactions
    numbered t free e h = clash h (ap is_active e)
    numbered t (active p d) e h = P.tree.bounded t p d e

    parented : (t p d : ℕ) → s.bearer t ≡ active p d → (c : Bearer) → s.bearer p ≡ c → (p ≡ nobody) ⊎ (is_active (s.bearer p) ≡ true)
    parented t p d e free q = inl (P.tree.rooted t p d e (ap depth_in q))
    parented t p d e (active a b) q = inr (ap is_active q)

    has_active : (r t : ℕ) → has is_lock s.held s.retained r t ≡ true → is_active (s.bearer t) ≡ true
    has_active r t h = line_of_member P.tree t t (P.owned.alive r t h)

-- a state that is down with nothing live
pub sound_down : (f : Form) (store : f.medium.Store) → Sound f (down store)
unfolding open_state is_some
sound_down f store = sound_of (record {
  tree = record { level = λ t p d e. cc; rooted = λ t p d e z. cc; bounded = λ t p d e. absurd (false≢true (ap is_active e)) };
  shallow = λ t. omega arith;
  owned = record { alive = λ r t e. absurd (false≢true e); beneath = λ a r h q p k. clash p (allowing a).fails; in_line_lem = λ r q z p k. absurd (false≢true p); by_lock = λ t r v. v };
  ranged = λ t r v. absurd (false≢true v);
  paged = λ t r p e. absurd (false≢true (ap is_some e));
  idle = λ t e. refl;
  calm = λ e. absurd (false≢true e);
  reserved = λ r t e. refl;
})
