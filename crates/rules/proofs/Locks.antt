-- What soundness says of locks and versions: who holds a lock as an access needs it is at or beneath all whose mode bars that access; who
-- has a lock in write mode is on one line with all that have it, and so are those that have versions of one record.
use mathlib.Core.Path.{◌≡◌, refl, sym, ap, ap₂, ◌∙◌}
use mathlib.Core.Bool.{Bool, true, false, not, ◌&&◌, ◌||◌, false≢true}
use mathlib.Core.List.{List, [], ◌∷◌}
use mathlib.Core.Logic.{◌≢◌, ◌⊎◌, inl, inr}
use Prim.Native.Nat.{ℕ, suc, ◌<◌}
use native.Mathlib.Omega.{arith}
use lib.ListN.{length}
use Rattle.laws.specs.Tests.{same}
use Rattle.laws.specs.Counting.{all}
use Rattle.laws.proofs.Tests.{same_refl, ne_false}
use Rattle.laws.proofs.Booleans.{or_cases, and_left, and_right, or_left, or_right, refute, clash}
use Rattle.laws.proofs.Counting.{any_false, all_true_lem}
use Rattle.rules.specs.Geometry.{transactions, nobody}
use Rattle.rules.specs.Event.{Access, to_write, to_read}
use Rattle.rules.specs.State.{Bearer, Bearers, free, active, is_active, parent_in, depth_in, line_of, mem, Modes, is_lock, is_writing, Versions, live, holds, retains, holds_writing, retains_writing}
use Rattle.rules.specs.Locks.{bars, holders_allow, retainers_allow, grantable}
use Rattle.rules.specs.Versions.{is_some}
use Rattle.rules.specs.Form.{Form}
use Rattle.rules.specs.Step.{StateOf, has_child}
use Rattle.rules.specs.Sound.{Sound, in_line}
use Rattle.rules.proofs.Tree.{Good, Lines, Tree, is_cons, own, up, antisym, shorter}
use Rattle.rules.proofs.Bearers.{Rooted, rooted_tree, active_line, line_of_member, line_length, child_of}
use Rattle.rules.proofs.Grades.{write_mode, allows, barring, graded_lock, has, has_as}
use Rattle.rules.proofs.Acceptance.{LockOk}

-- locks and versions over the lines of a tree
pub record Owned (line : Lines) (held retained : Modes) (version : Versions) : Type 0 where
  -- who has a lock is live: on its own line
  pub alive : (r t : ℕ) → has is_lock held retained r t ≡ true → mem t (line t) ≡ true
  -- who holds the lock as an access needs it is beneath all whose mode bars that access, or is one with them
  pub beneath : (a : Access) (r h q : ℕ) → allows a (held r h) ≡ true → has (bars a) held retained r q ≡ true → mem q (line h) ≡ true
  -- who has the lock in write mode is on one line with each that has it
  pub in_line_lem : (r q z : ℕ) → has is_writing held retained r q ≡ true → has is_lock held retained r z ≡ true → (mem q (line z) || mem z (line q)) ≡ true
  -- who has a version has the lock in write mode
  pub by_lock : (t r : ℕ) → is_some (version t r) ≡ true → has is_writing held retained r t ≡ true

-- no other transaction is beneath x
abbrev pub Leaf : Bearers → ℕ → Type 0
Leaf b x = (z : ℕ) → z ≢ x → mem x (line_of b z) ≡ false

-- x is a child of y
pub record ChildOf (b : Bearers) (x y : ℕ) : Type 0 where
  pub under : line_of b x ≡ x ∷ line_of b y
  pub own_line : mem y (line_of b y) ≡ true
  pub two : x ≢ y

module _ {f : Form} {s : StateOf f} (S : Sound f s) where
  -- the live transactions are a tree
  pub rooted_of : Rooted transactions nobody s.bearer
  unfolding live is_active depth_in
  rooted_of = record {
    level = S.level;
    rooted = λ t p d e z. go t p d e z (S.parented t p d e);
    bounded = λ t p d e. S.numbered t (rw e);
  }
    where
      deep : (p : ℕ) (c : Bearer) → s.bearer p ≡ c → is_active c ≡ true → depth_in c ≢ 0
      deep p free e h = absurd (false≢true h)
      deep p (active q d) e h = λ z. let k : d ≡ suc (depth_in (s.bearer q)) = S.level p q d e in omega arith

      go : (t p d : ℕ) → s.bearer t ≡ active p d → depth_in (s.bearer p) ≡ 0 → (p ≡ nobody) ⊎ (live s p ≡ true) → p ≡ nobody
      go t p d e z (inl q) = q
      go t p d e z (inr h) = absurd (deep p (s.bearer p) refl h z)

  pub tree_of : Tree transactions (line_of s.bearer)
  tree_of = rooted_tree rooted_of

  pub live_line : (t : ℕ) → live s t ≡ is_cons (line_of s.bearer t)
  unfolding live
  live_line t = active_line rooted_of t

  -- a live transaction is on its own line
  pub own_line : (t : ℕ) → live s t ≡ true → mem t (line_of s.bearer t) ≡ true
  own_line t e = own tree_of t (sym (live_line t) ∙ e)

  -- who is on a line is live
  pub member_live : (z a : ℕ) → mem a (line_of s.bearer z) ≡ true → live s a ≡ true
  unfolding live
  member_live z a e = line_of_member rooted_of z a e

  -- those beneath x are closed downwards: what is not beneath x has no ancestor beneath x
  pub beneath_closed : (x z a : ℕ) → mem x (line_of s.bearer z) ≡ false → mem x (line_of s.bearer a) ≡ true → mem a (line_of s.bearer z) ≡ false
  beneath_closed x z a n k = refute (mem a (line_of s.bearer z)) (λ d. clash (up tree_of z a x d k) n)

  -- who has a lock is live
  pub has_live : (r t : ℕ) → has is_lock s.held s.retained r t ≡ true → live s t ≡ true
  unfolding holds retains
  has_live r t e = or_cases (is_lock (s.held r t)) (is_lock (s.retained r t)) e (S.holder_live r t) (S.retainer_live r t)

  pub owned_of : Owned (line_of s.bearer) s.held s.retained s.version
  unfolding holds retains holds_writing retains_writing in_line bars
  owned_of = record { alive = λ r t e. own_line t (has_live r t e); beneath = at_or_beneath; in_line_lem = lined; by_lock = S.by_lock }
    where
      at_or_beneath : (a : Access) (r h q : ℕ) → allows a (s.held r h) ≡ true → has (bars a) s.held s.retained r q ≡ true → mem q (line_of s.bearer h) ≡ true
      at_or_beneath to_write r h q p k =
          or_cases (is_lock (s.held r q)) (is_lock (s.retained r q)) k
          (λ c. rw (← S.one_holder r h q p c) (own_line h (S.holder_live r h (graded_lock write_mode (s.held r h) p))))
          (λ c. S.beneath_writing r h q p c)
      at_or_beneath to_read r h q p k =
          or_cases (is_writing (s.held r q)) (is_writing (s.retained r q)) k
          (λ c. rw (S.one_holder r q h c p) (own_line h (S.holder_live r h p)))
          (λ c. S.beneath r h q p c)

      lined : (r q z : ℕ) → has is_writing s.held s.retained r q ≡ true → has is_lock s.held s.retained r z ≡ true → (mem q (line_of s.bearer z) || mem z (line_of s.bearer q)) ≡ true
      lined r q z a b =
          or_cases (is_writing (s.held r q)) (is_writing (s.retained r q)) a
          (λ h. or_right (mem q (line_of s.bearer z)) (mem z (line_of s.bearer q)) (at_or_beneath to_write r q z h b))
          (λ h. or_cases (is_lock (s.held r z)) (is_lock (s.retained r z)) b
          (λ k. or_left (mem q (line_of s.bearer z)) (mem z (line_of s.bearer q)) (at_or_beneath to_read r z q k a))
          (λ k. S.on_one_line r q z h k))

  -- who has a version has the lock
  pub version_lock : (t r : ℕ) → is_some (s.version t r) ≡ true → has is_lock s.held s.retained r t ≡ true
  version_lock t r v = has_as is_writing is_lock s.held s.retained r t (graded_lock write_mode) (owned_of.by_lock t r v)

  pub version_live : (t r : ℕ) → is_some (s.version t r) ≡ true → live s t ≡ true
  version_live t r v = has_live r t (version_lock t r v)

  pub no_version : (t r : ℕ) → live s t ≡ false → is_some (s.version t r) ≡ false
  no_version t r e = refute (is_some (s.version t r)) (λ v. clash (version_live t r v) e)

  -- all that have versions of one record are on one line, at different depths
  pub versions_in_line : (j k r : ℕ) → is_some (s.version j r) ≡ true → is_some (s.version k r) ≡ true → in_line s.bearer j k ≡ true
  unfolding in_line
  versions_in_line j k r v w = owned_of.in_line_lem r j k (owned_of.by_lock j r v) (version_lock k r w)

  -- who is above another on a line is less deep
  pub line_apart : (j k : ℕ) → mem j (line_of s.bearer k) ≡ true → j ≢ k → depth_in (s.bearer j) < depth_in (s.bearer k)
  line_apart j k e n = rw (← line_length s.bearer j, ← line_length s.bearer k) (shorter tree_of j k e n)

  -- a transaction with a live descendant has a live child
  pub no_child : (x : ℕ) → has_child s x ≡ false → (z : ℕ) → z ≢ x → mem x (line_of s.bearer z) ≡ false
  unfolding has_child line_of live
  no_child x e z n = refute (mem x (line_of s.bearer z)) (λ d.
      let c = child_of rooted_of (depth_in (s.bearer z)) z x refl d n in
      clash (rw (c.1, c.2) (same_refl x)) (any_false transactions (λ u. is_active (s.bearer u) && same (parent_in (s.bearer u)) x) c.0 e (S.numbered c.0 c.1)))

  -- another transaction with a version of a record that a holds is above a
  pub write_apart : (a x : ℕ) → holds s x a ≡ true → (z : ℕ) → z ≢ a → is_some (s.version z x) ≡ true → mem a (line_of s.bearer z) ≡ false
  unfolding holds bars
  write_apart a x e z n v = refute (mem a (line_of s.bearer z)) (λ d. n (antisym tree_of z a (owned_of.beneath to_read x a z e (owned_of.by_lock z x v)) d))

  -- two with a version of one record, of which one is a leaf: the other is above it
  leaf_above : (x z r : ℕ) → Leaf s.bearer x → z ≢ x → is_some (s.version x r) ≡ true → is_some (s.version z r) ≡ true → mem z (line_of s.bearer x) ≡ true
  unfolding in_line
  leaf_above x z r leaf n v w =
      or_cases (mem x (line_of s.bearer z)) (mem z (line_of s.bearer x)) (versions_in_line x z r v w) (λ e. clash e (leaf z n)) (λ e. e)

  pub top_apart : (x : ℕ) → Leaf s.bearer x → line_of s.bearer x ≡ x ∷ []
      → (z r : ℕ) → z ≢ x → is_some (s.version x r) ≡ true → is_some (s.version z r) ≡ true → ⊥
  unfolding mem
  top_apart x leaf top z r n v w = clash (leaf_above x z r leaf n v w) (rw (top, ne_false z x n))

  pub child_apart : (x y : ℕ) → Leaf s.bearer x → line_of s.bearer x ≡ x ∷ line_of s.bearer y
      → (z r : ℕ) → z ≢ x → z ≢ y → is_some (s.version x r) ≡ true → is_some (s.version z r) ≡ true → mem y (line_of s.bearer z) ≡ false
  unfolding mem
  child_apart x y leaf under z r n m v w =
      refute (mem y (line_of s.bearer z)) (λ d. m (antisym tree_of z y (rw (under, ne_false z x n) at (leaf_above x z r leaf n v w)) d))

  -- a line of one is a top transaction's; on a longer line the second is the parent
  pub top_line : (x a : ℕ) → line_of s.bearer x ≡ a ∷ [] → line_of s.bearer x ≡ x ∷ []
  top_line x a q = q ∙ ap (λ (b : ℕ). b ∷ []) (tree_of.first x a [] q)

  pub child_line : (x a y : ℕ) (l : List ℕ) → line_of s.bearer x ≡ a ∷ y ∷ l → ChildOf s.bearer x y
  unfolding mem
  child_line x a y l q =
      let good : Good (line_of s.bearer) (a ∷ y ∷ l) = rw q at (tree_of.good x) in
      let above : line_of s.bearer y ≡ y ∷ l = good.1.0 in
      let under : line_of s.bearer x ≡ x ∷ line_of s.bearer y = q ∙ ap₂ (λ (b : ℕ) (m : List ℕ). b ∷ m) (tree_of.first x a (y ∷ l) q) (sym above) in
      record { under = under; own_line = rw (above, same_refl y); two = λ e. absurd (omega (arith, ap length (rw e at under))) }

  -- A lock that is granted: nobody else holds it in a mode that bars the access, and who retains it in such a mode is on the asker's line.
  module _ (t r : ℕ) (a : Access) (ok : LockOk s t r a) where
    unfoldable sole : ℕ → Bool
    sole u = not (bars a (s.held r u)) || same u t

    unfoldable lined : ℕ → Bool
    lined u = not (bars a (s.retained r u)) || mem u (line_of s.bearer t)

    pub grant_alone : (z : ℕ) → z ≢ t → bars a (s.held r z) ≡ false
    unfolding grantable holders_allow holds sole
    grant_alone z n = refute (bars a (s.held r z)) (λ d.
        clash (all_true_lem transactions sole z (and_left (all transactions sole) (retainers_allow a s.retained (line_of s.bearer t) r) ok.grant) (S.numbered z (S.holder_live r z (graded_lock (barring a) (s.held r z) d))))
        (rw (d, ne_false z t n)))

    pub grant_above : (q : ℕ) → bars a (s.retained r q) ≡ true → mem q (line_of s.bearer t) ≡ true
    unfolding grantable retainers_allow retains lined
    grant_above q e =
        rw e at (all_true_lem transactions lined q (and_right (holders_allow a s.held t r) (all transactions lined) ok.grant) (S.numbered q (S.retainer_live r q (graded_lock (barring a) (s.retained r q) e))))
