-- Ends: numbers are cleared, locks and writers are discarded. What is retained may have changed before.
use mathlib.Core.Path.{◌≡◌, refl, sym, ap, ap₂, subst⁻¹, ◌∙◌, fun_ext}
use mathlib.Core.Bool.{Bool, true, false, not, cond, ◌&&◌}
use mathlib.Core.List.{List, []}
use mathlib.Core.Option.{none, some}
use Prim.Native.Nat.{ℕ, ◌*◌}
use lib.ListN.{length, get_or}
use Rattle.laws.specs.Bits.{bits}
use Rattle.laws.proofs.Bits.{bits-zero}
use Rattle.rules.specs.Geometry.{transactions, nobody}
use Rattle.rules.specs.Store.{pages_of}
use Rattle.rules.specs.State.{Bearers, free, line_of, mem, Modes}
use Rattle.rules.specs.Locks.{discarded}
use Rattle.rules.specs.Versions.{dropped}
use Rattle.rules.specs.Form.{Form}
use Rattle.rules.specs.Geometry.{records}
use Rattle.rules.specs.Step.{ended, retaining}
use Rattle.rules.proofs.Bearers.{Rooted, ended_in, ended_line}
use Rattle.rules.proofs.Locks.{rooted_of}
use Rattle.leaf_set.specs.Sets.{sets}
use Rattle.state_array.specs.View.{Owners, bearer_at, bearers_of, modes_of, Nested, slot, versions_of}
use Rattle.state_array.specs.Changes.{less, leaving, Rows, places, cleared, Cleared}
use Rattle.state_array.proofs.Nested.{leaving_nested}
use Rattle.state_array.proofs.Modes.{leaving_discarded}
use Rattle.state_whole.specs.Whole.{Arrays, arrays, view, line_in, Formed, Intact}
use Rattle.state_whole.proofs.Steps.{state_eq}

module _ (f : Form) where
  bearer_at_lem : (b : Bool) (p d : ℕ) → bearer_at (cond b 0 p) (cond b 0 d) ≡ cond b free (bearer_at p d)
  unfolding bearer_at
  bearer_at_lem true p d = refl
  bearer_at_lem false p d = refl

  pub bearers_cleared : (dead : ℕ → Bool) (parent depth parent' depth' : List ℕ) → Cleared dead parent parent' → Cleared dead depth depth'
      → bearers_of parent' depth' ≡ ended_in (bearers_of parent depth) dead
  unfolding bearers_of places cleared
  bearers_cleared dead parent depth parent' depth' P D = fun_ext (λ t.
      ap₂ (λ (f g : ℕ → ℕ). bearer_at (f t) (g t)) P.are D.are ∙ bearer_at_lem (dead t) (get_or parent t 0) (get_or depth t 0))

  versions_cleared : (dead : ℕ → Bool) (depth depth' writers writers' work : List ℕ) → Cleared dead depth depth' → sets writers' ≡ leaving dead (sets writers)
      → versions_of depth' writers' work ≡ dropped dead (versions_of depth writers work)
  unfolding versions_of places cleared leaving less dropped
  versions_cleared dead depth depth' writers writers' work D W = fun_ext (λ j. fun_ext (λ r.
      ap₂ (λ (f : Owners) (g : ℕ → ℕ). cond (f r j) (some (pages_of work (slot r (g j)))) none) W D.are ∙ go j r (dead j)))
    where
      go : (j r : ℕ) (b : Bool) → cond (not b && sets writers r j) (some (pages_of work (slot r (cond b 0 (get_or depth j 0))))) none
          ≡ cond b none (cond (sets writers r j) (some (pages_of work (slot r (get_or depth j 0)))) none)
      go j r true = refl
      go j r false = refl

  pub lines_cleared : {b : Bearers} (T : Rooted transactions nobody b) (dead : ℕ → Bool) → ((z a : ℕ) → dead z ≡ false → dead a ≡ true → mem a (line_of b z) ≡ false)
      → (line line' : List ℕ) → sets line ≡ line_in b → Cleared dead line line' → sets line' ≡ line_in (ended_in b dead)
  unfolding sets places cleared line_in mem
  lines_cleared {b} T dead closed line line' e C = fun_ext (λ j. fun_ext (λ u.
      ap (λ (f : ℕ → ℕ). bits (f j) u) C.are ∙ go j u (dead j) ∙ ap (λ (l : List ℕ). mem u l) (sym (ended_line T dead closed j))))
    where
      go : (j u : ℕ) (c : Bool) → bits (cond c 0 (get_or line j 0)) u ≡ mem u (cond c [] (line_of b j))
      go j u true = bits-zero u
      go j u false = ap (λ (f : ℕ → ℕ → Bool). f j u) e

  pub tidy_cleared : (dead : ℕ → Bool) (parent depth parent' depth' : List ℕ) → Cleared dead parent parent' → Cleared dead depth depth'
      → ((t : ℕ) → get_or depth t 0 ≡ 0 → get_or parent t 0 ≡ 0) → (t : ℕ) → get_or depth' t 0 ≡ 0 → get_or parent' t 0 ≡ 0
  unfolding places cleared
  tidy_cleared dead parent depth parent' depth' P D T t z =
      ap (λ (f : ℕ → ℕ). f t) P.are ∙ go (dead t) (sym (ap (λ (f : ℕ → ℕ). f t) D.are) ∙ z)
    where
      go : (b : Bool) → cond b 0 (get_or depth t 0) ≡ 0 → cond b 0 (get_or parent t 0) ≡ 0
      go true e = refl
      go false e = T t e

  pub nested_cleared : (dead : ℕ → Bool) (locks locks' : List ℕ) → Nested (sets locks) → Rows (2 * records f.geometry) (leaving dead (sets locks)) locks' → Nested (sets locks')
  nested_cleared dead locks locks' n L = subst⁻¹ (λ (o : Owners). Nested o) L.are (leaving_nested dead (sets locks) n)

  -- Those that `dead` picks end, over a store, where `kept` was retained before: to those that stay it stands for the modes `left`.
  module _ (x : Arrays) (I : Intact f x) (dead : ℕ → Bool) (closed : (z a : ℕ) → dead z ≡ false → dead a ≡ true → mem a (line_of (bearers_of x.parent x.depth) z) ≡ false)
      (kept : List ℕ) (left : Modes) (K : discarded dead (modes_of (sets kept)) ≡ discarded dead left)
      (parent depth line held retained writers store : List ℕ) (P : Cleared dead x.parent parent) (D : Cleared dead x.depth depth) (L : Cleared dead x.line line)
      (H : Rows (2 * records f.geometry) (leaving dead (sets x.held)) held) (M : Rows (2 * records f.geometry) (leaving dead (sets kept)) retained) (W : Rows (records f.geometry) (leaving dead (sets x.writers)) writers) where
    abbrev rest : Arrays
    rest = arrays x.up parent depth line held retained writers x.work store

    pub rest_is : view f rest ≡ ended (retaining (view f x) left) dead (f.medium.from_bytes store)
    unfolding view ended retaining
    rest_is = state_eq f refl (bearers_cleared dead x.parent x.depth parent depth P D)
        (ap modes_of H.are ∙ leaving_discarded dead (sets x.held)) (ap modes_of M.are ∙ leaving_discarded dead (sets kept) ∙ K)
        (versions_cleared dead x.depth depth x.writers writers x.work D W.are) refl

    pub rest_form : Nested (sets kept) → length store ≡ f.medium.size → Formed f rest
    unfolding view
    rest_form nested size = let F = I.form in record {
      lines = lines_cleared (rooted_of I.sound) dead closed x.line line F.lines L ∙ ap line_in (sym (bearers_cleared dead x.parent x.depth parent depth P D));
      flag = F.flag;
      tidy = tidy_cleared dead x.parent x.depth parent depth P D F.tidy;
      held_nested = nested_cleared dead x.held held F.held_nested H;
      retained_nested = nested_cleared dead kept retained nested M;
      parents = P.long;
      depths = D.long;
      long = L.long;
      helds = H.long;
      retaineds = M.long;
      writerss = W.long;
      works = F.works;
      stores = size;
    }
