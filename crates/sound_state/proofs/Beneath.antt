-- What one transaction has of a lock, with less known than the clauses name: what is beneath it matters only where it retains the lock and some
-- write-mode retainer isn't above it; who has nothing of the lock, and who alone has it, goes with all others.
use mathlib.Core.Path.{◌≡◌, refl, sym, subst}
use mathlib.Core.Bool.{Bool, true, false, not, ◌||◌}
use mathlib.Core.List.{List}
use Prim.Native.Nat.{ℕ}
use Rattle.laws.specs.Counting.{all}
use Rattle.laws.proofs.Tests.{Is, is_cases, yes', no', same_refl}
use Rattle.laws.proofs.Booleans.{clash, or_left, or_right}
use Rattle.leaf_set.specs.Sets.{sets}
use Rattle.state_array.specs.View.{any_mode, write_mode}
use Rattle.sound_clause.specs.Decides.{Decides}
use Rattle.sound_clause.specs.Clauses.{Within, Share, SharesOf, LinedOf, sharing}
use Rattle.sound_clause.proofs.Decides.{decides_as, decides_within}

module _ {above held held_writing retained retained_writing : ℕ → Bool} {t : ℕ} where
  -- the sets beneath may differ but where t retains the lock and some write-mode retainer isn't above it
  share_as : {f g : ℕ → Bool} → (retained t ≡ true → all 24 (λ k. not (retained_writing k) || above k) ≡ false → f ≡ g)
      → Share above f held held_writing retained retained_writing t → Share above g held held_writing retained retained_writing t
  share_as {f} {g} alike S = record {
    holder_beneath = S.holder_beneath;
    writer_alone = S.writer_alone;
    writer_beneath = S.writer_beneath;
    on_one_line = λ e. go e (is_cases (all 24 (λ k. not (retained_writing k) || above k)));
  }
    where
      go : retained t ≡ true → Is (all 24 (λ k. not (retained_writing k) || above k)) → Within retained_writing (λ u. above u || g u)
      go e (yes' q) = λ u l w. or_left _ _ ((decides_within {b = all 24 (λ k. not (retained_writing k) || above k)} 24 retained_writing above refl).yes q u l w)
      go e (no' q) = subst (λ (s : ℕ → Bool). Within retained_writing (λ u. above u || s u)) (alike e q) (S.on_one_line e)

  pub share_beneath : {b : Bool} {f g : ℕ → Bool} → (retained t ≡ true → all 24 (λ k. not (retained_writing k) || above k) ≡ false → f ≡ g)
      → Decides b (Share above f held held_writing retained retained_writing t) → Decides b (Share above g held held_writing retained retained_writing t)
  share_beneath alike d = decides_as (share_as alike) (share_as (λ e q. sym (alike e q))) d

  -- who has nothing of the lock
  pub share_none : {beneath : ℕ → Bool} → held t ≡ false → held_writing t ≡ false → retained t ≡ false
      → Share above beneath held held_writing retained retained_writing t
  share_none h w m = record {
    holder_beneath = λ e. clash e h;
    writer_alone = λ e. clash e w;
    writer_beneath = λ e. clash e w;
    on_one_line = λ e. clash e m;
  }

-- whoever is in a set of the lock has it
module _ (held retained : List ℕ) (r t : ℕ) where
  by_held : any_mode (sets held) r t ≡ true → sharing held retained r t ≡ true
  unfolding sharing
  by_held e = or_left _ _ (or_left _ _ (or_left _ _ e))

  by_held_writing : write_mode (sets held) r t ≡ true → sharing held retained r t ≡ true
  unfolding sharing
  by_held_writing e = or_left _ _ (or_left _ _ (or_right (any_mode (sets held) r t) _ e))

  by_retained : any_mode (sets retained) r t ≡ true → sharing held retained r t ≡ true
  unfolding sharing
  by_retained e = or_left _ _ (or_right (any_mode (sets held) r t || write_mode (sets held) r t) _ e)

  by_retained_writing : write_mode (sets retained) r t ≡ true → sharing held retained r t ≡ true
  unfolding sharing
  by_retained_writing e = or_right ((any_mode (sets held) r t || write_mode (sets held) r t) || any_mode (sets retained) r t) _ e

-- who alone has it
pub shares_alone : (line held retained : List ℕ) (r : ℕ) → LinedOf line held retained r
    → ((t u : ℕ) → sharing held retained r t ≡ true → sharing held retained r u ≡ true → t ≡ u) → SharesOf line held retained r
shares_alone line held retained r lined one t l = record {
  holder_beneath = λ e u k f. itself u (by_held held retained r t e) (by_retained_writing held retained r u f);
  writer_alone = λ e u k f. rw (one u t (by_held held retained r u f) (by_held_writing held retained r t e)) (same_refl t);
  writer_beneath = λ e u k f. itself u (by_held_writing held retained r t e) (by_retained held retained r u f);
  on_one_line = λ e u k f. or_left _ _ (itself u (by_retained held retained r t e) (by_retained_writing held retained r u f));
}
  where
    itself : (u : ℕ) → sharing held retained r t ≡ true → sharing held retained r u ≡ true → sets line t u ≡ true
    itself u a b = rw (one u t b a) (lined t a)
