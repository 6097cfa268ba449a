-- The page writes of a commit in two halves, the second without its last page write, and then that one.
use mathlib.Core.Path.{◌≡◌, sym, ap, subst⁻¹, ◌∙◌}
use mathlib.Core.Bool.{false, cond}
use mathlib.Core.List.{List, [], ◌∷◌, ◌++◌, append_assoc}
use mathlib.Core.Logic.{◌≢◌}
use mathlib.Core.Option.{Option, none, some}
use Prim.Native.Nat.{ℕ, ◌-◌, ◌^◌, ◌<◌}
use Rattle.leaf_commit_page.proofs.Places.{layout1}
use Rattle.laws.specs.Tests.{same}
use Rattle.rules.specs.Store.{Page, Pages, named, commit_page}
use Rattle.rules.specs.Commit.{PageWrite, sets, cut_at, marks, commit_at}
use Rattle.rules.specs.Editions.{geometry1}
use Rattle.store_write.specs.Phase.{WritesPhase, PageWritesDone}
use Rattle.store_write.proofs.Phases.{phase_then, phase_last, as_spent}
use Rattle.store_commit.specs.Phase.{sweep, copies}
use Rattle.store_commit.proofs.Plans.{commit_is}

pub halves_leave : (map : ℕ) (v : ℕ → Option Page) (new : ℕ → Page) → ((r : ℕ) → r < 16 → v r ≡ cond (named geometry1 map r) (some (new r)) none)
    → {s s₁ s₂ s₃ : Pages} {k a b c : ℕ} → map < 2 ^ 16 → map ≢ 0
    → WritesPhase false k (sweep (named geometry1 map) (copies 1 new) 16 ++ (sets 0 (commit_page geometry1 map) ∷ [])) s s₁ a
    → WritesPhase false a (sweep (named geometry1 map) (copies 17 new) 16) s₁ s₂ b → WritesPhase false b (sets 0 (commit_page geometry1 0) ∷ []) s₂ s₃ c
    → PageWritesDone (commit_at geometry1 s v k) s₃ (k - c) (same b 0)
unfolding commit_at marks
halves_leave map v new are {s} {s₁} {s₂} {s₃} {k} {a} {b} {c} small h p q r =
    subst⁻¹ (λ (ws : List PageWrite). PageWritesDone (cut_at k ws s) s₃ (k - c) (same b 0))
    (commit_is geometry1 16 layout1.many map v new are small h
    ∙ ap (λ (ws : List PageWrite). ws ++ (sets 0 (commit_page geometry1 0) ∷ []))
    (sym (append_assoc (sweep (named geometry1 map) (copies 1 new) 16) (sets 0 (commit_page geometry1 map) ∷ []) (sweep (named geometry1 map) (copies 17 new) 16))))
    (as_spent b (phase_last (phase_then p q) r))
