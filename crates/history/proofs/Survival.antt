-- A top transaction survives exactly if it changed nothing or its count reaches the commit record: of atomic pages, and of pairs of copies.
use mathlib.Core.Path.{◌≡◌, refl, sym, ap, ◌∙◌, fun_ext}
use mathlib.Core.Bool.{Bool, true, false, cond, ◌||◌}
use mathlib.Core.List.{List, [], ◌∷◌}
use mathlib.Core.Option.{Option, none, some}
use Prim.Native.Nat.{ℕ}
use lib.ListN.{length}
use Rattle.laws.specs.Tests.{same, under}
use Rattle.laws.specs.Counting.{count}
use Rattle.laws.proofs.Tests.{Is, is_cases, yes', no'}
use Rattle.rules.specs.Geometry.{Geometry, Proper, records}
use Rattle.rules.specs.Store.{Page}
use Rattle.rules.specs.Event.{Event, commit, decode}
use Rattle.rules.specs.State.{line_of, live, down}
use Rattle.rules.specs.Versions.{else, nearest}
use Rattle.rules.specs.Commit.{Cut}
use Rattle.rules.specs.Sound.{Sound}
use Rattle.rules.specs.Form.{Form, atomic}
use Rattle.rules.specs.Pairs.{shown, in_pairs}
use Rattle.rules.specs.Step.{StateOf, OutcomeOf, is_top, visible, ended, concluded, refusal, commits_top, commits, act, outcome_by, step}
use Rattle.rules.specs.Run.{play}
use Rattle.rules.proofs.Medium.{changed_in, stored, is_clear, MediumLaws}
use Rattle.rules.proofs.Acceptance.{commit_ok, commit_clear}
use Rattle.rules.proofs.Reserved.{clear_of}
use Rattle.rules.proofs.AtomicCommits.{commit_stored}
use Rattle.rules.proofs.AtomicPages.{atomic_laws}
use Rattle.rules.proofs.Pairs.{reach}
use Rattle.rules.proofs.PairedPages.{commit_made, paired_laws}
use Rattle.rules.proofs.Soundness.{reached_start, reached_play}
use Rattle.rules.proofs.Portions.{play-append}
use Rattle.history.specs.History.{changed_by}
use Rattle.history.specs.Claims.{state_after, history_after}
use Rattle.history.specs.Survival.{reached, SurvivesInK}
use Rattle.history.proofs.Claims.{reads_overlay, restarts_settled}

-- page writes leave their store, cut or not
cut_store : (f : Form) (s : StateOf f) (dead : ℕ → Bool) (c : Cut f.medium.Store) (b : Bool) → (concluded (ended s dead c.store) c b).state.store ≡ c.store
unfolding concluded ended down
cut_store f s dead c true = refl
cut_store f s dead c false = refl

-- a commit's count tells whether its commit record is written
abbrev Told : Form → Type 0
Told f = (s : f.medium.Store) (v : ℕ → Option Page) (k : ℕ)
    → stored (changed_in f.geometry v) (f.medium.commit s v k).made ≡ (same (changed_in f.geometry v) 0 || under (changed_in f.geometry v) (reached f.geometry.tears k))

module _ (f : Form) (M : MediumLaws f.geometry f.medium) (commit_told : Told f) where
  abbrev g : Geometry
  g = f.geometry

  abbrev settled : f.medium.Store → ℕ → Page
  settled = f.medium.settled

  -- one commit, by its count
  module _ (s : StateOf f) (S : Sound f s) (t k : ℕ) (q : refusal f s (commit t k) ≡ none) (top : line_of s.bearer t ≡ t ∷ []) (r : ℕ) where
    abbrev n : ℕ
    n = changed_in g (s.version t)

    abbrev c : Cut f.medium.Store
    c = f.medium.commit s.store (s.version t) k

    acted : step f s (some (commit t k)) ≡ commits f s t k (line_of s.bearer t)
    unfolding step outcome_by act
    acted = ap (outcome_by f s (commit t k)) q

    stepped : (step f s (some (commit t k))).state.store ≡ c.store
    unfolding commits commits_top
    stepped =
        ap (λ (o : OutcomeOf f). o.state.store) acted ∙ ap (λ (l : List ℕ). (commits f s t k l).state.store) top
        ∙ cut_store f s (λ j. same j t) c c.crashed

    seen : visible f s t r ≡ else (s.version t r) (settled s.store r)
    unfolding visible nearest
    seen =
        ap (λ (l : List ℕ). nearest s.version (f.medium.home s.store r) r l) top
        ∙ ap (else (s.version t r)) (M.home_settled s.store r (S.calm (commit_ok f s t k q).up))

    clear : is_clear g f.medium s.store (s.version t) ≡ true
    unfolding is_top
    clear = clear_of f s t (S.calm (commit_ok f s t k q).up) (commit_clear f s t k q (ap is_top top))

    by_test : Is (same n 0 || under n (reached g.tears k)) → settled c.store r ≡ cond (same n 0 || under n (reached g.tears k)) (else (s.version t r) (settled s.store r)) (settled s.store r)
    by_test (yes' e) = rw e (M.commit_kept s.store (s.version t) k r clear (λ p z. S.ranged t p z) (commit_told s.store (s.version t) k ∙ e))
    by_test (no' e) = rw e (M.commit_lost s.store (s.version t) k r clear (commit_told s.store (s.version t) k ∙ e))

    by_count : settled c.store r ≡ cond (same n 0 || under n (reached g.tears k)) (visible f s t r) (settled s.store r)
    by_count = rw seen (by_test (is_cases (same n 0 || under n (reached g.tears k))))

  -- the n of the history is the number of versions
  counted : (store ws : List ℕ) (sized : length store ≡ f.medium.size) (t : ℕ) → live (state_after f store ws) t ≡ true
      → changed_in g ((state_after f store ws).version t) ≡ changed_by (records g) (history_after f store ws) ((history_after f store ws).bearer t)
  unfolding changed_in changed_by
  counted store ws sized t alive = ap (count (records g)) (fun_ext (λ r. (reads_overlay f M store ws sized).versions t r alive))

  pub survives_of : (store ws more : List ℕ) (w t k : ℕ) → length store ≡ f.medium.size → SurvivesInK f store ws more w t k
  unfolding SurvivesInK state_after play
  survives_of store ws more w t k sized d q top rs r =
      let s₀ = down (f.medium.from_bytes store) in
      let s = (play f s₀ ws).state in
      let R = reached_play f M s₀ (reached_start f M store sized) ws in
      let m = counted store ws sized t (commit_ok f s t k q).alive in
      ap (λ (x : StateOf f). settled x.store r) (play-append f s₀ ws (w ∷ more)).state
      ∙ restarts_settled f M (step f s (decode g w)).state more rs r
      ∙ ap (λ (e : Option Event). settled (step f s e).state.store r) d
      ∙ ap (λ (x : f.medium.Store). settled x r) (stepped s R.sound t k q top r)
      ∙ by_count s R.sound t k q top r
      ∙ ap (λ (j : ℕ). cond (same j 0 || under j (reached g.tears k)) (visible f s t r) (settled s.store r)) m

-- of every geometry with atomic pages, where no page tears
pub survives_in_k : (g : Geometry) → Proper g → g.tears ≡ false → (store ws more : List ℕ) (w t k : ℕ) → length store ≡ (atomic g).medium.size → SurvivesInK (atomic g) store ws more w t k
survives_in_k g proper still = survives_of (atomic g) (atomic_laws g proper) told
  where
    told : Told (atomic g)
    told s v k = commit_stored g s v k ∙ ap (λ (b : Bool). same (changed_in g v) 0 || under (changed_in g v) (reached b k)) (sym still)

-- of every geometry with pairs of copies, where pages tear
pub survives_torn : (g : Geometry) → Proper g → g.tears ≡ true → (store ws more : List ℕ) (w t k : ℕ) → length store ≡ (in_pairs g).medium.size → SurvivesInK (in_pairs g) store ws more w t k
survives_torn g proper tears = survives_of (in_pairs g) (paired_laws g proper tears) told
  where
    told : Told (in_pairs g)
    told s v k =
        ap (stored (changed_in g v)) (commit_made g s v k) ∙ commit_stored g (shown s) v (reach k)
        ∙ (unfold reach in ap (λ (b : Bool). same (changed_in g v) 0 || under (changed_in g v) (reached b k)) (sym tears))
