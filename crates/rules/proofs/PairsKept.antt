-- What pairs promise, for readers: mending twice is mending once; a commit settles all its versions or none at every tear, also through recoveries that are
-- torn again; from a start store with at most one bad copy in each pair, every store of a run has that; and no cut leaves a store that a recovery refuses.
use mathlib.Core.Path.{◌≡◌, refl, ◌∙◌, ap, ap₂, fun_ext}
use mathlib.Core.Bool.{Bool, true, false, cond, ◌&&◌, ◌||◌}
use mathlib.Core.List.{List, [], ◌∷◌}
use mathlib.Core.Option.{Option, none, some}
use Prim.Native.Nat.{ℕ, ◌*◌, ◌/◌, ◌%◌, ◌^◌}
use lib.ListN.{length}
use Rattle.laws.specs.Tests.{same, under}
use Rattle.laws.specs.Counting.{any}
use Rattle.laws.proofs.Tests.{or_false_left, or_false_right}
use Rattle.laws.proofs.Booleans.{and_right, clash}
use Rattle.laws.proofs.Counting.{any_false, any_of}
use Rattle.rules.specs.Geometry.{Geometry, Proper, page_count}
use Rattle.rules.specs.Store.{Page, damaged, settled}
use Rattle.rules.specs.Event.{Event, begin, lock, write, read, commit, abort, crash, recover, prepare, decide, query, decode, fits}
use Rattle.rules.specs.State.{line_of, down}
use Rattle.rules.specs.Versions.{else}
use Rattle.rules.specs.Commit.{Cut}
use Rattle.rules.specs.Form.{Form}
use Rattle.rules.specs.Pairs.{Pairs, shown, all_bad, mended, OneBadAtMost, damaged_pairs, emptied_pairs, commit_pairs, recover_pairs, pairs_of, paired_pages, in_pairs}
use Rattle.rules.specs.Step.{StateOf, begun, locked, wrote, ended, retaining, aborted, raised, concluded, finished, changes, busy, is_top, refusal, commits_top, commits_child, commits, recovers, act, step}
use Rattle.rules.specs.Run.{play}
use Rattle.rules.specs.Sound.{Sound}
use Rattle.rules.proofs.Medium.{changed_in, stored, Ranged, is_clear, MediumLaws}
use Rattle.rules.proofs.Acceptance.{commit_ok, commit_clear, Judged, acts, refuses, judge_cases}
use Rattle.rules.proofs.Event.{decode_fits}
use Rattle.rules.proofs.Reserved.{clear_of}
use Rattle.rules.proofs.Soundness.{Reached, reached_start, reached_word}
use Rattle.rules.proofs.Durability.{recoveries, commit_all_or_none, commit_sound, recover_sound}
use Rattle.rules.proofs.Pairs.{reach, mend_twice}
use Rattle.rules.proofs.PairCuts.{lost_in, cut_found}
use Rattle.rules.proofs.PairedPages.{commit_shown, commit_lost, recover_shown, recover_lost, paired_laws}

-- "mending twice equals once"
pub mend_mend : (s : Pairs) → mended (mended s) ≡ mended s
unfolding mended
mend_mend s = fun_ext (λ n. mend_twice (s n))

module _ (g : Geometry) where
  -- page writes leave at most one bad copy in each pair, where that was so
  commit_found : (s : Pairs) (v : ℕ → Option Page) (c : ℕ) → is_clear g (paired_pages g) s v ≡ true → OneBadAtMost g s → OneBadAtMost g (commit_pairs g s v c).store
  unfolding lost_in
  commit_found s v c clear h n k = ap (λ (b : ℕ → Bool). b n) (commit_lost g s v clear c) ∙ cut_found (c / 4) (c % 4) _ (lost_in s) n (h n k)

  recover_found : (s : Pairs) (c : ℕ) → OneBadAtMost g s → OneBadAtMost g (recover_pairs g s c).store
  unfolding lost_in
  recover_found s c h n k = ap (λ (b : ℕ → Bool). b n) (recover_lost g s c) ∙ cut_found (c / 4) (c % 4) _ (lost_in s) n (h n k)

  -- a store that isn't damaged: at most one bad copy in each pair, and a commit page that can be read
  damaged_says : (s : Pairs) → damaged_pairs g s ≡ false → OneBadAtMost g s × (damaged g (shown s) ≡ false)
  unfolding damaged_pairs
  damaged_says s e = (
    λ n k. any_false (page_count g) (λ n. all_bad (s n)) n (or_false_left (any (page_count g) (λ n. all_bad (s n))) (damaged g (shown s)) e) k,
    or_false_right (any (page_count g) (λ n. all_bad (s n))) (damaged g (shown s)) e,
  )

  not-damaged : (s : Pairs) → OneBadAtMost g s → damaged g (shown s) ≡ false → damaged_pairs g s ≡ false
  unfolding damaged_pairs
  not-damaged s h e = ap₂ ◌||◌ (any_of (page_count g) (λ n. all_bad (s n)) h) e

  module _ (proper : Proper g) (tears : g.tears ≡ true) where
    abbrev f : Form
    f = in_pairs g

    laws : MediumLaws g (paired_pages g)
    laws = paired_laws g proper tears

    -- ALL OR NONE at every tear. c tells where the commit is cut and how the next write is torn, each of cs the same of a recovery after it. Each record is settled as
    -- the versions have it, or as it was: by the count of page writes, in which a torn write counts whose first copy is new.
    pub torn_all_or_none : (s : Pairs) (v : ℕ → Option Page) (c : ℕ) (cs : List ℕ) → emptied_pairs g s ≡ true → Ranged g v → (r : ℕ)
        → settled g (shown (recoveries (paired_pages g) (commit_pairs g s v c).store cs)) r
        ≡ cond (stored (changed_in g v) (commit_pairs g s v c).made) (else (v r) (settled g (shown s) r)) (settled g (shown s) r)
    torn_all_or_none s v c cs e ranged r = commit_all_or_none laws s v c cs e ranged r

    -- and the next recovery isn't refused
    pub recover_undamaged : (s : Pairs) (c : ℕ) → damaged_pairs g s ≡ false → damaged_pairs g (recover_pairs g s c).store ≡ false
    recover_undamaged s c e =
        let d = damaged_says s e in
        not-damaged (recover_pairs g s c).store (recover_found s c d.0) (ap (damaged g) (recover_shown g s c) ∙ recover_sound g proper (shown s) (reach c) d.1)

    pub commit_undamaged : (s : Pairs) (v : ℕ → Option Page) (c : ℕ) → is_clear g (paired_pages g) s v ≡ true → damaged_pairs g s ≡ false → damaged_pairs g (commit_pairs g s v c).store ≡ false
    commit_undamaged s v c clear e =
        let d = damaged_says s e in
        not-damaged (commit_pairs g s v c).store (commit_found s v c clear d.0) (ap (damaged g) (commit_shown g s v clear c) ∙ commit_sound g proper (shown s) v (reach c) d.1)

    -- AT MOST ONE BAD COPY in each pair, as demand 3's premise has it of the start store, is kept by every event of a run.
    kept_concluded : (whole : StateOf f) (c : Cut Pairs) (b : Bool) → whole.store ≡ c.store → OneBadAtMost g c.store → OneBadAtMost g (concluded whole c b).state.store
    unfolding concluded down
    kept_concluded whole c true e h = h
    kept_concluded whole c false e h = λ n k. ap (λ (s : Pairs). all_bad (s n)) e ∙ h n k

    module _ {s : StateOf f} (S : Sound f s) (h : OneBadAtMost g s.store) where
      kept_top : (x k : ℕ) → s.up ≡ true → (changes f s x && busy f s) ≡ false → OneBadAtMost g (commits_top f s x (commit_pairs g s.store (s.version x) k)).state.store
      unfolding commits_top ended
      kept_top x k up clear =
          let c = commit_pairs g s.store (s.version x) k in
          kept_concluded (ended s (λ j. same j x) c.store) c c.crashed refl (commit_found s.store (s.version x) k (clear_of f s x (S.calm up) clear) h)

      kept_commits : (x k : ℕ) (l : List ℕ) → s.up ≡ true → (is_top l ≡ true → (changes f s x && busy f s) ≡ false) → OneBadAtMost g (commits f s x k l).state.store
      unfolding commits commits_child finished ended is_top
      kept_commits x k [] up clear = kept_top x k up (clear refl)
      kept_commits x k (a ∷ []) up clear = kept_top x k up (clear refl)
      kept_commits x k (a ∷ y ∷ l) up clear = h

      kept_act : (e : Event) → fits g e ≡ true → refusal f s e ≡ none → OneBadAtMost g (act f s e).state.store
      unfolding act finished begun locked wrote ended retaining aborted down recovers raised fits
      kept_act (begin p) fit q = h
      kept_act (lock t r a) fit q = h
      kept_act (write t r o v) fit q = h
      kept_act (read t r o) fit q = h
      kept_act (commit t k) fit q = kept_commits t k (line_of s.bearer t) (commit_ok f s t k q).up (commit_clear f s t k q)
      kept_act (abort t w) fit q = h
      kept_act crash fit q = h
      kept_act (recover k) fit q = let c = recover_pairs g s.store k in kept_concluded (raised s c.store) c c.crashed refl (recover_found s.store k h)
      kept_act (prepare t k i) fit q = absurd (clash (and_right (under t 32 && under k (2 ^ g.cut_bits) && under i 256) g.joint fit) (proper.torn_plain tears))
      kept_act (decide d k i) fit q = absurd (clash (and_right (under k (2 ^ g.cut_bits) && under i 256) g.joint fit) (proper.torn_plain tears))
      kept_act (query i) fit q = h

      kept_word : (w : ℕ) → OneBadAtMost g (step f s (decode g w)).state.store
      kept_word w = go (decode g w) refl
        where
          go : (o : Option Event) → decode g w ≡ o → OneBadAtMost g (step f s o).state.store
          go none q = unfold step in h
          go (some e) q = by (judge_cases f s e)
            where
              by : Judged f s e → OneBadAtMost g (step f s (some e)).state.store
              by (acts r k) = rw k (kept_act e (decode_fits g w e q) r)
              by (refuses n r k) = rw k h

    kept_play : (s : StateOf f) → Reached f laws s → OneBadAtMost g s.store → (ws : List ℕ) → OneBadAtMost g (play f s ws).state.store
    unfolding play
    kept_play s R h [] = h
    kept_play s R h (w ∷ ws) = kept_play (step f s (decode g w)).state (reached_word f laws R w) (kept_word R.sound h w) ws

    -- from a start store with at most one bad copy in each pair, every store of a run has that (a run's first events are a run)
    pub one_bad_kept : (bs : List ℕ) → length bs ≡ page_count g * 66 → OneBadAtMost g (pairs_of bs) → (ws : List ℕ) → OneBadAtMost g (play f (down (pairs_of bs)) ws).state.store
    unfolding down
    one_bad_kept bs e h ws = kept_play (down (pairs_of bs)) (reached_start f laws bs e) h ws
