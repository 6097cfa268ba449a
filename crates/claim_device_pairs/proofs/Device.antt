-- A device whose writes tear follows the rules' run over the events that stand for what happened to it.
use mathlib.Core.Path.{◌≡◌, refl, sym, ap, ◌∙◌}
use mathlib.Core.Bool.{Bool, true, false, ◌&&◌, false≢true}
use mathlib.Core.List.{List, [], ◌∷◌, ◌++◌, map}
use mathlib.Core.Option.{Option, none, some}
use Prim.Native.Nat.{ℕ, ◌-◌, ◌/◌, ◌^◌, ◌≤◌}
use native.Mathlib.Omega.{arith}
use lib.ListN.{length}
use Rattle.laws.specs.Tests.{same, under}
use Rattle.laws.proofs.Booleans.{and_left, and_right, clash}
use Rattle.rules.specs.Geometry.{Geometry, Proper, cut_count, uncut}
use Rattle.rules.specs.Event.{Event, begin, lock, write, read, commit, abort, crash, recover, prepare, decide, query, encode, fits}
use Rattle.rules.specs.State.{line_of, down}
use Rattle.rules.specs.Commit.{Cut, commit_plan, recover_plan}
use Rattle.rules.specs.Pairs.{Pairs, shown, mended, cut_pairs, commit_pairs, recover_pairs, in_pairs}
use Rattle.rules.specs.Step.{begun, locked, wrote, ended, retaining, aborted, raised, concluded, finished, first_of, refusals, refusal, commits_top, commits_child, commits, recovers, act, outcome_by, step}
use Rattle.rules.specs.Run.{play}
use Rattle.rules.proofs.Uncut.{uncut-count}
use Rattle.rules.proofs.Event.{decode_encode}
use Rattle.claim_device.specs.Plan.{line_plan, accepted_plan, plan_by, plan_of}
use Rattle.claim_device.specs.CopyWrites.{copies_of}
use Rattle.claim_device.proofs.Plan.{plan_short}
use Rattle.claim_device_pairs.specs.Copies.{carried_copies, spoiled_at, behind, within}
use Rattle.claim_device_pairs.specs.Device.{TornHappening, plays, fails, tears, loses, cut_to, Memory, readied, ready_by, ready_of, wholly, TornDevice, restarted_pairs, happens_pairs, lives_pairs, events_for, all_events_for, all_fit}
use Rattle.claim_device_pairs.proofs.Copies.{copies_behind, copies_within, copies_whole, none_cut}

-- events one after the other
unfoldable pub after : (g : Geometry) → Memory g → List Event → Memory g
after g s [] = s
after g s (e ∷ es) = after g (step (in_pairs g) s (some e)).state es

pub after-append : (g : Geometry) (s : Memory g) (xs ys : List Event) → after g s (xs ++ ys) ≡ after g (after g s xs) ys
unfolding after
after-append g s [] ys = refl
after-append g s (x ∷ xs) ys = after-append g (step (in_pairs g) s (some x)).state xs ys

pub fit_append : (g : Geometry) (xs ys : List Event) → all_fit g (xs ++ ys) ≡ true → (all_fit g xs ≡ true) × (all_fit g ys ≡ true)
unfolding all_fit
fit_append g [] ys e = (refl, e)
fit_append g (x ∷ xs) ys e =
    let r = fit_append g xs ys (and_right (fits g x) (all_fit g (xs ++ ys)) e) in (rw (and_left (fits g x) (all_fit g (xs ++ ys)) e) r.0, r.1)

-- as words
pub words_after : (g : Geometry) (s : Memory g) (es : List Event) → all_fit g es ≡ true → (play (in_pairs g) s (map (encode g) es)).state ≡ after g s es
unfolding after all_fit play
words_after g s [] e = refl
words_after g s (x ∷ xs) e =
    ap (λ (o : Option Event). (play (in_pairs g) (step (in_pairs g) s o).state (map (encode g) xs)).state) (decode_encode g x (and_left (fits g x) (all_fit g xs) e))
    ∙ words_after g (step (in_pairs g) s (some x)).state xs (and_right (fits g x) (all_fit g xs) e)

module _ (g : Geometry) (proper : Proper g) (torn : g.tears ≡ true) where
  plain : g.joint ≡ false
  plain = proper.torn_plain torn

  -- page writes leave their store, cut or not
  left : (whole : Memory g) (c : Cut Pairs) (b : Bool) → whole.store ≡ c.store → (concluded whole c b).state.store ≡ c.store
  unfolding concluded down
  left whole c true e = refl
  left whole c false e = e

  module _ (s : Memory g) (k : ℕ) where
    top_store : (t : ℕ) → (commits_top (in_pairs g) s t (commit_pairs g s.store (s.version t) k)).state.store ≡ (cut_pairs k (commit_plan g (s.version t)) s.store).store
    unfolding commits_top ended commit_pairs
    top_store t = let c = cut_pairs k (commit_plan g (s.version t)) s.store in left (ended s (λ j. same j t) c.store) c c.crashed refl

    line_store : (t : ℕ) (l : List ℕ) → (commits (in_pairs g) s t k l).state.store ≡ (cut_pairs k (line_plan g (s.version t) l) s.store).store
    unfolding commits commits_child finished ended line_plan
    line_store t [] = top_store t
    line_store t (a ∷ []) = top_store t
    line_store t (a ∷ y ∷ l) = sym (none_cut k s.store)

    recover_store : (recovers (in_pairs g) s (recover_pairs g s.store k)).state.store ≡ (cut_pairs k (recover_plan g (shown s.store)) (mended s.store)).store
    unfolding recovers raised recover_pairs
    recover_store = let c = cut_pairs k (recover_plan g (shown s.store)) (mended s.store) in left (raised s c.store) c c.crashed refl

    act_store : (e : Event) → fits g (cut_to k e) ≡ true → (act (in_pairs g) s (cut_to k e)).state.store ≡ (cut_pairs k (accepted_plan true g s e) (readied g e s.store)).store
    unfolding act finished begun locked wrote ended retaining aborted down cut_to accepted_plan readied fits
    act_store (begin p) h = sym (none_cut k s.store)
    act_store (lock t r a) h = sym (none_cut k s.store)
    act_store (write t r o v) h = sym (none_cut k s.store)
    act_store (read t r o) h = sym (none_cut k s.store)
    act_store (commit t n) h = line_store t (line_of s.bearer t)
    act_store (abort t w) h = sym (none_cut k s.store)
    act_store crash h = sym (none_cut k s.store)
    act_store (recover n) h = recover_store
    act_store (prepare t n i) h = clash (and_right (under t 32 && under n (2 ^ g.cut_bits) && under i 256) g.joint h) plain
    act_store (decide d n i) h = clash (and_right (under n (2 ^ g.cut_bits) && under i 256) g.joint h) plain
    act_store (query i) h = sym (none_cut k s.store)

    -- a place among the page writes makes no event refused
    cut_refused : (e : Event) → refusal (in_pairs g) s (cut_to k e) ≡ refusal (in_pairs g) s e
    unfolding refusal refusals cut_to
    cut_refused (begin p) = refl
    cut_refused (lock t r a) = refl
    cut_refused (write t r o v) = refl
    cut_refused (read t r o) = refl
    cut_refused (commit t n) = refl
    cut_refused (abort t w) = refl
    cut_refused crash = refl
    cut_refused (recover n) = refl
    cut_refused (prepare t n i) = refl
    cut_refused (decide d n i) = refl
    cut_refused (query i) = refl

    -- an event cut at k leaves what the rules' cut of its plan leaves
    step_store : (e : Event) → fits g (cut_to k e) ≡ true → (step (in_pairs g) s (some (cut_to k e))).state.store ≡ (cut_pairs k (plan_of true g s e) (ready_of g s e s.store)).store
    unfolding step plan_of ready_of
    step_store e h = ap (λ (o : Option ℕ). (outcome_by (in_pairs g) s (cut_to k e) o).state.store) (cut_refused e) ∙ go (refusal (in_pairs g) s e)
      where
        go : (o : Option ℕ) → (outcome_by (in_pairs g) s (cut_to k e) o).state.store ≡ (cut_pairs k (plan_by true g s e o) (ready_by g e s.store o)).store
        go none = unfold outcome_by plan_by ready_by in act_store e h
        go (some n) = unfold outcome_by plan_by ready_by in sym (none_cut k s.store)

  -- the greatest count of a word leaves room for every plan
  wide : uncut g / 4 ≡ 2 ^ g.cut_bits - 1
  wide = go g.tears torn (uncut-count g)
    where
      go : (b : Bool) → b ≡ true → cut_count b (uncut g) ≡ 2 ^ g.cut_bits - 1 → uncut g / 4 ≡ 2 ^ g.cut_bits - 1
      go true e h = h
      go false e h = absurd (false≢true e)

  plan_room : (s : Memory g) (e : Event) → length (plan_of true g s e) ≤ uncut g / 4
  plan_room s e = let h = plan_short true g s e in let w = proper.count_wide in rw wide (omega (arith, h, w))

  -- the machine goes on as the rules say, and the medium is its store
  pub record Follows (d : TornDevice g) (s : Memory g) : Type 0 where
    pub memory : d.memory ≡ s
    pub medium : d.medium ≡ d.memory.store

  pub crash_falls : (s : Memory g) → (step (in_pairs g) s (some crash)).state ≡ down s.store
  unfolding step outcome_by refusal refusals first_of act finished
  crash_falls s = refl

  pub happens_follows : (d : TornDevice g) → d.medium ≡ d.memory.store → (h : TornHappening) → all_fit g (events_for g h) ≡ true → Follows (happens_pairs g d h) (after g d.memory (events_for g h))
  unfolding happens_pairs events_for after restarted_pairs all_fit wholly
  happens_follows d a (plays e) f = record {
    memory = refl;
    medium = rw a (copies_whole (uncut g) (plan_of true g d.memory e) (ready_of g d.memory e d.memory.store) (plan_room d.memory e)
        ∙ sym (step_store d.memory (uncut g) e (and_left (fits g (cut_to (uncut g) e)) true f)));
  }
  happens_follows d a (fails e j) f = record {
    memory = ap down (ap (λ (m : Pairs). carried_copies j (copies_of (plan_of true g d.memory e)) (ready_of g d.memory e m)) a
        ∙ copies_behind j (plan_of true g d.memory e) (ready_of g d.memory e d.memory.store)
        ∙ sym (step_store d.memory (behind j) e (and_left (fits g (cut_to (behind j) e)) (fits g crash && true) f)))
        ∙ sym (crash_falls (step (in_pairs g) d.memory (some (cut_to (behind j) e))).state);
    medium = unfold down in refl;
  }
  happens_follows d a (tears e j) f = record {
    memory = ap down (ap (λ (m : Pairs). spoiled_at j (copies_of (plan_of true g d.memory e)) (ready_of g d.memory e m)) a
        ∙ copies_within j (plan_of true g d.memory e) (ready_of g d.memory e d.memory.store)
        ∙ sym (step_store d.memory (within j) e (and_left (fits g (cut_to (within j) e)) (fits g crash && true) f)))
        ∙ sym (crash_falls (step (in_pairs g) d.memory (some (cut_to (within j) e))).state);
    medium = unfold down in refl;
  }
  happens_follows d a loses f = record { memory = ap down a ∙ sym (crash_falls d.memory); medium = unfold down in refl }

  pub lives_follows : (d : TornDevice g) → d.medium ≡ d.memory.store → (hs : List TornHappening) → all_fit g (all_events_for g hs) ≡ true → Follows (lives_pairs g d hs) (after g d.memory (all_events_for g hs))
  unfolding lives_pairs all_events_for after
  lives_follows d a [] f = record { memory = refl; medium = a }
  lives_follows d a (h ∷ hs) f =
      let b = fit_append g (events_for g h) (all_events_for g hs) f in
      let F = happens_follows d a h b.0 in
      let G = lives_follows (happens_pairs g d h) F.medium hs b.1 in
      record {
        memory = G.memory ∙ ap (λ (s : Memory g). after g s (all_events_for g hs)) F.memory ∙ sym (after-append g d.memory (events_for g h) (all_events_for g hs));
        medium = G.medium;
      }
