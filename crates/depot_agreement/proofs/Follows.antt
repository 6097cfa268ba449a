-- The identity that is prepared in the store follows what the gateway's events and answers tell: only a prepare of it prepares it, and only a
-- decision on it ends that, so.
use mathlib.Core.Path.{◌≡◌, refl, ap, subst⁻¹, ◌∙◌}
use mathlib.Core.Bool.{Bool, true, false, ◌&&◌}
use mathlib.Core.List.{List, [], ◌∷◌}
use mathlib.Core.Option.{Option, none, some}
use Prim.Native.Nat.{ℕ, ◌<◌}
use native.Mathlib.Omega.{arith}
use Rattle.laws.specs.Tests.{same}
use Rattle.laws.proofs.Tests.{same_cases, Same, is, isnt, same_refl, ne_false}
use Rattle.rules.specs.Event.{Event, begin, lock, write, read, commit, abort, crash, recover, prepare, decide, query, fits, decode}
use Rattle.rules.specs.State.{line_of, down}
use Rattle.rules.specs.Commit.{Cut}
use Rattle.rules.specs.Form.{Form}
use Rattle.rules.specs.Step.{Answer, done, refused, cut, value_of, is_for, is_top, StateOf, OutcomeOf, begun, locked, wrote, ended as endedState, retaining, aborted, raised, concluded, finished, refusal, commits_top, commits_child, commits, recovers, decides, changes, busy, act, step}
use Rattle.rules.specs.Sound.{Sound}
use Rattle.rules.proofs.Medium.{MediumLaws, changed_in, is_clear}
use Rattle.rules.proofs.Event.{decode_fits}
use Rattle.rules.proofs.Acceptance.{commit_ok, commit_clear, prepare_ok, Judged, acts, refuses, judge_cases}
use Rattle.rules.proofs.Reserved.{clear_of, for_some, prepare_fits}
use Rattle.depot_agreement.specs.Messages.{News, nothing, taken, ended, taken_by, ended_by, prepare_news, news}

-- what becomes of the identity that is prepared, by the news
abbrev pub Follows : Option ℕ → News → Option ℕ → Type 0
Follows o nothing o' = o' ≡ o
Follows o (taken i) o' = o' ≡ some i
Follows o (ended i d) o' = (o ≡ some i) × (o' ≡ none)

-- which event it was
abbrev pub Fits : Option Event → News → Type 0
Fits e nothing = Unit {0}
Fits e (taken i) = (t k : ℕ) × (e ≡ some (prepare t k i))
Fits e (ended i d) = (k : ℕ) × (e ≡ some (decide d k i))

taken_fits : (t k i : ℕ) (b : Bool) → Fits (some (prepare t k i)) (taken_by i b)
unfolding taken_by
taken_fits t k i true = tt
taken_fits t k i false = (t, k, refl)

ended_fits : (d : Bool) (k i : ℕ) (b : Bool) → Fits (some (decide d k i)) (ended_by i d b)
unfolding ended_by
ended_fits d k i true = tt
ended_fits d k i false = (k, refl)

prepare_news_fits : (t k i : ℕ) (a : Answer) → Fits (some (prepare t k i)) (prepare_news i a)
unfolding prepare_news
prepare_news_fits t k i (done v) = taken_fits t k i (same v 0)
prepare_news_fits t k i (refused n) = tt
prepare_news_fits t k i (cut v) = tt

pub news_fits : (e : Option Event) (a : Answer) → Fits e (news e a)
unfolding news
news_fits none a = tt
news_fits (some (begin p)) a = tt
news_fits (some (lock t r m)) a = tt
news_fits (some (write t r o v)) a = tt
news_fits (some (read t r o)) a = tt
news_fits (some (commit t k)) a = tt
news_fits (some (abort t w)) a = tt
news_fits (some crash) a = tt
news_fits (some (recover k)) a = tt
news_fits (some (prepare t k i)) a = prepare_news_fits t k i a
news_fits (some (decide d k i)) a = ended_fits d k i (same (value_of a) 0)
news_fits (some (query i)) a = tt

refused_news : (e : Event) (n : ℕ) → news (some e) (refused n) ≡ nothing
unfolding news prepare_news ended_by value_of
refused_news (begin p) n = refl
refused_news (lock t r m) n = refl
refused_news (write t r o v) n = refl
refused_news (read t r o) n = refl
refused_news (commit t k) n = refl
refused_news (abort t w) n = refl
refused_news crash n = refl
refused_news (recover k) n = refl
refused_news (prepare t k i) n = refl
refused_news (decide d k i) n = ap (ended_by i d) (same_refl 0)
refused_news (query i) n = refl

module _ (f : Form) (M : MediumLaws f.geometry f.medium) {s : StateOf f} (S : Sound f s) where
  abbrev held : StateOf f → Option ℕ
  held s = f.medium.prepared s.store

  abbrev Goes : Event → OutcomeOf f → Type 0
  Goes e o = Follows (held s) (news (some e) o.answer) (held o.state)

  -- page writes that move nothing that is prepared
  unmoved : (whole : StateOf f) (c : Cut f.medium.Store) (b : Bool) → whole.store ≡ c.store → f.medium.prepared c.store ≡ held s → held (concluded whole c b).state ≡ held s
  unfolding concluded down
  unmoved whole c true e h = h
  unmoved whole c false e h = ap f.medium.prepared e ∙ h

  by_commit : (x k : ℕ) (l : List ℕ) → s.up ≡ true → (is_top l ≡ true → (changes f s x && busy f s) ≡ false) → held (commits f s x k l).state ≡ held s
  unfolding commits commits_top commits_child finished endedState is_top
  by_commit x k [] up h =
      let c = f.medium.commit s.store (s.version x) k in
      unmoved (endedState s (λ j. same j x) c.store) c c.crashed refl (M.commit_unmoved s.store (s.version x) k (clear_of f s x (S.calm up) (h refl))).same_identity
  by_commit x k (a ∷ []) up h =
      let c = f.medium.commit s.store (s.version x) k in
      unmoved (endedState s (λ j. same j x) c.store) c c.crashed refl (M.commit_unmoved s.store (s.version x) k (clear_of f s x (S.calm up) (h refl))).same_identity
  by_commit x k (a ∷ y ∷ l) up h = refl

  by_recover : (k : ℕ) → held (recovers f s (f.medium.recover s.store k)).state ≡ held s
  unfolding recovers raised
  by_recover k = let c = f.medium.recover s.store k in unmoved (raised s c.store) c c.crashed refl (M.recover_unmoved s.store k).same_identity

  by_prepare : (x k i : ℕ) → is_clear f.geometry f.medium s.store (s.version x) ≡ true → f.geometry.joint ≡ true → i < 256
      → Goes (prepare x k i) (commits_top f s x (f.medium.prepare s.store (s.version x) i k))
  unfolding commits_top concluded endedState down news prepare_news taken_by
  by_prepare x k i clear on short = go c.crashed refl (same_cases (changed_in f.geometry (s.version x)) 0)
    where
      c : Cut f.medium.Store
      c = f.medium.prepare s.store (s.version x) i k

      go : (b : Bool) → c.crashed ≡ b → Same (changed_in f.geometry (s.version x)) 0 → Goes (prepare x k i) (concluded (endedState s (λ j. same j x) c.store) c b)
      go true e n = (M.prepare_cut s.store (s.version x) i k clear e).same_identity
      go false e (is n z _) = let N = M.prepare_none s.store (s.version x) i k n in rw (N.1, same_refl 0) (ap f.medium.prepared N.0)
      go false e (isnt n z _) =
          let T = M.prepare_taken s.store (s.version x) i k (S.ranged x) on short (omega (arith, n)) e in
          let made : 0 < c.made = T.2 in
          rw (ne_false c.made 0 (λ q. omega (arith, made, q))) T.0

  by_decide : (d : Bool) (k i : ℕ) (b : Bool) → is_for i (held s) ≡ b → Goes (decide d k i) (decides f s d k b)
  unfolding decides finished recovers concluded raised down news ended_by value_of
  by_decide d k i false q = rw (same_refl 0)
  by_decide d k i true q = go c.crashed (same_cases c.made 0)
    where
      c : Cut f.medium.Store
      c = f.medium.decide s.store d k

      here : held s ≡ some i
      here = for_some i (held s) q

      go : (b : Bool) → Same c.made 0 → Goes (decide d k i) (concluded (raised s c.store) c b)
      go true (is n z _) = rw z (ap f.medium.prepared (M.decide_first s.store d k i here n))
      go true (isnt n z _) = rw z (here, M.decide_ended s.store d k i here (omega (arith, n)))
      go false (is n z _) = rw z (ap f.medium.prepared (M.decide_first s.store d k i here n))
      go false (isnt n z _) = rw z (here, M.decide_ended s.store d k i here (omega (arith, n)))

  by_act : (e : Event) → fits f.geometry e ≡ true → refusal f s e ≡ none → Goes e (act f s e)
  unfolding act finished begun locked wrote endedState retaining aborted down news
  by_act (begin p) g q = refl
  by_act (lock t r a) g q = refl
  by_act (write t r o v) g q = refl
  by_act (read t r o) g q = refl
  by_act (commit x k) g q = by_commit x k (line_of s.bearer x) (commit_ok f s x k q).up (commit_clear f s x k q)
  by_act (abort x w) g q = refl
  by_act crash g q = refl
  by_act (recover k) g q = by_recover k
  by_act (prepare x k i) g q =
      let ok = prepare_ok f s x k i q in
      let a = prepare_fits f.geometry x k i g in
      by_prepare x k i (clear_of f s x (S.calm ok.as_commit.up) ok.clear) a.0 a.1
  by_act (decide d k i) g q = by_decide d k i (is_for i (held s)) refl
  by_act (query i) g q = refl

  -- every event word
  pub follows_word : (x : ℕ) → let o = step f s (decode f.geometry x) in Follows (held s) (news (decode f.geometry x) o.answer) (held o.state)
  follows_word x = go (decode f.geometry x) refl
    where
      go : (o : Option Event) → decode f.geometry x ≡ o → Follows (held s) (news o (step f s o).answer) (held (step f s o).state)
      go none q = unfold step news in refl
      go (some e) q = each (judge_cases f s e)
        where
          each : Judged f s e → Goes e (step f s (some e))
          each (acts r k) = subst⁻¹ (λ (o : OutcomeOf f). Goes e o) k (by_act e (decode_fits f.geometry x e q) r)
          each (refuses n r k) = subst⁻¹ (λ (o : OutcomeOf f). Goes e o) k (subst⁻¹ (λ (t : News). Follows (held s) t (held s)) (refused_news e n) refl)
