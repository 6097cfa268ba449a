-- Two states with one control and stores that agree, whose versions differ at most where a transaction does not survive: every event that is
-- the same, or an accepted write by one that does not survive, leaves two such states, and the same answer but for what such a one reads.
use mathlib.Core.Path.{◌≡◌, refl, sym, ap, ap₂, subst, subst⁻¹, ◌∙◌, fun_ext}
use mathlib.Core.Bool.{Bool, true, false, ◌&&◌, ◌||◌, or-true, true≢false, false≢true}
use mathlib.Core.List.{List, [], ◌∷◌}
use mathlib.Core.Logic.{◌≢◌, ◌⊎◌, inl, inr}
use mathlib.Core.Option.{Option, none, some}
use Prim.Native.Nat.{ℕ, ◌<◌}
use native.Mathlib.Omega.{arith}
use lib.ListN.{get_or, set}
use Rattle.laws.specs.Tests.{same, under}
use Rattle.laws.specs.Counting.{count}
use Rattle.laws.proofs.Tests.{same_cases, Same, is, isnt, same_refl, ne_false, Is, is_cases, yes', no'}
use Rattle.laws.proofs.Booleans.{or_left}
use Rattle.rules.specs.Geometry.{records}
use Rattle.rules.specs.Store.{Page}
use Rattle.rules.specs.Event.{Event, write, read, commit, abort, recover, prepare, decide}
use Rattle.rules.specs.State.{line_of, mem, Versions, down}
use Rattle.rules.specs.Versions.{is_some, else, also, nearest, with_version, handed_up, dropped}
use Rattle.rules.specs.Commit.{Cut}
use Rattle.rules.specs.Form.{Form}
use Rattle.rules.specs.Step.{Answer, done, cut, value_of, is_for, decides, StateOf, OutcomeOf, wrote, ended as endedState, retaining, aborted, passed, raised, concluded, finished, visible, refusal, commits_top, commits_child, recovers, act}
use Rattle.rules.specs.Sound.{Sound, is_calm}
use Rattle.rules.proofs.Medium.{MediumLaws, changed_in, stored as storedBy, is_clear}
use Rattle.rules.proofs.Reserved.{for_some}
use Rattle.rules.proofs.Owners.{is_also}
use Rattle.history.specs.History.{suffices, is_whole_answer}
use Rattle.history.proofs.Roots.{Root, settled, waiting, at, move, lose, all_lost, resolve, settled_cases}
use Rattle.history.proofs.Data.{lift}
use Rattle.history.proofs.Tells.{top_turn}
use Rattle.history.proofs.Invariant.{commit_turn, prepare_turn, decide_turn, answered, turn, changed_of}
use Rattle.history.proofs.Fair.{Fair}

nearest_same : (ver ver' : Versions) (base base' : Page) (r : ℕ) (l : List ℕ) → base' ≡ base → ((a : ℕ) → mem a l ≡ true → ver' a r ≡ ver a r) → nearest ver' base' r l ≡ nearest ver base r l
unfolding nearest mem
nearest_same ver ver' base base' r [] e h = e
nearest_same ver ver' base base' r (a ∷ l) e h =
    ap₂ else (h a (rw (same_refl a))) (nearest_same ver ver' base base' r l e (λ b m. h b (rw m (or-true (same b a)))))

module _ (f : Form) where
  -- the same control with other versions and another store
  abbrev pub swap : StateOf f → Versions → f.medium.Store → StateOf f
  swap s ver d = record { up = s.up; bearer = s.bearer; held = s.held; retained = s.retained; version = ver; store = d }

  -- the two events: the same, or accepted writes of a transaction that does not survive
  pub data Match (φ : Root → Root) (s : StateOf f) : Option Event → Option Event → Type 0 where
    same_event : {e : Option Event} → Match φ s e e
    lost_write : {t r o v w : ℕ} → refusal f s (write t r o v) ≡ none → φ (at t) ≢ settled → Match φ s (some (write t r o v)) (some (write t r o w))

-- the two answers: the same, or bytes read by a transaction that does not survive
pub data Echo (φ : Root → Root) : Option Event → Answer → Answer → Type 0 where
  same_answer : {e : Option Event} {a b : Answer} → b ≡ a → Echo φ e a b
  lost_read : {t r o v w : ℕ} → φ (at t) ≢ settled → Echo φ (some (read t r o)) (done v) (done w)

module _ (f : Form) (M : MediumLaws f.geometry f.medium) where
  pub record Twin (φ : Root → Root) (s : StateOf f) (ver : Versions) (d : f.medium.Store) : Type 0 where
    pub shape : (j r : ℕ) → is_some (ver j r) ≡ is_some (s.version j r)
    pub alike : (j r : ℕ) → φ (at j) ≡ settled → ver j r ≡ s.version j r
    pub stores : M.Agree s.store d
    -- the second store is calm too while up (stores that agree need not both be: see `MediumLaws`)
    pub calm : s.up ≡ true → is_calm f.medium d ≡ true
    -- what is pending, if it will be settled
    pub waits : φ waiting ≡ settled → (r : ℕ) → f.medium.pending d r ≡ f.medium.pending s.store r

  pub record Next (φ φ' : Root → Root) (e : Option Event) (o o' : OutcomeOf f) : Type 0 where
    pub ver : Versions
    pub store : f.medium.Store
    pub stands : o'.state ≡ swap f o.state ver store
    pub twin : Twin φ' o.state ver store
    pub echo : Echo φ e o.answer o'.answer

  pub down_twin : {φ : Root → Root} (c c' : f.medium.Store) → M.Agree c c' → (φ waiting ≡ settled → (r : ℕ) → f.medium.pending c' r ≡ f.medium.pending c r) → Twin φ (down c) (λ j r. none) c'
  unfolding down
  down_twin c c' A P = record { shape = λ j r. refl; alike = λ j r z. refl; stores = A; calm = λ u. absurd (false≢true u); waits = P }

module _ (f : Form) (M : MediumLaws f.geometry f.medium) {s : StateOf f} (S : Sound f s) {φ : Root → Root} (F : Fair (line_of s.bearer) φ)
    {ver : Versions} {d : f.medium.Store} (W : Twin f M φ s ver d) where
  -- what a surviving transaction sees
  seen : (t r : ℕ) → s.up ≡ true → φ (at t) ≡ settled → visible f (swap f s ver d) t r ≡ visible f s t r
  unfolding visible
  seen t r u e = nearest_same s.version ver _ _ r (line_of s.bearer t)
      (M.home_settled d r (W.calm u) ∙ M.agree_settled s.store d W.stores r ∙ sym (M.home_settled s.store r (S.calm u)))
      (λ a m. W.alike a r (F.upward t a m e))

  pub twin_write : (t x o v w : ℕ) → s.up ≡ true → (φ (at t) ≡ settled → w ≡ v) → Next f M φ φ (some (write t x o v)) (act f s (write t x o v)) (act f (swap f s ver d) (write t x o w))
  unfolding act finished wrote with_version is_some
  twin_write t x o v w u h = record {
    ver = with_version t x (set (visible f (swap f s ver d) t x) o w) ver;
    store = d;
    stands = refl;
    twin = record { shape = λ j r. go j r (is_cases (same j t && same r x)); alike = λ j r e. go' j r e (same_cases j t) (same_cases r x); stores = W.stores; calm = W.calm; waits = W.waits };
    echo = same_answer refl;
  }
    where
      new : Page
      new = set (visible f s t x) o v

      new' : Page
      new' = set (visible f (swap f s ver d) t x) o w

      go : (j r : ℕ) → Is (same j t && same r x) → is_some (with_version t x new' ver j r) ≡ is_some (with_version t x new s.version j r)
      go j r (yes' b) = rw b
      go j r (no' b) = rw b (W.shape j r)

      go' : (j r : ℕ) → φ (at j) ≡ settled → Same j t → Same r x → with_version t x new' ver j r ≡ with_version t x new s.version j r
      go' j r e (is q k _) (is q' k' _) = let e' : φ (at t) ≡ settled = rw q at e in rw (k, k') (ap some (ap₂ (λ p b. set p o b) (seen t x u e') (h e')))
      go' j r e (is q k _) (isnt q' k' _) = rw (k, k') (W.alike j r e)
      go' j r e (isnt q k _) z = rw k (W.alike j r e)

  pub twin_read : (t x o : ℕ) → s.up ≡ true → Next f M φ φ (some (read t x o)) (act f s (read t x o)) (act f (swap f s ver d) (read t x o))
  unfolding act finished
  twin_read t x o u = record { ver = ver; store = d; stands = refl; twin = W; echo = go (settled_cases (φ (at t))) }
    where
      go : (φ (at t) ≡ settled) ⊎ (φ (at t) ≢ settled) → Echo φ (some (read t x o)) (done (get_or (visible f s t x) o 0)) (done (get_or (visible f (swap f s ver d) t x) o 0))
      go (inl e) = same_answer (ap (λ p. done (get_or p o 0)) (seen t x u e))
      go (inr n) = lost_read n

module _ (f : Form) (M : MediumLaws f.geometry f.medium) {s : StateOf f} {φ : Root → Root} {ver : Versions} {d : f.medium.Store} where
  -- those that `dead` picks end
  ended_twin : (dead : ℕ → Bool) (turns : Root → Root) (c c' : f.medium.Store) → ((j : ℕ) → dead j ≡ false → turns (at j) ≡ at j)
      → Twin f M (λ c. φ (turns c)) s ver d → M.Agree c c' → (s.up ≡ true → is_calm f.medium c' ≡ true) → (φ waiting ≡ settled → (r : ℕ) → f.medium.pending c' r ≡ f.medium.pending c r)
      → Twin f M φ (endedState s dead c) (dropped dead ver) c'
  unfolding endedState dropped is_some
  ended_twin dead turns c c' keeps W A calm P = record { shape = λ j r. go j r (is_cases (dead j)); alike = λ j r z. go' j r z (is_cases (dead j)); stores = A; calm = calm; waits = P }
    where
      go : (j r : ℕ) → Is (dead j) → is_some (dropped dead ver j r) ≡ is_some (dropped dead s.version j r)
      go j r (yes' k) = rw k
      go j r (no' k) = rw k (W.shape j r)

      go' : (j r : ℕ) → φ (at j) ≡ settled → Is (dead j) → dropped dead ver j r ≡ dropped dead s.version j r
      go' j r z (yes' k) = rw k
      go' j r z (no' k) = rw k (W.alike j r (rw (keeps j k) z))

  pub twin_abort : (ψ : Root → Root) (x : ℕ) (w : Bool) → Twin f M (λ c. φ (lose (λ j. mem x (line_of s.bearer j)) c)) s ver d
      → Next f M ψ φ (some (abort x w)) (act f s (abort x w)) (act f (swap f s ver d) (abort x w))
  unfolding act finished endedState retaining aborted
  twin_abort ψ x w W =
      let E = ended_twin (λ j. mem x (line_of s.bearer j)) (lose (λ j. mem x (line_of s.bearer j))) s.store d (λ j k. rw k) W W.stores W.calm W.waits in
      record {
        ver = dropped (λ j. mem x (line_of s.bearer j)) ver;
        store = d;
        stands = refl;
        twin = record { shape = E.shape; alike = E.alike; stores = E.stores; calm = E.calm; waits = E.waits };
        echo = same_answer refl;
      }

  pub twin_child : (ψ : Root → Root) (e : Event) (x y : ℕ) → x ≢ y → Twin f M (λ c. φ (move x (at y) c)) s ver d
      → Next f M ψ φ (some e) (commits_child f s x y) (commits_child f (swap f s ver d) x y)
  unfolding commits_child finished endedState passed dropped handed_up is_some
  twin_child ψ e x y n W = record {
    ver = lift x y ver;
    store = d;
    stands = refl;
    twin = record { shape = λ j r. go j r (same_cases j x) (same_cases j y); alike = λ j r z. go' j r z (same_cases j x) (same_cases j y); stores = W.stores; calm = W.calm; waits = W.waits };
    echo = same_answer refl;
  }
    where
      go : (j r : ℕ) → Same j x → Same j y → is_some (lift x y ver j r) ≡ is_some (lift x y s.version j r)
      go j r (is q k _) z = rw k
      go j r (isnt q k _) (isnt q' k' _) = rw (k, k') (W.shape j r)
      go j r (isnt q k _) (is q' k' _) = rw (k, k') (is_also (ver x r) (ver y r) ∙ ap₂ ◌||◌ (W.shape x r) (W.shape y r) ∙ sym (is_also (s.version x r) (s.version y r)))

      go' : (j r : ℕ) → φ (at j) ≡ settled → Same j x → Same j y → lift x y ver j r ≡ lift x y s.version j r
      go' j r z (is q k _) w = rw k
      go' j r z (isnt q k _) (isnt q' k' _) = rw (k, k') (W.alike j r (rw k z))
      go' j r z (isnt q k _) (is q' k' _) =
          let z' : φ (at y) ≡ settled = rw q' at z in
          rw (k, k') (ap₂ also (W.alike x r (rw (same_refl x) z')) (W.alike y r (rw (ne_false y x (λ w. n (sym w))) z')))

  -- a top transaction, by what its page writes left in the first run
  pub twin_top : (ψ : Root → Root) (x k a : ℕ) → is_clear f.geometry f.medium s.store (s.version x) ≡ true → is_calm f.medium d ≡ true → is_clear f.geometry f.medium d (ver x) ≡ true → ((r : ℕ) → is_some (s.version x r) ≡ true → r < records f.geometry) → φ settled ≡ settled
      → let o = commits_top f s x (f.medium.commit s.store (s.version x) k) in
      Twin f M (λ c. φ (answered o.answer (commit_turn x (a ∷ []) (suffices o.answer (changed_of f s x))) c)) s ver d
      → Next f M ψ φ (some (commit x k)) o (commits_top f (swap f s ver d) x (f.medium.commit d (ver x) k))
  unfolding commits_top concluded endedState down suffices storedBy
  twin_top ψ x k a clear calm' clear' ranged on_settled W = go c.crashed refl W
    where
      c : Cut f.medium.Store
      c = f.medium.commit s.store (s.version x) k

      c' : Cut f.medium.Store
      c' = f.medium.commit d (ver x) k

      -- what is pending stays
      same_pending : ((r : ℕ) → f.medium.pending d r ≡ f.medium.pending s.store r) → (r : ℕ) → f.medium.pending c'.store r ≡ f.medium.pending c.store r
      same_pending e r = (M.commit_unmoved d (ver x) k clear').same_pending r ∙ e r ∙ sym ((M.commit_unmoved s.store (s.version x) k clear).same_pending r)

      still : (b : Bool) → all_lost (top_turn x b waiting) ≡ waiting
      still true = refl
      still false = refl

      go : (b : Bool) → c.crashed ≡ b → let o = concluded (endedState s (λ j. same j x) c.store) c b in
          Twin f M (λ c. φ (answered o.answer (commit_turn x (a ∷ []) (suffices o.answer (changed_of f s x))) c)) s ver d
          → Next f M ψ φ (some (commit x k)) o (concluded (endedState (swap f s ver d) (λ j. same j x) c'.store) c' c'.crashed)
      go false e W =
          let A = M.agree_commit s.store d (s.version x) (ver x) k clear clear' ranged W.stores (λ r. W.shape x r) (λ z r. W.alike x r (rw (same_refl x) on_settled)) in
          subst⁻¹ (λ (b : Bool). Next f M ψ φ (some (commit x k)) (concluded (endedState s (λ j. same j x) c.store) c false) (concluded (endedState (swap f s ver d) (λ j. same j x) c'.store) c' b)) (A.2 ∙ e)
          (record {
            ver = dropped (λ j. same j x) ver;
            store = c'.store;
            stands = refl;
            twin = ended_twin (λ j. same j x) (move x settled) c.store c'.store (λ j z. rw z) W A.0 (λ u. (M.commit_whole d (ver x) k calm' clear' (A.2 ∙ e)).0) (λ z. same_pending (W.waits z));
            echo = same_answer (ap done A.1);
          })
      go true e W =
          let A = M.agree_commit s.store d (s.version x) (ver x) k clear clear' ranged W.stores (λ r. W.shape x r)
          (λ z r. W.alike x r (rw (rw (ne_false (changed_of f s x) 0 (λ q. let n : 0 < changed_of f s x = M.commit_cut s.store (s.version x) k e in omega arith)) at z, same_refl x) on_settled)) in
          subst⁻¹ (λ (b : Bool). Next f M ψ φ (some (commit x k)) (concluded (endedState s (λ j. same j x) c.store) c true) (concluded (endedState (swap f s ver d) (λ j. same j x) c'.store) c' b)) (A.2 ∙ e)
          (record {
            ver = λ j r. none;
            store = c'.store;
            stands = refl;
            twin = down_twin f M c.store c'.store A.0 (λ z. same_pending (W.waits (ap φ (still (under (changed_of f s x) c.made)) ∙ z)));
            echo = same_answer (ap cut A.1);
          })

  pub twin_recover : (ψ : Root → Root) (k : ℕ) → f.medium.damaged s.store ≡ false → let o = recovers f s (f.medium.recover s.store k) in Twin f M (λ c. φ (turn f s (some (recover k)) o.answer c)) s ver d
      → Next f M ψ φ (some (recover k)) o (recovers f (swap f s ver d) (f.medium.recover d k))
  unfolding recovers concluded raised down
  twin_recover ψ k sound W = go c.crashed refl W
    where
      c : Cut f.medium.Store
      c = f.medium.recover s.store k

      c' : Cut f.medium.Store
      c' = f.medium.recover d k

      A : M.Agree c.store c'.store × (c'.made ≡ c.made) × (c'.crashed ≡ c.crashed)
      A = M.agree_recover s.store d k W.stores

      same_pending : ((r : ℕ) → f.medium.pending d r ≡ f.medium.pending s.store r) → (r : ℕ) → f.medium.pending c'.store r ≡ f.medium.pending c.store r
      same_pending e r = (M.recover_unmoved d k).same_pending r ∙ e r ∙ sym ((M.recover_unmoved s.store k).same_pending r)

      go : (b : Bool) → c.crashed ≡ b → let o = concluded (raised s c.store) c b in Twin f M (λ c. φ (turn f s (some (recover k)) o.answer c)) s ver d
          → Next f M ψ φ (some (recover k)) o (concluded (raised (swap f s ver d) c'.store) c' c'.crashed)
      go false e W = subst⁻¹ (λ (b : Bool). Next f M ψ φ (some (recover k)) (concluded (raised s c.store) c false) (concluded (raised (swap f s ver d) c'.store) c' b)) (A.2 ∙ e)
          (record {
            ver = ver;
            store = c'.store;
            stands = refl;
            twin = record {
              shape = W.shape;
              alike = W.alike;
              stores = A.0;
              calm = λ u. M.recover_whole d k (M.agree_damaged s.store d W.stores ∙ sound) (A.2 ∙ e);
              waits = λ z. same_pending (W.waits z);
            };
            echo = same_answer (ap done A.1);
          })
      go true e W = subst⁻¹ (λ (b : Bool). Next f M ψ φ (some (recover k)) (concluded (raised s c.store) c true) (concluded (raised (swap f s ver d) c'.store) c' b)) (A.2 ∙ e)
          (record { ver = λ j r. none; store = c'.store; stands = refl; twin = down_twin f M c.store c'.store A.0 (λ z. same_pending (W.waits z)); echo = same_answer (ap cut A.1) })

  -- a top transaction is prepared
  pub twin_prepare : (ψ : Root → Root) (x k i : ℕ) → is_clear f.geometry f.medium s.store (s.version x) ≡ true → is_calm f.medium d ≡ true → is_clear f.geometry f.medium d (ver x) ≡ true
      → ((r : ℕ) → is_some (s.version x r) ≡ true → r < records f.geometry)
      → f.geometry.joint ≡ true → i < 256 → φ settled ≡ settled
      → let o = commits_top f s x (f.medium.prepare s.store (s.version x) i k) in
      Twin f M (λ c. φ (answered o.answer (prepare_turn x (is_whole_answer o.answer) (same (changed_of f s x) 0)) c)) s ver d
      → Next f M ψ φ (some (prepare x k i)) o (commits_top f (swap f s ver d) x (f.medium.prepare d (ver x) i k))
  unfolding commits_top concluded endedState down is_whole_answer changed_in
  twin_prepare ψ x k i clear calm' clear' ranged on short on_settled W = go c.crashed refl (same_cases (changed_of f s x) 0) W
    where
      c : Cut f.medium.Store
      c = f.medium.prepare s.store (s.version x) i k

      c' : Cut f.medium.Store
      c' = f.medium.prepare d (ver x) i k

      A : M.Agree c.store c'.store × (c'.made ≡ c.made) × (c'.crashed ≡ c.crashed)
      A = M.agree_prepare s.store d (s.version x) (ver x) i k clear clear' on short W.stores (λ r. W.shape x r)

      calm'' : c.crashed ≡ false → is_calm f.medium c'.store ≡ true
      calm'' e = M.prepare_calm d (ver x) i k calm' on short (A.2 ∙ e)

      counts : changed_in f.geometry (ver x) ≡ changed_of f s x
      counts = ap (count (records f.geometry)) (fun_ext (λ r. W.shape x r))

      -- nothing is changed: what is pending stays
      idle : changed_of f s x ≡ 0 → ((r : ℕ) → f.medium.pending d r ≡ f.medium.pending s.store r) → (r : ℕ) → f.medium.pending c'.store r ≡ f.medium.pending c.store r
      idle n e r =
          ap (λ (y : f.medium.Store). f.medium.pending y r) (M.prepare_none d (ver x) i k (counts ∙ n)).0 ∙ e r
          ∙ sym (ap (λ (y : f.medium.Store). f.medium.pending y r) (M.prepare_none s.store (s.version x) i k n).0)

      -- what is changed is pending
      taken : changed_of f s x ≢ 0 → c.crashed ≡ false → ((r : ℕ) → ver x r ≡ s.version x r) → (r : ℕ) → f.medium.pending c'.store r ≡ f.medium.pending c.store r
      taken n e same_versions r =
          (M.prepare_taken d (ver x) i k (λ q v. ranged q (sym (W.shape x q) ∙ v)) on short (omega (arith, n, counts)) (A.2 ∙ e)).1 r ∙ same_versions r
          ∙ sym ((M.prepare_taken s.store (s.version x) i k ranged on short (omega (arith, n)) e).1 r)

      go : (b : Bool) → c.crashed ≡ b → Same (changed_of f s x) 0 → let o = concluded (endedState s (λ j. same j x) c.store) c b in
          Twin f M (λ c. φ (answered o.answer (prepare_turn x (is_whole_answer o.answer) (same (changed_of f s x) 0)) c)) s ver d
          → Next f M ψ φ (some (prepare x k i)) o (concluded (endedState (swap f s ver d) (λ j. same j x) c'.store) c' c'.crashed)
      go true e n W =
          subst⁻¹ (λ (b : Bool). Next f M ψ φ (some (prepare x k i)) (concluded (endedState s (λ j. same j x) c.store) c true) (concluded (endedState (swap f s ver d) (λ j. same j x) c'.store) c' b)) (A.2 ∙ e)
          (record {
            ver = λ j r. none;
            store = c'.store;
            stands = refl;
            twin = down_twin f M c.store c'.store A.0
                (λ z r. (M.prepare_cut d (ver x) i k clear' (A.2 ∙ e)).same_pending r ∙ W.waits z r ∙ sym ((M.prepare_cut s.store (s.version x) i k clear e).same_pending r));
            echo = same_answer (ap cut A.1);
          })
      go false e (is n z _) W =
          subst⁻¹ (λ (b : Bool). Next f M ψ φ (some (prepare x k i)) (concluded (endedState s (λ j. same j x) c.store) c false) (concluded (endedState (swap f s ver d) (λ j. same j x) c'.store) c' b)) (A.2 ∙ e)
          (let W' : Twin f M (λ c. φ (move x settled c)) s ver d = subst (λ (b : Bool). Twin f M (λ c. φ (prepare_turn x true b c)) s ver d) z W in
          record {
            ver = dropped (λ j. same j x) ver;
            store = c'.store;
            stands = refl;
            twin = ended_twin (λ j. same j x) (move x settled) c.store c'.store (λ j y. rw y) W' A.0 (λ u. calm'' e) (λ y. idle n (W'.waits y));
            echo = same_answer (ap done A.1);
          })
      go false e (isnt n z _) W =
          subst⁻¹ (λ (b : Bool). Next f M ψ φ (some (prepare x k i)) (concluded (endedState s (λ j. same j x) c.store) c false) (concluded (endedState (swap f s ver d) (λ j. same j x) c'.store) c' b)) (A.2 ∙ e)
          (let W' : Twin f M (λ c. φ (move x waiting c)) s ver d = subst (λ (b : Bool). Twin f M (λ c. φ (prepare_turn x true b c)) s ver d) z W in
          record {
            ver = dropped (λ j. same j x) ver;
            store = c'.store;
            stands = refl;
            twin = ended_twin (λ j. same j x) (move x waiting) c.store c'.store (λ j y. rw y) W' A.0 (λ u. calm'' e) (λ y. taken n e (λ r. W'.alike x r (rw (same_refl x) y)));
            echo = same_answer (ap done A.1);
          })

  -- a decision
  pub twin_decide : (ψ : Root → Root) (dec : Bool) (k i : ℕ) (b : Bool) → is_for i (f.medium.prepared s.store) ≡ b → φ settled ≡ settled
      → let o = decides f s dec k b in Twin f M (λ c. φ (answered o.answer (decide_turn dec (same (value_of o.answer) 0)) c)) s ver d
      → Next f M ψ φ (some (decide dec k i)) o (decides f (swap f s ver d) dec k b)
  unfolding decides finished recovers concluded raised down value_of
  twin_decide ψ dec k i false q on_settled W = record { ver = ver; store = d; stands = refl; twin = subst (λ (b : Bool). Twin f M (λ c. φ (decide_turn dec b c)) s ver d) (same_refl 0) W; echo = same_answer refl }
  twin_decide ψ dec k i true q on_settled W = go c.crashed refl (same_cases c.made 0) W
    where
      c : Cut f.medium.Store
      c = f.medium.decide s.store dec k

      c' : Cut f.medium.Store
      c' = f.medium.decide d dec k

      here : f.medium.prepared s.store ≡ some i
      here = for_some i (f.medium.prepared s.store) q

      here' : M.Agree s.store d → f.medium.prepared d ≡ some i
      here' A = M.agree_prepared s.store d A ∙ here

      Agrees : Type 0
      Agrees = M.Agree c.store c'.store × (c'.made ≡ c.made) × (c'.crashed ≡ c.crashed)

      -- nothing is pending any more
      over : M.Agree s.store d → Agrees → c.made ≢ 0 → (r : ℕ) → f.medium.pending c'.store r ≡ f.medium.pending c.store r
      over B A n r =
          M.free_pending c'.store r (M.decide_ended d dec k i (here' B) (omega (arith, n, A.1)))
          ∙ sym (M.free_pending c.store r (M.decide_ended s.store dec k i here (omega (arith, n))))

      -- nothing is written: what is pending stays
      idle : M.Agree s.store d → Agrees → c.made ≡ 0 → ((r : ℕ) → f.medium.pending d r ≡ f.medium.pending s.store r) → (r : ℕ) → f.medium.pending c'.store r ≡ f.medium.pending c.store r
      idle B A n e r =
          ap (λ (y : f.medium.Store). f.medium.pending y r) (M.decide_first d dec k i (here' B) (A.1 ∙ n)) ∙ e r
          ∙ sym (ap (λ (y : f.medium.Store). f.medium.pending y r) (M.decide_first s.store dec k i here n))

      agrees : M.Agree s.store d → (0 < c.made → dec ≡ true → (r : ℕ) → f.medium.pending d r ≡ f.medium.pending s.store r) → Agrees
      agrees B h = M.agree_decide s.store d dec k i here B h

      calms : M.Agree s.store d → c'.crashed ≡ false → is_calm f.medium c'.store ≡ true
      calms B e = unfold is_calm in or_left (f.medium.emptied c'.store) _ (M.decide_whole d dec k i (here' B) e).0

      rules : (e : Bool) → dec ≡ e → e ≡ true → resolve dec waiting ≡ settled
      rules true p q = rw p
      rules false p q = absurd (true≢false (sym q))

      go : (b : Bool) → c.crashed ≡ b → Same c.made 0 → let o = concluded (raised s c.store) c b in
          Twin f M (λ x. φ (answered o.answer (decide_turn dec (same (value_of o.answer) 0)) x)) s ver d
          → Next f M ψ φ (some (decide dec k i)) o (concluded (raised (swap f s ver d) c'.store) c' c'.crashed)
      go false e (is n z _) W = absurd (omega (arith, n, (M.decide_whole s.store dec k i here e).1))
      go false e (isnt n z _) W =
          let W' : Twin f M (λ x. φ (resolve dec x)) s ver d = subst (λ (b : Bool). Twin f M (λ x. φ (decide_turn dec b x)) s ver d) z W in
          let A = agrees W'.stores (λ h t. W'.waits (ap φ (rules dec refl t) ∙ on_settled)) in
          subst⁻¹ (λ (b : Bool). Next f M ψ φ (some (decide dec k i)) (concluded (raised s c.store) c false) (concluded (raised (swap f s ver d) c'.store) c' b)) (A.2 ∙ e)
          (record { ver = ver; store = c'.store; stands = refl; twin = record { shape = W'.shape; alike = W'.alike; stores = A.0; calm = λ u. calms W'.stores (A.2 ∙ e); waits = λ y. over W'.stores A n }; echo = same_answer (ap done A.1) })
      go true e (is n z _) W =
          let W' : Twin f M (λ x. φ (all_lost x)) s ver d = subst (λ (b : Bool). Twin f M (λ x. φ (all_lost (decide_turn dec b x))) s ver d) z W in
          let A = agrees W'.stores (λ h t. absurd (omega (arith, h, n))) in
          subst⁻¹ (λ (b : Bool). Next f M ψ φ (some (decide dec k i)) (concluded (raised s c.store) c true) (concluded (raised (swap f s ver d) c'.store) c' b)) (A.2 ∙ e)
          (record { ver = λ j r. none; store = c'.store; stands = refl; twin = down_twin f M c.store c'.store A.0 (λ y. idle W'.stores A n (W'.waits y)); echo = same_answer (ap cut A.1) })
      go true e (isnt n z _) W =
          let W' : Twin f M (λ x. φ (all_lost (resolve dec x))) s ver d = subst (λ (b : Bool). Twin f M (λ x. φ (all_lost (decide_turn dec b x))) s ver d) z W in
          let A = agrees W'.stores (λ h t. W'.waits (ap (λ y. φ (all_lost y)) (rules dec refl t) ∙ on_settled)) in
          subst⁻¹ (λ (b : Bool). Next f M ψ φ (some (decide dec k i)) (concluded (raised s c.store) c true) (concluded (raised (swap f s ver d) c'.store) c' b)) (A.2 ∙ e)
          (record { ver = λ j r. none; store = c'.store; stands = refl; twin = down_twin f M c.store c'.store A.0 (λ y. over W'.stores A n); echo = same_answer (ap cut A.1) })
