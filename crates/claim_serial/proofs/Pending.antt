-- The events of one top transaction so far can be replayed later, over any store that agrees on the records they have.
use mathlib.Core.Path.{◌≡◌, refl, sym, ap, subst⁻¹, ◌∙◌, fun_ext}
use mathlib.Core.Bool.{Bool, true, false, cond, ◌&&◌, false≢true}
use mathlib.Core.List.{List, [], ◌∷◌, ◌++◌}
use mathlib.Core.Logic.{◌⊎◌, inl, inr}
use mathlib.Core.Option.{Option, none, some}
use Prim.Native.Nat.{ℕ}
use Rattle.laws.specs.Counting.{count}
use Rattle.laws.proofs.Booleans.{and_right, refute, clash}
use Rattle.rules.specs.Geometry.{transactions}
use Rattle.rules.specs.Store.{Page}
use Rattle.rules.specs.Event.{Event}
use Rattle.rules.specs.State.{line_of, mem, live}
use Rattle.rules.specs.Form.{Form}
use Rattle.rules.specs.Versions.{is_some}
use Rattle.rules.specs.Step.{Answer, StateOf, reserved, step}
use Rattle.rules.specs.Sound.{Sound}
use Rattle.rules.proofs.Medium.{MediumLaws}
use Rattle.rules.proofs.Tree.{mem_cons}
use Rattle.rules.proofs.Locks.{live_line, member_live}
use Rattle.history.specs.History.{History}
use Rattle.history.specs.Entries.{Entry, awaits}
use Rattle.history.proofs.Roots.{Root, settled, lost, waiting, at, is_settled}
use Rattle.history.proofs.Invariant.{now}
use Rattle.history.proofs.Holder.{prepared_in, pending_in, Shift}
use Rattle.claim_serial.proofs.Guard.{Guard, Next}
use Rattle.claim_serial.proofs.Mirror.{again, Replayed, Mirror, Fits, Open, reached_event}

pub settled_of : (c : Root) → is_settled c ≡ true → c ≡ settled
settled_of settled e = refl
settled_of lost e = absurd (false≢true e)
settled_of waiting e = absurd (false≢true e)
settled_of (at a) e = absurd (false≢true e)

pub join_assoc : (p q r : List Entry) → (p ++ q) ++ r ≡ p ++ (q ++ r)
join_assoc [] q r = refl
join_assoc (x ∷ p) q r = ap (x ∷◌) (join_assoc p q r)

pub join_nil : (p : List Entry) → p ++ [] ≡ p
join_nil [] = refl
join_nil (x ∷ p) = ap (x ∷◌) (join_nil p)

module _ (f : Form) where
  -- the surviving transactions beneath top
  abbrev pub sv : (Root → Root) → StateOf f → ℕ → ℕ → Bool
  sv φ s top j = is_settled (φ (at j)) && mem top (line_of s.bearer j)

  pub sv_live : {s : StateOf f} → Sound f s → (φ : Root → Root) (top j : ℕ) → sv φ s top j ≡ true → live s j ≡ true
  sv_live {s} S φ top j e = live_line S j ∙ mem_cons top (line_of s.bearer j) (and_right (is_settled (φ (at j))) (mem top (line_of s.bearer j)) e)

  -- what the guards of one state say in the state after
  abbrev pub Guards : (Root → Root) → StateOf f → (Root → Root) → StateOf f → ℕ → Type 0
  Guards φ s φ' s' top = (r : ℕ) → Guard f φ s r top → Next f φ' s s' r top

  -- a store in which none is prepared; or the one that was prepared in the start store, as it is in the other store, and waits yet
  abbrev pub Lean : History → f.medium.Store → f.medium.Store → Type 0
  Lean h d e = (f.medium.prepared d ≡ none) ⊎ ((awaits (h.fate 0) ≡ true) × ((r : ℕ) → f.medium.pending d r ≡ f.medium.pending e r))

  -- a store that agrees with s on the records that the surviving transactions beneath top have
  pub record Agrees (φ : Root → Root) (h : History) (s : StateOf f) (top : ℕ) (d : f.medium.Store) : Type 0 where
    pub guarded : (r : ℕ) → Guard f φ s r top → f.medium.settled d r ≡ now f s r
    pub lean : Lean h d s.store

-- what isn't reserved in one isn't in the other
pub lean_free : (f : Form) (L : MediumLaws f.geometry f.medium) (h : History) (d : f.medium.Store) (s : StateOf f) (r : ℕ) → Lean f h d s.store → reserved f s r ≡ false → is_some (f.medium.pending d r) ≡ false
unfolding reserved is_some
lean_free f L h d s r (inl p) e = ap is_some (L.free_pending d r p)
lean_free f L h d s r (inr p) e = ap is_some (p.1 r) ∙ e

-- as it was before an event
pub lean_back : (f : Form) {e : Option Event} {a : Answer} {s s' : StateOf f} {h h' : History} → Shift f e a s s' h h' → (d : f.medium.Store) → Lean f h' d s'.store → Lean f h d s.store
lean_back f M d (inl p) = inl p
lean_back f M d (inr p) = inr (M.back p.0, λ r. p.1 r ∙ M.same_pending 0 (M.back p.0) p.0 r)

module _ (f : Form) (L : MediumLaws f.geometry f.medium) where
  -- the events of top so far can be replayed from any state that is up with nothing live, over a store that agrees
  abbrev pub Pending : (Root → Root) → History → StateOf f → ℕ → List Entry → Type 0
  Pending φ h s top part =
      (u : StateOf f) → Open f L u → ((c : ℕ) → live u c ≡ false) → Agrees f φ h s top u.store → (target : ℕ → Page) (name : ℕ → ℕ) (rest : List Entry)
      → ((v : StateOf f) (name' : ℕ → ℕ) → Open f L v → Mirror f u.store (sv f φ s top) s v name' → Replayed f target v name' rest)
      → Replayed f target u name (part ++ rest)

  -- what holds of a store after an event held of it before
  abbrev pub Back : History → StateOf f → History → StateOf f → Type 0
  Back h s h' s' = (d : f.medium.Store) → Lean f h' d s'.store → Lean f h d s.store

  -- nothing yet
  pub pending-none : {s : StateOf f} → Sound f s → (φ : Root → Root) (h : History) (top : ℕ) → live s top ≡ false → Pending φ h s top []
  pending-none {s} S φ h top off u O idle base target name rest k = k u name O (record {
    back = λ a. a;
    there = λ j e. clash e (nobody j);
    here = λ a e. clash e (idle a);
    lines = λ a e. clash e (idle a);
    held = λ r a e. clash e (idle a);
    retained = λ c r a e. clash e (idle a);
    versions = λ a r e. clash e (idle a);
    room = ap (count transactions) (fun_ext (λ a. idle a ∙ sym (nobody a)));
    store_is = refl;
  })
    where
      nobody : (j : ℕ) → sv f φ s top j ≡ false
      nobody j = refute (sv f φ s top j) (λ e. clash (member_live S j top (and_right (is_settled (φ (at j))) (mem top (line_of s.bearer j)) e)) off)

  -- an event that isn't played
  pub pending_other : {φ φ' : Root → Root} {h h' : History} {s s' : StateOf f} {top : ℕ} (part : List Entry) → Guards f φ s φ' s' top → Back h s h' s'
      → ((d : f.medium.Store) (v : StateOf f) (n : ℕ → ℕ) → Mirror f d (sv f φ s top) s v n → Mirror f d (sv f φ' s' top) s' v n)
      → Pending φ h s top part → Pending φ' h' s' top part
  pending_other part N back frame P u O idle base target name rest k =
      P u O idle (record { guarded = λ r G. base.guarded r (N r G).guard ∙ (N r G).same_now; lean = back u.store base.lean }) target name rest (λ v n O' M. k v n O' (frame u.store v n M))

  -- an event that is
  pub pending_next : {φ φ' : Root → Root} {h h' : History} {s s' : StateOf f} {top : ℕ} (part : List Entry) (x : Entry) → Guards f φ s φ' s' top → Back h s h' s'
      → ((d : f.medium.Store) (v : StateOf f) (n : ℕ → ℕ) → Agrees f φ h s top d → Open f L v → Mirror f d (sv f φ s top) s v n
      → Fits f d (sv f φ' s' top) s' x.event x.answer n (step f v (some (again f n x.event))))
      → Pending φ h s top part → Pending φ' h' s' top (part ++ (x ∷ []))
  pending_next {φ} {φ'} {h} {h'} {s} {s'} {top} part x N back follow P u O idle base target name rest k =
      subst⁻¹ (λ (l : List Entry). Replayed f target u name l) (join_assoc part (x ∷ []) rest)
      (P u O idle base' target name (x ∷ rest) (λ v n O' M.
      let F = follow u.store v n base' O' M in
      (F.fit, F.right, k _ _ (record { reached = reached_event f L O'.reached (again f n x.event) F.fit; ready = F.still_up }) F.mirror)))
    where
      base' : Agrees f φ h s top u.store
      base' = record { guarded = λ r G. base.guarded r (N r G).guard ∙ (N r G).same_now; lean = back u.store base.lean }

  -- one of the two, by whether the event's entry is among those of top
  pub choose : {φ φ' : Root → Root} {h h' : History} {s s' : StateOf f} {top : ℕ} (part : List Entry) (x : Entry) (l : List Entry) (b : Bool) → l ≡ cond b (x ∷ []) [] → Guards f φ s φ' s' top → Back h s h' s'
      → (b ≡ true → (d : f.medium.Store) (v : StateOf f) (n : ℕ → ℕ) → Agrees f φ h s top d → Open f L v → Mirror f d (sv f φ s top) s v n
      → Fits f d (sv f φ' s' top) s' x.event x.answer n (step f v (some (again f n x.event))))
      → (b ≡ false → (d : f.medium.Store) (v : StateOf f) (n : ℕ → ℕ) → Mirror f d (sv f φ s top) s v n → Mirror f d (sv f φ' s' top) s' v n)
      → Pending φ h s top part → Pending φ' h' s' top (part ++ l)
  choose {φ} {φ'} {h} {h'} {s} {s'} {top} part x l true e N back follow frame P = subst⁻¹ (λ (l : List Entry). Pending φ' h' s' top (part ++ l)) e (pending_next part x N back (follow refl) P)
  choose {φ} {φ'} {h} {h'} {s} {s'} {top} part x l false e N back follow frame P =
      subst⁻¹ (λ (l : List Entry). Pending φ' h' s' top (part ++ l)) e (subst⁻¹ (λ (l : List Entry). Pending φ' h' s' top l) (join_nil part) (pending_other part N back (frame refl) P))

  -- The events of a transaction that is prepared can be replayed later, over a store with the same settled records in which none is prepared; it
  -- waits then as it does in s.
  abbrev pub Waiting : StateOf f → List Entry → Type 0
  Waiting s part =
      (u : StateOf f) → Open f L u → ((c : ℕ) → live u c ≡ false) → ((r : ℕ) → now f u r ≡ now f s r) → f.medium.prepared u.store ≡ none → (target : ℕ → Page) (name : ℕ → ℕ) (rest : List Entry)
      → ((v : StateOf f) (name' : ℕ → ℕ) → Open f L v → ((c : ℕ) → live v c ≡ false) → ((r : ℕ) → now f v r ≡ now f s r) → prepared_in f v ≡ prepared_in f s
      → ((r : ℕ) → pending_in f v r ≡ pending_in f s r) → Replayed f target v name' rest)
      → Replayed f target u name (part ++ rest)

  -- while it goes on waiting
  pub waiting_on : (s s' : StateOf f) (part : List Entry) → ((r : ℕ) → now f s' r ≡ now f s r) → prepared_in f s' ≡ prepared_in f s → ((r : ℕ) → pending_in f s' r ≡ pending_in f s r) → Waiting s part → Waiting s' part
  waiting_on s s' part records identity pages W u O idle nw free target name rest k =
      W u O idle (λ r. nw r ∙ records r) free target name rest (λ v m O' i n p q. k v m O' i (λ r. n r ∙ sym (records r)) (p ∙ sym identity) (λ r. q r ∙ sym (pages r)))
