-- Events by their kind: what is refused before a transaction is looked at, and that every event keeps the arrays sound.
use mathlib.Core.Path.{◌≡◌, refl, sym, ap, subst, subst⁻¹, ◌∙◌}
use mathlib.Core.Bool.{Bool, true, false, not, true≢false}
use mathlib.Core.Logic.{◌≢◌}
use mathlib.Core.Option.{Option, none, some}
use mathlib.Core.List.{List}
use Prim.Native.Nat.{ℕ, zero, suc, ◌^◌, ◌<◌}
use native.Mathlib.Omega.{arith}
use lib.Dec.{eqb-suc-zero}
use Rattle.laws.specs.Tests.{same}
use Rattle.laws.proofs.Tests.{lt-under, same_cases, Same, is, isnt}
use Rattle.rules.specs.Geometry.{Geometry, Proper, records, cut_count}
use Rattle.rules.specs.Event.{Event, begin, lock, write, read, commit, abort, crash, recover, prepare, decide, query, access_of, report_of, decision_of, event_at, fits}
use Rattle.rules.specs.State.{live}
use Rattle.rules.specs.Form.{Form}
use Rattle.rules.specs.Step.{refused, has_child, StateOf, step}
use Rattle.rules.specs.Sound.{Sound}
use Rattle.rules.specs.Editions.{Edition, geometry_of, medium_of, form_in, InNumbers}
use Rattle.rules.proofs.Medium.{MediumLaws}
use Rattle.rules.proofs.Editions.{medium_laws}
use Rattle.rules.proofs.Soundness.{sound_step, sound_bad}
use Rattle.rules.proofs.Waiting.{lock_waits, write_waits, read_waits}
use Rattle.leaf_commit_page.proofs.Places.{laid}
use Rattle.event_commit.specs.Settling.{settling}
use Rattle.leaf_event.specs.Meaning.{meaning, fields_of, InWord}
use Rattle.leaf_event.specs.declared.Event.{Event as Fields}
use Rattle.leaf_event.proofs.Meaning.{means_begin, means_lock, means_write, means_read, means_commit, means_abort, means_prepare, means_decide, means_query}
use Rattle.state_whole.specs.Whole.{Arrays, arrays, view, Intact, Stepped, Ready, ReadyLeaf, Reserves}
use Rattle.state_whole.specs.Lain.{arrays_in}
use Rattle.state_whole.specs.declared.State.{State}
use Rattle.leaf_event.specs.declared.Answer.{Answer}
use Rattle.state_whole.proofs.Rules.{begin_down, lock_down, write_down, read_down, commit_down, abort_down, prepare_down, decide_down, query_down, lock_unknown, write_unknown, read_unknown, commit_unknown, abort_unknown, prepare_unknown}
use Rattle.state_whole.proofs.Steps.{answer, unmoved, up_is, down_is, live_is}
use Rattle.state_whole.proofs.Reserves.{reserves_kept}
use Rattle.rules.proofs.Held.{is_plain}

-- a value that isn't 0 reports an abort
pub report_is : (v : ℕ) → report_of v ≡ not (same v 0)
unfolding report_of same
report_is zero = refl
report_is (suc v) = ap not (sym (eqb-suc-zero v))

module _ (f : Form) where
  -- an event's clause speaks of the arrays that it touches: the state after it is that of before but for these
  pub from_rest : {many places : ℕ} (x : Arrays) (e : Option Event) (a : Answer) (s t : State many places) (work store : List ℕ) → s ≡ t → Stepped f x e a (arrays_in t work store) → Stepped f x e a (arrays_in s work store)
  from_rest {many = many} {places = places} x e a s t work store q T = subst⁻¹ (λ (s : State many places). Stepped f x e a (arrays_in s work store)) q T

  pub same_up : {many places : ℕ} (x : Arrays) (e : Option Event) (a : Answer) (s : State many places) (up : ℕ) (work store : List ℕ) → s.up ≡ up → Stepped f x e a (arrays up s.parent s.depth s.line s.held s.retained s.writers work store)
      → Stepped f x e a (arrays_in s work store)
  same_up x e a s up work store q T = subst⁻¹ (λ (up : ℕ). Stepped f x e a (arrays up s.parent s.depth s.line s.held s.retained s.writers work store)) q T

  -- down: 2, whatever else
  down_kinds : (s : StateOf f) (e : Fields) (k : ℕ) → e.kind ≡ k → 0 < k → k < 12 → k ≢ 7 → k ≢ 8 → s.up ≡ false → step f s (meaning e) ≡ record { state = s; answer = refused 2 }
  down_kinds s e zero q h g c r d = absurd (omega arith)
  down_kinds s e (suc zero) q h g c r d = ap (step f s) (means_begin e q) ∙ begin_down f s d e.transaction
  down_kinds s e (suc (suc zero)) q h g c r d = ap (step f s) (means_lock e q) ∙ lock_down f s d e.transaction e.rec (access_of e.value)
  down_kinds s e (suc (suc (suc zero))) q h g c r d = ap (step f s) (means_write e q) ∙ write_down f s d e.transaction e.rec e.offset e.value
  down_kinds s e (suc (suc (suc (suc zero)))) q h g c r d = ap (step f s) (means_read e q) ∙ read_down f s d e.transaction e.rec e.offset
  down_kinds s e (suc (suc (suc (suc (suc zero))))) q h g c r d = ap (step f s) (means_commit e q) ∙ commit_down f s d e.transaction e.count
  down_kinds s e (suc (suc (suc (suc (suc (suc zero)))))) q h g c r d = ap (step f s) (means_abort e q) ∙ abort_down f s d e.transaction (report_of e.value)
  down_kinds s e (suc (suc (suc (suc (suc (suc (suc zero))))))) q h g c r d = absurd (c refl)
  down_kinds s e (suc (suc (suc (suc (suc (suc (suc (suc zero)))))))) q h g c r d = absurd (r refl)
  down_kinds s e (suc (suc (suc (suc (suc (suc (suc (suc (suc zero))))))))) q h g c r d = ap (step f s) (means_prepare e q) ∙ prepare_down f s d e.transaction e.count e.value
  down_kinds s e (suc (suc (suc (suc (suc (suc (suc (suc (suc (suc zero)))))))))) q h g c r d = ap (step f s) (means_decide e q) ∙ decide_down f s d (decision_of e.offset) e.count e.value
  down_kinds s e (suc (suc (suc (suc (suc (suc (suc (suc (suc (suc (suc zero))))))))))) q h g c r d = ap (step f s) (means_query e q) ∙ query_down f s d e.value
  down_kinds s e (suc (suc (suc (suc (suc (suc (suc (suc (suc (suc (suc (suc k)))))))))))) q h g c r d = absurd (omega arith)

  pub down_steps : (x : Arrays) (e : Fields) → Intact f x → 0 < e.kind → e.kind < 12 → e.kind ≢ 7 → e.kind ≢ 8 → x.up ≢ 1 → Stepped f x (meaning e) (answer 2 0) x
  down_steps x e I h g c r d = unmoved f x (meaning e) 2 I.form (down_kinds (view f x) e e.kind refl h g c r (down_is f x d))

  -- a transaction that isn't live is named: 5
  unknown_kinds : (s : StateOf f) (e : Fields) (k : ℕ) → e.kind ≡ k → 1 < k → k < 10 → k ≢ 7 → k ≢ 8 → s.up ≡ true → live s e.transaction ≡ false
      → step f s (meaning e) ≡ record { state = s; answer = refused 5 }
  unknown_kinds s e zero q h g c r u l = absurd (omega arith)
  unknown_kinds s e (suc zero) q h g c r u l = absurd (omega arith)
  unknown_kinds s e (suc (suc zero)) q h g c r u l = ap (step f s) (means_lock e q) ∙ lock_unknown f s e.transaction u l e.rec (access_of e.value)
  unknown_kinds s e (suc (suc (suc zero))) q h g c r u l = ap (step f s) (means_write e q) ∙ write_unknown f s e.transaction u l e.rec e.offset e.value
  unknown_kinds s e (suc (suc (suc (suc zero)))) q h g c r u l = ap (step f s) (means_read e q) ∙ read_unknown f s e.transaction u l e.rec e.offset
  unknown_kinds s e (suc (suc (suc (suc (suc zero))))) q h g c r u l = ap (step f s) (means_commit e q) ∙ commit_unknown f s e.transaction u l e.count
  unknown_kinds s e (suc (suc (suc (suc (suc (suc zero)))))) q h g c r u l = ap (step f s) (means_abort e q) ∙ abort_unknown f s e.transaction u l (report_of e.value)
  unknown_kinds s e (suc (suc (suc (suc (suc (suc (suc zero))))))) q h g c r u l = absurd (c refl)
  unknown_kinds s e (suc (suc (suc (suc (suc (suc (suc (suc zero)))))))) q h g c r u l = absurd (r refl)
  unknown_kinds s e (suc (suc (suc (suc (suc (suc (suc (suc (suc zero))))))))) q h g c r u l = ap (step f s) (means_prepare e q) ∙ prepare_unknown f s e.transaction u l e.count e.value
  unknown_kinds s e (suc (suc (suc (suc (suc (suc (suc (suc (suc (suc k)))))))))) q h g c r u l = absurd (omega arith)

  pub unknown_steps : (x : Arrays) (e : Fields) → Intact f x → 1 < e.kind → e.kind < 10 → e.kind ≢ 7 → e.kind ≢ 8 → x.up ≡ 1 → live (view f x) e.transaction ≡ false → Stepped f x (meaning e) (answer 5 0) x
  unknown_steps x e I h g c r u l = unmoved f x (meaning e) 5 I.form (unknown_kinds (view f x) e e.kind refl h g c r (up_is f x u) l)

  -- a transaction with a live child names a record: 14
  waits_kinds : (s : StateOf f) (e : Fields) (k : ℕ) → e.kind ≡ k → 1 < k → k < 5 → s.up ≡ true → live s e.transaction ≡ true → has_child s e.transaction ≡ true
      → step f s (meaning e) ≡ record { state = s; answer = refused 14 }
  waits_kinds s e zero q h g u l c = absurd (omega arith)
  waits_kinds s e (suc zero) q h g u l c = absurd (omega arith)
  waits_kinds s e (suc (suc zero)) q h g u l c = ap (step f s) (means_lock e q) ∙ lock_waits f s e.transaction u l e.rec (access_of e.value) c
  waits_kinds s e (suc (suc (suc zero))) q h g u l c = ap (step f s) (means_write e q) ∙ write_waits f s e.transaction u l e.rec e.offset e.value c
  waits_kinds s e (suc (suc (suc (suc zero)))) q h g u l c = ap (step f s) (means_read e q) ∙ read_waits f s e.transaction u l e.rec e.offset c
  waits_kinds s e (suc (suc (suc (suc (suc k))))) q h g u l c = absurd (omega arith)

  -- by the code's test for a child
  module _ (x : Arrays) (t : ℕ) (b : Bool) (test : b ≡ has_child (view f x) t) where
    pub leaf_of : b ≡ false → Ready f x t → (n : ℕ) → n ≡ t → ReadyLeaf f x n
    leaf_of e R n q = subst⁻¹ (ReadyLeaf f x) q (record { ready = R; childless = sym test ∙ e })

    pub waits_steps : b ≡ true → (e : Fields) → e.transaction ≡ t → Intact f x → 1 < e.kind → e.kind < 5 → Ready f x t → Stepped f x (meaning e) (answer 14 0) x
    waits_steps c e q I h g R =
        unmoved f x (meaning e) 14 I.form (waits_kinds (view f x) e e.kind refl h g (up_is f x R.up) (rw q (live_is f x t R.live)) (rw q (sym test ∙ c)))

-- where no page tears a cut is its count
count-within : (g : Geometry) (c : ℕ) → cut_count g.tears c < 2 ^ g.cut_bits → g.tears ≡ false → c < 2 ^ g.cut_bits
count-within g c h still = subst (λ (b : Bool). cut_count b c < 2 ^ g.cut_bits) still h

-- an event whose fields are in range fits a word
fits_of : (g : Geometry) (k t r o c v : ℕ) → t < 32 → r < records g → o < 32 → cut_count g.tears c < 2 ^ g.cut_bits → v < 256 → (8 < k → g.joint ≡ true) → (8 < k → g.tears ≡ false) → (e : Event) → event_at (fields_of k t r o c v) c ≡ some e → fits g e ≡ true
unfolding event_at fields_of fits
fits_of g zero t r o c v ht hr ho hc hv hj hs e q = let z : true ≡ false = cc in absurd (true≢false z)
fits_of g (suc zero) t r o c v ht hr ho hc hv hj hs e q = let p : begin t ≡ e = cc in rw (← p) (lt-under t 32 ht)
fits_of g (suc (suc zero)) t r o c v ht hr ho hc hv hj hs e q = let p : lock t r (access_of v) ≡ e = cc in rw (← p, lt-under t 32 ht, lt-under r (records g) hr)
fits_of g (suc (suc (suc zero))) t r o c v ht hr ho hc hv hj hs e q = let p : write t r o v ≡ e = cc in rw (← p, lt-under t 32 ht, lt-under r (records g) hr, lt-under o 32 ho, lt-under v 256 hv)
fits_of g (suc (suc (suc (suc zero)))) t r o c v ht hr ho hc hv hj hs e q = let p : read t r o ≡ e = cc in rw (← p, lt-under t 32 ht, lt-under r (records g) hr, lt-under o 32 ho)
fits_of g (suc (suc (suc (suc (suc zero))))) t r o c v ht hr ho hc hv hj hs e q = let p : commit t c ≡ e = cc in rw (← p, lt-under t 32 ht, lt-under (cut_count g.tears c) (2 ^ g.cut_bits) hc)
fits_of g (suc (suc (suc (suc (suc (suc zero)))))) t r o c v ht hr ho hc hv hj hs e q = let p : abort t (report_of v) ≡ e = cc in rw (← p) (lt-under t 32 ht)
fits_of g (suc (suc (suc (suc (suc (suc (suc zero))))))) t r o c v ht hr ho hc hv hj hs e q = let p : crash ≡ e = cc in rw (← p)
fits_of g (suc (suc (suc (suc (suc (suc (suc (suc zero)))))))) t r o c v ht hr ho hc hv hj hs e q = let p : recover c ≡ e = cc in rw (← p) (lt-under (cut_count g.tears c) (2 ^ g.cut_bits) hc)
fits_of g (suc (suc (suc (suc (suc (suc (suc (suc (suc zero))))))))) t r o c v ht hr ho hc hv hj hs e q = let p : prepare t c v ≡ e = cc in rw (← p, lt-under t 32 ht, lt-under c (2 ^ g.cut_bits) (count-within g c hc (hs (omega arith))), lt-under v 256 hv, hj (omega arith))
fits_of g (suc (suc (suc (suc (suc (suc (suc (suc (suc (suc zero)))))))))) t r o c v ht hr ho hc hv hj hs e q = let p : decide (decision_of o) c v ≡ e = cc in rw (← p, lt-under c (2 ^ g.cut_bits) (count-within g c hc (hs (omega arith))), lt-under v 256 hv, hj (omega arith))
fits_of g (suc (suc (suc (suc (suc (suc (suc (suc (suc (suc (suc zero))))))))))) t r o c v ht hr ho hc hv hj hs e q = let p : query v ≡ e = cc in rw (← p, lt-under v 256 hv, hj (omega arith))
fits_of g (suc (suc (suc (suc (suc (suc (suc (suc (suc (suc (suc (suc k)))))))))))) t r o c v ht hr ho hc hv hj hs e q = let z : true ≡ false = cc in absurd (true≢false z)

-- an event of another kind than prepare and decide
plain_of : (k t r o c v : ℕ) → k ≢ 9 → k ≢ 10 → (e : Event) → event_at (fields_of k t r o c v) c ≡ some e → is_plain e ≡ true
unfolding event_at fields_of is_plain
plain_of zero t r o c v p d e q = let z : true ≡ false = cc in absurd (true≢false z)
plain_of (suc zero) t r o c v p d e q = let z : begin t ≡ e = cc in rw (← z)
plain_of (suc (suc zero)) t r o c v p d e q = let z : lock t r (access_of v) ≡ e = cc in rw (← z)
plain_of (suc (suc (suc zero))) t r o c v p d e q = let z : write t r o v ≡ e = cc in rw (← z)
plain_of (suc (suc (suc (suc zero)))) t r o c v p d e q = let z : read t r o ≡ e = cc in rw (← z)
plain_of (suc (suc (suc (suc (suc zero))))) t r o c v p d e q = let z : commit t c ≡ e = cc in rw (← z)
plain_of (suc (suc (suc (suc (suc (suc zero)))))) t r o c v p d e q = let z : abort t (report_of v) ≡ e = cc in rw (← z)
plain_of (suc (suc (suc (suc (suc (suc (suc zero))))))) t r o c v p d e q = let z : crash ≡ e = cc in rw (← z)
plain_of (suc (suc (suc (suc (suc (suc (suc (suc zero)))))))) t r o c v p d e q = let z : recover c ≡ e = cc in rw (← z)
plain_of (suc (suc (suc (suc (suc (suc (suc (suc (suc zero))))))))) t r o c v p d e q = absurd (p refl)
plain_of (suc (suc (suc (suc (suc (suc (suc (suc (suc (suc zero)))))))))) t r o c v p d e q = absurd (d refl)
plain_of (suc (suc (suc (suc (suc (suc (suc (suc (suc (suc (suc zero))))))))))) t r o c v p d e q = let z : query v ≡ e = cc in rw (← z)
plain_of (suc (suc (suc (suc (suc (suc (suc (suc (suc (suc (suc (suc k)))))))))))) t r o c v p d e q = let z : true ≡ false = cc in absurd (true≢false z)

meaning_fits : (g : Geometry) (e : Fields) → InWord g e → (8 < e.kind → g.joint ≡ true) → (f : Event) → meaning e ≡ some f → fits g f ≡ true
unfolding meaning
meaning_fits g e R J f q = fits_of g e.kind e.transaction e.rec e.offset e.count e.value R.transaction R.rec R.offset R.count R.value J R.still f q

module _ (k : Edition) (n : ℕ) (joint tears : Bool) (N : InNumbers k n joint tears) where
  abbrev form : Form
  form = form_in tears (geometry_of k)

  proper : Proper (geometry_of k)
  proper = (laid k).proper

  -- every event keeps the arrays sound
  pub keeps : (x y : Arrays) (e : Fields) (a : Answer) → (8 < e.kind → joint ≡ true) → InWord (geometry_of k) e → Intact form x → Stepped form x (meaning e) a y → Stepped form x (meaning e) a y × Intact form y
  unfolding view
  keeps x y e a J R I T = (T, record { sound = subst⁻¹ (Sound form) T.is (go (meaning e) refl); served = I.served; form = T.form })
    where
      laws : MediumLaws (geometry_of k) (medium_of tears (geometry_of k))
      laws = medium_laws tears (geometry_of k) proper N.torn

      go : (o : Option Event) → meaning e ≡ o → Sound form (step form (view form x) o).state
      go none q = sound_bad form laws I.sound (laws.shaped_from x.store I.form.stores)
      go (some f) q = sound_step form laws I.sound (laws.shaped_from x.store I.form.stores) f (meaning_fits (geometry_of k) e R (λ h. N.two_phase ∙ J h) f q)

  -- an event of another kind leaves what is prepared
  pub keeps_reserved : (x y : Arrays) (e : Fields) (a : Answer) (m i : ℕ) → e.kind ≢ 9 → e.kind ≢ 10 → Intact form x → Reserves tears (geometry_of k) x.store m i
      → Stepped form x (meaning e) a y → Reserves tears (geometry_of k) y.store m i
  unfolding meaning
  keeps_reserved x y e a m i p d I H T =
      reserves_kept tears (geometry_of k) proper N.torn x y (meaning e) a m i I T H (plain_of e.kind e.transaction e.rec e.offset e.count e.value p d)

-- transactions are prepared and decided on atomic pages alone
pub decided_whole : (tears : Bool) (g : Geometry) (x y : Arrays) (e : Option Event) (a : Answer) (m i m' i' : ℕ) → tears ≡ false
    → (Intact (form_in false g) x → x.up ≡ 1 → Reserves false g x.store m i → Stepped (form_in false g) x e a y × Reserves false g y.store m' i')
    → Intact (form_in tears g) x → x.up ≡ 1 → Reserves tears g x.store m i → Stepped (form_in tears g) x e a y × Reserves tears g y.store m' i'
decided_whole tears g x y e a m i m' i' q T =
    subst⁻¹ (λ (b : Bool). Intact (form_in b g) x → x.up ≡ 1 → Reserves b g x.store m i → Stepped (form_in b g) x e a y × Reserves b g y.store m' i') q T

-- the offset of a decision: 0 to abort, another to commit
pub to_abort : (v : ℕ) → v ≡ 0 → decision_of v ≡ false
unfolding decision_of
to_abort v e = ap decision_of e

pub to_commit : (v : ℕ) → v ≢ 0 → decision_of v ≡ true
unfolding decision_of
to_commit zero n = absurd (n refl)
to_commit (suc v) n = refl

-- a commit or a prepare, by its kind
pub means_settling : (e : Fields) → e.kind ≢ 6 → 4 < e.kind → e.kind < 10 → e.kind ≢ 7 → e.kind ≢ 8 → meaning e ≡ some (settling (same e.kind 9) e.transaction e.count e.value)
unfolding settling
means_settling e a l h c r = go (same_cases e.kind 9)
  where
    go : Same e.kind 9 → meaning e ≡ some (settling (same e.kind 9) e.transaction e.count e.value)
    go (is q z _) = rw z (means_prepare e q)
    go (isnt q z _) = rw z (means_commit e (omega arith))
