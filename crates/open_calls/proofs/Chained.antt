-- Calls of a portion: each singles out every byte of the state, and from the start they are a chain of portions, of which the laws of portions and
-- demand 3 are proved.
use mathlib.Core.Path.{◌≡◌, refl, sym, ap, subst, subst⁻¹, ◌∙◌}
use mathlib.Core.Bool.{Bool, true, false, true≢false}
use mathlib.Core.List.{List, []}
use mathlib.Core.Logic.{◌≢◌}
use mathlib.Core.Option.{Option, none, some}
use Prim.Native.Nat.{ℕ, ◌*◌, ◌/◌, ◌%◌, ◌≤◌}
use native.Mathlib.Omega.{arith}
use lib.ListN.{length}
use Rattle.laws.specs.Tests.{same}
use Rattle.laws.proofs.Tests.{same_refl}
use Rattle.rules.specs.Geometry.{records, word_size, work_size}
use Rattle.rules.specs.State.{down, mem}
use Rattle.rules.specs.Step.{StateOf, first_of}
use Rattle.rules.specs.Run.{events_in, run_refusals}
use Rattle.rules.specs.Sound.{Sound}
use Rattle.rules.specs.Portion.{Lent, all_events, all_zero, Fits, AllFit, Takes, Portion, portion_all, portion, chain, chain_from, AsWhole}
use Rattle.rules.specs.Calls.{Call, lents, left, Promised}
use Rattle.rules.specs.Form.{Form}
use Rattle.rules.specs.Editions.{work_bytes}
use Rattle.rules.proofs.Medium.{MediumLaws}
use Rattle.rules.proofs.Portions.{first_lacks, Case, plays, refuses, which_case, finds_one, lengths_first, lengths_only, unsound_refused, Carried, carried_start, sound_portion, chain_whole}
use Rattle.rules.proofs.Portions as portions
use Rattle.rules.proofs.CutLists.{empty_portion, fits_passes}
use Rattle.rules.proofs.Calls.{AsChain, calls_chain}
use Rattle.history.specs.Called.{Starts, Demand3CalledHolds}
use Rattle.history.proofs.Called.{proper_left, demand_3_called, reads_called, commit_survives_called}
use Rattle.claim_serial.specs.Called.{OneCallAtATimeHolds}
use Rattle.claim_serial.proofs.Called.{one_call_at_a_time}
use Rattle.state_whole.specs.Whole as state
use Rattle.state_whole.specs.Whole.{Served}
use Rattle.event_crash.proofs.Falls.{zeros_down, zeros_formed}
use Rattle.sound_state.proofs.Unique.{encoding_unique}
use Rattle.open_lent.specs.Portions.{LentState, kept, state_in, store_bytes_in, Encoded, zeros}
use Rattle.open_calls.specs.Chained.{SingledOut, WrittenOneWay, RefusedUntouched, LeftAlone, EmptyTaken, FromStart, CalledWell, CallsHold, AsRun, CutAnywhere}

-- of a form with sixteen records, whose medium has the laws of one
module _ (f : Form) (M : MediumLaws f.geometry f.medium) (served : Served f) (many : records f.geometry ≡ 16) (four : word_size f.geometry ≡ 4)
    (slots : work_size f.geometry ≡ work_bytes)
    (cuts : (sound : StateOf f → Bool) → Takes f sound → (store : List ℕ) (ls : List Lent) (work answers : List ℕ) → length store ≡ f.medium.size → AllFit f ls
    → Fits f (record { events = all_events ls; work = work; answers = answers }) → AsWhole f sound store ls work answers) where
  sixteen : work_bytes ≡ 512 * records f.geometry
  sixteen = omega (arith, many)

  abbrev Promise : LentState → Call LentState → Type 0
  Promise = Promised f (state_in f) store_bytes_in (Encoded f)

  abbrev on : LentState → Lent → Bool → Portion f
  on x l sound = portion f sound ((state_in f) x) x.store l.events l.work l.answers

  abbrev first : LentState → Lent → Option ℕ
  first x l = first_of (run_refusals f x.store l.events l.work l.answers)

  -- what is written as a sound state follows from the state
  engine_one : (x y : LentState) → (Encoded f) x → (Encoded f) y → Sound f ((state_in f) x) → (state_in f) x ≡ (state_in f) y → x.engine ≡ y.engine
  unfolding state_in state.view
  engine_one x y P Q S e =
      let A = encoding_unique f x.engine.up x.engine.parent x.engine.depth x.engine.line x.engine.held x.engine.retained x.engine.writers x.work x.store
      y.engine.up y.engine.parent y.engine.depth y.engine.line y.engine.held y.engine.retained y.engine.writers y.work y.store
      (record { sound = S; served = served; form = P.form })
      (record { sound = subst (Sound f) e S; served = served; form = Q.form }) e in
      λ i. record { line = A.lines i; held = A.helds i; retained = A.retaineds i; writers = A.writerss i; parent = A.parents i; depth = A.depths i; up = A.ups i; spare = (P.bare ∙ sym Q.bare) i }

  carried_of : (x : LentState) → (Encoded f) x → Sound f ((state_in f) x) → Carried f M ((state_in f) x) x.store
  unfolding state_in state.view
  carried_of x P S = record { reached = record { sound = S; shaped = M.shaped_from x.store P.form.stores }; reads = refl; writes = M.to_from x.store P.form.stores }

  never_zero : (x : LentState) (l : Lent) → first x l ≢ some 0
  unfolding run_refusals
  never_zero x l = first_lacks 0 _ ((λ e. absurd (omega arith)), ((λ e. absurd (omega arith)), ((λ e. absurd (omega arith)), ((λ e. absurd (omega arith)), tt))))

  -- a portion that answers 0 passed the lengths, and its state was found sound
  data Passed (x : LentState) (l : Lent) (sound : Bool) : Type 0 where
    passed : first x l ≡ none → sound ≡ true → Passed x l sound

  passed_of : (x : LentState) (l : Lent) (sound : Bool) → (on x l sound).answer ≡ 0 → Passed x l sound
  passed_of x l sound z = go (first x l) refl sound z
    where
      go : (o : Option ℕ) → first x l ≡ o → (b : Bool) → (on x l b).answer ≡ 0 → Passed x l b
      go (some n) q b z = absurd (never_zero x l (q ∙ ap some (sym (lengths_first f b ((state_in f) x) x.store l.events l.work l.answers n q) ∙ z)))
      go none q true z = passed q refl
      go none q false z = let k = unsound_refused f ((state_in f) x) x.store l.events l.work l.answers q in absurd (omega arith)

  module _ (x : LentState) (c d : Call LentState) (same_lent : c.lent ≡ d.lent) (P : Promise x c) (Q : Promise x d) where
    same_portion : on x c.lent P.0 ≡ on x d.lent Q.0
    same_portion = go (first x c.lent) refl ∙ ap (λ (l : Lent). on x l Q.0) same_lent
      where
        go : (o : Option ℕ) → first x c.lent ≡ o → on x c.lent P.0 ≡ on x c.lent Q.0
        go (some n) q = lengths_only f P.0 Q.0 ((state_in f) x) x.store c.lent.events c.lent.work c.lent.answers n q
        go none q = ap (on x c.lent) (finds_one f (λ s. ((state_in f) x ≡ s) × (Encoded f) x) P.0 Q.0 (P.1.found q) (Q.1.found (subst (λ (l : Lent). first x l ≡ none) same_lent q)))

    answers_same : c.answer ≡ d.answer
    answers_same = P.1.answered ∙ ap (λ (p : Portion f). p.answer) same_portion ∙ sym Q.1.answered

    states_same : (state_in f) c.after ≡ (state_in f) d.after
    states_same = P.1.state ∙ ap (λ (p : Portion f). p.state) same_portion ∙ sym Q.1.state

    engines_same : c.after.engine ≡ d.after.engine
    unfolding portion_all
    engines_same = go (which_case f P.0 ((state_in f) x) x.store c.lent.events c.lent.work c.lent.answers)
      where
        go : Case f P.0 ((state_in f) x) x.store c.lent.events c.lent.work c.lent.answers → c.after.engine ≡ d.after.engine
        go (refuses n q z p) =
            let h : c.answer ≢ 0 = λ k. true≢false (sym (same_refl 0) ∙ ap (λ (m : ℕ). same m 0) (sym k ∙ P.1.answered ∙ ap (λ (p : Portion f). p.answer) p) ∙ z) in
            ap (λ (y : LentState). y.engine) (P.1.untouched h ∙ sym (Q.1.untouched (λ k. h (answers_same ∙ k))))
        go (plays q p) = got (passed_of x c.lent P.0 (ap (λ (p : Portion f). p.answer) p))
          where
            got : Passed x c.lent P.0 → c.after.engine ≡ d.after.engine
            got (passed u t) =
                let k = (P.1.found u).only_sound t in
                let S : Sound f ((state_in f) x) = subst⁻¹ (Sound f) k.1.0 k.2 in
                let C = sound_portion f M P.0 ((state_in f) x) x.store c.lent.events c.lent.work c.lent.answers (carried_of x k.1.1 S) in
                engine_one c.after d.after (P.1.written k.1.1) (Q.1.written k.1.1) (subst⁻¹ (Sound f) P.1.state C.reached.sound) states_same

  pub written_one_way : WrittenOneWay f
  unfolding WrittenOneWay
  written_one_way = engine_one

  -- A REFUSED CALL leaves every byte
  pub refused_untouched : RefusedUntouched f
  unfolding RefusedUntouched portion_all
  refused_untouched x c P h = (P.1.untouched h, P.1.told ∙ go (which_case f P.0 ((state_in f) x) x.store c.lent.events c.lent.work c.lent.answers))
    where
      go : Case f P.0 ((state_in f) x) x.store c.lent.events c.lent.work c.lent.answers → (on x c.lent P.0).answers ≡ c.lent.answers
      go (refuses n q z p) = ap (λ (y : Portion f). y.answers) p
      go (plays q p) = absurd (h (P.1.answered ∙ ap (λ (y : Portion f). y.answer) p))

  -- A CALL SINGLES OUT every byte of the state, the store and the answers
  pub singled_out : SingledOut f
  unfolding SingledOut
  singled_out x c d e P Q = record {
    answer = answers_same x c d e P Q;
    engine = engines_same x c d e P Q;
    store = P.1.stored ∙ ap (λ (p : Portion f). p.store) (same_portion x c d e P Q) ∙ sym Q.1.stored;
    answers = P.1.told ∙ ap (λ (p : Portion f). p.answers) (same_portion x c d e P Q) ∙ sym Q.1.told;
    state = states_same x c d e P Q;
  }

  module _ (x : LentState) (c : Call LentState) (W : (Encoded f) x) (S : Sound f ((state_in f) x)) (empty : c.lent.events ≡ []) (long : length c.lent.work ≡ work_bytes) (P : Promise x c) where
    abbrev none_lent : Lent
    none_lent = record { events = []; work = c.lent.work; answers = c.lent.answers }

    lent_none : c.lent ≡ none_lent
    lent_none = λ i. record { events = empty i; work = c.lent.work; answers = c.lent.answers }

    empty_fits : Fits f none_lent
    unfolding events_in
    empty_fits = record {
      slots = long ∙ sym slots;
      whole = subst⁻¹ (λ (w : ℕ). 0 % w ≡ 0) four refl;
      short = omega arith;
      room = subst⁻¹ (λ (w : ℕ). 2 * (0 / w) ≤ length c.lent.answers) four (omega arith);
    }

    empty_passes : first x none_lent ≡ none
    empty_passes = fits_passes f x.store none_lent W.form.stores empty_fits

    empty_sound : P.0 ≡ true
    empty_sound = (P.1.found (subst⁻¹ (λ (l : Lent). first x l ≡ none) lent_none empty_passes)).every_sound ((state_in f) x) (refl, W) S

    empty_is : on x c.lent P.0 ≡ record { answer = 0; state = (state_in f) x; store = x.store; answers = c.lent.answers }
    empty_is =
        ap (on x c.lent) empty_sound ∙ ap (λ (l : Lent). on x l true) lent_none
        ∙ empty_portion f M ((state_in f) x) x.store c.lent.work c.lent.answers (carried_of x W S) empty_passes

    empty_state : (state_in f) c.after ≡ (state_in f) x
    empty_state = P.1.state ∙ ap (λ (p : Portion f). p.state) empty_is

    empty_left : LeftAlone f x c
    empty_left = record {
      answer = P.1.answered ∙ ap (λ (p : Portion f). p.answer) empty_is;
      engine = engine_one c.after x (P.1.written W) W (subst⁻¹ (Sound f) empty_state S) empty_state;
      store = P.1.stored ∙ ap (λ (p : Portion f). p.store) empty_is;
      answers = P.1.told ∙ ap (λ (p : Portion f). p.answers) empty_is;
      state = empty_state;
    }

  -- AN EMPTY PORTION
  pub empty_taken : EmptyTaken f
  unfolding EmptyTaken
  empty_taken x c W S e long P = empty_left x c W S e long P

  -- zeros are a start
  starts : (work store : List ℕ) → length work ≡ work_bytes → length store ≡ f.medium.size → Starts f (state_in f) store_bytes_in (Encoded f) (kept zeros work store)
  unfolding state_in
  starts work store w s = record { at_start = zeros_down f 16 work store; written = record { form = zeros_formed f 16 work store many (w ∙ sixteen) s; bare = refl }; sized = s }

  abbrev found : StateOf f → Bool
  found s = true

  module _ (work store : List ℕ) (cs : List (Call LentState)) (F : FromStart f work store cs) where
    abbrev x : LentState
    x = kept zeros work store

    start : Starts f (state_in f) store_bytes_in (Encoded f) x
    start = starts work store F.works F.stores

    from : Carried f M (down (f.medium.from_bytes store)) store
    from = carried_start f M store start.sized

    carried : Carried f M ((state_in f) x) store
    carried = subst⁻¹ (λ (s : StateOf f). Carried f M s store) start.at_start from

    as_chain : AsChain f M (state_in f) store_bytes_in (Encoded f) x cs (chain_from f found store (lents cs))
    unfolding chain_from
    as_chain = subst (λ (s : StateOf f). AsChain f M (state_in f) store_bytes_in (Encoded f) x cs (chain f found s store (lents cs))) start.at_start
        (calls_chain f M (state_in f) store_bytes_in (Encoded f) x cs F.calls start.written carried)

    pub called_well : CalledWell f work store cs
    unfolding Demand3CalledHolds OneCallAtATimeHolds
    called_well = record {
      never_25 = ap (mem 25) as_chain.same_results ∙ portions.never_25_start f M found (λ s S. refl) store (lents cs) start.sized;
      demand_3 = demand_3_called f M (state_in f) store_bytes_in (Encoded f) x cs start F.calls;
      one_at_a_time = λ work' ds F' again. one_call_at_a_time f M (state_in f) store_bytes_in (Encoded f) x cs start F.calls
          (kept zeros work' store) ds (starts work' store F'.works F'.stores) F'.calls refl again;
      reads = reads_called f M (state_in f) store_bytes_in (Encoded f) x cs start F.calls;
      crashes = commit_survives_called f M (state_in f) store_bytes_in (Encoded f) x cs start F.calls;
    }

    module _ (A : AllFit f (lents cs)) (one : Call LentState) (joined : one.lent.events ≡ all_events (lents cs)) (fits : Fits f one.lent)
        (P : Promise (kept zeros one.lent.work store) one) where
      abbrev x₁ : LentState
      x₁ = kept zeros one.lent.work store

      abbrev l : Lent
      l = record { events = all_events (lents cs); work = one.lent.work; answers = one.lent.answers }

      lent_is : one.lent ≡ l
      lent_is = λ i. record { events = joined i; work = one.lent.work; answers = one.lent.answers }

      fits₁ : Fits f l
      fits₁ = subst (Fits f) lent_is fits

      work_long : length one.lent.work ≡ work_bytes
      work_long = fits.slots ∙ slots

      start₁ : Starts f (state_in f) store_bytes_in (Encoded f) x₁
      start₁ = starts one.lent.work store work_long F.stores

      whole_run : AsWhole f found store (lents cs) one.lent.work one.lent.answers
      whole_run = cuts found (λ s S. refl) store (lents cs) one.lent.work one.lent.answers start.sized A fits₁

      passes : first x₁ one.lent ≡ none
      passes = fits_passes f store one.lent start.sized fits

      taken : P.0 ≡ true
      taken = (P.1.found passes).every_sound ((state_in f) x₁) (refl, start₁.written) (subst⁻¹ (Sound f) start₁.at_start from.reached.sound)

      one_state : (state_in f) one.after ≡ (portion f true (down (f.medium.from_bytes store)) store (all_events (lents cs)) one.lent.work one.lent.answers).state
      one_state =
          P.1.state ∙ ap (λ (b : Bool). (on x₁ one.lent b).state) taken
          ∙ ap (λ (s : StateOf f). (portion f true s store one.lent.events one.lent.work one.lent.answers).state) start₁.at_start
          ∙ ap (λ (e : List ℕ). (portion f true (down (f.medium.from_bytes store)) store e one.lent.work one.lent.answers).state) joined

      states : (state_in f) (left x cs) ≡ (state_in f) one.after
      states = as_chain.same_state ∙ whole_run.same_state ∙ sym one_state

      sound_left : Sound f ((state_in f) (left x cs))
      unfolding chain_from
      sound_left = subst⁻¹ (Sound f) as_chain.same_state (chain_whole f M found (down (f.medium.from_bytes store)) store (lents cs) from).carried.reached.sound

      pub cut : AsRun f work store cs one
      cut = record {
        played = ap all_zero as_chain.same_results ∙ whole_run.played;
        same_answers = as_chain.same_answers ∙ whole_run.same_answers;
        same_store = as_chain.same_store ∙ whole_run.same_store;
        same_engine = engine_one (left x cs) one.after (proper_left f M (state_in f) store_bytes_in (Encoded f) x cs F.calls start.written) (P.1.written start₁.written) sound_left states;
        same_state = states;
      }

  -- none is refused with 25, and over the joined list demand 3 holds, and all is as if one transaction came at a time
  pub calls_hold : CallsHold f
  unfolding CallsHold
  calls_hold work store cs F = called_well work store cs F

  -- CUTTING A LIST ANYWHERE
  pub cut_anywhere : CutAnywhere f
  unfolding CutAnywhere
  cut_anywhere work store cs F A one e fits P = cut work store cs F A one e fits P
