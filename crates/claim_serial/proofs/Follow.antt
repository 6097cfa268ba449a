-- The replay follows a lock, a write and a read of a surviving transaction.
use mathlib.Core.Path.{◌≡◌, refl, sym, ap, ap₂, ◌∙◌}
use mathlib.Core.Bool.{Bool, true, false, not, ◌&&◌, ◌||◌, true≢false, false≢true, or-true}
use mathlib.Core.List.{List, [], ◌∷◌, map}
use mathlib.Core.Logic.{◌≢◌}
use mathlib.Core.Option.{Option, none, some}
use Prim.Native.Nat.{ℕ, ◌<◌}
use native.Mathlib.Omega.{arith}
use lib.ListN.{length, get_or}
use Rattle.laws.specs.Tests.{same, under}
use Rattle.laws.proofs.Tests.{same_cases, Same, is, isnt, same-eq, same_refl, ne_false, Is, is_cases, yes', no', lt-under}
use Rattle.laws.proofs.Booleans.{or_cases, and_left, and_right, refute, clash}
use Rattle.laws.proofs.Counting.{all_true_lem, all_of, any_of}
use Rattle.rules.specs.Geometry.{records, transactions, nobody}
use Rattle.rules.specs.Store.{Page}
use Rattle.rules.specs.Event.{Access, lock, write, read, fits}
use Rattle.rules.specs.State.{Bearer, free, active, is_active, parent_in, line_of, mem, Mode, nothing, reading, writing, is_lock, live, holds, retains, holds_writing}
use Rattle.rules.specs.Locks.{bars, holders_allow, retainers_allow, grantable, granted}
use Rattle.rules.specs.Versions.{is_some, else, nearest, with_version}
use Rattle.rules.specs.Form.{Form}
use Rattle.rules.specs.Step.{done, number_of, value_of, first_of, StateOf, has_child, reserved, locked, wrote, finished, visible, refusals, refusal, act, step}
use Rattle.rules.specs.Sound.{Sound}
use Rattle.rules.proofs.Bearers.{parent_line}
use Rattle.rules.proofs.Grades.{barring}
use Rattle.rules.proofs.Medium.{MediumLaws}
use Rattle.rules.proofs.Acceptance.{LockOk, WriteOk, ReadOk}
use Rattle.rules.proofs.Locks.{rooted_of, member_live, own_line, no_child, no_version}
use Rattle.history.proofs.Table.{free_line}
use Rattle.history.proofs.Invariant.{now}
use Rattle.claim_serial.specs.OneAtATime.{renamed, naming, is_read}
use Rattle.claim_serial.proofs.Mirror.{map-mem, again, Mirror, Fits, fits_step, Open}

is_nothing : (m : Mode) → is_lock m ≡ false → m ≡ nothing
unfolding is_lock
is_nothing nothing e = refl
is_nothing reading e = absurd (true≢false e)
is_nothing writing e = absurd (true≢false e)

is_none : (o : Option Page) → is_some o ≡ false → o ≡ none
unfolding is_some
is_none none e = refl
is_none (some p) e = absurd (true≢false e)

-- the first of some tests in another one's place
first_of_three : (a a' b c : Bool) → a' ≡ true → (a && b && c) ≡ true → (a' && b && c) ≡ true
first_of_three true a' b c e h = rw e h
first_of_three false a' b c e h = absurd (false≢true h)

first_of_four : (a a' b c d : Bool) → a' ≡ true → (a && b && c && d) ≡ true → (a' && b && c && d) ≡ true
first_of_four true a' b c d e h = rw e h
first_of_four false a' b c d e h = absurd (false≢true h)

-- a number that isn't borne has nothing
module _ {f : Form} {s : StateOf f} (S : Sound f s) where
  pub off_held : (r a : ℕ) → live s a ≡ false → s.held r a ≡ nothing
  unfolding holds
  off_held r a e = is_nothing (s.held r a) (refute (is_lock (s.held r a)) (λ h. clash (S.holder_live r a h) e))

  pub off_retained : (r a : ℕ) → live s a ≡ false → s.retained r a ≡ nothing
  unfolding retains
  off_retained r a e = is_nothing (s.retained r a) (refute (is_lock (s.retained r a)) (λ h. clash (S.retainer_live r a h) e))

  pub off_version : (a r : ℕ) → live s a ≡ false → s.version a r ≡ none
  off_version a r e = is_none (s.version a r) (no_version S a r e)

  pub nobody_off : live s nobody ≡ false
  nobody_off = refute (live s nobody) (λ d. let k : nobody < transactions = S.numbered nobody d in omega arith)

module _ (f : Form) (L : MediumLaws f.geometry f.medium) {s : StateOf f} (S : Sound f s) {d : f.medium.Store} {sv : ℕ → Bool} {u : StateOf f} {name : ℕ → ℕ}
    (alive : (j : ℕ) → sv j ≡ true → live s j ≡ true) (O : Open f L u) (M : Mirror f d sv s u name) where
  pub on : (t : ℕ) → sv t ≡ true → live u (name t) ≡ true
  on t e = (M.there t e).0

  -- its number is one that a word can hold
  pub small : (t : ℕ) → sv t ≡ true → under (name t) 32 ≡ true
  small t e = let k : name t < transactions = O.reached.sound.numbered (name t) (on t e) in lt-under (name t) 32 (omega arith)

  pub same_back : (b t : ℕ) → live u b ≡ true → sv t ≡ true → same b (name t) ≡ same (M.back b) t
  same_back b t l e = go (same_cases b (name t))
    where
      go : Same b (name t) → same b (name t) ≡ same (M.back b) t
      go (is q k _) = rw (k, q, (M.there t e).1, same_refl t)
      go (isnt q k _) = rw (k, ne_false (M.back b) t (λ z. q (sym (M.here b l).1 ∙ ap name z)))

  pub line_back : (t : ℕ) → sv t ≡ true → map M.back (line_of u.bearer (name t)) ≡ line_of s.bearer t
  line_back t e = M.lines (name t) (on t e) ∙ ap (line_of s.bearer) (M.there t e).1

  -- who is on the line there is on the line here
  mem_back : (a t : ℕ) → live u a ≡ true → sv t ≡ true → mem (M.back a) (line_of s.bearer t) ≡ true → mem a (line_of u.bearer (name t)) ≡ true
  unfolding mem
  mem_back a t l k e = go (line_of u.bearer (name t)) (λ x m. member_live O.reached.sound (name t) x m) (rw (line_back t k) e)
    where
      go : (l' : List ℕ) → ((x : ℕ) → mem x l' ≡ true → live u x ≡ true) → mem (M.back a) (map M.back l') ≡ true → mem a l' ≡ true
      go [] h e = e
      go (x ∷ l') h e =
          or_cases (same (M.back a) (M.back x)) (mem (M.back a) (map M.back l')) e
          (λ q. rw (sym (M.here a l).1 ∙ ap name (same-eq _ _ q) ∙ (M.here x (h x (rw (same_refl x)))).1, same_refl x))
          (λ q. rw (go l' (λ y m. h y (rw m (or-true (same y x)))) q) (or-true (same a x)))

  -- a lock that is granted there is granted here
  module _ (t x : ℕ) (a : Access) (st : sv t ≡ true) (grants : grantable a s.held s.retained (line_of s.bearer t) t x ≡ true) where
    back_small : (b : ℕ) → live u b ≡ true → M.back b < transactions
    back_small b l = S.numbered (M.back b) (alive (M.back b) (M.here b l).0)

    holders : holders_allow a u.held (name t) x ≡ true
    unfolding grantable holders_allow
    holders = all_of transactions _ (λ b h. each b (is_cases (live u b)))
      where
        each : (b : ℕ) → Is (live u b) → (not (bars a (u.held x b)) || same b (name t)) ≡ true
        each b (no' e) = rw (off_held O.reached.sound x b e, (barring a).fails)
        each b (yes' l) =
            rw (M.held x b l, same_back b t l st)
            (all_true_lem transactions (λ j. not (bars a (s.held x j)) || same j t) (M.back b) (and_left (holders_allow a s.held t x) (retainers_allow a s.retained (line_of s.bearer t) x) grants) (back_small b l))

    retainers : retainers_allow a u.retained (line_of u.bearer (name t)) x ≡ true
    unfolding grantable retainers_allow
    retainers = all_of transactions _ (λ b h. each b (is_cases (live u b)) (is_cases (bars a (u.retained x b))))
      where
        each : (b : ℕ) → Is (live u b) → Is (bars a (u.retained x b)) → (not (bars a (u.retained x b)) || mem b (line_of u.bearer (name t))) ≡ true
        each b l (no' k) = rw k
        each b (no' e) (yes' k) = clash k (ap (bars a) (off_retained O.reached.sound x b e) ∙ (barring a).fails)
        each b (yes' l) (yes' k) =
            let above : (not (bars a (s.retained x (M.back b))) || mem (M.back b) (line_of s.bearer t)) ≡ true =
            all_true_lem transactions (λ j. not (bars a (s.retained x j)) || mem j (line_of s.bearer t)) (M.back b) (and_right (holders_allow a s.held t x) (retainers_allow a s.retained (line_of s.bearer t) x) grants) (back_small b l) in
            rw (mem_back b t l st (rw (M.retained a x b l k) at above)) (or-true (not (bars a (u.retained x b))))

    grant : grantable a u.held u.retained (line_of u.bearer (name t)) (name t) x ≡ true
    unfolding grantable
    grant = rw (holders, retainers)

  -- a transaction without live children has none in the replay
  module _ (x : ℕ) (sx : sv x ≡ true) (leaf : (z : ℕ) → z ≢ x → mem x (line_of s.bearer z) ≡ false) where
    pub leaf_here : (z : ℕ) → z ≢ name x → mem (name x) (line_of u.bearer z) ≡ false
    leaf_here z n = refute (mem (name x) (line_of u.bearer z)) (λ e. go (is_cases (live u z)) e)
      where
        go : Is (live u z) → mem (name x) (line_of u.bearer z) ≡ true → ⊥
        go (no' l) e = nowhere (line_of u.bearer z) (free_here z l) e
          where
            nowhere : (m : List ℕ) → m ≡ [] → mem (name x) m ≡ true → ⊥
            nowhere m q e = unfold mem in false≢true (rw q at e)

            free_here : (z : ℕ) → live u z ≡ false → line_of u.bearer z ≡ []
            free_here z l = unfold live in free_line u.bearer z l
        go (yes' l) e =
            let m : mem x (line_of s.bearer (M.back z)) ≡ true = rw ((M.there x sx).1, M.lines z l) at (map-mem M.back (name x) (line_of u.bearer z) e) in
            clash m (leaf (M.back z) (λ q. n (sym (M.here z l).1 ∙ ap name q)))

    pub childless : has_child u (name x) ≡ false
    unfolding has_child live is_active parent_in mem
    childless = any_of transactions _ (λ c h. refute (is_active (u.bearer c) && same (parent_in (u.bearer c)) (name x)) (λ e. go c (u.bearer c) refl e))
      where
        go : (c : ℕ) (b : Bearer) → u.bearer c ≡ b → (is_active b && same (parent_in b) (name x)) ≡ true → ⊥
        go c free q e = false≢true e
        go c (active p n) q e =
            let p_is : p ≡ name x = same-eq p (name x) e in
            let k = parent_line (rooted_of O.reached.sound) c (name x) n (q ∙ ap (λ z. active z n) p_is) in
            let m : mem (name x) (line_of u.bearer c) ≡ true = rw (k, own_line O.reached.sound (name x) (on x sx)) (or-true (same (name x) c)) in
            clash m (leaf_here c (λ z. absurd (omega (arith, ap length (rw z at k)))))

  pub follow_lock : (t x : ℕ) (a : Access) → sv t ≡ true → fits f.geometry (lock t x a) ≡ true → LockOk s t x a → is_some (f.medium.pending d x) ≡ false
      → Fits f d sv (locked s t x a) (lock t x a) (done 0) name (step f u (some (again f name (lock t x a))))
  unfolding renamed
  follow_lock t x a st fit ok unreserved = fits_step f u (lock t x a) (lock (name t) x a) open_u (follows)
    where
      unreserved_here : reserved f u x ≡ false
      unreserved_here = unfold reserved in rw M.store_is unreserved

      open_u : refusal f u (lock (name t) x a) ≡ none
      open_u = unfold refusal refusals first_of in rw (on t st, childless t st (no_child S t ok.childless), unreserved_here, grant t x a st ok.grant, O.ready)

      follows : Fits f d sv (locked s t x a) (lock t x a) (done 0) name (act f u (lock (name t) x a))
      follows = unfold act finished locked live granted renamed naming is_read number_of value_of fits in record {
        fit = rw (small t st) (and_right (under t 32) (under x (records f.geometry)) fit);
        right = (refl, λ e. absurd (false≢true e));
        still_up = O.ready;
        mirror = record {
          back = M.back;
          there = M.there;
          here = M.here;
          lines = M.lines;
          held = λ r b l. rw (M.held r b l, same_back b t l st);
          retained = M.retained;
          versions = M.versions;
          room = M.room;
          store_is = M.store_is;
        };
      }

  -- what is read
  view_back : (r : ℕ) (p : Page) (l : List ℕ) → ((x : ℕ) → mem x l ≡ true → live u x ≡ true) → nearest u.version p r l ≡ nearest s.version p r (map M.back l)
  unfolding nearest mem
  view_back r p [] h = refl
  view_back r p (x ∷ l) h = ap₂ else (M.versions x r (h x (rw (same_refl x)))) (view_back r p l (λ y m. h y (rw m (or-true (same y x)))))

  seen : (t x : ℕ) → sv t ≡ true → s.up ≡ true → f.medium.settled d x ≡ now f s x → visible f u (name t) x ≡ visible f s t x
  unfolding visible
  seen t x st ready base =
      view_back x (f.medium.home u.store x) (line_of u.bearer (name t)) (λ y m. member_live O.reached.sound (name t) y m)
      ∙ ap₂ (λ (p : Page) (l : List ℕ). nearest s.version p x l) home_is (line_back t st)
    where
      home_is : f.medium.home u.store x ≡ f.medium.home s.store x
      home_is = L.home_settled u.store x (O.reached.sound.calm O.ready) ∙ ap (λ (c : f.medium.Store). f.medium.settled c x) M.store_is ∙ base ∙ sym (L.home_settled s.store x (S.calm ready))

  pub follow_write : (t x o v : ℕ) → sv t ≡ true → fits f.geometry (write t x o v) ≡ true → f.medium.settled d x ≡ now f s x → WriteOk s t x
      → Fits f d sv (act f s (write t x o v)).state (write t x o v) (done 0) name (step f u (some (again f name (write t x o v))))
  unfolding renamed
  follow_write t x o v st fit base ok = fits_step f u (write t x o v) (write (name t) x o v) open_u follows
    where
      holding : holds_writing u x (name t) ≡ true
      holding = unfold holds_writing in rw (M.held x (name t) (on t st), (M.there t st).1) ok.writing

      open_u : refusal f u (write (name t) x o v) ≡ none
      open_u = unfold refusal refusals first_of in rw (on t st, childless t st (no_child S t ok.childless), holding, O.ready)

      follows : Fits f d sv (act f s (write t x o v)).state (write t x o v) (done 0) name (act f u (write (name t) x o v))
      follows = unfold act finished wrote live with_version renamed naming is_read number_of value_of fits in record {
        fit = first_of_four (under t 32) (under (name t) 32) _ _ _ (small t st) fit;
        right = (refl, λ e. absurd (false≢true e));
        still_up = O.ready;
        mirror = record {
          back = M.back;
          there = M.there;
          here = M.here;
          lines = M.lines;
          held = M.held;
          retained = M.retained;
          versions = λ b r l. rw (same_back b t l st, seen t x st ok.up base, M.versions b r l);
          room = M.room;
          store_is = M.store_is;
        };
      }

  pub follow_read : (t x o : ℕ) → sv t ≡ true → fits f.geometry (read t x o) ≡ true → f.medium.settled d x ≡ now f s x → ReadOk s t x
      → Fits f d sv s (read t x o) (done (get_or (visible f s t x) o 0)) name (step f u (some (again f name (read t x o))))
  unfolding renamed
  follow_read t x o st fit base ok = fits_step f u (read t x o) (read (name t) x o) open_u follows
    where
      holding : holds u x (name t) ≡ true
      holding = unfold holds in rw (M.held x (name t) (on t st), (M.there t st).1) ok.held

      open_u : refusal f u (read (name t) x o) ≡ none
      open_u = unfold refusal refusals first_of in rw (on t st, childless t st (no_child S t ok.childless), holding, O.ready)

      follows : Fits f d sv s (read t x o) (done (get_or (visible f s t x) o 0)) name (act f u (read (name t) x o))
      follows = unfold act finished renamed naming is_read number_of value_of fits in record {
        fit = first_of_three (under t 32) (under (name t) 32) _ _ (small t st) fit;
        right = (refl, λ e. ap (λ (p : Page). get_or p o 0) (seen t x st ok.up base));
        still_up = O.ready;
        mirror = M;
      }
