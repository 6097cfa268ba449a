-- The replay follows a begin of a surviving transaction: it finds a free number, since no more transactions live there than in the run.
use mathlib.Core.Path.{◌≡◌, refl, sym, ap, ◌∙◌}
use mathlib.Core.Bool.{Bool, true, false, cond, ◌||◌, false≢true, or-true}
use mathlib.Core.List.{◌∷◌, map}
use mathlib.Core.Logic.{◌≢◌, ◌⊎◌, inl, inr}
use mathlib.Core.Option.{none, some}
use Prim.Native.Nat.{ℕ, suc, ◌<◌}
use native.Mathlib.Omega.{arith}
use lib.ListN.{length}
use Rattle.laws.specs.Tests.{same, under}
use Rattle.laws.specs.Counting.{all, count}
use Rattle.laws.specs.Functions.{updated}
use Rattle.laws.proofs.Tests.{same_cases, Same, is, isnt, same_refl, ne_false, lt-under}
use Rattle.laws.proofs.Booleans.{refute, clash}
use Rattle.laws.proofs.Counting.{lowest_fails}
use Rattle.laws.proofs.Counts.{count_less, count_add, count_room, all_room}
use Rattle.rules.specs.Geometry.{transactions, nobody}
use Rattle.rules.specs.Event.{Access, begin, fits}
use Rattle.rules.specs.State.{is_active, depth_in, line_of, State, live}
use Rattle.rules.specs.Locks.{bars}
use Rattle.rules.specs.Form.{Form}
use Rattle.rules.specs.Step.{done, number_of, value_of, first_of, StateOf, first_free, begun, finished, refusals, refusal, act, step}
use Rattle.rules.specs.Sound.{Sound}
use Rattle.rules.proofs.Bearers.{begun_line, line_length}
use Rattle.rules.proofs.Grades.{barring}
use Rattle.rules.proofs.Medium.{MediumLaws}
use Rattle.rules.proofs.Locks.{rooted_of, member_live}
use Rattle.history.proofs.Table.{free_line}
use Rattle.claim_serial.specs.OneAtATime.{renamed, naming, is_read}
use Rattle.claim_serial.proofs.Mirror.{map_same, map-length, again, Mirror, Fits, fits_step, Open}
use Rattle.claim_serial.proofs.Follow.{off_held, off_retained, off_version, nobody_off, on, small, line_back}

-- who lives after a begin
pub live_begun : {S : Type 0} (s : State S) (t p j : ℕ) → live (begun s t p) j ≡ cond (same j t) true (live s j)
unfolding live begun updated is_active
live_begun s t p j = go (same_cases j t)
  where
    go : Same j t → live (begun s t p) j ≡ cond (same j t) true (live s j)
    go (is q k _) = rw k
    go (isnt q k _) = rw k

module _ (f : Form) (L : MediumLaws f.geometry f.medium) {s : StateOf f} (S : Sound f s) {d : f.medium.Store} {sv : ℕ → Bool} {u : StateOf f} {name : ℕ → ℕ}
    (alive : (j : ℕ) → sv j ≡ true → live s j ≡ true) (O : Open f L u) (M : Mirror f d sv s u name)
    (p t : ℕ) (sv' : ℕ → Bool) (off : live s t ≡ false) (low : t < transactions) (shallow : depth_in (s.bearer p) ≢ f.geometry.depth_limit)
    (parent : (p ≡ nobody) ⊎ (sv p ≡ true)) (new : sv' t ≡ true) (old : (j : ℕ) → j ≢ t → sv' j ≡ sv j) where
  -- the parent's number, and the number that is given
  abbrev p' : ℕ
  p' = cond (same p nobody) p (name p)

  abbrev a : ℕ
  a = first_free u

  abbrev back' : ℕ → ℕ
  back' b = cond (same b a) t (M.back b)

  somebody : sv p ≡ true → same p nobody ≡ false
  somebody q = ne_false p nobody (λ z. clash (alive p q) (rw z (nobody_off S)))

  above_line : map M.back (line_of u.bearer p') ≡ line_of s.bearer p
  unfolding live
  above_line = go parent
    where
      go : (p ≡ nobody) ⊎ (sv p ≡ true) → map M.back (line_of u.bearer p') ≡ line_of s.bearer p
      go (inl q) = rw (q, same_refl nobody, free_line u.bearer nobody (nobody_off O.reached.sound), free_line s.bearer nobody (nobody_off S))
      go (inr q) = rw (somebody q) (line_back f L S alive O M p q)

  above_on : (same p' nobody || live u p') ≡ true
  above_on = go parent
    where
      go : (p ≡ nobody) ⊎ (sv p ≡ true) → (same p' nobody || live u p') ≡ true
      go (inl q) = rw (q, same_refl nobody, same_refl nobody)
      go (inr q) = rw (somebody q, on f L S alive O M p q) (or-true (same (name p) nobody))

  above_small : under p' 32 ≡ true
  above_small = go parent
    where
      go : (p ≡ nobody) ⊎ (sv p ≡ true) → under p' 32 ≡ true
      go (inl q) = rw (q, same_refl nobody) (lt-under nobody 32 (omega arith))
      go (inr q) = rw (somebody q) (small f L S alive O M p q)

  room_left : all transactions (live u) ≡ false
  room_left =
      let k = count_less transactions sv (live s) alive in
      let l = count_room transactions (live s) t low off in
      let m = M.room in
      all_room transactions (live u) (omega (arith, k, l, m))

  found : (live u a ≡ false) × (a < transactions)
  unfolding first_free
  found = lowest_fails transactions (live u) room_left

  depth_is : depth_in (u.bearer p') ≡ depth_in (s.bearer p)
  depth_is = sym (line_length u.bearer p') ∙ sym (map-length M.back (line_of u.bearer p')) ∙ ap length above_line ∙ line_length s.bearer p

  open_u : refusal f u (begin p') ≡ none
  unfolding refusal refusals first_of
  open_u = rw (above_on, depth_is, ne_false (depth_in (s.bearer p)) f.geometry.depth_limit shallow, room_left, O.ready)

  not_yet : sv t ≡ false
  not_yet = refute (sv t) (λ e. clash (alive t e) off)

  not_a : (b : ℕ) → live u b ≡ true → same b a ≡ false
  not_a b l = ne_false b a (λ q. clash l (ap (live u) q ∙ found.0))

  not_t : (b : ℕ) → live u b ≡ true → M.back b ≢ t
  not_t b l q = clash (M.here b l).0 (ap sv q ∙ not_yet)

  map_old : (b : ℕ) → map back' (line_of u.bearer b) ≡ map M.back (line_of u.bearer b)
  map_old b = map_same M.back back' (line_of u.bearer b) (λ x m. rw (not_a x (member_live O.reached.sound b x m)))

  -- who lives after the begin lived before, or is the new one
  was : (b : ℕ) → live (begun u a p') b ≡ true → same b a ≡ false → live u b ≡ true
  was b l k = rw (live_begun u a p' b, k) at l

  begin_lines : (b : ℕ) → live (begun u a p') b ≡ true → Same b a → map back' (line_of (begun u a p').bearer b) ≡ line_of (begun s t p).bearer (back' b)
  unfolding begun live
  begin_lines b l (is q k _) =
      rw (begun_line (rooted_of O.reached.sound) a p' found.0 b, k, begun_line (rooted_of S) t p off t, same_refl t, same_refl a) (ap (t ∷◌) (map_old p' ∙ above_line))
  begin_lines b l (isnt q k _) =
      let l' = was b l k in
      rw (begun_line (rooted_of O.reached.sound) a p' found.0 b, k, begun_line (rooted_of S) t p off (M.back b), ne_false (M.back b) t (not_t b l')) (map_old b ∙ M.lines b l')

  begin_there : (j : ℕ) → sv' j ≡ true → Same j t → (live (begun u a p') (cond (same j t) a (name j)) ≡ true) × (back' (cond (same j t) a (name j)) ≡ j)
  begin_there j e (is q k _) = rw (k, live_begun u a p' a, same_refl a) (refl, sym q)
  begin_there j e (isnt q k _) =
      let e' : sv j ≡ true = sym (old j q) ∙ e in
      rw (k, live_begun u a p' (name j), not_a (name j) (on f L S alive O M j e')) (M.there j e')

  begin_here : (b : ℕ) → live (begun u a p') b ≡ true → Same b a → (sv' (back' b) ≡ true) × (cond (same (back' b) t) a (name (back' b)) ≡ b)
  begin_here b l (is q k _) = rw (k, same_refl t) (new, sym q)
  begin_here b l (isnt q k _) =
      let l' = was b l k in
      rw (k, ne_false (M.back b) t (not_t b l')) (old (M.back b) (not_t b l') ∙ (M.here b l').0, (M.here b l').1)

  -- what b has in u, its counterpart has in s
  begin_field : {A : Type 0} (h k : ℕ → A) → h a ≡ k t → ((b : ℕ) → live u b ≡ true → h b ≡ k (M.back b)) → (b : ℕ) → live (begun u a p') b ≡ true → Same b a → h b ≡ k (back' b)
  begin_field h k z e b l (is q n _) = rw n (ap h q ∙ z)
  begin_field h k z e b l (isnt q n _) = rw n (e b (was b l n))

  begin_retained : (c : Access) (r b : ℕ) → live (begun u a p') b ≡ true → Same b a → bars c (u.retained r b) ≡ true → bars c (s.retained r (back' b)) ≡ true
  begin_retained c r b l (is q n _) e = clash e (ap (λ (j : ℕ). bars c (u.retained r j)) q ∙ ap (bars c) (off_retained O.reached.sound r a found.0) ∙ (barring c).fails)
  begin_retained c r b l (isnt q n _) e = rw n (M.retained c r b (was b l n) e)

  begin_room : count transactions (live (begun u a p')) ≡ count transactions sv'
  begin_room =
      count_add transactions (live u) (live (begun u a p')) a found.1 found.0 (live_begun u a p' a ∙ rw (same_refl a)) (λ j n. live_begun u a p' j ∙ rw (ne_false j a n))
      ∙ ap suc M.room ∙ sym (count_add transactions sv sv' t low not_yet new old)

  begin_mirror : Mirror f d sv' (begun s t p) (begun u a p') (λ j. cond (same j t) a (name j))
  begin_mirror = record {
    back = back';
    there = λ j e. begin_there j e (same_cases j t);
    here = λ b l. begin_here b l (same_cases b a);
    lines = λ b l. begin_lines b l (same_cases b a);
    held = λ r b l. unfold begun in begin_field (u.held r) (s.held r) (off_held O.reached.sound r a found.0 ∙ sym (off_held S r t off)) (M.held r) b l (same_cases b a);
    retained = λ c r b l. unfold begun in begin_retained c r b l (same_cases b a);
    versions = λ b r l. unfold begun in begin_field (λ j. u.version j r) (λ j. s.version j r) (off_version O.reached.sound a r found.0 ∙ sym (off_version S t r off)) (λ j. M.versions j r) b l (same_cases b a);
    room = begin_room;
    store_is = unfold begun in M.store_is;
  }

  begin_fits : Fits f d sv' (begun s t p) (begin p) (done t) name (act f u (begin p'))
  begin_fits = unfold act finished begun renamed naming is_read number_of value_of fits in record {
    fit = above_small;
    right = (refl, λ e. absurd (false≢true e));
    still_up = O.ready;
    mirror = begin_mirror;
  }

  pub follow_begin : Fits f d sv' (begun s t p) (begin p) (done t) name (step f u (some (again f name (begin p))))
  unfolding renamed
  follow_begin = fits_step f u (begin p) (begin p') open_u begin_fits
