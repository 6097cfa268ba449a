-- A device follows the rules' run over the list that stands for what happened to it.
use mathlib.Core.Path.{◌≡◌, refl, sym, ap, ◌∙◌}
use mathlib.Core.Bool.{Bool, true, false, cond, ◌&&◌}
use mathlib.Core.List.{List, [], ◌∷◌}
use mathlib.Core.Option.{Option, none, some}
use Prim.Native.Nat.{ℕ, zero, suc, ◌≤◌, ◌<◌, ◌^◌}
use native.Mathlib.Omega.{arith}
use lib.ListN.{length, take}
use Rattle.laws.specs.Tests.{under}
use Rattle.laws.proofs.Tests.{Is, is_cases, yes', no', under-lt, lt-under, not-under}
use Rattle.laws.proofs.Booleans.{and_left, and_right}
use Rattle.rules.specs.Geometry.{Geometry, cut_count}
use Rattle.rules.specs.Store.{Pages}
use Rattle.rules.specs.Event.{Event, begin, lock, write, read, commit, abort, crash, recover, prepare, decide, query, decode, encode, fits}
use Rattle.rules.specs.State.{down}
use Rattle.rules.specs.Commit.{PageWrite, written}
use Rattle.rules.specs.Form.{atomic}
use Rattle.rules.specs.Step.{StateOf, first_of, finished, refusals, refusal, act, outcome_by, step}
use Rattle.rules.specs.Run.{play}
use Rattle.rules.proofs.Event.{decode_encode, decode_fits}
use Rattle.rules.proofs.Portions.{play-append}
use Rattle.claim_device.specs.Plan.{carried, lesser, count_of, with_count, plan_of, due_of}
use Rattle.claim_device.specs.Device.{Happening, plays, fails, loses, Device, restarted, happens, lives, cut_word, stands_for, list_of}
use Rattle.claim_device.proofs.Plan.{carried_none, plan_counts, step_store}

-- the first k of the first c
carried_within : (k c : ℕ) (ws : List PageWrite) (m : Pages) → k < c → carried k (take c ws) m ≡ carried k ws m
unfolding carried
carried_within zero c ws m h = refl
carried_within (suc k) zero ws m h = absurd (omega arith)
carried_within (suc k) (suc c) [] m h = refl
carried_within (suc k) (suc c) (w ∷ ws) m h = carried_within k c ws (written w m) (omega arith)

carried_beyond : (k c : ℕ) (ws : List PageWrite) (m : Pages) → c ≤ k → carried k (take c ws) m ≡ carried c ws m
unfolding carried
carried_beyond k zero ws m h = carried_none k m
carried_beyond zero (suc c) ws m h = absurd (omega arith)
carried_beyond (suc k) (suc c) [] m h = refl
carried_beyond (suc k) (suc c) (w ∷ ws) m h = carried_beyond k c ws (written w m) (omega arith)

pub carried-take : (k c : ℕ) (ws : List PageWrite) (m : Pages) → carried k (take c ws) m ≡ carried (lesser k c) ws m
unfolding lesser
carried-take k c ws m = go (is_cases (under k c))
  where
    go : Is (under k c) → carried k (take c ws) m ≡ carried (cond (under k c) k c) ws m
    go (yes' e) = rw e (carried_within k c ws m (under-lt k c e))
    go (no' e) = rw e (carried_beyond k c ws m (not-under k c e))

carried_whole : (c : ℕ) (ws : List PageWrite) (m : Pages) → carried (length (take c ws)) (take c ws) m ≡ carried c ws m
unfolding carried
carried_whole zero ws m = refl
carried_whole (suc c) [] m = refl
carried_whole (suc c) (w ∷ ws) m = carried_whole c ws (written w m)

lesser_right : (k c : ℕ) → lesser k c ≤ c
unfolding lesser
lesser_right k c = go (is_cases (under k c))
  where
    go : Is (under k c) → cond (under k c) k c ≤ c
    go (yes' e) = rw e (let h : k < c = under-lt k c e in omega arith)
    go (no' e) = rw e (omega arith)

lesser-zero : (k : ℕ) → lesser k 0 ≡ 0
lesser-zero k = let h : lesser k 0 ≤ 0 = lesser_right k 0 in omega arith

-- a lesser count fits a word as well
under_less : (n k b : ℕ) → n ≤ k → under k b ≡ true → under n b ≡ true
under_less n k b h e = let q : k < b = under-lt k b e in lt-under n b (omega arith)

count_less : (n k b : ℕ) (c : Bool) → n ≤ k → (c && under k b) ≡ true → (c && under n b) ≡ true
count_less n k b c h e = rw (and_left c (under k b) e) (under_less n k b h (and_right c (under k b) e))

count_first : (n k b : ℕ) (c d : Bool) → n ≤ k → (under k b && c && d) ≡ true → (under n b && c && d) ≡ true
count_first n k b c d h e =
    let first = and_left (under k b && c) d e in
    rw (under_less n k b h (and_left (under k b) c first), and_right (under k b) c first, and_right (under k b && c) d e)

count-within : (n k b : ℕ) (a c d : Bool) → n ≤ k → (a && under k b && c && d) ≡ true → (a && under n b && c && d) ≡ true
count-within n k b a c d h e =
    let two = and_left (a && under k b && c) d e in
    let one = and_left (a && under k b) c two in
    rw (count_less n k b a h one, and_right (a && under k b) c two, and_right (a && under k b && c) d e)

-- of a place among page writes that tells how the next is torn, too
cut_less : (b : Bool) (n k : ℕ) → n ≤ k → cut_count b n ≤ cut_count b k
cut_less false n k h = h
cut_less true n k h = omega arith

fits_less : (g : Geometry) (n : ℕ) (e : Event) → n ≤ count_of e → fits g e ≡ true → fits g (with_count n e) ≡ true
unfolding fits with_count count_of
fits_less g n (begin p) h q = q
fits_less g n (lock t r a) h q = q
fits_less g n (write t r o v) h q = q
fits_less g n (read t r o) h q = q
fits_less g n (commit t k) h q = count_less (cut_count g.tears n) (cut_count g.tears k) (2 ^ g.cut_bits) (under t 32) (cut_less g.tears n k h) q
fits_less g n (abort t w) h q = q
fits_less g n crash h q = q
fits_less g n (recover k) h q = under_less (cut_count g.tears n) (cut_count g.tears k) (2 ^ g.cut_bits) (cut_less g.tears n k h) q
fits_less g n (prepare t k i) h q = count-within n k (2 ^ g.cut_bits) (under t 32) (under i 256) g.joint h q
fits_less g n (decide d k i) h q = count_first n k (2 ^ g.cut_bits) (under i 256) g.joint h q
fits_less g n (query i) h q = q

count-lesser : (k : ℕ) (e : Event) → count_of (with_count (lesser k (count_of e)) e) ≡ lesser k (count_of e)
unfolding with_count count_of
count-lesser k (begin p) = sym (lesser-zero k)
count-lesser k (lock t r a) = sym (lesser-zero k)
count-lesser k (write t r o v) = sym (lesser-zero k)
count-lesser k (read t r o) = sym (lesser-zero k)
count-lesser k (commit t n) = refl
count-lesser k (abort t w) = sym (lesser-zero k)
count-lesser k crash = sym (lesser-zero k)
count-lesser k (recover n) = refl
count-lesser k (prepare t n i) = refl
count-lesser k (decide d n i) = refl
count-lesser k (query i) = sym (lesser-zero k)

module _ (g : Geometry) where
  -- the word of an event that is cut
  pub cut_decodes : (w k : ℕ) (e : Event) → decode g w ≡ some e → decode g (cut_word g w k (some e)) ≡ some (with_count (lesser k (count_of e)) e)
  unfolding cut_word
  cut_decodes w k e q = decode_encode g (with_count (lesser k (count_of e)) e) (fits_less g (lesser k (count_of e)) e (lesser_right k (count_of e)) (decode_fits g w e q))

  pub crash_decodes : decode g (encode g crash) ≡ some crash
  unfolding fits
  crash_decodes = decode_encode g crash refl

  crash_falls : (s : StateOf (atomic g)) → (step (atomic g) s (some crash)).state ≡ down s.store
  unfolding step outcome_by refusal refusals first_of act finished
  crash_falls s = refl

  crash_leaves : (s : StateOf (atomic g)) → (step (atomic g) s (decode g (encode g crash))).state ≡ down s.store
  crash_leaves s = rw crash_decodes (crash_falls s)

  -- an event that is played: all that is due is carried out
  pub played_store : (s : StateOf (atomic g)) (o : Option Event) → carried (length (due_of g s o)) (due_of g s o) s.store ≡ (step (atomic g) s o).state.store
  unfolding due_of step
  played_store s none = carried_none 0 s.store
  played_store s (some e) = carried_whole (count_of e) (plan_of false g s e) s.store ∙ sym (step_store g s e)

  bad_keeps : (s : StateOf (atomic g)) (w k : ℕ) → decode g w ≡ none → s.store ≡ (step (atomic g) s (decode g (cut_word g w k none))).state.store
  unfolding cut_word step
  bad_keeps s w k q = rw q

  -- an event that is cut: what is due up to the cut is carried out
  pub failed_store : (s : StateOf (atomic g)) (w k : ℕ) (o : Option Event) → decode g w ≡ o
      → carried k (due_of g s o) s.store ≡ (step (atomic g) s (decode g (cut_word g w k o))).state.store
  unfolding due_of
  failed_store s w k none q = carried_none k s.store ∙ bad_keeps s w k q
  failed_store s w k (some e) q =
      let n = lesser k (count_of e) in
      carried-take k (count_of e) (plan_of false g s e) s.store
      ∙ rw (cut_decodes w k e q, step_store g s (with_count n e), plan_counts false g s n e, count-lesser k e)

  -- the machine goes on as the rules say, and the medium is its store
  pub record Follows (d : Device g) (s : StateOf (atomic g)) : Type 0 where
    pub memory : d.memory ≡ s
    pub medium : d.medium ≡ d.memory.store

  happens_follows : (d : Device g) → d.medium ≡ d.memory.store → (h : Happening) → Follows (happens g d h) (play (atomic g) d.memory (stands_for g h)).state
  unfolding happens stands_for play restarted down
  happens_follows d a (plays w) = record { memory = refl; medium = rw a (played_store d.memory (decode g w)) }
  happens_follows d a (fails w k) = record {
    memory = ap down (ap (carried k (due_of g d.memory (decode g w))) a ∙ failed_store d.memory w k (decode g w) refl) ∙ sym (crash_leaves (step (atomic g) d.memory (decode g (cut_word g w k (decode g w)))).state);
    medium = refl;
  }
  happens_follows d a loses = record { memory = ap down a ∙ sym (crash_leaves d.memory); medium = refl }

  pub lives_follows : (d : Device g) → d.medium ≡ d.memory.store → (hs : List Happening) → Follows (lives g d hs) (play (atomic g) d.memory (list_of g hs)).state
  unfolding lives list_of play
  lives_follows d a [] = record { memory = refl; medium = a }
  lives_follows d a (h ∷ hs) =
      let F = happens_follows d a h in
      let G = lives_follows (happens g d h) F.medium hs in
      record {
        memory = G.memory ∙ ap (λ (s : StateOf (atomic g)). (play (atomic g) s (list_of g hs)).state) F.memory ∙ sym (play-append (atomic g) d.memory (stands_for g h) (list_of g hs)).state;
        medium = G.medium;
      }
