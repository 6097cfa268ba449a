-- One event, of another kind than prepare, decide and query, over a store in which nothing is prepared.
use mathlib.Core.Path.{◌≡◌, refl, sym, ap, ◌∙◌}
use mathlib.Core.Bool.{Bool, true, false, not, cond, ◌&&◌, ◌||◌, true≢false, false≢true, and-false, and-true}
use mathlib.Core.List.{List, [], ◌∷◌}
use mathlib.Core.Option.{Option, none, some}
use Prim.Native.Nat.{ℕ, suc}
use Rattle.laws.specs.Tests.{same, under}
use Rattle.rules.specs.Geometry.{open_geometry}
use Rattle.rules.specs.Store.{Page, Pages, Prepared, read_commit, read_prepared, identity_in, is_prepared, is_damaged, damaged, open_store}
use Rattle.rules.specs.Event.{Event, Uses, Fields, begin, lock, write, read, commit, abort, crash, recover, prepare, decide, query, fields, limits, limit_of, offset_limit_of, well_formed, event_of, decode}
use Rattle.rules.specs.State.{State, line_of, live}
use Rattle.rules.specs.Locks.{grantable}
use Rattle.rules.specs.Versions.{is_some}
use Rattle.rules.specs.Commit.{commit_at, recover_at, open_commit}
use Rattle.rules.specs.Step.{is_busy, is_top, has_child, first_of, changes, busy, reserved, visible, refusals, refusal, commits_top, commits_child, commits, recovers, act, outcome_by, step}
use Rattle.rules.specs.Editions.{geometry1, edition1}
use Rattle.rules.proofs.Editions.{proper1}
use Rattle.rules.proofs.AtomicPages.{atomic_laws}
use Rattle.rules.proofs.Plain.{none-prepared, none-pending, plain_damaged}
use Rattle.audit_rules.specs.Audit.{is_two_phase}
use Rattle.audit_rules.proofs.Free.{is_plain, Free, none-reserved, not-busy}
use Rattle.audit_joint.specs.Without.{geometry_without, edition1_without}
use Rattle.audit_joint.proofs.PlainKinds.{uses_same}

-- the test of the fields, by what the kind uses
abbrev formed : Fields → Uses → Bool
formed f u =
    u.known &&
    (u.transaction || same f.transaction 0) &&
    (u.rec || same f.rec 0) &&
    (u.offset || same f.offset 0) &&
    (u.count || same f.count 0) &&
    (u.value || same f.value 0) &&
    same f.spare 0 &&
    under f.value (suc (limit_of geometry1 f.kind)) &&
    under f.offset (suc (offset_limit_of f.kind))

pub decode_same : (w : ℕ) → is_two_phase geometry1 w ≡ false → decode geometry_without w ≡ decode geometry1 w
unfolding decode fields well_formed is_two_phase event_of limits limit_of
decode_same w e = ap (λ (u : Uses). cond (formed (fields geometry1 w) u) (event_of geometry1 (fields geometry1 w)) none) (uses_same (fields geometry1 w).kind e)

-- the formats and the page writes don't ask for the switch
read_same : (page : Page) → read_commit geometry_without page ≡ read_commit geometry1 page
unfolding open_store open_geometry
read_same page = refl

commit_same : (s : Pages) (v : ℕ → Option Page) (k : ℕ) → commit_at geometry_without s v k ≡ commit_at geometry1 s v k
unfolding open_commit open_store open_geometry
commit_same s v k = refl

recover_same : (s : Pages) (k : ℕ) → recover_at geometry_without s k ≡ recover_at geometry1 s k
unfolding open_commit open_store open_geometry
recover_same s k = refl

free_read : (s : Pages) → identity_in (read_prepared geometry1 (s 0)) ≡ none → read_prepared geometry1 (s 0) ≡ none
unfolding identity_in is_busy
free_read s e = go (read_prepared geometry1 (s 0)) refl
  where
    go : (o : Option Prepared) → read_prepared geometry1 (s 0) ≡ o → read_prepared geometry1 (s 0) ≡ none
    go none q = q
    go (some p) q = absurd (true≢false (ap is_busy (sym (ap identity_in q) ∙ e)))

damaged_same : (s : Pages) → identity_in (read_prepared geometry1 (s 0)) ≡ none → damaged geometry_without s ≡ damaged geometry1 s
unfolding damaged is_prepared
damaged_same s e = plain_damaged geometry_without refl s ∙ ap is_damaged (read_same (s 0)) ∙ sym (rw (free_read s e) (and-true (is_damaged (read_commit geometry1 (s 0)))))

module _ (s : State Pages) (F : Free edition1 s) where
  reserved_same : (r : ℕ) → reserved edition1_without s r ≡ reserved edition1 s r
  unfolding reserved is_some
  reserved_same r = ap is_some (none-pending geometry_without refl s.store r) ∙ sym (none-reserved edition1 (atomic_laws geometry1 proper1) s F r)

  never_busy : (b : Bool) → (b && busy edition1_without s) ≡ false
  unfolding busy is_busy identity_in
  never_busy b = rw (none-prepared geometry_without refl (s.store 0)) (and-false b)

  refusal_same : (e : Event) → is_plain (some e) ≡ true → refusal edition1_without s e ≡ refusal edition1 s e
  unfolding refusal refusals
  refusal_same (begin p) z = refl
  refusal_same (lock t r a) z =
      ap (λ (b : Bool). first_of ((2, not s.up) ∷ (5, not (live s t)) ∷ (14, has_child s t) ∷ (8, b || not (grantable a s.held s.retained (line_of s.bearer t) t r)) ∷ [])) (reserved_same r)
  refusal_same (write t r o v) z = refl
  refusal_same (read t r o) z = refl
  refusal_same (commit t k) z =
      ap (λ (b : Bool). first_of ((2, not s.up) ∷ (5, not (live s t)) ∷ (10, has_child s t) ∷ (13, is_top (line_of s.bearer t) && b) ∷ []))
      (never_busy (changes edition1_without s t) ∙ sym (not-busy edition1 (atomic_laws geometry1 proper1) s F (changes edition1 s t)))
  refusal_same (abort t w) z = refl
  refusal_same crash z = refl
  refusal_same (recover k) z = ap (λ (b : Bool). first_of ((3, s.up) ∷ (4, b) ∷ [])) (damaged_same s.store F)
  refusal_same (prepare t k i) z = absurd (false≢true z)
  refusal_same (decide d k i) z = absurd (false≢true z)
  refusal_same (query i) z = absurd (false≢true z)

  commits_same : (t k : ℕ) (l : List ℕ) → commits edition1_without s t k l ≡ commits edition1 s t k l
  unfolding commits commits_top commits_child
  commits_same t k [] = ap (commits_top edition1 s t) (commit_same s.store (s.version t) k)
  commits_same t k (a ∷ []) = ap (commits_top edition1 s t) (commit_same s.store (s.version t) k)
  commits_same t k (a ∷ y ∷ l) = refl

  act_same : (e : Event) → is_plain (some e) ≡ true → act edition1_without s e ≡ act edition1 s e
  unfolding act visible recovers open_geometry open_store
  act_same (begin p) z = refl
  act_same (lock t r a) z = refl
  act_same (write t r o v) z = refl
  act_same (read t r o) z = refl
  act_same (commit t k) z = commits_same t k (line_of s.bearer t)
  act_same (abort t w) z = refl
  act_same crash z = refl
  act_same (recover k) z = ap (recovers edition1 s) (recover_same s.store k)
  act_same (prepare t k i) z = absurd (false≢true z)
  act_same (decide d k i) z = absurd (false≢true z)
  act_same (query i) z = absurd (false≢true z)

  pub step_same : (e : Option Event) → is_plain e ≡ true → step edition1_without s e ≡ step edition1 s e
  unfolding step outcome_by
  step_same none z = refl
  step_same (some e) z = ap (outcome_by edition1_without s e) (refusal_same e z) ∙ go (refusal edition1 s e)
    where
      go : (o : Option ℕ) → outcome_by edition1_without s e o ≡ outcome_by edition1 s e o
      go none = act_same e z
      go (some n) = refl
