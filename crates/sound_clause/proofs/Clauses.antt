-- The tests of the code decide the clauses.
use mathlib.Core.Path.{◌≡◌, refl, sym, ap, ap₂, subst, ◌∙◌, fun_ext}
use mathlib.Core.Bool.{Bool, true, false, not, cond, ◌&&◌, ◌||◌, true≢false}
use mathlib.Core.List.{List}
use mathlib.Core.Option.{Option, none, some}
use native.Mathlib.Omega.{arith}
use Prim.Native.Nat.{ℕ, ◌+◌, ◌*◌, ◌-◌, ◌/◌, ◌%◌, ◌^◌, ◌<◌}
use lib.Dec.{ltb, leb}
use lib.Bits.{bit_or}
use lib.ListN.{get_or}
use Rattle.laws.specs.Tests.{same}
use Rattle.laws.specs.Counting.{all}
use Rattle.laws.specs.Bits.{bits}
use Rattle.laws.specs.Bytes.{same_list, number}
use Rattle.laws.proofs.Tests.{same_cases, Same, is, isnt, same_refl, ne_false}
use Rattle.laws.proofs.Booleans.{clash}
use Rattle.laws.proofs.Bits.{bits-zero, bits-or}
use Rattle.rules.specs.Geometry.{Geometry, records, page_size}
use Rattle.rules.specs.Store.{Page, named, behind_map, commit_page, read_commit, is_emptied, Prepared, prepared_page, read_prepared, identity_in, prepared_map}
use Rattle.rules.specs.Step.{is_busy}
use Rattle.rules.specs.Sound.{is_calm}
use Rattle.rules.specs.Editions.{medium_of, depths}
use Rattle.rules.proofs.Map.{named-zero}
use Rattle.rules.proofs.PreparedPage.{prepared_is}
use Rattle.leaf_set.specs.Sets.{sets}
use Rattle.state_array.specs.View.{any_mode}
use Rattle.state_array.specs.Kin.{lives_in}
use Rattle.leaf_commit_page.specs.Heard.{overheard}
use Rattle.store_write.specs.Phase.{store_of, shown_in}
use Rattle.state_whole.proofs.Reserves.{prepared_in}
use Rattle.sound_clause.specs.Decides.{Decides}
use Rattle.sound_clause.specs.Clauses.{FreeEntry, LiveEntry, TableEntry, Within, LockSound, Share, UnlockedOf, Unlocked, StatusSound}
use Rattle.sound_clause.proofs.Decides.{decides_as, decides_by, decides_self, decides_and, decides_or, decides_if, decides_unless, decides_same, decides_less, decides_most, decides_within}
use Rattle.sound_clause.proofs.Words.{decides_bits, no_bits}

pub vacant_decided : (parent line : List ℕ) (t : ℕ) → Decides (same (get_or parent t 0) 0 && same (get_or line t 0) 0) (FreeEntry parent line t)
unfolding sets
vacant_decided parent line t =
    decides_as (λ x. record { parentless = x.0; lineless = x.1 ∙ no_bits }) (λ v. (v.parentless, v.lineless ∙ sym no_bits))
    (decides_and (decides_same (get_or parent t 0) 0) (decides_bits (get_or line t 0) 0))

pub seated_decided : (parent depth line : List ℕ) (t d above own low due : ℕ) → d ≡ get_or depth t 0 → above ≡ get_or depth (get_or parent t 0) 0
    → own ≡ get_or line t 0 → low ≡ get_or line (get_or parent t 0) 0 → bits due ≡ (λ u. bits low u || same u t)
    → Decides ((((same (get_or parent t 0) 31 || ltb 0 above) && same d (above + 1)) && leb d depths) && same own due) (LiveEntry parent depth line t)
unfolding sets
seated_decided parent depth line t d above own low due e f g h k =
    rw (e, f, g)
    (decides_as
    (λ x. record { parented = x.0.0.0; level = let l = x.0.0.1 in omega arith; shallow = x.0.1; lined = x.1 ∙ due_is })
    (λ s. (((s.parented, (let l = s.level in omega arith)), s.shallow), s.lined ∙ sym due_is))
    (decides_and
    (decides_and
    (decides_and (decides_or (decides_same (get_or parent t 0) 31) (decides_less 0 (get_or depth (get_or parent t 0) 0))) (decides_same (get_or depth t 0) (get_or depth (get_or parent t 0) 0 + 1)))
    (decides_most (get_or depth t 0) depths))
    (decides_bits (get_or line t 0) due)))
  where
    due_is : bits due ≡ (λ u. bits (get_or line (get_or parent t 0) 0) u || same u t)
    due_is = k ∙ ap {B = ℕ → Bool} (λ (x u : ℕ). bits x u || same u t) h

pub entry_vacant : {b : Bool} (parent depth line : List ℕ) (t : ℕ) → get_or depth t 0 ≡ 0 → Decides b (FreeEntry parent line t) → Decides b (TableEntry parent depth line t)
entry_vacant parent depth line t e d = decides_as (λ v. record { vacant = λ z. v; seated = λ z. absurd (omega arith) }) (λ x. x.vacant e) d

pub entry_seated : {b : Bool} (parent depth line : List ℕ) (t : ℕ) → 0 < get_or depth t 0 → Decides b (LiveEntry parent depth line t) → Decides b (TableEntry parent depth line t)
entry_seated parent depth line t e d = decides_as (λ s. record { vacant = λ z. absurd (omega arith); seated = λ z. s }) (λ x. x.seated e) d

-- a word's set is within that of another, of which more is known
within_as : {b : Bool} (v w : ℕ) (s : ℕ → Bool) → bits w ≡ s → b ≡ all 24 (λ k. not (bits v k) || bits w k) → Decides b (Within (bits v) s)
within_as v w s e q = decides_within 24 (bits v) s (q ∙ ap (λ (f : ℕ → Bool). all 24 (λ k. not (bits v k) || f k)) e)

within_word : {b : Bool} (v w : ℕ) → b ≡ all 24 (λ k. not (bits v k) || bits w k) → Decides b (Within (bits v) (bits w))
within_word v w q = within_as v w (bits w) refl q

within_either : {b : Bool} (v w x : ℕ) → b ≡ all 24 (λ k. not (bits v k) || bits (bit_or w x) k) → Decides b (Within (bits v) (λ k. bits w k || bits x k))
within_either v w x q = within_as v (bit_or w x) (λ k. bits w k || bits x k) (fun_ext (bits-or w x)) q

-- the members of five sets joined bear transaction numbers
numbered_decided : {b : Bool} (v w x y z : ℕ) → Decides b ((u : ℕ) → bits (bit_or (bit_or (bit_or (bit_or v w) x) y) z) u ≡ true → u < 24)
    → Decides b ((u : ℕ) → ((((bits v u || bits w u) || bits x u) || bits y u) || bits z u) ≡ true → u < 24)
numbered_decided v w x y z d = decides_as (λ f u e. f u (joined u ∙ e)) (λ f u e. f u (sym (joined u) ∙ e)) d
  where
    joined : (u : ℕ) → bits (bit_or (bit_or (bit_or (bit_or v w) x) y) z) u ≡ ((((bits v u || bits w u) || bits x u) || bits y u) || bits z u)
    joined u =
        bits-or (bit_or (bit_or (bit_or v w) x) y) z u
        ∙ ap (λ (b : Bool). b || bits z u) (bits-or (bit_or (bit_or v w) x) y u
        ∙ ap (λ (b : Bool). b || bits y u) (bits-or (bit_or v w) x u ∙ ap (λ (b : Bool). b || bits x u) (bits-or v w u)))

pub lock_decided : (live held held_writing retained retained_writing writers : ℕ) {numbered holders retainers helds retaineds versions : Bool}
    → Decides numbered ((u : ℕ) → bits (bit_or (bit_or (bit_or (bit_or held held_writing) retained) retained_writing) writers) u ≡ true → u < 24)
    → holders ≡ all 24 (λ k. not (bits held k) || bits live k)
    → retainers ≡ all 24 (λ k. not (bits retained k) || bits live k)
    → helds ≡ all 24 (λ k. not (bits held_writing k) || bits held k)
    → retaineds ≡ all 24 (λ k. not (bits retained_writing k) || bits retained k)
    → versions ≡ all 24 (λ k. not (bits writers k) || bits (bit_or held_writing retained_writing) k)
    → Decides (((((numbered && holders) && retainers) && helds) && retaineds) && versions)
    (LockSound (bits live) (bits held) (bits held_writing) (bits retained) (bits retained_writing) (bits writers))
lock_decided live held held_writing retained retained_writing writers n a b c d e =
    decides_as
    (λ x. record {
      numbered = x.0.0.0.0.0;
      holders_live = x.0.0.0.0.1;
      retainers_live = x.0.0.0.1;
      held_nested = x.0.0.1;
      retained_nested = x.0.1;
      by_lock = x.1;
    })
    (λ l. (((((l.numbered, l.holders_live), l.retainers_live), l.held_nested), l.retained_nested), l.by_lock))
    (decides_and
    (decides_and
    (decides_and
    (decides_and
    (decides_and (numbered_decided held held_writing retained retained_writing writers n) (within_word held live a))
    (within_word retained live b))
    (within_word held_writing held c))
    (within_word retained_writing retained d))
    (within_either writers held_writing retained_writing e))

pub share_decided : (above beneath held held_writing retained retained_writing t one : ℕ) {holds writes retains below_writers alone below_all aligned : Bool}
    → holds ≡ bits held t → writes ≡ bits held_writing t → retains ≡ bits retained t → bits one ≡ (λ k. same k t)
    → below_writers ≡ all 24 (λ k. not (bits retained_writing k) || bits above k)
    → alone ≡ all 24 (λ k. not (bits held k) || bits one k)
    → below_all ≡ all 24 (λ k. not (bits retained k) || bits above k)
    → aligned ≡ all 24 (λ k. not (bits retained_writing k) || bits (bit_or above beneath) k)
    → Decides
    ((((not holds || below_writers) && (not writes || alone)) && (not writes || below_all)) && (not retains || aligned))
    (Share (bits above) (bits beneath) (bits held) (bits held_writing) (bits retained) (bits retained_writing) t)
share_decided above beneath held held_writing retained retained_writing t one e f g o a b c d =
    rw (e, f, g)
    (decides_as
    (λ x. record { holder_beneath = x.0.0.0; writer_alone = x.0.0.1; writer_beneath = x.0.1; on_one_line = x.1 })
    (λ s. (((s.holder_beneath, s.writer_alone), s.writer_beneath), s.on_one_line))
    (decides_and
    (decides_and
    (decides_and
    (decides_if (bits held t) (within_word retained_writing above a))
    (decides_if (bits held_writing t) (within_as held one (λ k. same k t) o b)))
    (decides_if (bits held_writing t) (within_word retained above c)))
    (decides_if (bits retained t) (within_either retained_writing above beneath d))))

-- the map of a prepared transaction
prepared_map_is : (q : Option Prepared) → (overheard q).map ≡ prepared_map q
unfolding overheard prepared_map
prepared_map_is none = refl
prepared_map_is (some p) = refl

emptied-map : (b : Bool) (m : ℕ) → is_emptied (cond b (some m) none) ≡ true → same m 0 ≡ true
unfolding is_emptied
emptied-map true m e = e
emptied-map false m e = clash e refl

mapless : (j z b : Bool) (p : Prepared) → z ≡ true → (overheard (cond (j && not z && b) (some p) none)).map ≡ 0
unfolding overheard
mapless true true b p e = refl
mapless false true b p e = refl
mapless j false b p e = clash e refl

-- an empty commit page has no prepared transaction: both are read of the same map
pub empty_none : (g : Geometry) (page : Page) → is_emptied (read_commit g page) ≡ true → (overheard (read_prepared g page)).map ≡ 0
unfolding read_commit read_prepared
empty_none g page e =
    let map = number page / 2 ^ behind_map g % 2 ^ records g in
    let p : Prepared = record { map = map; identity = number page / 2 ^ (8 * (page_size - 5)) % 256 } in
    mapless g.joint (same map 0) (same_list page (prepared_page g p)) p (emptied-map (same_list page (commit_page g map)) map e)

busy_is : (g : Geometry) (page : Page) → not (same (prepared_map (read_prepared g page)) 0) ≡ is_busy (identity_in (read_prepared g page))
unfolding prepared_map identity_in is_busy
busy_is g page = go (read_prepared g page) refl
  where
    go : (q : Option Prepared) → read_prepared g page ≡ q → not (same (prepared_map q) 0) ≡ is_busy (identity_in q)
    go none e = ap not (same_refl 0)
    go (some p) e = ap not (ne_false p.map 0 (prepared_is g page p e).1.some_record)

-- no map, no record
pub none_unlocked : (g : Geometry) (map : ℕ) (held retained : List ℕ) → map ≡ 0 → Decides true (Unlocked g map held retained)
none_unlocked g map held retained e = record { yes = λ z r h n. clash n (ap (λ (m : ℕ). named g m r) e ∙ named-zero g r); no = λ z f. true≢false z }

pub unlocked_decided : (g : Geometry) (map : ℕ) (held retained : List ℕ) (r : ℕ) {names : Bool} → names ≡ named g map r
    → Decides (not names || same (bit_or (get_or held (2 * r) 0) (get_or retained (2 * r) 0)) 0) (UnlockedOf g map held retained r)
unfolding sets any_mode
unlocked_decided g map held retained r e =
    rw e
    (decides_if (named g map r)
    (decides_as
    (λ q u. sym (joined u) ∙ ap (λ (f : ℕ → Bool). f u) q ∙ bits-zero u)
    (λ f. fun_ext (λ u. joined u ∙ f u ∙ sym (bits-zero u)))
    (decides_bits (bit_or (get_or held (2 * r) 0) (get_or retained (2 * r) 0)) 0)))
  where
    joined : (u : ℕ) → bits (bit_or (get_or held (2 * r) 0) (get_or retained (2 * r) 0)) u ≡ (any_mode (sets held) r u || any_mode (sets retained) r u)
    joined u = bits-or (get_or held (2 * r) 0) (get_or retained (2 * r) 0) u

-- nobody is live, by the set of the live transactions
pub idle_decided : {b : Bool} (live : ℕ) (depth : List ℕ) → bits live ≡ lives_in depth → b ≡ all 24 (λ k. not (bits live k) || bits 0 k)
    → Decides b ((t : ℕ) → t < 24 → get_or depth t 0 ≡ 0)
idle_decided live depth e q =
    decides_as
    (λ f t h. free t (f t h) (same_cases (get_or depth t 0) 0))
    (λ f t h l. clash l (at t ∙ ap (λ (n : ℕ). not (same n 0)) (f t h) ∙ ap not (same_refl 0)))
    (within_as live 0 (λ k. false) no_bits q)
  where
    at : (t : ℕ) → bits live t ≡ not (same (get_or depth t 0) 0)
    at t = ap (λ (f : ℕ → Bool). f t) e

    free : (t : ℕ) → (bits live t ≡ true → false ≡ true) → Same (get_or depth t 0) 0 → get_or depth t 0 ≡ 0
    free t f (is p s _) = p
    free t f (isnt p s _) = clash (f (at t ∙ ap not s)) refl

-- by whether the store is emptied, and by the map of what is prepared
module _ (tears : Bool) (g : Geometry) (up : ℕ) (depth held retained store : List ℕ) where
  abbrev lent : (medium_of tears g).Store
  lent = (medium_of tears g).from_bytes store

  abbrev page : Page
  page = shown_in tears (store_of tears store) 0

  pub phase_decided : (map : ℕ) {empty idle unlocked : Bool} → empty ≡ (medium_of tears g).emptied lent → map ≡ (overheard (read_prepared g page)).map
      → Decides idle ((t : ℕ) → t < 24 → get_or depth t 0 ≡ 0) → Decides unlocked (Unlocked g map held retained)
      → Decides
      (((leb up 1 && (same up 1 || idle)) && (not (same up 1) || (empty || not (same map 0)))) && unlocked)
      (StatusSound tears g up depth held retained store)
  unfolding is_calm
  phase_decided map {empty} e f i u =
      decides_as
      (λ x. record { flag = x.0.0.0; idle = x.0.0.1; calm = x.0.1; reserved = subst (λ (m : ℕ). Unlocked g m held retained) map_is x.1 })
      (λ q. (((q.flag, q.idle), q.calm), subst (λ (m : ℕ). Unlocked g m held retained) (sym map_is) q.reserved))
      (decides_and
      (decides_and
      (decides_and (decides_most up 1) (decides_unless (same up 1) i))
      (decides_if (same up 1) (decides_by calm_is (decides_self (is_calm (medium_of tears g) lent)))))
      u)
    where
      map_is : map ≡ prepared_map (read_prepared g page)
      map_is = f ∙ prepared_map_is (read_prepared g page)

      calm_is : (empty || not (same map 0)) ≡ ((medium_of tears g).emptied lent || is_busy ((medium_of tears g).prepared lent))
      calm_is = ap₂ ◌||◌ e (ap (λ (m : ℕ). not (same m 0)) map_is ∙ busy_is g page ∙ ap is_busy (sym (prepared_in tears g store)))
