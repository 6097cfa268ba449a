-- What the proofs about whole runs know of the stable store: laws of a medium's operations, and no more.
use mathlib.Core.Path.{◌≡◌}
use mathlib.Core.Bool.{Bool, true, false, cond, ◌||◌}
use mathlib.Core.List.{List}
use mathlib.Core.Option.{Option, none, some}
use Prim.Native.Nat.{ℕ, ◌<◌}
use lib.ListN.{length}
use Rattle.laws.specs.Tests.{same, under}
use Rattle.laws.specs.Counting.{any, count}
use Rattle.rules.specs.Geometry.{Geometry, records, page_size, uncut}
use Rattle.rules.specs.Store.{Page}
use Rattle.rules.specs.Versions.{is_some, else}
use Rattle.rules.specs.Form.{Medium}
use Rattle.rules.specs.Sound.{is_calm}

-- how many records these versions change
unfoldable pub changed_in : Geometry → (ℕ → Option Page) → ℕ
changed_in g v = count (records g) (λ r. is_some (v r))

-- n records are changed and some page writes made: the commit record is written (or there is nothing to write)
unfoldable pub stored : ℕ → ℕ → Bool
stored n made = same n 0 || under n made

-- versions only of the records that there are; versions that are pages
abbrev pub Ranged : Geometry → (ℕ → Option Page) → Type 0
Ranged g v = (r : ℕ) → is_some (v r) ≡ true → r < records g

abbrev pub Paged : (ℕ → Option Page) → Type 0
Paged v = (r : ℕ) (p : Page) → v r ≡ some p → length p ≡ page_size

-- versions that may be written: they change nothing, or the commit page is empty
unfoldable pub is_clear : Geometry → (m : Medium) → m.Store → (ℕ → Option Page) → Bool
is_clear g m s v = m.emptied s || same (changed_in g v) 0

-- what is prepared in the second store is prepared in the first
pub record Unmoved (m : Medium) (c s : m.Store) : Type 0 where
  pub same_identity : m.prepared c ≡ m.prepared s
  pub same_pending : (r : ℕ) → m.pending c r ≡ m.pending s r

pub record MediumLaws (g : Geometry) (m : Medium) : Type 1 where
  -- a store that bytes can spell: all its pages have their size
  pub Shaped : m.Store → Type 0
  pub shaped_from : (bs : List ℕ) → length bs ≡ m.size → Shaped (m.from_bytes bs)
  pub from_to : (s : m.Store) → Shaped s → m.from_bytes (m.to_bytes s) ≡ s
  pub to_from : (bs : List ℕ) → length bs ≡ m.size → m.to_bytes (m.from_bytes bs) ≡ bs
  pub shaped_home : (s : m.Store) (r : ℕ) → Shaped s → r < records g → length (m.home s r) ≡ page_size
  pub home_settled : (s : m.Store) (r : ℕ) → is_calm m s ≡ true → m.home s r ≡ m.settled s r
  -- where the commit page is empty none is prepared, and where none is nothing is pending
  pub emptied_free : (s : m.Store) → m.emptied s ≡ true → m.prepared s ≡ none
  pub free_pending : (s : m.Store) (r : ℕ) → m.prepared s ≡ none → m.pending s r ≡ none
  pub pending_ranged : (s : m.Store) → Ranged g (m.pending s)
  -- a commit: settled where the commit record is written, no change of the settled records where it isn't; what is prepared stays
  pub commit_kept : (s : m.Store) (v : ℕ → Option Page) (k r : ℕ) → is_clear g m s v ≡ true → Ranged g v
      → stored (changed_in g v) (m.commit s v k).made ≡ true → m.settled (m.commit s v k).store r ≡ else (v r) (m.settled s r)
  pub commit_lost : (s : m.Store) (v : ℕ → Option Page) (k r : ℕ) → is_clear g m s v ≡ true
      → stored (changed_in g v) (m.commit s v k).made ≡ false → m.settled (m.commit s v k).store r ≡ m.settled s r
  pub commit_whole : (s : m.Store) (v : ℕ → Option Page) (k : ℕ) → is_calm m s ≡ true → is_clear g m s v ≡ true → (m.commit s v k).crashed ≡ false
      → (is_calm m (m.commit s v k).store ≡ true) × (stored (changed_in g v) (m.commit s v k).made ≡ true)
  pub commit_cut : (s : m.Store) (v : ℕ → Option Page) (k : ℕ) → (m.commit s v k).crashed ≡ true → 0 < changed_in g v
  pub commit_unmoved : (s : m.Store) (v : ℕ → Option Page) (k : ℕ) → is_clear g m s v ≡ true → Unmoved m (m.commit s v k).store s
  pub commit_shaped : (s : m.Store) (v : ℕ → Option Page) (k : ℕ) → Shaped s → Paged v → Shaped (m.commit s v k).store
  -- a recovery: no change of the settled records and of what is prepared wherever it is cut
  pub recover_settled : (s : m.Store) (k r : ℕ) → m.settled (m.recover s k).store r ≡ m.settled s r
  pub recover_whole : (s : m.Store) (k : ℕ) → m.damaged s ≡ false → (m.recover s k).crashed ≡ false → is_calm m (m.recover s k).store ≡ true
  pub recover_unmoved : (s : m.Store) (k : ℕ) → Unmoved m (m.recover s k).store s
  pub recover_shaped : (s : m.Store) (k : ℕ) → Shaped s → Shaped (m.recover s k).store
  -- a prepare: no change of the settled records; where something is changed and it isn't cut, it is what is prepared then
  pub prepare_settled : (s : m.Store) (v : ℕ → Option Page) (i k r : ℕ) → is_clear g m s v ≡ true → g.joint ≡ true → i < 256 → m.settled (m.prepare s v i k).store r ≡ m.settled s r
  pub prepare_calm : (s : m.Store) (v : ℕ → Option Page) (i k : ℕ) → is_calm m s ≡ true → g.joint ≡ true → i < 256 → (m.prepare s v i k).crashed ≡ false
      → is_calm m (m.prepare s v i k).store ≡ true
  pub prepare_taken : (s : m.Store) (v : ℕ → Option Page) (i k : ℕ) → Ranged g v → g.joint ≡ true → i < 256 → 0 < changed_in g v → (m.prepare s v i k).crashed ≡ false
      → (m.prepared (m.prepare s v i k).store ≡ some i) × ((r : ℕ) → m.pending (m.prepare s v i k).store r ≡ v r) × (0 < (m.prepare s v i k).made)
  pub prepare_none : (s : m.Store) (v : ℕ → Option Page) (i k : ℕ) → changed_in g v ≡ 0
      → ((m.prepare s v i k).store ≡ s) × ((m.prepare s v i k).made ≡ 0) × ((m.prepare s v i k).crashed ≡ false)
  pub prepare_cut : (s : m.Store) (v : ℕ → Option Page) (i k : ℕ) → is_clear g m s v ≡ true → (m.prepare s v i k).crashed ≡ true → Unmoved m (m.prepare s v i k).store s
  pub prepare_shaped : (s : m.Store) (v : ℕ → Option Page) (i k : ℕ) → Shaped s → Paged v → Shaped (m.prepare s v i k).store
  -- a decision on what is prepared: its first page write ends that, and settles it or not; it isn't whole without
  pub decide_first : (s : m.Store) (d : Bool) (k i : ℕ) → m.prepared s ≡ some i → (m.decide s d k).made ≡ 0 → (m.decide s d k).store ≡ s
  pub decide_ended : (s : m.Store) (d : Bool) (k i : ℕ) → m.prepared s ≡ some i → 0 < (m.decide s d k).made → m.prepared (m.decide s d k).store ≡ none
  pub decide_settled : (s : m.Store) (d : Bool) (k i r : ℕ) → m.prepared s ≡ some i → 0 < (m.decide s d k).made
      → m.settled (m.decide s d k).store r ≡ cond d (else (m.pending s r) (m.settled s r)) (m.settled s r)
  pub decide_whole : (s : m.Store) (d : Bool) (k i : ℕ) → m.prepared s ≡ some i → (m.decide s d k).crashed ≡ false
      → (m.emptied (m.decide s d k).store ≡ true) × (0 < (m.decide s d k).made)
  pub decide_shaped : (s : m.Store) (d : Bool) (k : ℕ) → Shaped s → Shaped (m.decide s d k).store
  -- what is prepared changed some record
  pub prepared-some : (s : m.Store) (i : ℕ) → m.prepared s ≡ some i → any (records g) (λ r. is_some (m.pending s r)) ≡ true
  -- where a transaction can be prepared no page tears
  pub joint_untorn : g.joint ≡ true → g.tears ≡ false
  -- with the greatest count that a word can hold, no page writes are cut
  pub commit_uncut : (s : m.Store) (v : ℕ → Option Page) → (m.commit s v (uncut g)).crashed ≡ false
  pub recover_uncut : (s : m.Store) → (m.recover s (uncut g)).crashed ≡ false
  pub prepare_uncut : (s : m.Store) (v : ℕ → Option Page) (i : ℕ) → (m.prepare s v i (uncut g)).crashed ≡ false
  pub decide_uncut : (s : m.Store) (d : Bool) (i : ℕ) → m.prepared s ≡ some i → (m.decide s d (uncut g)).crashed ≡ false
  -- Two stores with the same settled records and the same commit page. (They need not both be emptied: of pairs that show the same, those of one store may be
  -- good and alike where those of the other aren't.)
  pub Agree : m.Store → m.Store → Type 0
  pub agree_refl : (s : m.Store) → Agree s s
  pub agree_settled : (s c : m.Store) → Agree s c → (r : ℕ) → m.settled c r ≡ m.settled s r
  pub agree_damaged : (s c : m.Store) → Agree s c → m.damaged c ≡ m.damaged s
  pub agree_prepared : (s c : m.Store) → Agree s c → m.prepared c ≡ m.prepared s
  pub agree_pending : (s c : m.Store) → Agree s c → (r : ℕ) → is_some (m.pending c r) ≡ is_some (m.pending s r)
  pub agree_commit : (s c : m.Store) (v w : ℕ → Option Page) (k : ℕ) → is_clear g m s v ≡ true → is_clear g m c w ≡ true → Ranged g v → Agree s c
      → ((r : ℕ) → is_some (w r) ≡ is_some (v r)) → (stored (changed_in g v) (m.commit s v k).made ≡ true → (r : ℕ) → w r ≡ v r)
      → Agree (m.commit s v k).store (m.commit c w k).store × ((m.commit c w k).made ≡ (m.commit s v k).made) × ((m.commit c w k).crashed ≡ (m.commit s v k).crashed)
  pub agree_recover : (s c : m.Store) (k : ℕ) → Agree s c
      → Agree (m.recover s k).store (m.recover c k).store × ((m.recover c k).made ≡ (m.recover s k).made) × ((m.recover c k).crashed ≡ (m.recover s k).crashed)
  pub agree_prepare : (s c : m.Store) (v w : ℕ → Option Page) (i k : ℕ) → is_clear g m s v ≡ true → is_clear g m c w ≡ true → g.joint ≡ true → i < 256 → Agree s c → ((r : ℕ) → is_some (w r) ≡ is_some (v r))
      → Agree (m.prepare s v i k).store (m.prepare c w i k).store × ((m.prepare c w i k).made ≡ (m.prepare s v i k).made) × ((m.prepare c w i k).crashed ≡ (m.prepare s v i k).crashed)
  pub agree_decide : (s c : m.Store) (d : Bool) (k i : ℕ) → m.prepared s ≡ some i → Agree s c → (0 < (m.decide s d k).made → d ≡ true → (r : ℕ) → m.pending c r ≡ m.pending s r)
      → Agree (m.decide s d k).store (m.decide c d k).store × ((m.decide c d k).made ≡ (m.decide s d k).made) × ((m.decide c d k).crashed ≡ (m.decide s d k).crashed)
