-- WHAT IS DELIVERED, under one name. The contracts of the open operations tie the code to the rules: a run is `run`, a portion is `portion`. Here stands what
-- follows from the rules, one field for each theorem that is promised: of every edition and form, and of some of them alone.
use Rattle.std.specs.Prelude.{◌≡◌, true, false, List, ℕ, T, length}
use Rattle.std.proofs.Math.Option.{Option, some}
use Rattle.rules.specs.Form.{Form}
use Rattle.rules.specs.Event.{Event, commit, decode}
use Rattle.rules.specs.State.{down}
use Rattle.rules.specs.Step.{StateOf, refused, step}
use Rattle.rules.specs.Run.{play}
use Rattle.rules.specs.Sound.{Sound}
use Rattle.rules.specs.Pairs.{Pairs, mended, pairs_of, OneBadAtMost}
use Rattle.rules.specs.Editions.{Edition, geometry_of, form_of, edition1, edition2, geometry_pairs, edition_pairs}
use Rattle.history.specs.Demand3.{Demand3Holds}
use Rattle.history.specs.Claims.{ReadsOverlay, CommitSurvives}
use Rattle.history.specs.Survival.{SurvivesInK}
use Rattle.claim_serial.specs.OneAtATime.{OneRunAtATimeHolds}
use Rattle.claim_device.specs.Device.{Happening, DeviceHolds, CommitHolds}
use Rattle.claim_device_pairs.specs.Device.{TornHappening, all_events_for, all_fit, TornDeviceHolds, TornCommitHolds}
use Rattle.depot_agreement.specs.Agreement.{Agreement, Fresh}
use Rattle.audit_rules.specs.Audit.{audit1}
use Rattle.audit_rules.specs.Walk.{plain_audit}
use Rattle.open_calls.specs.Chained.{SingledOut, WrittenOneWay, RefusedUntouched, CallsHold, CutAnywhere}
use Rattle.trials_rows.specs.Rows.{numbers1, AllHold, AllGo}
use Rattle.trials.specs.Trials.{trials}
use Rattle.trials_edition2.specs.Edition2Trials.{numbers2, trials2, played2}
use Rattle.trials_pairs.specs.TornRows.{numbers_pairs, all_hold, all_so}
use Rattle.trials_pairs.specs.TornTrials.{commit_rows, whole_rows, recovery_rows, again_rows}
use Rattle.trials_pairs.specs.PairTrials.{mend_rows, calm_rows, trials_of_pairs, played_pairs}

-- Of a run over any start store, of any length of list, in a form.
pub record PromisedOfRuns (f : Form) : Type 0 where
  -- A refusal changes nothing.
  pub refused_keeps : (s : StateOf f) (e : Option Event) (n : ℕ) → (step f s e).answer ≡ refused n → (step f s e).state ≡ s
  -- Every state that a list reaches is sound: locks, versions, lines and depths go together.
  pub sound : (store : List ℕ) → length store ≡ f.medium.size → (ws : List ℕ) → Sound f (play f (down (f.medium.from_bytes store)) ws).state
  -- The central law: what a live transaction reads is the start's value under the writes that it may see.
  pub reads : (store ws : List ℕ) → length store ≡ f.medium.size → ReadsOverlay f store ws
  -- A top transaction survives exactly if it changed nothing or k is at least n + 1; where pages tear, a torn write whose first copy is new counts in k.
  pub survives_in_k : (store ws more : List ℕ) (w t c : ℕ) → length store ≡ f.medium.size → SurvivesInK f store ws more w t c
  -- What is settled stays, through crashes and recoveries, however many and wherever each is cut or torn.
  pub commit_survives : (store ws more : List ℕ) → length store ≡ f.medium.size → CommitSurvives f store ws more
  -- Demand 3: exactly the surviving writes, in list order; and nothing of the lost ones shows.
  pub demand_3 : Demand3Holds f
  -- All is as if one transaction came at a time.
  pub one_at_a_time : OneRunAtATimeHolds f

-- Of calls that play a portion, each on what the last one left.
pub record PromisedOfPortions (f : Form) : Type 0 where
  -- Each call singles out its answer and every byte but those of the working buffer that no live version has.
  pub singled_out : SingledOut f
  -- The lent struct is a function of the state.
  pub written_one_way : WrittenOneWay f
  -- A refused call leaves every byte.
  pub refused_untouched : RefusedUntouched f
  -- No call in a chain is refused with 25; demand 3, the central law, the crash claim and the serial order hold over the joined list.
  pub calls : CallsHold f
  -- A list may be cut into portions anywhere.
  pub cut_anywhere : CutAnywhere f

-- Of pages that can tear (document 02, L5), each kept as a pair of copies.
pub record PromisedOfTornPages : Type 0 where
  -- Mending twice equals once.
  pub mend_mend : (s : Pairs) → mended (mended s) ≡ mended s
  -- From a start store with at most one bad copy in each pair, every store of a run has that.
  pub one_bad_kept : (store : List ℕ) → length store ≡ edition_pairs.medium.size → OneBadAtMost geometry_pairs (pairs_of store)
      → (ws : List ℕ) → OneBadAtMost geometry_pairs (play edition_pairs (down (pairs_of store)) ws).state.store
  -- Wherever the power goes among copy writes, between two or within one, the medium is what the rules' tears leave.
  pub device : (store : List ℕ) → length store ≡ 2178 → (hs : List TornHappening) → all_fit geometry_pairs (all_events_for geometry_pairs hs) ≡ true → TornDeviceHolds geometry_pairs store hs
  -- A commit on it: all of it or nothing, wherever the power goes, through any cuts and tears after it; all of it once it is answered 0.
  pub commit_torn : (store : List ℕ) → length store ≡ 2178 → (hs : List TornHappening) → all_fit geometry_pairs (all_events_for geometry_pairs hs) ≡ true → (t n : ℕ) → TornCommitHolds geometry_pairs store hs t n
  -- Each tear at each write of a commit and of a recovery, and torn again, by computing.
  pub torn_rows : T (all_hold edition_pairs commit_rows) × T (all_hold edition_pairs whole_rows) × T (all_hold edition_pairs recovery_rows) × T (all_hold edition_pairs again_rows)
  pub rows : T (all_hold edition_pairs mend_rows) × T (all_so edition_pairs calm_rows) × AllHold edition_pairs numbers_pairs trials_of_pairs × AllGo edition_pairs numbers_pairs played_pairs

-- THE WHOLE.
pub record Delivered : Type 1 where
  -- of every edition and form
  pub runs : (k : Edition) → PromisedOfRuns (form_of k)
  -- of a medium that is written page by page while the power may go
  pub device : (k : Edition) → (geometry_of k).tears ≡ false → (store : List ℕ) → length store ≡ (form_of k).medium.size → (hs : List Happening) → DeviceHolds (geometry_of k) store hs
  -- A commit on it: all of it or nothing, wherever the power goes; all of it once it is answered 0.
  pub commit_on_device : (k : Edition) → (geometry_of k).tears ≡ false → (store : List ℕ) → length store ≡ (form_of k).medium.size → (hs : List Happening)
      → (w t n : ℕ) → decode (geometry_of k) w ≡ some (commit t n) → CommitHolds (geometry_of k) store hs w t
  pub portions : PromisedOfPortions edition1
  pub portions_torn : PromisedOfPortions edition_pairs
  pub torn_pages : PromisedOfTornPages
  -- Truck and depot never hold opposite decisions.
  pub agreement : Agreement edition1 (Fresh edition1)
  -- The auditor, who keeps no version and no lock, says what a run says.
  pub auditor : (start events answers end : List ℕ) → plain_audit edition1 start events answers end ≡ audit1 start events answers end
  -- The papers' own rows, by computing.
  pub trials : AllHold edition1 numbers1 trials
  pub trials_edition2 : AllHold edition2 numbers2 trials2 × AllGo edition2 numbers2 played2
