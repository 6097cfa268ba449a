-- What is delivered holds: each field is the theorem of the crate that it is about.
use mathlib.Core.Path.{◌≡◌, refl}
use mathlib.Core.Bool.{Bool, true, false, true≢false}
use mathlib.Core.Option.{some}
use mathlib.Core.List.{List}
use Prim.Native.Nat.{ℕ}
use lib.ListN.{length}
use Rattle.rules.specs.Event.{commit, decode}
use Rattle.rules.specs.Geometry.{Proper, records, word_size, work_size}
use Rattle.rules.specs.Form.{Form}
use Rattle.rules.specs.Step.{StateOf}
use Rattle.rules.specs.Portion.{Lent, all_events, Fits, AllFit, Takes, AsWhole}
use Rattle.rules.specs.Editions.{Edition, first, second, paired, geometry_of, form_of, geometry1, edition1, geometry_pairs, edition_pairs, work_bytes}
use Rattle.rules.proofs.Medium.{MediumLaws}
use Rattle.rules.proofs.Acceptance.{refused_keeps}
use Rattle.rules.proofs.Soundness.{sound_play}
use Rattle.rules.proofs.Editions.{proper1, proper2, proper_pairs, medium_laws}
use Rattle.rules.proofs.PairsKept.{mend_mend, one_bad_kept}
use Rattle.rules.proofs.CutLists.{portions_whole_edition1, portions_whole_pairs}
use Rattle.history.specs.Survival.{SurvivesInK}
use Rattle.history.proofs.Demand3.{demand_3}
use Rattle.history.proofs.Claims.{reads_overlay, commit_survives}
use Rattle.history.proofs.Survival.{survives_in_k}
use Rattle.history.proofs.Editions.{survives_in_k_pairs}
use Rattle.claim_serial.proofs.Runs.{one_run_at_a_time}
use Rattle.claim_device.specs.Device.{Happening, DeviceHolds, CommitHolds}
use Rattle.claim_device.proofs.Claims.{device_holds}
use Rattle.claim_device.proofs.Commits.{commit_holds}
use Rattle.claim_device_pairs.proofs.Claims.{torn_device_pairs}
use Rattle.claim_device_pairs.proofs.Commits.{torn_commit_pairs}
use Rattle.depot_agreement.proofs.Agreement.{agreement_edition1}
use Rattle.audit_rules.proofs.Audits.{audit1_is}
use Rattle.state_whole.specs.Whole.{Served}
use Rattle.event_crash.proofs.Editions.{served_of}
use Rattle.leaf_event.proofs.Words.{bytes1}
use Rattle.engine_list.proofs.Words.{bytes_pairs}
use Rattle.store_length.proofs.Sizes.{work_size_lem}
use Rattle.open_lent.proofs.Portions.{first_in, paired_in}
use Rattle.open_calls.proofs.Chained.{singled_out, written_one_way, refused_untouched, calls_hold, cut_anywhere}
use Rattle.trials.proofs.Trials.{trials_hold}
use Rattle.trials_edition2.proofs.Edition2Trials.{trials2_hold}
use Rattle.trials_pairs.proofs.TornTrials.{torn_hold}
use Rattle.trials_pairs.proofs.PairTrials.{pairs_hold}
use Rattle.delivered.specs.Delivered.{PromisedOfRuns, PromisedOfPortions, PromisedOfTornPages, Delivered}

proper : (k : Edition) → Proper (geometry_of k)
proper first = proper1
proper second = proper2
proper paired = proper_pairs

laws : (k : Edition) → MediumLaws (form_of k).geometry (form_of k).medium
laws k = medium_laws (geometry_of k).tears (geometry_of k) (proper k) refl

survives : (k : Edition) (store ws more : List ℕ) (w t c : ℕ) → length store ≡ (form_of k).medium.size → SurvivesInK (form_of k) store ws more w t c
survives first = survives_in_k (geometry_of first) proper1 refl
survives second = survives_in_k (geometry_of second) proper2 refl
survives paired = survives_in_k_pairs

of_runs : (k : Edition) → PromisedOfRuns (form_of k)
of_runs k = record {
  refused_keeps = refused_keeps (form_of k);
  sound = sound_play (form_of k) (laws k);
  reads = reads_overlay (form_of k) (laws k);
  survives_in_k = survives k;
  commit_survives = commit_survives (form_of k) (laws k);
  demand_3 = demand_3 (form_of k) (laws k);
  one_at_a_time = one_run_at_a_time (form_of k) (laws k) (proper k);
}

of_device : (k : Edition) → (geometry_of k).tears ≡ false → (store : List ℕ) → length store ≡ (form_of k).medium.size → (hs : List Happening) → DeviceHolds (geometry_of k) store hs
of_device first e = device_holds (geometry_of first) proper1
of_device second e = device_holds (geometry_of second) proper2
of_device paired e = absurd (true≢false e)

of_commits : (k : Edition) → (geometry_of k).tears ≡ false → (store : List ℕ) → length store ≡ (form_of k).medium.size → (hs : List Happening)
    → (w t n : ℕ) → decode (geometry_of k) w ≡ some (commit t n) → CommitHolds (geometry_of k) store hs w t
of_commits first e = commit_holds (geometry_of first) proper1
of_commits second e = commit_holds (geometry_of second) proper2
of_commits paired e = absurd (true≢false e)

of_portions : (f : Form) (M : MediumLaws f.geometry f.medium) → Served f → records f.geometry ≡ 16 → word_size f.geometry ≡ 4 → work_size f.geometry ≡ work_bytes
    → ((sound : StateOf f → Bool) → Takes f sound → (store : List ℕ) (ls : List Lent) (work answers : List ℕ) → length store ≡ f.medium.size → AllFit f ls
    → Fits f (record { events = all_events ls; work = work; answers = answers }) → AsWhole f sound store ls work answers)
    → PromisedOfPortions f
of_portions f M served many four slots cuts = record {
  singled_out = singled_out f M served many four slots cuts;
  written_one_way = written_one_way f M served many four slots cuts;
  refused_untouched = refused_untouched f M served many four slots cuts;
  calls = calls_hold f M served many four slots cuts;
  cut_anywhere = cut_anywhere f M served many four slots cuts;
}

of_torn_pages : PromisedOfTornPages
of_torn_pages = record {
  mend_mend = mend_mend;
  one_bad_kept = one_bad_kept geometry_pairs proper_pairs refl;
  device = torn_device_pairs;
  commit_torn = torn_commit_pairs;
  torn_rows = torn_hold;
  rows = pairs_hold;
}

-- THE CLAIM
pub delivered : Delivered
delivered = record {
  runs = of_runs;
  device = of_device;
  commit_on_device = of_commits;
  portions = of_portions edition1 (laws first) (served_of first) first_in.many bytes1 (work_size_lem 16 geometry1 first_in.many refl) portions_whole_edition1;
  portions_torn = of_portions edition_pairs (laws paired) (served_of paired) paired_in.many bytes_pairs (work_size_lem 16 geometry_pairs paired_in.many refl) portions_whole_pairs;
  torn_pages = of_torn_pages;
  agreement = agreement_edition1;
  auditor = audit1_is;
  trials = trials_hold;
  trials_edition2 = trials2_hold;
}
