-- The laws of the stable store hold of atomic pages, in every proper geometry.
use mathlib.Core.Path.{◌≡◌, refl, ap}
use mathlib.Core.Bool.{not, ◌&&◌}
use native.Mathlib.Omega.{arith}
use Rattle.rules.specs.Geometry.{Geometry, Proper, page_count}
use Rattle.rules.specs.Store.{Pages, home, read_commit, is_damaged, damaged, emptied, read_prepared, is_prepared, identity_in}
use Rattle.rules.specs.Form.{atomic_pages}
use Rattle.rules.proofs.Medium.{MediumLaws}
use Rattle.rules.proofs.Prepares.{pending_free}
use Rattle.rules.proofs.Pages.{Sized, flat-pages_of, pages_of-flat, pages_of_sized}
use Rattle.rules.proofs.AtomicCommits.{commit_sized, commit_crash, recover_sized, unidentified, pending_below, emptied_unprepared, recover_keeps, Agree, agree_recover, clear_kept, clear_lost, clear_whole, clear_unmoved, agree_commit, recover_calm, recover_unmoved, home_calm}
use Rattle.rules.proofs.AtomicPrepares.{prepare_sized, prepare_idle, prepare_keeps, prepare_calm, prepare_taken, prepare_unmoved, agree_prepare}
use Rattle.rules.proofs.AtomicDecides.{decide_sized, decide_first, decide_ended, decide_settled, decide_whole, agree_shape, agree_decide}
use Rattle.rules.proofs.Uncut.{untorn, commits_uncut, recovers_uncut, prepares_uncut, decides_uncut, pending-some}

module _ (g : Geometry) where
  module _ (proper : Proper g) where
    pub atomic_laws : MediumLaws g (atomic_pages g)
    unfolding Agree emptied damaged page_count home
    atomic_laws = record {
      Shaped = Sized (page_count g);
      shaped_from = λ bs h. pages_of_sized (page_count g) bs h;
      from_to = λ s S. pages_of-flat (page_count g) s S;
      to_from = λ bs h. flat-pages_of (page_count g) bs h;
      shaped_home = λ s r S h. S.full (home g r) (omega arith);
      home_settled = home_calm g proper;
      emptied_free = λ s e. unfold identity_in in rw (emptied_unprepared g proper s e);
      free_pending = λ s r e. pending_free g s (unidentified g s e) r;
      pending_ranged = pending_below g;
      commit_kept = λ s v k r e n q. clear_kept g proper s v e k r n q;
      commit_lost = λ s v k r e q. clear_lost g proper s v e k r q;
      commit_whole = λ s v k c e q. clear_whole g proper s v e k c q;
      commit_cut = λ s v k q. commit_crash g s v k q;
      commit_unmoved = λ s v k e. clear_unmoved g proper s v e k;
      commit_shaped = λ s v k S p. commit_sized g s v k S p;
      recover_settled = λ s k r. recover_keeps g proper s k r;
      recover_whole = recover_calm g proper;
      recover_unmoved = recover_unmoved g proper;
      recover_shaped = λ s k S. recover_sized g s k S;
      prepare_settled = λ s v i k r e on short. prepare_keeps g proper s v i k e on short r;
      prepare_calm = λ s v i k c on short q. prepare_calm g proper s v i k c on short q;
      prepare_taken = λ s v i k n on short h q. prepare_taken g proper s v i k n on short h q;
      prepare_none = λ s v i k e. prepare_idle g proper s v i k e;
      prepare_cut = λ s v i k e q. prepare_unmoved g proper s v i k e q;
      prepare_shaped = λ s v i k S p. prepare_sized g proper s v i k S p;
      decide_first = decide_first g proper;
      decide_ended = decide_ended g proper;
      decide_settled = decide_settled g proper;
      decide_whole = decide_whole g proper;
      decide_shaped = λ s d k S. decide_sized g proper s d k S;
      prepared-some = pending-some g proper;
      joint_untorn = untorn g proper;
      commit_uncut = commits_uncut g proper;
      recover_uncut = recovers_uncut g proper;
      prepare_uncut = prepares_uncut g proper;
      decide_uncut = decides_uncut g proper;
      Agree = Agree g proper;
      agree_refl = λ s. (refl, λ r. refl);
      agree_settled = λ s c A r. A.1 r;
      agree_damaged = λ s c A. ap (λ p. is_damaged (read_commit g p) && not (is_prepared (read_prepared g p))) A.0;
      agree_prepared = λ s c A. ap (λ p. identity_in (read_prepared g p)) A.0;
      agree_pending = λ s c A r. agree_shape g proper s c A.0 r;
      agree_commit = agree_commit g proper;
      agree_recover = λ s c k A. agree_recover g proper s c k A;
      agree_prepare = agree_prepare g proper;
      agree_decide = agree_decide g proper;
    }

    -- a shaped store, in these laws, has all its pages and nothing beyond them
    pub shaped_sized : (s : Pages) → atomic_laws.Shaped s → Sized (page_count g) s
    unfolding atomic_laws
    shaped_sized s S = S

    -- stores that agree have the same commit page
    pub agree_first : (s c : Pages) → atomic_laws.Agree s c → c 0 ≡ s 0
    unfolding atomic_laws Agree
    agree_first s c A = A.0
