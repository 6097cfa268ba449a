-- Phases of page writes compose: what one leaves of the cut is the cut of the next. A last single page write tells whether a crash came, and how many were
-- made.
use mathlib.Core.Path.{◌≡◌, refl, sym, ap, ap₂, subst, ◌∙◌}
use mathlib.Core.Bool.{Bool, true, false, cond}
use mathlib.Core.List.{List, [], ◌∷◌, ◌++◌, append-nil}
use mathlib.Core.Logic.{dite}
use Prim.Native.Nat.{ℕ, zero, suc, ◌+◌, ◌-◌, ◌*◌, ◌/◌, ◌%◌, ◌≤◌, ◌<◌}
use native.Mathlib.Decide.{dec_lt}
use native.Mathlib.Omega.{arith}
use lib.ListN.{length, take, length-append}
use lib.Seq.{take-append-le, take-append-add, take_all, take-nil, drop-nil}
use Rattle.laws.specs.Tests.{same, under}
use Rattle.laws.specs.Functions.{updated}
use Rattle.laws.proofs.Tests.{lt-under, under-lt, not-under, Is, is_cases, yes', no', Same, same_cases, is, isnt}
use Rattle.rules.specs.Store.{Page, Pages}
use Rattle.rules.specs.Commit.{PageWrite, sets, written, applied, Cut, cut_at}
use Rattle.rules.specs.Pairs.{Pairs, is_new, counted, cut_pairs, put_all, tear_first}
use Rattle.rules.proofs.Cuts.{not_lt_under}
use Rattle.rules.proofs.Shows.{applied-append}
use Rattle.rules.proofs.Pairs.{cut_append}
use Rattle.store_write.specs.Phase.{StoreOf, cut_on, left_by, write_share, cut_used, WritesPhase, made_of, PageWritesDone}

take_both : (k : ℕ) (p q : List PageWrite) → take k (p ++ q) ≡ take k p ++ take (k - length p) q
take_both k p q =
    dite (dec_lt (length p) k)
    (λ lt.
    let e : k ≡ length p + (k - length p) = omega arith in
    ap (λ (n : ℕ). take n (p ++ q)) e ∙ take-append-add p q (k - length p)
    ∙ ap (λ (l : List PageWrite). l ++ take (k - length p) q) (sym (take_all k p (omega arith))))
    (λ ge.
    let e : 0 ≡ k - length p = omega arith in
    take-append-le k p q (omega arith) ∙ sym (append-nil (take k p)) ∙ ap (λ (n : ℕ). take k p ++ take n q) e)

cut_then : (b : Bool) (k : ℕ) (p q : List PageWrite) (s : StoreOf b) → left_by b k (p ++ q) s ≡ left_by b (k - cut_used b (length p)) q (left_by b k p s)
cut_then false k p q s = ap (λ (l : List PageWrite). applied l s) (take_both k p q) ∙ applied-append (take k p) (take (k - length p) q) s
cut_then true k p q s = cut_append k p q s

count-then : (b : Bool) (k i j l : ℕ) → l ≡ i + j → k - cut_used b i - cut_used b j ≡ k - cut_used b l
count-then false k i j l e = omega arith
count-then true k i j l e = omega arith

-- one phase and then another
pub phase_then : {b : Bool} {k : ℕ} {p q : List PageWrite} {s s' s'' : StoreOf b} {a c : ℕ} → WritesPhase b k p s s' a → WritesPhase b a q s' s'' c → WritesPhase b k (p ++ q) s s'' c
phase_then {b} {k} {p} {q} {s} {s'} {s''} {a} {c} h g = record {
  store = g.store ∙ ap₂ (λ (n : ℕ) (t : StoreOf b). left_by b n q t) h.count h.store ∙ sym (cut_then b k p q s);
  count = g.count ∙ ap (λ (n : ℕ). n - cut_used b (length q)) h.count ∙ count-then b k (length p) (length q) (length (p ++ q)) (length-append p q);
}

pub within : {b : Bool} {k : ℕ} {ws : List PageWrite} {s t : StoreOf b} {a : ℕ} → WritesPhase b k ws s t a → a ≤ k
within h = omega (arith, h.count)

-- a page write of a page that is known otherwise
pub phase_page : {b : Bool} {k n : ℕ} {p q : Page} {s t : StoreOf b} {a : ℕ} → p ≡ q → WritesPhase b k (sets n p ∷ []) s t a → WritesPhase b k (sets n q ∷ []) s t a
phase_page {b} {k} {n} {p} {q} {s} {t} {a} e h = subst (λ (x : Page). WritesPhase b k (sets n x ∷ []) s t a) e h

-- no page write
cut_nothing : (b : Bool) (k : ℕ) (s : StoreOf b) → left_by b k [] s ≡ s
unfolding applied cut_pairs put_all tear_first
cut_nothing false k s = ap (λ (l : List PageWrite). applied l s) (take-nil k)
cut_nothing true k s = ap₂ (λ (a b : List PageWrite). tear_first (k % 4) a (put_all b s)) (drop-nil (k / 4)) (take-nil (k / 4))

none_of : (b : Bool) (k : ℕ) → k ≡ k - cut_used b 0
none_of false k = omega arith
none_of true k = omega arith

pub phase_none : {b : Bool} {k : ℕ} {s : StoreOf b} → WritesPhase b k [] s s k
phase_none {b} {k} {s} = record { store = sym (cut_nothing b k s); count = none_of b k }

-- one page write of atomic pages: made, or nothing is left of the cut
pub phase_one : {k n : ℕ} {p : Page} {s t : Pages} → 0 < k → t ≡ updated n p s → WritesPhase false k (sets n p ∷ []) s t (k - 1)
unfolding applied written
phase_one {k = k} {n = n} {p = p} {s = s} h e =
    record { store = e ∙ ap (λ (l : List PageWrite). applied l s) (sym (take_all k (sets n p ∷ []) h)); count = omega arith }

pub phase_spent : {n : ℕ} {p : Page} {s : Pages} {k : ℕ} → k ≡ 0 → WritesPhase false k (sets n p ∷ []) s s k
unfolding applied
phase_spent {n = n} {p = p} {s = s} {k = k} e =
    record { store = ap (λ (m : ℕ). applied (take m (sets n p ∷ [])) s) (sym e); count = omega arith }

-- A whole list of page writes within one cut, where all but the last left `last` of it: what the rules' cut says.
module _ (k last left m : ℕ) (ws : List PageWrite) (long : length ws ≡ m + 1) where
  atomic_last : (s t : Pages) → last ≡ k - m → WritesPhase false k ws s t left → PageWritesDone (cut_at k ws s) t (k - left) (under last 1)
  unfolding cut_at
  atomic_last s t e P = go (is_cases (under last 1))
    where
      go : Is (under last 1) → PageWritesDone (cut_at k ws s) t (k - left) (under last 1)
      go (yes' d) =
          let lt : last < 1 = under-lt last 1 d in
          let u = lt-under k (length ws) (omega arith) in
          let n : k - left ≡ k = omega (arith, P.count) in
          record { store = P.store; made = n ∙ sym (ap (λ (x : Bool). cond x k (length ws)) u); crashed = d ∙ sym u }
      go (no' d) =
          let ge : 1 ≤ last = not-under last 1 d in
          let u = not_lt_under k (length ws) (omega arith) in
          let n : k - left ≡ length ws = omega (arith, P.count) in
          record { store = P.store; made = n ∙ sym (ap (λ (x : Bool). cond x k (length ws)) u); crashed = d ∙ sym u }

  paired_last : (s t : Pairs) → last ≡ k - 4 * m → WritesPhase true k ws s t left → PageWritesDone (cut_pairs k ws s) t (made_of true k last left) (under last 4)
  unfolding cut_pairs
  paired_last s t e P = go (is_cases (under last 4))
    where
      go : Is (under last 4) → PageWritesDone (cut_pairs k ws s) t (made_of true k last left) (under last 4)
      go (yes' d) =
          let lt : last < 4 = under-lt last 4 d in
          let u = lt-under (k / 4) (length ws) (omega arith) in
          record {
            store = P.store;
            made = ap (λ (x : Bool). cond x (k / 4 + counted (k % 4)) ((k - left) / 4)) d ∙ sym (ap (λ (x : Bool). cond x (k / 4 + counted (k % 4)) (length ws)) u);
            crashed = d ∙ sym u;
          }
      go (no' d) =
          let ge : 4 ≤ last = not-under last 4 d in
          let u = not_lt_under (k / 4) (length ws) (omega arith) in
          let n : (k - left) / 4 ≡ length ws = omega (arith, P.count) in
          record {
            store = P.store;
            made = ap (λ (x : Bool). cond x (k / 4 + counted (k % 4)) ((k - left) / 4)) d ∙ n ∙ sym (ap (λ (x : Bool). cond x (k / 4 + counted (k % 4)) (length ws)) u);
            crashed = d ∙ sym u;
          }

  last_of : (b : Bool) (s t : StoreOf b) → last ≡ k - cut_used b m → WritesPhase b k ws s t left → PageWritesDone (cut_on b k ws s) t (made_of b k last left) (under last (write_share b))
  last_of false s t e P = atomic_last s t e P
  last_of true s t e P = paired_last s t e P

-- all phases but the last page write, and then it
pub phase_last : {b : Bool} {k n : ℕ} {ws : List PageWrite} {p : Page} {s s' s'' : StoreOf b} {a c : ℕ} → WritesPhase b k ws s s' a → WritesPhase b a (sets n p ∷ []) s' s'' c
    → PageWritesDone (cut_on b k (ws ++ (sets n p ∷ [])) s) s'' (made_of b k a c) (under a (write_share b))
phase_last {b} {k} {n} {ws} {p} {s} {s'} {s''} {a} {c} h g =
    last_of k a c (length ws) (ws ++ (sets n p ∷ [])) (length-append ws (sets n p ∷ [])) b s s'' h.count (phase_then h g)

-- nothing to write
pub none_left : (b : Bool) (k : ℕ) (s : StoreOf b) {ws : List PageWrite} → ws ≡ [] → PageWritesDone (cut_on b k ws s) s 0 false
unfolding cut_at cut_pairs
none_left false k s {ws} e =
    let u : under k (length ws) ≡ false = ap (λ (l : List PageWrite). under k (length l)) e ∙ not_lt_under k 0 (omega arith) in
    record {
      store = sym (ap (λ (l : List PageWrite). left_by false k l s) e ∙ cut_nothing false k s);
      made = sym (ap₂ (λ (x : Bool) (l : List PageWrite). cond x k (length l)) u e);
      crashed = sym u;
    }
none_left true k s {ws} e =
    let u : under (k / 4) (length ws) ≡ false = ap (λ (l : List PageWrite). under (k / 4) (length l)) e ∙ not_lt_under (k / 4) 0 (omega arith) in
    record {
      store = sym (ap (λ (l : List PageWrite). left_by true k l s) e ∙ cut_nothing true k s);
      made = sym (ap₂ (λ (x : Bool) (l : List PageWrite). cond x (k / 4 + counted (k % 4)) (length l)) u e);
      crashed = sym u;
    }

-- of atomic pages a crash came where nothing was left for the last page write
spent_is : (a : ℕ) → under a 1 ≡ same a 0
spent_is a = go (same_cases a 0)
  where
    go : Same a 0 → under a 1 ≡ same a 0
    go (is e q _) = lt-under a 1 (omega arith) ∙ sym q
    go (isnt e q _) = not_lt_under a 1 (omega (arith, e)) ∙ sym q

pub as_spent : {S : Type 0} {c : Cut S} {t : S} {m : ℕ} (a : ℕ) → PageWritesDone c t m (under a 1) → PageWritesDone c t m (same a 0)
as_spent a L = record { store = L.store; made = L.made; crashed = sym (spent_is a) ∙ L.crashed }

-- what a torn write counts, as the code has it
pub counted_half : (v : ℕ) → v < 4 → v / 2 ≡ counted v
unfolding counted is_new
counted_half zero h = refl
counted_half (suc zero) h = refl
counted_half (suc (suc v)) h = omega arith
