-- Atomic pages leave room: with the greatest count of a word no page writes are cut, whatever they are for.
use mathlib.Core.Path.{◌≡◌, refl, sym, ap, ◌∙◌}
use mathlib.Core.Bool.{Bool, true, false, cond, true≢false}
use mathlib.Core.Logic.{◌≢◌}
use mathlib.Core.Option.{Option, none, some}
use Prim.Native.Nat.{ℕ, suc, ◌+◌, ◌-◌, ◌*◌, ◌^◌, ◌≤◌}
use native.Mathlib.Omega.{arith}
use lib.Pow.{ones_lt, le_ones}
use Rattle.laws.specs.Tests.{same, under}
use Rattle.laws.specs.Counting.{any, count}
use Rattle.laws.proofs.Tests.{same_cases, Same, is, isnt, Is, is_cases, yes', no', lt-under}
use Rattle.laws.proofs.Booleans.{refute, clash}
use Rattle.laws.proofs.Those.{count-le, count_none, count-zero}
use Rattle.laws.proofs.Counting.{any_false}
use Rattle.rules.specs.Geometry.{Geometry, Proper, records, cut_of, cut_count, uncut}
use Rattle.rules.specs.Store.{Page, Pages, intention, is_named, Prepared, read_prepared, identity_in, prepared_map, is_reserved, pending}
use Rattle.rules.specs.Versions.{is_some}
use Rattle.rules.specs.Commit.{Cut, commit_at, recover_at, prepare_at, decide_at}
use Rattle.rules.proofs.Medium.{changed_in}
use Rattle.rules.proofs.Map.{names-none}
use Rattle.rules.proofs.PreparedPage.{prepared_is}
use Rattle.rules.proofs.Cuts.{commit_due, recover_due, not_lt_under}
use Rattle.rules.proofs.AtomicCommits.{named_in, commit_crashed, recover_crashed}
use Rattle.rules.proofs.AtomicPrepares.{prepare_crashed}
use Rattle.rules.proofs.Prepares.{prepare_due, ruled, commits_then, aborts_then}

-- how many records the prepared transaction changed
unfoldable pub reserved_in : Geometry → Pages → ℕ
reserved_in g s = count (records g) (is_reserved g s)

-- the count that it tells is the greatest of a word
pub uncut-count : (g : Geometry) → cut_count g.tears (uncut g) ≡ 2 ^ g.cut_bits - 1
unfolding uncut
uncut-count g = go g.tears (2 ^ g.cut_bits - 1)
  where
    go : (b : Bool) (n : ℕ) → cut_count b (cut_of b n 0) ≡ n
    go false n = refl
    go true n = omega arith

-- a word can hold it
pub uncut_fits : (g : Geometry) → under (cut_count g.tears (uncut g)) (2 ^ g.cut_bits) ≡ true
uncut_fits g = rw (uncut-count g) (lt-under (2 ^ g.cut_bits - 1) (2 ^ g.cut_bits) (ones_lt g.cut_bits))

-- where no page tears it is that count
pub uncut_alone : (g : Geometry) → g.tears ≡ false → under (uncut g) (2 ^ g.cut_bits) ≡ true
unfolding uncut
uncut_alone g still = rw still (lt-under (2 ^ g.cut_bits - 1) (2 ^ g.cut_bits) (ones_lt g.cut_bits))

-- and it is no less
pub uncut_least : (g : Geometry) → 2 ^ g.cut_bits - 1 ≤ uncut g
unfolding uncut
uncut_least g = go g.tears (2 ^ g.cut_bits - 1)
  where
    go : (b : Bool) (n : ℕ) → n ≤ cut_of b n 0
    go false n = omega arith
    go true n = omega arith

module _ (g : Geometry) (proper : Proper g) where
  pub untorn : g.joint ≡ true → g.tears ≡ false
  untorn on = refute g.tears (λ e. clash on (proper.torn_plain e))

  -- a transaction that is prepared changed some record
  pub some-reserved : (s : Pages) (p : Prepared) → read_prepared g (s 0) ≡ some p → reserved_in g s ≢ 0
  unfolding reserved_in is_reserved prepared_map
  some-reserved s p here e =
      let S = (prepared_is g (s 0) p here).1 in
      S.some_record (names-none g p.map S.map-fits (λ r h. rw (lt-under r (records g) h, here) at (count-zero (records g) (is_reserved g s) e r h)))

  most : 2 * records g + 2 ≤ 2 ^ g.cut_bits - 1
  most = le_ones g.cut_bits proper.count_wide

  -- page writes for some of the records, none for none: a count has room for them and one more
  few : (n due : ℕ) → n ≤ records g → due ≤ 2 * n + 1 → suc (cond (same n 0) 0 due) ≤ 2 ^ g.cut_bits - 1
  few n due h k = go (same_cases n 0)
    where
      bound : (m r u : ℕ) → m ≤ 2 * n + 1 → n ≤ r → 2 * r + 2 ≤ u → suc m ≤ u
      bound m r u a p q = omega (arith, a, p, q)

      go : Same n 0 → suc (cond (same n 0) 0 due) ≤ 2 ^ g.cut_bits - 1
      go (is q e _) = rw e (bound 0 (records g) (2 ^ g.cut_bits - 1) (omega arith) h most)
      go (isnt q e _) = rw e (bound due (records g) (2 ^ g.cut_bits - 1) k h most)

  few_writes : (n : ℕ) → n ≤ records g → commit_due n ≤ 2 ^ g.cut_bits - 1
  unfolding commit_due
  few_writes n h = go (same_cases n 0)
    where
      go : Same n 0 → cond (same n 0) 0 (2 * n + 2) ≤ 2 ^ g.cut_bits - 1
      go (is q e _) = rw e (omega arith)
      go (isnt q e _) = let m : 2 * records g + 2 ≤ 2 ^ g.cut_bits - 1 = most in rw e (omega (arith, h, m))

  few_copies : (d : Pages) → suc (recover_due (named_in g d)) ≤ 2 ^ g.cut_bits - 1
  unfolding recover_due named_in
  few_copies d = let n : ℕ = count (records g) (is_named g d) in few n (n + 1) (count-le (records g) (is_named g d)) (omega arith)

  few_pages : (v : ℕ → Option Page) → suc (prepare_due (changed_in g v)) ≤ 2 ^ g.cut_bits - 1
  unfolding prepare_due changed_in
  few_pages v = let n : ℕ = count (records g) (λ r. is_some (v r)) in few n (n + 1) (count-le (records g) (λ r. is_some (v r))) (omega arith)

  less : (n u : ℕ) → suc n ≤ u → n ≤ u
  less n u h = omega (arith, h)

  -- the greatest count of a word leaves room for all page writes
  pub commit_room : (v : ℕ → Option Page) → commit_due (changed_in g v) ≤ 2 ^ g.cut_bits - 1
  unfolding changed_in
  commit_room v = few_writes _ (count-le (records g) (λ r. is_some (v r)))

  pub recover_room : (d : Pages) → recover_due (named_in g d) ≤ 2 ^ g.cut_bits - 1
  recover_room d = less (recover_due (named_in g d)) _ (few_copies d)

  pub prepare_room : (v : ℕ → Option Page) → prepare_due (changed_in g v) ≤ 2 ^ g.cut_bits - 1
  prepare_room v = less (prepare_due (changed_in g v)) _ (few_pages v)

  -- and so does the cut there
  room : (n : ℕ) → n ≤ 2 ^ g.cut_bits - 1 → n ≤ uncut g
  room n h = let b : 2 ^ g.cut_bits - 1 ≤ uncut g = uncut_least g in over n (2 ^ g.cut_bits - 1) (uncut g) h b
    where
      over : (a b c : ℕ) → a ≤ b → b ≤ c → a ≤ c
      over a b c p q = omega (arith, p, q)

  -- the page of what is prepared
  by_page : {A : Type 0} (d : Pages) (i : ℕ) → identity_in (read_prepared g (d 0)) ≡ some i → ((p : Prepared) → read_prepared g (d 0) ≡ some p → A) → A
  by_page {A} d i e next = go (read_prepared g (d 0)) refl e
    where
      go : (o : Option Prepared) → read_prepared g (d 0) ≡ o → identity_in o ≡ some i → A
      go none q z = unfold identity_in in let y : true ≡ false = cc in absurd (true≢false y)
      go (some p) q z = next p q

  -- a count of one more
  one_more : suc (uncut g - 1) ≡ uncut g
  one_more = more (uncut g) (room 1 (any_room (records g) (2 ^ g.cut_bits - 1) most))
    where
      any_room : (r u : ℕ) → 2 * r + 2 ≤ u → 1 ≤ u
      any_room r u h = omega (arith, h)

      more : (k : ℕ) → 1 ≤ k → suc (k - 1) ≡ k
      more k h = omega (arith, h)

  fewer : (n : ℕ) → suc n ≤ 2 ^ g.cut_bits - 1 → n ≤ uncut g - 1
  fewer n h = let k : suc n ≤ uncut g = room (suc n) h in before n (uncut g) k
    where
      before : (a b : ℕ) → suc a ≤ b → a ≤ b - 1
      before a b p = omega (arith, p)

  decides : (b : Bool) (d : Pages) (p : Prepared) → read_prepared g (d 0) ≡ some p → (decide_at g d b (uncut g)).crashed ≡ false
  decides true d p here =
      ap (λ (k : ℕ). (decide_at g d true k).crashed) (sym one_more)
      ∙ ap (λ (c : Cut Pages). c.crashed) (commits_then g proper d p here (uncut g - 1))
      ∙ recover_crashed g (ruled g proper d p here) (uncut g - 1)
      ∙ not_lt_under (uncut g - 1) (recover_due (named_in g (ruled g proper d p here))) (fewer _ (few_copies (ruled g proper d p here)))
  decides false d p here =
      ap (λ (k : ℕ). (decide_at g d false k).crashed) (sym one_more) ∙ ap (λ (c : Cut Pages). c.crashed) (aborts_then g proper d p here (uncut g - 1))

  some-pending : (d : Pages) (p : Prepared) → read_prepared g (d 0) ≡ some p → any (records g) (λ r. is_some (pending g d r)) ≡ true
  some-pending d p here = go (is_cases (any (records g) (λ r. is_some (pending g d r))))
    where
      is_reserved_lem : (r : ℕ) → is_some (pending g d r) ≡ is_reserved g d r
      is_reserved_lem r = unfold pending in by (is_reserved g d r)
        where
          by : (b : Bool) → is_some (cond b (some (d (intention r))) none) ≡ b
          by true = unfold is_some in refl
          by false = unfold is_some in refl

      go : Is (any (records g) (λ r. is_some (pending g d r))) → any (records g) (λ r. is_some (pending g d r)) ≡ true
      go (yes' q) = q
      go (no' q) = absurd (some-reserved d p here
          (unfold reserved_in in count_none (records g) (is_reserved g d) (λ r lt. sym (is_reserved_lem r) ∙ any_false (records g) (λ r. is_some (pending g d r)) r q lt)))

  pub commits_uncut : (d : Pages) (v : ℕ → Option Page) → (commit_at g d v (uncut g)).crashed ≡ false
  commits_uncut d v = commit_crashed g d v (uncut g) ∙ not_lt_under (uncut g) (commit_due (changed_in g v)) (room _ (commit_room v))

  pub recovers_uncut : (d : Pages) → (recover_at g d (uncut g)).crashed ≡ false
  recovers_uncut d = recover_crashed g d (uncut g) ∙ not_lt_under (uncut g) (recover_due (named_in g d)) (room _ (recover_room d))

  pub prepares_uncut : (d : Pages) (v : ℕ → Option Page) (i : ℕ) → (prepare_at g d v i (uncut g)).crashed ≡ false
  prepares_uncut d v i = prepare_crashed g proper d v i (uncut g) ∙ not_lt_under (uncut g) (prepare_due (changed_in g v)) (room _ (prepare_room v))

  pub decides_uncut : (d : Pages) (b : Bool) (i : ℕ) → identity_in (read_prepared g (d 0)) ≡ some i → (decide_at g d b (uncut g)).crashed ≡ false
  decides_uncut d b i e = by_page d i e (λ p here. decides b d p here)

  pub pending-some : (d : Pages) (i : ℕ) → identity_in (read_prepared g (d 0)) ≡ some i → any (records g) (λ r. is_some (pending g d r)) ≡ true
  pending-some d i e = by_page d i e (λ p here. some-pending d p here)
