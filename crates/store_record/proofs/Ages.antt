-- The settled page is that of the rules, through what the medium shows; the cases of an age's answer.
use mathlib.Core.Path.{◌≡◌, refl, sym, ap, subst⁻¹, ◌∙◌}
use mathlib.Core.Bool.{Bool, true, false, cond, ◌||◌, true≢false, false≢true}
use mathlib.Core.List.{List}
use mathlib.Core.Logic.{◌≢◌}
use mathlib.Core.Option.{none, some}
use Prim.Native.Nat.{ℕ, ◌+◌, ◌<◌, ◌≤◌, min}
use native.Mathlib.Omega.{arith}
use lib.IntN.{ℤ, sub_ℕ}
use lib.ListN.{length, take}
use Rattle.laws.specs.Tests.{same, under}
use Rattle.laws.specs.Bytes.{number}
use Rattle.laws.proofs.Tests.{lt-under, under-lt, ne_false, same_refl}
use Rattle.laws.proofs.Booleans.{not-false, not-true}
use Rattle.rules.specs.Geometry.{Geometry, records, page_count}
use Rattle.rules.specs.Store.{Page, Pages, named, read_commit, map_in, damaged, is_named, intention, home, settled}
use Rattle.rules.specs.Step.{first_of}
use Rattle.rules.specs.Age.{Age, refused, judged, stamp, age_refusals, age_by, age_of}
use Rattle.rules.specs.Pairs.{damaged_pairs}
use Rattle.rules.specs.Editions.{medium_of, form_in}
use Rattle.store_write.specs.Phase.{store_of, shown_in, lost_in}
use Rattle.std.specs.Prelude.{Some, None, Ok, Err, is_ok}
use Rattle.std.specs.Option.{ok_or}
use Rattle.std.specs.Result.{result_ok}
use Rattle.std.specs.declared.result.Result.{Result}
use Rattle.leaf_number.specs.Named.{record_named, record_of}
use Rattle.std.specs.declared.option.Option.{Option}
use Rattle.leaf_number.specs.declared.RecordNumber.{RecordNumber}
use Rattle.store_length.specs.Lengths.{store_bytes}
use Rattle.store_length.proofs.Sizes.{store_size, pages_are}
use Rattle.leaf_commit_page.specs.Heard.{understood}
use Rattle.leaf_commit_page.specs.declared.CommitMap.{CommitMap}
use Rattle.leaf_age.specs.Meaning.{judged_age}
use Rattle.leaf_age.specs.declared.Judged.{Judged}
use Rattle.store_record.specs.Ages.{age_in, told_as, age_number, age_left, age_refusal}
use Rattle.store_record.specs.declared.Refusal.{Refusal}

-- damaged where no copy of some page is good, or the commit page that is shown is damaged; the settled values are those that are shown
damaged_is : (tears : Bool) (g : Geometry) (bs : List ℕ) → (medium_of tears g).damaged ((medium_of tears g).from_bytes bs) ≡ (lost_in tears (page_count g) (store_of tears bs) || damaged g (shown_in tears (store_of tears bs)))
unfolding damaged_pairs
damaged_is false g bs = refl
damaged_is true g bs = refl

settles : (tears : Bool) (g : Geometry) (bs : List ℕ) (r : ℕ) → (medium_of tears g).settled ((medium_of tears g).from_bytes bs) r ≡ settled g (shown_in tears (store_of tears bs)) r
settles false g bs r = refl
settles true g bs r = refl

module _ (tears : Bool) (g : Geometry) (n : ℕ) (many : records g ≡ n) where
  -- the page of the settled value, where this map is in force
  settled_is : (s : Pages) (map r : ℕ) → map_in (read_commit g (s 0)) ≡ map → r < n → settled g s r ≡ s (cond (named g map r) (1 + r) (1 + n + r))
  unfolding settled is_named intention home
  settled_is s map r e h = rw (e, lt-under r (records g) (let m = many in omega (arith, h))) (go (named g map r))
    where
      go : (b : Bool) → cond b (s (1 + r)) (s (1 + (records g + r))) ≡ s (cond b (1 + r) (1 + n + r))
      go true = refl
      go false = let q : 1 + (records g + r) ≡ 1 + n + r = omega (arith, many) in ap s q

  -- where no page is lost the commit page decides
  by_page : (bs : List ℕ) (b : Bool) → b ≡ lost_in tears (1 + (n + n)) (store_of tears bs) → (medium_of tears g).damaged ((medium_of tears g).from_bytes bs) ≡ (b || damaged g (shown_in tears (store_of tears bs)))
  by_page bs b e =
      damaged_is tears g bs ∙ ap (λ (m : ℕ). lost_in tears m (store_of tears bs) || damaged g (shown_in tears (store_of tears bs))) (pages_are n g many)
      ∙ ap (λ (x : Bool). x || damaged g (shown_in tears (store_of tears bs))) (sym e)

  age_damaged : (bs : List ℕ) (r clock limit : ℕ) → (medium_of tears g).damaged ((medium_of tears g).from_bytes bs) ≡ true → refused 4 ≡ age_in tears g bs r clock limit
  unfolding age_in
  age_damaged bs r clock limit e = rw e

  age_judged : (bs : List ℕ) (map r clock limit : ℕ) → (medium_of tears g).damaged ((medium_of tears g).from_bytes bs) ≡ false → map_in (read_commit g (shown_in tears (store_of tears bs) 0)) ≡ map → r < n
      → judged (sub_ℕ clock (number (take 4 (shown_in tears (store_of tears bs) (cond (named g map r) (1 + r) (1 + n + r)))))) limit ≡ age_in tears g bs r clock limit
  unfolding age_in
  age_judged bs map r clock limit d e h = rw (settles tears g bs r ∙ settled_is (shown_in tears (store_of tears bs)) map r e h, d)

  pub age_short : (bs : List ℕ) (r clock limit : ℕ) → length bs ≢ store_bytes tears n → refused 22 ≡ age_of (form_in tears g) bs r clock limit
  unfolding age_of age_by age_refusals first_of
  age_short bs r clock limit h = rw (ne_false (length bs) (medium_of tears g).size (λ e. h (e ∙ store_size n g many tears)))

  right_size : (bs : List ℕ) → length bs ≡ store_bytes tears n → same (length bs) (medium_of tears g).size ≡ true
  right_size bs e = ap (λ (k : ℕ). same k (medium_of tears g).size) (e ∙ sym (store_size n g many tears)) ∙ same_refl (medium_of tears g).size

  below : (r : ℕ) (b : Bool) → under r n ≡ b → under r (records g) ≡ b
  below r b h = ap (under r) many ∙ h

  pub age_no_record : (bs : List ℕ) (r clock limit : ℕ) → length bs ≡ store_bytes tears n → under r n ≡ false → refused 23 ≡ age_of (form_in tears g) bs r clock limit
  unfolding age_of age_by age_refusals first_of
  age_no_record bs r clock limit e h = rw (right_size bs e, below r false h)

  pub age_in_lem : (bs : List ℕ) (r clock limit : ℕ) → length bs ≡ store_bytes tears n → under r n ≡ true → age_in tears g bs r clock limit ≡ age_of (form_in tears g) bs r clock limit
  unfolding age_in age_of age_by age_refusals stamp first_of
  age_in_lem bs r clock limit e h = rw (right_size bs e, below r true h) (go ((medium_of tears g).damaged ((medium_of tears g).from_bytes bs)))
    where
      go : (b : Bool) → cond b (refused 4) (judged (sub_ℕ clock (number (take 4 ((medium_of tears g).settled ((medium_of tears g).from_bytes bs) r)))) limit)
          ≡ age_by (form_in tears g) bs r clock limit (cond b (some 4) none)
      go true = refl
      go false = refl

  -- a page has no good copy
  pub told_lost : (bs : List ℕ) (b : Bool) (r clock limit : ℕ) → b ≡ lost_in tears (1 + (n + n)) (store_of tears bs) → b ≡ true → refused 4 ≡ age_in tears g bs r clock limit
  told_lost bs b r clock limit l e = age_damaged bs r clock limit (by_page bs b l ∙ ap (λ (x : Bool). x || damaged g (shown_in tears (store_of tears bs))) e)

  -- what is read of the commit page, and what follows of the age
  pub told_good : (bs : List ℕ) (b : Bool) (page : Page) (o : CommitMap) (r clock limit p stamp : ℕ) (age : ℤ) (a : Age) → b ≡ lost_in tears (1 + (n + n)) (store_of tears bs) → b ≡ false
      → page ≡ shown_in tears (store_of tears bs) 0 → o ≡ understood g page → o.good ≡ true → r < n
      → p ≡ cond (named g o.map r) (1 + r) (1 + n + r) → stamp ≡ number (take 4 (shown_in tears (store_of tears bs) p)) → age ≡ sub_ℕ clock stamp → a ≡ judged age limit → a ≡ age_in tears g bs r clock limit
  unfolding understood damaged
  told_good bs b page o r clock limit p stamp age a l f q u good h en es ea e =
      e ∙ ap (λ (z : ℤ). judged z limit) (ea ∙ ap (sub_ℕ clock) (es ∙ ap (λ (k : ℕ). number (take 4 (shown_in tears (store_of tears bs) k))) en))
      ∙ age_judged bs o.map r clock limit
      (by_page bs b l ∙ ap (λ (x : Bool). x || damaged g (shown_in tears (store_of tears bs))) f ∙ not-true _ (ap (λ (x : Page). (understood g x).good) (sym q) ∙ ap (λ (c : CommitMap). c.good) (sym u) ∙ good))
      (ap (λ (x : Page). (understood g x).map) (sym q) ∙ ap (λ (c : CommitMap). c.map) (sym u)) h

  pub told_bad : (bs : List ℕ) (b : Bool) (page : Page) (o : CommitMap) (r clock limit : ℕ) → b ≡ lost_in tears (1 + (n + n)) (store_of tears bs) → b ≡ false
      → page ≡ shown_in tears (store_of tears bs) 0 → o ≡ understood g page → o.good ≡ false → refused 4 ≡ age_in tears g bs r clock limit
  unfolding understood damaged
  told_bad bs b page o r clock limit l f q u good =
      age_damaged bs r clock limit
      (by_page bs b l ∙ ap (λ (x : Bool). x || damaged g (shown_in tears (store_of tears bs))) f ∙ not-false _ (ap (λ (x : Page). (understood g x).good) (sym q) ∙ ap (λ (c : CommitMap). c.good) (sym u) ∙ good))

-- what the check of a record's number answers
module _ (m : ℕ) (few : m ≤ 64) where
  pub named_small : (n : ℕ) (r : RecordNumber) → record_named m n ≡ Some r → (under n m ≡ true) × (record_of r ≡ n)
  unfolding record_named record_of
  named_small n r e = go (under n m) refl e
    where
      go : (b : Bool) → under n m ≡ b → cond b (Some (record { 0 = n })) None ≡ Some r → (under n m ≡ true) × (min r.0 63 ≡ n)
      go true u q =
          let s : n ≡ r.0 = ap (λ (x : Option RecordNumber). elim x [ Some y ↦ y.0 | None ↦ n ]) q in
          let l : n < m = under-lt n m u in
          (u, let k = few in omega arith)
      go false u q = absurd (false≢true (ap (λ (x : Option RecordNumber). elim x [ Some y ↦ true | None ↦ false ]) q))

  pub named_below : (n : ℕ) (r : RecordNumber) → record_named m n ≡ Some r → record_of r < m
  named_below n r e = let k = named_small n r e in subst⁻¹ (λ (i : ℕ). i < m) k.1 (under-lt n m k.0)

pub named_none : (m n : ℕ) → record_named m n ≡ None → under n m ≡ false
unfolding record_named
named_none m n e = go (under n m) e
  where
    go : (b : Bool) → cond {A = Option RecordNumber} b (Some (record { 0 = n })) None ≡ None → b ≡ false
    go true q = absurd (true≢false (ap (λ (x : Option RecordNumber). elim x [ Some y ↦ true | None ↦ false ]) q))
    go false q = refl

-- what `ok_or` made an error of, and what not
pub some_from_ok : {A E : Type 0} (o : Option A) (e : E) {x : A} → ok_or o e ≡ Ok x → o ≡ Some x
some_from_ok None e q = absurd (true≢false (sym (ap is_ok q)))
some_from_ok (Some y) e q = ap result_ok q

pub none_from_err : {A E : Type 0} (o : Option A) (e : E) {x : E} → ok_or o e ≡ Err x → (o ≡ None) × (x ≡ e)
none_from_err None e q = (refl, ap (λ r. elim r [ Ok y ↦ e | Err z ↦ z ]) (sym q))
none_from_err (Some y) e q = absurd (true≢false (ap is_ok q))

-- the exported answer, by the case of what was told
pub answered_judged : (a : Age) (old new : ℤ) (t : Result Judged Refusal) (j : Judged) (n : ℕ) → t ≡ Ok j → told_as t ≡ a
    → (n ≡ age_number (judged_age j)) × (new ≡ age_left (judged_age j) old) → (n ≡ age_number a) × (new ≡ age_left a old)
unfolding told_as
answered_judged a old new t j n e q h = let is : judged_age j ≡ a = rw e at q in rw (← is) h

pub answered_refused : (a : Age) (old : ℤ) (t : Result Judged Refusal) (r : Refusal) (n : ℕ) → t ≡ Err r → told_as t ≡ a → n ≡ age_refusal r → (n ≡ age_number a) × (old ≡ age_left a old)
unfolding told_as age_number age_left
answered_refused a old t r n e q k = let is : refused (age_refusal r) ≡ a = rw e at q in rw (← is) (k, refl)
