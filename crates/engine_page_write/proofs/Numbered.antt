-- The write with a number, phase by phase: which phase it is in, and which record it is of.
use mathlib.Core.Path.{◌≡◌, refl, sym, ap, subst, subst⁻¹, ◌∙◌}
use mathlib.Core.Bool.{Bool, true, false, cond, ◌&&◌, true≢false}
use mathlib.Core.List.{List, [], ◌∷◌, ◌++◌, map, append-nil}
use mathlib.Core.Option.{none, some}
use Prim.Native.Nat.{ℕ, zero, suc, ◌+◌, ◌-◌, ◌*◌, ◌/◌, ◌%◌, ◌^◌, ◌≤◌, ◌<◌}
use native.Mathlib.Nat.{mul-zero}
use native.Mathlib.Numerals.{add-one}
use borrow.Rule.Slice.PartMut.{put_mid}
use mathlib.Core.Logic.{◌≢◌, dite, inl, inr}
use native.Mathlib.Decide.{dec_lt}
use native.Mathlib.Omega.{arith}
use lib.ListN.{length, get_or, set, take, drop, length-append, length-map}
use lib.Seq.{get_or-append_seam, drop-length, take_all}
use Rattle.laws.specs.Tests.{same}
use Rattle.laws.specs.Bytes.{number}
use Rattle.laws.specs.Counting.{count, those}
use Rattle.laws.proofs.Tests.{Same, same_cases, is, isnt, same_refl, ne_false}
use Rattle.laws.proofs.All.{and-false}
use Rattle.laws.proofs.Those.{those-length}
use Rattle.rules.specs.Geometry.{Geometry, records}
use Rattle.rules.specs.Store.{Page, pages_of, named, commit_page, prepared_page}
use Rattle.rules.specs.Commit.{PageWrite, sets}
use Rattle.rules.specs.Editions.{geometry1, geometry2, depths}
use Rattle.leaf_page.proofs.Pages.{put_at}
use Rattle.rules.specs.State.{mem}
use Rattle.rules.proofs.Members.{mem_head, mem_later, those_below}
use Rattle.claim_device.specs.Plan.{write_at}
use Rattle.claim_device.specs.Asked.{write_told, spelled_in, write_size}
use Rattle.claim_device.proofs.CopyWrites.{page_spelled, first_spelled, second_spelled, pages_end, copies_end}
use Rattle.store_write.specs.Phase.{store_of, shown_in}
use Rattle.leaf_commit_page.specs.Heard.{prepared}
use Rattle.leaf_commit_page.specs.Layout.{Known, Layout}
use Rattle.leaf_commit_page.proofs.Places.{layout1, layout2}
use Rattle.store_commit.specs.Phase.{sweep, copies, top_slot}
use Rattle.engine_page_write.specs.declared.Plan.{Plan}
use Rattle.engine_page_write.specs.Phases.{page_number, spelled_write, source_of, when, writes_of}

-- THE RECORD WITH A NUMBER, among those below d that a test picks; d where there is none
module _ (p : ℕ → Bool) (d : ℕ) where
  early : (xs ys : List ℕ) (n : ℕ) → n < length xs → get_or (xs ++ ys) n d ≡ get_or xs n d
  early [] ys n h = absurd (omega arith)
  early (x ∷ xs) ys zero h = refl
  early (x ∷ xs) ys (suc n) h = early xs ys n (omega arith)

  late : (xs : List ℕ) (n : ℕ) → length xs ≤ n → get_or xs n d ≡ d
  late [] n h = refl
  late (x ∷ xs) zero h = absurd (omega arith)
  late (x ∷ xs) (suc n) h = late xs n (omega arith)

  -- one number more at the end
  behind : (xs : List ℕ) (r n : ℕ) → get_or (xs ++ (r ∷ [])) n d ≡ cond (same (length xs) n) r (get_or xs n d)
  behind xs r n = go (same_cases (length xs) n)
    where
      go : Same (length xs) n → get_or (xs ++ (r ∷ [])) n d ≡ cond (same (length xs) n) r (get_or xs n d)
      go (is e q _) = rw (q, ← e) (get_or-append_seam xs r [] d)
      go (isnt e q _) = rw q (
          dite (dec_lt n (length xs))
          (λ h. early xs (r ∷ []) n h)
          (λ h. late (xs ++ (r ∷ [])) n (rw (length-append xs (r ∷ [])) (omega (arith, e, h))) ∙ sym (late xs n (omega (arith, e, h)))))

  pub next_record : (r n : ℕ) → get_or (those (suc r) p) n d ≡ cond (p r && same (count r p) n) r (get_or (those r p) n d)
  unfolding those
  next_record r n = go (p r)
    where
      go : (b : Bool) → get_or (those r p ++ cond b (r ∷ []) []) n d ≡ cond (b && same (count r p) n) r (get_or (those r p) n d)
      go true = behind (those r p) r n ∙ rw (those-length r p)
      go false = ap (λ (xs : List ℕ). get_or xs n d) (append-nil (those r p))

  pub next_count : (r : ℕ) → count (suc r) p ≡ cond (p r) (count r p + 1) (count r p)
  unfolding count
  next_count r = go (p r)
    where
      go : (b : Bool) → cond b (suc (count r p)) (count r p) ≡ cond b (count r p + 1) (count r p)
      go true = omega arith
      go false = refl

  -- the record that a test picks as the one with a number stays that
  more : (b : Bool) (x n : ℕ) → n < x → n < cond b (x + 1) x
  more true x n h = omega arith
  more false x n h = h

  stays : (r n k : ℕ) → p r ≡ true → count r p ≡ n → r < k → (get_or (those k p) n d ≡ r) × (n < count k p)
  stays r n zero b e h = absurd (omega arith)
  stays r n (suc k) b e h =
      dite (dec_lt r k)
      (λ lt.
      let s = stays r n k b e lt in
      let other : count k p ≢ n = λ q. (let z = s.1 in omega (arith, q, z)) in
      (next_record k n ∙ rw (ne_false (count k p) n other, and-false (p k)) s.0, rw (next_count k) (more (p k) (count k p) n s.1)))
      (λ nlt.
      let z : r ≡ k = omega arith in
      subst (λ (k : ℕ). (get_or (those (suc k) p) n d ≡ r) × (n < count (suc k) p)) z (next_record r n ∙ rw (b, e, same_refl n) refl, rw (next_count r, b, e) (omega arith)))

  pub picked_at : (r n k : ℕ) → p r ≡ true → count r p ≡ n → r < k → r ≡ get_or (those k p) n d
  picked_at r n k b e h = sym (stays r n k b e h).0

  pub past_last : (n k : ℕ) → count k p ≤ n → d ≡ get_or (those k p) n d
  past_last n k h = sym (late (those k p) n (rw (those-length k p) h))

  -- the record with a number that there is
  among : (xs : List ℕ) (n : ℕ) → n < length xs → mem (get_or xs n d) xs ≡ true
  among [] n h = absurd (omega arith)
  among (x ∷ xs) zero h = mem_head x xs
  among (x ∷ xs) (suc n) h = mem_later (get_or xs n d) x xs (among xs n (omega arith))

  pub record_small : (n : ℕ) → n < count d p → get_or (those d p) n d < d
  record_small n h = those_below d p (get_or (those d p) n d) (among (those d p) n (rw (those-length d p) h))

-- THE WRITE WITH A NUMBER, among page writes one phase after the other
first_at : (n : ℕ) (xs ys : List PageWrite) → n < length xs → write_at n (xs ++ ys) ≡ write_at n xs
unfolding write_at
first_at n [] ys h = absurd (omega arith)
first_at zero (x ∷ xs) ys h = refl
first_at (suc n) (x ∷ xs) ys h = first_at n xs ys (omega arith)

rest_at : (n : ℕ) (xs ys : List PageWrite) → write_at (length xs + n) (xs ++ ys) ≡ write_at n ys
unfolding write_at
rest_at n [] ys = ap (λ (k : ℕ). write_at k ys) (omega arith)
rest_at n (x ∷ xs) ys = ap (λ (k : ℕ). write_at k (x ∷ (xs ++ ys))) (let e : suc (length xs) + n ≡ suc (length xs + n) = omega arith in e) ∙ rest_at n xs ys

past_at : (n : ℕ) (ws : List PageWrite) → length ws ≤ n → write_at n ws ≡ none
unfolding write_at
past_at n [] h = refl
past_at zero (w ∷ ws) h = absurd (omega arith)
past_at (suc n) (w ∷ ws) h = past_at n ws (omega arith)

each_at : (d : ℕ) (f : ℕ → PageWrite) (n : ℕ) (rs : List ℕ) → n < length rs → write_at n (map f rs) ≡ some (f (get_or rs n d))
unfolding write_at
each_at d f n [] h = absurd (omega arith)
each_at d f zero (r ∷ rs) h = refl
each_at d f (suc n) (r ∷ rs) h = each_at d f n rs (omega arith)

-- a phase that there may be
when-length : (b : Bool) (ws : List PageWrite) → length (when b ws) ≡ cond b (length ws) 0
unfolding when
when-length true ws = refl
when-length false ws = refl

one_at : (b : Bool) (n : ℕ) (w : PageWrite) → n < cond b 1 0 → write_at n (when b (w ∷ [])) ≡ some w
unfolding write_at when
one_at true zero w h = refl
one_at true (suc n) w h = absurd (omega arith)
one_at false n w h = absurd (omega arith)

sweep-length : (d : ℕ) (p : ℕ → Bool) (f : ℕ → PageWrite) → length (sweep p f d) ≡ count d p
unfolding sweep
sweep-length d p f = length-map (those d p) f ∙ those-length d p

sweep_at : (d : ℕ) (b : Bool) (n : ℕ) (p : ℕ → Bool) (f : ℕ → PageWrite) → n < cond b (count d p) 0 → write_at n (when b (sweep p f d)) ≡ some (f (get_or (those d p) n d))
unfolding when sweep
sweep_at d true n p f h = each_at d f n (those d p) (rw (those-length d p) h)
sweep_at d false n p f h = absurd (omega arith)

-- behind a phase with j page writes before it
skip_phase : (n j k : ℕ) (xs ys : List PageWrite) → length xs ≡ k → j + k ≤ n → write_at (n - j) (xs ++ ys) ≡ write_at (n - (j + k)) ys
skip_phase n j k xs ys e h =
    ap (λ (i : ℕ). write_at i (xs ++ ys)) (let q : n - j ≡ length xs + (n - (j + k)) = omega (arith, e) in q) ∙ rest_at (n - (j + k)) xs ys

in_phase : (n j k : ℕ) (xs ys : List PageWrite) → length xs ≡ k → n < j + k → j ≤ n → write_at (n - j) (xs ++ ys) ≡ write_at (n - j) xs
in_phase n j k xs ys e h g = first_at (n - j) xs ys (rw e (omega arith))

-- what is told of the write with a number, by the page write that it is or is a copy of
halves : (n : ℕ) → n % 2 ≡ 0 → n ≡ 2 * (n / 2)
halves n e = omega (arith, e)

halves_odd : (n : ℕ) → n % 2 ≢ 0 → n ≡ 2 * (n / 2) + 1
halves_odd n h = omega (arith, h)

module _ (ws : List PageWrite) where
  numbered : (tears : Bool) (index n : ℕ) (page : Page) → write_at (page_number tears index) ws ≡ some (sets n page) → write_at index (spelled_in tears ws) ≡ some (spelled_write tears index n page)
  numbered false index n page e = page_spelled index ws n page e
  numbered true index n page e = go (same_cases (index % 2) 0)
    where
      go : Same (index % 2) 0 → write_at index (spelled_in true ws) ≡ some (n ∷ index % 2 ∷ page)
      go (is z _ _) = ap (λ (k : ℕ). write_at k (spelled_in true ws)) (halves index z) ∙ first_spelled (index / 2) ws n page e ∙ ap (λ (c : ℕ). some (n ∷ c ∷ page)) (sym z)
      go (isnt z _ _) =
          let odd : 1 ≡ index % 2 = omega (arith, z) in
          ap (λ (k : ℕ). write_at k (spelled_in true ws)) (halves_odd index z) ∙ second_spelled (index / 2) ws n page e ∙ ap (λ (c : ℕ). some (n ∷ c ∷ page)) odd

  numbered-none : (tears : Bool) (index : ℕ) → write_at (page_number tears index) ws ≡ none → write_at index (spelled_in tears ws) ≡ none
  numbered-none false index e = pages_end index ws e
  numbered-none true index e = copies_end (index / 2) ws index e (let z : 2 * (index / 2) ≤ index = omega arith in z)

  pub told_write : (tears : Bool) (index i : ℕ) → i ≡ page_number tears index → (write write' : List ℕ) (n : ℕ) (page : Page) → write_at i ws ≡ some (sets n page) → write' ≡ spelled_write tears index n page
      → (let said = write_told (write_at index (spelled_in tears ws)) write in (0 ≡ said.answer) × (write' ≡ said.write))
  unfolding write_told
  told_write tears index i named write write' n page e q = rw (numbered tears index n page (ap (λ (k : ℕ). write_at k ws) (sym named) ∙ e)) (refl, q)

  pub told_none : (tears : Bool) (index i : ℕ) → i ≡ page_number tears index → (write : List ℕ) → write_at i ws ≡ none
      → (let said = write_told (write_at index (spelled_in tears ws)) write in (12 ≡ said.answer) × (write ≡ said.write))
  unfolding write_told
  told_none tears index i named write e = rw (numbered-none tears index (ap (λ (k : ℕ). write_at k ws) (sym named) ∙ e)) (refl, refl)

less : (there : Bool) (n : ℕ) {k : ℕ} → n < cond there k 0 → n < k
less true n h = h
less false n h = absurd (omega arith)

-- THE PHASES OF A PLAN, by their lengths: m records are named
pub record Lengths (p : Plan) (m a b c d e : ℕ) : Type 0 where
  pub intentions : a ≡ cond p.intentions m 0
  pub committed : b ≡ cond p.committed 1 0
  pub prepared : c ≡ cond p.prepared 1 0
  pub homes : d ≡ cond p.homes m 0
  pub emptied : e ≡ cond p.emptied 1 0

module _ (tears : Bool) (g : Geometry) (N : ℕ) (p : Plan) (work store : List ℕ) (index m a b c d e : ℕ) (ones : m ≡ count N (named g p.map)) (S : Lengths p m a b c d e) where
  abbrev picks : ℕ → Bool
  picks = named g p.map

  abbrev pages : ℕ → ℕ → PageWrite
  pages first = copies first (source_of tears p work store)

  abbrev committed : PageWrite
  committed = sets 0 (commit_page g p.map)

  abbrev held : PageWrite
  held = sets 0 (prepared_page g (prepared p.map p.identity))

  abbrev empty : PageWrite
  empty = sets 0 (commit_page g 0)

  abbrev from_5 : List PageWrite
  from_5 = when p.emptied (empty ∷ [])

  abbrev from_4 : List PageWrite
  from_4 = when p.homes (sweep picks (pages (1 + N)) N) ++ from_5

  abbrev from_3 : List PageWrite
  from_3 = when p.prepared (held ∷ []) ++ from_4

  abbrev from_2 : List PageWrite
  from_2 = when p.committed (committed ∷ []) ++ from_3

  sweeps : (there : Bool) (f : ℕ → PageWrite) (k : ℕ) → k ≡ cond there m 0 → length (when there (sweep picks f N)) ≡ k
  sweeps there f k h = when-length there (sweep picks f N) ∙ ap (λ (n : ℕ). cond there n 0) (sweep-length N picks f ∙ sym ones) ∙ sym h

  single : (there : Bool) (w : PageWrite) (k : ℕ) → k ≡ cond there 1 0 → length (when there (w ∷ [])) ≡ k
  single there w k h = when-length there (w ∷ []) ∙ sym h

  counted : (there : Bool) (k n : ℕ) → k ≡ cond there m 0 → n < k → n < cond there (count N picks) 0
  counted there k n h lt = rw (← ones, ← h) lt

  -- from each phase on
  after_1 : a ≤ index → write_at index (writes_of tears g N p work store) ≡ write_at (index - a) from_2
  unfolding writes_of
  after_1 h = ap (λ (i : ℕ). write_at i (writes_of tears g N p work store)) (let z : index ≡ index - 0 = omega arith in z) ∙ skip_phase index 0 a (when p.intentions (sweep picks (pages 1) N)) from_2 (sweeps p.intentions (pages 1) a S.intentions) (omega arith) ∙ ap (λ (i : ℕ). write_at i from_2) (let z : index - (0 + a) ≡ index - a = omega arith in z)

  after_2 : a + b ≤ index → write_at index (writes_of tears g N p work store) ≡ write_at (index - (a + b)) from_3
  after_2 h = after_1 (omega arith) ∙ skip_phase index a b (when p.committed (committed ∷ [])) from_3 (single p.committed committed b S.committed) h

  after_3 : a + b + c ≤ index → write_at index (writes_of tears g N p work store) ≡ write_at (index - (a + b + c)) from_4
  after_3 h = after_2 (omega arith) ∙ skip_phase index (a + b) c (when p.prepared (held ∷ [])) from_4 (single p.prepared held c S.prepared) h

  after_4 : a + b + c + d ≤ index → write_at index (writes_of tears g N p work store) ≡ write_at (index - (a + b + c + d)) from_5
  after_4 h = after_3 (omega arith) ∙ skip_phase index (a + b + c) d (when p.homes (sweep picks (pages (1 + N)) N)) from_5 (sweeps p.homes (pages (1 + N)) d S.homes) h

  -- the record whose page is written
  page_of : (first n r : ℕ) (page : Page) → r ≡ get_or (those N picks) n N → page ≡ source_of tears p work store r → pages first (get_or (those N picks) n N) ≡ sets (first + r) page
  unfolding copies
  page_of first n r page q z = ap (λ (k : ℕ). sets (first + k) (source_of tears p work store k)) (sym q) ∙ ap (sets (first + r)) (sym z)

  pub in_1 : index < a → (r : ℕ) (page : Page) → r ≡ get_or (those N picks) index N → page ≡ source_of tears p work store r → write_at index (writes_of tears g N p work store) ≡ some (sets (1 + r) page)
  unfolding writes_of
  in_1 h r page q z =
      first_at index (when p.intentions (sweep picks (pages 1) N)) from_2 (rw (sweeps p.intentions (pages 1) a S.intentions) h)
      ∙ sweep_at N p.intentions index picks (pages 1) (counted p.intentions a index S.intentions h)
      ∙ ap some (page_of 1 index r page q z)

  pub in_2 : a ≤ index → index < a + b → write_at index (writes_of tears g N p work store) ≡ some committed
  in_2 l h =
      after_1 l ∙ in_phase index a b (when p.committed (committed ∷ [])) from_3 (single p.committed committed b S.committed) h l
      ∙ one_at p.committed (index - a) committed (rw (← S.committed) (omega arith))

  pub in_3 : a + b ≤ index → index < a + b + c → write_at index (writes_of tears g N p work store) ≡ some held
  in_3 l h =
      after_2 l ∙ in_phase index (a + b) c (when p.prepared (held ∷ [])) from_4 (single p.prepared held c S.prepared) h l
      ∙ one_at p.prepared (index - (a + b)) held (rw (← S.prepared) (omega arith))

  pub in_4 : a + b + c ≤ index → index < a + b + c + d → (r : ℕ) (page : Page) → r ≡ get_or (those N picks) (index - (a + b + c)) N → page ≡ source_of tears p work store r
      → write_at index (writes_of tears g N p work store) ≡ some (sets (1 + N + r) page)
  in_4 l h r page q z =
      after_3 l ∙ in_phase index (a + b + c) d (when p.homes (sweep picks (pages (1 + N)) N)) from_5 (sweeps p.homes (pages (1 + N)) d S.homes) h l
      ∙ sweep_at N p.homes (index - (a + b + c)) picks (pages (1 + N)) (counted p.homes d (index - (a + b + c)) S.homes (omega arith))
      ∙ ap some (page_of (1 + N) (index - (a + b + c)) r page q z)

  pub in_5 : a + b + c + d ≤ index → index < a + b + c + d + e → write_at index (writes_of tears g N p work store) ≡ some empty
  in_5 l h = after_4 l ∙ one_at p.emptied (index - (a + b + c + d)) empty (rw (← S.emptied) (omega arith))

  pub in_none : a + b + c + d + e ≤ index → write_at index (writes_of tears g N p work store) ≡ none
  in_none h = after_4 (omega arith) ∙ past_at (index - (a + b + c + d)) from_5 (rw (single p.emptied empty e S.emptied) (omega arith))

  -- a record with a number that there is
  pub small_1 : index < a → (r : ℕ) → r ≡ get_or (those N picks) index N → r < N
  small_1 h r q = rw q (record_small picks N index (less p.intentions index (counted p.intentions a index S.intentions h)))

  pub small_4 : a + b + c ≤ index → index < a + b + c + d → (r : ℕ) → r ≡ get_or (those N picks) (index - (a + b + c)) N → r < N
  small_4 l h r q = rw q (record_small picks N (index - (a + b + c)) (less p.homes (index - (a + b + c)) (counted p.homes d (index - (a + b + c)) S.homes (omega arith))))

-- BETWEEN THE CODE AND THE RULES
-- a geometry of so many records, where the code can lay its commit page
pub known_layout : (n : ℕ) → Known n → (g : Geometry) × Layout g n
known_layout n (inl e) = (geometry1, subst⁻¹ (Layout geometry1) e layout1)
known_layout n (inr e) = (geometry2, subst⁻¹ (Layout geometry2) e layout2)

-- how many records a map names
pub ones_are : (g : Geometry) (n map m : ℕ) → records g ≡ n → map < 2 ^ n → ((g : Geometry) → map < 2 ^ records g → m ≡ count (records g) (named g map)) → m ≡ count n (named g map)
ones_are g n map m many h e = e g (subst⁻¹ (λ (k : ℕ). map < 2 ^ k) many h) ∙ ap (λ (k : ℕ). count k (named g map)) many

-- a phase that has a page write is there
pub there_is : (there : Bool) (k n : ℕ) → k ≡ cond there n 0 → 0 < k → there ≡ true
there_is true k n e h = refl
there_is false k n e h = absurd (omega arith)

-- how many are named, after one more
pub named_more : (g : Geometry) (map r seen : ℕ) (b : Bool) → b ≡ named g map r → seen ≡ count r (named g map) → cond b (seen + 1) seen ≡ count (r + 1) (named g map)
named_more g map r seen b e q = (λ i. cond (e i) (q i + 1) (q i)) ∙ sym (next_count (named g map) 0 r) ∙ ap (λ (k : ℕ). count k (named g map)) (sym (add-one r))

-- the page that is written
pub source_stored : (tears : Bool) (p : Plan) (work store : List ℕ) (r : ℕ) (page : Page) → page ≡ shown_in tears (store_of tears store) (1 + r) → p.stored ≡ true → page ≡ source_of tears p work store r
unfolding source_of
source_stored tears p work store r page e q = e ∙ rw q

pub source_version : (tears : Bool) (p : Plan) (work store : List ℕ) (r : ℕ) (page : Page) → page ≡ pages_of work (r * depths) → p.stored ≡ false → page ≡ source_of tears p work store r
unfolding source_of top_slot
source_version tears p work store r page e q = e ∙ rw q

-- the number before the page, and the copy's number between them
spelled : (l part page : List ℕ) (n : ℕ) → length l ≡ 33 → part ≡ page → put_mid 1 (33 - 1) (set l 0 n) part ≡ n ∷ page
spelled [] part page n h e = absurd (omega (arith, h))
spelled (x ∷ xs) part page n h e =
    put_at 1 32 (n ∷ xs) part ∙ ap (λ (l : List ℕ). n ∷ (part ++ l)) (ap (λ (k : ℕ). drop k xs) (let z : 32 ≡ length xs = omega (arith, h) in z) ∙ drop-length xs)
    ∙ ap (λ (l : List ℕ). n ∷ l) (append-nil part ∙ e)

spelled_copy : (l part page : List ℕ) (n c : ℕ) → length l ≡ 34 → part ≡ page → put_mid 2 (34 - 2) (set (set l 0 n) 1 c) part ≡ n ∷ c ∷ page
spelled_copy [] part page n c h e = absurd (omega (arith, h))
spelled_copy (x ∷ []) part page n c h e = absurd (omega (arith, h))
spelled_copy (x ∷ y ∷ xs) part page n c h e =
    put_at 2 32 (n ∷ c ∷ xs) part ∙ ap (λ (l : List ℕ). n ∷ c ∷ (part ++ l)) (ap (λ (k : ℕ). drop k xs) (let z : 32 ≡ length xs = omega (arith, h) in z) ∙ drop-length xs)
    ∙ ap (λ (l : List ℕ). n ∷ c ∷ l) (append-nil part ∙ e)

-- the buffer for a write, by the code's test
pub sized_copy : (tears : Bool) (l : List ℕ) → tears ≡ true → length l ≡ write_size tears → length l ≡ 34
sized_copy true l q e = e
sized_copy false l q e = absurd (true≢false (sym q))

pub sized_page : (tears : Bool) (l : List ℕ) → tears ≡ false → length l ≡ write_size tears → length l ≡ 33
sized_page true l q e = absurd (true≢false q)
sized_page false l q e = e

pub at_least : (tears : Bool) (l : List ℕ) → length l ≡ write_size tears → 0 < length l
at_least true l e = omega (arith, e)
at_least false l e = omega (arith, e)

pub put_copy : (tears : Bool) (l part page : List ℕ) (index n : ℕ) → tears ≡ true → length l ≡ write_size tears → part ≡ page → put_mid 2 (34 - 2) (set (set l 0 n) 1 (index % 2)) part ≡ spelled_write tears index n page
put_copy true l part page index n q h e = spelled_copy l part page n (index % 2) h e
put_copy false l part page index n q h e = absurd (true≢false (sym q))

pub put_whole : (tears : Bool) (l part page : List ℕ) (index n : ℕ) → tears ≡ false → length l ≡ write_size tears → part ≡ page → put_mid 1 (33 - 1) (set l 0 n) part ≡ spelled_write tears index n page
put_whole true l part page index n q h e = absurd (true≢false q)
put_whole false l part page index n q h e = spelled l part page n h e

pub bytes_long : (tears : Bool) (index n : ℕ) (page : List ℕ) → length page ≡ 32 → length (spelled_write tears index n page) ≡ write_size tears
bytes_long false index n page h = ap suc h
bytes_long true index n page h = ap (λ (k : ℕ). suc (suc k)) h

pub within : (x : ℕ) (there : Bool) (n : ℕ) → x ≡ cond there n 0 → x ≤ n
within x true n e = omega (arith, e)
within x false n e = omega (arith, e)

-- an event's word alone is all of its s bytes
pub word_is : (s : ℕ) (bs : List ℕ) → length bs ≡ s → number (take s (drop (s * 0) bs)) ≡ number bs
word_is s bs h = ap (λ (k : ℕ). number (take s (drop k bs))) (mul-zero s) ∙ ap number (take_all s bs (omega (arith, h)))
