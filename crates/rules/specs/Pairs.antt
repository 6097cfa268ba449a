-- Pages that can tear (document 02, L5), a part beneath the pages, after Lampson and Sturgis (source document 002, section 5.1): every page is kept as a pair
-- of copies, each with a status. A page write makes the first copy, then the second; a cut may tear the next one.
use Rattle.std.specs.Prelude.{ℕ, zero, suc, ◌+◌, ◌*◌, ◌/◌, ◌%◌, ◌<◌, ◌≡◌, Bool, true, false, not, cond, ◌&&◌, ◌||◌, List, [], ◌∷◌, ◌++◌, length, take, drop, get_or}
use Rattle.std.proofs.Math.Option.{Option}
use Rattle.laws.specs.Tests.{same, under}
use Rattle.laws.specs.Bytes.{same_list}
use Rattle.laws.specs.Counting.{all, any}
use Rattle.laws.specs.Functions.{updated}
use Rattle.rules.specs.Geometry.{Geometry, page_count}
use Rattle.rules.specs.Store.{Page, Pages, flat, home, damaged, emptied, settled, read_prepared, identity_in, pending, fresh}
use Rattle.rules.specs.Commit.{PageWrite, sets, Cut, commit_plan, recover_plan, prepare_plan, decide_plan}
use Rattle.rules.specs.Form.{Form, Medium}

-- "each copy one status byte (1 good, 0 bad; another value counts as bad) and 32 bytes"
pub record Copy : Type 0 where
  pub status : ℕ
  pub page : Page

pub record Pair : Type 0 where
  pub first : Copy
  pub second : Copy

-- a store as its pairs, by page number
abbrev pub Pairs : Type 0
Pairs = ℕ → Pair

unfoldable pub is_good : Copy → Bool
is_good c = same c.status 1

unfoldable pub good : Page → Copy
good p = record { status = 1; page = p }

unfoldable pub bad : Page → Copy
bad p = record { status = 0; page = p }

-- both copies good, with this page: what a page write leaves that isn't torn
unfoldable pub whole : Page → Pair
whole p = record { first = good p; second = good p }

-- What a pair shows: the page of its first good copy, as source 002 has it ("the data of the first representing page if that page is good, otherwise the data
-- of the second page"). A pair all bad has no such page; it shows its first copy's, and no promise speaks of that.
unfoldable pub shows : Pair → Page
shows c = cond (is_good c.first || not (is_good c.second)) c.first.page c.second.page

unfoldable pub shown : Pairs → Pages
shown s n = shows (s n)

-- all bad; good and alike
unfoldable pub all_bad : Pair → Bool
all_bad c = not (is_good c.first || is_good c.second)

unfoldable pub is_whole : Pair → Bool
is_whole c = is_good c.first && (is_good c.second && same_list c.first.page c.second.page)

-- "each pair is mended from its first good copy". (Source 002's Cleanup may choose either one of two good copies that differ; document 02 says the first.) A
-- pair all bad stays: no recovery gets so far.
unfoldable pub mend : Pair → Pair
mend c = cond (all_bad c) c (whole (shows c))

unfoldable pub mended : Pairs → Pairs
mended s n = mend (s n)

-- The next write of this page, torn: "first copy left bad (status 0, old bytes); first new and second bad so; first new and second old. Value 0 is between
-- writes". A bad copy keeps its old bytes; what a way leaves alone keeps status and bytes.
unfoldable pub torn : ℕ → Page → Pair → Pair
torn zero p c = c
torn (suc zero) p c = record { first = bad c.first.page; second = c.second }
torn (suc (suc zero)) p c = record { first = good p; second = bad c.second.page }
torn (suc (suc (suc v))) p c = record { first = good p; second = c.second }

-- "In cases 2 and 3 that write counts as made"
unfoldable pub is_new : ℕ → Bool
is_new zero = false
is_new (suc zero) = false
is_new (suc (suc v)) = true

unfoldable pub counted : ℕ → ℕ
counted v = cond (is_new v) 1 0

-- whole page writes; of the writes that are left, the first is torn
unfoldable pub put_all : List PageWrite → Pairs → Pairs
put_all [] s = s
put_all (sets n p ∷ ws) s = put_all ws (updated n (whole p) s)

unfoldable pub tear_first : ℕ → List PageWrite → Pairs → Pairs
tear_first v [] s = s
tear_first v (sets n p ∷ ws) s = updated n (torn v p (s n)) s

-- Page writes with a cut at c, which tells a count and a way (`cut_of true`). Count below the number of writes due: so many are made, the next is torn, and the
-- crash comes, also where the torn one was the last and counts as made. "With k at W or above nothing tears": all are made, and there is no crash.
unfoldable pub cut_pairs : ℕ → List PageWrite → Pairs → Cut Pairs
cut_pairs c ws s =
    let k : ℕ = c / 4 in
    let v : ℕ = c % 4 in
    record {
      store = tear_first v (drop k ws) (put_all (take k ws) s);
      made = cond (under k (length ws)) (k + counted v) (length ws);
      crashed = under k (length ws);
    }

-- the bytes of a pair: status, page, status, page; "pair after pair in page order with the first copy first"
abbrev pub pair_size : ℕ
pair_size = 66

unfoldable pub copy_in : List ℕ → Copy
copy_in bs = record { status = get_or bs 0 0; page = drop 1 bs }

unfoldable pub pair_in : List ℕ → Pair
pair_in bs = record { first = copy_in (take 33 bs); second = copy_in (drop 33 bs) }

unfoldable pub copy_bytes : Copy → List ℕ
copy_bytes c = c.status ∷ c.page

unfoldable pub pair_bytes : Pair → List ℕ
pair_bytes c = copy_bytes c.first ++ copy_bytes c.second

unfoldable pub pairs_of : List ℕ → Pairs
pairs_of bs p = pair_in (take pair_size (drop (pair_size * p) bs))

unfoldable pub flat_pairs : ℕ → Pairs → List ℕ
flat_pairs n s = flat n (λ p. pair_bytes (s p))

module _ (g : Geometry) where
  -- demand 3's premise in this form: "at most one bad copy in each" pair
  abbrev pub OneBadAtMost : Pairs → Type 0
  OneBadAtMost s = (n : ℕ) → n < page_count g → all_bad (s n) ≡ false

  -- "any pair all bad, or page 0 damaged", which is read from its first good copy
  unfoldable pub damaged_pairs : Pairs → Bool
  damaged_pairs s = any (page_count g) (λ n. all_bad (s n)) || damaged g (shown s)

  -- the commit page is empty and "every pair good and alike"
  unfoldable pub emptied_pairs : Pairs → Bool
  emptied_pairs s = all (page_count g) (λ n. is_whole (s n)) && emptied g (shown s)

  unfoldable pub commit_pairs : Pairs → (ℕ → Option Page) → ℕ → Cut Pairs
  commit_pairs s versions c = cut_pairs c (commit_plan g versions) s

  -- "Before recovery each pair is mended"; "Mending is neither cut nor counted"
  unfoldable pub recover_pairs : Pairs → ℕ → Cut Pairs
  recover_pairs s c = cut_pairs c (recover_plan g (shown s)) (mended s)

  -- (no transaction is prepared where pages tear: `torn_plain` of a proper geometry)
  unfoldable pub prepare_pairs : Pairs → (ℕ → Option Page) → ℕ → ℕ → Cut Pairs
  prepare_pairs s versions i c = cut_pairs c (prepare_plan g versions i) s

  unfoldable pub decide_pairs : Pairs → Bool → ℕ → Cut Pairs
  decide_pairs s d c = cut_pairs c (decide_plan g (shown s) d) s

-- opens the definitions of this module: for what is proved by computing
unfoldable pub open_pairs : Unit {0}
unfolding is_good good bad whole shows shown all_bad is_whole mend mended torn is_new counted put_all tear_first cut_pairs copy_in pair_in copy_bytes pair_bytes pairs_of flat_pairs damaged_pairs emptied_pairs commit_pairs recover_pairs prepare_pairs decide_pairs
open_pairs = tt

-- pages as pairs
abbrev pub paired_pages : Geometry → Medium
paired_pages g = record {
  Store = Pairs;
  size = page_count g * pair_size;
  from_bytes = pairs_of;
  to_bytes = flat_pairs (page_count g);
  fresh = λ n. whole (fresh g n);
  settled = λ s. settled g (shown s);
  home = λ s r. shown s (home g r);
  damaged = damaged_pairs g;
  emptied = emptied_pairs g;
  commit = commit_pairs g;
  recover = recover_pairs g;
  prepared = λ s. identity_in (read_prepared g (shown s 0));
  pending = λ s. pending g (shown s);
  prepare = prepare_pairs g;
  decide = decide_pairs g;
}

-- a geometry's form with pages as pairs
abbrev pub in_pairs : Geometry → Form
in_pairs g = record { geometry = g; medium = paired_pages g }
