-- What a store shows (its commit page, its intention pages, its home pages), and what page writes make of that.
use mathlib.Core.Path.{◌≡◌, refl, sym, ◌∙◌, ap}
use mathlib.Core.Bool.{Bool, true, false, cond, ◌&&◌, ◌||◌, true≢false, false≢true}
use mathlib.Core.List.{List, [], ◌∷◌, ◌++◌, map}
use mathlib.Core.Option.{Option, none, some}
use Prim.Native.Nat.{ℕ, zero, suc, ◌+◌, ◌<◌}
use native.Mathlib.Omega.{arith}
use lib.Pow.{pow_pos}
use lib.ListN.{take}
use Rattle.laws.specs.Tests.{same, under}
use Rattle.laws.specs.Counting.{those}
use Rattle.laws.specs.Functions.{updated}
use Rattle.laws.proofs.Tests.{same_cases, Same, is, isnt, same-eq, same_refl, Is, is_cases, yes', no', under-lt, lt-under}
use Rattle.laws.proofs.Updated.{updated_same, updated_other}
use Rattle.rules.specs.Geometry.{Geometry, Proper, records}
use Rattle.rules.specs.Store.{Page, Pages, intention, home, map_of, named, commit_page, read_commit, map_in, is_emptied, is_named, settled}
use Rattle.rules.specs.State.{mem}
use Rattle.rules.specs.Commit.{PageWrite, written, applied, intentions, homes}
use Rattle.rules.proofs.Map.{named-map_of, map_of-lt, named-zero}
use Rattle.rules.proofs.CommitPage.{read_commit_page}
use Rattle.rules.proofs.Members.{mem_head, mem_later, those_only, those-all, those_below}

-- f on the records of a list, base elsewhere
unfoldable pub lay : (ℕ → Page) → List ℕ → (ℕ → Page) → ℕ → Page
lay f rs base q = cond (mem q rs) (f q) (base q)

lay_one : (f : ℕ → Page) (r : ℕ) (rs : List ℕ) (base : ℕ → Page) (q : ℕ) → lay f rs (λ q. cond (same q r) (f r) (base q)) q ≡ lay f (r ∷ rs) base q
unfolding lay mem
lay_one f r rs base q = go (same_cases q r) (mem q rs)
  where
    go : Same q r → (b : Bool) → cond b (f q) (cond (same q r) (f r) (base q)) ≡ cond (same q r || b) (f q) (base q)
    go (is e k _) true = rw k
    go (is e k _) false = rw (k, e)
    go (isnt e k _) b = rw k

pub applied-append : (xs ys : List PageWrite) (s : Pages) → applied (xs ++ ys) s ≡ applied ys (applied xs s)
unfolding applied
applied-append [] ys s = refl
applied-append (x ∷ xs) ys s = applied-append xs ys (written x s)

pub take-map : {A : Type 0} (f : ℕ → A) (k : ℕ) (rs : List ℕ) → take k (map f rs) ≡ map f (take k rs)
take-map f zero rs = refl
take-map f (suc k) [] = refl
take-map f (suc k) (r ∷ rs) = ap (f r ∷◌) (take-map f k rs)

module _ (g : Geometry) where
  pub record Shows (x : Pages) (mark : Page) (plan homed : ℕ → Page) : Type 0 where
    pub at_mark : x 0 ≡ mark
    pub at_plan : (q : ℕ) → q < records g → x (intention q) ≡ plan q
    pub at_home : (q : ℕ) → x (home g q) ≡ homed q

  pub shows_itself : (s : Pages) → Shows s (s 0) (λ q. s (intention q)) (λ q. s (home g q))
  shows_itself s = record { at_mark = refl; at_plan = λ q h. refl; at_home = λ q. refl }

  module _ {x : Pages} {mark : Page} {plan homed : ℕ → Page} (S : Shows x mark plan homed) where
    shows_as : {plan' homed' : ℕ → Page} → ((q : ℕ) → plan q ≡ plan' q) → ((q : ℕ) → homed q ≡ homed' q) → Shows x mark plan' homed'
    shows_as p h = record { at_mark = S.at_mark; at_plan = λ q k. S.at_plan q k ∙ p q; at_home = λ q. S.at_home q ∙ h q }

    pub shows_mark : (p : Page) → Shows (updated 0 p x) p plan homed
    unfolding intention home
    shows_mark p = record {
      at_mark = updated_same 0 p x;
      at_plan = λ q h. updated_other 0 p x (1 + q) (λ e. omega arith) ∙ S.at_plan q h;
      at_home = λ q. updated_other 0 p x (1 + (records g + q)) (λ e. omega arith) ∙ S.at_home q;
    }

    shows_intention : (r : ℕ) (p : Page) → r < records g → Shows (updated (intention r) p x) mark (λ q. cond (same q r) p (plan q)) homed
    unfolding intention home
    shows_intention r p k = record {
      at_mark = updated_other (1 + r) p x 0 (λ e. omega arith) ∙ S.at_mark;
      at_plan = λ q h. go q h (same_cases q r);
      at_home = λ q. updated_other (1 + r) p x (1 + (records g + q)) (λ e. omega arith) ∙ S.at_home q;
    }
      where
        go : (q : ℕ) → q < records g → Same q r → updated (1 + r) p x (1 + q) ≡ cond (same q r) p (plan q)
        go q h (is e z _) = rw z (ap (λ n. updated (1 + r) p x (1 + n)) e ∙ updated_same (1 + r) p x)
        go q h (isnt e z _) = rw z (updated_other (1 + r) p x (1 + q) (λ d. e (omega arith)) ∙ S.at_plan q h)

    shows_home : (r : ℕ) (p : Page) → Shows (updated (home g r) p x) mark plan (λ q. cond (same q r) p (homed q))
    unfolding intention home
    shows_home r p = record {
      at_mark = updated_other (1 + (records g + r)) p x 0 (λ e. omega arith) ∙ S.at_mark;
      at_plan = λ q h. updated_other (1 + (records g + r)) p x (1 + q) (λ e. omega arith) ∙ S.at_plan q h;
      at_home = λ q. go q (same_cases q r);
    }
      where
        go : (q : ℕ) → Same q r → updated (1 + (records g + r)) p x (1 + (records g + q)) ≡ cond (same q r) p (homed q)
        go q (is e z _) = rw z (ap (λ n. updated (1 + (records g + r)) p x (1 + (records g + n))) e ∙ updated_same (1 + (records g + r)) p x)
        go q (isnt e z _) = rw z (updated_other (1 + (records g + r)) p x (1 + (records g + q)) (λ d. e (omega arith)) ∙ S.at_home q)

  -- intention pages written for some records; home pages
  pub shows_intentions : (f : ℕ → Page) (rs : List ℕ) {x : Pages} {mark : Page} {plan homed : ℕ → Page} → ((q : ℕ) → mem q rs ≡ true → q < records g) → Shows x mark plan homed
      → Shows (applied (intentions g f rs) x) mark (lay f rs plan) homed
  unfolding intentions applied written lay mem
  shows_intentions f [] h S = S
  shows_intentions f (r ∷ rs) {plan = plan} h S =
      shows_as (shows_intentions f rs (λ q e. h q (mem_later q r rs e)) (shows_intention S r (f r) (h r (mem_head r rs)))) (lay_one f r rs plan) (λ q. refl)

  pub shows_homes : (f : ℕ → Page) (rs : List ℕ) {x : Pages} {mark : Page} {plan homed : ℕ → Page} → Shows x mark plan homed
      → Shows (applied (homes g f rs) x) mark plan (lay f rs homed)
  unfolding homes applied written lay mem
  shows_homes f [] S = S
  shows_homes f (r ∷ rs) {homed = homed} S = shows_as (shows_homes f rs (shows_home S r (f r))) (λ q. refl) (lay_one f r rs homed)

  -- the records that a page names as a commit page
  unfoldable pub names : Page → ℕ → Bool
  names page r = under r (records g) && named g (map_in (read_commit g page)) r

  pub names_below : (page : Page) (r : ℕ) → names page r ≡ true → r < records g
  unfolding names
  names_below page r e = go (is_cases (under r (records g)))
    where
      go : Is (under r (records g)) → r < records g
      go (yes' k) = under-lt r (records g) k
      go (no' k) = absurd (false≢true (rw k at e))

  pub settled_shows : {x : Pages} {mark : Page} {plan homed : ℕ → Page} → Shows x mark plan homed → (r : ℕ) → settled g x r ≡ cond (names mark r) (plan r) (homed r)
  unfolding settled is_named names
  settled_shows {x} {mark} {plan} {homed} S r = rw S.at_mark (go (is_cases (names mark r)))
    where
      go : Is (names mark r) → cond (names mark r) (x (intention r)) (x (home g r)) ≡ cond (names mark r) (plan r) (homed r)
      go (yes' k) = rw k (S.at_plan r (names_below mark r k))
      go (no' k) = rw k (S.at_home r)

  -- an empty commit page names no record
  pub names_empty : (page : Page) → is_emptied (read_commit g page) ≡ true → (r : ℕ) → names page r ≡ false
  unfolding names map_in is_emptied
  names_empty page e r = go (read_commit g page) refl
    where
      off : (b : Bool) → (b && false) ≡ false
      off true = refl
      off false = refl

      go : (o : Option ℕ) → read_commit g page ≡ o → (under r (records g) && named g (map_in o) r) ≡ false
      go none q = absurd (false≢true (rw q at e))
      go (some m) q = let z : m ≡ 0 = same-eq m 0 (rw q at e) in rw (z, named-zero g r) (off (under r (records g)))

  -- nor does a page that has no map
  pub names_unread : (page : Page) → read_commit g page ≡ none → (r : ℕ) → names page r ≡ false
  unfolding names map_in
  names_unread page e r = rw (e, named-zero g r) (off (under r (records g)))
    where
      off : (b : Bool) → (b && false) ≡ false
      off true = refl
      off false = refl

  module _ (proper : Proper g) where
    pub emptied-zero : is_emptied (read_commit g (commit_page g 0)) ≡ true
    unfolding is_emptied
    emptied-zero = rw (read_commit_page g proper 0 (pow_pos (records g))) (same_refl 0)

    -- a commit page for some records names them
    pub names_those : (p : ℕ → Bool) (r : ℕ) → names (commit_page g (map_of g p)) r ≡ mem r (those (records g) p)
    unfolding names map_in
    names_those p r = rw (read_commit_page g proper (map_of g p) (map_of-lt g p)) (go (is_cases (under r (records g))) (is_cases (p r)) (is_cases (mem r (those (records g) p))))
      where
        go : Is (under r (records g)) → Is (p r) → Is (mem r (those (records g) p)) → (under r (records g) && named g (map_of g p) r) ≡ mem r (those (records g) p)
        go (yes' k) (yes' a) b = rw (k, named-map_of g p r (under-lt r (records g) k), a) (sym (those-all (records g) p r (under-lt r (records g) k) a))
        go (yes' k) (no' a) (no' b) = rw (k, named-map_of g p r (under-lt r (records g) k), a, b)
        go (yes' k) (no' a) (yes' b) = absurd (true≢false (sym (those_only (records g) p r b) ∙ a))
        go (no' k) a (no' b) = rw (k, b)
        go (no' k) a (yes' b) = absurd (true≢false (sym (lt-under r (records g) (those_below (records g) p r b)) ∙ k))
