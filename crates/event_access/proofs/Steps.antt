-- Locks, reads and writes: what the changes of the arrays are in the rules.
use mathlib.Core.Path.{◌≡◌, refl, sym, ap, ap₂, subst, subst⁻¹, ◌∙◌, fun_ext}
use mathlib.Core.Bool.{Bool, true, false, cond, or-true, and-false}
use mathlib.Core.List.{List}
use mathlib.Core.Option.{none, some}
use Prim.Native.Nat.{ℕ, ◌*◌, ◌<◌}
use native.Mathlib.Omega.{arith}
use lib.ListN.{length, get_or, set}
use Rattle.laws.specs.Functions.{updated}
use Rattle.laws.proofs.Tests.{same_cases, Same, is, isnt, Is, is_cases, yes', no'}
use Rattle.laws.proofs.Updated.{updated_same, updated_other}
use Rattle.rules.specs.Store.{Page, named, pages_of}
use Rattle.rules.specs.Event.{Access, lock, write, read}
use Rattle.rules.specs.State.{line_of}
use Rattle.rules.specs.Locks.{grantable}
use Rattle.rules.specs.Versions.{with_version}
use Rattle.rules.specs.Form.{Form}
use Rattle.rules.specs.Geometry.{Geometry, records}
use Rattle.rules.specs.Step.{refused, reserved, number_of, value_of, locked, wrote, finished, visible}
use Rattle.rules.specs.Editions.{form_in}
use Rattle.leaf_set.specs.Sets.{sets}
use Rattle.state_array.specs.View.{Owners, any_mode, write_mode, bearers_of, modes_of, Nested, slot, versions_of, seen}
use Rattle.state_array.specs.Changes.{barring, open_to, joined, joined_for}
use Rattle.state_array.proofs.Nested.{joined_nested}
use Rattle.state_array.proofs.Modes.{grantable_is, joined_granted}
use Rattle.state_lock.specs.Granting.{Granting}
use Rattle.state_version.specs.Parts.{Written}
use Rattle.state_whole.specs.Whole.{Arrays, arrays, view, line_in, Formed, Intact, engine_answer, Stepped, ReadyLeaf, Reserves}
use Rattle.state_whole.proofs.Rules.{lock_done, lock_refused, read_done, read_refused, write_done, write_refused}
use Rattle.state_whole.proofs.Reserves.{reserved_test}
use Rattle.state_whole.proofs.Steps.{answer, stepped, finishes, unmoved, state_eq, up_is, live_is, holds_is, holds_writing_is, shallow, writer_deep, writer_alone}

-- whether a record is reserved, by the code's test
pub is_reserved_lem : (tears : Bool) (g : Geometry) (x : Arrays) (map identity n : ℕ) → records g ≡ n → Reserves tears g x.store map identity
    → (byte r : ℕ) (b : Bool) → byte ≡ r → r < n → ((g : Geometry) → records g ≡ n → b ≡ named g map byte) → reserved (form_in tears g) (view (form_in tears g) x) r ≡ b
is_reserved_lem tears g x map identity n e H byte r b q h says =
    let small : r < records g = subst⁻¹ (λ (m : ℕ). r < m) e h in
    reserved_test tears g x map identity H r byte r b (refl, small) (q, subst⁻¹ (λ (m : ℕ). m < records g) q small) (says g e)

module _ (f : Form) where
  module _ (x : Arrays) (I : Intact f x) where
    -- Locks.
    module _ (q : Access) (t r : ℕ) (R : ReadyLeaf f x t) (open_to_lem : reserved f (view f x) r ≡ false) (a : Bool) (held : List ℕ) (G : Granting q (sets x.line t) x.held x.retained t r a held) where
      abbrev y : Arrays
      y = record { up = x.up; parent = x.parent; depth = x.depth; line = x.line; held = held; retained = x.retained; writers = x.writers; work = x.work; store = x.store }

      nested : (b : Bool) → Nested (cond b (joined_for q t r (sets x.held)) (sets x.held))
      nested true = joined_nested q t r (sets x.held) I.form.held_nested
      nested false = I.form.held_nested

      y_form : Formed f y
      y_form = let F = I.form in record {
        lines = F.lines;
        flag = F.flag;
        tidy = F.tidy;
        held_nested = subst⁻¹ (λ (o : Owners). Nested o) G.does (nested a);
        retained_nested = F.retained_nested;
        parents = F.parents;
        depths = F.depths;
        long = F.long;
        helds = G.long ∙ F.helds;
        retaineds = F.retaineds;
        writerss = F.writerss;
        works = F.works;
        stores = F.stores;
      }

      grants : a ≡ grantable q (view f x).held (view f x).retained (line_of (view f x).bearer t) t r
      unfolding view line_in
      grants =
          G.says ∙ ap (λ (f : ℕ → ℕ → Bool). open_to (sets x.held) (sets x.retained) (f t) t (barring q r)) I.form.lines
          ∙ grantable_is q (sets x.held) (sets x.retained) I.form.held_nested I.form.retained_nested (line_of (bearers_of x.parent x.depth) t) t r

      pub lock_steps : a ≡ true → Stepped f x (some (lock t r q)) (answer 0 0) y
      unfolding view locked
      lock_steps e =
          finishes f x y (some (lock t r q)) (locked (view f x) t r q) 0
          (lock_done f (view f x) t (up_is f x R.ready.up) (live_is f x t R.ready.live) R.childless r q open_to_lem (sym grants ∙ e))
          (state_eq f refl refl
          (ap modes_of (G.does ∙ ap (λ (b : Bool). cond b (joined_for q t r (sets x.held)) (sets x.held)) e) ∙ joined_granted q (sets x.held) t r)
          refl refl refl) y_form

      pub lock_refuses : a ≡ false → Stepped f x (some (lock t r q)) (answer 8 0) y
      unfolding view engine_answer number_of value_of
      lock_refuses e =
          stepped f x y (some (lock t r q)) (view f x) (refused 8) (answer 8 0)
          (lock_refused f (view f x) t (up_is f x R.ready.up) (live_is f x t R.ready.live) R.childless r q open_to_lem (sym grants ∙ e))
          (state_eq f refl refl (ap modes_of (G.does ∙ ap (λ (b : Bool). cond b (joined_for q t r (sets x.held)) (sets x.held)) e)) refl refl refl) refl y_form

    -- Reads.
    pub read_steps : (t r o v : ℕ) (base : Page) → base ≡ f.medium.home (f.medium.from_bytes x.store) r → ReadyLeaf f x t → any_mode (sets x.held) r t ≡ true → v ≡ get_or (seen x.parent x.depth x.writers x.work base t r) o 0
        → Stepped f x (some (read t r o)) (answer 0 v) x
    unfolding view seen visible
    read_steps t r o v base q R h e =
        finishes f x x (some (read t r o)) (view f x) v
        (read_done f (view f x) t (up_is f x R.ready.up) (live_is f x t R.ready.live) R.childless r o (holds_is f x I.form r t ∙ h) ∙ ap (finished (view f x)) (ap (λ (p : Page). get_or (seen x.parent x.depth x.writers x.work p t r) o 0) (sym q) ∙ sym e)) refl I.form

    pub read_refuses : (t r o : ℕ) → ReadyLeaf f x t → any_mode (sets x.held) r t ≡ false → Stepped f x (some (read t r o)) (answer 9 0) x
    read_refuses t r o R h =
        unmoved f x (some (read t r o)) 9 I.form (read_refused f (view f x) t (up_is f x R.ready.up) (live_is f x t R.ready.live) R.childless r o (holds_is f x I.form r t ∙ h))

    -- Writes.
    module _ (t r : ℕ) (p : Page) (R : ReadyLeaf f x t) (h : write_mode (sets x.held) r t ≡ true) (writers' work' : List ℕ)
        (W : Written (slot r (get_or x.depth t 0)) t r p x.writers x.work writers' work') where
      abbrev d : ℕ → ℕ
      d j = get_or x.depth j 0

      -- no other version is in the slot
      apart : (j q : ℕ) → (q ≡ r → j ≡ t → ⊥) → sets x.writers q j ≡ true → slot q (d j) ≡ slot r (d t) → ⊥
      unfolding slot
      apart j q n e k =
          let a = writer_deep f x I q j e in let b = shallow f x I j in let c = R.ready.live in let e' = shallow f x I t in
          let qr : q ≡ r = omega arith in
          n qr (writer_alone f x I r t j (I.form.held_nested r t h) (subst (λ (q : ℕ). sets x.writers q j ≡ true) qr e) (omega arith))

      versions_at : (j q : ℕ) → Same j t → Same q r → Is (sets x.writers q j)
          → cond (joined t r (sets x.writers) q j) (some (updated (slot r (d t)) p (pages_of x.work) (slot q (d j)))) none
          ≡ with_version t r p (versions_of x.depth x.writers x.work) j q
      unfolding joined versions_of with_version
      versions_at j q (is e s _) (is f u _) w =
          rw (s, u, or-true) (ap some (ap₂ (λ (q j : ℕ). updated (slot r (d t)) p (pages_of x.work) (slot q (d j))) f e ∙ updated_same (slot r (d t)) p (pages_of x.work)))
      versions_at j q (is e s _) (isnt f u _) (yes' w) = rw (s, u, w) (ap some (updated_other (slot r (d t)) p (pages_of x.work) (slot q (d j)) (apart j q (λ a b. f a) w)))
      versions_at j q (is e s _) (isnt f u _) (no' w) = rw (s, u, w)
      versions_at j q (isnt e s _) k (yes' w) = rw (s, w) (ap some (updated_other (slot r (d t)) p (pages_of x.work) (slot q (d j)) (apart j q (λ a b. e b) w)))
      versions_at j q (isnt e s _) k (no' w) = rw (s, w, and-false)

      versions_are : versions_of x.depth writers' work' ≡ with_version t r p (versions_of x.depth x.writers x.work)
      unfolding versions_of
      versions_are = fun_ext (λ j. fun_ext (λ q.
          ap₂ (λ (f : Owners) (g : ℕ → Page). cond (f q j) (some (g (slot q (d j)))) none) W.has W.page ∙ versions_at j q (same_cases j t) (same_cases q r) (is_cases (sets x.writers q j))))

    pub write_steps : (t r o v : ℕ) (base : Page) → base ≡ f.medium.home (f.medium.from_bytes x.store) r → ReadyLeaf f x t → write_mode (sets x.held) r t ≡ true → (writers' work' : List ℕ) → length work' ≡ 512 * records f.geometry
        → Written (slot r (get_or x.depth t 0)) t r (set (seen x.parent x.depth x.writers x.work base t r) o v) x.writers x.work writers' work'
        → Stepped f x (some (write t r o v)) (answer 0 0) (arrays x.up x.parent x.depth x.line x.held x.retained writers' work' x.store)
    unfolding view seen visible wrote
    write_steps t r o v base q R h writers' work' n W₀ =
        let W : Written (slot r (get_or x.depth t 0)) t r (set (seen x.parent x.depth x.writers x.work (f.medium.home (f.medium.from_bytes x.store) r) t r) o v) x.writers x.work writers' work' =
        subst (λ (p : Page). Written (slot r (get_or x.depth t 0)) t r (set (seen x.parent x.depth x.writers x.work p t r) o v) x.writers x.work writers' work') q W₀ in
        finishes f x _ (some (write t r o v)) (wrote (view f x) t r (set (visible f (view f x) t r) o v)) 0
        (write_done f (view f x) t (up_is f x R.ready.up) (live_is f x t R.ready.live) R.childless r o v (holds_writing_is f x r t ∙ h))
        (state_eq f refl refl refl refl (versions_are t r _ R h writers' work' W) refl)
        (let F = I.form in record { lines = F.lines; flag = F.flag; tidy = F.tidy; held_nested = F.held_nested; retained_nested = F.retained_nested; parents = F.parents; depths = F.depths; long = F.long; helds = F.helds; retaineds = F.retaineds; writerss = W.long ∙ F.writerss; works = n; stores = F.stores })

    pub write_refuses : (t r o v : ℕ) → ReadyLeaf f x t → write_mode (sets x.held) r t ≡ false → Stepped f x (some (write t r o v)) (answer 9 0) x
    write_refuses t r o v R h =
        unmoved f x (some (write t r o v)) 9 I.form (write_refused f (view f x) t (up_is f x R.ready.up) (live_is f x t R.ready.live) R.childless r o v (holds_writing_is f x r t ∙ h))
