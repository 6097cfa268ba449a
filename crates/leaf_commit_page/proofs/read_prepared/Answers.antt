-- Where transactions can be prepared, the page is that of the map and the identity that stand in it, and the map isn't 0, or it is no prepared
-- transaction's.
use mathlib.Core.Path.{◌≡◌, refl, sym, ap, subst, ◌∙◌}
use mathlib.Core.Bool.{Bool, true, false, cond, true≢false}
use mathlib.Core.Logic.{◌≢◌}
use mathlib.Core.Option.{none, some}
use Prim.Native.Nat.{ℕ, ◌/◌, ◌^◌, ◌<◌}
use lib.ListN.{take, drop, get_or}
use lib.Pow.{pow_pos}
use Rattle.std.specs.Prelude.{Some, None, IfSome}
use Rattle.std.specs.declared.option.Option.{Option as Answered}
use Rattle.laws.specs.Tests.{same}
use Rattle.laws.specs.Bytes.{number, same_list}
use Rattle.laws.proofs.Tests.{Same, is, isnt, same_cases}
use Rattle.rules.specs.Store.{prepared_page}
use Rattle.leaf_commit_page.specs.Heard.{overheard, prepared_told, prepared}
use Rattle.leaf_commit_page.specs.Layout.{Layout}
use Rattle.leaf_commit_page.specs.declared.PreparedMap.{PreparedMap}
use Rattle.leaf_commit_page.proofs.Places.{prepared_read, prepared_bad, unprepared, same_pages}
use Rattle.leaf_commit_page.proofs.read_prepared.Goals as goal

answer : ℕ → ℕ → Bool → Answered PreparedMap
answer m i b = cond b None (Some (record { map = m; identity = i }))

told : (m i : ℕ) (b : Bool) → overheard (cond b none (some (prepared m i))) ≡ prepared_told (answer m i b)
unfolding overheard prepared_told answer
told m i true = refl
told m i false = refl

few : (m i k : ℕ) (b : Bool) → m < 2 ^ k → (prepared_told (answer m i b)).map < 2 ^ k
unfolding prepared_told answer
few m i k true h = pow_pos k
few m i k false h = h

names_some : (m i : ℕ) → IfSome (answer m i (same m 0)) (λ (p : PreparedMap). p.map ≢ 0)
unfolding answer
names_some m i = go (same_cases m 0)
  where
    go : Same m 0 → IfSome (answer m i (same m 0)) (λ (p : PreparedMap). p.map ≢ 0)
    go (is e s _) = rw s tt
    go (isnt e s _) = rw s e

pub returns-then-not-joint : goal.returns-then-not-joint
unfolding overheard prepared_told
returns-then-not-joint c =
    (λ g L j. sym (ap overheard (unprepared g c.args.page (j ∙ c.if-not-joint.true))), pow_pos c.args.n, tt)

pub returns-then-eq : goal.returns-then-eq
unfolding answer
returns-then-eq c =
    let a = c.args in
    let on = c.if-not-joint.false in
    let sixteen = c.requires.1 on in
    let m : ℕ = c.map_in-map.result in
    let i : ℕ = get_or a.page 4 0 in
    let at : m ≡ number (take 2 (drop 1 a.page)) = c.map_in-map.ensures.0 ∙ ap (λ (k : ℕ). number (take (k / 8) (drop 1 a.page))) sixteen in
    let small : m < 2 ^ 16 = subst (λ (k : ℕ). m < 256 ^ (k / 8)) sixteen c.map_in-map.ensures.1 in
    let kept : c.kept.result ≡ answer m i (same m 0) = c.kept.ensures in (
      λ g L j.
          let L16 : Layout g 16 = subst (Layout g) sixteen L in
          let e : same_list a.page (prepared_page g (prepared m i)) ≡ true =
          sym (c.eq.ensures ∙ same_pages _ _ ∙ ap (same_list a.page) (c.prepared_page.ensures g L16)) ∙ c.if-eq.true in
          ap prepared_told kept ∙ sym (ap overheard (prepared_read g L16 a.page m i (j ∙ on) at refl small e) ∙ told m i (same m 0)),
      rw (kept, sixteen) (few m i 16 (same m 0) small),
      rw kept (names_some m i),
    )

pub returns-else-eq : goal.returns-else-eq
unfolding overheard prepared_told
returns-else-eq c =
    let a = c.args in
    let on = c.if-not-joint.false in
    let sixteen = c.requires.1 on in
    let m : ℕ = c.map_in-map.result in
    let i : ℕ = get_or a.page 4 0 in
    let at : m ≡ number (take 2 (drop 1 a.page)) = c.map_in-map.ensures.0 ∙ ap (λ (k : ℕ). number (take (k / 8) (drop 1 a.page))) sixteen in (
      λ g L j.
          let L16 : Layout g 16 = subst (Layout g) sixteen L in
          let e : same_list a.page (prepared_page g (prepared m i)) ≡ false = sym (c.eq.ensures ∙ same_pages _ _ ∙ ap (same_list a.page) (c.prepared_page.ensures g L16)) ∙ c.if-eq.false in
          sym (ap overheard (prepared_bad g L16 a.page m i at refl (λ q. absurd (true≢false (sym q ∙ e))))),
      pow_pos a.n,
      tt,
    )
