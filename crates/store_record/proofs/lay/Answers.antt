-- A sweep over the pages: those below p are laid.
use mathlib.Core.Path.{◌≡◌, sym, ap, subst, ◌∙◌}
use mathlib.Core.List.{[], ◌∷◌}
use Prim.Native.Nat.{ℕ, ◌+◌}
use native.Mathlib.Omega.{arith}
use Rattle.rules.specs.Store.{Page}
use Rattle.rules.specs.Commit.{sets}
use Rattle.store_write.specs.Phase.{store_of, left_by}
use Rattle.leaf_commit_page.proofs.Places.{known_small}
use Rattle.store_length.proofs.Sizes.{store_size}
use Rattle.store_record.specs.Laying.{LaidTo}
use Rattle.store_record.proofs.Laying.{laid_none, laid_more, room}
use borrow.Author.Rules.{rules}
use Rattle.store_record.proofs.lay.Goals as goal

pub overflow_add-pages : goal.overflow_add-pages
overflow_add-pages c = let h = (known_small _ c.requires.0).0 in search rules

pub overflow_add-pages-2 : goal.overflow_add-pages-2
overflow_add-pages-2 c = let h = (known_small _ c.requires.0).0 in search rules

pub loop-p-init : goal.loop-p-init
loop-p-init c =
    (omega arith, (known_small _ c.requires.0).0, search rules, λ g L. laid_none c.args.tears g (c.requires.1 ∙ sym (store_size _ g L.many c.args.tears)))

pub write_counted-requires : goal.write_counted-requires
write_counted-requires c =
    let at = c.loop-p in
    let a = c.args in
    let few = at.invariant.1 in
    (omega arith, room a.tears at.p a.n (omega arith) at.invariant.2)

pub loop-p-preserved : goal.loop-p-preserved
loop-p-preserved c =
    let fresh_page_lem = c.fresh_page in
    let at = c.loop-p in
    let known = c.requires.0 in (
      omega arith,
      at.invariant.1,
      search rules,
      λ g L. laid_more c.args.tears g (at.invariant.3 g L) (search rules)
          (c.write_counted.ensures.0.store ∙ ap (λ (page : Page). left_by c.args.tears 255 (sets at.p page ∷ []) (store_of c.args.tears at.store)) (fresh_page_lem.ensures g L)),
    )

pub returns : goal.returns
returns c =
    let l = c.loop-p in
    let n = c.args.n in
    λ g L. let e : l.p ≡ 1 + (n + n) = omega arith in subst (λ (p : ℕ). LaidTo c.args.tears g p l.store) e (l.invariant.3 g L)
