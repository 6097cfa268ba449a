-- The loop's invariant: the first k events have been played, their answers stand, what is derived from the arrays is theirs, and what is prepared is what the
-- store says.
use mathlib.Core.Path.{refl, sym, ap, ◌∙◌}
use Prim.Native.Nat.{◌+◌, ◌*◌, ◌<◌}
use native.Mathlib.Omega.{arith}
use lib.ListN.{length, set}
use Rattle.leaf_event.specs.declared.Answer.{Answer}
use borrow.Author.Rules.{rules}
use Rattle.rules.specs.Editions.{geometry_of, form_in}
use Rattle.rules.proofs.Editions.{medium_laws}
use Rattle.state_whole.proofs.Parents.{parent_named}
use Rattle.state_whole.proofs.Playing.{playing_none, playing_next, playing_all}
use Rattle.event_crash.proofs.Editions.{layout_of, known_of, joint_of, size_is}
use Rattle.engine_list.proofs.Words.{counted}
use Rattle.engine_list.proofs.play.Goals as goal

pub read_held-p-requires : goal.read_held-p-requires
read_held-p-requires g c =
    let N = c.requires.numbers.0 in
    (known_of _ _ _ _ N, joint_of _ _ _ _ N, c.requires.intact.form.stores ∙ size_is _ (geometry_of _) _ N.many)

pub children_of-requires : goal.children_of-requires
children_of-requires g c =
    let I = c.requires.intact in
    (I.form.parents, I.form.depths, parent_named (form_in _ (geometry_of _)) _ I)

pub loop-k-init : goal.loop-k-init
loop-k-init g c =
    let I = c.requires.intact in
    let N = c.requires.numbers.0 in
    let w = c.requires.words in
    let n = counted (length c.args.events.now) w.1 w.2 in
    let h = c.children_of.ensures in
    (search rules, refl, n.0, n.1, search rules, playing_none (form_in _ (geometry_of _)) c.args.word _ _ _ _ I, record { lives = c.live_set.ensures; under = h.1; named = parent_named (form_in _ (geometry_of _)) _ I; long = h.0 }, sym (c.read_held-p.ensures.0 _ (layout_of _ _ _ _ N) N.two_phase))

pub step-a-requires : goal.step-a-requires
step-a-requires g c =
    let l = c.loop-k in
    let N = c.requires.numbers.0 in
    let W = (c.event_at-e.ensures _ c.requires.words.0 N.torn).1 in
    (search rules, (c.requires.numbers, ((W, λ h. sym N.two_phase ∙ W.joint h), (l.invariant.5.intact, (l.invariant.6, l.invariant.7)))))

pub loop-k-preserved : goal.loop-k-preserved
loop-k-preserved g c =
    let w = c.requires.words in
    let l = c.loop-k in
    let q : l.k < _ = c.loop-k-test.true in
    let b = l.invariant.0 in
    let N = c.requires.numbers.0 in
    (omega arith, l.invariant.1, l.invariant.2, l.invariant.3, l.invariant.4, playing_next (form_in _ (geometry_of _)) c.args.word w.0 _ _ _ c.args.events.now c.args.answers.now l.answers _ _ l.k _ _ _ l.invariant.5 q l.invariant.4 refl (c.event_at-e.ensures _ w.0 N.torn).0 c.step-a.ensures.fact (c.put.ensures ∙ ap (λ (a : Answer). set (set l.answers (2 * l.k) a.number) (2 * l.k + 1) a.value) c.of.ensures), c.step-a.ensures.derived_sets, c.step-a.ensures.reserves)

pub returns : goal.returns
returns g c =
    let l = c.loop-k in
    let N = c.requires.numbers.0 in
    playing_all (form_in _ (geometry_of _)) c.args.word c.requires.words.0 (medium_laws _ (geometry_of _) (layout_of _ _ _ _ N).proper N.torn).to_from _ _ _ _ _ l.k _ (search rules) l.invariant.1 l.invariant.5
