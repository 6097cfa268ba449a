-- The three refusals in their order, then the lowest free number is borne.
use Rattle.audit_event.proofs.Begins.{begin_5, begin_6, begin_7, begin_0, free_of}
use mathlib.Core.Path.{◌≡◌, sym, ◌∙◌}
use Prim.Native.Nat.{ℕ, suc, ◌+◌}
use native.Mathlib.Omega.{arith}
use Rattle.laws.specs.Tests.{same}
use Rattle.audit_link.proofs.Ways.{or_none, one_small}
use Rattle.audit_bearer.specs.Tables.{place_among, tables}
use Rattle.audit_event.specs.Step.{open_answers}
use Rattle.audit_event.proofs.begin_event.Goals as goal

pub bearer_of-requires : goal.bearer_of-requires
bearer_of-requires c = (c.requires.0.long, c.requires.0.bearers)

pub returns-then-p-above : goal.returns-then-p-above
unfolding same tables open_answers
returns-then-p-above c =
    λ start events store n B.
    let s = c.args.tables.now in
    let up = c.requires.3 in
    let borne = c.unwrap_or-above.ensures ∙ or_none _ ∙ c.bearer_of.ensures.0 in
    rw up (begin_5 start s.owner s.links.parent s.links.fate s.bearer events store s.begun n c.args.p c.unwrap_or-above.result borne c.if-p-above.true (rw up at B))

pub depth_of-requires : goal.depth_of-requires
depth_of-requires c = (rw (c.unwrap_or-above.ensures ∙ or_none c.bearer_of.result) (one_small _ c.bearer_of.ensures.1), c.requires.0.earlier)

pub returns-then-depth_of-eq16 : goal.returns-then-depth_of-eq16
unfolding same tables open_answers
returns-then-depth_of-eq16 c =
    λ start events store n B.
    let s = c.args.tables.now in
    let up = c.requires.3 in
    let borne = c.unwrap_or-above.ensures ∙ or_none _ ∙ c.bearer_of.ensures.0 in
    rw up (begin_6 start s.owner s.links.parent s.links.fate s.bearer events store s.begun n c.args.p c.unwrap_or-above.result borne c.if-p-above.false (sym c.depth_of.ensures ∙ c.if-depth_of-eq16.true) (rw up at B))

pub returns-in-None : goal.returns-in-None
unfolding same tables open_answers place_among
returns-in-None c =
    λ start events store n B.
    let s = c.args.tables.now in
    let up = c.requires.3 in
    let borne = c.unwrap_or-above.ensures ∙ or_none _ ∙ c.bearer_of.ensures.0 in
    rw up (begin_7 start s.owner s.links.parent s.links.fate s.bearer events store s.begun n c.args.p c.unwrap_or-above.result borne c.if-p-above.false (λ q. c.if-depth_of-eq16.false (c.depth_of.ensures ∙ q)) (sym c.in-None.ensures.0) (rw up at B))

pub returns : goal.returns
unfolding same tables open_answers place_among
returns c =
    λ start events store n B.
    let s = c.args.tables.now in
    let up = c.requires.3 in
    let t = c.in-Some.t in
    let free = c.in-Some.ensures in
    let above = c.unwrap_or-above.result in
    let borne = c.unwrap_or-above.ensures ∙ or_none _ ∙ c.bearer_of.ensures.0 in
    let i : ℕ = s.begun + 1 in
    let q : i ≡ suc s.begun = omega arith in
    rw up (begin_0 start s.owner s.links.parent s.links.fate s.bearer events store s.begun n c.args.p above borne t i (free_of start s.owner s.links.parent s.links.fate s.bearer events store s.begun n c.args.p t free.0 (λ z. omega (arith, z, free.1))) q c.requires.2 (rw up at B) c.if-p-above.false (λ z. c.if-depth_of-eq16.false (c.depth_of.ensures ∙ z)) free.0)
