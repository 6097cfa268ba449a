-- Phase by phase.
use Prim.Native.Nat.{ℕ, ◌+◌, ◌≤◌, ◌<◌, ◌^◌}
use mathlib.Core.Path.{sym, ap, subst, ◌∙◌}
use mathlib.Core.Option.{some}
use Rattle.rules.specs.Store.{Page}
use Rattle.rules.specs.Commit.{sets}
use lib.Pow.{pow_pos}
use native.Mathlib.Omega.{arith}
use Rattle.leaf_commit_page.specs.Layout.{Layout}
use Rattle.leaf_commit_page.proofs.Places.{known_small}
use Rattle.store_commit.proofs.Room.{room}
use Rattle.engine_page_write.proofs.Numbered.{known_layout, ones_are, there_is, within, in_1, in_2, in_3, in_4, in_5, in_none, small_1, small_4}
use Rattle.engine_page_write.proofs.numbered_page.Goals as goal

pub overflow_add-b : goal.overflow_add-b
overflow_add-b c =
    let m : c.ones-m.result ≤ c.args.records = c.ones-m.ensures.1 c.args.records c.requires.1 in
    let f = (known_small c.args.records c.requires.0).0 in
    let h1 : c.length_if-a.result ≤ c.ones-m.result = within c.length_if-a.result c.args.p.intentions c.ones-m.result c.length_if-a.ensures in
    let h2 : c.length_if.result ≤ 1 = within c.length_if.result c.args.p.committed (1) c.length_if.ensures in
    let g : c.length_if-a.result + c.length_if.result < 2 ^ 8 = omega arith in
    record { fits = g }

pub overflow_add-c : goal.overflow_add-c
overflow_add-c c =
    let ones = c.ones-m in
    let m : ones.result ≤ c.args.records = ones.ensures.1 c.args.records c.requires.1 in
    let f = (known_small c.args.records c.requires.0).0 in
    let h1 : c.length_if-a.result ≤ ones.result = within c.length_if-a.result c.args.p.intentions ones.result c.length_if-a.ensures in
    let h2 : c.length_if.result ≤ 1 = within c.length_if.result c.args.p.committed (1) c.length_if.ensures in
    let h3 : c.length_if-2.result ≤ 1 = within c.length_if-2.result c.args.p.prepared (1) c.length_if-2.ensures in
    let g : c.length_if-a.result + c.length_if.result + c.length_if-2.result < 2 ^ 8 = omega arith in
    record { fits = g }

pub overflow_add-d : goal.overflow_add-d
overflow_add-d c =
    let ones = c.ones-m in
    let length_if_lem = c.length_if-a in
    let m : ones.result ≤ c.args.records = ones.ensures.1 c.args.records c.requires.1 in
    let f = (known_small c.args.records c.requires.0).0 in
    let h1 : length_if_lem.result ≤ ones.result = within length_if_lem.result c.args.p.intentions ones.result length_if_lem.ensures in
    let h2 : c.length_if.result ≤ 1 = within c.length_if.result c.args.p.committed (1) c.length_if.ensures in
    let h3 : c.length_if-2.result ≤ 1 = within c.length_if-2.result c.args.p.prepared (1) c.length_if-2.ensures in
    let h4 : c.length_if-3.result ≤ ones.result = within c.length_if-3.result c.args.p.homes ones.result c.length_if-3.ensures in
    let g : length_if_lem.result + c.length_if.result + c.length_if-2.result + c.length_if-3.result < 2 ^ 8 = omega arith in
    record { fits = g }

pub overflow_add-e : goal.overflow_add-e
overflow_add-e c =
    let ones = c.ones-m in
    let length_if_lem = c.length_if-a in
    let length_if2 = c.length_if in
    let m : ones.result ≤ c.args.records = ones.ensures.1 c.args.records c.requires.1 in
    let f = (known_small c.args.records c.requires.0).0 in
    let h1 : length_if_lem.result ≤ ones.result = within length_if_lem.result c.args.p.intentions ones.result length_if_lem.ensures in
    let h2 : length_if2.result ≤ 1 = within length_if2.result c.args.p.committed (1) length_if2.ensures in
    let h3 : c.length_if-2.result ≤ 1 = within c.length_if-2.result c.args.p.prepared (1) c.length_if-2.ensures in
    let h4 : c.length_if-3.result ≤ ones.result = within c.length_if-3.result c.args.p.homes ones.result c.length_if-3.ensures in
    let h5 : c.length_if-4.result ≤ 1 = within c.length_if-4.result c.args.p.emptied (1) c.length_if-4.ensures in
    let g : length_if_lem.result + length_if2.result + c.length_if-2.result + c.length_if-3.result + c.length_if-4.result < 2 ^ 8 = omega arith in
    record { fits = g }

pub record_at-requires : goal.record_at-requires
record_at-requires c =
    (known_small c.args.records c.requires.0).0

pub returns-in_err-r : goal.returns-in_err-r
returns-in_err-r c =
    let ones = c.ones-m in
    let length_if_lem = c.length_if-a in
    let length_if2 = c.length_if in
    let length_if3 = c.length_if-2 in
    let length_if4 = c.length_if-3 in
    let length_if5 = c.length_if-4 in
    let k = known_layout c.args.records c.requires.0 in
    let h = small_1 c.args.tears k.0 c.args.records c.args.p c.args.work.now c.args.store.now c.args.i ones.result length_if_lem.result length_if2.result length_if3.result length_if4.result length_if5.result (ones_are k.0 c.args.records c.args.p.map ones.result k.1.many c.requires.1 ones.ensures.0) (record { intentions = length_if_lem.ensures; committed = length_if2.ensures; prepared = length_if3.ensures; homes = length_if4.ensures; emptied = length_if5.ensures }) (omega (arith, c.if-i-a.true)) _ (c.in_err-r.ensures k.0 k.1) in
    absurd (omega (arith, h))

pub overflow_add-result : goal.overflow_add-result
overflow_add-result c =
    let ones = c.ones-m in
    let length_if_lem = c.length_if-a in
    let length_if2 = c.length_if in
    let length_if3 = c.length_if-2 in
    let length_if4 = c.length_if-3 in
    let length_if5 = c.length_if-4 in
    let k = known_layout c.args.records c.requires.0 in
    let h = small_1 c.args.tears k.0 c.args.records c.args.p c.args.work.now c.args.store.now c.args.i ones.result length_if_lem.result length_if2.result length_if3.result length_if4.result length_if5.result (ones_are k.0 c.args.records c.args.p.map ones.result k.1.many c.requires.1 ones.ensures.0) (record { intentions = length_if_lem.ensures; committed = length_if2.ensures; prepared = length_if3.ensures; homes = length_if4.ensures; emptied = length_if5.ensures }) (omega (arith, c.if-i-a.true)) _ (c.in_ok-r.ensures k.0 k.1) in
    let f = (known_small c.args.records c.requires.0).0 in
    omega arith

pub page_for-page-requires : goal.page_for-page-requires
page_for-page-requires c =
    let ones = c.ones-m in
    let length_if_lem = c.length_if-a in
    let length_if2 = c.length_if in
    let length_if3 = c.length_if-2 in
    let length_if4 = c.length_if-3 in
    let length_if5 = c.length_if-4 in
    let k = known_layout c.args.records c.requires.0 in
    let h = small_1 c.args.tears k.0 c.args.records c.args.p c.args.work.now c.args.store.now c.args.i ones.result length_if_lem.result length_if2.result length_if3.result length_if4.result length_if5.result (ones_are k.0 c.args.records c.args.p.map ones.result k.1.many c.requires.1 ones.ensures.0) (record { intentions = length_if_lem.ensures; committed = length_if2.ensures; prepared = length_if3.ensures; homes = length_if4.ensures; emptied = length_if5.ensures }) (omega (arith, c.if-i-a.true)) _ (c.in_ok-r.ensures k.0 k.1) in
    let f = (known_small c.args.records c.requires.0).0 in
    let w = c.requires.3 in
    let s = c.requires.4 in
    (omega arith, omega arith, room c.args.records c.args.store.now c.args.tears (1 + c.in_ok-r.r) (omega arith) s)

pub returns-then-i-a : goal.returns-then-i-a
returns-then-i-a c =
    let ones = c.ones-m in
    let length_if_lem = c.length_if-a in
    let length_if2 = c.length_if in
    let length_if3 = c.length_if-2 in
    let length_if4 = c.length_if-3 in
    let length_if5 = c.length_if-4 in
    let if1 = c.if-i-a in
    let page_for_lem = c.page_for-page in
    λ g L. sym (in_1 c.args.tears g c.args.records c.args.p c.args.work.now c.args.store.now c.args.i ones.result length_if_lem.result length_if2.result length_if3.result length_if4.result length_if5.result (ones_are g c.args.records c.args.p.map ones.result L.many c.requires.1 ones.ensures.0) (record { intentions = length_if_lem.ensures; committed = length_if2.ensures; prepared = length_if3.ensures; homes = length_if4.ensures; emptied = length_if5.ensures }) (omega (arith, if1.true)) _ _ (c.in_ok-r.ensures g L) page_for_lem.ensures)

pub commit_page-page-requires : goal.commit_page-page-requires
commit_page-page-requires c =
    (c.requires.0, c.requires.1)

pub returns-then-i-b : goal.returns-then-i-b
returns-then-i-b c =
    let ones = c.ones-m in
    let length_if_lem = c.length_if-a in
    let length_if2 = c.length_if in
    let length_if3 = c.length_if-2 in
    let length_if4 = c.length_if-3 in
    let length_if5 = c.length_if-4 in
    let if1 = c.if-i-a in
    let if2 = c.if-i-b in
    let commit_page = c.commit_page-page in
    λ g L. ap (λ (q : Page). some (sets 0 q)) (commit_page.ensures g L) ∙ sym (in_2 c.args.tears g c.args.records c.args.p c.args.work.now c.args.store.now c.args.i ones.result length_if_lem.result length_if2.result length_if3.result length_if4.result length_if5.result (ones_are g c.args.records c.args.p.map ones.result L.many c.requires.1 ones.ensures.0) (record { intentions = length_if_lem.ensures; committed = length_if2.ensures; prepared = length_if3.ensures; homes = length_if4.ensures; emptied = length_if5.ensures }) (omega (arith, if1.false)) (omega (arith, if2.true)))

pub prepared_page-page-requires : goal.prepared_page-page-requires
prepared_page-page-requires c =
    let length_if3 = c.length_if-2 in
    subst (λ (k : ℕ). c.args.p.map < 2 ^ k) (c.requires.2 (there_is c.args.p.prepared _ 1 length_if3.ensures (omega (arith, c.if-i-b.false, c.if-i-c.true)))) c.requires.1

pub returns-then-i-c : goal.returns-then-i-c
returns-then-i-c c =
    let ones = c.ones-m in
    let length_if_lem = c.length_if-a in
    let length_if2 = c.length_if in
    let length_if3 = c.length_if-2 in
    let length_if4 = c.length_if-3 in
    let length_if5 = c.length_if-4 in
    let if2 = c.if-i-b in
    let if3 = c.if-i-c in
    let prepared_page_lem = c.prepared_page-page in
    λ g L. ap (λ (q : Page). some (sets 0 q)) (prepared_page_lem.ensures g (subst (Layout g) (c.requires.2 (there_is c.args.p.prepared _ 1 length_if3.ensures (omega (arith, if2.false, if3.true)))) L)) ∙ sym (in_3 c.args.tears g c.args.records c.args.p c.args.work.now c.args.store.now c.args.i ones.result length_if_lem.result length_if2.result length_if3.result length_if4.result length_if5.result (ones_are g c.args.records c.args.p.map ones.result L.many c.requires.1 ones.ensures.0) (record { intentions = length_if_lem.ensures; committed = length_if2.ensures; prepared = length_if3.ensures; homes = length_if4.ensures; emptied = length_if5.ensures }) (omega (arith, if2.false)) (omega (arith, if3.true)))

pub record_at-requires-then-i-d : goal.record_at-requires-then-i-d
record_at-requires-then-i-d c =
    (known_small c.args.records c.requires.0).0

pub returns-in_err-s : goal.returns-in_err-s
returns-in_err-s c =
    let ones = c.ones-m in
    let length_if_lem = c.length_if-a in
    let length_if2 = c.length_if in
    let length_if3 = c.length_if-2 in
    let length_if4 = c.length_if-3 in
    let length_if5 = c.length_if-4 in
    let if3 = c.if-i-c in
    let k = known_layout c.args.records c.requires.0 in
    let h = small_4 c.args.tears k.0 c.args.records c.args.p c.args.work.now c.args.store.now c.args.i ones.result length_if_lem.result length_if2.result length_if3.result length_if4.result length_if5.result (ones_are k.0 c.args.records c.args.p.map ones.result k.1.many c.requires.1 ones.ensures.0) (record { intentions = length_if_lem.ensures; committed = length_if2.ensures; prepared = length_if3.ensures; homes = length_if4.ensures; emptied = length_if5.ensures }) (omega (arith, if3.false)) (omega (arith, c.if-i-d.true)) _ (c.in_err-s.ensures k.0 k.1) in
    absurd (omega (arith, h))

pub overflow_add-result-then-i-d : goal.overflow_add-result-then-i-d
overflow_add-result-then-i-d c =
    let f = (known_small c.args.records c.requires.0).0 in
    omega arith

pub overflow_add-result-then-i-d-2 : goal.overflow_add-result-then-i-d-2
overflow_add-result-then-i-d-2 c =
    let ones = c.ones-m in
    let length_if_lem = c.length_if-a in
    let length_if2 = c.length_if in
    let length_if3 = c.length_if-2 in
    let length_if4 = c.length_if-3 in
    let length_if5 = c.length_if-4 in
    let if3 = c.if-i-c in
    let k = known_layout c.args.records c.requires.0 in
    let h = small_4 c.args.tears k.0 c.args.records c.args.p c.args.work.now c.args.store.now c.args.i ones.result length_if_lem.result length_if2.result length_if3.result length_if4.result length_if5.result (ones_are k.0 c.args.records c.args.p.map ones.result k.1.many c.requires.1 ones.ensures.0) (record { intentions = length_if_lem.ensures; committed = length_if2.ensures; prepared = length_if3.ensures; homes = length_if4.ensures; emptied = length_if5.ensures }) (omega (arith, if3.false)) (omega (arith, c.if-i-d.true)) _ (c.in_ok-s.ensures k.0 k.1) in
    let f = (known_small c.args.records c.requires.0).0 in
    omega arith

pub page_for-page-requires-then-i-d : goal.page_for-page-requires-then-i-d
page_for-page-requires-then-i-d c =
    let ones = c.ones-m in
    let length_if_lem = c.length_if-a in
    let length_if2 = c.length_if in
    let length_if3 = c.length_if-2 in
    let length_if4 = c.length_if-3 in
    let length_if5 = c.length_if-4 in
    let if3 = c.if-i-c in
    let k = known_layout c.args.records c.requires.0 in
    let h = small_4 c.args.tears k.0 c.args.records c.args.p c.args.work.now c.args.store.now c.args.i ones.result length_if_lem.result length_if2.result length_if3.result length_if4.result length_if5.result (ones_are k.0 c.args.records c.args.p.map ones.result k.1.many c.requires.1 ones.ensures.0) (record { intentions = length_if_lem.ensures; committed = length_if2.ensures; prepared = length_if3.ensures; homes = length_if4.ensures; emptied = length_if5.ensures }) (omega (arith, if3.false)) (omega (arith, c.if-i-d.true)) _ (c.in_ok-s.ensures k.0 k.1) in
    let f = (known_small c.args.records c.requires.0).0 in
    let w = c.requires.3 in
    let s = c.requires.4 in
    (omega arith, omega arith, room c.args.records c.args.store.now c.args.tears (1 + c.in_ok-s.s) (omega arith) s)

pub returns-then-i-d : goal.returns-then-i-d
returns-then-i-d c =
    let ones = c.ones-m in
    let length_if_lem = c.length_if-a in
    let length_if2 = c.length_if in
    let length_if3 = c.length_if-2 in
    let length_if4 = c.length_if-3 in
    let length_if5 = c.length_if-4 in
    let if3 = c.if-i-c in
    let if4 = c.if-i-d in
    let page_for2 = c.page_for-page-then-i-d in
    λ g L. sym (in_4 c.args.tears g c.args.records c.args.p c.args.work.now c.args.store.now c.args.i ones.result length_if_lem.result length_if2.result length_if3.result length_if4.result length_if5.result (ones_are g c.args.records c.args.p.map ones.result L.many c.requires.1 ones.ensures.0) (record { intentions = length_if_lem.ensures; committed = length_if2.ensures; prepared = length_if3.ensures; homes = length_if4.ensures; emptied = length_if5.ensures }) (omega (arith, if3.false)) (omega (arith, if4.true)) _ _ (c.in_ok-s.ensures g L) page_for2.ensures)

pub commit_page-page-requires-then-i-e : goal.commit_page-page-requires-then-i-e
commit_page-page-requires-then-i-e c =
    (c.requires.0, pow_pos c.args.records)

pub returns-then-i-e : goal.returns-then-i-e
returns-then-i-e c =
    let ones = c.ones-m in
    let length_if_lem = c.length_if-a in
    let length_if2 = c.length_if in
    let length_if3 = c.length_if-2 in
    let length_if4 = c.length_if-3 in
    let length_if5 = c.length_if-4 in
    let if4 = c.if-i-d in
    let if5 = c.if-i-e in
    let commit_page2 = c.commit_page-page-then-i-e in
    λ g L. ap (λ (q : Page). some (sets 0 q)) (commit_page2.ensures g L) ∙ sym (in_5 c.args.tears g c.args.records c.args.p c.args.work.now c.args.store.now c.args.i ones.result length_if_lem.result length_if2.result length_if3.result length_if4.result length_if5.result (ones_are g c.args.records c.args.p.map ones.result L.many c.requires.1 ones.ensures.0) (record { intentions = length_if_lem.ensures; committed = length_if2.ensures; prepared = length_if3.ensures; homes = length_if4.ensures; emptied = length_if5.ensures }) (omega (arith, if4.false)) (omega (arith, if5.true)))

pub returns : goal.returns
returns c =
    let ones = c.ones-m in
    let length_if_lem = c.length_if-a in
    let length_if2 = c.length_if in
    let length_if3 = c.length_if-2 in
    let length_if4 = c.length_if-3 in
    let length_if5 = c.length_if-4 in
    λ g L. sym (in_none c.args.tears g c.args.records c.args.p c.args.work.now c.args.store.now c.args.i ones.result length_if_lem.result length_if2.result length_if3.result length_if4.result length_if5.result (ones_are g c.args.records c.args.p.map ones.result L.many c.requires.1 ones.ensures.0) (record { intentions = length_if_lem.ensures; committed = length_if2.ensures; prepared = length_if3.ensures; homes = length_if4.ensures; emptied = length_if5.ensures }) (omega (arith, c.if-i-e.false)))
