-- A refusal; else the first event that the walk stops at; else the first page that differs; else all is right.
use borrow.Author.Rules.{rules}
use mathlib.Core.Path.{refl, sym}
use native.Mathlib.Omega.{arith}
use Rattle.laws.specs.Tests.{same}
use Rattle.audit_bearer.specs.Tables.{place_among}
use Rattle.audit_verdict.specs.Codes.{audit_refusal, refusal_of, refused_by, verdict_in}
use Rattle.audit_verdict.proofs.Ending.{verdict_refused, verdict_event, verdict_page, verdict_belongs, error_is}
use Rattle.audit_verdict.proofs.judged.Goals as goal

pub returns-in_err-checked : goal.returns-in_err-checked
unfolding verdict_in refused_by
returns-in_err-checked c =
    let a = c.args in
    let r = c.in_err-checked.field-0.0 in
    rw (error_is c.from_residual.result r c.from_residual.ensures.1) (sym (verdict_refused a.start.now a.events.now a.answers.now a.end.now (audit_refusal r) c.in_err-checked.ensures.0))

pub returns-in-Some : goal.returns-in-Some
unfolding verdict_in refused_by refusal_of same place_among
returns-in-Some c =
    let a = c.args in
    sym (verdict_event a.start.now a.events.now a.answers.now a.end.now c.copied-store.result _ 0 c.in-Some.k refl c.in_ok-checked.ensures.0 c.copied-store.ensures c.in-Some.ensures.2 c.in-Some.ensures.0)

pub returns-in-Some-first_page : goal.returns-in-Some-first_page
unfolding verdict_in refused_by refusal_of same place_among
returns-in-Some-first_page c =
    let a = c.args in
    let p = c.in-Some-first_page.ensures in
    sym (verdict_page a.start.now a.events.now a.answers.now a.end.now c.copied-store.result _ 0 _ refl c.in_ok-checked.ensures.0 c.copied-store.ensures c.in_default.ensures.2 (omega arith) (search rules) c.in-Some-first_page.p p.0 p.1)

pub returns : goal.returns
unfolding verdict_in refused_by refusal_of same place_among
returns c =
    let a = c.args in
    let p = c.in_default-first_page.ensures in
    sym (verdict_belongs a.start.now a.events.now a.answers.now a.end.now c.copied-store.result _ 0 _ refl c.in_ok-checked.ensures.0 c.copied-store.ensures c.in_default.ensures.2 (omega arith) (search rules) 33 p.0 (omega arith))
