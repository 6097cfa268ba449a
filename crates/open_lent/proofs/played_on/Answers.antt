-- The lengths decide, then the gate; where both pass, the engine's portion is the rules'.
use mathlib.Core.Path.{refl}
use Rattle.rules.specs.Editions.{edition_of}
use Rattle.engine_portion.specs.Portion.{lent_as}
use Rattle.open_lent.specs.Portions.{kept}
use Rattle.store_length.proofs.Lengths.{lengths_of, told_ok, told_err}
use Rattle.open_lent.proofs.Portions.{length_refused, state_refused, state_played}
use Rattle.state_whole.proofs.Parameters.{flag}
use Rattle.open_lent.proofs.played_on.Goals as goal

pub returns-in-Err : goal.returns-in-Err
returns-in-Err o c =
    let a = c.args in
    let edition = edition_of 16 (flag o.row.JOINT) (flag o.row.TEARS) in
    let N = c.requires in
    let told = told_err c.refusal-m.result c.in-Err.wrong c.in-Err.is c.refusal-m.ensures c.from.ensures in
    length_refused (flag o.row.TEARS) edition N.many (kept (lent_as a.s.now a.spare) a.work.now a.store.now) a.events.now a.answers.now c.from.result told.0 told.1

pub is_state-requires : goal.is_state-requires
is_state-requires o c =
    let fits = told_ok c.refusal-m.result c.in_default.field-0 c.in_default.is c.refusal-m.ensures in
    let l = lengths_of (flag o.row.TEARS) 16 4 _ _ _ _ fits in
    l.store

pub portion-requires : goal.portion-requires
portion-requires o c =
    let a = c.args in
    let edition = edition_of 16 (flag o.row.JOINT) (flag o.row.TEARS) in
    let N = c.requires in
    let fits = told_ok c.refusal-m.result c.in_default.field-0 c.in_default.is c.refusal-m.ensures in
    let l = lengths_of (flag o.row.TEARS) 16 4 _ _ _ _ fits in
    (((c.is_state.ensures edition a.work.now N l.work).yes c.if-is_state.true).0, N, l.short, l.room)

pub returns-then-is_state : goal.returns-then-is_state
returns-then-is_state o c =
    let a = c.args in
    let edition = edition_of 16 (flag o.row.JOINT) (flag o.row.TEARS) in
    let N = c.requires in
    let fits = told_ok c.refusal-m.result c.in_default.field-0 c.in_default.is c.refusal-m.ensures in
    let l = lengths_of (flag o.row.TEARS) 16 4 _ _ _ _ fits in
    state_played (flag o.row.TEARS) edition N.many (kept (lent_as a.s.now a.spare) a.work.now a.store.now) a.events.now a.answers.now fits _ (c.is_state.ensures edition a.work.now N l.work) c.if-is_state.true (kept (lent_as c.portion.new.s a.spare) _ _) _ c.portion.ensures refl

pub returns : goal.returns
returns o c =
    let a = c.args in
    let edition = edition_of 16 (flag o.row.JOINT) (flag o.row.TEARS) in
    let N = c.requires in
    let fits = told_ok c.refusal-m.result c.in_default.field-0 c.in_default.is c.refusal-m.ensures in
    let l = lengths_of (flag o.row.TEARS) 16 4 _ _ _ _ fits in
    state_refused (flag o.row.TEARS) edition N.many (kept (lent_as a.s.now a.spare) a.work.now a.store.now) a.events.now a.answers.now fits _ (c.is_state.ensures edition a.work.now N l.work) c.if-is_state.false
